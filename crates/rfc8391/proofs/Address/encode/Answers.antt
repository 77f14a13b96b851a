-- An address is its eight words in bytes.
use Rattle.lists.specs.Lists.{tab, flat}
use Rattle.lists.specs.Bytes.{to_byte}
use Rattle.rfc8391.specs.Address.{address_bytes}
use Rattle.rfc8391.proofs.Address.encode.Goals as goal

pub returns : goal.returns
unfolding address_bytes flat tab to_byte
returns c = c.eight_words.ensures
