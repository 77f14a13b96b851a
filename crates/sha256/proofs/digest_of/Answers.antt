-- The digest is its eight words in bytes.
use Rattle.lists.specs.Lists.{tab, flat}
use Rattle.lists.specs.Bytes.{to_byte}
use Rattle.sha256.specs.Sha256.{digest}
use Rattle.sha256.proofs.digest_of.Goals as goal

pub returns : goal.returns
unfolding digest flat tab to_byte
returns c = c.eight_words.ensures
