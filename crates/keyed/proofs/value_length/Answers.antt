-- By the hash.
use Rattle.std.proofs.Common.{arith}
use Rattle.rfc8391.specs.Formats.{value_length}
use Rattle.keyed.proofs.Suites.{only_sha2}
use Rattle.keyed.proofs.value_length.Goals as goal

pub returns : goal.returns
unfolding value_length
returns c = (rw (only_sha2 c.args.hash), omega arith)
