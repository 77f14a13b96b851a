-- 128, halved once a mark, by a test of all eight marks.
use Rattle.marks.proofs.Bytes.{bit_is}
use Rattle.marks.proofs.bit_of.Goals as goal

pub returns : goal.returns
returns c = bit_is c.args.mark c.requires
