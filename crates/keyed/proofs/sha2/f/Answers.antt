-- Function 0.
use Rattle.std.proofs.Common.{rules}
use Rattle.keyed.proofs.Blocks.{keyed_by_one}
use Rattle.keyed.proofs.sha2.f.Goals as goal

pub returns : goal.returns
returns c = keyed_by_one 0 _ _ _ _ (search rules) c.keyed_by.ensures c.finish_half.ensures
