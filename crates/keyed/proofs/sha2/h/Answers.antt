-- Function 1, of two halves.
use Rattle.std.proofs.Common.{rules}
use Rattle.keyed.proofs.Blocks.{keyed_by_data}
use Rattle.keyed.proofs.sha2.h.Goals as goal

pub returns : goal.returns
returns c =
    let a = c.args in
    keyed_by_data 1 a.key a.left a.right _ _ _ (search rules) (search rules) (search rules)
    c.keyed_by.ensures c.after-mid.ensures c.finish.ensures
