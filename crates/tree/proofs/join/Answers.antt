-- Key and masks, two exclusive ors and H, one after the other.
use Rattle.tree.proofs.Joins.{join_by}
use Rattle.keyed.proofs.Suites.{seed_fits}
use Rattle.keyed.specs.Seeds.{suite_of, seed_of}
use Rattle.tree.proofs.join.Goals as goal

pub returns : goal.returns
returns c =
    let a = c.args in
    let s = a.s in
    join_by (suite_of s) (seed_of s) a.a a.left a.right _ _ _ _ _ _ (seed_fits s) (cc) (cc) (cc) c.xored.ensures c.xored-2.ensures c.h.ensures
