-- The loop joins pairs in place; a last odd value moves up.
use Rattle.std.proofs.Common.{take}
use Rattle.keyed.specs.Seeds.{suite_of, seed_of}
use Rattle.rfc8391.specs.Xmss.{ltree_node}
use Rattle.lists.specs.Fronts.{fronts}
use Rattle.lists.specs.Loops.{Replacing}
use Rattle.tree.proofs.ltree_round.Given as goal

abbrev pub invariant-loop-i : goal.invariant-loop-i
invariant-loop-i l =
    let n = (suite_of l.s).n in
    Replacing (ltree_node (suite_of l.s) (seed_of l.s) l.a l.height (take l.w (fronts n l.initial.v))) (fronts n l.initial.v) (fronts n l.v) l.i
