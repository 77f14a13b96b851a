-- After each round, what is left leads on.
use Rattle.std.proofs.Common.{◌≡◌, ◌+◌, ◌≤◌, length, take}
use Rattle.rfc8391.specs.Wots.{len}
use Rattle.keyed.specs.Seeds.{suite_of, held_all, seed_of}
use Rattle.rfc8391.specs.Xmss.{ltree_round}
use Rattle.lists.specs.Lists.{turns}
use Rattle.lists.specs.Fronts.{fronts}
use Rattle.tree.proofs.ltree_root.Given as goal

abbrev pub invariant-loop-w : goal.invariant-loop-w
invariant-loop-w l =
    (take l.w (fronts (suite_of l.s).n l.v) ≡ turns l.height (λ h v. ltree_round (suite_of l.s) (seed_of l.s) l.a h v) (held_all l.s l.initial.v)) × (1 ≤ l.w) ×
    (l.height + l.w ≤ len (suite_of l.s)) × (length l.v ≡ 67)

abbrev pub decreases-loop-w : goal.decreases-loop-w
decreases-loop-w l = l.w
