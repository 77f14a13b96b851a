-- The loop writes the path's nodes in their order.
use Rattle.std.proofs.Common.{◌/◌, ◌^◌}
use Rattle.tree.specs.Keys.{leaves}
use Rattle.keyed.specs.Seeds.{suite_of, seed_of}
use Rattle.rfc8391.specs.Xmss.{sibling, node}
use Rattle.lists.specs.Loops.{Written}
use Rattle.tree.proofs.Tree.write_path.Given as goal

abbrev pub invariant-loop-k : goal.invariant-loop-k
invariant-loop-k l =
    Written 0 l.n (λ j. node (suite_of l.self.seed) (seed_of l.self.seed) l.self.at (leaves l.self) j (sibling (l.index / 2 ^ j))) l.initial.out l.out l.k
