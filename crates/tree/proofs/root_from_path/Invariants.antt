-- After k turns of the loop, k nodes of the path are used.
use Rattle.std.proofs.Common.{◌≡◌, ◌*◌, ◌/◌, ◌^◌, drop}
use Rattle.keyed.specs.Seeds.{suite_of, held, seed_of}
use Rattle.rfc8391.specs.Xmss.{root_from_path}
use Rattle.lists.specs.Lists.{parts}
use Rattle.tree.proofs.root_from_path.Given as goal

abbrev pub invariant-loop-k : goal.invariant-loop-k
invariant-loop-k l =
    let S = suite_of l.s in
    (held l.s l.v ≡ root_from_path S (seed_of l.s) l.a l.k l.index (held l.s l.initial.v) (parts S.n l.height 0 l.path))
    × (l.position ≡ l.index / 2 ^ l.k)
    × (l.rest ≡ drop (l.n * l.k) l.path)
