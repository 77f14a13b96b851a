-- After as many turns of the loop, four rounds each.
use Rattle.std.proofs.Common.{◌≡◌, ◌*◌, length}
use Rattle.sha256.specs.Sha256.{rounds}
use Rattle.sha256.proofs.all_rounds.Given as goal

abbrev pub invariant-loop-k : goal.invariant-loop-k
invariant-loop-k l = l.v ≡ rounds (4 * length l.yielded) l.initial.v l.fn.w
