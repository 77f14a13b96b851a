-- The loop stores word t behind the words before it.
use Rattle.std.proofs.Common.{◌≡◌, ◌-◌, length, take}
use Rattle.sha256.specs.Sha256.{schedule}
use Rattle.sha256.proofs.message_schedule.Given as goal

abbrev pub invariant-loop-t : goal.invariant-loop-t
invariant-loop-t l = (length l.w ≡ 64) × (take l.t l.w ≡ schedule (l.t - 16) l.fn.b)
