-- 2 ^ 40 turns of 4,096 bytes can't end more lines than a u64 counts.
use Rattle.std.proofs.Common.{◌≡◌, ◌*◌, ◌^◌, ◌≤◌, length}
use Rattle.check_frames.proofs.main.Given as goal

abbrev pub invariant-loop : goal.invariant-loop
invariant-loop l = (length l.checker.frame ≡ 16384) × (l.checker.session.number ≤ 4096 * l.counter) × (l.counter ≤ 2 ^ 40)
