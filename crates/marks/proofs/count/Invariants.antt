-- Exactly the first n marks of the bytes read are used.
use Rattle.std.proofs.Common.{◌≡◌, ◌*◌, ◌≤◌, length}
use Rattle.marks.proofs.Ordered.{FirstUsed}
use Rattle.marks.proofs.count.Given as goal

abbrev pub invariant-loop-i : goal.invariant-loop-i
invariant-loop-i l = (length l.page ≡ 128) × (l.n ≤ 8 * l.i) × FirstUsed l.page l.n (8 * l.i)
