-- The loop fills the digits in their order.
use Rattle.std.proofs.Common.{◌-◌, ◌/◌, ◌%◌, ◌^◌, length, get_or}
use Rattle.lists.specs.Loops.{Filling}
use Rattle.onetime.proofs.write_digits.Given as goal

abbrev pub invariant-loop-i : goal.invariant-loop-i
invariant-loop-i l = Filling (length l.initial.out) (λ i. get_or l.x (i / 2) 0 / 16 ^ (1 - i % 2) % 16) l.out l.i
