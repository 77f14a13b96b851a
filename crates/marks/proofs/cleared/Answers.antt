-- The byte less its mark's bit, which it has.
use Rattle.std.proofs.Common.{ℕ, ◌-◌, ap}
use Rattle.marks.specs.Page.{cleared}
use Rattle.marks.proofs.Bytes.{has_bit}
use Rattle.marks.proofs.cleared.Goals as goal

pub overflow_sub-result : goal.overflow_sub-result
overflow_sub-result c = rw c.bit_of.ensures (has_bit c.args.b c.args.mark c.requires.1)

pub returns : goal.returns
unfolding cleared
returns c = ap (λ (x : ℕ). c.args.b - x) c.bit_of.ensures
