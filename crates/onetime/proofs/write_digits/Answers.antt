use Rattle.std.proofs.Common.{refl, arith}
use Rattle.rfc8391.specs.Wots.{base_w}
use Rattle.lists.proofs.Filling.{filling_start, filling_more, filling_end}
use Rattle.onetime.proofs.write_digits.Goals as goal

pub loop-i-init : goal.loop-i-init
loop-i-init c = filling_start _ _ c.args.out.now refl

pub loop-i-preserved : goal.loop-i-preserved
loop-i-preserved c = filling_more _ _ _ _ _ c.digit_at.ensures (omega arith) c.loop-i.invariant

pub returns : goal.returns
unfolding base_w
returns c = filling_end _ _ _ _ (omega arith) c.loop-i.invariant
