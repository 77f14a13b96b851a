use Rattle.std.proofs.Common.{replicate, refl, zero-add, arith}
use Rattle.sha256.specs.Sha256.{block}
use Rattle.lists.proofs.Filling.{filling_start, filling_more, filling_end}
use Rattle.sha256.proofs.words_of.Goals as goal

pub loop-j-init : goal.loop-j-init
loop-j-init c = filling_start 16 _ (replicate 16 0) refl

pub loop-j-preserved : goal.loop-j-preserved
loop-j-preserved c = filling_more 16 _ _ _ _ c.big_endian.ensures (omega arith) c.loop-j.invariant

pub returns : goal.returns
unfolding block
returns c = simp zero-add (filling_end 16 _ _ _ (omega arith) c.loop-j.invariant)
