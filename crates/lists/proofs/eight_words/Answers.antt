use Rattle.std.proofs.Common.{◌*◌, replicate, arith}
use Rattle.lists.proofs.Numbers.{length-to_byte}
use Rattle.lists.proofs.Written.{written_start, written_more}
use Rattle.lists.proofs.eight_words.Goals as goal

pub loop-i-init : goal.loop-i-init
loop-i-init c = written_start 0 4 _ (replicate 32 0)

pub loop-i-preserved : goal.loop-i-preserved
loop-i-preserved c =
    written_more 0 4 _ (replicate 32 0) c.loop-i.out _ c.loop-i.i (4 * c.loop-i.i) (omega arith) (omega arith) c.write_number.ensures
    (rw c.write_number.ensures (length-to_byte _ 4)) c.loop-i.invariant
