-- The tally of a byte, by the test of its leading zeros.
use Rattle.marks.proofs.Counting.{byte_in_order, byte_out_of_order}
use Rattle.marks.proofs.byte_marks.Goals as goal

pub returns-then-from-z : goal.returns-then-from-z
returns-then-from-z c = byte_in_order _ (rw c.from.ensures at c.if-from-z.true)

pub returns-else-from-z : goal.returns-else-from-z
returns-else-from-z c = byte_out_of_order _ (rw c.from.ensures at c.if-from-z.false)
