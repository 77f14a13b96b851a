-- The first number and a space, then the second and a line feed.
use Rattle.std.proofs.Common.{◌∙◌, append_assoc, arith}
use Rattle.lines.specs.Decimal.{numbers_line}
use Rattle.lines.proofs.Buffers.{written_behind}
use Rattle.lines.proofs.write_two.Goals as goal

pub returns-clause-out_after : goal.returns-clause-out_after
unfolding numbers_line
returns-clause-out_after c =
    let first = c.write_number-first in
    let second = c.write_number in
    written_behind first.new.out second.new.out _ first.result second.result (omega arith) (omega arith)
    ∙ rw (first.ensures.out_after, second.ensures.out_after, append_assoc)
