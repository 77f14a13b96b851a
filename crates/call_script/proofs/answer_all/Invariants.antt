-- Each call leaves less of the script.
use Rattle.std.proofs.Common.{length}
use Rattle.call_script.proofs.answer_all.Given as goal

abbrev pub decreases-loop-call : goal.decreases-loop-call
decreases-loop-call l = length l.rest
