-- The text is cut where calls begin. The check finds this alone too, but where it is false only `omega` says so before the prover's limits.
use Rattle.std.proofs.Common.{arith}
use Rattle.call_script.proofs.answer_script.Goals as goal

pub answer_all-requires : goal.answer_all-requires
answer_all-requires c = omega (arith, c.in-Some.ensures.cases.1)
