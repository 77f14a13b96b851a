-- Each kind of call, by its law.
use Rattle.promises.proofs.Calls.{call_reserves, call_marks, call_signs}
use Rattle.promises.proofs.call.Goals as goal

pub returns-in-Reserving : goal.returns-in-Reserving
returns-in-Reserving c = call_reserves _ _ _ _ _ _ _ c.in-Reserving.is c.reserve-outcome.ensures

pub returns-in-Marking : goal.returns-in-Marking
returns-in-Marking c = call_marks _ _ _ _ _ _ _ _ c.in-Marking.is c.mark-outcome.ensures

pub returns-in-Signing : goal.returns-in-Signing
returns-in-Signing c = call_signs _ _ _ _ _ _ _ _ c.in-Signing.is c.sign-outcome.ensures
