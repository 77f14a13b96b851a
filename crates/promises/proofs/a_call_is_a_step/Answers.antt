-- A step goes on from what the call leaves.
use Rattle.promises.proofs.Calls.{call_steps}
use Rattle.promises.proofs.a_call_is_a_step.Goals as goal

pub returns : goal.returns
returns c = call_steps _ _ _ _ _ _ _ _ _ c.call.ensures
