-- What is shown of every restart.
use Rattle.promises.proofs.Restarts.{restarted}
use Rattle.promises.proofs.every_restart_does_what_is_said.Goals as goal

pub returns : goal.returns
returns c = restarted
