-- What is shown of every history.
use Rattle.promises.proofs.Story.{history}
use Rattle.promises.proofs.every_history_keeps_demand_three.Goals as goal

pub returns : goal.returns
returns c = history
