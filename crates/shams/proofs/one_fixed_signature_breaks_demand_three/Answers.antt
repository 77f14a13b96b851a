-- One index given twice.
use Rattle.shams.proofs.Histories.{fixed_signature_breaks}
use Rattle.shams.proofs.one_fixed_signature_breaks_demand_three.Goals as goal

pub returns : goal.returns
returns c = λ material signature l. fixed_signature_breaks material l signature
