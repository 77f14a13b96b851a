-- By what making ensures of the two buffers.
use Rattle.promises.proofs.Pairs.{pair_keeps}
use Rattle.promises.proofs.a_made_key_keeps_demand_three.Goals as goal

pub returns : goal.returns
returns c = λ z. pair_keeps _ _ _ _ _ _ _ c.make.ensures z
