-- PRF of the leaf's seed over the chain.
use Rattle.onetime.specs.Secrets.{value_of}
use Rattle.rfc8391.specs.House.{secret_value}
use Rattle.onetime.proofs.Secrets.value.Goals as goal

pub returns : goal.returns
unfolding value_of secret_value
returns c = cc
