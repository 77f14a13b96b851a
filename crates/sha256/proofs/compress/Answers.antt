-- Schedule, rounds and sum, one after the other.
use Rattle.sha256.specs.Sha256.{compressed}
use Rattle.sha256.proofs.compress.Goals as goal

pub returns : goal.returns
unfolding compressed
returns c = cc
