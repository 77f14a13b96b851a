-- Chain ends, L-tree and path, one after the other.
use Rattle.rfc8391.specs.Xmss.{root_from_sig}
use Rattle.tree.proofs.root_from_signature.Goals as goal

pub returns : goal.returns
unfolding root_from_sig
returns c = cc
