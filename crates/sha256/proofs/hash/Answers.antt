-- A message of which no block was hashed before.
use Rattle.sha256.proofs.Blocks.{sha256_whole}
use Rattle.sha256.proofs.hash.Goals as goal

pub returns : goal.returns
returns c = cc (sha256_whole c.args.m.now)
