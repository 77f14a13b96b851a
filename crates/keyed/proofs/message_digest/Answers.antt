-- By the hash.
use Rattle.std.proofs.Common.{rules}
use Rattle.keyed.proofs.Suites.{only_sha2, digest_in_sha2}
use Rattle.keyed.proofs.message_digest.Goals as goal

pub returns : goal.returns
returns c = digest_in_sha2 _ (only_sha2 _) _ _ _ _ _ (search rules) (search rules) c.message_digest.type_inv.1.0.1 c.message_digest.ensures
