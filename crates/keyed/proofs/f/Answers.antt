-- By the hash.
use Rattle.std.proofs.Common.{rules}
use Rattle.keyed.proofs.Suites.{only_sha2, f_in_sha2}
use Rattle.keyed.proofs.f.Goals as goal

pub returns : goal.returns
returns c = f_in_sha2 _ (only_sha2 _) _ _ _ (search rules) (search rules) c.f.type_inv.1.0.1 c.f.ensures
