-- By the hash.
use Rattle.std.proofs.Common.{rules}
use Rattle.keyed.proofs.Suites.{only_sha2, h_in_sha2}
use Rattle.keyed.proofs.h.Goals as goal

pub returns : goal.returns
returns c =
    let a = c.args in
    h_in_sha2 _ (only_sha2 _) a.key a.left a.right _ (search rules) (search rules) (search rules) c.h.type_inv.1.0.1 c.h.ensures
