-- PRF of the message key, in the suite of its seed.
use Rattle.std.proofs.Common.{◌≡◌, length, ap, ◌∙◌, ap₂, rules}
use Rattle.keyed.specs.Sha2.{sha2}
use Rattle.keyed.specs.Suites.{suite}
use Rattle.keyed.proofs.Suites.{suite_sha2}
use Rattle.signatures.proofs.Signed.{randomiser_is}
use Rattle.signatures.proofs.randomiser.Goals as goal

pub returns : goal.returns
returns c =
    let p = c.prepare.ensures in
    let l : length c.prepare.result.bytes ≡ 32 = search rules in
    randomiser_is c.prepare.result _ _ (ap suite p.1 ∙ suite_sha2) l c.prf.type_inv.1.0.1 c.prf.ensures
    ∙ ap₂ sha2.PRF p.0 c.to_bytes.ensures
