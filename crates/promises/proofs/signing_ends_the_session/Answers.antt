-- What the definition gives where it refuses nothing.
use Rattle.std.proofs.Common.{◌≡◌, ◌-◌, sym, ap, subst}
use Rattle.rfc8391.specs.Formats.{signature_bytes}
use Rattle.keyed.specs.Sha2.{sha2}
use Rattle.records.specs.Records.{record_from}
use Rattle.records.specs.Keys.{signed_by}
use Rattle.operations.specs.Sign.{SignEnd}
use Rattle.promises.proofs.Signing.{sign_given}
use Rattle.promises.proofs.signing_ends_the_session.Goals as goal

pub returns : goal.returns
returns c =
    let a = c.args in
    let e = c.sign.ensures in
    let g = sign_given a.secret.now a.page.now a.session a.message.now a.out.now in
    subst
    (λ (x : SignEnd). x.answer.outcome ≡ 0 → (x.answer.session ≡ 0) × (x.out ≡ signature_bytes (signed_by sha2 (record_from 32 a.secret.now) (a.session - 1) a.message.now)))
    (sym e)
    (λ o. (ap (λ (x : SignEnd). x.answer.session) (g o), ap (λ (x : SignEnd). x.out) (g o)))
