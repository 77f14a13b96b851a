-- A refusal of the definition keeps the buffer.
use Rattle.std.proofs.Common.{◌≡◌, sym, subst}
use Rattle.operations.specs.Sign.{SignEnd}
use Rattle.promises.proofs.Signing.{sign_refused}
use Rattle.promises.proofs.refused_signing_changes_nothing.Goals as goal

pub returns : goal.returns
returns c =
    let a = c.args in
    let e = c.sign.ensures in
    subst (λ (x : SignEnd). (x.answer.outcome ≡ 0 → ⊥) → (x.out ≡ a.out.now) × (x.answer.session ≡ a.session)) (sym e) (sign_refused a.secret.now a.page.now a.session a.message.now a.out.now)
