-- What the definition of signing gives.
use Rattle.std.proofs.Common.{sym, subst}
use Rattle.operations.specs.Sign.{SignEnd}
use Rattle.promises.specs.Signing.{SignNumbers}
use Rattle.promises.proofs.Signing.{sign_numbers}
use Rattle.promises.proofs.signing_gives_each_number_exactly.Goals as goal

pub returns : goal.returns
returns c =
    let a = c.args in
    let e = c.sign.ensures in
    subst (λ (x : SignEnd). SignNumbers a.secret.now a.page.now a.session a.message.now a.out.now x.answer.outcome) (sym e) (sign_numbers a.secret.now a.page.now a.session a.message.now a.out.now)
