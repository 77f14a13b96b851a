-- What the definition writes, with the record read back.
use Rattle.promises.proofs.Making.{pair_secret}
use Rattle.promises.proofs.Honest.{signed_out}
use Rattle.promises.proofs.signatures_are_those_of_rfc_8391.Goals as goal

pub returns : goal.returns
returns c =
    let a = c.args in
    λ material key l p. signed_out material l a.secret.now a.page.now a.session a.message.now a.out.now _ c.sign.ensures (pair_secret material _ key p)
