-- What the definition writes.
use Rattle.std.proofs.Common.{◌≡◌, sym, subst}
use Rattle.operations.specs.Make.{MakeEnd}
use Rattle.promises.specs.Making.{KeyPair}
use Rattle.promises.proofs.Making.{make_pair}
use Rattle.promises.proofs.made_keys_are_those_of_rfc_8391.Goals as goal

pub returns : goal.returns
returns c =
    let a = c.args in
    let e = c.make.ensures in
    subst (λ (x : MakeEnd). x.answer.outcome ≡ 0 → KeyPair a.material.now x.secret x.key) (sym e) (make_pair a.kind a.material.now a.secret.now a.key.now)
