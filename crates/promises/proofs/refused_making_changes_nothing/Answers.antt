-- A refusal of the definition keeps both buffers.
use Rattle.std.proofs.Common.{◌≡◌, sym, subst}
use Rattle.operations.specs.Make.{MakeEnd}
use Rattle.promises.proofs.Making.{make_refused}
use Rattle.promises.proofs.refused_making_changes_nothing.Goals as goal

pub returns : goal.returns
returns c =
    let a = c.args in
    let e = c.make.ensures in
    subst (λ (x : MakeEnd). (x.answer.outcome ≡ 0 → ⊥) → (x.secret ≡ a.secret.now) × (x.key ≡ a.key.now)) (sym e) (make_refused a.kind a.material.now a.secret.now a.key.now)
