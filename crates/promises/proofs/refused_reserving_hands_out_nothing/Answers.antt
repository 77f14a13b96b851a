-- A refusal of the definition hands out nothing.
use Rattle.std.proofs.Common.{◌≡◌, sym, subst}
use Rattle.marks.specs.declared.Reserved.{Reserved}
use Rattle.promises.proofs.Marking.{reserve_refused}
use Rattle.promises.proofs.refused_reserving_hands_out_nothing.Goals as goal

pub returns : goal.returns
returns c =
    let a = c.args in
    subst (λ (x : Reserved). (x.outcome ≡ 0 → ⊥) → (x.session ≡ a.session) × (x.place ≡ 0) × (x.value ≡ 0)) (sym c.reserve.ensures) (reserve_refused a.page.now a.session)
