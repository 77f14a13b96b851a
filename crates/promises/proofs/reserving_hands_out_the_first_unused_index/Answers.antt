-- What the definition hands out.
use Rattle.std.proofs.Common.{◌≡◌, ◌+◌, ◌/◌, sym, subst}
use Rattle.marks.specs.Page.{used}
use Rattle.marks.specs.declared.Reserved.{Reserved}
use Rattle.promises.proofs.Marking.{reserve_first}
use Rattle.promises.proofs.reserving_hands_out_the_first_unused_index.Goals as goal

pub returns : goal.returns
returns c =
    let a = c.args in
    subst (λ (x : Reserved). x.outcome ≡ 0 → (x.session ≡ used a.page.now + 1) × (x.place ≡ used a.page.now / 8)) (sym c.reserve.ensures) (reserve_first a.page.now a.session)
