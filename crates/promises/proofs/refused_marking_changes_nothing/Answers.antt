-- A refusal of the definition keeps the page.
use Rattle.std.proofs.Common.{◌≡◌, sym, subst}
use Rattle.marks.specs.Marking.{MarkEnd}
use Rattle.promises.proofs.Marking.{mark_refused}
use Rattle.promises.proofs.refused_marking_changes_nothing.Goals as goal

pub returns : goal.returns
returns c =
    let a = c.args in
    subst (λ (x : MarkEnd). (x.answer.session ≡ a.session) × ((x.answer.outcome ≡ 0 → ⊥) → x.page ≡ a.page.now)) (sym c.mark.ensures) (mark_refused a.page.now a.session)
