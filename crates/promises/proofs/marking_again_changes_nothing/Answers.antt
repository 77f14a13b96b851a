-- A stored mark is kept by the definition.
use Rattle.std.proofs.Common.{◌≡◌, sym, subst}
use Rattle.marks.specs.Page.{used}
use Rattle.marks.specs.Marking.{MarkEnd}
use Rattle.promises.proofs.Marking.{mark_again}
use Rattle.promises.proofs.marking_again_changes_nothing.Goals as goal

pub returns : goal.returns
returns c =
    let a = c.args in
    subst (λ (x : MarkEnd). used a.page.now ≡ a.session → x.page ≡ a.page.now) (sym c.mark.ensures) (mark_again a.page.now a.session)
