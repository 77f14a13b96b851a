-- What the definition of marking gives.
use Rattle.std.proofs.Common.{sym, subst}
use Rattle.marks.specs.Marking.{MarkEnd}
use Rattle.marks.specs.Shown.{MarkNumbers}
use Rattle.marks.proofs.Marking.{mark_numbers}
use Rattle.promises.proofs.marking_gives_each_number_exactly.Goals as goal

pub returns : goal.returns
returns c =
    let a = c.args in
    let e = c.mark.ensures in
    subst (λ (x : MarkEnd). MarkNumbers a.page.now a.session x.answer.outcome) (sym e) (mark_numbers a.page.now a.session)
