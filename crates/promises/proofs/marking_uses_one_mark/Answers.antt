-- By the law `mark_changes`, for a page of bytes.
use Rattle.std.proofs.Common.{◌≡◌, ◌-◌, get_or, sym, subst, w8, Fits, rules}
use Rattle.lists.specs.Bytes.{Bytes}
use Rattle.marks.specs.Page.{used}
use Rattle.marks.specs.Marking.{MarkEnd}
use Rattle.marks.specs.Shown.{OneMark}
use Rattle.marks.proofs.Marking.{mark_changes}
use Rattle.promises.proofs.marking_uses_one_mark.Goals as goal

pub returns : goal.returns
unfolding Bytes
returns c =
    let a = c.args in
    let e = c.mark.ensures in
    subst
    (λ (x : MarkEnd). x.answer.outcome ≡ 0 → used a.page.now ≡ a.session - 1 → OneMark (a.session - 1) a.page.now x.page)
    (sym e)
    (mark_changes a.page.now a.session (λ i. let byte : Fits w8 (get_or a.page.now i 0) = search rules in byte.fits))
