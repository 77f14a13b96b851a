-- The first unused index of the page, or a refusal.
use Rattle.std.proofs.Common.{sym, ap, ◌∙◌, arith}
use Rattle.outcomes.proofs.Outcomes.{numbered}
use Rattle.marks.specs.Marking.{reserved}
use Rattle.marks.proofs.Answers.{next_unused, reserve_clear, reserve_refused, reserve_done}
use Rattle.marks.proofs.reserve.Goals as goal

pub overflow_add-result : goal.overflow_add-result
overflow_add-result c = omega (arith, c.in-Ok.ensures.index, (reserve_clear _ _ _ _ c.in-Ok.ensures.outcome).1)

pub bounds-page-place : goal.bounds-page-place
bounds-page-place c = let w = reserve_clear _ _ _ _ c.in-Ok.ensures.outcome in omega (arith, c.in-Ok.ensures.index, w.0.0, w.1)

pub cleared-requires : goal.cleared-requires
cleared-requires c =
    let w = reserve_clear _ _ _ _ c.in-Ok.ensures.outcome in
    (omega arith, next_unused _ _ w.0 (sym c.in-Ok.ensures.index) (omega (arith, c.in-Ok.ensures.index, w.1)))

pub returns-in-Ok : goal.returns-in-Ok
returns-in-Ok c =
    ap (reserved 0 _ _) c.cleared.ensures
    ∙ reserve_done _ _ _ _ _ (sym c.in-Ok.ensures.index) c.in-Ok.ensures.outcome

pub returns-in-Err : goal.returns-in-Err
returns-in-Err c = rw c.number.ensures (reserve_refused _ _ _ _ _ (numbered c.in-Err.refusal) c.in-Err.ensures.outcome)
