-- Each answer, by the tests that lead to it.
use Rattle.std.proofs.Common.{◌≡◌, sym, ◌∙◌, ⊎_elim, arith, rules}
use Rattle.outcomes.specs.Refused.{number_of}
use Rattle.marks.proofs.Counting.{counted, not_counted}
use Rattle.marks.proofs.Answers.{next_unused, mark_damaged, mark_unfit, mark_next, mark_again}
use Rattle.marks.proofs.store.Goals as goal

pub returns-in_err-n : goal.returns-in_err-n
returns-in_err-n c =
    let e : number_of c.from_residual.result ≡ 7 = search rules in
    rw e (mark_damaged _ _ (not_counted _ (sym c.count.ensures ∙ c.in_err-n.ensures.ok_part)))

pub returns-then-session-eq0 : goal.returns-then-session-eq0
returns-then-session-eq0 c =
    let w = counted _ _ (sym c.count.ensures ∙ c.in_ok-n.ensures.ok_part) in
    mark_unfit _ _ _ w.0 w.1
    (λ f. ⊎_elim (λ t. omega (arith, t, f.0.0)) (λ t. omega (arith, t.1, f.0.1)) c.then-session-eq0.either)

pub cleared-value-requires : goal.cleared-value-requires
cleared-value-requires c =
    let w = counted _ _ (sym c.count.ensures ∙ c.in_ok-n.ensures.ok_part) in
    (omega arith, next_unused _ _ w.0 (w.1 ∙ c.if-n-i.true) (omega arith))

pub returns-then-n-i : goal.returns-then-n-i
returns-then-n-i c =
    let w = counted _ _ (sym c.count.ensures ∙ c.in_ok-n.ensures.ok_part) in
    mark_next _ _ _ w.0 w.1 _ (omega arith, omega arith) c.if-n-i.true c.cleared-value.ensures

pub returns-then-n-session : goal.returns-then-n-session
returns-then-n-session c =
    let w = counted _ _ (sym c.count.ensures ∙ c.in_ok-n.ensures.ok_part) in
    mark_again _ _ _ w.0 w.1 (omega arith, omega arith) c.if-n-session.true

pub returns-else-n-session : goal.returns-else-n-session
returns-else-n-session c =
    let w = counted _ _ (sym c.count.ensures ∙ c.in_ok-n.ensures.ok_part) in
    mark_unfit _ _ _ w.0 w.1
    (λ f. ⊎_elim (λ e. c.if-n-i.false (sym w.1 ∙ e)) (λ e. c.if-n-session.false (sym w.1 ∙ e)) f.1)
