-- Each refusal, or the first unused index, by the tests that lead to it.
use Rattle.std.proofs.Common.{◌≡◌, ℕ, List, Some, sym, ◌∙◌, arith, rules}
use Rattle.outcomes.specs.Refused.{number_of}
use Rattle.marks.specs.Page.{used, Serves}
use Rattle.marks.specs.Marking.{count_of}
use Rattle.marks.proofs.Counting.{counted, not_counted}
use Rattle.marks.proofs.Answers.{reserve_damaged, reserve_pending, reserve_full, reserve_free}
use Rattle.marks.proofs.free_index.Goals as goal

-- a page that was counted
serves : (page : List ℕ) (n : ℕ) → count_of page ≡ Some n → Serves 0 page × (used page ≡ n)
serves page n e = let w = counted page n e in ((w.0, omega arith), w.1)

pub returns-in_err-n-clause-outcome : goal.returns-in_err-n-clause-outcome
returns-in_err-n-clause-outcome c =
    let e : number_of c.from_residual.result ≡ 7 = search rules in
    e ∙ reserve_damaged _ _ _ _ (λ v. not_counted _ (sym c.count.ensures ∙ c.in_err-n.ensures.ok_part) v.0)

pub returns-then-session-ne0-clause-outcome : goal.returns-then-session-ne0-clause-outcome
returns-then-session-ne0-clause-outcome c =
    let w = serves _ _ (sym c.count.ensures ∙ c.in_ok-n.ensures.ok_part) in
    reserve_pending _ _ _ _ _ w.0 w.1 c.if-session-ne0.true

pub returns-then-full-clause-outcome : goal.returns-then-full-clause-outcome
returns-then-full-clause-outcome c =
    let w = serves _ _ (sym c.count.ensures ∙ c.in_ok-n.ensures.ok_part) in
    reserve_full _ _ _ _ _ w.0 w.1 c.if-session-ne0.false c.if-full.true

pub returns-clause-outcome : goal.returns-clause-outcome
returns-clause-outcome c =
    let w = serves _ _ (sym c.count.ensures ∙ c.in_ok-n.ensures.ok_part) in
    reserve_free _ _ _ _ _ w.0 w.1 c.if-session-ne0.false c.if-full.false

pub returns-clause-index : goal.returns-clause-index
returns-clause-index c = sym (serves _ _ (sym c.count.ensures ∙ c.in_ok-n.ensures.ok_part)).1
