-- Each number, by the tests that lead to it.
use Rattle.std.proofs.Common.{◌≡◌, ◌≤◌, sym, ◌∙◌, arith, rules}
use Rattle.outcomes.specs.Refused.{number_of}
use Rattle.lists.specs.Bytes.{number}
use Rattle.marks.specs.Page.{used}
use Rattle.marks.proofs.Counting.{counted, not_counted}
use Rattle.marks.proofs.Marks.{used_most}
use Rattle.operations.proofs.Signs.{record_wrong, type_unserved, message_long, room_wrong, page_wrong, not_stored, stored}
use Rattle.operations.proofs.pending_index.Goals as goal
use Rattle.operations.proofs.pending_index.Goals.{Else-other_type, In_ok-index}

-- the record's type, once it is known
typed : (c : Else-other_type) → number c.args.secret.now 0 4 ≡ 1
typed c = omega (arith, c.big_endian-other_type.ensures, c.if-other_type.false)

-- an index is pending, once one is taken from the session
pending : (c : In_ok-index) → 1 ≤ c.args.session
pending c = omega (arith, (rw c.in_ok-index.ensures.ok_part at c.checked_sub.ensures).0)

pub returns-then-secret-ne132-clause-outcome : goal.returns-then-secret-ne132-clause-outcome
returns-then-secret-ne132-clause-outcome c = record_wrong _ _ _ _ _ c.if-secret-ne132.true

pub returns-then-other_type-clause-outcome : goal.returns-then-other_type-clause-outcome
returns-then-other_type-clause-outcome c =
    type_unserved _ _ _ _ _ c.if-secret-ne132.false (λ e. omega (arith, c.big_endian-other_type.ensures, c.if-other_type.true))

pub returns-then-message-gt65536-clause-outcome : goal.returns-then-message-gt65536-clause-outcome
returns-then-message-gt65536-clause-outcome c =
    let t = typed (goal.at.returns-then-message-gt65536-clause-outcome c).Else-other_type in
    message_long _ _ _ _ _ c.if-secret-ne132.false t c.if-message-gt65536.true

pub returns-then-out-ne2500-clause-outcome : goal.returns-then-out-ne2500-clause-outcome
returns-then-out-ne2500-clause-outcome c =
    let t = typed (goal.at.returns-then-out-ne2500-clause-outcome c).Else-other_type in
    room_wrong _ _ _ _ _ c.if-secret-ne132.false t c.if-message-gt65536.false c.if-out-ne2500.true

pub returns-in_err-used-clause-outcome : goal.returns-in_err-used-clause-outcome
returns-in_err-used-clause-outcome c =
    let t = typed (goal.at.returns-in_err-used-clause-outcome c).Else-other_type in
    let e : number_of c.from_residual.result ≡ 7 = search rules in
    e
    ∙ page_wrong _ _ _ _ _ c.if-secret-ne132.false t c.if-message-gt65536.false c.if-out-ne2500.false
    (not_counted _ (sym c.count.ensures ∙ c.in_err-used.ensures.ok_part))

pub returns-in_err-index-clause-outcome : goal.returns-in_err-index-clause-outcome
returns-in_err-index-clause-outcome c =
    let t = typed (goal.at.returns-in_err-index-clause-outcome c).Else-other_type in
    let u = counted _ _ (sym c.count.ensures ∙ c.in_ok-used.ensures.ok_part) in
    let none : 1 ≤ c.args.session → ⊥ = rw c.in_err-index.ensures.ok_part at c.checked_sub.ensures in
    let e : number_of c.from_residual-in_err-index.result ≡ 10 = search rules in
    e
    ∙ not_stored _ _ _ _ _ c.if-secret-ne132.false t c.if-message-gt65536.false c.if-out-ne2500.false
    u.0 (λ h. none h.0.0)

pub returns-then-not_marked-clause-outcome : goal.returns-then-not_marked-clause-outcome
returns-then-not_marked-clause-outcome c =
    let t = typed (goal.at.returns-then-not_marked-clause-outcome c).Else-other_type in
    let u = counted _ _ (sym c.count.ensures ∙ c.in_ok-used.ensures.ok_part) in
    not_stored _ _ _ _ _ c.if-secret-ne132.false t c.if-message-gt65536.false c.if-out-ne2500.false
    u.0 (λ h. omega (arith, u.1, h.1, c.if-not_marked.true))

pub returns-clause-outcome : goal.returns-clause-outcome
returns-clause-outcome c =
    let t = typed (goal.at.returns-clause-outcome c).Else-other_type in
    let u = counted _ _ (sym c.count.ensures ∙ c.in_ok-used.ensures.ok_part) in
    let e : used c.args.page.now ≡ c.args.session = omega (arith, u.1, c.if-not_marked.false) in
    stored _ _ _ _ _ c.if-secret-ne132.false t c.if-message-gt65536.false c.if-out-ne2500.false
    u.0 ((pending (goal.at.returns-clause-outcome c).In_ok-index, omega (arith, e, used_most c.args.page.now)), e)
