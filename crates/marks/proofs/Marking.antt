-- Each number exactly by its conditions; marking changes one bit; the byte that reserving hands out is the one that marking stores.
use Rattle.std.proofs.Common.{◌≡◌, ℕ, zero, suc, ◌+◌, ◌-◌, ◌/◌, ◌%◌, ◌<◌, ◌≤◌, ltb, List, sym, refl, ap, ◌∙◌, subst, arith, length-set, get_or-set_other, le-ltb, lt-ltb}
use Rattle.std.proofs.Math.Decide.{dec_le}
use Rattle.lists.specs.Bytes.{Bytes}
use Rattle.outcomes.specs.Outcome.{outcome_of, unless}
use Rattle.outcomes.proofs.Outcomes.{outcome_back, exactly}
use Rattle.marks.specs.Page.{bit_used, mark_used, used, WellFormed, with_mark}
use Rattle.marks.specs.Marking.{reserved, reserve_refusals, reserve_of, marked, mark_refusals, MarkEnd, mark_end, mark_of}
use Rattle.marks.proofs.Ordered.{page_of}
use Rattle.marks.specs.Shown.{ReserveNumbers, MarkNumbers, OneMark, StoredByte}
use Rattle.marks.proofs.Tests.{ltb_same}
use Rattle.marks.proofs.Marks.{marks_are}
use Rattle.marks.proofs.Pages.{page_marks, page_counted, page_is, page_next}
use Rattle.marks.proofs.Answers.{reserve_free, reserve_done, mark_first, mark_again}

-- the outcome of an answer is that of its list of refusals
reserve_outcome : (first end : ℕ) (page : List ℕ) (s : ℕ) → (reserve_of first end page s).outcome ≡ outcome_of (reserve_refusals first end page s)
unfolding reserve_of
reserve_outcome first end page s = go (outcome_of (reserve_refusals first end page s)) _ _ _
  where
    go : (o t p v : ℕ) → (unless o (reserved 0 t p v) (λ q. reserved q s 0 0)).outcome ≡ o
    go zero t p v = refl
    go (suc o) t p v = refl

mark_outcome : (page : List ℕ) (s : ℕ) → (mark_of page s).answer.outcome ≡ outcome_of (mark_refusals page s)
unfolding mark_of
mark_outcome page s = go (outcome_of (mark_refusals page s)) _
  where
    go : (o : ℕ) (left : List ℕ) → (unless o (mark_end (marked 0 s) left) (λ q. mark_end (marked q s) page)).answer.outcome ≡ o
    go zero left = refl
    go (suc o) left = refl

pub reserve_numbers : (first end : ℕ) (page : List ℕ) (s : ℕ) → ReserveNumbers first end page s (reserve_of first end page s).outcome
unfolding reserve_refusals
reserve_numbers first end page s =
    let l = reserve_refusals first end page s in
    let x = exactly l refl in
    subst (ReserveNumbers first end page s) (sym (reserve_outcome first end page s))
    record {
      seven = (outcome_back l 0 7 (λ e. omega arith) refl, x.number 0);
      nine = (outcome_back l 1 9 (λ e. omega arith) refl, x.number 1);
      eight = (
        λ o. let f = outcome_back l 2 8 (λ e. omega arith) refl o in (f.0, f.1.0, f.1.1),
        λ f. x.number 2 (f.0, (f.1, f.2)),
      );
      done = (λ o. let f = x.clear o in (f.0, f.1.0, f.1.1.0), λ f. x.done (f.0, (f.1, (f.2, tt))));
    }

pub mark_numbers : (page : List ℕ) (s : ℕ) → MarkNumbers page s (mark_of page s).answer.outcome
unfolding mark_refusals
mark_numbers page s =
    let l = mark_refusals page s in
    let x = exactly l refl in
    subst (MarkNumbers page s) (sym (mark_outcome page s))
    record {
      seven = (outcome_back l 0 7 (λ e. omega arith) refl, x.number 0);
      ten = (outcome_back l 1 10 (λ e. omega arith) refl, x.number 1);
      done = (λ o. let f = x.clear o in (f.0, f.1.0), λ f. x.done (f.0, (f.1, tt)));
    }

-- of a well-formed page of bytes that has an unused mark
module _ (page : List ℕ) (b : Bytes page) (w : WellFormed page) (h : used page < 1024) where
  -- with its first unused mark used it is the page of one more
  pub next_page : with_mark page (used page) ≡ page_of (suc (used page))
  next_page = ap (λ (p : List ℕ). with_mark p (used page)) (page_is page b w) ∙ page_next (used page) h

  -- and no other mark differs
  pub one_mark : OneMark (used page) page (with_mark page (used page))
  unfolding with_mark mark_used used
  one_mark =
      record {
        unused = marks_are page 1024 w.1 (used page) h ∙ le-ltb (used page) (used page) (omega arith);
        made_used = below (used page) h ∙ lt-ltb (used page) (suc (used page)) (omega arith);
        others = λ j n. other j n (dec_le 1024 j);
        as_long = length-set page _ _;
      }
    where
      below : (j : ℕ) → j < 1024 → mark_used (with_mark page (used page)) j ≡ ltb j (suc (used page))
      below j l = ap (λ (p : List ℕ). mark_used p j) next_page ∙ page_marks (suc (used page)) j l

      other : (j : ℕ) → (j ≡ used page → ⊥) → Dec (1024 ≤ j) → mark_used (with_mark page (used page)) j ≡ mark_used page j
      other j n (yes l) = ap (λ (x : ℕ). bit_used x (j % 8)) (get_or-set_other page (used page / 8) (j / 8) _ 0 (λ e. omega arith))
      other j n (no l) =
          below j (omega arith)
          ∙ ltb_same j (suc (used page)) j (used page) (λ p. omega arith) (λ p. omega arith)
          ∙ sym (marks_are page 1024 w.1 j (omega arith))

  -- marking that one again changes nothing
  pub mark_twice : mark_of (with_mark page (used page)) (used page + 1) ≡ mark_end (marked 0 (used page + 1)) (with_mark page (used page))
  mark_twice =
      let u = used page in
      let c = page_counted (suc u) h in
      rw next_page (sym (mark_again (page_of (suc u)) (u + 1) (suc u) c.0 c.1 (omega arith, omega arith) (omega arith)))

-- marking that answers 0 for the first unused index changes that mark only
pub mark_changes : (page : List ℕ) (s : ℕ) → Bytes page → (mark_of page s).answer.outcome ≡ 0 → used page ≡ s - 1 → OneMark (s - 1) page (mark_of page s).page
mark_changes page s b o e =
    let f = (mark_numbers page s).done.0 o in
    let h : used page < 1024 = omega (arith, f.1.0.0, f.1.0.1) in
    let q : used page + 1 ≡ s = omega (arith, f.1.0.0) in
    let m : with_mark page (used page) ≡ (mark_of page s).page = ap (λ (x : MarkEnd). x.page) (rw q at (mark_first page (used page) f.0 refl h)) in
    rw (← e, ← m) (one_mark page b f.0 h)

-- storing the byte that reserving hands out is marking
pub store_is_mark : (first end : ℕ) (page : List ℕ) (s : ℕ) → end ≤ 1024 → Bytes page →
    (reserve_of first end page s).outcome ≡ 0 → StoredByte page (reserve_of first end page s)
unfolding with_mark
store_is_mark first end page s l b o =
    let f = (reserve_numbers first end page s).done.0 o in
    let w = f.0.0 in
    let h : used page < 1024 = omega (arith, f.2) in
    subst (StoredByte page) (reserve_done first end page s (used page) refl (reserve_free first end page s (used page) f.0 refl f.1 f.2))
    record { marking = sym (mark_first page (used page) w refl h); again = mark_twice page b w h }
