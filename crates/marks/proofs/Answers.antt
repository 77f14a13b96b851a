-- The answers of reserving and marking by the tests that lead to them: one law a number.
use Rattle.std.proofs.Common.{◌≡◌, ℕ, ◌+◌, ◌-◌, ◌/◌, ◌%◌, ◌<◌, ◌≤◌, false, List, get_or, set, sym, refl, ◌∙◌, inl, inr, arith, le-ltb, eq-eqb, ne_eqb}
use Rattle.outcomes.specs.Outcome.{outcome_of}
use Rattle.outcomes.proofs.Outcomes.{outcome_at, outcome_none, exactly, unless_done, unless_refused}
use Rattle.marks.specs.Page.{bit_used, mark_used, used, used_below, WellFormed, Serves, Fits, cleared, with_mark}
use Rattle.marks.specs.Marking.{reserved, reserve_refusals, reserve_of, marked, mark_refusals, mark_end, mark_of}
use Rattle.marks.proofs.Marks.{marks_are}

-- the first unused mark of a page is unused
pub next_unused : (page : List ℕ) (n : ℕ) → WellFormed page → used page ≡ n → n < 1024 → bit_used (get_or page (n / 8) 0) (n % 8) ≡ false
unfolding mark_used used
next_unused page n w e h = marks_are page 1024 w.1 n h ∙ le-ltb n (used_below page 1024) (omega arith)

-- reserving, over any range of indices
module _ (first end : ℕ) (page : List ℕ) (s : ℕ) where
  pub reserve_damaged : (Serves first page → ⊥) → 7 ≡ outcome_of (reserve_refusals first end page s)
  unfolding reserve_refusals
  reserve_damaged h = sym (outcome_at (reserve_refusals first end page s) 0 h)

  -- of a page of the range with n used marks
  module _ (n : ℕ) (v : Serves first page) (e : used page ≡ n) where
    pub reserve_pending : (s ≡ 0 → ⊥) → 9 ≡ outcome_of (reserve_refusals first end page s)
    unfolding reserve_refusals
    reserve_pending h = sym (outcome_at (reserve_refusals first end page s) 1 (v, h))

    pub reserve_full : s ≡ 0 → end ≤ n → 8 ≡ outcome_of (reserve_refusals first end page s)
    unfolding reserve_refusals
    reserve_full z h = sym (outcome_at (reserve_refusals first end page s) 2 (v, (z, omega arith)))

    pub reserve_free : s ≡ 0 → n < end → 0 ≡ outcome_of (reserve_refusals first end page s)
    unfolding reserve_refusals
    reserve_free z h = sym (outcome_none (reserve_refusals first end page s) (v, (z, (omega arith, tt))))

  -- what is known where nothing refuses
  pub reserve_clear : 0 ≡ outcome_of (reserve_refusals first end page s) → WellFormed page × (used page < end)
  unfolding reserve_refusals
  reserve_clear e = let f = (exactly (reserve_refusals first end page s) refl).clear (sym e) in (f.0.0, f.1.1.0)

  -- the answer, by the outcome
  pub reserve_refused : (n : ℕ) → (n ≡ 0 → ⊥) → n ≡ outcome_of (reserve_refusals first end page s) → reserved n s 0 0 ≡ reserve_of first end page s
  unfolding reserve_of
  reserve_refused n z e = unless_refused _ (λ o. reserved o s 0 0) n _ z e

  pub reserve_done : (n : ℕ) → used page ≡ n → 0 ≡ outcome_of (reserve_refusals first end page s)
      → reserved 0 (n + 1) (n / 8) (cleared (get_or page (n / 8) 0) (n % 8)) ≡ reserve_of first end page s
  unfolding reserve_of
  reserve_done n e q = rw (← e) (unless_done _ (λ o. reserved o s 0 0) _ q)

-- marking
module _ (page : List ℕ) (s : ℕ) where
  pub mark_damaged : (WellFormed page → ⊥) → mark_end (marked 7 s) page ≡ mark_of page s
  unfolding mark_of mark_refusals
  mark_damaged h = rw (outcome_at (mark_refusals page s) 0 h)

  -- of a page with n used marks
  module _ (n : ℕ) (w : WellFormed page) (e : used page ≡ n) where
    pub mark_unfit : (Fits page s → ⊥) → mark_end (marked 10 s) page ≡ mark_of page s
    unfolding mark_of mark_refusals
    mark_unfit h = rw (outcome_at (mark_refusals page s) 1 (w, h))

    -- the pending index is the first unused one; and the last used one
    pub mark_next : (v : ℕ) → (1 ≤ s) × (s ≤ 1024) → n ≡ s - 1 → v ≡ cleared (get_or page ((s - 1) / 8) 0) ((s - 1) % 8) →
        mark_end (marked 0 s) (set page ((s - 1) / 8) v) ≡ mark_of page s
    unfolding mark_of mark_refusals with_mark
    mark_next v h q b =
        rw (outcome_none (mark_refusals page s) (w, ((h, inl (e ∙ q)), tt)), eq-eqb (used page) (s - 1) (e ∙ q), b)

    pub mark_again : (1 ≤ s) × (s ≤ 1024) → n ≡ s → mark_end (marked 0 s) page ≡ mark_of page s
    unfolding mark_of mark_refusals
    mark_again h q =
        rw (outcome_none (mark_refusals page s) (w, ((h, inr (e ∙ q)), tt)), ne_eqb (used page) (s - 1) (λ r. omega arith))

-- marking the first unused index
pub mark_first : (page : List ℕ) (n : ℕ) → WellFormed page → used page ≡ n → n < 1024 → mark_end (marked 0 (n + 1)) (with_mark page n) ≡ mark_of page (n + 1)
unfolding with_mark
mark_first page n w e h =
    let q : n + 1 - 1 ≡ n = omega arith in
    rw q at (mark_next page (n + 1) n w e _ (omega arith, omega arith) (omega arith) refl)
