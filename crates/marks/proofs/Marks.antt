-- Marks in order are exactly those of which the first ones are used, and their number is the count.
use Rattle.std.proofs.Common.{◌≡◌, ℕ, zero, suc, ◌<◌, ◌≤◌, min, Bool, true, false, cond, not, ◌&&◌, ◌||◌, eqb, ltb, ◌↔◌, List, sym, refl, ap, ◌∙◌, ⊎_elim, le_of_suc-le-suc, not-suc-le-zero, eq-or-lt_of_le, arith, ltb-false, ltb-true, le-ltb, lt-ltb, eq-eqb, eqb-true}
use Rattle.marks.specs.Page.{mark_used, used_below, ordered_below, used, Ordered}
use Rattle.marks.proofs.Ordered.{FirstUsed}
use Rattle.std.proofs.lemmas.Bool.{and_parts}

module _ (page : List ℕ) where
  pub used_le : (n : ℕ) → used_below page n ≤ n
  unfolding used_below
  used_le zero = omega arith
  used_le (suc n) = go (mark_used page n) (used_le n)
    where
      go : (t : Bool) → used_below page n ≤ n → cond t (suc (used_below page n)) (used_below page n) ≤ suc n
      go true h = omega arith
      go false h = omega arith

  pub used_most : used page ≤ 1024
  unfolding used
  used_most = used_le 1024

  -- in order, exactly the first ones are used
  pub marks_are : (n : ℕ) → ordered_below page n ≡ true → FirstUsed page (used_below page n) n
  unfolding ordered_below used_below
  marks_are zero o i h = absurd (not-suc-le-zero h)
  marks_are (suc n) o i h =
      go (mark_used page n) refl (marks_are n (and_parts _ _ o).0 i) (and_parts _ _ o).1
    where
      go : (t : Bool) → mark_used page n ≡ t → (i < n → mark_used page i ≡ ltb i (used_below page n)) →
          (not t || eqb (used_below page n) n) ≡ true → mark_used page i ≡ ltb i (cond t (suc (used_below page n)) (used_below page n))
      go true e ih w =
          let u : used_below page n ≡ n = eqb-true _ _ w in
          ⊎_elim
          (λ q. ap (mark_used page) q ∙ e ∙ sym (lt-ltb i (suc (used_below page n)) (omega arith)))
          (λ l. ih l ∙ lt-ltb i (used_below page n) (omega arith) ∙ sym (lt-ltb i (suc (used_below page n)) (omega arith)))
          (eq-or-lt_of_le (le_of_suc-le-suc h))
      go false e ih w =
          ⊎_elim
          (λ q. ap (mark_used page) q ∙ e ∙ sym (le-ltb i (used_below page n) (omega (arith, used_le n))))
          (λ l. ih l)
          (eq-or-lt_of_le (le_of_suc-le-suc h))

  -- where exactly the first u are used, that is the count, and they are in order
  pub first_used : (u n : ℕ) → FirstUsed page u n → (used_below page n ≡ min n u) × (ordered_below page n ≡ true)
  unfolding used_below ordered_below
  first_used u zero h = (omega arith, refl)
  first_used u (suc n) h = go (ltb n u) refl (h n (omega arith)) (first_used u n (λ i l. h i (omega arith)))
    where
      go : (t : Bool) → ltb n u ≡ t → mark_used page n ≡ ltb n u → (used_below page n ≡ min n u) × (ordered_below page n ≡ true) →
          (cond (mark_used page n) (suc (used_below page n)) (used_below page n) ≡ min (suc n) u) × ((ordered_below page n && (not (mark_used page n) || eqb (used_below page n) n)) ≡ true)
      go true q e ih =
          let l : n < u = ltb-true n u q in
          let k : used_below page n ≡ n = omega (arith, ih.0) in
          (rw (e, q) (omega arith), rw (e, q, ih.1) (eq-eqb (used_below page n) n k))
      go false q e ih =
          let l : u ≤ n = ltb-false n u q in
          (rw (e, q) (omega (arith, ih.0)), rw (e, q, ih.1))

  -- marks of which no used one comes after an unused one pass the test of order
  in_order : (n : ℕ) → Ordered page n → ordered_below page n ≡ true
  unfolding ordered_below
  in_order zero h = refl
  in_order (suc n) h =
      rw (in_order n (λ i j l k e. h i j l (omega arith) e)) (go (mark_used page n) refl)
    where
      go : (t : Bool) → mark_used page n ≡ t → (not t || eqb (used_below page n) n) ≡ true
      go true e =
          let c = (first_used n n (λ i l. h i n l (omega arith) e ∙ sym (lt-ltb i n l))).0 in
          eq-eqb (used_below page n) n (omega arith)
      go false e = refl

  -- what the test of order means
  pub ordered_means : (n : ℕ) → (ordered_below page n ≡ true) ↔ Ordered page n
  ordered_means n = (fwd, in_order n)
    where
      fwd : ordered_below page n ≡ true → Ordered page n
      fwd o i j l h e =
          let k : j < used_below page n = ltb-true j _ (sym (marks_are n o j h) ∙ e) in
          marks_are n o i (omega arith) ∙ lt-ltb i _ (omega arith)
