-- Counting byte by byte: what each byte adds to the count, and which bytes show that a page is not well formed.
use Rattle.std.proofs.Common.{◌≡◌, ℕ, ◌+◌, ◌-◌, ◌*◌, ◌/◌, ◌^◌, ◌<◌, ◌≤◌, min, ltb, ◌⊎◌, List, length, get_or, Some, None, Option, sym, refl, ap, ◌∙◌, ⊎_elim, true≢false, arith, le-ltb, lt-ltb}
use Rattle.std.proofs.Math.Decide.{ℕ_discrete, dec_le}
use Rattle.std.specs.Int.Count.{count_leading_zeros}
use Rattle.std.proofs.lemmas.Nat.{leading_le}
use Rattle.lists.specs.Bytes.{Bytes}
use Rattle.marks.specs.Page.{mark_used, used, WellFormed}
use Rattle.marks.specs.Decisions.{well_formed?}
use Rattle.marks.specs.Marking.{tally, byte_count, count_of}
use Rattle.marks.proofs.Ordered.{FirstUsed, byte_of}
use Rattle.marks.proofs.Tests.{ltb_same}
use Rattle.marks.proofs.Marks.{marks_are, first_used}
use Rattle.marks.proofs.Bytes.{bits_are, leading_is}
use Rattle.marks.proofs.Pages.{mark_at, page_at, page_is}

-- a tally that is no count
pub tally_other : {A : Type 0} (t : Option A) → ((x : A) → t ≡ Some x → ⊥) → t ≡ None
tally_other (Some x) f = absurd (f x refl)
tally_other None f = refl

-- a tally tells its count, and whether what was counted is in order
module _ {A : Type 0} (n : ℕ) where
  tally_yes : (d : Dec A) → A → Some n ≡ tally d n
  tally_yes (yes a) h = refl
  tally_yes (no f) h = absurd (f h)

  tally_no : (d : Dec A) → (A → ⊥) → None ≡ tally d n
  tally_no (yes a) h = absurd (h a)
  tally_no (no f) h = refl

  tally_used : (d : Dec A) (m : ℕ) → tally d n ≡ Some m → A × (n ≡ m)
  tally_used (yes a) m e = (a, cc)
  tally_used (no f) m e = cc

  tally_bad : (d : Dec A) → tally d n ≡ None → A → ⊥
  tally_bad (yes a) e h = cc
  tally_bad (no f) e h = f h

-- a byte's tally, and what it tells of the byte
module _ (b : ℕ) where
  pub byte_in_order : b ≡ 255 / 2 ^ count_leading_zeros 8 b → Some (count_leading_zeros 8 b) ≡ byte_count b
  unfolding byte_count
  byte_in_order h = tally_yes (count_leading_zeros 8 b) (ℕ_discrete b (255 / 2 ^ count_leading_zeros 8 b)) h

  pub byte_out_of_order : (b ≡ 255 / 2 ^ count_leading_zeros 8 b → ⊥) → None ≡ byte_count b
  unfolding byte_count
  byte_out_of_order h = tally_no (count_leading_zeros 8 b) (ℕ_discrete b (255 / 2 ^ count_leading_zeros 8 b)) h

  byte_counted : (z : ℕ) → byte_count b ≡ Some z → (count_leading_zeros 8 b ≡ z) × (b ≡ 255 / 2 ^ z)
  unfolding byte_count
  byte_counted z e =
      let t = tally_used (count_leading_zeros 8 b) (ℕ_discrete b (255 / 2 ^ count_leading_zeros 8 b)) z e in
      (t.1, t.0 ∙ ap (λ (k : ℕ). 255 / 2 ^ k) t.1)

  byte_uncounted : byte_count b ≡ None → b ≡ 255 / 2 ^ count_leading_zeros 8 b → ⊥
  unfolding byte_count
  byte_uncounted e = tally_bad (count_leading_zeros 8 b) (ℕ_discrete b (255 / 2 ^ count_leading_zeros 8 b)) e

  pub few : (z : ℕ) → byte_count b ≡ Some z → z < 9
  few z e = omega (arith, (byte_counted z e).0, leading_le 8 b)

-- a page's tally, and what it tells of the page
module _ (page : List ℕ) where
  pub counts : (n : ℕ) → WellFormed page → used page ≡ n → Some n ≡ count_of page
  unfolding count_of
  counts n w e = ap Some (sym e) ∙ tally_yes (used page) (well_formed? page) w

  pub counts_none : (WellFormed page → ⊥) → None ≡ count_of page
  unfolding count_of
  counts_none h = tally_no (used page) (well_formed? page) h

  pub counted : (n : ℕ) → count_of page ≡ Some n → WellFormed page × (used page ≡ n)
  unfolding count_of
  counted n e = tally_used (used page) (well_formed? page) n e

  -- it has the place of every index
  pub counted_place : (n i : ℕ) → count_of page ≡ Some n → i < 1024 → i / 8 < length page
  counted_place n i e h = omega (arith, (counted n e).0.0)

  pub not_counted : count_of page ≡ None → WellFormed page → ⊥
  unfolding count_of
  not_counted e = tally_bad (used page) (well_formed? page) e

  -- all 128 bytes counted
  pub all_counted : (n : ℕ) → length page ≡ 128 → n ≤ 1024 → FirstUsed page n 1024 → Some n ≡ count_of page
  unfolding used
  all_counted n len l f =
      let c = first_used page n 1024 f in
      counts n (len, c.1) (omega (arith, c.0))

  -- byte i of a page of bytes
  module _ (b : Bytes page) (i : ℕ) (h : i < 128) where
    at_byte : WellFormed page → get_or page i 0 ≡ 255 / 2 ^ min 8 (used page - 8 * i)
    unfolding byte_of
    at_byte w = ap (λ (l : List ℕ). get_or l i 0) (page_is page b w) ∙ page_at (used page) i h

    zeros_are : WellFormed page → count_leading_zeros 8 (get_or page i 0) ≡ min 8 (used page - 8 * i)
    zeros_are w = ap (count_leading_zeros 8) (at_byte w) ∙ leading_is _ (omega arith)

    -- it is not in order
    pub byte_out : byte_count (get_or page i 0) ≡ None → None ≡ count_of page
    byte_out e = counts_none (λ w. byte_uncounted _ e (at_byte w ∙ ap (λ (k : ℕ). 255 / 2 ^ k) (sym (zeros_are w))))

  -- it has z used marks, and of the marks before it exactly the first n are used
  module _ (i n z : ℕ) (l : n ≤ 8 * i) (f : FirstUsed page n (8 * i)) (e : byte_count (get_or page i 0) ≡ Some z) where
    -- used ones come only after marks that are all used
    pub byte_more : (z ≡ 0) ⊎ (n ≡ 8 * i) → FirstUsed page (n + z) (8 * (i + 1))
    byte_more w k h = go (dec_le (8 * i) k)
      where
        both : {A : Type 0} → (z ≡ 0 → A) → (n ≡ 8 * i → A) → A
        both p q = ⊎_elim p q w

        go : Dec (8 * i ≤ k) → mark_used page k ≡ ltb k (n + z)
        go (yes q) =
            let r : 8 * i + (k - 8 * i) ≡ k = omega arith in
            sym (ap (mark_used page) r)
            ∙ mark_at page i (k - 8 * i) (omega arith)
            ∙ rw (byte_counted (get_or page i 0) z e).1 (bits_are z (k - 8 * i) (few _ z e) (omega arith))
            ∙ ltb_same (k - 8 * i) z k (n + z) (λ p. both (λ a. omega arith) (λ a. omega arith)) (λ p. both (λ a. omega arith) (λ a. omega arith))
        go (no q) = f k (omega arith) ∙ ltb_same k n k (n + z) (λ p. omega arith) (λ p. both (λ a. omega arith) (λ a. omega arith))

    -- used ones come after an unused one
    pub byte_late : Bytes page → i < 128 → (z ≡ 0 → ⊥) → (n ≡ 8 * i → ⊥) → None ≡ count_of page
    unfolding used
    byte_late b h z0 n0 =
        counts_none
        (λ w.
        let q : count_leading_zeros 8 (get_or page i 0) ≡ z = (byte_counted _ z e).0 in
        let u : n < used page = omega (arith, zeros_are b i h w) in
        true≢false (sym (lt-ltb n (used page) u) ∙ sym (marks_are page 1024 w.1 n (omega arith)) ∙ f n (omega arith) ∙ le-ltb n n (omega arith)))
