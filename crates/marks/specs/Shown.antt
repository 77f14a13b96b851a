-- What is shown of reserving and marking: when each number is given, the bit that marking changes, the byte that reserving hands out.
use Rattle.std.specs.Prelude.{◌≡◌, true, false, List, ◌↔◌, ℕ, ◌<◌, ◌≤◌, length, set}
use Rattle.marks.specs.Page.{mark_used, used, WellFormed, Serves, Fits}
use Rattle.marks.specs.Marking.{marked, mark_end, mark_of}
use Rattle.marks.specs.declared.Reserved.{Reserved}

-- each number exactly when its condition holds and none earlier does; one of the conditions always holds
pub record ReserveNumbers (first end : ℕ) (page : List ℕ) (s outcome : ℕ) : Type 0 where
  pub seven : (outcome ≡ 7) ↔ (Serves first page → ⊥)
  pub nine : (outcome ≡ 9) ↔ (Serves first page × (s ≡ 0 → ⊥))
  pub eight : (outcome ≡ 8) ↔ (Serves first page × (s ≡ 0) × (end ≤ used page))
  pub done : (outcome ≡ 0) ↔ (Serves first page × (s ≡ 0) × (used page < end))

pub record MarkNumbers (page : List ℕ) (s outcome : ℕ) : Type 0 where
  pub seven : (outcome ≡ 7) ↔ (WellFormed page → ⊥)
  pub ten : (outcome ≡ 10) ↔ (WellFormed page × (Fits page s → ⊥))
  pub done : (outcome ≡ 0) ↔ (WellFormed page × Fits page s)

-- mark i was unused before and is used after, and no other mark differs
pub record OneMark (i : ℕ) (before after : List ℕ) : Type 0 where
  pub unused : mark_used before i ≡ false
  pub made_used : mark_used after i ≡ true
  pub others : (j : ℕ) → (j ≡ i → ⊥) → mark_used after j ≡ mark_used before j
  pub as_long : length after ≡ length before

-- the byte that reserving hands out, once stored, is what marking stores; marking the stored page answers 0 and changes nothing
pub record StoredByte (page : List ℕ) (r : Reserved) : Type 0 where
  pub marking : mark_of page r.session ≡ mark_end (marked 0 r.session) (set page r.place r.value)
  pub again : mark_of (set page r.place r.value) r.session ≡ mark_end (marked 0 r.session) (set page r.place r.value)
