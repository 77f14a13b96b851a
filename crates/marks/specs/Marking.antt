-- Counting, reserving and marking: refusals in the customer's order, and the answers.
use Rattle.std.specs.Prelude.{List, [], ◌∷◌, ℕ, ◌+◌, ◌-◌, ◌/◌, ◌%◌, ◌^◌, get_or, eqb, Option, Some, None}
use Rattle.std.proofs.Math.Decide.{ℕ_discrete}
use Rattle.std.specs.Int.Count.{count_leading_zeros}
use Rattle.lists.specs.Lists.{pick}
use Rattle.outcomes.specs.Conditions.{is_not, unequal, or_more}
use Rattle.outcomes.specs.Outcome.{Refusals, outcome_of, unless}
use Rattle.marks.specs.Page.{used, WellFormed, Serves, Fits, cleared, with_mark}
use Rattle.marks.specs.Decisions.{well_formed?, serves?, fits?}
use Rattle.marks.specs.declared.Reserved.{Reserved}
use Rattle.marks.specs.declared.Marked.{Marked}

-- the count n where what was counted is in order
abbrev pub tally : {A : Type 0} → Dec A → ℕ → Option ℕ
tally (yes a) n = Some n
tally (no a) n = None

-- the used marks of a byte are its leading zeros, where it is in order
unfoldable pub byte_count : ℕ → Option ℕ
byte_count b = tally (ℕ_discrete b (255 / 2 ^ count_leading_zeros 8 b)) (count_leading_zeros 8 b)

-- the used marks of a page
unfoldable pub count_of : List ℕ → Option ℕ
count_of page = tally (well_formed? page) (used page)

abbrev pub reserved : ℕ → ℕ → ℕ → ℕ → Reserved
reserved o s p v = record { outcome = o; session = s; place = p; value = v }

-- over the first index and the end of the indices, which are 0 and 1,024
module _ (first end : ℕ) where
  unfoldable pub reserve_refusals : List ℕ → ℕ → Refusals
  reserve_refusals page s =
      (is_not (Serves first page) (serves? first page), 7)
      ∷ (unequal s 0, 9)
      ∷ (or_more end (used page), 8)
      ∷ []

  -- the session for the first unused index, with the place of its byte and the byte's new value
  unfoldable pub reserve_of : List ℕ → ℕ → Reserved
  reserve_of page s =
      unless (outcome_of (reserve_refusals page s))
      (reserved 0 (used page + 1) (used page / 8) (cleared (get_or page (used page / 8) 0) (used page % 8)))
      (λ o. reserved o s 0 0)

abbrev pub marked : ℕ → ℕ → Marked
marked o s = record { outcome = o; session = s }

unfoldable pub mark_refusals : List ℕ → ℕ → Refusals
mark_refusals page s =
    (is_not (WellFormed page) (well_formed? page), 7)
    ∷ (is_not (Fits page s) (fits? page s), 10)
    ∷ []

-- what marking answers, and the page that it leaves
pub record MarkEnd : Type 0 where
  pub answer : Marked
  pub page : List ℕ

abbrev pub mark_end : Marked → List ℕ → MarkEnd
mark_end a p = record { answer = a; page = p }

-- mark s - 1 made used where it is the first unused one, and the page as it is where it is used already
unfoldable pub mark_of : List ℕ → ℕ → MarkEnd
mark_of page s =
    unless (outcome_of (mark_refusals page s))
    (mark_end (marked 0 s) (pick (eqb (used page) (s - 1)) (with_mark page (s - 1)) page))
    (λ o. mark_end (marked o s) page)
