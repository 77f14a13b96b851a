-- What reserving and marking leave as it was, and the index that reserving hands out, by their definitions.
use Rattle.std.proofs.Common.{◌≡◌, ℕ, zero, suc, ◌+◌, ◌-◌, ◌/◌, ◌%◌, eqb, List, get_or, sym, refl, ap, arith}
use Rattle.std.proofs.Math.Decide.{ℕ_discrete}
use Rattle.lists.specs.Lists.{pick}
use Rattle.outcomes.specs.Outcome.{outcome_of, unless}
use Rattle.marks.specs.Page.{used, cleared, with_mark}
use Rattle.marks.specs.Marking.{reserved, reserve_refusals, reserve_of, MarkEnd, marked, mark_end, mark_refusals, mark_of}
use Rattle.marks.specs.declared.Reserved.{Reserved}
use Rattle.marks.proofs.Answers as answers
use Rattle.marks.proofs.Marking.{mark_numbers}

module _ (page : List ℕ) (s : ℕ) where
  -- what is handed out where nothing refuses
  next : Reserved
  next = reserved 0 (used page + 1) (used page / 8) (cleared (get_or page (used page / 8) 0) (used page % 8))

  pub reserve_refused : ((reserve_of 0 1024 page s).outcome ≡ 0 → ⊥) →
      ((reserve_of 0 1024 page s).session ≡ s) × ((reserve_of 0 1024 page s).place ≡ 0) × ((reserve_of 0 1024 page s).value ≡ 0)
  unfolding reserve_of next
  reserve_refused = go (outcome_of (reserve_refusals 0 1024 page s))
    where
      go : (o : ℕ) → ((unless o next (λ k. reserved k s 0 0)).outcome ≡ 0 → ⊥) →
          ((unless o next (λ k. reserved k s 0 0)).session ≡ s) × ((unless o next (λ k. reserved k s 0 0)).place ≡ 0) × ((unless o next (λ k. reserved k s 0 0)).value ≡ 0)
      go zero n = absurd (n refl)
      go (suc o) n = (refl, refl, refl)

  pub reserve_first : (reserve_of 0 1024 page s).outcome ≡ 0 → ((reserve_of 0 1024 page s).session ≡ used page + 1) × ((reserve_of 0 1024 page s).place ≡ used page / 8)
  unfolding reserve_of next
  reserve_first = go (outcome_of (reserve_refusals 0 1024 page s))
    where
      go : (o : ℕ) → (unless o next (λ k. reserved k s 0 0)).outcome ≡ 0 →
          ((unless o next (λ k. reserved k s 0 0)).session ≡ used page + 1) × ((unless o next (λ k. reserved k s 0 0)).place ≡ used page / 8)
      go zero e = (refl, refl)
      go (suc o) e = absurd (omega arith)

  -- where nothing refuses
  stored : MarkEnd
  stored = mark_end (marked 0 s) (pick (eqb (used page) (s - 1)) (with_mark page (s - 1)) page)

  pub mark_refused : ((mark_of page s).answer.session ≡ s) × (((mark_of page s).answer.outcome ≡ 0 → ⊥) → (mark_of page s).page ≡ page)
  unfolding mark_of stored
  mark_refused = go (outcome_of (mark_refusals page s))
    where
      go : (o : ℕ) → ((unless o stored (λ k. mark_end (marked k s) page)).answer.session ≡ s) × (((unless o stored (λ k. mark_end (marked k s) page)).answer.outcome ≡ 0 → ⊥) → (unless o stored (λ k. mark_end (marked k s) page)).page ≡ page)
      go zero = (refl, λ n. absurd (n refl))
      go (suc o) = (refl, λ n. refl)

  pub mark_again : used page ≡ s → (mark_of page s).page ≡ page
  mark_again e = go (ℕ_discrete (mark_of page s).answer.outcome 0)
    where
      go : Dec ((mark_of page s).answer.outcome ≡ 0) → (mark_of page s).page ≡ page
      go (no n) = mark_refused.1 n
      go (yes z) = let f = (mark_numbers page s).done.0 z in ap (λ (x : MarkEnd). x.page) (sym (answers.mark_again page s (used page) f.0 refl f.1.0 e))
