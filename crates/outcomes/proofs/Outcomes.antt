-- An outcome says exactly which condition is the first that holds: once, for every list of refusals.
use Rattle.std.proofs.Common.{◌≡◌, ℕ, zero, suc, ◌≤◌, Bool, true, false, not, ◌&&◌, eqb, leb, ◌⊎◌, ◌↔◌, [], ◌∷◌, sym, refl, ap, ◌∙◌, inl, inr, ⊎_elim, arith, leb-true}
use Rattle.std.proofs.lemmas.Bool.{and_parts, false≢true, eqb-false, not-true}
use Rattle.outcomes.specs.Conditions.{Condition}
use Rattle.outcomes.specs.Refused.{refusal_number}
use Rattle.outcomes.specs.declared.Refusal.{Refusal}
use Rattle.outcomes.specs.Outcome.{Refusals, outcome_of, unless, decided, number_at, First, None, Exactly}

decided_holds : (C : Condition) (n m : ℕ) → C.Holds → decided C.told n m ≡ n
decided_holds C n m h = go C.told
  where
    go : (t : C.Holds ⊎ C.Fails) → decided t n m ≡ n
    go (inl a) = refl
    go (inr b) = absurd (C.apart h b)

decided_fails : (C : Condition) (n m : ℕ) → C.Fails → decided C.told n m ≡ m
decided_fails C n m f = go C.told
  where
    go : (t : C.Holds ⊎ C.Fails) → decided t n m ≡ m
    go (inl a) = absurd (C.apart a f)
    go (inr b) = refl

-- the number at place k, where the condition there is the first that holds
pub outcome_at : (l : Refusals) (k : ℕ) → First l k → outcome_of l ≡ number_at l k
unfolding outcome_of
outcome_at [] k f = absurd f
outcome_at (x ∷ l) zero f = decided_holds x.0 x.1 (outcome_of l) f
outcome_at (x ∷ l) (suc k) f = decided_fails x.0 x.1 (outcome_of l) f.0 ∙ outcome_at l k f.1

-- 0 where none holds
pub outcome_none : (l : Refusals) → None l → outcome_of l ≡ 0
unfolding outcome_of
outcome_none [] h = refl
outcome_none (x ∷ l) h = decided_fails x.0 x.1 (outcome_of l) h.0 ∙ outcome_none l h.1

-- there is a first that holds, or none does
found : (l : Refusals) → ((k : ℕ) × First l k) ⊎ None l
found [] = inr tt
found (x ∷ l) = go x.0.told (found l)
  where
    go : x.0.Holds ⊎ x.0.Fails → ((k : ℕ) × First l k) ⊎ None l → ((k : ℕ) × First (x ∷ l) k) ⊎ None (x ∷ l)
    go (inl h) w = inl (0, h)
    go (inr f) (inl w) = inl (suc w.0, (f, w.1))
    go (inr f) (inr w) = inr (f, w)

-- the number n stands at no place; and at no place but k
abbrev pub absent : ℕ → Refusals → Bool
absent n [] = true
absent n (x ∷ l) = not (eqb x.1 n) && absent n l

abbrev pub only : ℕ → Refusals → ℕ → Bool
only n [] k = true
only n (x ∷ l) zero = absent n l
only n (x ∷ l) (suc k) = not (eqb x.1 n) && only n l k

unlike : (x n : ℕ) (b : Bool) → (not (eqb x n) && b) ≡ true → x ≡ n → ⊥
unlike x n b e = eqb-false x n (not-true (eqb x n) (and_parts _ _ e).0)

absent_at : (n : ℕ) (l : Refusals) → absent n l ≡ true → (k : ℕ) → First l k → number_at l k ≡ n → ⊥
absent_at n [] a k f e = f
absent_at n (x ∷ l) a zero f e = unlike x.1 n (absent n l) a e
absent_at n (x ∷ l) a (suc k) f e = absent_at n l (and_parts _ _ a).1 k f.1 e

-- where no refusal has the number 0, the outcome says exactly which condition is the first that holds
pub exactly : (l : Refusals) → absent 0 l ≡ true → Exactly l (outcome_of l)
exactly l z =
    record {
      number = outcome_at l;
      done = outcome_none l;
      cause = λ h. ⊎_elim (λ f. (f.0, f.1, outcome_at l f.0 f.1)) (λ n. absurd (h (outcome_none l n))) (found l);
      clear = λ e. ⊎_elim (λ f. absurd (absent_at 0 l z f.0 f.1 (sym (outcome_at l f.0 f.1) ∙ e))) (λ n. n) (found l);
    }

only_at : (n : ℕ) (l : Refusals) (k j : ℕ) → only n l k ≡ true → First l j → number_at l j ≡ n → First l k
only_at n [] k j u f e = f
only_at n (x ∷ l) zero zero u f e = f
only_at n (x ∷ l) zero (suc j) u f e = absurd (absent_at n l u j f.1 e)
only_at n (x ∷ l) (suc k) zero u f e = absurd (unlike x.1 n (only n l k) u e)
only_at n (x ∷ l) (suc k) (suc j) u f e = (f.0, only_at n l k j (and_parts _ _ u).1 f.1 e)

-- a number other than 0 that stands at place k alone is given only where the condition there is the first that holds
pub outcome_back : (l : Refusals) (k n : ℕ) → (n ≡ 0 → ⊥) → only n l k ≡ true → outcome_of l ≡ n → First l k
outcome_back l k n z u e =
    ⊎_elim
    (λ f. only_at n l k f.0 u f.1 (sym (outcome_at l f.0 f.1) ∙ e))
    (λ w. absurd (z (sym e ∙ outcome_none l w)))
    (found l)

-- no number of the list is over b
abbrev pub at_most : ℕ → Refusals → Bool
at_most b [] = true
at_most b (x ∷ l) = leb x.1 b && at_most b l

-- an outcome is one of the list's numbers or 0, and so not over b where none of them is
pub outcome_most : (l : Refusals) (b : ℕ) → at_most b l ≡ true → outcome_of l ≤ b
unfolding outcome_of
outcome_most [] b e = omega arith
outcome_most (x ∷ l) b e = go x.0.told (outcome_most l b (and_parts _ _ e).1)
  where
    go : (t : x.0.Holds ⊎ x.0.Fails) → outcome_of l ≤ b → decided t x.1 (outcome_of l) ≤ b
    go (inl h) w = leb-true x.1 b (and_parts _ _ e).0
    go (inr f) w = w

-- what an operation gives where the condition at place k is the first that holds, and where none holds
pub unless_at : {A : Type 0} (done : A) (refused : ℕ → A) (l : Refusals) (k : ℕ) → First l k → unless (number_at l k) done refused ≡ unless (outcome_of l) done refused
unless_at done refused l k f = ap (λ (o : ℕ). unless o done refused) (sym (outcome_at l k f))

pub unless_none : {A : Type 0} (done : A) (refused : ℕ → A) (l : Refusals) → None l → done ≡ unless (outcome_of l) done refused
unless_none done refused l n = ap (λ (o : ℕ). unless o done refused) (sym (outcome_none l n))

-- a refusal has a number
pub numbered : (r : Refusal) → refusal_number r ≡ 0 → ⊥
numbered r = grind arith

-- the same by the number that is known
pub unless_done : {A : Type 0} (done : A) (refused : ℕ → A) (o : ℕ) → 0 ≡ o → done ≡ unless o done refused
unless_done done refused o e = rw (← e)

pub unless_refused : {A : Type 0} (done : A) (refused : ℕ → A) (n o : ℕ) → (n ≡ 0 → ⊥) → n ≡ o → refused n ≡ unless o done refused
unless_refused done refused n o z e = rw (← e) (go n z)
  where
    go : (n : ℕ) → (n ≡ 0 → ⊥) → refused n ≡ unless n done refused
    go zero z = absurd (z refl)
    go (suc k) z = refl

-- a number other than 0 that stands at place k alone: given exactly when the condition there is the first that holds; and 0
pub at_place : (l : Refusals) (k n : ℕ) → (n ≡ 0 → ⊥) → only n l k ≡ true → number_at l k ≡ n → (outcome_of l ≡ n) ↔ First l k
at_place l k n z u e = (outcome_back l k n z u, λ f. outcome_at l k f ∙ e)

pub at_none : (l : Refusals) → absent 0 l ≡ true → (outcome_of l ≡ 0) ↔ None l
at_none l z = ((exactly l z).clear, outcome_none l)

-- the outcome of an operation whose answer carries it
pub unless_outcome : {A : Type 0} (number : A → ℕ) (done : A) (refused : ℕ → A) (o : ℕ) → number done ≡ 0 → ((k : ℕ) → number (refused k) ≡ k) → number (unless o done refused) ≡ o
unless_outcome number done refused zero d r = d
unless_outcome number done refused (suc o) d r = r (suc o)
