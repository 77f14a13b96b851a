-- What an operation answers: the number of the first refusal whose condition holds, in the customer's order.
use Rattle.std.specs.Prelude.{◌≡◌, List, [], ◌∷◌, ◌⊎◌, ℕ, zero, suc}
use Rattle.std.proofs.Common.{inl, inr}
use Rattle.outcomes.specs.Conditions.{Condition}

abbrev pub Refusals : Type 1
Refusals = List (Condition × ℕ)

-- a number where a condition holds, and another where it fails
abbrev pub decided : {A B : Type 0} → A ⊎ B → ℕ → ℕ → ℕ
decided (inl a) n m = n
decided (inr b) n m = m

-- the number of the first refusal whose condition holds, and 0 where none does
unfoldable pub outcome_of : Refusals → ℕ
outcome_of [] = 0
outcome_of (x ∷ l) = decided x.0.told x.1 (outcome_of l)

-- what is done where the outcome is 0, and what is answered with any other
abbrev pub unless : {A : Type 0} → ℕ → A → (ℕ → A) → A
unless zero done refused = done
unless (suc n) done refused = refused (suc n)

-- the number of the refusal at place k, 0 past the end
abbrev pub number_at : Refusals → ℕ → ℕ
number_at [] k = 0
number_at (x ∷ l) zero = x.1
number_at (x ∷ l) (suc k) = number_at l k

-- the condition at place k holds, and every earlier one fails
abbrev pub First : Refusals → ℕ → Type 0
First [] k = ⊥
First (x ∷ l) zero = x.0.Holds
First (x ∷ l) (suc k) = x.0.Fails × First l k

-- every condition fails
abbrev pub None : Refusals → Type 0
None [] = Unit {0}
None (x ∷ l) = x.0.Fails × None l

-- an outcome is the number at place k exactly when the condition there is the first that holds, and 0 exactly when none does
pub record Exactly (l : Refusals) (o : ℕ) : Type 0 where
  pub number : (k : ℕ) → First l k → o ≡ number_at l k
  pub done : None l → o ≡ 0
  pub cause : (o ≡ 0 → ⊥) → (k : ℕ) × First l k × (o ≡ number_at l k)
  pub clear : o ≡ 0 → None l
