-- Conditions of refusal: what it means that one holds, and that it fails.
use Rattle.std.specs.Prelude.{◌≡◌, ◌⊎◌, ℕ, ◌<◌, ◌≤◌}
use Rattle.std.proofs.Common.{inl, inr, arith}
use Rattle.std.proofs.Math.Decide.{ℕ_discrete, dec_le}

-- of every condition one of the two is told, and never are both true
pub record Condition : Type 1 where
  pub Holds : Type 0
  pub Fails : Type 0
  pub told : Holds ⊎ Fails
  pub apart : Holds → Fails → ⊥

unfoldable pub told_of : {A : Type 0} → Dec A → A ⊎ (A → ⊥)
told_of (yes a) = inl a
told_of (no n) = inr n

unfoldable pub told_not : {A : Type 0} → Dec A → (A → ⊥) ⊎ A
told_not (yes a) = inr a
told_not (no n) = inl n

unfoldable pub told_over : (a b : ℕ) → Dec (b ≤ a) → (a < b) ⊎ (b ≤ a)
told_over a b (yes h) = inr h
told_over a b (no n) = inl (omega arith)

unfoldable pub told_under : (a b : ℕ) → Dec (a ≤ b) → (a ≤ b) ⊎ (b < a)
told_under a b (yes h) = inl h
told_under a b (no n) = inr (omega arith)

-- A, by a decision of it
abbrev pub is : (A : Type 0) → Dec A → Condition
is A d = record { Holds = A; Fails = A → ⊥; told = told_of d; apart = λ a n. n a }

-- not A
abbrev pub is_not : (A : Type 0) → Dec A → Condition
is_not A d = record { Holds = A → ⊥; Fails = A; told = told_not d; apart = λ n a. n a }

-- a number that is not the one that it should be
abbrev pub unequal : ℕ → ℕ → Condition
unequal a b = is_not (a ≡ b) (ℕ_discrete a b)

-- a number over a limit; and one of the limit or more
abbrev pub over : ℕ → ℕ → Condition
over limit x =
    record { Holds = limit < x; Fails = x ≤ limit; told = told_over limit x (dec_le x limit); apart = λ h f. omega arith }

abbrev pub or_more : ℕ → ℕ → Condition
or_more limit x = record { Holds = limit ≤ x; Fails = x < limit; told = told_under limit x (dec_le limit x); apart = λ h f. omega arith }
