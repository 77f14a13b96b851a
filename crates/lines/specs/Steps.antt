-- A program as a step: a state takes a character of the input to the next state and to some output. Over any step.
use Rattle.std.specs.Prelude.{List, [], ◌∷◌, ◌++◌, ℕ}

-- a state, and the output that came on the way to it
pub record Stepped (S : Type 0) : Type 0 where
  pub to : S
  pub out : List ℕ

abbrev pub stepped : {S : Type 0} → S → List ℕ → Stepped S
stepped s o = record { to = s; out = o }

-- the same with output that came before
abbrev pub after : {S : Type 0} → List ℕ → Stepped S → Stepped S
after o t = stepped t.to (o ++ t.out)

module _ {S : Type 0} (step : S → ℕ → Stepped S) where
  -- all characters of an input, one after the other
  unfoldable pub run_of : S → List ℕ → Stepped S
  run_of s [] = stepped s []
  run_of s (c ∷ cs) = after (step s c).out (run_of (step s c).to cs)

  -- an input that comes in chunks: each is run from the state that the last one left
  unfoldable pub chunked : S → List (List ℕ) → Stepped S
  chunked s [] = stepped s []
  chunked s (c ∷ cs) = after (run_of s c).out (chunked (run_of s c).to cs)
