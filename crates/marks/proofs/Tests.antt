-- Tests of numbers: two that agree at every number below a bound, by computing, and two that say the same.
use Rattle.std.proofs.Common.{◌≡◌, ℕ, ◌<◌, Bool, true, false, ltb, refl}
use Rattle.std.proofs.Math.Bool.{beq}
use Rattle.std.specs.Bool.{Decides}
use Rattle.std.proofs.lemmas.Bool.{agree_below}
use Rattle.std.proofs.lemmas.Bool.Decides.{same_from_decides, Decides-ltb, Decides-like, Decides-below_and}

beq_is : (a b : Bool) → Decides (beq a b) (a ≡ b)
beq_is true true = (λ e. refl, λ e. refl)
beq_is true false = (λ e. cc, λ e. cc)
beq_is false true = (λ e. cc, λ e. cc)
beq_is false false = (λ e. refl, λ e. refl)

pub agree_is : (f g : ℕ → Bool) (n : ℕ) → Decides (agree_below f g n) ((k : ℕ) → k < n → f k ≡ g k)
agree_is f g = Decides-below_and (λ k. beq (f k) (g k)) (λ k. f k ≡ g k) (agree_below f g) (λ k. beq_is (f k) (g k)) refl (λ n. refl)

-- the test f passes at every number below n
pub passes : (f : ℕ → Bool) (n : ℕ) → agree_below f (λ k. true) n ≡ true → (k : ℕ) → k < n → f k ≡ true
passes f n = (agree_is f (λ k. true) n).0

-- two orders that say the same have the same test
pub ltb_same : (a b c d : ℕ) → (a < b → c < d) → (c < d → a < b) → ltb a b ≡ ltb c d
ltb_same a b c d f g = same_from_decides _ _ (Decides-ltb a b) (Decides-like (ltb c d) g f (Decides-ltb c d))
