-- The nine bytes that are in order, by tests of every byte and every bit.
use Rattle.std.proofs.Common.{◌≡◌, ℕ, ◌+◌, ◌-◌, ◌/◌, ◌%◌, ◌^◌, ◌<◌, ◌≤◌, Bool, true, false, not, ◌||◌, eqb, ltb, refl, ap, arith, eqb-true}
use Rattle.std.proofs.Math.Nat.{div-eq_of_lt}
use Rattle.std.proofs.Math.Decide.{dec_le}
use Rattle.std.specs.Int.Count.{count_leading_zeros}
use Rattle.marks.specs.Page.{bit_used, cleared}
use Rattle.std.proofs.lemmas.Bool.{agree_below, false≢true, eqb-false}
use Rattle.marks.proofs.Tests.{agree_is, passes}

-- of a byte's marks the first z are used
abbrev firsts : ℕ → ℕ → Bool
firsts b z = agree_below (bit_used b) (λ k. ltb k z) 8

-- the marks of the byte with z used ones
pub bits_are : (z k : ℕ) → z < 9 → k < 8 → bit_used (255 / 2 ^ z) k ≡ ltb k z
unfolding bit_used
bits_are z k hz hk = (agree_is (bit_used (255 / 2 ^ z)) (λ j. ltb j z) 8).0 (passes (λ y. firsts (255 / 2 ^ y) y) 9 refl z hz) k hk

if_then : (a b : Bool) → (not a || b) ≡ true → a ≡ true → b ≡ true
if_then true b e h = e
if_then false b e h = absurd (false≢true h)

-- it is the only such byte
pub byte_is : (b z : ℕ) → b < 256 → z < 9 → ((k : ℕ) → k < 8 → bit_used b k ≡ ltb k z) → b ≡ 255 / 2 ^ z
unfolding bit_used
byte_is b z hb hz h =
    let test : ℕ → ℕ → Bool = λ c y. not (firsts c y) || eqb c (255 / 2 ^ y) in
    let t : test b z ≡ true = passes (test b) 9 (passes (λ c. agree_below (test c) (λ y. true) 9) 256 refl b hb) z hz in
    eqb-true _ _ (if_then (firsts b z) _ t ((agree_is (bit_used b) (λ k. ltb k z) 8).1 h))

-- its leading zeros are its used marks
pub leading_is : (z : ℕ) → z < 9 → count_leading_zeros 8 (255 / 2 ^ z) ≡ z
unfolding count_leading_zeros
leading_is z h = eqb-true _ _ (passes (λ y. eqb (count_leading_zeros 8 (255 / 2 ^ y)) y) 9 refl z h)

-- with its first unused mark used, it is the next one
pub next_byte : (k : ℕ) → k < 8 → cleared (255 / 2 ^ k) k ≡ 255 / 2 ^ (k + 1)
unfolding cleared
next_byte k h = eqb-true _ _ (passes (λ j. eqb (cleared (255 / 2 ^ j) j) (255 / 2 ^ (j + 1))) 8 refl k h)

-- the bit of mark k
pub bit_is : (k : ℕ) → k < 8 → 128 / 2 ^ k ≡ 2 ^ (7 - k)
bit_is k h = eqb-true _ _ (passes (λ j. eqb (128 / 2 ^ j) (2 ^ (7 - j))) 8 refl k h)

-- a byte whose mark k is unused has that bit
pub has_bit : (b k : ℕ) → bit_used b k ≡ false → 2 ^ (7 - k) ≤ b
unfolding bit_used
has_bit b k e = go (dec_le (2 ^ (7 - k)) b)
  where
    go : Dec (2 ^ (7 - k) ≤ b) → 2 ^ (7 - k) ≤ b
    go (yes h) = h
    go (no h) = let l : b < 2 ^ (7 - k) = omega arith in absurd (eqb-false _ _ e (ap (λ (x : ℕ). x % 2) (div-eq_of_lt l)))
