-- Digits in a list: those of a value in front, and those of its checksum behind them.
use Rattle.std.proofs.Common.{◌≡◌, ℕ, ◌+◌, ◌-◌, ◌*◌, ◌^◌, ◌≤◌, List, [], ◌∷◌, ◌++◌, length, take, drop, refl, ap, ◌∙◌, append_assoc, arith, length-append, take_at}
use Rattle.std.specs.List.{fold, sum_by}
use Rattle.lists.specs.Bytes.{to_byte}
use Rattle.rfc8391.specs.Wots.{base_w, checksum, digits}
use Rattle.rfc8391.proofs.Digits.{length-base_w}

module _ (k : ℕ) (m z x : List ℕ) (ex : x ≡ base_w m k) where
  known : length x ≡ k
  known = ap (λ (l : List ℕ). length l) ex ∙ length-base_w m k

  pub front_written : take k (x ++ drop k z) ≡ base_w m k
  front_written = take_at x (drop k z) k known ∙ ex

  pub both_written : (y s rest : List ℕ) → y ≡ base_w s 3 → s ≡ to_byte (checksum (base_w m k) * 2 ^ 4) 2
      → take (k + 3) (take k (x ++ drop k z) ++ (y ++ rest)) ≡ digits k m
  unfolding digits
  both_written y s rest ey es =
      let l : length (base_w m k ++ base_w s 3) ≡ k + 3 = simp (length-append, length-base_w) in
      rw (front_written, ey, ← append_assoc (base_w m k) (base_w s 3) rest, take_at (base_w m k ++ base_w s 3) rest (k + 3) l, es) refl

-- the checksum is a sum over the digits, of at most 15 each
sum_from : (l : List ℕ) (k : ℕ) → fold (λ a d. a + (15 - d)) k l ≡ k + checksum l
unfolding checksum
sum_from [] k = omega arith
sum_from (d ∷ l) k = sum_from l (k + (15 - d)) ∙ omega arith

pub checksum_is : (l : List ℕ) → sum_by (λ d. 15 - d) l ≡ checksum l
checksum_is l = sum_from l 0 ∙ omega arith

pub checksum_most : (l : List ℕ) → checksum l ≤ 15 * length l
unfolding checksum
checksum_most [] = omega arith
checksum_most (d ∷ l) = omega (arith, checksum_most l)
