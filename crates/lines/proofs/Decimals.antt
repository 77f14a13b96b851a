-- Decimal text is what the kit's `io` writes: the fewest digits that hold a number are as many as `places` counts.
use Rattle.std.proofs.Common.{◌≡◌, ℕ, zero, suc, ◌-◌, ◌*◌, ◌/◌, ◌^◌, ◌<◌, ◌≤◌, Bool, true, false, ltb, refl, ap, ◌∙◌, le_trans, le_antisymm, arith, lit<, lit≤, ltb-false, ltb-true}
use Rattle.std.proofs.Math.Nat.{pow-succ', pow-le-pow_right}
use Rattle.std.proofs.Math.Decide.{dec_le}
use Rattle.io.specs.Digits.{last_digits, IsDigitCount}
use Rattle.lists.specs.Lists.{pick}
use Rattle.lines.specs.Decimal.{places, decimal}

-- a number below 10 ^ f has at most f digits
fewest_le : (n k f : ℕ) → IsDigitCount 10 1 n k → n < 10 ^ f → 1 ≤ f → k ≤ f
fewest_le n k f w h l = go (dec_le k f)
  where
    go : Dec (k ≤ f) → k ≤ f
    go (yes p) = p
    go (no p) =
        let a : f ≤ k - 1 = omega arith in
        let b : 1 < k = omega arith in
        let q : 10 ^ f ≤ n = le_trans (pow-le-pow_right {n = 10} (lit< tt) a) (w.2 b) in
        absurd (omega arith)

fewest_same : (n k m : ℕ) → IsDigitCount 10 1 n k → IsDigitCount 10 1 n m → k ≡ m
fewest_same n k m a b = le_antisymm (fewest_le n k m a b.1 b.0) (fewest_le n m k b a.1 a.0)

-- one digit more
more : (n p : ℕ) → 10 ≤ n → IsDigitCount 10 1 (n / 10) p → IsDigitCount 10 1 n (suc p)
more n p h w =
    let up : 10 ^ suc p ≡ 10 * 10 ^ p = pow-succ' 10 p in
    let b : n / 10 < 10 ^ p = w.1 in
    let one : 1 ≤ p = w.0 in
    let low : 10 ^ (p - 1) ≤ n / 10 = go (dec_le 2 p) in
    let e : p ≡ suc (p - 1) = omega arith in
    let eq : 10 ^ p ≡ 10 * 10 ^ (p - 1) = ap (λ (x : ℕ). 10 ^ x) e ∙ pow-succ' 10 (p - 1) in
    let d : suc p - 1 ≡ p = omega arith in
    (omega arith, omega arith, λ _. rw (d, eq) (omega arith))
  where
    go : Dec (2 ≤ p) → 10 ^ (p - 1) ≤ n / 10
    go (yes q) = w.2 q
    go (no q) =
        let one : 1 ≤ p = w.0 in
        let z : p - 1 ≡ 0 = omega arith in
        rw z (omega arith)

places_fewest : (f n : ℕ) → n < 10 ^ f → IsDigitCount 10 1 n (places f n)
unfolding places
places_fewest zero n h = (omega arith, omega arith, λ p. absurd (omega arith))
places_fewest (suc f) n h =
    let up : 10 ^ suc f ≡ 10 * 10 ^ f = pow-succ' 10 f in
    let l : n / 10 < 10 ^ f = omega arith in
    go (ltb n 10) refl (places_fewest f (n / 10) l)
  where
    go : (t : Bool) → ltb n 10 ≡ t → IsDigitCount 10 1 (n / 10) (places f (n / 10)) → IsDigitCount 10 1 n (pick t 1 (suc (places f (n / 10))))
    go true e w = (omega arith, ltb-true n 10 e, λ p. absurd (omega arith))
    go false e w = more n (places f (n / 10)) (ltb-false n 10 e) w

-- what `io::decimal` writes
pub decimal_is : (n k : ℕ) → n < 2 ^ 64 → IsDigitCount 10 1 n k → last_digits 10 k n ≡ decimal n
unfolding decimal
decimal_is n k h w =
    let l : n < 10 ^ 20 = omega arith in
    ap (λ (x : ℕ). last_digits 10 x n) (fewest_same n k (places 20 n) w (places_fewest 20 n l))

pub decimal_le : (n k : ℕ) → n < 2 ^ 64 → IsDigitCount 10 1 n k → k ≤ 20
decimal_le n k h w = let l : n < 10 ^ 20 = omega arith in fewest_le n k 20 w l (lit≤ tt)
