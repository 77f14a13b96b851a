-- Laws of numbers in bytes.
use Rattle.std.proofs.Common.{◌≡◌, ℕ, zero, suc, ◌+◌, ◌-◌, ◌*◌, ◌/◌, ◌%◌, ◌^◌, ◌<◌, ◌≤◌, List, [], ◌∷◌, ◌++◌, length, get_or, take, drop, replicate, sym, refl, ap, ◌∙◌, ap₂, le_refl, lt_of_lt_of_le, add_assoc, mul_assoc, zero-add, mul-suc, div-one, arith, length-drop, get_or-drop, take-suc, get_or-append-add, pow_mono, pow-add, shr-shr}
use Rattle.std.proofs.Math.Nat.{div-eq_of_lt, mod-one}
use Rattle.std.proofs.Math.ListN.{get_or-append}
use Rattle.std.proofs.Math.Pow.{field, mod-mod-pow, high, low}
use Rattle.std.proofs.lemmas.Nat.{mod-pow-add}
use Rattle.lists.specs.Bytes.{Bytes, to_byte, number}

-- x in n bytes has n
pub length-to_byte : (x n : ℕ) → length (to_byte x n) ≡ n
unfolding to_byte
length-to_byte x zero = refl
length-to_byte x (suc n) = ap suc (length-to_byte x n)

-- a number that lies in the first of two lists
pub number-front : (l r : List ℕ) (i n : ℕ) → i + n ≤ length l → number (l ++ r) i n ≡ number l i n
unfolding number
number-front l r i zero h = refl
number-front l r i (suc n) h =
    ap₂ (λ (x y : ℕ). x * 256 + y) (number-front l r i n (omega arith)) (get_or-append l r 0 (i + n) (omega arith))

-- a number that lies in the second
pub number_back : (l r : List ℕ) (i n : ℕ) → number (l ++ r) (length l + i) n ≡ number r i n
unfolding number
number_back l r i zero = refl
number_back l r i (suc n) =
    ap₂ (λ (x y : ℕ). x * 256 + y) (number_back l r i n)
    (ap (λ (k : ℕ). get_or (l ++ r) k 0) (add_assoc (length l) i n) ∙ get_or-append-add l r (i + n) 0)

-- a byte of x below 2 ^ (8 * n) is untouched by the bytes from there on
byte_mod : (x n k : ℕ) → k < n → x % 2 ^ (8 * n) / 2 ^ (8 * k) % 256 ≡ x / 2 ^ (8 * k) % 256
byte_mod x n k h =
    let j : ℕ = 8 * (n - k - 1) in
    let e : 8 * n ≡ j + 8 + 8 * k = omega arith in
    rw e (ap (λ (y : ℕ). y % 256) (field x (j + 8) (8 * k)) ∙ mod-mod-pow (x / 2 ^ (8 * k)) j 8)

to_byte-mod_le : (x n k : ℕ) → k ≤ n → to_byte (x % 2 ^ (8 * n)) k ≡ to_byte x k
unfolding to_byte
to_byte-mod_le x n zero h = refl
to_byte-mod_le x n (suc k) h = ap₂ (λ (b : ℕ) (l : List ℕ). b ∷ l) (byte_mod x n k h) (to_byte-mod_le x n k (omega arith))

-- the n bytes of x are those of x modulo 2 ^ (8 * n)
pub to_byte-mod : (x n : ℕ) → to_byte (x % 2 ^ (8 * n)) n ≡ to_byte x n
to_byte-mod x n = to_byte-mod_le x n n (le_refl n)

-- x in more bytes than it needs begins with zeros
pub to_byte_small : (x n k : ℕ) → x < 2 ^ (8 * n) → to_byte x (k + n) ≡ replicate k 0 ++ to_byte x n
unfolding to_byte
to_byte_small x n zero h = rw zero-add
to_byte_small x n (suc k) h =
    let b : x < 2 ^ (8 * (k + n)) = lt_of_lt_of_le h (pow_mono (omega arith)) in
    let e : suc k + n ≡ suc (k + n) = omega arith in
    rw (e, div-eq_of_lt b) (ap (λ (l : List ℕ). 0 ∷ l) (to_byte_small x n k h))

-- the number in a byte and n bytes more
number-cons : (b : ℕ) (l : List ℕ) (n : ℕ) → number (b ∷ l) 0 (suc n) ≡ b * 2 ^ (8 * n) + number l 0 n
unfolding number
number-cons b l zero = omega arith
number-cons b l (suc n) =
    let e : 2 ^ (8 * suc n) ≡ 2 ^ (8 * n) * 256 = rw (mul-suc) (pow-add 2 (8 * n) 8) in
    let z : 0 + suc n ≡ suc n = omega arith in
    let y : 0 + n ≡ n = omega arith in
    rw (number-cons b l n, e, z, y, ← mul_assoc b (2 ^ (8 * n)) 256) (omega arith)

-- the number in the bytes of x is x
pub number-to_byte : (x n : ℕ) → number (to_byte x n) 0 n ≡ x % 2 ^ (8 * n)
unfolding to_byte number
number-to_byte x zero = sym (mod-one x)
number-to_byte x (suc n) =
    let e : 8 * suc n ≡ 8 + 8 * n = omega arith in
    number-cons _ (to_byte x n) n ∙ rw (number-to_byte x n, e) (sym (mod-pow-add x 8 (8 * n)))

-- one byte more at the end
to_byte-snoc : (x b n : ℕ) → b < 256 → to_byte (x * 256 + b) (suc n) ≡ to_byte x n ++ (b ∷ [])
unfolding to_byte
to_byte-snoc x b zero h = rw (div-one, low x 8 h)
to_byte-snoc x b (suc n) h =
    let e : 8 * suc n ≡ 8 + 8 * n = omega arith in
    let q : (x * 256 + b) / 2 ^ (8 * suc n) ≡ x / 2 ^ (8 * n) =
    rw e (sym (shr-shr (x * 256 + b) 8 (8 * n)) ∙ ap (λ (y : ℕ). y / 2 ^ (8 * n)) (high x 8 h)) in
    ap₂ (λ (y : ℕ) (l : List ℕ). (y % 256) ∷ l) q (to_byte-snoc x b n h)

-- the bytes of the number in n bytes are these bytes
pub to_byte-number : (l : List ℕ) (i n : ℕ) → Bytes l → i + n ≤ length l → to_byte (number l i n) n ≡ take n (drop i l)
unfolding to_byte number Bytes
to_byte-number l i zero h q = refl
to_byte-number l i (suc n) h q =
    to_byte-snoc (number l i n) (get_or l (i + n) 0) n (h (i + n))
    ∙ rw (to_byte-number l i n h (omega arith)) (sym (take-suc (drop i l) n 0 (rw length-drop (omega arith)) ∙ rw get_or-drop))
