-- What the library's methods for the bytes of a number say, in the words of `specs/Bytes.antt`.
use Rattle.std.proofs.Common.{◌≡◌, ℕ, zero, suc, ◌+◌, ◌*◌, ◌/◌, ◌%◌, ◌^◌, List, [], ◌∷◌, get_or, sym, refl, ap, ap₂, add-zero, pow-suc, mul-suc, div-one, arith, pow-add}
use Rattle.std.specs.Int.{w32, from_be_bytes, bytes_high_first, byte_at}
use Rattle.lists.specs.Bytes.{to_byte, number}

-- a byte's worth, as a power of two
byte_power : (k : ℕ) → 256 ^ k ≡ 2 ^ (8 * k)
byte_power zero = refl
byte_power (suc k) = rw (mul-suc, pow-add 2 (8 * k) 8, ← byte_power k, pow-suc)

low_bytes : (x k : ℕ) → x / 2 ^ (8 * k) % 256 ≡ byte_at k x
low_bytes x zero = rw div-one
low_bytes x (suc k) = ap (λ (p : ℕ). x / p % 256) (sym (byte_power (suc k)))

-- `to_be_bytes`, of any width
pub to_byte_is : (x n : ℕ) → to_byte x n ≡ bytes_high_first n x
unfolding to_byte
to_byte_is x zero = refl
to_byte_is x (suc n) = ap₂ (λ (b : ℕ) (l : List ℕ). b ∷ l) (low_bytes x n) (to_byte_is x n)

-- `u32::from_be_bytes`
pub from_be_number : (l : List ℕ) (i : ℕ)
    → from_be_bytes w32 (get_or l i 0 ∷ get_or l (i + 1) 0 ∷ get_or l (i + 2) 0 ∷ get_or l (i + 3) 0 ∷ []) ≡ number l i 4
unfolding number
from_be_number l i = simp add-zero (omega arith)
