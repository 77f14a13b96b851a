-- A hash suite: the keyed functions of RFC 8391, sections 3.1.1 and 4.1.2, with what is known of any of them.
use Rattle.std.specs.Prelude.{◌≡◌, ℕ, ◌<◌, List, [], length, get_or, bit_xor}
use Rattle.lists.specs.Bytes.{Bytes}
use Rattle.lists.specs.Lists.{tab}

-- a value of n bytes
pub record Value (n : ℕ) (v : List ℕ) : Type 0 where
  pub size : length v ≡ n
  pub bytes : Bytes v

-- a list of such values
unfoldable pub Values : ℕ → List (List ℕ) → Type 0
Values n l = (i : ℕ) → i < length l → Value n (get_or l i [])

pub record Suite : Type 0 where
  -- the bytes of a value
  pub n : ℕ
  -- each takes a key and data: n bytes to n, 2 * n bytes to n, a message to n, an address or an index to n
  pub F : List ℕ → List ℕ → List ℕ
  pub H : List ℕ → List ℕ → List ℕ
  pub Hmsg : List ℕ → List ℕ → List ℕ
  pub PRF : List ℕ → List ℕ → List ℕ
  -- and each gives a value
  pub F_value : (k m : List ℕ) → Value n (F k m)
  pub H_value : (k m : List ℕ) → Value n (H k m)
  pub Hmsg_value : (k m : List ℕ) → Value n (Hmsg k m)
  pub PRF_value : (k m : List ℕ) → Value n (PRF k m)

-- the exclusive or of two values of n bytes, byte by byte
unfoldable pub xor : ℕ → List ℕ → List ℕ → List ℕ
xor n x y = tab n (λ i. bit_xor (get_or x i 0) (get_or y i 0))
