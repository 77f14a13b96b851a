-- Numbers in bytes, the most significant byte first. A byte is a number below 256.
use Rattle.std.specs.Prelude.{List, [], ◌∷◌, ℕ, zero, suc, ◌+◌, ◌*◌, ◌/◌, ◌%◌, ◌^◌, ◌<◌, get_or}

-- every element is a byte (past the end `get_or` reads 0, which is one)
unfoldable pub Bytes : List ℕ → Type 0
Bytes l = (i : ℕ) → get_or l i 0 < 256

-- RFC 8391, 2.4: the n bytes of x; of an x of 2 ^ (8 * n) or more, the last n of its bytes
unfoldable pub to_byte : ℕ → ℕ → List ℕ
to_byte x zero = []
to_byte x (suc n) = (x / 2 ^ (8 * n) % 256) ∷ to_byte x n

-- the number in the n bytes of l from place i on
unfoldable pub number : List ℕ → ℕ → ℕ → ℕ
number l i zero = 0
number l i (suc n) = number l i n * 256 + get_or l (i + n) 0
