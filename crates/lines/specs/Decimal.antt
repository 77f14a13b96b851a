-- Numbers as decimal text, and lines of them.
use Rattle.std.specs.Prelude.{List, [], ◌∷◌, ◌++◌, ℕ, zero, suc, ◌/◌, ltb}
use Rattle.io.specs.Digits.{last_digits}
use Rattle.lists.specs.Lists.{pick}

-- how many decimal digits n has, where it has no more than fuel + 1
unfoldable pub places : ℕ → ℕ → ℕ
places zero n = 1
places (suc fuel) n = pick (ltb n 10) 1 (suc (places fuel (n / 10)))

-- a number of at most 20 digits, without zeros in front
unfoldable pub decimal : ℕ → List ℕ
decimal n = last_digits 10 (places 20 n) n

-- numbers with a space between, then a line feed
unfoldable pub numbers_line : List ℕ → List ℕ
numbers_line [] = 10 ∷ []
numbers_line (n ∷ []) = decimal n ++ (10 ∷ [])
numbers_line (n ∷ m ∷ ns) = decimal n ++ (32 ∷ numbers_line (m ∷ ns))
