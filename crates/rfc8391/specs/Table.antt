-- The customer's table of proved examples, rows 1 to 7: what the definitions give there.
use Rattle.std.specs.Prelude.{◌≡◌, List, [], ◌∷◌, ℕ, length, drop, replicate, Some}
use Rattle.lists.specs.Lists.{tab}
use Rattle.rfc8391.specs.Suite.{Suite}
use Rattle.rfc8391.specs.Wots.{checksum, total, digits}
use Rattle.rfc8391.specs.Xmss.{path_position, ltree_rounds}
use Rattle.rfc8391.specs.Formats.{key_type}
use Rattle.rfc8391.specs.declared.Address.{Address}
use Rattle.rfc8391.specs.declared.Hash.TheVariants.{Sha2}

-- a digest's last three digits, the steps of signing (the sum of its digits) and those of checking (15 less each)
pub record Digits (digest last : List ℕ) (signing checking : ℕ) : Type 0 where
  pub last_three : drop 64 (digits 64 digest) ≡ last
  pub signing_steps : total (digits 64 digest) ≡ signing
  pub checking_steps : checksum (digits 64 digest) ≡ checking

-- a type's height and the length of its signatures
abbrev Length : ℕ → ℕ → ℕ → Type 0
Length type height bytes = key_type type ≡ Some (record { hash = Sha2; height = height; length = bytes })

-- how many values an L-tree over any 67 has before each round and at its end
abbrev Widths : List ℕ → Type 0
Widths l =
    (S : Suite) (seed : List ℕ) (a : Address) (v : List (List ℕ)) → length v ≡ 67
    → tab 8 (λ k. length (ltree_rounds S seed a k v)) ≡ l

pub record SchemeRows : Type 0 where
  pub row_1 : Digits (replicate 32 0x00) (3 ∷ 12 ∷ 0 ∷ []) 15 990
  pub row_2 : Digits (replicate 32 0xff) (0 ∷ 0 ∷ 0 ∷ []) 960 45
  pub row_3 : Digits (replicate 32 0x88) (1 ∷ 12 ∷ 0 ∷ []) 525 480
  pub row_4 : Digits (0x10 ∷ replicate 31 0x00) (3 ∷ 11 ∷ 15 ∷ []) 30 975
  pub row_5 : Length 1 10 2500 × Length 2 16 2692 × Length 3 20 2820
  pub row_6 : Widths (67 ∷ 34 ∷ 17 ∷ 9 ∷ 5 ∷ 3 ∷ 2 ∷ 1 ∷ [])
  pub row_7 : tab 10 (path_position 5) ≡ 4 ∷ 3 ∷ 0 ∷ 1 ∷ 1 ∷ 1 ∷ 1 ∷ 1 ∷ 1 ∷ 1 ∷ []
