-- The one-time scheme WOTS+ of RFC 8391, section 3, at w = 16, over any suite with values of 9 to 136 bytes: there len_2 is 3.
use Rattle.std.specs.Prelude.{List, [], ◌∷◌, ◌++◌, ℕ, ◌+◌, ◌-◌, ◌*◌, ◌/◌, ◌%◌, ◌^◌, get_or}
use Rattle.lists.specs.Lists.{tab, turns}
use Rattle.lists.specs.Bytes.{to_byte}
use Rattle.rfc8391.specs.Suite.{Suite, xor}
use Rattle.rfc8391.specs.Address.{set_chain_address, set_hash_address, set_key_and_mask, address_bytes}
use Rattle.rfc8391.specs.declared.Address.{Address}

-- 2.6, Algorithm 1: the first k digits of the bytes x, two a byte, the high half first
unfoldable pub base_w : List ℕ → ℕ → List ℕ
base_w x k = tab k (λ i. get_or x (i / 2) 0 / 16 ^ (1 - i % 2) % 16)

-- the sum of 15 - digit, and the sum of the digits
unfoldable pub checksum : List ℕ → ℕ
checksum [] = 0
checksum (d ∷ l) = (15 - d) + checksum l

unfoldable pub total : List ℕ → ℕ
total [] = 0
total (d ∷ l) = d + total l

-- 3.1.5, Algorithm 5: the k digits of a value m, and three of their checksum, which is shifted left by 4 to fill two bytes
unfoldable pub digits : ℕ → List ℕ → List ℕ
digits k m = base_w m k ++ base_w (to_byte (checksum (base_w m k) * 2 ^ 4) 2) 3

module _ (S : Suite) where
  -- 3.1.1: len_1, the digits of a value, and len, the number of chains
  abbrev pub len₁ : ℕ
  len₁ = 2 * S.n

  abbrev pub len : ℕ
  len = 2 * S.n + 3

  -- every key and mask: PRF of the public seed over an address
  abbrev pub prf_at : List ℕ → Address → List ℕ
  prf_at seed a = S.PRF seed (address_bytes a)

  module _ (seed : List ℕ) where
    -- 3.1.2, Algorithm 2: one step of a chain, at position j; and s steps from position i on, where i + s is at most 15
    unfoldable pub step : Address → ℕ → List ℕ → List ℕ
    step a j x =
        S.F (prf_at seed (set_key_and_mask (set_hash_address a j) 0)) (xor S.n x (prf_at seed (set_key_and_mask (set_hash_address a j) 1)))

    unfoldable pub chain : Address → List ℕ → ℕ → ℕ → List ℕ
    chain a x i s = turns s (λ k v. step a (i + k) v) x

    -- 3.1.4, Algorithm 4: the public key of the secret values sk
    unfoldable pub wots_pk : Address → (ℕ → List ℕ) → List (List ℕ)
    wots_pk a sk = tab len (λ c. chain (set_chain_address a c) (sk c) 0 15)

    -- 3.1.5, Algorithm 5: the signature of a value m
    unfoldable pub wots_sign : Address → List ℕ → (ℕ → List ℕ) → List (List ℕ)
    wots_sign a m sk = tab len (λ c. chain (set_chain_address a c) (sk c) 0 (get_or (digits len₁ m) c 0))

    -- 3.1.6, Algorithm 6: the public key from the signature of a value m
    unfoldable pub wots_pk_from_sig : Address → List ℕ → List (List ℕ) → List (List ℕ)
    wots_pk_from_sig a m sig =
        tab len (λ c. chain (set_chain_address a c) (get_or sig c []) (get_or (digits len₁ m) c 0) (15 - get_or (digits len₁ m) c 0))
