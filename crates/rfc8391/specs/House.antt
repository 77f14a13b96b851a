-- Our rule for secret values, of the kind that RFC 8391 suggests in 3.1.7 and 4.1.11: the leaf seed is PRF of the secret seed over
-- the leaf in 32 bytes, the secret value is PRF of the leaf seed over the chain in 32 bytes. Both numbers are words of the one-time address.
use Rattle.std.specs.Prelude.{List, ℕ}
use Rattle.lists.specs.Bytes.{to_byte}
use Rattle.rfc8391.specs.Suite.{Suite}
use Rattle.rfc8391.specs.Address.{set_chain_address}
use Rattle.rfc8391.specs.Xmss.{ots_at}
use Rattle.rfc8391.specs.declared.Address.{Address}

module _ (S : Suite) where
  -- of the secret seed, the public seed (which this rule does not use) and a chain's one-time address
  unfoldable pub secret_value : List ℕ → List ℕ → Address → List ℕ
  secret_value sk_seed seed a = S.PRF (S.PRF sk_seed (to_byte a.w4 32)) (to_byte a.w5 32)

  -- the secret value of chain c at leaf i
  unfoldable pub secrets : List ℕ → List ℕ → Address → ℕ → ℕ → List ℕ
  secrets sk_seed seed a i c = secret_value sk_seed seed (set_chain_address (ots_at a i) c)
