-- The secret values of a leaf, by what is prepared once for all of them.
use Rattle.std.specs.Prelude.{List, ℕ}
use Rattle.rfc8391.specs.Address.{set_chain_address}
use Rattle.rfc8391.specs.House.{secret_value}
use Rattle.keyed.specs.Seeds.{suite_of, held, seed_of}
use Rattle.onetime.specs.declared.Secrets.{Secrets}

-- the secret value of chain c
unfoldable pub value_of : Secrets → ℕ → List ℕ
value_of x c = secret_value (suite_of x.seed) (held x.seed x.secret) (seed_of x.seed) (set_chain_address x.at c)
