-- A hash that is taken up after whole blocks. FIPS 180-4 has no such part: `sha256_splits` ties it to the hash of the whole.
use Rattle.std.specs.Prelude.{ℕ, ◌+◌, ◌*◌, ◌/◌, List, ◌++◌, length}
use Rattle.sha256.specs.Sha256.{padding, hashed, digest}
use Rattle.sha256.specs.declared.State.{State}

-- the padded rest of a message whose first k blocks were hashed before
unfoldable pub padded_rest : ℕ → List ℕ → List ℕ
padded_rest k m = m ++ padding (64 * k + length m)

-- the hash of a message whose first k blocks led to the hash value s, and of which m is left
unfoldable pub finished : State → ℕ → List ℕ → List ℕ
finished s k m = digest (hashed (length (padded_rest k m) / 64) s (padded_rest k m))
