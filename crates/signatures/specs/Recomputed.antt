-- The root to which a signature leads, at the hash and the height of the key's type.
use Rattle.std.specs.Prelude.{List, ℕ}
use Rattle.rfc8391.specs.Suite.{Suite}
use Rattle.rfc8391.specs.Xmss.{recomputed_root}
use Rattle.rfc8391.specs.Formats.{value_length, key_from, signature_from, single_tree}
use Rattle.rfc8391.specs.declared.Hash.{Hash}
use Rattle.keyed.specs.Suites.{suite}

-- over a suite, read with values of n bytes
abbrev pub root_by : Suite → ℕ → ℕ → List ℕ → List ℕ → List ℕ → List ℕ
root_by S n h key m sig = recomputed_root S single_tree h (key_from n key) m (signature_from n h sig)

abbrev pub recomputed : Hash → ℕ → List ℕ → List ℕ → List ℕ → List ℕ
recomputed hash h key m sig = root_by (suite hash) (value_length hash) h key m sig
