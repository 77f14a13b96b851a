-- RFC 8391, section 5.1: the keyed functions over SHA-256 with values of 32 bytes.
use Rattle.std.specs.Prelude.{List, ◌++◌, ℕ}
use Rattle.lists.specs.Bytes.{to_byte}
use Rattle.sha256.specs.Sha256.{sha256}

-- a function hashes its number in 32 bytes, the key, and what it is applied to
unfoldable pub keyed : ℕ → List ℕ → List ℕ → List ℕ
keyed number key m = sha256 (to_byte number 32 ++ (key ++ m))
