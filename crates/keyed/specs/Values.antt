-- Each keyed function gives a value of 32 bytes: what a suite has to show.
use Rattle.std.specs.Prelude.{List, ℕ}
use Rattle.rfc8391.specs.Suite.{Value}
use Rattle.sha256.proofs.Digests.{length-sha256, sha256_bytes}
use Rattle.keyed.specs.Keyed.{keyed}

pub keyed_value : (number : ℕ) (key m : List ℕ) → Value 32 (keyed number key m)
unfolding keyed
keyed_value number key m = record { size = length-sha256 _; bytes = sha256_bytes _ }
