-- A value of a hash's suite is held in 32 bytes, of which the first n count.
use Rattle.std.specs.Prelude.{List, ℕ, take}
use Rattle.rfc8391.specs.declared.Hash.{Hash}
use Rattle.keyed.specs.Suites.{suite}

abbrev pub held_by : Hash → List ℕ → List ℕ
held_by hash x = take (suite hash).n x
