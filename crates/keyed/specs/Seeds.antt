-- The suite of a prepared seed, and its values in lists that hold them.
use Rattle.std.specs.Prelude.{List, ℕ, take}
use Rattle.lists.specs.Lists.{parts}
use Rattle.lists.specs.Fronts.{fronts}
use Rattle.rfc8391.specs.Suite.{Suite}
use Rattle.rfc8391.specs.Wots.{len}
use Rattle.keyed.specs.Suites.{suite}
use Rattle.keyed.specs.Held.{held_by}
use Rattle.keyed.specs.declared.Seed.{Seed}

-- the suite that a seed belongs to
abbrev pub suite_of : Seed → Suite
suite_of s = suite s.hash

-- a value of that suite, k values in the first of many places of 32 bytes, and those of all chains
abbrev pub held : Seed → List ℕ → List ℕ
held s x = held_by s.hash x

abbrev pub held_first : Seed → ℕ → List (List ℕ) → List (List ℕ)
held_first s k v = take k (fronts (suite_of s).n v)

abbrev pub held_all : Seed → List (List ℕ) → List (List ℕ)
held_all s v = held_first s (len (suite_of s)) v

-- k values that stand one behind the other
abbrev pub values_in : Seed → ℕ → List ℕ → List (List ℕ)
values_in s k b = parts (suite_of s).n k 0 b

-- the seed's own bytes
abbrev pub seed_of : Seed → List ℕ
seed_of s = held s s.bytes
