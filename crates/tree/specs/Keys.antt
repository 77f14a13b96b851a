-- The leaves of a key by our rule for secret values, over the suite of its public seed.
use Rattle.std.specs.Prelude.{List, ℕ}
use Rattle.rfc8391.specs.House.{secrets}
use Rattle.rfc8391.specs.Xmss.{leaf_of}
use Rattle.rfc8391.specs.declared.Address.{Address}
use Rattle.keyed.specs.Seeds.{suite_of, held, seed_of}
use Rattle.keyed.specs.declared.Seed.{Seed}
use Rattle.tree.specs.declared.Tree.{Tree}

-- leaf i of the key with the secret seed sk_seed and the public seed s, at the address a
unfoldable pub leaf_at : List ℕ → Seed → Address → ℕ → List ℕ
leaf_at sk_seed s a = leaf_of (suite_of s) (seed_of s) a (secrets (suite_of s) sk_seed (seed_of s) a)

-- the leaves of a tree
abbrev pub leaves : Tree → ℕ → List ℕ
leaves t = leaf_at (held t.seed t.secret) t.seed t.at
