-- A leaf of a tree over the suite of SHA-256 is the leaf of RFC 8391 over that suite.
use Rattle.std.proofs.Common.{◌≡◌, ℕ, List, length, take, ◌∙◌}
use Rattle.rfc8391.specs.Suite.{Suite}
use Rattle.rfc8391.specs.House.{secrets}
use Rattle.rfc8391.specs.Xmss.{leaf_of}
use Rattle.rfc8391.specs.Formats.{single_tree}
use Rattle.rfc8391.specs.declared.Address.{Address}
use Rattle.keyed.specs.Sha2.{sha2}
use Rattle.keyed.specs.Seeds.{suite_of, held}
use Rattle.keyed.proofs.Suites.{whole_in_sha2}
use Rattle.tree.specs.Keys.{leaf_at, leaves}
use Rattle.tree.specs.declared.Tree.{Tree}

pub leaf_named : (sk public : List ℕ) (t : Tree) (i : ℕ) (x : List ℕ) → t.secret ≡ sk → t.seed.bytes ≡ public → suite_of t.seed ≡ sha2
    → t.at ≡ single_tree → length x ≡ 32 → held t.seed x ≡ leaves t i
    → x ≡ leaf_of sha2 (take 32 public) single_tree (secrets sha2 (take 32 sk) (take 32 public) single_tree) i
unfolding leaf_at sha2
leaf_named sk public t i x ek eb es ea lx ex =
    whole_in_sha2 t.seed x (λ (S : Suite). at S (take S.n t.secret) (take S.n t.seed.bytes) t.at) es lx ex
    ∙ rw (ek, eb, ea)
  where
    at : Suite → List ℕ → List ℕ → Address → List ℕ
    at S k seed b = leaf_of S seed b (secrets S k seed b) i
