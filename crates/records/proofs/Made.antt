-- What the calls of `SecretKey::made` give.
use Rattle.std.proofs.Common.{◌≡◌, ℕ, List, length, take, drop, ap, ◌∙◌, arith, take-take}
use Rattle.rfc8391.specs.Suite.{Suite}
use Rattle.rfc8391.specs.Xmss.{node, leaf_of, root_of}
use Rattle.rfc8391.specs.House.{secrets}
use Rattle.rfc8391.specs.Formats.{single_tree}
use Rattle.rfc8391.specs.declared.Address.{Address}
use Rattle.keyed.specs.Sha2.{sha2}
use Rattle.keyed.specs.Seeds.{suite_of, held, seed_of}
use Rattle.keyed.proofs.Suites.{whole_in_sha2}
use Rattle.tree.specs.Keys.{leaf_at, leaves}
use Rattle.tree.specs.declared.Tree.{Tree}
use Rattle.records.specs.Keys.{made_record}
use Rattle.records.specs.Contents.{contents}
use Rattle.records.specs.declared.SecretKey.{SecretKey}

-- the node at the top of a tree is the root that seed material gives, where the seeds are the material's
root_is : (material : List ℕ) (t : Tree) (x : List ℕ) → t.secret ≡ take 32 material → t.seed.bytes ≡ take 32 (drop 64 material)
    → suite_of t.seed ≡ sha2 → t.at ≡ single_tree → length x ≡ 32
    → held t.seed x ≡ node (suite_of t.seed) (seed_of t.seed) t.at (leaves t) 10 0 → x ≡ (made_record sha2 material).root
unfolding leaf_at made_record root_of sha2
root_is material t x ek ep es ea lx ex =
    let k : take 32 t.secret ≡ take 32 material = ap (take 32) ek ∙ take-take 32 32 material (omega arith) in
    let p : take 32 t.seed.bytes ≡ take 32 (drop 64 material) = ap (take 32) ep ∙ take-take 32 32 (drop 64 material) (omega arith) in
    whole_in_sha2 t.seed x (λ (S : Suite). top S (take S.n t.secret) (take S.n t.seed.bytes) t.at) es lx ex
    ∙ rw (k, p, ea)
  where
    top : Suite → List ℕ → List ℕ → Address → List ℕ
    top S k seed b = node S seed b (leaf_of S seed b (secrets S k seed b)) 10 0

pub made_is : (material : List ℕ) (k : SecretKey) (t : Tree) → t.secret ≡ take 32 material → t.seed.bytes ≡ take 32 (drop 64 material)
    → suite_of t.seed ≡ sha2 → t.at ≡ single_tree → k.kind ≡ 1 → k.secret ≡ take 32 material → k.prfkey ≡ take 32 (drop 32 material)
    → k.public ≡ take 32 (drop 64 material) → length k.root ≡ 32
    → held t.seed k.root ≡ node (suite_of t.seed) (seed_of t.seed) t.at (leaves t) 10 0 → contents k ≡ made_record sha2 material
unfolding made_record sha2
made_is material k t ek ep es ea e₁ e₂ e₃ e₄ lx ex =
    let e₅ = root_is material t k.root ek ep es ea lx ex in
    cc
