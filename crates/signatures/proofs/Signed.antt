-- The parts of a signature are those of the record's key.
use Rattle.std.proofs.Common.{◌≡◌, ℕ, List, ◌++◌, length, take, ap, ◌∙◌, ap₂, arith, take_all}
use Rattle.lists.specs.Lists.{flat}
use Rattle.lists.specs.Bytes.{to_byte}
use Rattle.rfc8391.specs.Suite.{Suite}
use Rattle.rfc8391.specs.Wots.{wots_sign}
use Rattle.rfc8391.specs.Xmss.{ots_at, message_digest, auth_path, leaf_of, signature_with}
use Rattle.rfc8391.specs.House.{secrets}
use Rattle.rfc8391.specs.Formats.{signature_bytes, single_tree}
use Rattle.rfc8391.specs.declared.Address.{Address}
use Rattle.rfc8391.proofs.Chains.{sign_ext}
use Rattle.keyed.specs.Sha2.{sha2}
use Rattle.keyed.specs.Seeds.{suite_of, held, seed_of}
use Rattle.keyed.specs.declared.Seed.{Seed}
use Rattle.keyed.proofs.Suites.{whole_in_sha2}
use Rattle.onetime.specs.Secrets.{value_of}
use Rattle.onetime.specs.declared.Secrets.{Secrets}
use Rattle.tree.specs.Keys.{leaf_at, leaves}
use Rattle.tree.specs.declared.Tree.{Tree}
use Rattle.tree.proofs.Joins.{value_is}
use Rattle.records.specs.Keys.{signed_by}
use Rattle.records.specs.Contents.{contents}
use Rattle.records.specs.declared.SecretKey.{SecretKey}

-- the chain values of the secrets that are ready for leaf i are the tree's
pub values_are : (t : Tree) (i : ℕ) (x : Secrets) (m : List ℕ) (y : List ℕ) → x.secret ≡ t.secret → x.seed ≡ t.seed → x.at ≡ ots_at t.at i
    → y ≡ flat (wots_sign (suite_of x.seed) (seed_of x.seed) x.at (held x.seed m) (value_of x))
    → y ≡ flat (wots_sign (suite_of t.seed) (seed_of t.seed) (ots_at t.at i) (held t.seed m) (secrets (suite_of t.seed) (held t.seed t.secret) (seed_of t.seed) t.at i))
values_are t i x m y es ep ea e =
    e
    ∙ ap flat (ap₂ (λ (s : Seed) (a : Address). wots_sign (suite_of s) (seed_of s) a (held s m) (value_of x)) ep ea
    ∙ sign_ext (suite_of t.seed) (seed_of t.seed) (ots_at t.at i) (held t.seed m) _ _ (value_is t i x es ep ea))

-- r, from PRF of the message key in the suite of its seed
pub randomiser_is : (s : Seed) (t r : List ℕ) → suite_of s ≡ sha2 → length s.bytes ≡ 32 → length r ≡ 32 → held s r ≡ (suite_of s).PRF (seed_of s) t
    → r ≡ sha2.PRF s.bytes t
unfolding sha2
randomiser_is s t r es lb lr er =
    whole_in_sha2 s r (λ (S : Suite). S.PRF (take S.n s.bytes) t) es lr er
    ∙ ap (λ (k : List ℕ). sha2.PRF k t) (take_all 32 s.bytes (omega arith))

-- what is written with a key and its tree is the signature that the key gives
module _ (key : SecretKey) (t : Tree) (m : List ℕ) (i : ℕ) (r digest : List ℕ) where
  bytes : Suite → List ℕ → List ℕ → Address → List ℕ → List ℕ
  bytes S k p a d =
      to_byte i 4
      ++ (r
      ++ (flat (wots_sign S p (ots_at a i) (take S.n d) (secrets S (take S.n k) p a i))
      ++ flat (auth_path S p a (leaf_of S p a (secrets S (take S.n k) p a)) 10 i)))

  pub signed_is : (values path : List ℕ) → length key.secret ≡ 32 → length key.public ≡ 32 → length key.root ≡ 32 → t.secret ≡ key.secret
      → t.seed.bytes ≡ key.public → suite_of t.seed ≡ sha2 → t.at ≡ single_tree → r ≡ sha2.PRF key.prfkey (to_byte i 32) → length r ≡ 32
      → take sha2.n digest ≡ message_digest sha2 (take sha2.n r) (take sha2.n key.root) i m
      → values ≡ flat (wots_sign (suite_of t.seed) (seed_of t.seed) (ots_at t.at i) (held t.seed digest) (secrets (suite_of t.seed) (held t.seed t.secret) (seed_of t.seed) t.at i))
      → path ≡ flat (auth_path (suite_of t.seed) (seed_of t.seed) t.at (leaves t) 10 i)
      → to_byte i 4 ++ (r ++ (values ++ path)) ≡ signature_bytes (signed_by sha2 (contents key) i m)
  unfolding signature_bytes signed_by signature_with leaf_at sha2 bytes
  signed_is values path ls lp lo es ep eS ea er lr ed ev eh =
      let k : take 32 key.secret ≡ key.secret = take_all 32 key.secret (omega arith) in
      let p : take 32 key.public ≡ key.public = take_all 32 key.public (omega arith) in
      let o : take 32 key.root ≡ key.root = take_all 32 key.root (omega arith) in
      let q : take 32 r ≡ sha2.PRF key.prfkey (to_byte i 32) = take_all 32 r (omega arith) ∙ er in
      ap₂ (λ (v h : List ℕ). to_byte i 4 ++ (r ++ (v ++ h))) ev eh
      ∙ ap (λ (S : Suite). bytes S t.secret (take S.n t.seed.bytes) t.at digest) eS
      ∙ rw (es, ep, ea, k, p, ed, q, o, er)
