-- What each hash's suite gives, from what its own functions give: in `Sha2` all 32 bytes count.
use Rattle.std.proofs.Common.{◌≡◌, ℕ, ◌≤◌, List, ◌++◌, length, take, sym, refl, ◌∙◌, subst, arith, take_all}
use Rattle.lists.specs.Bytes.{to_byte}
use Rattle.rfc8391.specs.Suite.{Suite}
use Rattle.rfc8391.specs.Xmss.{message_digest}
use Rattle.rfc8391.specs.Formats.{value_length}
use Rattle.rfc8391.specs.declared.Hash.{Hash}
use Rattle.rfc8391.specs.declared.Hash.TheVariants.{Sha2}
use Rattle.keyed.specs.Keyed.{keyed}
use Rattle.keyed.specs.Sha2.{sha2}
use Rattle.keyed.specs.Suites.{suite}
use Rattle.keyed.specs.Seeds.{suite_of}
use Rattle.keyed.specs.declared.Seed.{Seed}

-- there is one hash today; with two, each arm of a `match` tells its own
pub only_sha2 : (hash : Hash) → hash ≡ Sha2
only_sha2 Sha2 = refl

-- the suite of SHA-256 by its hash, and the bytes of its values
pub suite_sha2 : suite Sha2 ≡ sha2
unfolding suite
suite_sha2 = refl

pub sha2_n : sha2.n ≡ 32
unfolding sha2
sha2_n = refl

-- a value of any of them stands in 32 bytes
suite_fits : (hash : Hash) → (suite hash).n ≤ 32
unfolding suite sha2
suite_fits Sha2 = omega arith

-- and has the length that its types say
pub suite_length : (hash : Hash) → (suite hash).n ≡ value_length hash
unfolding suite sha2 value_length
suite_length Sha2 = refl

pub seed_fits : (s : Seed) → (suite_of s).n ≤ 32
seed_fits s = suite_fits s.hash

all : (x : List ℕ) → length x ≡ 32 → take 32 x ≡ x
all x h = take_all 32 x (omega arith)

-- a whole array, where a seed is of SHA-256: f is what its bytes that count are, by the suite
pub whole_in_sha2 : (s : Seed) (x : List ℕ) (f : Suite → List ℕ) → suite_of s ≡ sha2 → length x ≡ 32
    → take (suite_of s).n x ≡ f (suite_of s) → x ≡ f sha2
unfolding sha2
whole_in_sha2 s x f es lx ex = sym (all x lx) ∙ subst (λ (S : Suite). take S.n x ≡ f S) es ex

module _ (hash : Hash) (e : hash ≡ Sha2) where
  pub prf_in_sha2 : (key m r : List ℕ) → length key ≡ 32 → length r ≡ 32 → r ≡ keyed 3 key m
      → take (suite hash).n r ≡ (suite hash).PRF (take (suite hash).n key) m
  unfolding suite sha2
  prf_in_sha2 key m r lk lr er = rw (e, all r lr, all key lk) er

  pub f_in_sha2 : (key m r : List ℕ) → length key ≡ 32 → length m ≡ 32 → length r ≡ 32 → r ≡ keyed 0 key m
      → take (suite hash).n r ≡ (suite hash).F (take (suite hash).n key) (take (suite hash).n m)
  unfolding suite sha2
  f_in_sha2 key m r lk lm lr er = rw (e, all r lr, all key lk, all m lm) er

  pub h_in_sha2 : (key a b r : List ℕ) → length key ≡ 32 → length a ≡ 32 → length b ≡ 32 → length r ≡ 32 → r ≡ keyed 1 key (a ++ b)
      → take (suite hash).n r ≡ (suite hash).H (take (suite hash).n key) (take (suite hash).n a ++ take (suite hash).n b)
  unfolding suite sha2
  h_in_sha2 key a b r lk la lb lr er = rw (e, all r lr, all key lk, all a la, all b lb) er

  pub digest_in_sha2 : (r root : List ℕ) (i : ℕ) (m x : List ℕ) → length r ≡ 32 → length root ≡ 32 → length x ≡ 32
      → x ≡ keyed 2 (r ++ (root ++ to_byte i 32)) m
      → take (suite hash).n x ≡ message_digest (suite hash) (take (suite hash).n r) (take (suite hash).n root) i m
  unfolding message_digest suite sha2
  digest_in_sha2 r root i m x lr lo lx ex = rw (e, all x lx, all r lr, all root lo) ex
