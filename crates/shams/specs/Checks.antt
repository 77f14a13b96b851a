-- Ways of checking: the honest one, and shams.
use Rattle.std.specs.Prelude.{◌≡◌, ℕ, ◌||◌, eqb, ◌↔◌, List, [], ◌∷◌, get_or, drop}
use mathlib.Core.List.{List-discrete}
use Rattle.std.proofs.Math.Decide.{ℕ_discrete}
use Rattle.lists.specs.Lists.{pick}
use Rattle.outcomes.specs.Conditions.{is_not}
use Rattle.outcomes.specs.Outcome.{outcome_of, unless}
use Rattle.rfc8391.specs.Suite.{Suite}
use Rattle.rfc8391.specs.Wots.{wots_pk_from_sig}
use Rattle.rfc8391.specs.Xmss.{Signature, PublicKey, ots_at, ltree_at, message_digest, ltree, root_from_path}
use Rattle.rfc8391.specs.Formats.{value_length, key_from, signature_from, type_of, hash_of, height_of, single_tree}
use Rattle.rfc8391.specs.declared.Hash.{Hash}
use Rattle.operations.specs.Check.{check_refusals}
use Rattle.promises.specs.Checking.{CheckNumbers, Accepted}

-- a way of checking gives an outcome for a key, a message and a signature
abbrev pub Checking : Type 0
Checking = List ℕ → List ℕ → List ℕ → ℕ

-- it keeps what is promised of checking
pub record Kept (suites : Hash → Suite) (check : Checking) : Type 0 where
  pub numbers : (key m sig : List ℕ) → CheckNumbers suites key m sig (check key m sig)
  pub accepted : (key m sig : List ℕ) → (check key m sig ≡ 0) ↔ Accepted suites key m sig

-- one chain checked and the rest passed: the first chain is walked to its end, every other value passes for one
module _ (S : Suite) where
  unfoldable pub first_end : PublicKey → List ℕ → Signature → List (List ℕ)
  first_end pk digest sig =
      get_or (wots_pk_from_sig S pk.seed (ots_at single_tree sig.idx) digest sig.values) 0 [] ∷ drop 1 sig.values

  unfoldable pub root_by_one_chain : ℕ → PublicKey → List ℕ → Signature → List ℕ
  root_by_one_chain h pk m sig =
      root_from_path S pk.seed single_tree h sig.idx
      (ltree S pk.seed (ltree_at single_tree sig.idx) (first_end pk (message_digest S sig.r pk.root sig.idx m) sig))
      sig.auth

module _ (suites : Hash → Suite) where
  -- the honest way, which the contract of `operations::check` cites
  unfoldable pub honest : Checking
  honest key m sig = outcome_of (check_refusals suites key m sig)

  -- one fixed outcome
  unfoldable pub fixed : ℕ → Checking
  fixed outcome key m sig = outcome

  -- refusing everything: 6 where the honest way refuses nothing
  unfoldable pub refusing : Checking
  refusing key m sig = unless (honest key m sig) 6 (λ o. o)

  -- the honest way but for its last test
  unfoldable pub one_chain : Checking
  one_chain key m sig =
      let hash = hash_of (type_of key) in
      let h = height_of (type_of key) in
      let pk = key_from (value_length hash) key in
      let root = root_by_one_chain (suites hash) h pk m (signature_from (value_length hash) h sig) in
      pick (eqb (honest key m sig) 0 || eqb (honest key m sig) 6)
      (outcome_of ((is_not (root ≡ pk.root) (List-discrete ℕ_discrete _ _), 6) ∷ []))
      (honest key m sig)
