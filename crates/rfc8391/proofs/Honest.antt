-- An honest signature verifies, over any suite, any secret values and any height.
use Rattle.std.proofs.Common.{◌≡◌, ℕ, ◌^◌, ◌<◌, List, ap, ◌∙◌, arith}
use Rattle.lists.proofs.Tabs.{length-tab}
use Rattle.rfc8391.specs.Suite.{Suite, Value, Values}
use Rattle.rfc8391.specs.Wots.{wots_pk, wots_sign}
use Rattle.rfc8391.specs.Xmss.{ots_at, ltree_at, ltree, auth_path, root_from_path, root_from_sig, leaf_of, root_of, public_key_of, signature_with, signature_of, verify}
use Rattle.rfc8391.specs.House.{secret_value}
use Rattle.rfc8391.specs.declared.Address.{Address}
use Rattle.rfc8391.proofs.Values.{tab_values}
use Rattle.rfc8391.proofs.Chains.{pk_values, signature_leads_to_key}
use Rattle.rfc8391.proofs.Ltrees.{ltree_value}
use Rattle.rfc8391.proofs.Trees.{node_value, path_leads_to_root}

module _ (S : Suite) where
  -- our rule gives values
  pub secret_value_lem : (sk_seed seed : List ℕ) (a : Address) → Value S.n (secret_value S sk_seed seed a)
  unfolding secret_value
  secret_value_lem sk_seed seed a = S.PRF_value _ _

  module _ (seed : List ℕ) (a : Address) (sk : ℕ → ℕ → List ℕ) where
    -- leaves, root and path are values where the secret values are
    pub leaf_value : ((i c : ℕ) → Value S.n (sk i c)) → (i : ℕ) → Value S.n (leaf_of S seed a sk i)
    unfolding leaf_of wots_pk
    leaf_value h i = ltree_value S seed _ _ (rw length-tab (omega arith)) (pk_values S seed (ots_at a i) (sk i) (h i))

    pub root_value : ((i c : ℕ) → Value S.n (sk i c)) → (h : ℕ) → Value S.n (root_of S seed a sk h)
    unfolding root_of
    root_value v h = node_value S seed a _ (leaf_value v) h 0

    pub path_values : ((i c : ℕ) → Value S.n (sk i c)) → (h i : ℕ) → Values S.n (auth_path S seed a (leaf_of S seed a sk) h i)
    unfolding auth_path
    path_values v h i = tab_values S.n h _ (λ k q. node_value S seed a _ (leaf_value v) k _)

    -- the root that is recomputed from an honest signature of any value is the tree's root
    pub honest_root : (h i : ℕ) (m : List ℕ) → i < 2 ^ h
        → root_from_sig S seed a h i (wots_sign S seed (ots_at a i) m (sk i)) (auth_path S seed a (leaf_of S seed a sk) h i) m ≡ root_of S seed a sk h
    unfolding root_from_sig root_of leaf_of
    honest_root h i m q =
        ap (λ (pk : List (List ℕ)). root_from_path S seed a h i (ltree S seed (ltree_at a i) pk) (auth_path S seed a (leaf_of S seed a sk) h i))
        (signature_leads_to_key S seed (ots_at a i) m (sk i))
        ∙ path_leads_to_root S seed a (leaf_of S seed a sk) h i q

    -- and so an honest signature of any message verifies
    pub honest_verifies : (t h i : ℕ) (sk_prf m : List ℕ) → i < 2 ^ h
        → verify S a h (public_key_of S seed t a sk h) m (signature_of S seed a sk sk_prf h i m)
    unfolding verify public_key_of signature_with signature_of
    honest_verifies t h i sk_prf m q = honest_root h i _ q
