-- Joins, leaves and roots from what the calls give.
use Rattle.std.proofs.Common.{◌≡◌, ℕ, ◌*◌, ◌<◌, ◌≤◌, List, [], ◌++◌, length, get_or, take, drop, sym, ap, ◌∙◌, ap₂, zero-add}
use Rattle.lists.specs.Lists.{parts}
use Rattle.lists.proofs.Tabs.{get_or-tab}
use Rattle.rfc8391.specs.Suite.{Suite, xor}
use Rattle.rfc8391.specs.Address.{set_key_and_mask}
use Rattle.rfc8391.specs.Wots.{prf_at, wots_pk}
use Rattle.rfc8391.specs.Xmss.{ots_at, ltree_at, rand_hash, ltree, leaf_of}
use Rattle.rfc8391.specs.House.{secrets}
use Rattle.rfc8391.specs.declared.Address.{Address}
use Rattle.rfc8391.proofs.Chains.{pk_ext}
use Rattle.rfc8391.proofs.Values.{xor_front}
use Rattle.keyed.specs.Seeds.{suite_of, held, held_all, seed_of}
use Rattle.keyed.specs.declared.Seed.{Seed}
use Rattle.onetime.specs.Secrets.{value_of}
use Rattle.onetime.specs.declared.Secrets.{Secrets}
use Rattle.tree.specs.Keys.{leaf_at, leaves}
use Rattle.tree.specs.declared.Tree.{Tree}

-- a join, from its key, its masks and their exclusive ors; a value stands at the front of 32 bytes
pub join_by : (S : Suite) (seed : List ℕ) (a : Address) (l r key m₁ m₂ x y out : List ℕ) → S.n ≤ 32
    → take S.n key ≡ prf_at S seed (set_key_and_mask a 0) → take S.n m₁ ≡ prf_at S seed (set_key_and_mask a 1)
    → take S.n m₂ ≡ prf_at S seed (set_key_and_mask a 2) → x ≡ xor 32 l m₁ → y ≡ xor 32 r m₂
    → out ≡ S.H (take S.n key) (take S.n x ++ take S.n y) → out ≡ rand_hash S seed a (take S.n l) (take S.n r)
unfolding rand_hash
join_by S seed a l r key m₁ m₂ x y out h ek e₁ e₂ ex ey eo =
    rw (eo, ex, ey, xor_front S.n 32 l m₁ h, xor_front S.n 32 r m₂ h, ek, e₁, e₂)

-- the secret values that are ready for leaf i are the tree's
pub value_is : (t : Tree) (i : ℕ) (x : Secrets) → x.secret ≡ t.secret → x.seed ≡ t.seed → x.at ≡ ots_at t.at i
    → (c : ℕ) → value_of x c ≡ secrets (suite_of t.seed) (held t.seed t.secret) (seed_of t.seed) t.at i c
unfolding value_of secrets
value_is t i x es ep ea c = rw (es, ep, ea)

-- a leaf, from the chain ends of its secret values
pub leaf_by : (t : Tree) (i : ℕ) (x : Secrets) (b : Address) (ends : List (List ℕ)) (r : List ℕ)
    → x.secret ≡ t.secret → x.seed ≡ t.seed → x.at ≡ ots_at t.at i → held_all x.seed ends ≡ wots_pk (suite_of x.seed) (seed_of x.seed) x.at (value_of x)
    → b ≡ ltree_at t.at i → r ≡ ltree (suite_of t.seed) (seed_of t.seed) b (held_all t.seed ends) → r ≡ leaves t i
unfolding leaf_at leaf_of
leaf_by t i x b ends r es ep ea ee eb er =
    er ∙ ap₂ (ltree (suite_of t.seed) (seed_of t.seed)) eb
    (ap (λ (s : Seed). held_all s ends) (sym ep)
    ∙ ee
    ∙ ap₂ (λ (s : Seed) (c : Address). wots_pk (suite_of s) (seed_of s) c (value_of x)) ep ea
    ∙ pk_ext (suite_of t.seed) (seed_of t.seed) (ots_at t.at i) _ _ (value_is t i x es ep ea))

-- node k of a path, which is split off as its next part; w is how the code has n
pub node_read : (n w h : ℕ) (path part r : List ℕ) (k : ℕ) → w ≡ n → k < h → part ≡ take w (drop (w * k) path) → length part ≡ w
    → take (length part) r ≡ part → take n r ≡ get_or (parts n h 0 path) k []
unfolding parts
node_read n w h path part r k ew q ep l er =
    ap (λ (j : ℕ). take j r) (sym (l ∙ ew))
    ∙ er
    ∙ ep
    ∙ ap (λ (v : ℕ). take v (drop (v * k) path)) ew
    ∙ ap (λ (j : ℕ). take n (drop j path)) (sym (zero-add (n * k)))
    ∙ sym (get_or-tab h _ [] k q)
