-- XMSS of RFC 8391, section 4.1, over any suite. An address a carries the layer and tree words; the rest is set here.
use Rattle.std.specs.Prelude.{◌≡◌, ℕ, zero, suc, ◌+◌, ◌*◌, ◌/◌, ◌%◌, ◌^◌, eqb, ltb, List, [], ◌++◌, length, get_or, bit_xor}
use Rattle.lists.specs.Lists.{tab, turns, pick}
use Rattle.lists.specs.Bytes.{to_byte}
use Rattle.rfc8391.specs.Suite.{Suite, xor}
use Rattle.rfc8391.specs.Address.{set_type, set_ots_address, set_ltree_address, set_tree_height, set_tree_index, set_key_and_mask}
use Rattle.rfc8391.specs.Wots.{prf_at, wots_pk, wots_sign, wots_pk_from_sig}
use Rattle.rfc8391.specs.declared.Address.{Address}

-- 4.1.8 and 4.1.7: the contents of a signature and of a public key
pub record Signature : Type 0 where
  pub idx : ℕ
  pub r : List ℕ
  pub values : List (List ℕ)
  pub auth : List (List ℕ)

pub record PublicKey : Type 0 where
  pub type : ℕ
  pub root : List ℕ
  pub seed : List ℕ

-- the addresses of leaf i's chains and L-tree, and of the join at height k that gives the node at position p above it
abbrev pub ots_at : Address → ℕ → Address
ots_at a i = set_ots_address (set_type a 0) i

abbrev pub ltree_at : Address → ℕ → Address
ltree_at a i = set_ltree_address (set_type a 1) i

abbrev pub tree_at : Address → ℕ → ℕ → Address
tree_at a k p = set_tree_index (set_tree_height (set_type a 2) k) p

-- 4.1.9: the position of a node's sibling, and that of the path's node at height k: the sibling of leaf i's ancestor
unfoldable pub sibling : ℕ → ℕ
sibling p = bit_xor p 1

abbrev pub path_position : ℕ → ℕ → ℕ
path_position i k = sibling (i / 2 ^ k)

module _ (S : Suite) where
  -- 4.1.9 and 4.1.10: the value that is signed for a message: of r, the root, the index and the message
  unfoldable pub message_digest : List ℕ → List ℕ → ℕ → List ℕ → List ℕ
  message_digest r root idx m = S.Hmsg (r ++ (root ++ to_byte idx S.n)) m

  module _ (seed : List ℕ) where
    -- 4.1.4, Algorithm 7: two values joined
    unfoldable pub rand_hash : Address → List ℕ → List ℕ → List ℕ
    rand_hash a l r =
        S.H (prf_at S seed (set_key_and_mask a 0))
        (xor S.n l (prf_at S seed (set_key_and_mask a 1)) ++ xor S.n r (prf_at S seed (set_key_and_mask a 2)))

    -- 4.1.5, Algorithm 8: value i after a round of an L-tree at height h: two neighbours joined, or a last odd one unchanged; and the round
    unfoldable pub ltree_node : Address → ℕ → List (List ℕ) → ℕ → List ℕ
    ltree_node a h l i =
        pick (ltb (2 * i + 1) (length l))
        (rand_hash (set_tree_index (set_tree_height a h) i) (get_or l (2 * i) []) (get_or l (2 * i + 1) []))
        (get_or l (2 * i) [])

    unfoldable pub ltree_round : Address → ℕ → List (List ℕ) → List (List ℕ)
    ltree_round a h l = tab ((length l + 1) / 2) (ltree_node a h l)

    -- k rounds; and rounds until one value is left: a round leaves a single value as it is, so that as many rounds as values are enough
    abbrev pub ltree_rounds : Address → ℕ → List (List ℕ) → List (List ℕ)
    ltree_rounds a k l = turns k (λ h v. ltree_round a h v) l

    unfoldable pub ltree : Address → List (List ℕ) → List ℕ
    ltree a l = get_or (ltree_rounds a (length l) l) 0 []

    -- 4.1.6: the node of height k at position p over the leaves, which Algorithm 9 computes with a stack
    unfoldable pub node : Address → (ℕ → List ℕ) → ℕ → ℕ → List ℕ
    node a leaf zero p = leaf p
    node a leaf (suc k) p = rand_hash (tree_at a k p) (node a leaf k (2 * p)) (node a leaf k (2 * p + 1))

    -- 4.1.9: the authentication path of leaf i, from the leaf up
    unfoldable pub auth_path : Address → (ℕ → List ℕ) → ℕ → ℕ → List (List ℕ)
    auth_path a leaf h i = tab h (λ k. node a leaf k (path_position i k))

    -- 4.1.10, Algorithm 13: from a node v of height k at position p to the one above, by its sibling x; and from leaf i to the root
    unfoldable pub climb : Address → ℕ → ℕ → List ℕ → List ℕ → List ℕ
    climb a k p v x = pick (eqb (p % 2) 0) (rand_hash (tree_at a k (p / 2)) v x) (rand_hash (tree_at a k (p / 2)) x v)

    unfoldable pub root_from_path : Address → ℕ → ℕ → List ℕ → List (List ℕ) → List ℕ
    root_from_path a h i leaf auth = turns h (λ k v. climb a k (i / 2 ^ k) v (get_or auth k [])) leaf

    -- 4.1.10, Algorithm 13: the root from the signature of a value m by leaf i
    unfoldable pub root_from_sig : Address → ℕ → ℕ → List (List ℕ) → List (List ℕ) → List ℕ → List ℕ
    root_from_sig a h i values auth m =
        root_from_path a h i (ltree (ltree_at a i) (wots_pk_from_sig S seed (ots_at a i) m values)) auth

    -- the leaf i of a key whose secret value of chain c at leaf i is sk i c
    unfoldable pub leaf_of : Address → (ℕ → ℕ → List ℕ) → ℕ → List ℕ
    leaf_of a sk i = ltree (ltree_at a i) (wots_pk S seed (ots_at a i) (sk i))

    -- 4.1.7, Algorithm 10: the root of such a key, and its public key, of type t
    unfoldable pub root_of : Address → (ℕ → ℕ → List ℕ) → ℕ → List ℕ
    root_of a sk h = node a (leaf_of a sk) h 0

    unfoldable pub public_key_of : ℕ → Address → (ℕ → ℕ → List ℕ) → ℕ → PublicKey
    public_key_of t a sk h = record { type = t; root = root_of a sk h; seed = seed }

    -- 4.1.9, Algorithms 11 and 12: the signature of a message by leaf i, with r of the message key sk_prf, under a key of that root, with
    -- that path; and the one of the key that Algorithm 10 makes
    unfoldable pub signature_with : Address → (ℕ → ℕ → List ℕ) → List ℕ → List ℕ → List (List ℕ) → ℕ → List ℕ → Signature
    signature_with a sk sk_prf root path i m =
        record {
          idx = i;
          r = S.PRF sk_prf (to_byte i 32);
          values = wots_sign S seed (ots_at a i) (message_digest (S.PRF sk_prf (to_byte i 32)) root i m) (sk i);
          auth = path;
        }

    unfoldable pub signature_of : Address → (ℕ → ℕ → List ℕ) → List ℕ → ℕ → ℕ → List ℕ → Signature
    signature_of a sk sk_prf h i m = signature_with a sk sk_prf (root_of a sk h) (auth_path a (leaf_of a sk) h i) i m

  -- 4.1.10, Algorithm 14: the root to which the signature of a message leads under a key of height h; it is valid where that is the key's
  abbrev pub recomputed_root : Address → ℕ → PublicKey → List ℕ → Signature → List ℕ
  recomputed_root a h pk m sig =
      root_from_sig pk.seed a h sig.idx sig.values sig.auth (message_digest sig.r pk.root sig.idx m)

  unfoldable pub verify : Address → ℕ → PublicKey → List ℕ → Signature → Type 0
  verify a h pk m sig = recomputed_root a h pk m sig ≡ pk.root
