-- Laws of the tree, over any suite, leaf function and height: the honest path leads to the root.
use Rattle.std.proofs.Common.{◌≡◌, ℕ, zero, suc, ◌+◌, ◌-◌, ◌*◌, ◌/◌, ◌%◌, ◌^◌, ◌<◌, ◌≤◌, List, [], bit_xor, sym, refl, ap, ◌∙◌, ap₂, ⊎_elim, le_refl, eq-zero-or-pos, pow-suc, div-one, arith, eq-eqb, ne_eqb}
use Rattle.std.proofs.Math.Nat.{div-eq_of_lt, div-div-eq-div-mul}
use Rattle.std.specs.Int.Bits.{differ, xor_step, xor_zero_r}
use Rattle.lists.specs.Lists.{turns}
use Rattle.lists.proofs.Tabs.{get_or-tab}
use Rattle.rfc8391.specs.Suite.{Suite, Value}
use Rattle.rfc8391.specs.Xmss.{tree_at, sibling, rand_hash, node, auth_path, climb, root_from_path}
use Rattle.rfc8391.specs.declared.Address.{Address}
use Rattle.rfc8391.proofs.Ltrees.{join_value}

-- the next ancestor's position is half of this one's
pub half_position : (i k : ℕ) → i / 2 ^ k / 2 ≡ i / 2 ^ suc k
half_position i k = div-div-eq-div-mul i (2 ^ k) 2 ∙ ap (λ (x : ℕ). i / x) (sym (pow-suc 2 k))

-- the sibling stands behind an even position, and before an odd one
odd_differs : (r : ℕ) → r < 2 → differ r 1 ≡ 1 - r
odd_differs zero h = refl
odd_differs (suc zero) h = refl
odd_differs (suc (suc r)) h = absurd (omega arith)

xor_one : (p : ℕ) → bit_xor p 1 ≡ p / 2 * 2 + (1 - p % 2)
xor_one p = xor_step p 1 ∙ rw xor_zero_r (ap (λ (d : ℕ). p / 2 * 2 + d) (odd_differs (p % 2) (omega arith)))

pub sibling_of_left : (p : ℕ) → p % 2 ≡ 0 → sibling p ≡ p + 1
unfolding sibling
sibling_of_left p e = xor_one p ∙ omega arith

pub sibling_of_right : (p : ℕ) → (p % 2 ≡ 0 → ⊥) → sibling p ≡ p - 1
unfolding sibling
sibling_of_right p e = xor_one p ∙ omega arith

module _ (S : Suite) (seed : List ℕ) (a : Address) where
  -- a climb from a left node, and from a right one
  pub climb_left : (k p : ℕ) (v x : List ℕ) → p % 2 ≡ 0 → climb S seed a k p v x ≡ rand_hash S seed (tree_at a k (p / 2)) v x
  unfolding climb
  climb_left k p v x e = rw (climb, eq-eqb _ 0 e)

  pub climb_right : (k p : ℕ) (v x : List ℕ) → (p % 2 ≡ 0 → ⊥) → climb S seed a k p v x ≡ rand_hash S seed (tree_at a k (p / 2)) x v
  unfolding climb
  climb_right k p v x e = rw (climb, ne_eqb _ 0 e)

  module _ (leaf : ℕ → List ℕ) where
    -- the nodes are values where the leaves are
    pub node_value : ((i : ℕ) → Value S.n (leaf i)) → (k p : ℕ) → Value S.n (node S seed a leaf k p)
    unfolding node
    node_value h zero p = h p
    node_value h (suc k) p = join_value S seed _ _ _

    -- a node by its height: a leaf, or a join
    pub node_leaf : (h p : ℕ) (v : List ℕ) → h ≡ 0 → v ≡ leaf p → v ≡ node S seed a leaf h p
    unfolding node
    node_leaf h p v e q = rw e q

    pub node_join : (h k p : ℕ) (l r v : List ℕ) → h ≡ suc k → l ≡ node S seed a leaf k (2 * p) → r ≡ node S seed a leaf k (2 * p + 1)
        → v ≡ rand_hash S seed (tree_at a k p) l r → v ≡ node S seed a leaf h p
    unfolding node
    node_join h k p l r v e el er ev = rw (e, ev, el, er)

    -- a node and its sibling lead to the node above
    climb_to_parent : (k p : ℕ) → climb S seed a k p (node S seed a leaf k p) (node S seed a leaf k (sibling p)) ≡ node S seed a leaf (suc k) (p / 2)
    unfolding node
    climb_to_parent k p =
        ⊎_elim
        (λ (z : p % 2 ≡ 0).
        let l : p ≡ 2 * (p / 2) = omega arith in
        let r : sibling p ≡ 2 * (p / 2) + 1 = sibling_of_left p z ∙ omega arith in
        climb_left k p _ _ z ∙ ap₂ (λ (x y : ℕ). rand_hash S seed (tree_at a k (p / 2)) (node S seed a leaf k x) (node S seed a leaf k y)) l r)
        (λ (z : 0 < p % 2).
        let l : sibling p ≡ 2 * (p / 2) = sibling_of_right p (λ n. omega arith) ∙ omega arith in
        let r : p ≡ 2 * (p / 2) + 1 = omega arith in
        climb_right k p _ _ (λ n. omega arith) ∙ ap₂ (λ (x y : ℕ). rand_hash S seed (tree_at a k (p / 2)) (node S seed a leaf k x) (node S seed a leaf k y)) l r)
        (eq-zero-or-pos (p % 2))

    -- the honest path leads from a leaf to its ancestor at any height
    path_leads_up : (h i k : ℕ) → k ≤ h
        → root_from_path S seed a k i (leaf i) (auth_path S seed a leaf h i) ≡ node S seed a leaf k (i / 2 ^ k)
    unfolding root_from_path turns node auth_path
    path_leads_up h i zero q = ap leaf (sym (div-one i))
    path_leads_up h i (suc k) q =
        ap₂ (climb S seed a k (i / 2 ^ k)) (path_leads_up h i k (omega arith)) (get_or-tab h _ [] k q)
        ∙ climb_to_parent k (i / 2 ^ k)
        ∙ ap (node S seed a leaf (suc k)) (half_position i k)

    -- and so to the root
    pub path_leads_to_root : (h i : ℕ) → i < 2 ^ h → root_from_path S seed a h i (leaf i) (auth_path S seed a leaf h i) ≡ node S seed a leaf h 0
    path_leads_to_root h i q = path_leads_up h i h (le_refl h) ∙ ap (node S seed a leaf h) (div-eq_of_lt q)
