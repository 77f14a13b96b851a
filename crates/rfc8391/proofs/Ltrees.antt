-- Laws of the L-tree, over any suite and any number of values.
use Rattle.std.proofs.Common.{◌≡◌, ℕ, zero, suc, ◌+◌, ◌-◌, ◌*◌, ◌/◌, ◌<◌, ◌≤◌, Bool, true, false, ltb, List, [], ◌∷◌, length, get_or, sym, refl, ap, ◌∙◌, arith, le-ltb, lt-ltb}
use Rattle.lists.specs.Lists.{tab, turns, pick}
use Rattle.lists.proofs.Tabs.{length-tab}
use Rattle.lists.proofs.Turns.{turns_add}
use Rattle.rfc8391.specs.Suite.{Suite, Value, Values}
use Rattle.rfc8391.specs.Address.{set_tree_height, set_tree_index}
use Rattle.rfc8391.specs.Xmss.{rand_hash, ltree_node, ltree_round, ltree}
use Rattle.rfc8391.specs.declared.Address.{Address}
use Rattle.rfc8391.proofs.Values.{tab_values}

module _ (S : Suite) (seed : List ℕ) where
  -- a join gives a value
  pub join_value : (a : Address) (l r : List ℕ) → Value S.n (rand_hash S seed a l r)
  unfolding rand_hash
  join_value a l r = S.H_value _ _

  -- a pair is joined, and a value with no right neighbour moves up
  pub node_of_pair : (a : Address) (h : ℕ) (l : List (List ℕ)) (i : ℕ) → 2 * i + 1 < length l
      → ltree_node S seed a h l i ≡ rand_hash S seed (set_tree_index (set_tree_height a h) i) (get_or l (2 * i) []) (get_or l (2 * i + 1) [])
  unfolding ltree_node
  node_of_pair a h l i q = rw (ltree_node, lt-ltb _ _ q)

  pub node_of_last : (a : Address) (h : ℕ) (l : List (List ℕ)) (i : ℕ) → length l ≤ 2 * i + 1 → ltree_node S seed a h l i ≡ get_or l (2 * i) []
  unfolding ltree_node
  node_of_last a h l i q = rw (ltree_node, le-ltb _ _ q)

  -- a round leaves half of the values, rounded up
  pub length-round : (a : Address) (h : ℕ) (l : List (List ℕ)) → length (ltree_round S seed a h l) ≡ (length l + 1) / 2
  unfolding ltree_round
  length-round a h l = length-tab ((length l + 1) / 2) _

  -- a round leaves a single value as it is
  round_single : (a : Address) (h : ℕ) (l : List (List ℕ)) → length l ≡ 1 → ltree_round S seed a h l ≡ l
  unfolding ltree_node ltree_round tab
  round_single a h [] e = absurd (omega arith)
  round_single a h (x ∷ []) e = refl
  round_single a h (x ∷ y ∷ l) e = absurd (omega arith)

  -- and so do any number of rounds
  rounds_single : (a : Address) (n k : ℕ) (l : List (List ℕ)) → length l ≡ 1 → turns n (λ h v. ltree_round S seed a (k + h) v) l ≡ l
  unfolding turns
  rounds_single a zero k l e = refl
  rounds_single a (suc n) k l e = ap (ltree_round S seed a (k + n)) (rounds_single a n k l e) ∙ round_single a (k + n) l e

  -- once k rounds have left one value, the L-tree is done
  pub ltree_done : (a : Address) (k : ℕ) (l : List (List ℕ)) → k ≤ length l → length (turns k (λ h v. ltree_round S seed a h v) l) ≡ 1
      → ltree S seed a l ≡ get_or (turns k (λ h v. ltree_round S seed a h v) l) 0 []
  unfolding ltree
  ltree_done a k l h e =
      let n : k + (length l - k) ≡ length l = omega arith in
      ap (λ (t : List (List ℕ)). get_or t 0 [])
      (ap (λ (j : ℕ). turns j (λ h v. ltree_round S seed a h v) l) (sym n)
      ∙ sym (turns_add k (length l - k) (λ h v. ltree_round S seed a h v) l)
      ∙ rounds_single a (length l - k) k _ e)

  -- a round of values gives values, and so do n rounds
  round_values : (a : Address) (h : ℕ) (l : List (List ℕ)) → Values S.n l → Values S.n (ltree_round S seed a h l)
  unfolding ltree_node ltree_round Values
  round_values a h l v =
      tab_values S.n _ _ (λ i q. by_test (ltb (2 * i + 1) (length l)) (join_value _ _ _) (v (2 * i) (omega arith)))
    where
      by_test : {x y : List ℕ} (t : Bool) → Value S.n x → Value S.n y → Value S.n (pick t x y)
      by_test true p q = p
      by_test false p q = q

  rounds_values : (a : Address) (n : ℕ) (l : List (List ℕ)) → Values S.n l → Values S.n (turns n (λ h v. ltree_round S seed a h v) l)
  unfolding turns
  rounds_values a zero l v = v
  rounds_values a (suc n) l v = round_values a n _ (rounds_values a n l v)

  -- some value is left after each round
  rounds_positive : (a : Address) (n : ℕ) (l : List (List ℕ)) → 0 < length l → 0 < length (turns n (λ h v. ltree_round S seed a h v) l)
  unfolding turns
  rounds_positive a zero l p = p
  rounds_positive a (suc n) l p = let ih = rounds_positive a n l p in rw length-round (omega arith)

  -- the L-tree of values is a value
  pub ltree_value : (a : Address) (l : List (List ℕ)) → 0 < length l → Values S.n l → Value S.n (ltree S seed a l)
  unfolding ltree Values
  ltree_value a l p v = rounds_values a (length l) l v 0 (rounds_positive a (length l) l p)
