-- A round of the L-tree in place, and all of them.
use Rattle.std.proofs.Common.{◌≡◌, ℕ, ◌+◌, ◌-◌, ◌*◌, ◌/◌, ◌%◌, ◌<◌, ◌≤◌, List, [], length, get_or, take, set, sym, ap, ◌∙◌, arith, length-take-le, get_or-take}
use Rattle.lists.specs.Lists.{turns}
use Rattle.lists.specs.Loops.{Replacing}
use Rattle.lists.proofs.Replacing.{replacing_more, replacing_read}
use Rattle.rfc8391.specs.Suite.{Suite}
use Rattle.rfc8391.specs.Address.{set_tree_height, set_tree_index}
use Rattle.rfc8391.specs.Xmss.{rand_hash, ltree_node, ltree_round, ltree}
use Rattle.rfc8391.specs.declared.Address.{Address}
use Rattle.rfc8391.proofs.Ltrees.{node_of_pair, node_of_last, ltree_done}

module _ (S : Suite) (seed : List ℕ) (a : Address) (h w : ℕ) (v₀ : List (List ℕ)) (fits : w ≤ length v₀) where
  -- the loop's state: its rule reads the first w values as they were
  abbrev pub Rounding : List (List ℕ) → ℕ → Type 0
  Rounding v i = Replacing (ltree_node S seed a h (take w v₀)) v₀ v i

  width : length (take w v₀) ≡ w
  width = length-take-le w v₀ fits

  -- what a turn reads is what there was
  as_before : (v : List (List ℕ)) (i k : ℕ) → i ≤ k → k < w → Rounding v i → get_or v k [] ≡ get_or (take w v₀) k []
  as_before v i k q l inv = replacing_read _ v₀ v i k [] q inv ∙ sym (get_or-take w v₀ k [] l)

  -- a pair's join
  pub pair_by : (v : List (List ℕ)) (i : ℕ) (b : Address) (r : List ℕ) → i < w / 2 → b ≡ set_tree_index (set_tree_height a h) i
      → r ≡ rand_hash S seed b (get_or v (2 * i) []) (get_or v (2 * i + 1) []) → Rounding v i → r ≡ ltree_node S seed a h (take w v₀) i
  pair_by v i b r q eb er inv =
      er ∙ rw (eb, as_before v i (2 * i) (omega arith) (omega arith) inv, as_before v i (2 * i + 1) (omega arith) (omega arith) inv)
      (sym (node_of_pair S seed a h (take w v₀) i (rw width (omega arith))))

  -- the rule's list is the round
  whole : (v : List (List ℕ)) (i : ℕ) → i ≡ (w + 1) / 2 → Rounding v i → take ((w + 1) / 2) v ≡ ltree_round S seed a h (take w v₀)
  unfolding ltree_round
  whole v i e inv = rw (width, ← e) inv.0

  -- an even number of values ends with the last pair, an odd one with a value that moves up
  pub round_even : (v : List (List ℕ)) (i : ℕ) → i ≡ w / 2 → (w % 2 ≡ 1 → ⊥) → Rounding v i
      → take ((w + 1) / 2) v ≡ ltree_round S seed a h (take w v₀)
  round_even v i e z inv = whole v i (omega arith) inv

  pub round_odd : (v : List (List ℕ)) (i half : ℕ) → i ≡ w / 2 → half ≡ w / 2 → w % 2 ≡ 1 → Rounding v i
      → take ((w + 1) / 2) (set v half (get_or v (w - 1) [])) ≡ ltree_round S seed a h (take w v₀)
  round_odd v i half e eh z inv =
      let k : w - 1 ≡ 2 * i = omega arith in
      let last : get_or v (w - 1) [] ≡ ltree_node S seed a h (take w v₀) i =
      rw k (as_before v i (2 * i) (omega arith) (omega arith) inv) ∙ sym (node_of_last S seed a h (take w v₀) i (rw width (omega arith))) in
      let g : half ≡ i = omega arith in
      rw g (whole (set v i (get_or v (w - 1) [])) (i + 1) (omega arith) (replacing_more _ v₀ v i _ last (omega arith) inv))

-- the L-tree's value, where k rounds left one
pub ltree_by : (S : Suite) (seed : List ℕ) (a : Address) (ends v : List (List ℕ)) (w k : ℕ) → k ≤ length ends → w ≡ 1 → 1 ≤ length v
    → take w v ≡ turns k (λ h l. ltree_round S seed a h l) ends → get_or v 0 [] ≡ ltree S seed a ends
ltree_by S seed a ends v w k l e p q =
    let one : length (turns k (λ h l. ltree_round S seed a h l) ends) ≡ 1 = rw (← q, e) (length-take-le 1 v p) in
    sym (get_or-take w v 0 [] (omega arith)) ∙ ap (λ (t : List (List ℕ)). get_or t 0 []) q ∙ sym (ltree_done S seed a k ends l one)
