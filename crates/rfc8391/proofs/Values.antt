-- Laws of values and lists of them, and of values that stand at the front of longer lists.
use Rattle.std.proofs.Common.{◌≡◌, ℕ, ◌+◌, ◌-◌, ◌<◌, ◌≤◌, List, [], length, take, drop, bit_xor, sym, ◌∙◌, ap₂, arith, length-drop, length-take-le, get_or-take}
use Rattle.lists.specs.Lists.{tab}
use Rattle.lists.proofs.Tabs.{length-tab, get_or-tab, tab_ext, take-tab}
use Rattle.rfc8391.specs.Suite.{Value, Values, xor}

-- a list by a rule that gives values
pub tab_values : (n k : ℕ) (f : ℕ → List ℕ) → ((i : ℕ) → i < k → Value n (f i)) → Values n (tab k f)
unfolding Values
tab_values n k f h i q =
    let l : i < k = omega (arith, length-tab k f) in
    rw (get_or-tab k f [] i l) (h i l)

-- of an exclusive or over more bytes, the first n: that of the first n of either
pub xor_front : (n w : ℕ) (x y : List ℕ) → n ≤ w → take n (xor w x y) ≡ xor n (take n x) (take n y)
unfolding xor
xor_front n w x y h =
    take-tab n w _ h ∙ tab_ext n _ _ (λ k q. ap₂ bit_xor (sym (get_or-take n x k 0 q)) (sym (get_or-take n y k 0 q)))

-- a value that was read from its place: w is how the code has its length
pub value_at : (n w at : ℕ) (l v : List ℕ) → w ≡ n → at + w ≤ length l
    → take (length (take (at + w - at) (drop at l))) v ≡ take (at + w - at) (drop at l) → take n v ≡ take n (drop at l)
value_at n w at l v e h q =
    let z : at + w - at ≡ w = omega arith in
    let k : length (take w (drop at l)) ≡ w = length-take-le w (drop at l) (rw length-drop (omega arith)) in
    rw (z, k, e) at q
