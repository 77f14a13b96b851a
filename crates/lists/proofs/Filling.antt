-- A loop that fills an array by a rule, one place after the other: its start, a turn, its end.
use Rattle.std.proofs.Common.{◌≡◌, ℕ, ◌+◌, ◌<◌, ◌≤◌, List, length, take, set, sym, refl, ap, ◌∙◌, add-one, arith, length-set, take_all, take-suc-set}
use Rattle.lists.specs.Lists.{tab}
use Rattle.lists.specs.Loops.{Filling}

-- before the first place is filled
pub filling_start {ℓ} : {A : Type ℓ} (n : ℕ) (f : ℕ → A) (l : List A) → length l ≡ n → Filling n f l 0
unfolding tab
filling_start n f l e = (refl, e, omega arith)

-- one place more, by its rule
pub filling_more {ℓ} : {A : Type ℓ} (n : ℕ) (f : ℕ → A) (l : List A) (i : ℕ) (v : A) → v ≡ f i → i < n → Filling n f l i
    → Filling n f (set l i v) (i + 1)
unfolding tab
filling_more n f l i v e h inv =
    let q : i < length l = omega (arith, inv.1) in
    (rw (add-one, take-suc-set l i v q, inv.0, e), length-set l i v ∙ inv.1, omega arith)

-- when all are filled, the list is that of the rule
pub filling_end {ℓ} : {A : Type ℓ} (n : ℕ) (f : ℕ → A) (l : List A) (i : ℕ) → n ≤ i → Filling n f l i → l ≡ tab n f
filling_end n f l i h inv =
    let e : i ≡ n = omega (arith, inv.2) in
    sym (take_all i l (omega (arith, inv.1))) ∙ inv.0 ∙ ap (λ (k : ℕ). tab k f) e

-- when k places are filled, they are those of the rule
pub filling_front {ℓ} : {A : Type ℓ} (n : ℕ) (f : ℕ → A) (l : List A) (i k : ℕ) → i ≡ k → Filling n f l i → take k l ≡ tab k f
filling_front n f l i k e inv = rw e at inv.0
