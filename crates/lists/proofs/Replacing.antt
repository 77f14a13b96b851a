-- A loop that fills an array in place by a rule on what it held: its start, a turn, and what a turn still reads.
use Rattle.std.proofs.Common.{◌≡◌, ℕ, ◌+◌, ◌-◌, ◌<◌, ◌≤◌, List, length, get_or, drop, set, sym, refl, ap, ◌∙◌, add-one, arith, length-set, get_or-drop, drop-drop, take-suc-set, drop-set-lt}
use Rattle.lists.specs.Lists.{tab}
use Rattle.lists.specs.Loops.{Replacing}

-- before the first place is filled
pub replacing_start {ℓ} : {A : Type ℓ} (f : ℕ → A) (l : List A) → Replacing f l l 0
unfolding tab
replacing_start f l = (refl, refl, refl)

-- one place more, by its rule
pub replacing_more {ℓ} : {A : Type ℓ} (f : ℕ → A) (l₀ l : List A) (i : ℕ) (v : A) → v ≡ f i → i < length l₀ → Replacing f l₀ l i
    → Replacing f l₀ (set l i v) (i + 1)
unfolding tab
replacing_more f l₀ l i v e h inv =
    let q : i < length l = omega (arith, inv.2) in
    let d : drop (i + 1) l ≡ drop (i + 1) l₀ = sym (drop-drop 1 i l) ∙ ap (drop 1) inv.1 ∙ drop-drop 1 i l₀ in
    (rw (add-one, take-suc-set l i v q, inv.0, e), drop-set-lt (i + 1) l i v (omega arith) ∙ d, length-set l i v ∙ inv.2)

-- what stands from place i on is as it was
pub replacing_read {ℓ} : {A : Type ℓ} (f : ℕ → A) (l₀ l : List A) (i k : ℕ) (d : A) → i ≤ k → Replacing f l₀ l i → get_or l k d ≡ get_or l₀ k d
replacing_read f l₀ l i k d h inv =
    let e : k ≡ i + (k - i) = omega arith in
    rw e (sym (get_or-drop i l (k - i) d) ∙ ap (λ (t : List _). get_or t (k - i) d) inv.1 ∙ get_or-drop i l₀ (k - i) d)
