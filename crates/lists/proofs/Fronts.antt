-- Laws of fronts: lists of which the first n elements count, and loops that fill and replace such lists.
use Rattle.std.proofs.Common.{◌≡◌, ℕ, zero, suc, ◌+◌, ◌<◌, List, [], ◌∷◌, length, get_or, take, set, sym, refl, ap, ◌∙◌}
use Rattle.std.proofs.Math.Seq.{take-nil}
use Rattle.lists.specs.Fronts.{fronts}
use Rattle.lists.specs.Loops.{Filling, Replacing}
use Rattle.lists.proofs.Filling.{filling_more}
use Rattle.lists.proofs.Replacing.{replacing_more}

-- as many fronts as lists
pub length-fronts {ℓ} : {A : Type ℓ} (n : ℕ) (l : List (List A)) → length (fronts n l) ≡ length l
unfolding fronts
length-fronts n [] = refl
length-fronts n (x ∷ l) = ap suc (length-fronts n l)

-- one of them, and one that is replaced
pub get_or-fronts {ℓ} : {A : Type ℓ} (n : ℕ) (l : List (List A)) (i : ℕ) → get_or (fronts n l) i [] ≡ take n (get_or l i [])
unfolding fronts
get_or-fronts n [] i = sym (take-nil n)
get_or-fronts n (x ∷ l) zero = refl
get_or-fronts n (x ∷ l) (suc i) = get_or-fronts n l i

fronts-set {ℓ} : {A : Type ℓ} (n : ℕ) (l : List (List A)) (i : ℕ) (x : List A) → fronts n (set l i x) ≡ set (fronts n l) i (take n x)
unfolding fronts
fronts-set n [] i x = refl
fronts-set n (y ∷ l) zero x = refl
fronts-set n (y ∷ l) (suc i) x = ap (λ (t : List (List _)). take n y ∷ t) (fronts-set n l i x)

-- one that moves to another's place
pub fronts_moved {ℓ} : {A : Type ℓ} (n : ℕ) (l : List (List A)) (i k : ℕ) → fronts n (set l i (get_or l k [])) ≡ set (fronts n l) i (get_or (fronts n l) k [])
fronts_moved n l i k = fronts-set n l i (get_or l k []) ∙ ap (set (fronts n l) i) (sym (get_or-fronts n l k))

-- a loop that fills an array of lists by a rule for their fronts: a turn
pub fronts_more {ℓ} : {A : Type ℓ} (k : ℕ) (f : ℕ → List A) (n : ℕ) (l : List (List A)) (i : ℕ) (x : List A) → take n x ≡ f i → i < k
    → Filling k f (fronts n l) i → Filling k f (fronts n (set l i x)) (i + 1)
fronts_more k f n l i x e h inv = rw fronts-set (filling_more k f (fronts n l) i (take n x) e h inv)

-- one that replaces: a turn
pub fronts_replaced {ℓ} : {A : Type ℓ} (f : ℕ → List A) (n : ℕ) (l₀ l : List (List A)) (i : ℕ) (x : List A) → take n x ≡ f i → i < length l₀
    → Replacing f (fronts n l₀) (fronts n l) i → Replacing f (fronts n l₀) (fronts n (set l i x)) (i + 1)
fronts_replaced f n l₀ l i x e h inv = rw fronts-set (replacing_more f (fronts n l₀) (fronts n l) i (take n x) e (rw length-fronts h) inv)
