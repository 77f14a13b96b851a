-- Laws of `tab`, the list by its rule.
use Rattle.std.proofs.Common.{◌≡◌, ℕ, zero, suc, ◌+◌, ◌<◌, ◌≤◌, List, [], ◌∷◌, ◌++◌, length, get_or, take, sym, refl, ap, ◌∙◌, ap₂, ⊎_elim, le_of_suc-le-suc, not-suc-le-zero, eq-or-lt_of_le, add-one, arith, length-append, take_all, take-suc}
use Rattle.std.proofs.Math.ListN.{get_or-append}
use Rattle.std.proofs.lemmas.List.{take-append-le, get_or_at}
use Rattle.lists.specs.Lists.{tab}

-- a list by its rule has as many elements as it says
pub length-tab {ℓ} : {A : Type ℓ} (n : ℕ) (f : ℕ → A) → length (tab n f) ≡ n
unfolding tab
length-tab zero f = refl
length-tab (suc n) f = length-append (tab n f) (f n ∷ []) ∙ ap (λ (k : ℕ). k + 1) (length-tab n f) ∙ add-one n

-- its element at place k is what the rule says
pub get_or-tab {ℓ} : {A : Type ℓ} (n : ℕ) (f : ℕ → A) (d : A) (k : ℕ) → k < n → get_or (tab n f) k d ≡ f k
unfolding tab
get_or-tab zero f d k h = absurd (not-suc-le-zero h)
get_or-tab (suc n) f d k h =
    ⊎_elim
    (λ (e : k ≡ n). get_or_at (tab n f) (f n) [] d k (length-tab n f ∙ sym e) ∙ ap f (sym e))
    (λ (l : k < n). get_or-append (tab n f) (f n ∷ []) d k (omega (arith, length-tab n f)) ∙ get_or-tab n f d k l)
    (eq-or-lt_of_le (le_of_suc-le-suc h))

-- rules that agree below n make the same list
pub tab_ext {ℓ} : {A : Type ℓ} (n : ℕ) (f g : ℕ → A) → ((k : ℕ) → k < n → f k ≡ g k) → tab n f ≡ tab n g
unfolding tab
tab_ext zero f g h = refl
tab_ext (suc n) f g h =
    ap₂ (λ (t : List _) (x : _). t ++ (x ∷ [])) (tab_ext n f g (λ k q. h k (omega arith))) (h n (omega arith))

-- the front of a list is made by reading it
pub tab-take {ℓ} : {A : Type ℓ} (l : List A) (d : A) (i : ℕ) → i ≤ length l → tab i (λ k. get_or l k d) ≡ take i l
unfolding tab
tab-take l d zero h = refl
tab-take l d (suc i) h = ap (λ (t : List _). t ++ (get_or l i d ∷ [])) (tab-take l d i (omega arith)) ∙ sym (take-suc l i d h)

-- a whole list is made by reading it
pub tab-get_or {ℓ} : {A : Type ℓ} (n : ℕ) (l : List A) (d : A) → length l ≡ n → tab n (λ k. get_or l k d) ≡ l
tab-get_or n l d e = tab-take l d n (omega arith) ∙ take_all n l (omega arith)

-- the front of a list by its rule
pub take-tab {ℓ} : {A : Type ℓ} (k n : ℕ) (f : ℕ → A) → k ≤ n → take k (tab n f) ≡ tab k f
unfolding tab
take-tab k zero f h = let e : k ≡ 0 = omega arith in rw e
take-tab k (suc n) f h =
    ⊎_elim
    (λ (e : k ≡ suc n). rw e (take_all (suc n) (tab (suc n) f) (omega (arith, length-tab (suc n) f))))
    (λ (q : k < suc n). take-append-le k (tab n f) (f n ∷ []) (omega (arith, length-tab n f)) ∙ take-tab k n f (omega arith))
    (eq-or-lt_of_le h)
