-- Laws of `flat` and `parts`, of lists of equal length above all.
use Rattle.std.proofs.Common.{◌≡◌, ℕ, zero, suc, ◌+◌, ◌-◌, ◌*◌, ◌<◌, ◌≤◌, List, [], ◌∷◌, ◌++◌, length, get_or, take, drop, sym, ap, ◌∙◌, ap₂, ⊎_elim, append_assoc, append-nil, le_of_suc-le-suc, not-suc-le-zero, eq-or-lt_of_le, mul-le-mul_left, mul-zero, zero-add, mul-suc, arith, length-append, take-take, drop-drop, take_at, take-add, drop_at}
use Rattle.std.proofs.Math.Seq.{take-nil}
use Rattle.lists.specs.Lists.{tab, flat, parts}
use Rattle.lists.proofs.Tabs.{tab-get_or, tab_ext}

-- one list more at the end
pub flat-snoc {ℓ} : {A : Type ℓ} (l : List (List A)) (x : List A) → flat (l ++ (x ∷ [])) ≡ flat l ++ x
unfolding flat
flat-snoc [] x = append-nil x
flat-snoc (y ∷ l) x = ap (λ (t : List _). y ++ t) (flat-snoc l x) ∙ sym (append_assoc y (flat l) x)

-- n lists of w elements have w * n
pub length-flat {ℓ} : {A : Type ℓ} (w n : ℕ) (f : ℕ → List A) → ((k : ℕ) → k < n → length (f k) ≡ w) → length (flat (tab n f)) ≡ w * n
unfolding tab flat
length-flat w zero f h = sym (mul-zero w)
length-flat w (suc n) f h = rw (flat-snoc, length-append, length-flat w n f (λ k q. h k (omega arith)), h n (omega arith), mul-suc)

-- what stands before list c, list c, and what comes after it
flat_split {ℓ} : {A : Type ℓ} (n : ℕ) (f : ℕ → List A) (c : ℕ) → c < n
    → (r : List A) × (flat (tab n f) ≡ flat (tab c f) ++ (f c ++ r))
unfolding tab
flat_split zero f c h = absurd (not-suc-le-zero h)
flat_split (suc n) f c h =
    ⊎_elim
    (λ (e : c ≡ n). ([], rw (e, append-nil) (flat-snoc (tab n f) (f n))))
    (λ (l : c < n).
    let ih = flat_split n f c l in (ih.0 ++ f n, flat-snoc (tab n f) (f n) ∙ rw (ih.1, append_assoc, append_assoc)))
    (eq-or-lt_of_le (le_of_suc-le-suc h))

-- the w places of list c, where b places stand before the first list
pub part_of_flat {ℓ} : {A : Type ℓ} (b w n : ℕ) (f : ℕ → List A) (p q : List A) (c : ℕ) → length p ≡ b
    → ((k : ℕ) → k < n → length (f k) ≡ w) → c < n → take w (drop (b + w * c) (p ++ (flat (tab n f) ++ q))) ≡ f c
part_of_flat {A} b w n f p q c lp lf h =
    let s = flat_split n f c h in
    let e : p ++ (flat (tab n f) ++ q) ≡ (p ++ flat (tab c f)) ++ (f c ++ (s.0 ++ q)) =
    rw (s.1, append_assoc, append_assoc, append_assoc) in
    let l : length (p ++ flat (tab c f)) ≡ b + w * c =
    length-append p (flat (tab c f)) ∙ ap₂ (λ (x y : ℕ). x + y) lp (length-flat w c f (λ k q. lf k (omega arith))) in
    rw (e, drop_at (p ++ flat (tab c f)) (f c ++ (s.0 ++ q)) (b + w * c) l) (take_at (f c) (s.0 ++ q) w (lf c h))

-- the parts of a list of n lists of w elements are these lists
pub parts_of_flat {ℓ} : {A : Type ℓ} (w n : ℕ) (l : List (List A)) (p q : List A) (b : ℕ) → length p ≡ b → length l ≡ n
    → ((k : ℕ) → k < n → length (get_or l k []) ≡ w) → parts w n b (p ++ (flat l ++ q)) ≡ l
unfolding parts
parts_of_flat {A} w n l p q b lp ll lf =
    let f : ℕ → List A = λ k. get_or l k [] in
    let e : tab n f ≡ l = tab-get_or n l [] ll in
    ap (λ (t : List (List A)). tab n (λ c. take w (drop (b + w * c) (p ++ (flat t ++ q))))) (sym e)
    ∙ tab_ext n _ f (λ c h. part_of_flat b w n f p q c lp lf h)
    ∙ e

-- n parts of w elements, one after the other, are a part of w * n
pub flat-parts {ℓ} : {A : Type ℓ} (w n b : ℕ) (l : List A) → flat (parts w n b l) ≡ take (w * n) (drop b l)
unfolding parts tab flat
flat-parts w zero b l = rw mul-zero
flat-parts w (suc n) b l =
    let e : take (w * suc n) (drop b l) ≡ take (w * n) (drop b l) ++ take w (drop (b + w * n) l) =
    rw (mul-suc, take-add (w * n) w (drop b l), drop-drop (w * n) b l) in
    flat-snoc (tab n (λ c. take w (drop (b + w * c) l))) (take w (drop (b + w * n) l))
    ∙ ap (λ (t : List _). t ++ take w (drop (b + w * n) l)) (flat-parts w n b l)
    ∙ sym e

-- part c of k, of n places each, lies within them
part_within : (n k c : ℕ) → c < k → n * c + n ≤ n * k
part_within n k c h =
    let m : n * suc c ≤ n * k = mul-le-mul_left n h in
    omega (arith, mul-suc n c)

-- and so within what holds all k; w is how the code has n
pub value_within : (n w k c l : ℕ) → w ≡ n → c < k → n * k ≤ l → w * c + w ≤ l
value_within n w k c l e h q = rw e (let p = part_within n k c h in omega arith)

-- the parts of a part are the whole's
drop_of_take {ℓ} : {A : Type ℓ} (i m : ℕ) (l : List A) → drop i (take m l) ≡ take (m - i) (drop i l)
drop_of_take zero m l = let e : m - 0 ≡ m = omega arith in rw e
drop_of_take (suc i) zero l = let e : zero - suc i ≡ 0 = omega arith in rw e
drop_of_take (suc i) (suc m) [] = sym (take-nil (suc m - suc i))
drop_of_take (suc i) (suc m) (x ∷ l) = let e : suc m - suc i ≡ m - i = omega arith in rw e (drop_of_take i m l)

pub parts_of_part {ℓ} : {A : Type ℓ} (w k b m : ℕ) (l : List A) → w * k ≤ m → parts w k 0 (take m (drop b l)) ≡ parts w k b l
unfolding parts
parts_of_part w k b m l h =
    tab_ext k _ _ (λ c q.
    let p : w * c + w ≤ w * k = part_within w k c q in
    rw (zero-add, drop_of_take (w * c) m (drop b l), drop-drop (w * c) b l) (take-take w (m - w * c) (drop (b + w * c) l) (omega arith)))
