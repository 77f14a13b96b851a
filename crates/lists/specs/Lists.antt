-- Lists as loops make them. Over any type of elements.
use Rattle.std.specs.Prelude.{Bool, true, false, List, [], ◌∷◌, ◌++◌, ℕ, zero, suc, ◌+◌, ◌*◌, take, drop}

-- one of two, by a test
abbrev pub pick {ℓ} : {A : Type ℓ} → Bool → A → A → A
pick true x y = x
pick false x y = y

-- the list of n elements whose element at place i is f i
unfoldable pub tab {ℓ} : {A : Type ℓ} → ℕ → (ℕ → A) → List A
tab zero f = []
tab (suc n) f = tab n f ++ (f n ∷ [])

-- the lists of a list, one after the other
unfoldable pub flat {ℓ} : {A : Type ℓ} → List (List A) → List A
flat [] = []
flat (x ∷ l) = x ++ flat l

-- the value x after n turns, of which turn i takes a value y to f i y
unfoldable pub turns {ℓ} : {A : Type ℓ} → ℕ → (ℕ → A → A) → A → A
turns zero f x = x
turns (suc n) f x = f n (turns n f x)

-- the n parts of l, of w elements each, from place b on
unfoldable pub parts {ℓ} : {A : Type ℓ} → ℕ → ℕ → ℕ → List A → List (List A)
parts w n b l = tab n (λ c. take w (drop (b + w * c) l))
