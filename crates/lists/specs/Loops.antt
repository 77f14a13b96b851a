-- The invariants of loops that write: into an array by a rule, in place, into lent parts of a buffer.
use Rattle.std.specs.Prelude.{◌≡◌, List, ◌++◌, ℕ, ◌+◌, ◌*◌, ◌≤◌, length, take, drop}
use Rattle.lists.specs.Lists.{tab, flat}

-- the first i places of l, which has n, are filled by the rule f
abbrev pub Filling {ℓ} : {A : Type ℓ} → ℕ → (ℕ → A) → List A → ℕ → Type ℓ
Filling n f l i = (take i l ≡ tab i f) × (length l ≡ n) × (i ≤ n)

-- l is l₀ with its first i places filled by the rule f, which may read l₀ from place i on
abbrev pub Replacing {ℓ} : {A : Type ℓ} → (ℕ → A) → List A → List A → ℕ → Type ℓ
Replacing f l₀ l i = (take i l ≡ tab i f) × (drop i l ≡ drop i l₀) × (length l ≡ length l₀)

-- o is o₀ with f 0 .. f (c - 1), of w places each, written from place b on
abbrev pub Written {ℓ} : {A : Type ℓ} → ℕ → ℕ → (ℕ → List A) → List A → List A → ℕ → Type ℓ
Written b w f o₀ o c =
    (o ≡ take b o₀ ++ (flat (tab c f) ++ drop (b + w * c) o₀)) × (length (flat (tab c f)) ≡ w * c) × (length o ≡ length o₀)
