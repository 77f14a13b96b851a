-- Lists of which the first n elements count.
use Rattle.std.specs.Prelude.{List, [], ◌∷◌, ℕ, take}

-- of each list of l, its first n elements
unfoldable pub fronts {ℓ} : {A : Type ℓ} → ℕ → List (List A) → List (List A)
fronts n [] = []
fronts n (x ∷ l) = take n x ∷ fronts n l
