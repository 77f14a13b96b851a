-- What holds of every element that is read from a list, of the default past its end too.
use Rattle.std.proofs.Common.{ℕ, zero, suc, ◌<◌, List, [], ◌∷◌, ◌++◌, get_or, mod-lt, arith}
use Rattle.lists.specs.Lists.{tab}
use Rattle.lists.specs.Bytes.{Bytes, to_byte}

module _ {ℓ} {A : Type ℓ} (d : A) (P : A → Type 0) where
  -- of one element and of a list
  pub cons_all : (x : A) (l : List A) → P x → ((j : ℕ) → P (get_or l j d)) → (i : ℕ) → P (get_or (x ∷ l) i d)
  cons_all x l p h zero = p
  cons_all x l p h (suc i) = h i

  -- of two lists, one after the other
  pub append_all : (l r : List A) → ((j : ℕ) → P (get_or l j d)) → ((j : ℕ) → P (get_or r j d)) → (i : ℕ) → P (get_or (l ++ r) i d)
  append_all [] r hl hr i = hr i
  append_all (x ∷ l) r hl hr zero = hl 0
  append_all (x ∷ l) r hl hr (suc i) = append_all l r (λ j. hl (suc j)) hr i

  -- of a list by its rule
  pub tab_all : (n : ℕ) (f : ℕ → A) → P d → ((k : ℕ) → P (f k)) → (i : ℕ) → P (get_or (tab n f) i d)
  unfolding tab
  tab_all zero f pd h i = pd
  tab_all (suc n) f pd h i = append_all (tab n f) (f n ∷ []) (tab_all n f pd h) (cons_all (f n) [] (h n) (λ j. pd)) i

-- a number's bytes are bytes
pub to_byte_bytes : (x n : ℕ) → Bytes (to_byte x n)
unfolding Bytes to_byte
to_byte_bytes x zero i = omega arith
to_byte_bytes x (suc n) i = cons_all 0 (λ b. b < 256) _ (to_byte x n) (mod-lt _ (omega arith)) (to_byte_bytes x n) i
