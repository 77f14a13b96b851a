-- Laws of `turns`: a loop that carries a value from turn to turn.
use Rattle.std.proofs.Common.{◌≡◌, ℕ, zero, suc, ◌+◌, ◌<◌, refl, ap, ◌∙◌, add-zero, add-suc, add-one, arith}
use Rattle.lists.specs.Lists.{turns}

-- before the first turn
pub turns_start {ℓ} : {A : Type ℓ} (f : ℕ → A → A) (x : A) → x ≡ turns 0 f x
unfolding turns
turns_start f x = refl

-- one turn more
pub turns_more {ℓ} : {A : Type ℓ} (n : ℕ) (f : ℕ → A → A) (x : A) {y z : A} → y ≡ turns n f x → z ≡ f n y → z ≡ turns (n + 1) f x
unfolding turns
turns_more n f x e g = rw add-one (g ∙ ap (f n) e)

-- m turns, and then n that are numbered from m on, are m + n turns
pub turns_add {ℓ} : {A : Type ℓ} (m n : ℕ) (f : ℕ → A → A) (x : A) → turns n (λ i. f (m + i)) (turns m f x) ≡ turns (m + n) f x
unfolding turns
turns_add m zero f x = rw add-zero
turns_add m (suc n) f x = rw add-suc (ap (f (m + n)) (turns_add m n f x))

-- turns that agree below n lead to the same value
pub turns_ext {ℓ} : {A : Type ℓ} (n : ℕ) (f g : ℕ → A → A) (x : A) → ((i : ℕ) → i < n → (y : A) → f i y ≡ g i y) → turns n f x ≡ turns n g x
unfolding turns
turns_ext zero f g x h = refl
turns_ext (suc n) f g x h = ap (f n) (turns_ext n f g x (λ i q. h i (omega arith))) ∙ h n (omega arith) (turns n g x)
