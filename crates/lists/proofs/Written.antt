-- A loop that lends part after part of a buffer to a writer: its start, a turn, its end.
use Rattle.std.proofs.Common.{◌≡◌, ℕ, ◌+◌, ◌-◌, ◌*◌, ◌≤◌, List, ◌++◌, length, take, drop, sym, refl, ap, ◌∙◌, append_assoc, add-zero, mul-zero, mul-suc, add-one, arith, length-append, length-drop, take-append-drop, length-take, length-take-le, drop-drop, take_at, drop_at}
use Rattle.lists.specs.Lists.{tab, flat}
use Rattle.lists.specs.Loops.{Written}
use Rattle.lists.proofs.Flats.{flat-snoc}

-- before the first part is written
pub written_start {ℓ} : {A : Type ℓ} (b w : ℕ) (f : ℕ → List A) (o : List A) → Written b w f o o 0
unfolding tab flat
written_start b w f o = (rw (mul-zero, add-zero) (sym (take-append-drop b o)), rw mul-zero, refl)

-- one part more, lent from place at on and written by its rule (the width is as a lent part shows it)
pub written_more {ℓ} : {A : Type ℓ} (b w : ℕ) (f : ℕ → List A) (o₀ o ys : List A) (c at : ℕ) → at ≡ b + w * c
    → at + w ≤ length o₀ → ys ≡ f c → length ys ≡ w → Written b w f o₀ o c
    → Written b w f o₀ (take at o ++ (ys ++ drop (at + w - at) (drop at o))) (c + 1)
unfolding tab
written_more {A} b w f o₀ o ys c at ea hb ey ly inv =
    let ek : at + w - at ≡ w = omega arith in
    let p : List A = take b o₀ ++ flat (tab c f) in
    let lp : length p ≡ at = length-append (take b o₀) (flat (tab c f)) ∙ omega (arith, length-take-le b o₀ (omega arith), inv.1) in
    let eo : o ≡ p ++ drop at o₀ = inv.0 ∙ rw (append_assoc, ea) in
    let et : take at o ≡ p = rw eo (take_at p (drop at o₀) at lp) in
    let ed : drop at o ≡ drop at o₀ = rw eo (drop_at p (drop at o₀) at lp) in
    let en : at + w ≡ b + w * (c + 1) = rw (add-one, mul-suc) (omega arith) in
    let ef : flat (tab (c + 1) f) ≡ flat (tab c f) ++ ys = rw (add-one, ey) (flat-snoc (tab c f) (f c)) in (
      rw (ek, et, ed, drop-drop, en, ef, append_assoc, append_assoc),
      rw (ef, length-append, inv.1, ly, add-one, mul-suc),
      simp (ek, length-append, length-take, length-drop, ly, inv.2) (omega arith),
    )

-- when all n parts are written: every element of the buffer
pub written_end {ℓ} : {A : Type ℓ} (b w n : ℕ) (f : ℕ → List A) (o₀ o : List A) (c : ℕ) → c ≡ n → Written b w f o₀ o c
    → o ≡ take b o₀ ++ (flat (tab n f) ++ drop (b + w * n) o₀)
written_end b w n f o₀ o c e inv = inv.0 ∙ ap (λ (k : ℕ). take b o₀ ++ (flat (tab k f) ++ drop (b + w * k) o₀)) e
