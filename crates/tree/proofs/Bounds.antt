-- Where positions lie: a node's leaves are among 2 ^ 20, and so are its children's and its sibling's.
use Rattle.std.proofs.Common.{◌≡◌, ℕ, suc, ◌+◌, ◌-◌, ◌*◌, ◌/◌, ◌%◌, ◌^◌, ◌<◌, ◌≤◌, sym, ap, ◌∙◌, ⊎_elim, mul-le-mul_right, mul_assoc, div-lt_iff_lt-mul, add-mul, eq-zero-or-pos, pow-suc, arith, pow_pos, pow_mono, pow-add}
use Rattle.rfc8391.specs.Xmss.{sibling}
use Rattle.rfc8391.proofs.Trees.{sibling_of_left, sibling_of_right}

-- the leaves below the node of height h at position p
abbrev pub Within : ℕ → ℕ → Type 0
Within h p = (p + 1) * 2 ^ h ≤ 1048576

-- the two nodes below
pub within_right : (h k p : ℕ) → h ≡ suc k → Within h p → Within k (2 * p + 1)
within_right h k p e w =
    let s : 2 * p + 1 + 1 ≡ (p + 1) + (p + 1) = omega arith in
    let d : (p + 1) * 2 ^ h ≡ (p + 1) * 2 ^ k * 2 = rw (e, pow-suc, mul_assoc) in
    rw (s, add-mul) (omega arith)

pub within_left : (h k p : ℕ) → h ≡ suc k → Within h p → Within k (2 * p)
within_left h k p e w =
    let r : (2 * p + 1 + 1) * 2 ^ k ≤ 1048576 = within_right h k p e w in
    omega (arith, add-mul (2 * p + 1) 1 (2 ^ k))

-- the ancestor at height k of a leaf of a tree of height h
pub ancestor_below : (h i k : ℕ) → i < 2 ^ h → k ≤ h → i / 2 ^ k < 2 ^ (h - k)
ancestor_below h i k q l =
    let e : 2 ^ (h - k) * 2 ^ k ≡ 2 ^ h = sym (pow-add 2 (h - k) k) ∙ ap (λ (n : ℕ). 2 ^ n) (omega arith) in
    (div-lt_iff_lt-mul (pow_pos k)).1 (rw e q)

-- its sibling
sibling_below : (p d : ℕ) → p < 2 ^ suc d → sibling p < 2 ^ suc d
sibling_below p d q =
    let e : 2 ^ suc d ≡ 2 ^ d * 2 = pow-suc 2 d in
    ⊎_elim
    (λ (z : p % 2 ≡ 0). rw (sibling_of_left p z) (omega arith))
    (λ (z : 0 < p % 2). rw (sibling_of_right p (λ n. omega arith)) (omega arith))
    (eq-zero-or-pos (p % 2))

pub sibling_within : (h i k b : ℕ) → h ≤ 20 → i < 2 ^ h → k < h → b ≡ sibling (i / 2 ^ k) → Within k b
sibling_within h i k b t q l eb =
    let s : h - k ≡ suc (h - k - 1) = omega arith in
    let pb : i / 2 ^ k < 2 ^ suc (h - k - 1) = rw (← s) (ancestor_below h i k q (omega arith)) in
    let bb : b < 2 ^ (h - k) = rw (s, eb) (sibling_below (i / 2 ^ k) (h - k - 1) pb) in
    let m : (b + 1) * 2 ^ k ≤ 2 ^ (h - k) * 2 ^ k = mul-le-mul_right (2 ^ k) (omega arith) in
    let e : 2 ^ (h - k) * 2 ^ k ≡ 2 ^ h = sym (pow-add 2 (h - k) k) ∙ ap (λ (n : ℕ). 2 ^ n) (omega arith) in
    let u : 2 ^ h ≤ 2 ^ 20 = pow_mono t in
    omega arith
