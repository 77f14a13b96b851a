-- The end of a padded message, from its last whole block on, as the code writes it.
use Rattle.std.proofs.Common.{◌≡◌, ℕ, ◌+◌, ◌-◌, ◌*◌, ◌/◌, ◌%◌, ◌^◌, ◌<◌, ◌≤◌, List, ◌∷◌, ◌++◌, length, take, drop, replicate, sym, ap, ◌∙◌, append_assoc, arith, length-append, length-drop, take-append-drop, length-take-le}
use Rattle.std.proofs.lemmas.List.{length-replicate}
use Rattle.lists.specs.Bytes.{to_byte}
use Rattle.lists.proofs.Numbers.{length-to_byte, to_byte-mod}
use Rattle.sha256.specs.Sha256.{padding, hashed, digest}
use Rattle.sha256.specs.Midstate.{padded_rest, finished}
use Rattle.sha256.specs.declared.State.{State}
use Rattle.sha256.proofs.Blocks.{hashed_front, hashed_splits}

-- a padding's length
length-padding : (n : ℕ) → length (padding n) ≡ (119 - n % 64) % 64 + 9
unfolding padding
length-padding n = simp (length-append, length-replicate, length-to_byte) (omega arith)

-- the rest of a message after its whole blocks is padded to j blocks, and these are hashed last
pub finished_ending : (s : State) (k : ℕ) (m : List ℕ) (j : ℕ) → length m % 64 + 9 ≤ 64 * j → 64 * j < length m % 64 + 73
    → finished s k m
    ≡ digest (hashed j (hashed (length m / 64) s m) (drop (length m / 64 * 64) m ++ padding (64 * k + length m)))
unfolding finished padded_rest
finished_ending s k m j lo hi =
    let n : ℕ = length m / 64 in
    let f : ℕ = length m / 64 * 64 in
    let p : List ℕ = padding (64 * k + length m) in
    let lf : length (take f m) ≡ 64 * n = length-take-le f m (omega arith) ∙ omega arith in
    let e : m ++ p ≡ take f m ++ (drop f m ++ p) = rw (← append_assoc (take f m) (drop f m) p, take-append-drop) in
    let l : length (m ++ p) / 64 ≡ n + j = rw (length-append, length-padding) (omega arith) in
    let w : hashed n s (take f m) ≡ hashed n s m =
    sym (rw take-append-drop at (hashed_front n s (take f m) (drop f m) (omega arith))) in
    rw (l, e) (ap digest (hashed_splits n j s (take f m) (drop f m ++ p) lf ∙ rw w))

-- the length in bits, of a length that was kept modulo 2 ^ 64
bits_mod : (n : ℕ) → to_byte (8 * (n % 2 ^ 64)) 8 ≡ to_byte (8 * n) 8
bits_mod n =
    let e : 8 * (n % 2 ^ 64) % 2 ^ 64 ≡ 8 * n % 2 ^ 64 = omega arith in
    sym (to_byte-mod (8 * (n % 2 ^ 64)) 8) ∙ ap (λ (x : ℕ). to_byte x 8) e ∙ to_byte-mod (8 * n) 8

-- the hash from the code's last j blocks p: the rest d of m, the bit 1, zeros, and the length b in bits
pub finished_by : (s v : State) (k : ℕ) (m p b d : List ℕ) (n j : ℕ) → v ≡ hashed (length m / 64) s m
    → n ≡ (64 * k + length m) % 2 ^ 64 → b ≡ to_byte (8 * n) 8 → length m % 64 + 9 ≤ 64 * j → 64 * j < length m % 64 + 73
    → d ≡ drop (length m / 64 * 64) m → p ≡ d ++ (0x80 ∷ (replicate (64 * j - 9 - length d) 0 ++ b))
    → digest (hashed j v p) ≡ finished s k m
unfolding padding
finished_by s v k m p b d n j ev en eb lo hi ed ep =
    let f : ℕ = length m / 64 * 64 in
    let l : length d ≡ length m % 64 = ap length ed ∙ (length-drop f m ∙ omega arith) in
    let z : 64 * j - 9 - length d ≡ (119 - (64 * k + length m) % 64) % 64 = omega arith in
    let eb : b ≡ to_byte (8 * (64 * k + length m)) 8 = eb ∙ ap (λ (x : ℕ). to_byte (8 * x) 8) en ∙ bits_mod (64 * k + length m) in
    rw (ep, z, eb, ed, ev) (sym (finished_ending s k m j lo hi))
