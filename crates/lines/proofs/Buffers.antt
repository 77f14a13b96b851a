-- Texts at the front of a buffer: copied there, written behind one that stands there, ended by a byte.
use Rattle.std.proofs.Common.{◌≡◌, ℕ, ◌+◌, ◌<◌, ◌≤◌, List, [], ◌∷◌, ◌++◌, length, take, drop, set, sym, ap, ◌∙◌, append_assoc, add-one, length-take-le, take-suc-set}
use Rattle.std.proofs.Math.Seq.{take-append_seam, take-append-add}
use Rattle.std.proofs.lemmas.List.{take-append-le}

-- what a copy leaves at the front
pub copied : (n : ℕ) (p old new : List ℕ) → n ≡ length p → new ≡ p ++ drop (length p) old → take n new ≡ p
copied n p old new e q = rw (q, e) (take-append_seam p (drop (length p) old))

-- what was written to the part of a buffer from place at on
pub written_behind : (out part rest : List ℕ) (at k : ℕ) → at ≤ length out → k ≤ length part
    → take (at + k) (take at out ++ (part ++ rest)) ≡ take at out ++ take k part
written_behind out part rest at k h l =
    ap (λ (n : ℕ). take (n + k) (take at out ++ (part ++ rest))) (sym (length-take-le at out h))
    ∙ take-append-add (take at out) (part ++ rest) k
    ∙ ap (λ (z : List ℕ). take at out ++ z) (take-append-le k part rest l)

-- behind a text, where there is room, a byte is put
pub then_byte : (all text : List ℕ) (n b : ℕ) → take n all ≡ text → n < length all → take (n + 1) (set all n b) ≡ text ++ (b ∷ [])
then_byte all text n b e room = rw (add-one, take-suc-set all n b room, e)

-- behind a text p that was written from place at on
pub with_last : (out ys rest p : List ℕ) (at k b : ℕ) → at ≤ length out → take k ys ≡ p → k ≤ length ys
    → at + k < length (take at out ++ (ys ++ rest))
    → take (at + k + 1) (set (take at out ++ (ys ++ rest)) (at + k) b) ≡ take at out ++ (p ++ (b ∷ []))
with_last out ys rest p at k b h e l room =
    let stands = written_behind out ys rest at k h l ∙ ap (λ (z : List ℕ). take at out ++ z) e in
    then_byte (take at out ++ (ys ++ rest)) (take at out ++ p) (at + k) b stands room ∙ append_assoc (take at out) p (b ∷ [])
