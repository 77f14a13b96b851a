-- A buffer that a loop writes part after part, each w elements long.
use Rattle.std.proofs.Common.{◌≡◌, ℕ, ◌+◌, ◌-◌, ◌*◌, ◌≤◌, List, [], length, take, drop, ◌∙◌, append-nil, zero-add, arith, length-drop, drop_of_length-le, length-take}
use Rattle.lists.specs.Lists.{tab, flat}
use Rattle.lists.specs.Loops.{Written}
use Rattle.lists.proofs.Written.{written_end}

-- the part from place b on
pub part_length : (w b : ℕ) (o : List ℕ) → b + w ≤ length o → length (take (b + w - b) (drop b o)) ≡ w
part_length w b o h = simp (length-take, length-drop) (omega arith)

-- n parts that fill the buffer
pub all_written : (w n : ℕ) (f : ℕ → List ℕ) (o₀ o : List ℕ) (c : ℕ) → c ≡ n → length o₀ ≡ w * n → Written 0 w f o₀ o c → o ≡ flat (tab n f)
all_written w n f o₀ o c e l inv =
    let none : drop (0 + w * n) o₀ ≡ [] = drop_of_length-le o₀ {i = 0 + w * n} (rw zero-add (omega arith)) in
    written_end 0 w n f o₀ o c e inv ∙ rw (none, append-nil)
