-- What a frame's line leaves in the buffer that keeps it.
use Rattle.std.proofs.Common.{◌≡◌, ℕ, ◌-◌, ◌≤◌, List, ◌++◌, length, take, drop, arith, length-drop, length-take}
use Rattle.lines.specs.declared.Line.{Line}
use Rattle.lines.proofs.Buffers.{copied}

-- the bytes after a frame's first
abbrev pub body : List ℕ → Line → List ℕ
body frame l = take (l.len - 1) (drop 1 frame)

-- what a copy of them leaves in a buffer with room for a frame
pub keeps : (frame : List ℕ) (l : Line) (n : ℕ) (old new : List ℕ) → n ≡ length (body frame l)
    → new ≡ body frame l ++ drop (length (body frame l)) old
    → length new ≡ length old → length frame ≤ length old → (n ≤ length new) × (take n new ≡ body frame l)
keeps frame l n old new e q s h =
    (omega (arith, length-take (l.len - 1) (drop 1 frame), length-drop 1 frame), copied n (body frame l) old new e q)
