-- The customer's table of proved examples, rows 8 to 12: what the definitions give there.
use Rattle.std.specs.Prelude.{◌≡◌, List, [], ◌∷◌, ◌++◌, ℕ, replicate, set}
use Rattle.marks.specs.Page.{used}
use Rattle.marks.specs.Marking.{reserved, reserve_of, marked, mark_end, mark_of}

-- a page with `index` used marks: reserving gives that index, and marking it makes byte `place` be `value`
pub record Next (page : List ℕ) (index session place value : ℕ) : Type 0 where
  pub count : used page ≡ index
  pub reserves : reserve_of 0 1024 page 0 ≡ reserved 0 session place value
  pub marks : mark_of page session ≡ mark_end (marked 0 session) (set page place value)

-- a page that reserving refuses with 8
abbrev pub Full : List ℕ → Type 0
Full page = reserve_of 0 1024 page 0 ≡ reserved 8 0 0 0

-- a page that reserving and marking refuse with 7, whatever the session
abbrev pub Malformed : List ℕ → Type 0
Malformed page = (s : ℕ) → (reserve_of 0 1024 page s ≡ reserved 7 s 0 0) × (mark_of page s ≡ mark_end (marked 7 s) page)

pub record PageRows : Type 0 where
  pub row_8 : Next (replicate 128 0xff) 0 1 0 0x7f
  pub row_9 : Next (0x00 ∷ 0x00 ∷ 0x1f ∷ replicate 125 0xff) 19 20 2 0x0f
  pub row_10 : Next (replicate 127 0x00 ++ (0x01 ∷ [])) 1023 1024 127 0x00
  pub row_11 : Full (replicate 128 0x00)
  pub row_12 : Malformed (0x7f ∷ 0x7f ∷ replicate 126 0xff) × Malformed (0xbf ∷ replicate 127 0xff)
