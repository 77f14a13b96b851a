-- Marks in order, as the laws speak of them.
use Rattle.std.proofs.Common.{◌≡◌, ℕ, ◌-◌, ◌*◌, ◌/◌, ◌^◌, ◌<◌, min, ltb, List}
use Rattle.lists.specs.Lists.{tab}
use Rattle.marks.specs.Page.{mark_used}

-- of the marks below n exactly the first u are used
abbrev pub FirstUsed : List ℕ → ℕ → ℕ → Type 0
FirstUsed page u n = (i : ℕ) → i < n → mark_used page i ≡ ltb i u

-- byte j of the page with u used marks, and that page
unfoldable pub byte_of : ℕ → ℕ → ℕ
byte_of u j = 255 / 2 ^ min 8 (u - 8 * j)

unfoldable pub page_of : ℕ → List ℕ
page_of u = tab 128 (byte_of u)
