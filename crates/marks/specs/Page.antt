-- The page of marks by its bits: which marks are used, how many, and which pages are well formed.
use Rattle.std.specs.Prelude.{◌≡◌, Bool, true, cond, not, ◌&&◌, ◌||◌, List, ◌⊎◌, ℕ, zero, suc, ◌-◌, ◌/◌, ◌%◌, ◌^◌, ◌<◌, ◌≤◌, length, get_or, set, eqb}

-- mark k of a byte, counted from the most significant bit, is used where the bit is 0
unfoldable pub bit_used : ℕ → ℕ → Bool
bit_used b k = eqb (b / 2 ^ (7 - k) % 2) 0

-- mark i of a page is bit i mod 8 of byte i div 8
unfoldable pub mark_used : List ℕ → ℕ → Bool
mark_used page i = bit_used (get_or page (i / 8) 0) (i % 8)

-- how many of the first n marks are used
unfoldable pub used_below : List ℕ → ℕ → ℕ
used_below page zero = 0
used_below page (suc n) = cond (mark_used page n) (suc (used_below page n)) (used_below page n)

-- of the first n marks, one is used only where all before it are
unfoldable pub ordered_below : List ℕ → ℕ → Bool
ordered_below page zero = true
ordered_below page (suc n) = ordered_below page n && (not (mark_used page n) || eqb (used_below page n) n)

-- how many marks are used
unfoldable pub used : List ℕ → ℕ
used page = used_below page 1024

-- 128 bytes, and no used mark after an unused one
abbrev pub WellFormed : List ℕ → Type 0
WellFormed page = (length page ≡ 128) × (ordered_below page 1024 ≡ true)

-- no used mark below n comes after an unused one, in plain words
abbrev pub Ordered : List ℕ → ℕ → Type 0
Ordered page n = (i j : ℕ) → i < j → j < n → mark_used page j ≡ true → mark_used page i ≡ true

-- a page of a range of indices, where it is 0 every well formed one: the marks below its first index are used from the start
abbrev pub Serves : ℕ → List ℕ → Type 0
Serves first page = WellFormed page × (first ≤ used page)

-- a page fits the session of index s - 1, from 1 to 1,024: that index is the first unused one, or the last used one
abbrev pub Fits : List ℕ → ℕ → Type 0
Fits page s = ((1 ≤ s) × (s ≤ 1024)) × ((used page ≡ s - 1) ⊎ (used page ≡ s))

-- a byte whose mark k was unused, with that mark used
unfoldable pub cleared : ℕ → ℕ → ℕ
cleared b k = b - 2 ^ (7 - k)

-- a page whose mark i was unused, with that mark used
unfoldable pub with_mark : List ℕ → ℕ → List ℕ
with_mark page i = set page (i / 8) (cleared (get_or page (i / 8) 0) (i % 8))
