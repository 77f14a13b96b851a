-- What a line of an input is, and which bytes stand on it in hexadecimal.
use Rattle.std.specs.Prelude.{◌&&◌, Option, Some, None, List, [], ◌∷◌, ◌++◌, ℕ, ◌+◌, ◌-◌, ◌*◌, length, eqb, leb}
use Rattle.lists.specs.Lists.{pick}

-- a text in front of the first line, or alone on a line where there is none
unfoldable pub front : List ℕ → List (List ℕ) → List (List ℕ)
front t [] = t ∷ []
front t (l ∷ ls) = (t ++ l) ∷ ls

-- the lines of an input: each ends at a line feed or at the input's end; after a last line feed, or in an empty input, none begins
unfoldable pub lines_of : List ℕ → List (List ℕ)
lines_of [] = []
lines_of (c ∷ cs) = pick (eqb c 10) ([] ∷ lines_of cs) (front (c ∷ []) (lines_of cs))

-- the value of a lowercase hexadecimal digit; none for any other byte
unfoldable pub hex_digit : ℕ → Option ℕ
hex_digit c = pick (leb 48 c && leb c 57) (Some (c - 48)) (pick (leb 97 c && leb c 102) (Some (c - 87)) None)

-- the byte of two half-bytes before the bytes that follow; none where a half is none, or what follows is
unfoldable pub byte_before : Option ℕ → Option ℕ → Option (List ℕ) → Option (List ℕ)
byte_before (Some high) (Some low) (Some bytes) = Some ((16 * high + low) ∷ bytes)
byte_before _ _ _ = None

-- the bytes of a line, two digits each, high half first; none for an odd number of digits or any other character
unfoldable pub hex_bytes : List ℕ → Option (List ℕ)
hex_bytes [] = Some []
hex_bytes (c ∷ []) = None
hex_bytes (c ∷ d ∷ cs) = byte_before (hex_digit c) (hex_digit d) (hex_bytes cs)

-- bytes that room holds; none where there are more
unfoldable pub within : ℕ → Option (List ℕ) → Option (List ℕ)
within room None = None
within room (Some bytes) = pick (leb (length bytes) room) (Some bytes) None

-- the content of a line, of at most room bytes
unfoldable pub content : ℕ → List ℕ → Option (List ℕ)
content room l = within room (hex_bytes l)
