-- The customer's checking program, line by line, as a reader sees it.
use Rattle.std.specs.Prelude.{Option, Some, None, List, [], ◌∷◌, ℕ, eqb}
use Rattle.lists.specs.Lists.{pick}
use Rattle.operations.specs.Check.{check_of}
use Rattle.lines.specs.Lines.{lines_of}
use Rattle.lines.specs.Decimal.{numbers_line}
use Rattle.lines.specs.Steps.{Stepped, stepped}
use Rattle.lines.specs.Reading.{by_lines}

-- the latest key and message
pub record Latest : Type 0 where
  pub key : List ℕ
  pub message : List ℕ

abbrev pub latest : List ℕ → List ℕ → Latest
latest key message = record { key = key; message = message }

-- the line's number and an outcome are printed; key and message stay
abbrev pub prints : Latest → ℕ → ℕ → Stepped Latest
prints s n outcome = stepped s (numbers_line (n ∷ outcome ∷ []))

-- a frame, by its first byte: 1 a key follows, 2 a message, 3 a signature to check with the latest of both; any other is no frame
unfoldable pub framed : Latest → ℕ → ℕ → List ℕ → Stepped Latest
framed s n first rest =
    pick (eqb first 1) (stepped (latest rest s.message) [])
    (pick (eqb first 2) (stepped (latest s.key rest) [])
    (pick (eqb first 3) (prints s n (check_of s.key s.message rest).outcome) (prints s n 12)))

-- what line n is answered: an empty line, and one that is not hexadecimal or too long, is no frame
unfoldable pub answer : Latest → ℕ → Option (List ℕ) → Stepped Latest
answer s n None = prints s n 12
answer s n (Some []) = prints s n 12
answer s n (Some (first ∷ rest)) = framed s n first rest

-- all that the program prints for an input: a frame has at most 16,384 bytes, key and message are empty at the start
unfoldable pub output_of : List ℕ → List ℕ
output_of input = (by_lines 16384 answer (latest [] []) 1 (lines_of input)).out
