-- A program that answers lines, twice: as its reader sees it, line by line, and as a step on characters, which the code makes.
-- Over the room for a line's bytes and over any answer, which takes a state, a line's number from 1 and its content.
use Rattle.std.specs.Prelude.{Bool, true, false, ◌||◌, Option, Some, None, is_some, List, [], ◌∷◌, ◌++◌, ℕ, ◌+◌, ◌*◌, length, take, eqb, leb}
use Rattle.lists.specs.Lists.{pick}
use Rattle.lines.specs.Lines.{hex_digit, content}
use Rattle.lines.specs.Steps.{Stepped, stepped, after, chunked}
use Rattle.lines.specs.declared.Line.{Line}

-- a line as it comes in: its bytes so far, a high half that waits for its low half, whether it can no longer be read
pub record Sofar : Type 0 where
  pub bytes : List ℕ
  pub high : Option ℕ
  pub bad : Bool

abbrev pub sofar : List ℕ → Option ℕ → Bool → Sofar
sofar bytes high bad = record { bytes = bytes; high = high; bad = bad }

-- a line that has not begun
abbrev pub fresh : Sofar
fresh = sofar [] None false

-- its numbers, whatever the buffer holds
abbrev pub fresh_line : Line
fresh_line = record { len = 0; high = None; bad = false }

-- what a buffer and a line's numbers stand for
abbrev pub read : List ℕ → Line → Sofar
read frame l = sofar (take l.len frame) l.high l.bad

-- a half-byte more: it ends a byte where a high half waits, and else waits itself
unfoldable pub joined : List ℕ → Option ℕ → ℕ → Sofar
joined bytes None half = sofar bytes (Some half) false
joined bytes (Some high) half = sofar (bytes ++ ((16 * high + half) ∷ [])) None false

-- a character more, by the digit that it is; one that is none spoils the line
unfoldable pub with_digit : Sofar → Option ℕ → Sofar
with_digit l None = sofar l.bytes l.high true
with_digit l (Some half) = joined l.bytes l.high half

-- one character more; where no byte has room it spoils the line
unfoldable pub put_of : ℕ → Sofar → ℕ → Sofar
put_of room l c = pick (l.bad || leb room (length l.bytes)) (sofar l.bytes l.high true) (with_digit l (hex_digit c))

-- what a line holds where it ends
unfoldable pub held : Sofar → Option (List ℕ)
held l = pick (l.bad || is_some l.high) None (Some l.bytes)

-- lines that ended, whether one has begun, that line so far, and the state of who answers
pub record Session (A : Type 0) : Type 0 where
  pub number : ℕ
  pub begun : Bool
  pub line : Sofar
  pub state : A

abbrev pub session : {A : Type 0} → ℕ → Bool → Sofar → A → Session A
session n b l a = record { number = n; begun = b; line = l; state = a }

-- before any input
abbrev pub start : {A : Type 0} → A → Session A
start a = session 0 false fresh a

module _ {A : Type 0} (answer : A → ℕ → Option (List ℕ) → Stepped A) where
  -- a line that ends
  unfoldable pub closed : Session A → Stepped (Session A)
  closed s =
      stepped
      (session (s.number + 1) false fresh (answer s.state (s.number + 1) (held s.line)).to)
      (answer s.state (s.number + 1) (held s.line)).out

  -- the end of the input: a line that has begun ends there
  unfoldable pub end_input : Session A → Stepped (Session A)
  end_input s = pick s.begun (closed s) (stepped s [])

module _ {A : Type 0} (room : ℕ) (answer : A → ℕ → Option (List ℕ) → Stepped A) where
  -- the reader's view: lines are answered in turn, and what the answers say is written one after the other
  unfoldable pub by_lines : A → ℕ → List (List ℕ) → Stepped A
  by_lines a n [] = stepped a []
  by_lines a n (l ∷ ls) = after (answer a n (content room l)).out (by_lines (answer a n (content room l)).to (n + 1) ls)

  -- one character
  unfoldable pub char_step : Session A → ℕ → Stepped (Session A)
  char_step s c = pick (eqb c 10) (closed answer s) (stepped (session s.number true (put_of room s.line c) s.state) [])

  -- all that the step writes for an input that comes in chunks, and at its end
  unfoldable pub written : A → List (List ℕ) → List ℕ
  written a chunks = (chunked char_step (start a) chunks).out ++ (end_input answer (chunked char_step (start a) chunks).to).out
