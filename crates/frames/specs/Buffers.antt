-- What the program's buffers and numbers stand for, and what is known of them between two characters.
use Rattle.std.specs.Prelude.{◌≡◌, Option, Some, None, false, List, [], ◌∷◌, ℕ, ◌≤◌, length, take}
use Rattle.std.specs.Borrow.{MutBor}
use Rattle.lines.specs.Decimal.{numbers_line}
use Rattle.lines.specs.Reading.{Session, session, fresh_line, read}
use Rattle.frames.specs.Frames.{Latest, latest}
use Rattle.frames.specs.declared.Kept.{Kept}
use Rattle.frames.specs.declared.State.{State}

-- key and message stand at the front of their buffers
abbrev pub latest_in : List ℕ → List ℕ → Kept → Latest
latest_in key message k = latest (take k.key key) (take k.message message)

-- the session of `lines` that three buffers and a state stand for
abbrev pub sess : List ℕ → List ℕ → List ℕ → State → Session Latest
sess frame key message s = session s.number s.begun (read frame s.line) (latest_in key message s.kept)

-- the state at the start
abbrev pub start_state : State
start_state = record { kept = record { key = 0; message = 0 }; line = fresh_line; number = 0; begun = false }

-- the buffer that a frame comes into, those of key and message, and the session of `lines`
pub record Run : Type 0 where
  pub frame : List ℕ
  pub key : MutBor (List ℕ)
  pub message : MutBor (List ℕ)
  pub session : Session Latest

-- the caller's own buffers are still those of key and message
pub record SameBuffers (old new : Run) : Type 0 where
  pub key : new.key.ghost_name ≡ old.key.ghost_name
  pub message : new.message.ghost_name ≡ old.message.ghost_name

-- what is told of line n: an outcome, or nothing
abbrev pub says : ℕ → Option ℕ → List ℕ
says n None = []
says n (Some outcome) = numbers_line (n ∷ outcome ∷ [])

-- no number says more than its buffer has
pub record Holds (key message : List ℕ) (k : Kept) : Type 0 where
  pub key_in : k.key ≤ length key
  pub message_in : k.message ≤ length message

-- and a frame of any length can be kept as key and as message
pub record Ready (frame key message : List ℕ) (s : State) : Type 0 where
  pub line_in : s.line.len ≤ length frame
  pub key_room : length frame ≤ length key
  pub message_room : length frame ≤ length message
  pub kept : Holds key message s.kept
