-- A turn of the loop over a chunk.
use Rattle.std.proofs.Common.{◌≡◌, ℕ, ◌+◌, ◌*◌, ◌<◌, ◌≤◌, List, ◌++◌, length, get_or, take, drop, Option, ap, ◌∙◌, arith}
use Rattle.lines.specs.Steps.{Stepped, stepped, after, run_of}
use Rattle.lines.specs.Reading.{Session, char_step}
use Rattle.lines.proofs.Buffers.{written_behind}
use Rattle.lines.proofs.Runs.{turn_more}
use Rattle.frames.specs.Frames.{Latest, answer}
use Rattle.frames.specs.Buffers.{says}

-- the step of this program
abbrev pub step : Session Latest → ℕ → Stepped (Session Latest)
step = char_step 16384 answer

-- before character i of a chunk, from the session at the start: what was written, and what is left, which leads to the same end
pub record Turn (chunk : List ℕ) (first now : Session Latest) (out : List ℕ) (i n : ℕ) : Type 0 where
  pub little : n ≤ 42 * i
  pub few : now.number ≤ first.number + i
  pub rest : after (take n out) (run_of step now (drop i chunk)) ≡ run_of step first chunk

-- a character more, with what is told of it in the part of the buffer from place n on
pub turn_next : (chunk : List ℕ) (first now new : Session Latest) (out part rest : List ℕ) (i n k room : ℕ) (told : Option ℕ)
    → Turn chunk first now out i n → room ≡ 16384 → i < length chunk → n ≤ length out → k ≤ length part
    → k ≤ 42 → new.number ≤ now.number + 1
    → take k part ≡ says new.number told
    → stepped new (says new.number told) ≡ char_step room answer now (get_or chunk i 0)
    → Turn chunk first new (take n out ++ (part ++ rest)) (i + 1) (n + k)
turn_next chunk first now new out part rest i n k room told t big h l m few more w e =
    record {
      little = omega arith;
      few = omega arith;
      rest =
          turn_more step now new (take n out) (take (n + k) (take n out ++ (part ++ rest))) chunk i h
          (rw (written_behind out part rest n k l m, w) (ap (after (take n out)) (rw big at e)))
          ∙ t.rest;
    }
