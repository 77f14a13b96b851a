-- What is left of the chunk leads to the same end, and the buffers are still ready.
use Rattle.frames.specs.Buffers.{sess, Ready}
use Rattle.frames.proofs.Sessions.{Turn}
use Rattle.frames.proofs.State.take_chunk.Given as goal

abbrev pub invariant-loop-c : goal.invariant-loop-c
invariant-loop-c l =
    Turn l.chunk (sess l.initial.frame l.initial.key l.initial.message l.initial.self) (sess l.frame l.key l.message l.self) l.out l.c-index l.n
    × Ready l.frame l.key l.message l.self
