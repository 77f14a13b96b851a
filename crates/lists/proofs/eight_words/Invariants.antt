-- The loop writes word after word.
use Rattle.std.proofs.Common.{get_or, replicate}
use Rattle.lists.specs.Bytes.{to_byte}
use Rattle.lists.specs.Loops.{Written}
use Rattle.lists.proofs.eight_words.Given as goal

abbrev pub invariant-loop-i : goal.invariant-loop-i
invariant-loop-i l = Written 0 4 (λ k. to_byte (get_or l.fn.words k 0) 4) (replicate 32 0) l.out l.i
