-- The loop fills the 16 words of a block by their rule.
use Rattle.std.proofs.Common.{◌*◌}
use Rattle.lists.specs.Bytes.{number}
use Rattle.lists.specs.Loops.{Filling}
use Rattle.sha256.proofs.words_of.Given as goal

abbrev pub invariant-loop-j : goal.invariant-loop-j
invariant-loop-j l = Filling 16 (λ k. number l.bytes (4 * k) 4) l.word-items l.j
