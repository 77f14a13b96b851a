-- The loop joins byte after byte in place.
use Rattle.std.proofs.Common.{get_or, bit_xor}
use Rattle.lists.specs.Loops.{Replacing}
use Rattle.rfc8391.proofs.xored.Given as goal

abbrev pub invariant-loop-i : goal.invariant-loop-i
invariant-loop-i l = Replacing (λ k. bit_xor (get_or l.fn.x k 0) (get_or l.y k 0)) l.fn.x l.b-items l.i
