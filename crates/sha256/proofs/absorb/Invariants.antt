-- After as many turns of the loop, so many blocks are hashed.
use Rattle.std.proofs.Common.{◌≡◌}
use Rattle.sha256.specs.Sha256.{hashed}
use Rattle.sha256.proofs.absorb.Given as goal

abbrev pub invariant-loop-bytes : goal.invariant-loop-bytes
invariant-loop-bytes l = l.v ≡ hashed l.bytes-index l.initial.v l.m
