-- Before step j, the steps from `from` on are taken.
use Rattle.std.proofs.Common.{◌≡◌, ◌-◌}
use Rattle.keyed.specs.Seeds.{suite_of, held, seed_of}
use Rattle.rfc8391.specs.Wots.{chain}
use Rattle.onetime.proofs.walk.Given as goal

abbrev pub invariant-loop-j : goal.invariant-loop-j
invariant-loop-j l = held l.s l.value ≡ chain (suite_of l.s) (seed_of l.s) l.a (held l.s l.initial.value) l.from (l.j - l.from)
