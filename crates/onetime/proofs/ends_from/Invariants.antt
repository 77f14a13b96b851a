-- The loop fills the ends in their order, and has the values behind.
use Rattle.std.proofs.Common.{◌≡◌, ◌*◌, drop}
use Rattle.onetime.proofs.Ends.{end_from}
use Rattle.keyed.specs.Seeds.{suite_of, seed_of}
use Rattle.lists.specs.Fronts.{fronts}
use Rattle.lists.specs.Loops.{Filling}
use Rattle.onetime.proofs.ends_from.Given as goal

abbrev pub invariant-loop-c : goal.invariant-loop-c
invariant-loop-c l =
    Filling 67 (end_from (suite_of l.s) (seed_of l.s) l.a l.d l.values) (fronts (suite_of l.s).n l.ends) l.c × (l.rest ≡ drop (l.n * l.c) l.values)
