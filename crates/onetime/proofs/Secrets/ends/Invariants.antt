-- The loop fills the ends in their order.
use Rattle.onetime.specs.Secrets.{value_of}
use Rattle.keyed.specs.Seeds.{suite_of, seed_of}
use Rattle.rfc8391.specs.Address.{set_chain_address}
use Rattle.rfc8391.specs.Wots.{chain}
use Rattle.lists.specs.Fronts.{fronts}
use Rattle.lists.specs.Loops.{Filling}
use Rattle.onetime.proofs.Secrets.ends.Given as goal

abbrev pub invariant-loop-c : goal.invariant-loop-c
invariant-loop-c l =
    let x = l.self in
    Filling 67 (λ k. chain (suite_of x.seed) (seed_of x.seed) (set_chain_address x.at k) (value_of x k) 0 15) (fronts (suite_of x.seed).n l.ends) l.c
