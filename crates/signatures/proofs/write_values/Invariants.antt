-- The loop writes the values in their order.
use Rattle.std.proofs.Common.{get_or}
use Rattle.lists.specs.Loops.{Written}
use Rattle.rfc8391.specs.Address.{set_chain_address}
use Rattle.rfc8391.specs.Wots.{chain}
use Rattle.keyed.specs.Seeds.{suite_of, seed_of}
use Rattle.onetime.specs.Secrets.{value_of}
use Rattle.signatures.proofs.write_values.Given as goal

abbrev pub invariant-loop-c : goal.invariant-loop-c
invariant-loop-c l =
    let x = l.x in
    Written 0 l.n (λ k. chain (suite_of x.seed) (seed_of x.seed) (set_chain_address x.at k) (value_of x k) 0 (get_or l.d k 0)) l.initial.out l.out l.c
