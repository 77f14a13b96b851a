-- The laws that answer the statements of `src/`, which names this list.
use Rattle.shams.proofs.Checks.{honest_keeps, fixed_breaks, refusing_breaks, one_chain_breaks}
use Rattle.shams.proofs.Histories.{fixed_index_breaks, refusing_all_breaks, invented_breaks, marking_nothing_breaks, writing_nothing_breaks, first_honest_breaks, keeping_breaks, unmarked_breaks}

pub ruleset breaks = (honest_keeps, fixed_breaks, refusing_breaks, one_chain_breaks, fixed_index_breaks, refusing_all_breaks, invented_breaks, marking_nothing_breaks, writing_nothing_breaks, first_honest_breaks, keeping_breaks, unmarked_breaks)
