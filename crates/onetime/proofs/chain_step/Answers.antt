-- Key, mask, exclusive or and F, one after the other.
use Rattle.onetime.proofs.Ends.{step_by}
use Rattle.keyed.proofs.Suites.{seed_fits}
use Rattle.keyed.specs.Seeds.{suite_of, seed_of}
use Rattle.onetime.proofs.chain_step.Goals as goal

pub returns : goal.returns
returns c =
    let a = c.args in
    let s = a.s in
    step_by (suite_of s) (seed_of s) a.a a.j a.x _ _ _ _ (seed_fits s) (cc) (cc) c.xored.ensures c.f.ensures
