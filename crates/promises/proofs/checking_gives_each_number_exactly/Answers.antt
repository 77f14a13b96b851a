-- What the definition of checking gives, by the law `numbers`.
use Rattle.keyed.specs.Suites.{suite}
use Rattle.operations.specs.Check.{check_of}
use Rattle.promises.proofs.Checking.{numbers}
use Rattle.promises.proofs.checking_gives_each_number_exactly.Goals as goal

pub returns : goal.returns
unfolding check_of
returns c = rw c.check.ensures (numbers suite _ _ _)
