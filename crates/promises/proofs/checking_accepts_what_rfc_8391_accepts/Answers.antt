-- What the definition of checking gives, by the law `accepted`.
use Rattle.keyed.specs.Suites.{suite}
use Rattle.operations.specs.Check.{check_of}
use Rattle.promises.proofs.Checking.{accepted}
use Rattle.promises.proofs.checking_accepts_what_rfc_8391_accepts.Goals as goal

pub returns : goal.returns
unfolding check_of
returns c = rw c.check.ensures (accepted suite _ _ _)
