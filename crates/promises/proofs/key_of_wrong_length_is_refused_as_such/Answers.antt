-- The first of `numbers`.
use Rattle.std.proofs.Common.{ap, ◌∙◌}
use Rattle.operations.specs.declared.Checked.{Checked}
use Rattle.keyed.specs.Suites.{suite}
use Rattle.operations.specs.Check.{check_of}
use Rattle.promises.proofs.Checking.{numbers}
use Rattle.promises.proofs.key_of_wrong_length_is_refused_as_such.Goals as goal

pub returns : goal.returns
unfolding check_of
returns c = λ k. ap (λ (r : Checked). r.outcome) c.check.ensures ∙ (numbers suite _ _ _).one.1 k
