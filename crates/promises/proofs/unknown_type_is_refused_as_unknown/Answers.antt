-- The second of `numbers`.
use Rattle.std.proofs.Common.{ap, ◌∙◌}
use Rattle.operations.specs.declared.Checked.{Checked}
use Rattle.keyed.specs.Suites.{suite}
use Rattle.operations.specs.Check.{check_of}
use Rattle.operations.proofs.Types.{no_type}
use Rattle.promises.proofs.Checking.{numbers}
use Rattle.promises.proofs.unknown_type_is_refused_as_unknown.Goals as goal

pub returns : goal.returns
unfolding check_of
returns c = λ k a b d. ap (λ (r : Checked). r.outcome) c.check.ensures ∙ (numbers suite _ _ _).two.1 (k, no_type _ a b d)
