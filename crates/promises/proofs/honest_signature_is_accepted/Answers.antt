-- The law `honest_checks`, of what checking answers.
use Rattle.std.proofs.Common.{ap, ◌∙◌}
use Rattle.operations.specs.declared.Checked.{Checked}
use Rattle.promises.proofs.Making.{pair_key}
use Rattle.promises.proofs.Honest.{honest_checks}
use Rattle.promises.proofs.honest_signature_is_accepted.Goals as goal

pub returns : goal.returns
returns c =
    λ material secret i l h w p es. ap (λ (r : Checked). r.outcome) c.check.ensures ∙ honest_checks material l i _ _ _ h w (pair_key material secret _ p) es
