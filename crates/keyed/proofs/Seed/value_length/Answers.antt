-- The length that the hash's types say is the suite's.
use Rattle.std.proofs.Common.{sym, ◌∙◌}
use Rattle.keyed.proofs.Suites.{suite_length}
use Rattle.keyed.proofs.Seed.value_length.Goals as goal

pub returns : goal.returns
returns c = (c.value_length.ensures.0 ∙ sym (suite_length _), c.value_length.ensures.1)
