-- The tree is that of the two seeds, over the suite of SHA-256.
use Rattle.std.proofs.Common.{ap, ◌∙◌}
use Rattle.keyed.specs.Suites.{suite}
use Rattle.keyed.proofs.Suites.{suite_sha2}
use Rattle.probe.proofs.Named.{leaf_named}
use Rattle.probe.proofs.zab_probe_leaf.Goals as goal

pub returns : goal.returns
returns c =
    let t = c.single.ensures in
    leaf_named _ _ _ _ _ t.0 t.1 (ap suite t.2 ∙ suite_sha2) t.3 c.leaf.type_inv.1.0.1 c.leaf.ensures
