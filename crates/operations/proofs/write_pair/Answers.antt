-- Each answer, by the tests that lead to it.
use Rattle.std.proofs.Common.{⊎_elim}
use Rattle.operations.proofs.Makes.{material_wrong, type_unserved, buffers_wrong, makes}
use Rattle.operations.proofs.write_pair.Goals as goal

pub returns-then-material-ne96 : goal.returns-then-material-ne96
returns-then-material-ne96 c = material_wrong _ _ _ _ c.if-material-ne96.true

pub returns-then-kind-ne1 : goal.returns-then-kind-ne1
returns-then-kind-ne1 c = type_unserved _ _ _ _ c.if-material-ne96.false c.if-kind-ne1.true

pub returns-then-secret-ne132 : goal.returns-then-secret-ne132
returns-then-secret-ne132 c =
    buffers_wrong _ _ _ _ c.if-material-ne96.false c.if-kind-ne1.false
    (λ e. ⊎_elim (λ n. n e.0) (λ n. n.1 e.1) c.then-secret-ne132.either)

pub returns : goal.returns
returns c =
    makes _ _ _ _ _ _ _ c.if-material-ne96.false
    c.if-kind-ne1.false c.if-secret-ne132.false
    c.if-key-ne68.false c.made-made.ensures
    c.write.ensures c.write_key.ensures
