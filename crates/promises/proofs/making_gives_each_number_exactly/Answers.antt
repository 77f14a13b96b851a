-- What the definition of making gives.
use Rattle.std.proofs.Common.{sym, subst}
use Rattle.operations.specs.Make.{MakeEnd}
use Rattle.promises.specs.Making.{MakeNumbers}
use Rattle.promises.proofs.Making.{make_numbers}
use Rattle.promises.proofs.making_gives_each_number_exactly.Goals as goal

pub returns : goal.returns
returns c =
    let a = c.args in
    let e = c.make.ensures in
    subst (λ (x : MakeEnd). MakeNumbers a.kind a.material.now a.secret.now a.key.now x.answer.outcome) (sym e) (make_numbers a.kind a.material.now a.secret.now a.key.now)
