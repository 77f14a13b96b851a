-- What the definition of reserving gives.
use Rattle.std.proofs.Common.{sym, subst}
use Rattle.marks.specs.Shown.{ReserveNumbers}
use Rattle.marks.specs.declared.Reserved.{Reserved}
use Rattle.marks.proofs.Marking.{reserve_numbers}
use Rattle.promises.proofs.reserving_gives_each_number_exactly.Goals as goal

pub returns : goal.returns
returns c =
    let a = c.args in
    let e = c.reserve.ensures in
    subst (λ (x : Reserved). ReserveNumbers 0 1024 a.page.now a.session x.outcome) (sym e) (reserve_numbers 0 1024 a.page.now a.session)
