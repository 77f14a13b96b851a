-- By the law `store_is_mark`, for a page of bytes.
use Rattle.std.proofs.Common.{◌≡◌, sym, subst, arith}
use Rattle.lists.specs.Bytes.{Bytes}
use Rattle.marks.specs.Shown.{StoredByte}
use Rattle.marks.specs.declared.Reserved.{Reserved}
use Rattle.marks.proofs.Marking.{store_is_mark}
use Rattle.promises.proofs.byte_handed_out_is_what_marking_stores.Goals as goal

pub returns : goal.returns
unfolding Bytes
returns c =
    let a = c.args in
    let e = c.reserve.ensures in
    subst (λ (x : Reserved). x.outcome ≡ 0 → StoredByte a.page.now x) (sym e) (store_is_mark 0 1024 a.page.now a.session (omega arith) (λ i. omega (arith, c.type_inv.page i)))
