-- Each return by the byte that leads to it.
use Rattle.std.proofs.Common.{◌≡◌, ℕ, ◌*◌, List, get_or, sym, ◌∙◌, inl, inr, arith, w8, Fits}
use Rattle.lists.specs.Bytes.{Bytes}
use Rattle.marks.proofs.Counting.{counts_none, few, byte_more, byte_out, byte_late, all_counted}
use Rattle.marks.proofs.count.Goals as goal
use Rattle.marks.proofs.count.Goals.{else-z-ne0-via-then-z-ne0+else-n-i, else-z-ne0-via-else-z-ne0}

bytes : (page : List ℕ) → ((i : ℕ) → Fits w8 (get_or page i 0)) → Bytes page
unfolding Bytes
bytes page f j = (f j).fits

pub returns-then-page-ne128 : goal.returns-then-page-ne128
returns-then-page-ne128 c = counts_none _ (λ w. c.if-page-ne128.true w.0)

pub returns-in_err-z : goal.returns-in_err-z
returns-in_err-z c = c.from_residual.ensures ∙ byte_out _ (bytes _ c.type_inv.page) c.loop-i.i (omega arith) (sym (c.in_err-z.ensures))

pub returns-then-n-i : goal.returns-then-n-i
returns-then-n-i c =
    let l = c.loop-i in
    byte_late _ l.i _ _ l.invariant.1 l.invariant.2 (sym c.in_ok-z.ensures) (bytes _ c.type_inv.page) (omega arith) c.if-z-ne0.true (λ e. omega arith)

pub overflow_add-n : goal.overflow_add-n
overflow_add-n c = omega (arith, c.loop-i.invariant.1, few _ _ (sym c.in_ok-z.ensures))

pub loop-i-preserved : goal.loop-i-preserved
loop-i-preserved c =
    let l = c.loop-i in
    let b = sym c.in_ok-z.ensures in (
      l.invariant.0,
      omega (arith, l.invariant.1, few _ _ b),
      byte_more _ _ _ _ l.invariant.1 l.invariant.2 b
          (elim c.else-z-ne0.branch [
            | else-z-ne0-via-then-z-ne0+else-n-i w ↦ inr (omega arith)
            | else-z-ne0-via-else-z-ne0 w ↦ inl w.if-z-ne0.false
          ]),
    )

pub returns : goal.returns
returns c =
    let l = c.loop-i in
    let e : 8 * l.i ≡ 1024 = omega arith in
    all_counted _ l.n l.invariant.0 (omega arith) (rw (← e) l.invariant.2)
