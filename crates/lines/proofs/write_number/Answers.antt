-- The digits are copied to the front, by the law of decimal text, and the last byte is put behind them.
use Rattle.std.proofs.Common.{◌≡◌, List, ◌++◌, ℕ, ◌≤◌, length, take, drop, sym, ap, ◌∙◌, arith}
use Rattle.lines.proofs.Decimals.{decimal_is, decimal_le}
use Rattle.lines.proofs.Buffers.{copied, then_byte}
use Rattle.lines.proofs.write_number.Goals as goal

pub returns-clause-out_after : goal.returns-clause-out_after
returns-clause-out_after c =
    let d = c.decimal-k in
    let k : ℕ = d.result in
    let copy = c.copy_from_slice in
    let text : List ℕ = copy.new.self in
    let old : List ℕ = c.args.out.now in
    let same : text ≡ take k d.new.out = copy.ensures.after in
    let long : k ≡ length text = d.ensures.in_bounds.1 ∙ sym (ap length same) in
    let most : k ≤ 20 = decimal_le _ _ c.ranges.n.fits d.ensures.len in
    then_byte _ _ k c.args.last
    (copied k text old (text ++ drop k old) long (ap (λ (n : ℕ). text ++ drop n old) long)
    ∙ same ∙ d.ensures.digits ∙ decimal_is _ k c.ranges.n.fits d.ensures.len)
    (omega arith)
