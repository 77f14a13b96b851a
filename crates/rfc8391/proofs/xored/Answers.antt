use Rattle.std.proofs.Common.{◌≡◌, length, get_or, sym, ◌∙◌, arith, take_all, rules}
use Rattle.rfc8391.specs.Suite.{xor}
use Rattle.lists.proofs.Replacing.{replacing_start, replacing_more, replacing_read}
use Rattle.rfc8391.proofs.xored.Goals as goal

pub loop-i-init : goal.loop-i-init
loop-i-init c = replacing_start _ c.args.x

pub loop-i-preserved : goal.loop-i-preserved
loop-i-preserved c =
    let l = c.loop-i in
    let n : length c.args.x ≡ 32 = search rules in
    let same : get_or l.b-items l.i 0 ≡ get_or c.args.x l.i 0 = replacing_read _ c.args.x l.b-items l.i l.i 0 (omega arith) l.invariant in
    replacing_more _ c.args.x l.b-items l.i _ (rw same) (omega arith) l.invariant

pub returns : goal.returns
unfolding xor
returns c =
    let l = c.loop-i in
    let n : length c.args.x ≡ 32 = search rules in
    let e : l.i ≡ 32 = omega arith in
    sym (take_all 32 l.b-items (omega (arith, l.invariant.2))) ∙ rw e at l.invariant.0
