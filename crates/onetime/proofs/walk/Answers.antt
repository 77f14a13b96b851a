use Rattle.std.proofs.Common.{◌≡◌, ◌+◌, ◌-◌, sym, arith}
use Rattle.rfc8391.proofs.Chains.{chain_none, chain_more}
use Rattle.onetime.proofs.walk.Goals as goal

pub loop-j-init : goal.loop-j-init
loop-j-init c =
    let e : c.args.from - c.args.from ≡ 0 = omega arith in
    rw e (sym (chain_none _ _ _ _ _))

pub loop-j-preserved : goal.loop-j-preserved
loop-j-preserved c =
    let from = c.args.from in
    let j = c.loop-j.j in
    let e : j + 1 - from ≡ j - from + 1 = omega arith in
    let f : j ≡ from + (j - from) = omega arith in
    rw e (chain_more _ _ _ _ _ _ c.loop-j.invariant (rw f at c.chain_step-next.ensures))
