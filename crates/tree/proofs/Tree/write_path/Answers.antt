use Rattle.std.proofs.Common.{ℕ, ◌+◌, ◌*◌, ◌≤◌, length, take, refl, ap, ◌∙◌, arith, rules}
use Rattle.lists.proofs.Written.{written_start, written_more}
use Rattle.rfc8391.specs.Xmss.{sibling, auth_path}
use Rattle.tree.proofs.Bounds.{sibling_within}
use Rattle.tree.proofs.Parts.{part_length, all_written}
use Rattle.tree.proofs.Tree.write_path.Goals as goal

pub loop-k-init : goal.loop-k-init
loop-k-init c = written_start 0 c.value_length-n.result _ _

pub node-other-requires : goal.node-other-requires
unfolding sibling
node-other-requires c = sibling_within c.args.height c.args.index c.loop-k.k _ (omega arith) (omega arith) (omega arith) refl

pub loop-k-preserved : goal.loop-k-preserved
unfolding sibling
loop-k-preserved c =
    let l = c.loop-k in
    let n = c.value_length-n in
    let w = c.write_value in
    let within : n.result * l.k + n.result ≤ length l.out = search rules in
    let p = part_length n.result (n.result * l.k) l.out within in
    written_more 0 n.result _ c.args.out.now l.out _ l.k (n.result * l.k) (omega arith) (rw (← l.invariant.2) within)
    (w.ensures ∙ ap (λ (x : ℕ). take x c.node-other.result) (p ∙ n.ensures.0) ∙ c.node-other.ensures)
    (w.auto.out ∙ p)
    l.invariant

pub returns : goal.returns
unfolding auth_path
returns c =
    let n = c.value_length-n in
    all_written n.result c.args.height _ c.args.out.now _ _ (omega arith) (rw n.ensures.0 c.requires.2) c.loop-k.invariant
