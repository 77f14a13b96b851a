-- When one value is left, the L-tree is done.
use Rattle.std.proofs.Common.{◌≡◌, ℕ, ◌+◌, ◌-◌, ◌*◌, ◌/◌, length, take, sym, ap, ◌∙◌, arith, length-take-le, rules}
use Rattle.lists.proofs.Fronts.{length-fronts, get_or-fronts}
use Rattle.rfc8391.specs.Wots.{len}
use Rattle.keyed.proofs.Suites.{seed_fits}
use Rattle.tree.proofs.Rounds.{ltree_by}
use Rattle.keyed.specs.Seeds.{suite_of, held_all, seed_of}
use Rattle.lists.proofs.Turns.{turns_more}
use Rattle.lists.specs.Lists.{turns}
use Rattle.lists.specs.Fronts.{fronts}
use Rattle.tree.proofs.ltree_root.Goals as goal

pub loop-w-init : goal.loop-w-init
unfolding turns
loop-w-init c = (
  ap (λ (k : ℕ). take (2 * k + 3) (fronts (suite_of c.args.s).n c.args.ends))
      c.value_length.ensures.0,
  omega arith,
  omega arith,
  search rules,
)

pub loop-w-preserved : goal.loop-w-preserved
loop-w-preserved c =
    let l = c.loop-w in
    let e : l.w - l.w / 2 ≡ (l.w + 1) / 2 = omega arith in
    (rw e (turns_more _ _ _ l.invariant.0 c.ltree_round-next.ensures), omega arith, omega arith, c.ltree_round-next.type_inv.1.0.1)

pub returns : goal.returns
returns c =
    let l = c.loop-w in
    let S = suite_of c.args.s in
    let k : length l.v ≡ 67 = l.invariant.3 in
    let e : length c.args.ends ≡ 67 = search rules in
    sym (get_or-fronts S.n l.v 0)
    ∙ ltree_by S (seed_of c.args.s) c.args.a (held_all c.args.s c.args.ends) (fronts S.n l.v) l.w l.height
    (rw (length-take-le (len S) (fronts S.n c.args.ends) (rw length-fronts (omega (arith, seed_fits c.args.s)))) (omega arith))
    (omega arith) (rw length-fronts (omega arith)) l.invariant.0
