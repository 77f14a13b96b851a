use Rattle.std.proofs.Common.{◌≡◌, ◌+◌, ◌-◌, ◌*◌, ◌/◌, [], length, get_or, take, refl, ap, ◌∙◌, arith, rules}
use Rattle.tree.proofs.Rounds.{pair_by, round_even, round_odd}
use Rattle.rfc8391.specs.declared.Address.{Address}
use Rattle.keyed.specs.Seeds.{suite_of, seed_of}
use Rattle.rfc8391.specs.Xmss.{rand_hash}
use Rattle.rfc8391.specs.Address.{set_tree_height, set_tree_index}
use Rattle.lists.proofs.Replacing.{replacing_start}
use Rattle.lists.proofs.Fronts.{length-fronts, get_or-fronts, fronts_moved, fronts_replaced}
use Rattle.lists.specs.Fronts.{fronts}
use Rattle.tree.proofs.ltree_round.Goals as goal

pub loop-i-init : goal.loop-i-init
loop-i-init c = replacing_start _ _

pub loop-i-preserved : goal.loop-i-preserved
loop-i-preserved c =
    let a = c.args in
    let l = c.loop-i in
    let n : length a.v ≡ 67 = c.well_formed.1.1.1.0.1.0.1 in
    let w = (suite_of a.s).n in
    let b : c.set_tree_index-at.result ≡ set_tree_index (set_tree_height a.a a.height) l.i =
    c.set_tree_index-at.ensures ∙ ap (λ (x : Address). set_tree_index x l.i) c.set_tree_height.ensures in
    let e : take w c.join.result ≡ rand_hash (suite_of a.s) (seed_of a.s) c.set_tree_index-at.result
    (get_or (fronts w l.v) (2 * l.i) []) (get_or (fronts w l.v) (2 * l.i + 1) []) =
    rw (get_or-fronts w l.v (2 * l.i), get_or-fronts w l.v (2 * l.i + 1)) c.join.ensures in
    fronts_replaced _ w a.v l.v l.i c.join.result
    (pair_by (suite_of a.s) (seed_of a.s) a.a a.height a.w (fronts w a.v) (rw length-fronts (omega arith))
    (fronts w l.v) l.i _ _ (omega arith) b e l.invariant)
    (omega arith) l.invariant

pub returns-then-w-eq1 : goal.returns-then-w-eq1
returns-then-w-eq1 c =
    let a = c.args in
    let l = c.loop-i in
    let n : length a.v ≡ 67 = search rules in
    let w = (suite_of a.s).n in
    rw (fronts_moved w l.v (a.w / 2) (a.w - 1))
    (round_odd (suite_of a.s) (seed_of a.s) a.a a.height a.w (fronts w a.v) (rw length-fronts (omega arith))
    (fronts w l.v) l.i (a.w / 2) (omega arith) refl c.if-w-eq1.true l.invariant)

pub returns-else-w-eq1 : goal.returns-else-w-eq1
returns-else-w-eq1 c =
    let a = c.args in
    let l = c.loop-i in
    let n : length a.v ≡ 67 = search rules in
    let w = (suite_of a.s).n in
    round_even (suite_of a.s) (seed_of a.s) a.a a.height a.w (fronts w a.v) (rw length-fronts (omega arith))
    (fronts w l.v) l.i (omega arith) c.if-w-eq1.false l.invariant
