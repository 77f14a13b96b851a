-- A node by recursion on the height, which falls at each call; positions stay where their leaves are.
use Rattle.std.proofs.Common.{◌≡◌, suc, ◌-◌, arith}
use Rattle.rfc8391.proofs.Trees.{node_leaf, node_join}
use Rattle.keyed.specs.Seeds.{suite_of, seed_of}
use Rattle.tree.proofs.Bounds.{within_left, within_right}
use Rattle.tree.proofs.Tree.+node.Goals as goal

pub node-left-requires : goal.node-left-requires
node-left-requires t c =
    let a = c.args in
    let e : a.height ≡ suc (a.height - 1) = omega arith in
    (omega arith, within_left a.height (a.height - 1) a.position e c.requires)

pub node-right-requires : goal.node-right-requires
node-right-requires t c =
    let a = c.args in
    let e : a.height ≡ suc (a.height - 1) = omega arith in
    (omega arith, within_right a.height (a.height - 1) a.position e c.requires)

pub returns-then-height-eq0 : goal.returns-then-height-eq0
returns-then-height-eq0 t c = node_leaf _ _ _ _ _ _ _ c.if-height-eq0.true c.leaf.ensures

pub returns-else-height-eq0 : goal.returns-else-height-eq0
returns-else-height-eq0 t c =
    let a = c.args in
    let s = a.self.seed in
    let e : a.height ≡ suc (a.height - 1) = omega arith in
    node_join (suite_of s) (seed_of s) a.self.at _ a.height (a.height - 1) a.position _ _ _ e
    c.node-left.ensures c.node-right.ensures c.join_at.ensures
