-- The L-tree over the chain ends of the leaf's secret values.
use Rattle.tree.proofs.Joins.{leaf_by}
use Rattle.tree.proofs.Tree.leaf.Goals as goal

pub returns : goal.returns
returns c =
    let x = c.secrets in
    leaf_by c.args.self c.args.i x.result _ _ _ x.ensures.0 x.ensures.1 x.ensures.2 c.ends.ensures c.ltree_at.ensures c.ltree_root.ensures
