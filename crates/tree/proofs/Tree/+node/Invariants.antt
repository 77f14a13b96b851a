-- A node by recursion on the height.
use Rattle.tree.proofs.Tree.+node.Given as goal

-- the height falls at each call
abbrev pub decreases-node : goal.decreases-node
decreases-node l = l.height
