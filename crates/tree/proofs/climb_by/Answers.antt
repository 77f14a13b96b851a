-- An even position is a left one.
use Rattle.std.proofs.Common.{sym, ◌∙◌}
use Rattle.rfc8391.proofs.Trees.{climb_left, climb_right}
use Rattle.tree.proofs.climb_by.Goals as goal

pub returns-then-position-eq0 : goal.returns-then-position-eq0
returns-then-position-eq0 c = c.join_at.ensures ∙ sym (climb_left _ _ _ _ _ _ _ c.if-position-eq0.true)

pub returns-else-position-eq0 : goal.returns-else-position-eq0
returns-else-position-eq0 c = c.join_at-else-position-eq0.ensures ∙ sym (climb_right _ _ _ _ _ _ _ c.if-position-eq0.false)
