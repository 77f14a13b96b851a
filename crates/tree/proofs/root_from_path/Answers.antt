use Rattle.std.proofs.Common.{◌≡◌, ℕ, ◌+◌, ◌*◌, ◌/◌, ◌≤◌, List, [], length, get_or, take, drop, sym, refl, ap, ◌∙◌, ap₂, le_refl, mul-zero, mul-suc, div-one, add-one, arith, length-drop, drop-drop}
use Rattle.tree.proofs.Joins.{node_read}
use Rattle.lists.proofs.Flats.{value_within}
use Rattle.keyed.specs.Seeds.{suite_of, held, seed_of}
use Rattle.rfc8391.proofs.Trees.{half_position}
use Rattle.rfc8391.specs.Xmss.{climb, root_from_path}
use Rattle.lists.proofs.Turns.{turns_start, turns_more}
use Rattle.lists.specs.Lists.{parts}
use Rattle.tree.proofs.root_from_path.Goals as goal

pub loop-k-init : goal.loop-k-init
unfolding root_from_path
loop-k-init c = (turns_start _ _, sym (div-one _), rw mul-zero refl)

pub loop-k-preserved : goal.loop-k-preserved
unfolding root_from_path
loop-k-preserved c =
    let l = c.loop-k in
    let n = c.value_length-n in
    let a = c.args in
    let S = suite_of a.s in
    let p = c.split_at in
    let e : p.result.0.now ≡ take n.result (drop (n.result * l.k) a.path.now) = p.ensures.front ∙ ap (take n.result) l.invariant.2 in
    let x : held a.s c.value_of.result ≡ get_or (parts S.n a.height 0 a.path.now) l.k [] =
    node_read S.n n.result a.height a.path.now _ _ l.k n.ensures.0 (omega arith) e p.ensures.front_len c.value_of.ensures in (
      turns_more _ _ _ l.invariant.0
          (c.climb_by-next.ensures ∙ ap₂ (λ (q : ℕ) (y : List ℕ). climb S (seed_of a.s) a.a l.k q (held a.s l.v) y) l.invariant.1 x),
      rw add-one (ap (λ (q : ℕ). q / 2) l.invariant.1 ∙ half_position a.index l.k),
      rw (p.ensures.back, l.invariant.2, drop-drop, add-one, mul-suc) refl,
    )
