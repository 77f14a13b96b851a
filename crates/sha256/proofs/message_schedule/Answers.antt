use Rattle.std.proofs.Common.{◌≡◌, ℕ, List, length, replicate, ◌∙◌, arith, length-append, length-set, take_at, rules}
use Rattle.sha256.proofs.Schedule.{schedule_more}
use Rattle.sha256.specs.Sha256.{word, schedule}
use Rattle.lists.specs.Lists.{turns}
use Rattle.sha256.proofs.message_schedule.Goals as goal

pub loop-t-init : goal.loop-t-init
unfolding schedule turns
loop-t-init c =
    let b : List ℕ = c.args.b in
    let z : List ℕ = replicate 48 0 in
    let n : length b ≡ 16 = search rules in
    rw c.copy_from_slice.ensures.after (length-append b z ∙ omega (arith, n), take_at b z 16 n)

pub loop-t-preserved : goal.loop-t-preserved
unfolding word
loop-t-preserved c =
    let l = c.loop-t in (
      simp length-set l.invariant.0,
      schedule_more l.w _ l.t c.next_word.result (omega arith) (omega arith) l.invariant.1 c.next_word.ensures,
    )
