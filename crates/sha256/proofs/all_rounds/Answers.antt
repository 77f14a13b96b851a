-- The code goes over its constants and the words in chunks of four, which stand in their lists.
use Rattle.std.proofs.Common.{◌≡◌, ℕ, ◌+◌, ◌*◌, ◌/◌, ◌<◌, List, [], ◌∷◌, ◌++◌, length, get_or, refl, ap, ap₂, ◌∙◌, arith, length-append, Some}
use Rattle.std.proofs.lemmas.Slice.Zip.{zip_turn}
use Rattle.std.specs.Simd.{first_chunks}
use Rattle.sha256.specs.Sha256.{K, round, rounds}
use Rattle.sha256.proofs.Blocks.{in_chunk}
use Rattle.lists.proofs.Turns.{turns_start, turns_add, turns_ext}
use Rattle.lists.specs.Lists.{turns}
use Rattle.sha256.proofs.all_rounds.Goals as goal

pub loop-k-init : goal.loop-k-init
unfolding rounds
loop-k-init c = turns_start _ _

pub loop-k-preserved : goal.loop-k-preserved
unfolding rounds K
loop-k-preserved c =
    let l = c.loop-k in
    let i : ℕ = length l.yielded in
    let w : List ℕ = c.args.w in
    let s = c.into_iter-k-iterator.result in
    let t = zip_turn c.as_chunks.result.0.now c.as_chunks-2.result.0.now l.yielded s l.k-iterator c.next.new.self (Some (c.in-Some.k, c.in-Some.four)) (cc) (cc) l.yielded_by _ refl c.in-Some.ensures.steps in
    let table : c.as_chunks.result.0.now ≡ first_chunks 4 (length K / 4) K = c.as_chunks.ensures.front in
    let k : (j : ℕ) → j < 4 → get_or c.in-Some.k.now j 0 ≡ get_or K (4 * i + j) 0 =
    λ j q. in_chunk 4 _ i j K _ _ table c.as_chunks.ensures.front_len t.0 q (t.2 []) in
    let f : (j : ℕ) → j < 4 → get_or c.in-Some.four.now j 0 ≡ get_or w (4 * i + j) 0 =
    λ j q. in_chunk 4 _ i j w _ _ c.as_chunks-2.ensures.front c.as_chunks-2.ensures.front_len t.1 q (t.3 []) in
    let e : 4 * length (l.yielded ++ ((c.in-Some.k, c.in-Some.four) ∷ [])) ≡ 4 * i + 4 = rw length-append (omega arith) in
    rw e
    (c.four_rounds-v.ensures
    ∙ turns_ext 4 _ _ _ (λ j q v. ap₂ (round v) (k j q) (f j q))
    ∙ ap (turns 4 _) l.invariant
    ∙ turns_add (4 * i) 4 _ _)
