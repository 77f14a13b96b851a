use Rattle.std.proofs.Common.{◌≡◌, ◌+◌, ◌*◌, ◌≤◌, length, take, replicate, refl, ◌∙◌, le_refl, mul-zero, mul-suc, add-one, arith, length-drop, drop-drop}
use Rattle.onetime.proofs.Ends.{end_from, ends_from, digit_most}
use Rattle.lists.proofs.Flats.{value_within}
use Rattle.keyed.specs.Seeds.{suite_of, held, seed_of}
use Rattle.rfc8391.specs.Wots.{digits, len, len₁}
use Rattle.lists.proofs.Filling.{filling_start, filling_front}
use Rattle.lists.proofs.Fronts.{length-fronts, fronts_more}
use Rattle.lists.specs.Fronts.{fronts}
use Rattle.onetime.proofs.ends_from.Goals as goal
use Rattle.onetime.proofs.ends_from.Goals.{After-digits_of-d}

-- the digits of m
digits-known : (c : After-digits_of-d)
    → take (len (suite_of c.args.s)) c.digits_of-d.result ≡ digits
    (len₁ (suite_of c.args.s)) c.args.m
digits-known c = rw c.value_length-n.ensures.0 at c.digits_of-d.ensures

pub loop-c-init : goal.loop-c-init
loop-c-init c = (filling_start 67 _ (fronts _ (replicate 67 (replicate 32 0))) (length-fronts _ (replicate 67 (replicate 32 0))), rw (mul-zero) refl)

pub split_at-requires : goal.split_at-requires
split_at-requires c =
    let S = suite_of c.args.s in
    let n = c.value_length-n in
    let h : n.result * c.loop-c.c + n.result ≤ length c.args.values.now =
    value_within S.n _ (len S) c.loop-c.c _ n.ensures.0 (omega arith) (rw c.requires (le_refl (S.n * len S))) in
    rw (c.loop-c.invariant.1, length-drop) (omega (arith, h))

pub walk_on-requires : goal.walk_on-requires
walk_on-requires c = (
  c.split_at.ensures.front_len ∙ c.value_length-n.ensures.0,
  omega (
    arith,
    digit_most (suite_of c.args.s) _ _ (digits-known (goal.at.walk_on-requires c).After-digits_of-d) c.loop-c.c
        (omega arith),
    c.from.ensures,
  ),
)

pub loop-c-preserved : goal.loop-c-preserved
unfolding end_from
loop-c-preserved c =
    let a = c.args in
    let n = c.value_length-n.result in
    let e : held a.s c.walk_on.result.value ≡ end_from (suite_of a.s) (seed_of a.s) a.a c.digits_of-d.result a.values.now c.loop-c.c = cc in (
      fronts_more 67 _ (suite_of a.s).n _ _ _ e (omega arith) c.loop-c.invariant.0,
      rw (c.split_at.ensures.back, c.loop-c.invariant.1, drop-drop, add-one, mul-suc) refl,
    )

pub returns : goal.returns
returns c =
    let a = c.args in
    filling_front 67 _ _ _ (len (suite_of a.s)) (omega arith) c.loop-c.invariant.0
    ∙ ends_from (suite_of a.s) (seed_of a.s) a.a a.m _ a.values.now (digits-known (goal.at.returns c).After-digits_of-d)
