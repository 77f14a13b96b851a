use Rattle.std.proofs.Common.{◌≡◌, ◌+◌, ◌*◌, ◌≤◌, length, take, ap, ◌∙◌, le_refl, arith}
use Rattle.lists.specs.Lists.{flat}
use Rattle.lists.proofs.Flats.{value_within}
use Rattle.lists.proofs.Written.{written_start, written_more}
use Rattle.rfc8391.specs.Wots.{digits, len, len₁}
use Rattle.keyed.specs.Seeds.{suite_of, seed_of}
use Rattle.onetime.specs.Secrets.{value_of}
use Rattle.onetime.proofs.Ends.{chain_by, digit_most, values_of}
use Rattle.tree.proofs.Parts.{part_length, all_written}
use Rattle.signatures.proofs.write_values.Goals as goal
use Rattle.signatures.proofs.write_values.Goals.{After-digits_of-d, In-loop-c}

pub loop-c-init : goal.loop-c-init
loop-c-init c = written_start 0 c.value_length-n.result _ _

-- the digits of m
digits-known : (c : After-digits_of-d) → take (len (suite_of c.args.x.seed)) c.digits_of-d.result ≡ digits (len₁ (suite_of c.args.x.seed)) c.args.m
digits-known c = rw c.value_length-n.ensures.0 at c.digits_of-d.ensures

-- the part of value c
within : (c : In-loop-c) → c.value_length-n.result * c.loop-c.c + c.value_length-n.result ≤ length c.args.out.now
within c = value_within _ _ (len (suite_of c.args.x.seed)) c.loop-c.c _ c.value_length-n.ensures.0 (omega arith) (rw c.requires (le_refl _))

pub walk_into-requires : goal.walk_into-requires
walk_into-requires c =
    let n = c.value_length-n in
    let l = c.loop-c in
    let at = goal.at.walk_into-requires c in (
      part_length n.result (n.result * l.c) l.out (rw l.invariant.2 (within at.In-loop-c)) ∙ n.ensures.0,
      omega (arith, digit_most (suite_of c.args.x.seed) _ _ (digits-known at.After-digits_of-d) l.c (omega arith), c.from.ensures),
    )

pub loop-c-preserved : goal.loop-c-preserved
loop-c-preserved c =
    let n = c.value_length-n in
    let l = c.loop-c in
    let w = c.walk_into in
    let fits = within (goal.at.loop-c-preserved c).In-loop-c in
    written_more 0 n.result _ c.args.out.now l.out _ l.c (n.result * l.c) (omega arith) fits
    (chain_by _ _ _ _ _ _ _ _ _ c.set_chain_address.ensures c.value.ensures c.from.ensures (w.ensures.1 ∙ w.ensures.0))
    (w.auto.out ∙ part_length n.result (n.result * l.c) l.out (rw l.invariant.2 fits))
    l.invariant

pub returns : goal.returns
returns c =
    let n = c.value_length-n in
    let x = c.args.x in
    let S = suite_of x.seed in
    all_written n.result (2 * n.result + 3) _ c.args.out.now _ _ (omega arith) (rw n.ensures.0 c.requires) c.loop-c.invariant
    ∙ rw n.ensures.0
    (ap flat (values_of S (seed_of x.seed) x.at c.args.m c.digits_of-d.result (value_of x) (digits-known (goal.at.returns c).After-digits_of-d)))
