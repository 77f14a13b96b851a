-- The rest and its ending are one block.
use Rattle.std.proofs.Common.{◌≡◌, ◌/◌, length, refl, ap, ◌∙◌, arith, rules}
use Rattle.lists.proofs.Turns.{turns_start}
use Rattle.sha256.proofs.Endings.{finished_by}
use Rattle.sha256.specs.Sha256.{hashed, digest}
use Rattle.sha256.proofs.finish_half.Goals as goal

pub returns : goal.returns
unfolding hashed
returns c =
    let a = c.args in
    let p = c.ending-last in
    let h : length a.m ≡ 32 = search rules in
    let n : length p.result ≡ 64 = p.type_inv.1.0.1 in
    let x : c.absorb.result ≡ hashed 1 a.s p.result = rw n at c.absorb.ensures in
    let z : length a.m / 64 ≡ 0 = omega arith in
    let v : a.s ≡ hashed (length a.m / 64) a.s a.m = rw z (turns_start _ _) in
    c.digest_of.ensures ∙ ap digest x
    ∙ finished_by a.s a.s a.before a.m p.result _ a.m _ 1 v (omega (arith, h, c.ranges.before.fits)) c.bit_length.ensures (omega arith) (omega arith) (rw z refl) p.ensures
