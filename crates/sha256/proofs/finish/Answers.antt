-- The whole blocks, then the padded rest: one block where the length has room behind it, or two.
use Rattle.std.proofs.Common.{◌≡◌, length, refl, ap, ◌∙◌, arith}
use Rattle.sha256.specs.Sha256.{hashed, digest}
use Rattle.sha256.proofs.Endings.{finished_by}
use Rattle.sha256.proofs.finish.Goals as goal

pub returns-then-rest-lt56 : goal.returns-then-rest-lt56
returns-then-rest-lt56 c =
    let p = c.ending-p in
    let v = c.absorb-v in
    let n : length p.result ≡ 64 = p.type_inv.1.0.1 in
    let x : c.absorb.result ≡ hashed 1 v.result p.result = rw n at c.absorb.ensures in
    c.digest_of.ensures ∙ ap digest x
    ∙ finished_by _ v.result _ c.args.m.now p.result _ _ _ 1 v.ensures refl c.bit_length-bits.ensures
    (omega arith) (omega arith) c.as_chunks.ensures.back p.ensures

pub returns-else-rest-lt56 : goal.returns-else-rest-lt56
returns-else-rest-lt56 c =
    let p = c.ending-p-else-rest-lt56 in
    let v = c.absorb-v in
    let last = c.absorb-else-rest-lt56 in
    let n : length p.result ≡ 128 = p.type_inv.1.0.1 in
    let x : last.result ≡ hashed 2 v.result p.result = rw n at last.ensures in
    c.digest_of-else-rest-lt56.ensures ∙ ap digest x
    ∙ finished_by _ v.result _ c.args.m.now p.result _ _ _ 2 v.ensures refl c.bit_length-bits.ensures
    (omega arith) (omega arith) c.as_chunks.ensures.back p.ensures
