-- The calls, one after the other, at the key's hash.
use Rattle.std.proofs.Common.{◌≡◌, ℕ, ◌+◌, ◌-◌, length, take, drop, sym, ap, ◌∙◌, arith, length-drop}
use Rattle.rfc8391.specs.declared.Hash.{Hash}
use Rattle.rfc8391.specs.Formats.{key_length, path_start, signature_length}
use Rattle.keyed.specs.Suites.{suite}
use Rattle.keyed.specs.Seeds.{suite_of}
use Rattle.keyed.proofs.Suites.{suite_length}
use Rattle.signatures.specs.Recomputed.{root_by}
use Rattle.signatures.proofs.Recomputed.{behind_four, first_value, last_value, recomputes}
use Rattle.signatures.proofs.recomputed_root.Goals as goal
use Rattle.signatures.proofs.recomputed_root.Goals.{After-prepare-seed}

-- the seed's suite has values of n bytes
width : (c : After-prepare-seed) → (suite_of c.prepare-seed.result).n ≡ c.value_length-n.result
width c = ap (λ (h : Hash). (suite h).n) c.prepare-seed.ensures.1
    ∙ suite_length c.args.hash
    ∙ sym c.value_length-n.ensures.0

pub root_from_signature-requires : goal.root_from_signature-requires
unfolding path_start signature_length
root_from_signature-requires c =
    let v = c.value_length-n in
    let w : (suite_of c.prepare-seed.result).n ≡ v.result = width (goal.at.root_from_signature-requires c).After-prepare-seed in
    let l : length c.args.signature.now ≡ signature_length v.result c.args.height = rw v.ensures.0 c.requires.1 in
    let g : length c.split_at-2.result.1.now + v.result ≡ length (drop 4 c.args.signature.now) = rw behind_four at c.split_at-2.ensures.back_len in
    let k : length c.split_at-2.result.1.now + v.result ≡ length c.args.signature.now - 4 = rw length-drop at g in
    (rw w c.split_at-3.ensures.front_len, rw w (omega (arith, c.split_at-3.ensures.back_len)))

pub returns : goal.returns
unfolding key_length
returns c =
    let v = c.value_length-n in
    let key = c.args.key.now in
    let m = c.args.message.now in
    let sig = c.args.signature.now in
    let S = suite_of c.prepare-seed.result in
    let k = c.split_at.ensures in
    let g = c.split_at-2.ensures in
    let w : v.result ≡ S.n = sym (width (goal.at.returns c).After-prepare-seed) in
    let seed : take S.n c.prepare-seed.result.bytes ≡ take S.n (drop (4 + S.n) key) =
    ap (take S.n) c.prepare-seed.ensures.0 ∙ last_value S.n _ key _ _ w c.value_of.ensures (c.requires.0 ∙ ap key_length (sym v.ensures.0 ∙ w)) k.back in
    let root : take S.n c.value_of-3.result ≡ take S.n (drop 4 key) = first_value S.n _ key _ _ w c.value_of-3.ensures k.front_len k.front in
    let r : take S.n c.value_of-2.result ≡ take S.n (drop 4 sig) = first_value S.n _ sig _ _ w c.value_of-2.ensures g.front_len g.front in
    let x : take S.n c.root_from_signature.result ≡ root_by S S.n c.args.height key m sig =
    recomputes S key m sig c.args.height v.result _ _ _ w g.back c.split_at-3.ensures.front c.split_at-3.ensures.back _ _ _ _ _ _ _ seed root r
    c.big_endian-index.ensures c.single_tree.ensures
    (rw (← c.prepare-seed.ensures.1) at c.message_digest-digest.ensures) c.root_from_signature.ensures in
    ap (λ (n : ℕ). take n c.root_from_signature.result) (sym v.ensures.0 ∙ w)
    ∙ x
    ∙ ap (λ (h : Hash). root_by (suite h) S.n c.args.height key m sig) c.prepare-seed.ensures.1
    ∙ ap (λ (n : ℕ). root_by (suite c.args.hash) n c.args.height key m sig) (sym w ∙ v.ensures.0)
