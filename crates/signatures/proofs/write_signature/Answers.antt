-- Head, chain values and path, one after the other, with what the record holds.
use Rattle.std.proofs.Common.{◌≡◌, ℕ, ◌+◌, List, ◌++◌, length, ap, ◌∙◌, append_assoc, arith, rules}
use Rattle.lists.specs.Bytes.{to_byte}
use Rattle.rfc8391.specs.Suite.{Suite}
use Rattle.rfc8391.specs.Formats.{signature_bytes}
use Rattle.rfc8391.specs.declared.Hash.{Hash}
use Rattle.keyed.specs.Suites.{suite}
use Rattle.keyed.specs.Seeds.{suite_of}
use Rattle.keyed.proofs.Suites.{suite_sha2, sha2_n}
use Rattle.records.specs.Records.{SecretRecord}
use Rattle.records.specs.Keys.{signed_by}
use Rattle.keyed.specs.Sha2.{sha2}
use Rattle.signatures.proofs.Signed.{values_are, signed_is}
use Rattle.signatures.proofs.write_signature.Goals as goal
use Rattle.signatures.proofs.write_signature.Goals.{After-single-tree}

-- values have 32 bytes
width : (c : After-single-tree) → (suite_of c.single-tree.result.seed).n ≡ 32
width c = ap (λ (h : Hash). (suite h).n) c.single-tree.ensures.2 ∙ ap (λ (S : Suite). S.n) suite_sha2 ∙ sha2_n

pub write_head-requires : goal.write_head-requires
write_head-requires c =
    let w : c.value_length-n.result ≡ 32 = c.value_length-n.ensures.0 ∙ width (goal.at.write_head-requires c).After-single-tree in
    omega (arith, w, c.split_at_mut-head.ensures.front_len)

pub write_path-requires : goal.write_path-requires
write_path-requires c =
    let n : (suite_of c.single-tree.result.seed).n ≡ 32 = width (goal.at.write_path-requires c).After-single-tree in
    let w : c.value_length-n.result ≡ 32 = c.value_length-n.ensures.0 ∙ n in
    let k = c.split_at_mut-head.ensures.back_len in
    let l : length c.split_at_mut-values.result.1.now + 2144 ≡ length c.split_at_mut-head.result.1.now = rw w at c.split_at_mut-values.ensures.back_len in
    (omega arith, omega arith, rw n (omega (arith, w, k, l)))

pub returns : goal.returns
returns c =
    let i = c.args.index in
    let t = c.single-tree in
    let r = c.randomiser-r in
    let v : List ℕ = c.write_values.new.out in
    let p : List ℕ = c.write_path.new.out in
    ap (λ (h : List ℕ). h ++ (v ++ p)) c.write_head.ensures
    ∙ append_assoc (to_byte i 4) r.result (v ++ p)
    ∙ signed_is c.read-key.result t.result c.args.message.now i r.result _ v p (search rules) (search rules) (search rules) t.ensures.0 t.ensures.1
    (ap suite t.ensures.2 ∙ suite_sha2) t.ensures.3 r.ensures r.type_inv.1.0.1 (rw suite_sha2 at c.message_digest-m.ensures)
    (values_are t.result i c.secrets.result _ v c.secrets.ensures.0 c.secrets.ensures.1 c.secrets.ensures.2 c.write_values.ensures)
    c.write_path.ensures
    ∙ ap (λ (k : SecretRecord). signature_bytes (signed_by sha2 k i c.args.message.now)) c.read-key.ensures
