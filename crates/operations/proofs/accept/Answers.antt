-- Each number, by the tests that lead to it.
use Rattle.std.proofs.Common.{◌≡◌, ◌^◌, ◌<◌, ◌≤◌, true, false, Some, sym, ap, ◌∙◌, arith, lit<, rules}
use Rattle.std.proofs.Math.Nat.{pow-le-pow_right}
use Rattle.outcomes.specs.Refused.{number_of}
use Rattle.lists.specs.Bytes.{number}
use Rattle.rfc8391.specs.Formats.{value_length, key_type, type_of, key_from}
use Rattle.signatures.specs.Recomputed.{recomputed}
use Rattle.operations.proofs.Checks.{key_wrong, type_unknown, signature_wrong, message_long, index_wrong, root_wrong, root_right, roots_differ}
use Rattle.operations.proofs.Types.{row, key_size, longer}
use Rattle.operations.proofs.accept.Goals as goal
use Rattle.operations.proofs.accept.Goals.{In_ok-kind, After-ne}

-- the key's type, once it is known
typed : (c : In_ok-kind) → type_of c.args.key.now ≡ Some c.in_ok-kind.kind
typed c = sym (ap key_type c.big_endian.ensures) ∙ (sym c.key_type.ensures ∙ c.in_ok-kind.ensures.ok_part)

pub returns-then-key-ne68 : goal.returns-then-key-ne68
returns-then-key-ne68 c = key_wrong _ _ _ c.if-key-ne68.true

pub returns-in_err-kind : goal.returns-in_err-kind
returns-in_err-kind c =
    let e : number_of c.from_residual.result ≡ 2 = search rules in
    e
    ∙ type_unknown _ _ _ c.if-key-ne68.false
    (sym (ap key_type c.big_endian.ensures) ∙ (sym c.key_type.ensures ∙ c.in_err-kind.ensures.ok_part))

pub returns-then-signature-kind : goal.returns-then-signature-kind
returns-then-signature-kind c =
    signature_wrong _ _ _ _ c.if-key-ne68.false (typed (goal.at.returns-then-signature-kind c).In_ok-kind) c.if-signature-kind.true

pub returns-then-message-gt65536 : goal.returns-then-message-gt65536
returns-then-message-gt65536 c =
    let t = typed (goal.at.returns-then-message-gt65536 c).In_ok-kind in
    message_long _ _ _ _ c.if-key-ne68.false t c.if-signature-kind.false c.if-message-gt65536.true

pub pow-requires : goal.pow-requires
pow-requires c =
    let r = row _ _ (typed (goal.at.pow-requires c).In_ok-kind) in
    let h : 2 ^ c.in_ok-kind.kind.height ≤ 2 ^ 20 = pow-le-pow_right {n = 2} (lit< tt) r.few in
    omega arith

pub big_endian-requires-2 : goal.big_endian-requires-2
big_endian-requires-2 c =
    let r = row _ _ (typed (goal.at.big_endian-requires-2 c).In_ok-kind) in
    omega (arith, longer _ _ _ r.length, c.if-signature-kind.false)

pub returns-then-pow-big_endian : goal.returns-then-pow-big_endian
returns-then-pow-big_endian c =
    let t = typed (goal.at.returns-then-pow-big_endian c).In_ok-kind in
    index_wrong _ _ _ _ c.if-key-ne68.false t c.if-signature-kind.false c.if-message-gt65536.false
    (rw (← c.pow.ensures, ← c.big_endian-2.ensures) c.if-pow-big_endian.true)

pub recomputed_root-root-requires : goal.recomputed_root-root-requires
recomputed_root-root-requires c =
    let r = row _ _ (typed (goal.at.recomputed_root-root-requires c).In_ok-kind) in
    (c.if-key-ne68.false ∙ sym (key_size _), c.if-signature-kind.false ∙ sym r.length)

-- the root to which the signature leads, and the key's
abbrev Agrees : After-ne → Type 0
Agrees c =
    let k = c.in_ok-kind.kind in
    recomputed k.hash k.height c.args.key.now c.args.message.now c.args.signature.now ≡ (key_from (value_length k.hash) c.args.key.now).root

agrees : (c : After-ne) → (c.ne.result ≡ false → Agrees c) × (c.ne.result ≡ true → Agrees c → ⊥)
unfolding key_from
agrees c =
    let w = c.value_length-n.ensures.0 in
    roots_differ (value_length c.in_ok-kind.kind.hash) _ _ _ _ _ _ w (omega (arith, w)) c.recomputed_root-root.ensures c.ne.ensures

-- the index, once it is known to be a leaf's
leaf : (c : After-ne) → number c.args.signature.now 0 4 < 2 ^ c.in_ok-kind.kind.height
leaf c = rw (← c.pow.ensures, ← c.big_endian-2.ensures) c.if-pow-big_endian.false

pub returns-then-ne : goal.returns-then-ne
returns-then-ne c =
    let at = (goal.at.returns-then-ne c) in
    root_wrong _ _ _ _ c.if-key-ne68.false (typed at.In_ok-kind) c.if-signature-kind.false c.if-message-gt65536.false
    (leaf at.After-ne) ((agrees at.After-ne).1 c.if-ne.true)

pub returns : goal.returns
returns c =
    let at = (goal.at.returns c) in
    root_right _ _ _ _ c.if-key-ne68.false (typed at.In_ok-kind) c.if-signature-kind.false c.if-message-gt65536.false
    (leaf at.After-ne) ((agrees at.After-ne).0 c.if-ne.false)
