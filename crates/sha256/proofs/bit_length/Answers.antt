-- The bytes of 8 * n modulo 2 ^ 64 are those of 8 * n.
use Rattle.std.proofs.Common.{◌*◌, sym, ◌∙◌, mul_comm}
use Rattle.lists.proofs.Numbers.{to_byte-mod}
use Rattle.lists.proofs.Methods.{to_byte_is}
use Rattle.sha256.proofs.bit_length.Goals as goal

pub returns : goal.returns
returns c =
    c.to_be_bytes.ensures ∙ sym (to_byte_is _ 8) ∙ to_byte-mod (c.args.n * 8) 8 ∙ rw (mul_comm c.args.n 8)
