-- 28 zeros, and the four bytes of a number below 2 ^ 32.
use Rattle.std.proofs.Common.{◌≡◌, ℕ, List, [], ◌++◌, replicate, sym, ap, ◌∙◌, append-nil, rules}
use Rattle.lists.proofs.Numbers.{to_byte_small}
use Rattle.lists.proofs.Methods.{to_byte_is}
use Rattle.lists.specs.Bytes.{to_byte}
use Rattle.rfc8391.proofs.to_bytes.Goals as goal

pub returns : goal.returns
returns c =
    let x = c.args.x in
    let e : c.copy_from_slice.new.self ≡ to_byte x 4 = c.copy_from_slice.ensures.after ∙ c.to_be_bytes.ensures ∙ sym (to_byte_is x 4) in
    ap (λ (b : List ℕ). replicate 28 0 ++ (b ++ [])) e ∙ rw (append-nil, to_byte_small x 4 28 (search rules))
