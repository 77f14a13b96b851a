use Rattle.std.proofs.Common.{◌≡◌, ℕ, ◌+◌, ◌-◌, ◌*◌, ◌^◌, List, ◌++◌, length, take, drop, replicate, ap, ◌∙◌, div-one, arith, length-append, length-drop, length-take}
use Rattle.rfc8391.proofs.Digits.{length-base_w, base_w_small}
use Rattle.rfc8391.specs.Wots.{base_w, checksum}
use Rattle.lists.specs.Bytes.{to_byte}
use Rattle.onetime.proofs.Digits.{front_written, both_written}
use Rattle.std.proofs.lemmas.List.{get_or_default}
use Rattle.onetime.proofs.digits_of.Goals as goal
use Rattle.onetime.proofs.digits_of.Goals.{After-write_digits}

front : (c : After-write_digits) → c.write_digits.new.out ≡ base_w c.args.m c.args.k
front c =
    let k = c.args.k in
    let l : length (take k (replicate 67 0)) ≡ k = simp length-take (omega arith) in
    c.write_digits.ensures ∙ ap (base_w c.args.m) l

pub checksum_of-shifted-requires : goal.checksum_of-shifted-requires
checksum_of-shifted-requires c =
    let a = c.args in
    rw (front_written a.k a.m _ c.write_digits.new.out (front (goal.at.checksum_of-shifted-requires c).After-write_digits))
    (λ i d h. rw (get_or_default (base_w a.m a.k) i d 0 h) (base_w_small a.m a.k i), rw length-base_w c.requires)

pub returns : goal.returns
unfolding to_byte
returns c =
    let a = c.args in
    let x = c.write_digits.new.out in
    let y = c.write_digits-2 in
    let f = front (goal.at.returns c).After-write_digits in
    let sum : c.checksum_of-shifted.result ≡ checksum (base_w a.m a.k) = c.checksum_of-shifted.ensures.0 ∙ ap checksum (front_written a.k a.m _ x f) in
    let s : c.to_be_bytes.result ≡ to_byte (checksum (base_w a.m a.k) * 2 ^ 4) 2 = rw (← sum, div-one) c.to_be_bytes.ensures in
    let lx : length x ≡ a.k = ap (λ (l : List ℕ). length l) f ∙ length-base_w a.m a.k in
    let l : length (take (a.k + 3 - a.k) (drop a.k (x ++ drop a.k (replicate 67 0)))) ≡ 3 =
    simp (length-take, length-drop, length-append) (omega (arith, lx)) in
    both_written a.k a.m _ x f y.new.out c.to_be_bytes.result _ (y.ensures ∙ ap (base_w c.to_be_bytes.result) l) s
