-- The sum of what each digit leaves.
use Rattle.std.proofs.Common.{rules, ◌≡◌, ◌-◌, ◌∙◌, arith}
use Rattle.std.specs.List.{sum_by}
use Rattle.rfc8391.specs.Wots.{checksum}
use Rattle.onetime.proofs.Digits.{checksum_is, checksum_most}
use Rattle.onetime.proofs.checksum_of.Goals as goal

pub returns : goal.returns
returns c =
    let e : c.sum.result ≡ sum_by (λ d. 15 - d) c.args.digits.now = search rules in
    let f : c.sum.result ≡ checksum c.args.digits.now = e ∙ checksum_is c.args.digits.now in
    (f, omega (arith, f, checksum_most c.args.digits.now))
