-- Each arm is its line of the definition; the last is left where no test holds.
use Rattle.std.proofs.Common.{arith, ne_eqb}
use Rattle.rfc8391.specs.Formats.{value_length, key_type, signature_length, path_start}
use Rattle.rfc8391.proofs.key_type.Goals as goal

pub returns-in-1 : goal.returns-in-1
unfolding key_type value_length signature_length path_start
returns-in-1 c = rw c.in-1.is

pub returns-in-2 : goal.returns-in-2
unfolding key_type value_length signature_length path_start
returns-in-2 c = rw c.in-2.is

pub returns-in-3 : goal.returns-in-3
unfolding key_type value_length signature_length path_start
returns-in-3 c = rw c.in-3.is

pub returns-in_default : goal.returns-in_default
unfolding key_type value_length signature_length path_start
returns-in_default c = rw (ne_eqb c.args.number 1 (λ e. omega arith), ne_eqb c.args.number 2 (λ e. omega arith), ne_eqb c.args.number 3 (λ e. omega arith))
