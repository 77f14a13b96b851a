-- The numbers of the keyed functions, RFC 8391, section 5.1.
use Rattle.std.specs.Prelude.{ℕ}
use Rattle.keyed.specs.declared.sha2.Function.{Function}
use Rattle.keyed.specs.declared.sha2.Function.TheVariants.{F, H, Hmsg, Prf}

abbrev pub function_number : Function → ℕ
function_number F = 0
function_number H = 1
function_number Hmsg = 2
function_number Prf = 3
