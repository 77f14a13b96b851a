-- That the conditions of refusal can be told: what they mean stands where they are listed.
use Rattle.std.specs.Prelude.{◌≡◌, ℕ, List, Some, None, Option, refl}
use mathlib.Core.List.{List-discrete}
use Rattle.std.proofs.Math.Decide.{ℕ_discrete}
use Rattle.rfc8391.specs.Suite.{Suite}
use Rattle.rfc8391.specs.Xmss.{PublicKey, Signature, verify}
use Rattle.rfc8391.specs.declared.Address.{Address}
use Rattle.rfc8391.specs.declared.KeyType.{KeyType}

pub unknown? : (t : Option KeyType) → Dec (t ≡ None)
unknown? (Some t) = no (λ e. cc)
unknown? None = yes refl

pub verify? : (S : Suite) (a : Address) (h : ℕ) (pk : PublicKey) (m : List ℕ) (sig : Signature) → Dec (verify S a h pk m sig)
unfolding verify
verify? S a h pk m sig = List-discrete ℕ_discrete _ _
