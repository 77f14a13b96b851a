-- Signing: its refusals in the customer's order, its answer, and its buffer.
use Rattle.std.specs.Prelude.{◌≡◌, List, [], ◌∷◌, ℕ, ◌-◌, ◌≤◌, length}
use Rattle.std.proofs.Math.Logic.Dec
use Rattle.std.proofs.Math.Decide.{ℕ_discrete, dec_le}
use Rattle.lists.specs.Bytes.{number}
use Rattle.outcomes.specs.Conditions.{is_not, unequal, over}
use Rattle.outcomes.specs.Outcome.{Refusals, outcome_of, unless}
use Rattle.rfc8391.specs.Suite.{Suite}
use Rattle.rfc8391.specs.Formats.{signature_length, signature_bytes}
use Rattle.keyed.specs.Sha2.{sha2}
use Rattle.marks.specs.Page.{used, WellFormed}
use Rattle.marks.specs.Decisions.{well_formed?}
use Rattle.records.specs.Records.{record_length, record_from}
use Rattle.records.specs.Keys.{signed_by}
use Rattle.operations.specs.declared.Signed.{Signed}

-- session s has index s - 1 pending, its mark is stored, and no later one is used
abbrev pub Stored : List ℕ → ℕ → Type 0
Stored page s = ((1 ≤ s) × (s ≤ 1024)) × (used page ≡ s)

module _ (S : Suite) where
  unfoldable pub sign_refusals : List ℕ → List ℕ → ℕ → List ℕ → List ℕ → Refusals
  sign_refusals secret page s m out =
      (unequal (length secret) (record_length S.n), 1)
      ∷ (unequal (number secret 0 4) 1, 2)
      ∷ (over 65536 (length m), 4)
      ∷ (unequal (length out) (signature_length S.n 10), 11)
      ∷ (is_not (WellFormed page) (well_formed? page), 7)
      ∷ (is_not (Stored page s) (Dec.and (Dec.and (dec_le 1 s) (dec_le s 1024)) (ℕ_discrete (used page) s)), 10)
      ∷ []

-- what signing answers, and the buffer as it leaves it
pub record SignEnd : Type 0 where
  pub answer : Signed
  pub out : List ℕ

abbrev pub sign_end : Signed → List ℕ → SignEnd
sign_end a o = record { answer = a; out = o }

abbrev pub signed : ℕ → ℕ → Signed
signed o s = record { outcome = o; session = s }

unfoldable pub sign_of : List ℕ → List ℕ → ℕ → List ℕ → List ℕ → SignEnd
sign_of secret page s m out =
    unless (outcome_of (sign_refusals sha2 secret page s m out))
    (sign_end (signed 0 0) (signature_bytes (signed_by sha2 (record_from sha2.n secret) (s - 1) m)))
    (λ o. sign_end (signed o s) out)
