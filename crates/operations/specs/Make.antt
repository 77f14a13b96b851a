-- Making a key pair: its refusals in the customer's order, its answer, and both buffers.
use Rattle.std.specs.Prelude.{◌≡◌, List, [], ◌∷◌, ℕ, length}
use Rattle.std.proofs.Math.Logic.Dec
use Rattle.std.proofs.Math.Decide.{ℕ_discrete}
use Rattle.outcomes.specs.Conditions.{is_not, unequal}
use Rattle.outcomes.specs.Outcome.{Refusals, outcome_of, unless}
use Rattle.rfc8391.specs.Suite.{Suite}
use Rattle.rfc8391.specs.Formats.{key_length, key_bytes}
use Rattle.keyed.specs.Sha2.{sha2}
use Rattle.records.specs.Records.{record_length, record_bytes, public_key, material_length}
use Rattle.records.specs.Keys.{made_record}
use Rattle.operations.specs.declared.Made.{Made}

module _ (S : Suite) where
  unfoldable pub make_refusals : ℕ → List ℕ → List ℕ → List ℕ → Refusals
  make_refusals type material record_out key_out =
      (unequal (length material) (material_length S.n), 1)
      ∷ (unequal type 1, 2)
      ∷ (
        is_not ((length record_out ≡ record_length S.n) × (length key_out ≡ key_length S.n))
            (Dec.and (ℕ_discrete _ _) (ℕ_discrete _ _)),
        11,
      )
      ∷ []

-- what making answers, and the two buffers as it leaves them
pub record MakeEnd : Type 0 where
  pub answer : Made
  pub secret : List ℕ
  pub key : List ℕ

abbrev pub make_end : Made → List ℕ → List ℕ → MakeEnd
make_end a r k = record { answer = a; secret = r; key = k }

abbrev pub made : ℕ → Made
made o = record { outcome = o }

unfoldable pub make_of : ℕ → List ℕ → List ℕ → List ℕ → MakeEnd
make_of type material record_out key_out =
    unless (outcome_of (make_refusals sha2 type material record_out key_out))
    (make_end (made 0) (record_bytes (made_record sha2 material)) (key_bytes (public_key (made_record sha2 material))))
    (λ o. make_end (made o) record_out key_out)
