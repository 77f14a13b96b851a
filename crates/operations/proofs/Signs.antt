-- Signing's refusals by the tests that lead to each; and what no refusal says.
use Rattle.std.proofs.Common.{◌≡◌, ℕ, ◌-◌, ◌<◌, ◌≤◌, List, length, sym, refl, ap, ◌∙◌}
use Rattle.lists.specs.Bytes.{number}
use Rattle.outcomes.specs.Outcome.{outcome_of}
use Rattle.outcomes.proofs.Outcomes.{outcome_at, outcome_none, exactly, unless_refused}
use Rattle.rfc8391.specs.Formats.{path_start, signature_length, signature_bytes}
use Rattle.keyed.specs.Sha2.{sha2}
use Rattle.marks.specs.Page.{WellFormed}
use Rattle.records.specs.Records.{record_length, record_from}
use Rattle.records.specs.Keys.{signed_by}
use Rattle.operations.specs.Sign.{Stored, sign_refusals, sign_end, signed, sign_of}

module _ (secret page : List ℕ) (s : ℕ) (m out : List ℕ) where
  pub record_wrong : (length secret ≡ 132 → ⊥) → 1 ≡ outcome_of (sign_refusals sha2 secret page s m out)
  unfolding sign_refusals record_length sha2
  record_wrong n = sym (outcome_at (sign_refusals sha2 secret page s m out) 0 n)

  pub type_unserved : length secret ≡ 132 → (number secret 0 4 ≡ 1 → ⊥) → 2 ≡ outcome_of (sign_refusals sha2 secret page s m out)
  unfolding sign_refusals record_length sha2
  type_unserved l n = sym (outcome_at (sign_refusals sha2 secret page s m out) 1 (l, n))

  pub message_long : length secret ≡ 132 → number secret 0 4 ≡ 1 → 65536 < length m → 4 ≡ outcome_of (sign_refusals sha2 secret page s m out)
  unfolding sign_refusals record_length sha2
  message_long l t n = sym (outcome_at (sign_refusals sha2 secret page s m out) 2 (l, (t, n)))

  module _ (l : length secret ≡ 132) (t : number secret 0 4 ≡ 1) (w : length m ≤ 65536) where
    pub room_wrong : (length out ≡ 2500 → ⊥) → 11 ≡ outcome_of (sign_refusals sha2 secret page s m out)
    unfolding sign_refusals record_length signature_length path_start sha2
    room_wrong n = sym (outcome_at (sign_refusals sha2 secret page s m out) 3 (l, (t, (w, n))))

    pub page_wrong : length out ≡ 2500 → (WellFormed page → ⊥) → 7 ≡ outcome_of (sign_refusals sha2 secret page s m out)
    unfolding sign_refusals record_length signature_length path_start sha2
    page_wrong o n = sym (outcome_at (sign_refusals sha2 secret page s m out) 4 (l, (t, (w, (o, n)))))

    pub not_stored : length out ≡ 2500 → WellFormed page → (Stored page s → ⊥) → 10 ≡ outcome_of (sign_refusals sha2 secret page s m out)
    unfolding sign_refusals record_length signature_length path_start sha2
    not_stored o p n = sym (outcome_at (sign_refusals sha2 secret page s m out) 5 (l, (t, (w, (o, (p, n))))))

    pub stored : length out ≡ 2500 → WellFormed page → Stored page s → 0 ≡ outcome_of (sign_refusals sha2 secret page s m out)
    unfolding sign_refusals record_length signature_length path_start sha2
    stored o p n = sym (outcome_none (sign_refusals sha2 secret page s m out) (l, (t, (w, (o, (p, (n, tt)))))))

  -- what is known where nothing refuses
  pub record Allowed : Type 0 where
    pub secret_length : length secret ≡ 132
    pub room : length out ≡ 2500
    pub one : 1 ≤ s
    pub most : s ≤ 1024

  pub allowed : outcome_of (sign_refusals sha2 secret page s m out) ≡ 0 → Allowed
  unfolding sign_refusals record_length signature_length path_start sha2
  allowed e =
      let n = (exactly (sign_refusals sha2 secret page s m out) refl).clear e in
      record { secret_length = n.0; room = n.1.1.1.0; one = n.1.1.1.1.1.0.0.0; most = n.1.1.1.1.1.0.0.1 }

  -- the answer, by the outcome
  pub sign_refused : (o : ℕ) → o ≡ outcome_of (sign_refusals sha2 secret page s m out) → (o ≡ 0 → ⊥) → sign_end (signed o s) out ≡ sign_of secret page s m out
  unfolding sign_of
  sign_refused o e n = unless_refused _ (λ k. sign_end (signed k s) out) o _ n e

  pub sign_done : (out' : List ℕ) → outcome_of (sign_refusals sha2 secret page s m out) ≡ 0
      → out' ≡ signature_bytes (signed_by sha2 (record_from 32 secret) (s - 1) m) → sign_end (signed 0 0) out' ≡ sign_of secret page s m out
  unfolding sign_of sha2
  sign_done out' e q = ap (sign_end (signed 0 0)) q ∙ rw e
