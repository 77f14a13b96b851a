-- The promises of signing hold of its definition.
use Rattle.std.proofs.Common.{◌≡◌, ℕ, zero, suc, ◌-◌, List, sym, refl, ◌∙◌, subst, arith}
use Rattle.outcomes.specs.Outcome.{outcome_of, unless}
use Rattle.outcomes.proofs.Outcomes.{at_place, at_none, unless_outcome}
use Rattle.rfc8391.specs.Formats.{path_start, signature_length, signature_bytes}
use Rattle.keyed.specs.Sha2.{sha2}
use Rattle.records.specs.Records.{record_length, record_from}
use Rattle.records.specs.Keys.{signed_by}
use Rattle.operations.specs.Sign.{sign_refusals, SignEnd, sign_end, signed, sign_of}
use Rattle.promises.specs.Signing.{SignNumbers}

module _ (secret page : List ℕ) (s : ℕ) (m out : List ℕ) where
  sign_outcome : (sign_of secret page s m out).answer.outcome ≡ outcome_of (sign_refusals sha2 secret page s m out)
  unfolding sign_of
  sign_outcome = unless_outcome (λ (e : SignEnd). e.answer.outcome) _ _ (outcome_of (sign_refusals sha2 secret page s m out)) refl (λ k. refl)

  pub sign_numbers : SignNumbers secret page s m out (sign_of secret page s m out).answer.outcome
  unfolding sign_refusals record_length signature_length path_start sha2
  sign_numbers =
      let l = sign_refusals sha2 secret page s m out in
      let p1 = at_place l 0 1 (λ e. omega arith) refl refl in
      let p2 = at_place l 1 2 (λ e. omega arith) refl refl in
      let p3 = at_place l 2 4 (λ e. omega arith) refl refl in
      let p4 = at_place l 3 11 (λ e. omega arith) refl refl in
      let p5 = at_place l 4 7 (λ e. omega arith) refl refl in
      let p6 = at_place l 5 10 (λ e. omega arith) refl refl in
      let p0 = at_none l refl in
      subst (SignNumbers secret page s m out) (sym sign_outcome)
      (record {
        one = p1;
        two = p2;
        four = (
          λ o. let f = p3.0 o in (f.0, f.1.0, λ e. let g = f.1.1 in omega arith),
          λ f. p3.1 (f.0, (f.1, let n = f.2 in omega arith)),
        );
        eleven = (λ o. let f = p4.0 o in (f.0, f.1.0, f.1.1.0, f.1.1.1), λ f. p4.1 (f.0, (f.1, (f.2, f.3))));
        seven = (
          λ o. let f = p5.0 o in (f.0, f.1.0, f.1.1.0, f.1.1.1.0, f.1.1.1.1),
          λ f. p5.1 (f.0, (f.1, (f.2, (f.3, f.4)))),
        );
        ten = (
          λ o. let f = p6.0 o in (f.0, f.1.0, f.1.1.0, f.1.1.1.0, f.1.1.1.1.0, f.1.1.1.1.1),
          λ f. p6.1 (f.0, (f.1, (f.2, (f.3, (f.4, f.5))))),
        );
        done = (
          λ o. let f = p0.0 o in (f.0, f.1.0, f.1.1.0, f.1.1.1.0, f.1.1.1.1.0, f.1.1.1.1.1.0),
          λ f. p0.1 (f.0, (f.1, (f.2, (f.3, (f.4, (f.5, tt)))))),
        );
      })

  -- refused: the buffer as it was found and the session as given; else session 0 and the signature of the pending index
  pub sign_refused : ((sign_of secret page s m out).answer.outcome ≡ 0 → ⊥) → ((sign_of secret page s m out).out ≡ out) × ((sign_of secret page s m out).answer.session ≡ s)
  unfolding sign_of
  sign_refused = go (outcome_of (sign_refusals sha2 secret page s m out))
    where
      given : SignEnd
      given = sign_end (signed 0 0) (signature_bytes (signed_by sha2 (record_from sha2.n secret) (s - 1) m))

      go : (o : ℕ) → ((unless o given (λ k. sign_end (signed k s) out)).answer.outcome ≡ 0 → ⊥) → ((unless o given (λ k. sign_end (signed k s) out)).out ≡ out) × ((unless o given (λ k. sign_end (signed k s) out)).answer.session ≡ s)
      go zero n = absurd (n refl)
      go (suc o) n = (refl, refl)

  pub sign_given : (sign_of secret page s m out).answer.outcome ≡ 0 → sign_of secret page s m out ≡ sign_end (signed 0 0) (signature_bytes (signed_by sha2 (record_from 32 secret) (s - 1) m))
  unfolding sign_of sha2
  sign_given e = let z : outcome_of (sign_refusals sha2 secret page s m out) ≡ 0 = sym sign_outcome ∙ e in rw z
