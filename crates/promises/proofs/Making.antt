-- The promises of making hold of its definition.
use Rattle.std.proofs.Common.{◌≡◌, ℕ, zero, suc, List, sym, refl, ◌∙◌, subst, arith}
use Rattle.outcomes.specs.Outcome.{outcome_of, unless}
use Rattle.outcomes.proofs.Outcomes.{at_place, at_none, unless_outcome}
use Rattle.rfc8391.specs.Xmss.{public_key_of}
use Rattle.rfc8391.specs.Formats.{key_length, key_bytes}
use Rattle.keyed.specs.Sha2.{sha2}
use Rattle.records.specs.Records.{record_length, record_bytes, public_key, material_length}
use Rattle.records.specs.Keys.{made_record}
use Rattle.operations.specs.Make.{make_refusals, MakeEnd, make_end, make_of}
use Rattle.promises.specs.Making.{MakeNumbers, KeyPair}
use Rattle.promises.specs.Kept.{secret_for, key_for}

module _ (t : ℕ) (material secret key : List ℕ) where
  make_outcome : (make_of t material secret key).answer.outcome ≡ outcome_of (make_refusals sha2 t material secret key)
  unfolding make_of
  make_outcome = unless_outcome (λ (e : MakeEnd). e.answer.outcome) _ _ (outcome_of (make_refusals sha2 t material secret key)) refl (λ k. refl)

  pub make_numbers : MakeNumbers t material secret key (make_of t material secret key).answer.outcome
  unfolding make_refusals material_length record_length key_length sha2
  make_numbers =
      let l = make_refusals sha2 t material secret key in
      let p1 = at_place l 0 1 (λ e. omega arith) refl refl in
      let p2 = at_place l 1 2 (λ e. omega arith) refl refl in
      let p3 = at_place l 2 11 (λ e. omega arith) refl refl in
      let p0 = at_none l refl in
      subst (MakeNumbers t material secret key) (sym make_outcome)
      (record {
        one = p1;
        two = p2;
        eleven = (λ o. let f = p3.0 o in (f.0, f.1.0, f.1.1), λ f. p3.1 (f.0, (f.1, f.2)));
        done = (λ o. let f = p0.0 o in (f.0, f.1.0, f.1.1.0), λ f. p0.1 (f.0, (f.1, (f.2, tt))));
      })

  -- refused: both buffers as they were found; else the key pair
  pub make_refused : ((make_of t material secret key).answer.outcome ≡ 0 → ⊥) → ((make_of t material secret key).secret ≡ secret) × ((make_of t material secret key).key ≡ key)
  unfolding make_of
  make_refused = go (outcome_of (make_refusals sha2 t material secret key))
    where
      made : MakeEnd
      made = make_end (record { outcome = 0 }) (record_bytes (made_record sha2 material)) (key_bytes (public_key (made_record sha2 material)))

      go : (o : ℕ) → ((unless o made (λ k. make_end (record { outcome = k }) secret key)).answer.outcome ≡ 0 → ⊥) → ((unless o made (λ k. make_end (record { outcome = k }) secret key)).secret ≡ secret) × ((unless o made (λ k. make_end (record { outcome = k }) secret key)).key ≡ key)
      go zero n = absurd (n refl)
      go (suc o) n = (refl, refl)

  pub make_pair : (make_of t material secret key).answer.outcome ≡ 0 → KeyPair material (make_of t material secret key).secret (make_of t material secret key).key
  unfolding make_of made_record public_key_of sha2
  make_pair e = let z : outcome_of (make_refusals sha2 t material secret key) ≡ 0 = sym make_outcome ∙ e in rw z (record { public = refl; private = refl })

-- a key pair is what making writes
module _ (material secret key : List ℕ) (p : KeyPair material secret key) where
  pub pair_secret : secret ≡ secret_for material
  unfolding made_record sha2
  pair_secret = p.private

  pub pair_key : key ≡ key_for material
  unfolding made_record public_key_of sha2
  pair_key = p.public
