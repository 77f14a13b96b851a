-- A key pair that making wrote keeps what is promised of histories.
use Rattle.std.proofs.Common.{◌≡◌, ℕ, zero, suc, List, length, sym, refl, ap, subst, arith}
use Rattle.outcomes.specs.Outcome.{outcome_of, unless}
use Rattle.outcomes.proofs.Outcomes.{exactly}
use Rattle.keyed.specs.Sha2.{sha2}
use Rattle.records.specs.Records.{material_length}
use Rattle.operations.specs.Make.{make_refusals, make_end, make_of}
use Rattle.operations.specs.declared.Made.{Made}
use Rattle.promises.specs.History.{honest}
use Rattle.promises.specs.Kept.{secret_for, key_for, AlwaysKept}
use Rattle.promises.proofs.Story.{history}

abbrev made : ℕ → Made
made o = record { outcome = o }

-- making (of type t, into s and k) that answered 0 and left s' and k'
module _ (t : ℕ) (material s k s' k' : List ℕ) (r : Made) (e : make_end r s' k' ≡ make_of t material s k) (z : r.outcome ≡ 0) where
  record Pair : Type 0 where
    size : length material ≡ 96
    secret : s' ≡ secret_for material
    key : k' ≡ key_for material

  pair : Pair
  unfolding make_of make_refusals material_length sha2
  pair = go (outcome_of (make_refusals sha2 t material s k)) refl e
    where
      go : (o : ℕ) → outcome_of (make_refusals sha2 t material s k) ≡ o →
          make_end r s' k' ≡ unless o (make_end (made 0) (secret_for material) (key_for material)) (λ q. make_end (made q) s k) → Pair
      go zero q d =
          let n = (exactly (make_refusals sha2 t material s k) refl).clear q in
          record { size = n.0; secret = ap (λ x. x.secret) d; key = ap (λ x. x.key) d }
      go (suc o) q d = let x : r.outcome ≡ suc o = ap (λ x. x.answer.outcome) d in absurd (omega arith)

  pub pair_keeps : AlwaysKept (honest s') k'
  pair_keeps =
      subst (λ (σ : List ℕ). AlwaysKept (honest σ) k') (sym pair.secret)
      (subst (AlwaysKept (honest (secret_for material))) (sym pair.key) (history material pair.size))
