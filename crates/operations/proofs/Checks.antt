-- Checking's outcome by the tests that lead to it: one law a number.
use Rattle.std.proofs.Common.{◌≡◌, ℕ, ◌^◌, ◌<◌, ◌≤◌, Bool, true, false, not, List, length, take, Some, None, sym, refl, ◌∙◌}
use Rattle.std.specs.Bool.{Decides}
use Rattle.std.specs.Str.{bytes_eq}
use Rattle.std.proofs.lemmas.Slice.Eq.{bytes_eq-Decides}
use Rattle.outcomes.specs.Outcome.{outcome_of}
use Rattle.outcomes.proofs.Outcomes.{outcome_at, outcome_none}
use Rattle.lists.specs.Bytes.{number}
use Rattle.rfc8391.specs.Xmss.{verify}
use Rattle.rfc8391.specs.Formats.{value_length, key_from, signature_length, type_of, hash_of, height_of}
use Rattle.rfc8391.specs.declared.KeyType.{KeyType}
use Rattle.keyed.specs.Suites.{suite}
use Rattle.signatures.specs.Recomputed.{recomputed}
use Rattle.operations.specs.Check.{check_refusals}
use Rattle.operations.proofs.Types.{row}

told : {P : Type 0} (t r : Bool) → Decides t P → r ≡ not t → (r ≡ false → P) × (r ≡ true → P → ⊥)
told true r d e = (λ f. d.0 refl, λ f p. cc)
told false r d e = (λ f. absurd (cc), λ f p. let q = d.1 p in cc)

-- what the code's comparison of two parts of n bytes tells: whether the one with the value x is the other
pub roots_differ : (n w v : ℕ) (a b x : List ℕ) (r : Bool) → w ≡ n → v ≡ n → take n a ≡ x → r ≡ not (bytes_eq (take w a) (take v b))
    → (r ≡ false → x ≡ take n b) × (r ≡ true → x ≡ take n b → ⊥)
roots_differ n w v a b x r ew ev ex e =
    told (bytes_eq x (take n b)) r (bytes_eq-Decides x (take n b)) (rw (ew, ev, ex) at e)

module _ (key m sig : List ℕ) where
  pub key_wrong : (length key ≡ 68 → ⊥) → 1 ≡ outcome_of (check_refusals suite key m sig)
  unfolding check_refusals
  key_wrong h = sym (outcome_at (check_refusals suite key m sig) 0 h)

  pub type_unknown : length key ≡ 68 → type_of key ≡ None → 2 ≡ outcome_of (check_refusals suite key m sig)
  unfolding check_refusals
  type_unknown l h = sym (outcome_at (check_refusals suite key m sig) 1 (l, h))

  -- where the key is a key of the type k
  module _ (k : KeyType) (l : length key ≡ 68) (t : type_of key ≡ Some k) where
    known : type_of key ≡ None → ⊥
    known e = cc

    size : signature_length (value_length (hash_of (type_of key))) (height_of (type_of key)) ≡ k.length
    size = rw t (row (number key 0 4) k t).length

    pub signature_wrong : (length sig ≡ k.length → ⊥) → 3 ≡ outcome_of (check_refusals suite key m sig)
    unfolding check_refusals
    signature_wrong q = sym (outcome_at (check_refusals suite key m sig) 2 (l, (known, λ e. q (e ∙ size))))

    -- and the signature's length is the type's
    module _ (e : length sig ≡ k.length) where
      pub message_long : 65536 < length m → 4 ≡ outcome_of (check_refusals suite key m sig)
      unfolding check_refusals
      message_long q = sym (outcome_at (check_refusals suite key m sig) 3 (l, (known, (e ∙ sym size, q))))

      pub index_wrong : length m ≤ 65536 → 2 ^ k.height ≤ number sig 0 4 → 5 ≡ outcome_of (check_refusals suite key m sig)
      unfolding check_refusals
      index_wrong w q = sym (outcome_at (check_refusals suite key m sig) 4 (l, (known, (e ∙ sym size, (w, rw t q)))))

      pub root_wrong : length m ≤ 65536 → number sig 0 4 < 2 ^ k.height
          → (recomputed k.hash k.height key m sig ≡ (key_from (value_length k.hash) key).root → ⊥)
          → 6 ≡ outcome_of (check_refusals suite key m sig)
      unfolding check_refusals verify
      root_wrong w i q = sym (outcome_at (check_refusals suite key m sig) 5 (l, (known, (e ∙ sym size, (w, (rw t i, rw t q))))))

      pub root_right : length m ≤ 65536 → number sig 0 4 < 2 ^ k.height
          → recomputed k.hash k.height key m sig ≡ (key_from (value_length k.hash) key).root
          → 0 ≡ outcome_of (check_refusals suite key m sig)
      unfolding check_refusals verify
      root_right w i q = sym (outcome_none (check_refusals suite key m sig) (l, (known, (e ∙ sym size, (w, (rw t i, (rw t q, tt)))))))
