-- Making's answer and buffers by the tests that lead to them: one law a number.
use Rattle.std.proofs.Common.{◌≡◌, ℕ, List, ◌++◌, length, ap, ◌∙◌, ap₂}
use Rattle.outcomes.proofs.Outcomes.{unless_at, unless_none}
use Rattle.lists.specs.Bytes.{to_byte}
use Rattle.rfc8391.specs.Formats.{key_length, key_bytes}
use Rattle.keyed.specs.Sha2.{sha2}
use Rattle.records.specs.Keys.{made_record}
use Rattle.records.specs.Records.{SecretRecord, record_length, record_bytes, material_length}
use Rattle.records.specs.Contents.{contents}
use Rattle.records.specs.declared.SecretKey.{SecretKey}
use Rattle.operations.specs.Make.{make_refusals, make_end, make_of}
use Rattle.operations.specs.declared.Made.{Made}

abbrev made : ℕ → Made
made o = record { outcome = o }

module _ (t : ℕ) (material s k : List ℕ) where
  pub material_wrong : (length material ≡ 96 → ⊥) → make_end (made 1) s k ≡ make_of t material s k
  unfolding make_of make_refusals material_length sha2
  material_wrong n = unless_at _ (λ o. make_end (made o) s k) (make_refusals sha2 t material s k) 0 n

  pub type_unserved : length material ≡ 96 → (t ≡ 1 → ⊥) → make_end (made 2) s k ≡ make_of t material s k
  unfolding make_of make_refusals material_length sha2
  type_unserved e n = unless_at _ (λ o. make_end (made o) s k) (make_refusals sha2 t material s k) 1 (e, n)

  pub buffers_wrong : length material ≡ 96 → t ≡ 1 → ((length s ≡ 132) × (length k ≡ 68) → ⊥) → make_end (made 11) s k ≡ make_of t material s k
  unfolding make_of make_refusals material_length record_length key_length sha2
  buffers_wrong e q n = unless_at _ (λ o. make_end (made o) s k) (make_refusals sha2 t material s k) 2 (e, (q, n))

  pub makes : (s' k' : List ℕ) (key : SecretKey) → length material ≡ 96 → t ≡ 1 → length s ≡ 132 → length k ≡ 68
      → contents key ≡ made_record sha2 material → s' ≡ record_bytes (contents key) → k' ≡ to_byte 1 4 ++ (key.root ++ key.public)
      → make_end (made 0) s' k' ≡ make_of t material s k
  unfolding make_of make_refusals material_length record_length key_length sha2 made_record key_bytes
  makes s' k' key e q ls lk em es ek =
      ap₂ (make_end (made 0)) (es ∙ ap record_bytes em) (ek ∙ ap (λ (r : SecretRecord). to_byte 1 4 ++ (r.root ++ r.public)) em)
      ∙ unless_none _ (λ o. make_end (made o) s k) (make_refusals sha2 t material s k) (e, (q, ((ls, lk), tt)))
