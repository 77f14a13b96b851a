-- What is promised of making. Sizes are those of the customer's paper.
use Rattle.std.specs.Prelude.{◌≡◌, List, ◌↔◌, ℕ, length, take, drop}
use Rattle.rfc8391.specs.Xmss.{public_key_of, root_of}
use Rattle.rfc8391.specs.House.{secrets}
use Rattle.rfc8391.specs.Formats.{key_bytes, single_tree}
use Rattle.keyed.specs.Sha2.{sha2}
use Rattle.records.specs.Records.{record_bytes}

module _ (type : ℕ) (material secret key : List ℕ) where
  abbrev MaterialFits : Type 0
  MaterialFits = length material ≡ 96

  abbrev BuffersFit : Type 0
  BuffersFit = (length secret ≡ 132) × (length key ≡ 68)

  -- each number exactly when its condition holds and none earlier does
  pub record MakeNumbers (outcome : ℕ) : Type 0 where
    pub one : (outcome ≡ 1) ↔ (MaterialFits → ⊥)
    pub two : (outcome ≡ 2) ↔ (MaterialFits × (type ≡ 1 → ⊥))
    pub eleven : (outcome ≡ 11) ↔ (MaterialFits × (type ≡ 1) × (BuffersFit → ⊥))
    pub done : (outcome ≡ 0) ↔ (MaterialFits × (type ≡ 1) × BuffersFit)

-- the three seeds of seed material
abbrev pub secret_seed : List ℕ → List ℕ
secret_seed material = take 32 material

abbrev pub message_key : List ℕ → List ℕ
message_key material = take 32 (drop 32 material)

abbrev pub public_seed : List ℕ → List ℕ
public_seed material = take 32 (drop 64 material)

-- the secret values by our rule
abbrev pub secret_values : List ℕ → ℕ → ℕ → List ℕ
secret_values material = secrets sha2 (secret_seed material) (public_seed material) single_tree

-- the key pair of seed material: RFC 8391's public key for type 1, and the record that holds what signing needs
pub record KeyPair (material secret key : List ℕ) : Type 0 where
  pub public : key ≡ key_bytes (public_key_of sha2 (public_seed material) 1 single_tree (secret_values material) 10)
  pub private :
      secret
      ≡ record_bytes
      (record {
        type = 1;
        secret = secret_seed material;
        prfkey = message_key material;
        public = public_seed material;
        root = root_of sha2 (public_seed material) single_tree (secret_values material) 10;
      })
