-- What is promised of checking. Sizes and limits are those of the customer's paper; the rest is RFC 8391's.
use Rattle.std.specs.Prelude.{◌≡◌, List, ◌↔◌, ℕ, ◌+◌, ◌*◌, ◌^◌, ◌<◌, ◌≤◌, length, None}
use Rattle.lists.specs.Bytes.{number}
use Rattle.rfc8391.specs.Suite.{Suite}
use Rattle.rfc8391.specs.Xmss.{recomputed_root}
use Rattle.rfc8391.specs.Formats.{value_length, key_from, signature_from, type_of, hash_of, height_of, single_tree, Accepts}
use Rattle.rfc8391.specs.declared.Hash.{Hash}

-- over a suite for each hash, of which the key's type takes its own
module _ (suites : Hash → Suite) (key m sig : List ℕ) where
  -- the key's type: its hash, the bytes of a value, and the height of the tree
  abbrev hash : Hash
  hash = hash_of (type_of key)

  abbrev n : ℕ
  n = value_length hash

  abbrev h : ℕ
  h = height_of (type_of key)

  abbrev pub KeyFits : Type 0
  KeyFits = length key ≡ 68

  abbrev pub TypeUnknown : Type 0
  TypeUnknown = type_of key ≡ None

  -- index, r, chain values and path: 36 + (67 + h) * 32 where a value has 32 bytes
  abbrev pub SignatureFits : Type 0
  SignatureFits = length sig ≡ 4 + n + (2 * n + 3 + h) * n

  abbrev pub MessageFits : Type 0
  MessageFits = length m ≤ 65536

  abbrev pub IndexFits : Type 0
  IndexFits = number sig 0 4 < 2 ^ h

  -- Algorithm 14: the root recomputed from the signature is the key's, byte by byte
  abbrev pub RootAgrees : Type 0
  RootAgrees = recomputed_root (suites hash) single_tree h (key_from n key) m (signature_from n h sig) ≡ (key_from n key).root

  -- each number exactly when its condition holds and none earlier does
  pub record CheckNumbers (outcome : ℕ) : Type 0 where
    pub one : (outcome ≡ 1) ↔ (KeyFits → ⊥)
    pub two : (outcome ≡ 2) ↔ (KeyFits × TypeUnknown)
    pub three : (outcome ≡ 3) ↔ (KeyFits × (TypeUnknown → ⊥) × (SignatureFits → ⊥))
    pub four : (outcome ≡ 4) ↔ (KeyFits × (TypeUnknown → ⊥) × SignatureFits × (MessageFits → ⊥))
    pub five : (outcome ≡ 5) ↔ (KeyFits × (TypeUnknown → ⊥) × SignatureFits × MessageFits × (IndexFits → ⊥))
    pub six : (outcome ≡ 6) ↔ (KeyFits × (TypeUnknown → ⊥) × SignatureFits × MessageFits × IndexFits × (RootAgrees → ⊥))
    pub none_other : outcome ≤ 6

  -- what RFC 8391 accepts, inside the two limits that are ours
  pub record Accepted : Type 0 where
    pub accepts : Accepts suites key m sig
    pub message : length m ≤ 65536
    pub index : number sig 0 4 < 2 ^ accepts.height
