-- What is promised of signing. Sizes and limits are those of the customer's paper.
use Rattle.std.specs.Prelude.{◌≡◌, List, ◌↔◌, ℕ, ◌≤◌, length}
use Rattle.lists.specs.Bytes.{number}
use Rattle.rfc8391.specs.Xmss.{signature_of}
use Rattle.rfc8391.specs.Formats.{signature_bytes, single_tree}
use Rattle.keyed.specs.Sha2.{sha2}
use Rattle.marks.specs.Page.{used, WellFormed}
use Rattle.promises.specs.Making.{message_key, public_seed, secret_values}

module _ (secret page : List ℕ) (session : ℕ) (m out : List ℕ) where
  abbrev RecordFits : Type 0
  RecordFits = length secret ≡ 132

  abbrev TypeServed : Type 0
  TypeServed = number secret 0 4 ≡ 1

  abbrev MessageFits : Type 0
  MessageFits = length m ≤ 65536

  abbrev OutFits : Type 0
  OutFits = length out ≡ 2500

  -- an index is pending, and exactly its mark and those before it are used
  abbrev PageFits : Type 0
  PageFits = ((1 ≤ session) × (session ≤ 1024)) × (used page ≡ session)

  -- each number exactly when its condition holds and none earlier does
  pub record SignNumbers (outcome : ℕ) : Type 0 where
    pub one : (outcome ≡ 1) ↔ (RecordFits → ⊥)
    pub two : (outcome ≡ 2) ↔ (RecordFits × (TypeServed → ⊥))
    pub four : (outcome ≡ 4) ↔ (RecordFits × TypeServed × (MessageFits → ⊥))
    pub eleven : (outcome ≡ 11) ↔ (RecordFits × TypeServed × MessageFits × (OutFits → ⊥))
    pub seven : (outcome ≡ 7) ↔ (RecordFits × TypeServed × MessageFits × OutFits × (WellFormed page → ⊥))
    pub ten : (outcome ≡ 10) ↔ (RecordFits × TypeServed × MessageFits × OutFits × WellFormed page × (PageFits → ⊥))
    pub done : (outcome ≡ 0) ↔ (RecordFits × TypeServed × MessageFits × OutFits × WellFormed page × PageFits)

-- RFC 8391's signature of a message by index i, with the key that seed material gives
abbrev pub signature_for : List ℕ → ℕ → List ℕ → List ℕ
signature_for material i m =
    signature_bytes (signature_of sha2 (public_seed material) single_tree (secret_values material) (message_key material) 10 i m)
