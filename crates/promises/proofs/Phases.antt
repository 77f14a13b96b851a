-- What a history does to used marks, session and signatures, as the laws speak of it.
use Rattle.std.proofs.Common.{◌≡◌, ℕ, suc, ◌+◌, ◌<◌, ◌≤◌, List, ◌∷◌, length}
use Rattle.rfc8391.specs.Formats.{signature_bytes}
use Rattle.keyed.specs.Sha2.{sha2}
use Rattle.marks.proofs.Ordered.{page_of}
use Rattle.records.specs.Records.{record_from}
use Rattle.records.specs.Keys.{signed_by}
use Rattle.promises.specs.History.{Given, given, State}
use Rattle.promises.specs.Kept.{index_of, Every, Without, Distinct}

-- the signature of message m by index i of a secret record
abbrev pub signature_at : List ℕ → ℕ → List ℕ → List ℕ
signature_at secret i m = signature_bytes (signed_by sha2 (record_from 32 secret) i m)

-- a property of restarts, used marks, session and signatures
abbrev pub Property : Type 1
Property = ℕ → ℕ → ℕ → List Given → Type 0

-- the four ways in which a step changes them: a property that each of the four keeps is kept by every step
pub record Preserved (secret : List ℕ) (P : Property) : Type 0 where
  pub reserves : (n u : ℕ) (gs : List Given) → u < 1024 → P n u 0 gs → P n u (suc u) gs
  pub marks : (n u : ℕ) (gs : List Given) → u < 1024 → P n u (suc u) gs → P n (suc u) (suc u) gs
  pub signs : (n v : ℕ) (gs : List Given) (m : List ℕ) → v < 1024 → length m ≤ 65536 → P n (suc v) (suc v) gs
      → P n (suc v) 0 (given m (signature_at secret v m) ∷ gs)
  pub restarts : (n u s : ℕ) (gs : List Given) → P n u s gs → P (suc n) u 0 gs

-- a state with u used marks that has the property
pub record Reached (P : Property) (n : ℕ) (st : State) : Type 0 where
  pub u : ℕ
  pub most : u ≤ 1024
  pub is_page : st.page ≡ page_of u
  pub holds : P n u st.session st.given

-- one that was given by an index below b
pub record SignedBelow (secret : List ℕ) (b : ℕ) (g : Given) : Type 0 where
  pub i : ℕ
  pub below : i < b
  pub short : length g.message ≤ 65536
  pub is_signature : g.signature ≡ signature_at secret i g.message
  pub index : index_of g.signature ≡ i

-- no index pending; index u pending, its mark not stored; index v pending, its mark stored.
-- At most c marks are used, and one more in the last
pub data Phase (secret : List ℕ) (c u s : ℕ) (gs : List Given) : Type 0 where
  idle : s ≡ 0 → Every (SignedBelow secret u) gs → u ≤ c → Phase secret c u s gs
  pending : s ≡ suc u → u < 1024 → Every (SignedBelow secret u) gs → u ≤ c → Phase secret c u s gs
  marked : (v : ℕ) → u ≡ suc v → s ≡ u → Every (SignedBelow secret v) gs → u ≤ suc c → Phase secret c u s gs

-- what holds in every history
pub record Invariant (secret : List ℕ) (n u s : ℕ) (gs : List Given) : Type 0 where
  pub distinct : Distinct gs
  pub phase : Phase secret (length gs + n) u s gs

-- k marks are used, or more
abbrev pub AtLeast : ℕ → Property
AtLeast k n u s gs = k ≤ u

-- the mark of index i is used, the index is not pending, and no signature carries it
pub record Lost (i n u s : ℕ) (gs : List Given) : Type 0 where
  pub marked : i < u
  pub other : s ≡ suc i → ⊥
  pub without : Without i gs
