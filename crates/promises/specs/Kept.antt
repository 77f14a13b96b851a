-- What is promised of every history, by demand 3: over any operations, for the public key of the record that they sign with.
use Rattle.std.specs.Prelude.{◌≡◌, true, false, List, [], ◌∷◌, ◌++◌, ◌↔◌, ℕ, suc, ◌+◌, ◌<◌, ◌≤◌, length}
use Rattle.lists.specs.Bytes.{number}
use Rattle.rfc8391.specs.Formats.{key_bytes}
use Rattle.keyed.specs.Sha2.{sha2}
use Rattle.marks.specs.Page.{mark_used, used}
use Rattle.records.specs.Records.{record_bytes, public_key}
use Rattle.records.specs.Keys.{made_record}
use Rattle.operations.specs.Check.{check_of}
use Rattle.promises.specs.History.{Operations, end_index, lent, Given, given, State, Step, whole, cut, restart, run, restarts, start}
use Rattle.promises.specs.declared.Kind.TheVariants.{Reserving, Marking, Signing}

-- the secret record and the public key as making writes them from seed material
abbrev pub secret_for : List ℕ → List ℕ
secret_for material = record_bytes (made_record sha2 material)

abbrev pub key_for : List ℕ → List ℕ
key_for material = key_bytes (public_key (made_record sha2 material))

-- the index that a signature carries
abbrev pub index_of : List ℕ → ℕ
index_of σ = number σ 0 4

-- of every one given
abbrev pub Every : (Given → Type 0) → List Given → Type 0
Every P [] = Unit {0}
Every P (g ∷ gs) = P g × Every P gs

-- no signature given carries index i; and no two carry the same one
abbrev pub Without : ℕ → List Given → Type 0
Without i gs = Every (λ g. index_of g.signature ≡ i → ⊥) gs

abbrev pub Distinct : List Given → Type 0
Distinct [] = Unit {0}
Distinct (g ∷ gs) = Without (index_of g.signature) gs × Distinct gs

-- 2,500 bytes that checking accepts under the key for its message
pub record Accepted (key : List ℕ) (g : Given) : Type 0 where
  pub size : length g.signature ≡ 2500
  pub checked : (check_of key g.message g.signature).outcome ≡ 0

-- exactly one more was given: for message m, with index i
pub record OneMore (i : ℕ) (m : List ℕ) (before after : List Given) : Type 0 where
  pub signature : List ℕ
  pub more : after ≡ given m signature ∷ before
  pub index : index_of signature ≡ i

-- a restart, by itself or after a call that it cut
abbrev pub Restarting : Step → Type 0
Restarting (whole c) = ⊥
Restarting (cut c b) = Unit {0}
Restarting restart = Unit {0}

-- reserving, marking and signing, one after the other
abbrev pub the_three_calls : List ℕ → List ℕ → List Step
the_three_calls m out = whole (lent Reserving [] []) ∷ whole (lent Marking [] []) ∷ whole (lent Signing m out) ∷ []

module _ (O : Operations) where
  -- of the state that a history xs leads to
  pub record Kept (key : List ℕ) (xs : List Step) (st : State) : Type 0 where
    -- signing for a pending index with its mark stored gives a signature
    pub signs : (i : ℕ) → st.session ≡ suc i → mark_used st.page i ≡ true → (m out : List ℕ) → length m ≤ 65536 → length out ≡ 2500 →
        (O.sign st.page st.session m out).answer.outcome ≡ 0
    -- three calls give one, with no index pending and while indices are left
    pub three_calls : (m out : List ℕ) → st.session ≡ 0 → used st.page < end_index → length m ≤ 65536 → length out ≡ 2500 →
        OneMore (used st.page) m st.given (run O (the_three_calls m out) st).given
    -- every one given is accepted for its message
    pub accepted : Every (Accepted key) st.given
    -- no two carry the same index
    pub distinct : Distinct st.given
    -- marks used never exceed signatures given plus restarts plus one
    pub spent : used st.page ≤ length st.given + restarts xs + 1
    -- reserving with no index pending is refused for want of indices exactly when all marks are used, by their bits
    pub full : st.session ≡ 0 → ((O.reserve st.page st.session).outcome ≡ 8) ↔ ((i : ℕ) → i < 1024 → mark_used st.page i ≡ true)

  -- in every history
  abbrev pub AlwaysKept : List ℕ → Type 0
  AlwaysKept key = (xs : List Step) → Kept key xs (run O xs start)

  -- what a restart does: of a history xs, and of one that goes on with ys
  pub record Restarted (xs ys : List Step) : Type 0 where
    -- a mark used stays used
    pub stored : (i : ℕ) → i < 1024 → mark_used (run O xs start).page i ≡ true → mark_used (run O (xs ++ ys) start).page i ≡ true
    -- a mark used but not signed for before the restart is lost
    pub lost : (x : Step) → Restarting x → (i : ℕ) → i < 1024 → mark_used (run O (xs ++ (x ∷ [])) start).page i ≡ true →
        Without i (run O xs start).given → Without i (run O (xs ++ (x ∷ ys)) start).given
    -- a reserved index whose mark was never stored is given again
    pub again : (x : Step) → Restarting x → (i : ℕ) → (run O xs start).session ≡ suc i →
        mark_used (run O (xs ++ (x ∷ [])) start).page i ≡ false → (m out : List ℕ) →
        (run O (xs ++ (x ∷ whole (lent Reserving m out) ∷ [])) start).session ≡ suc i
