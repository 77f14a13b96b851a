-- A short input at which each sham of checking breaks a promise.
use Rattle.std.proofs.Common.{◌≡◌, ℕ, zero, suc, List, [], ◌++◌, get_or, replicate, sym, refl, ap, ◌∙◌, arith, lit<, lit≤}
use Rattle.lists.specs.Bytes.{to_byte, number}
use Rattle.lists.specs.Lists.{tab, turns, parts}
use Rattle.outcomes.specs.Outcome.{unless}
use Rattle.outcomes.proofs.Outcomes.{outcome_none}
use Rattle.rfc8391.specs.Suite.{Suite, xor}
use Rattle.rfc8391.specs.Wots.{base_w, checksum, digits, step, chain, wots_pk_from_sig}
use Rattle.rfc8391.specs.Xmss.{message_digest, rand_hash, ltree_node, ltree_round, ltree, climb, root_from_path, root_from_sig, verify}
use Rattle.rfc8391.specs.Formats.{value_length, key_length, key_from, values_start, path_start, signature_length, signature_from, key_type, height_of}
use Rattle.rfc8391.specs.declared.Hash.{Hash}
use Rattle.rfc8391.specs.declared.Hash.TheVariants.{Sha2}
use Rattle.promises.specs.Checking.{KeyFits, TypeUnknown, SignatureFits, MessageFits, IndexFits, RootAgrees, Accepted}
use Rattle.promises.proofs.Checking.{numbers, accepted}
use Rattle.shams.specs.ToyValues.{zeros, right_half}
use Rattle.shams.specs.Toy.{toy, toys}
use Rattle.shams.specs.Checks.{Kept, honest, fixed, refusing, one_chain, first_end, root_by_one_chain}

pub honest_keeps : (suites : Hash → Suite) → Kept suites (honest suites)
unfolding honest
honest_keeps suites = record { numbers = numbers suites; accepted = accepted suites }

-- a key of a type and a root, and a signature of index 1,023 filled with ones
abbrev key : ℕ → ℕ → List ℕ
key type root = to_byte type 4 ++ (replicate 32 root ++ replicate 32 0)

abbrev filler : List ℕ
filler = to_byte 1023 4 ++ replicate 2496 1

-- an empty key is answered 1, and one of type 7 is answered 2
pub fixed_breaks : (suites : Hash → Suite) (outcome : ℕ) → Kept suites (fixed suites outcome) → ⊥
unfolding fixed to_byte number key_type
fixed_breaks suites outcome kept =
    let one : outcome ≡ 1 = (kept.numbers [] [] []).one.1 (λ e. omega arith) in
    let two : outcome ≡ 2 = (kept.numbers (key 7 0) [] []).two.1 (refl, refl) in
    omega arith

-- at the toy suite any signature of index 1,023 leads to the root of zeros
honest_signature : Accepted toys (key 1 0) [] filler
unfolding toys toy zeros right_half to_byte number key_type value_length key_length key_from values_start path_start signature_length signature_from tab turns parts xor base_w checksum digits step chain wots_pk_from_sig message_digest rand_hash ltree_node ltree_round ltree climb root_from_path root_from_sig verify
honest_signature =
    record {
      accepts = record { hash = Sha2; height = 10; key_length = refl; key_type = refl; sig_length = refl; valid = refl };
      message = lit≤ tt;
      index = lit< tt;
    }

pub refusing_breaks : Kept toys (refusing toys) → ⊥
unfolding refusing
refusing_breaks kept = never (honest toys (key 1 0) [] filler) ((kept.accepted (key 1 0) [] filler).1 honest_signature)
  where
    never : (o : ℕ) → unless o 6 (λ n. n) ≡ 0 → ⊥
    never zero e = omega arith
    never (suc o) e = omega arith

-- such a signature under a key whose root is ones: every test but the last is passed, and the root of zeros differs
abbrev Passed : Type 0
Passed =
    KeyFits toys (key 1 1) [] filler
    × (TypeUnknown toys (key 1 1) [] filler → ⊥)
    × SignatureFits toys (key 1 1) [] filler
    × MessageFits toys (key 1 1) [] filler
    × IndexFits toys (key 1 1) [] filler
    × (RootAgrees toys (key 1 1) [] filler → ⊥)

other_root : Passed
unfolding toys toy zeros right_half to_byte number key_type value_length key_length key_from values_start path_start signature_length signature_from tab turns parts xor base_w checksum digits step chain wots_pk_from_sig message_digest rand_hash ltree_node ltree_round ltree climb root_from_path root_from_sig
other_root = (
  refl,
  λ e. let z : ◌≡◌ {A = ℕ} 10 0 = ap height_of e in omega arith,
  refl,
  lit≤ tt,
  lit< tt,
  λ e. let z : ◌≡◌ {A = ℕ} 0 1 = ap (λ
      (l : List ℕ). get_or l 0 0) e in omega arith,
)

-- its last value passes for the end of its chain, and so for the root
root_by_one_chain_lem : root_by_one_chain toy 10 (key_from 32 (key 1 1)) [] (signature_from 32 10 filler) ≡ (key_from 32 (key 1 1)).root
unfolding toy zeros right_half to_byte number key_from values_start path_start signature_from tab turns parts xor base_w checksum digits step chain wots_pk_from_sig message_digest rand_hash ltree_node ltree_round ltree climb root_from_path root_by_one_chain first_end
root_by_one_chain_lem = refl

one_chain_accepts : one_chain toys (key 1 1) [] filler ≡ 0
unfolding one_chain toys to_byte number key_type value_length honest
one_chain_accepts =
    let six : honest toys (key 1 1) [] filler ≡ 6 = (numbers toys (key 1 1) [] filler).six.1 other_root in
    rw six (outcome_none _ (root_by_one_chain_lem, tt))

pub one_chain_breaks : Kept toys (one_chain toys) → ⊥
one_chain_breaks kept =
    let six : one_chain toys (key 1 1) [] filler ≡ 6 = (kept.numbers (key 1 1) [] filler).six.1 other_root in
    let both : ◌≡◌ {A = ℕ} 0 6 = sym one_chain_accepts ∙ six in
    omega arith
