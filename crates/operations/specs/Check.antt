-- Checking: its refusals in the customer's order, and its answer. RFC 8391 has no limit on message and index; 4 and 5 are the customer's.
use Rattle.std.specs.Prelude.{◌≡◌, List, [], ◌∷◌, ℕ, ◌^◌, length, None}
use Rattle.lists.specs.Bytes.{number}
use Rattle.outcomes.specs.Conditions.{is, is_not, unequal, over, or_more}
use Rattle.outcomes.specs.Outcome.{Refusals, outcome_of}
use Rattle.rfc8391.specs.Suite.{Suite}
use Rattle.rfc8391.specs.Xmss.{verify}
use Rattle.rfc8391.specs.Formats.{value_length, key_from, signature_length, signature_from, type_of, hash_of, height_of, single_tree}
use Rattle.rfc8391.specs.declared.Hash.{Hash}
use Rattle.keyed.specs.Suites.{suite}
use Rattle.operations.specs.Decisions.{unknown?, verify?}
use Rattle.operations.specs.declared.Checked.{Checked}

-- over a suite for each hash, of which the key's type takes its own; a key of any type has 68 bytes
module _ (suites : Hash → Suite) where
  -- the signature leads to the key's root
  abbrev pub Valid : Hash → ℕ → List ℕ → List ℕ → List ℕ → Type 0
  Valid hash h key m sig =
      verify (suites hash) single_tree h (key_from (value_length hash) key) m (signature_from (value_length hash) h sig)

  unfoldable pub check_refusals : List ℕ → List ℕ → List ℕ → Refusals
  check_refusals key m sig =
      (unequal (length key) 68, 1)
      ∷ (is (type_of key ≡ None) (unknown? (type_of key)), 2)
      ∷ (unequal (length sig) (signature_length (value_length (hash_of (type_of key))) (height_of (type_of key))), 3)
      ∷ (over 65536 (length m), 4)
      ∷ (or_more (2 ^ height_of (type_of key)) (number sig 0 4), 5)
      ∷ (
        is_not (Valid (hash_of (type_of key)) (height_of (type_of key)) key m sig)
            (verify? (suites (hash_of (type_of key))) single_tree (height_of (type_of key)) _ m _),
        6,
      )
      ∷ []

-- the answer for a key, a message and a signature
unfoldable pub check_of : List ℕ → List ℕ → List ℕ → Checked
check_of key m sig = record { outcome = outcome_of (check_refusals suite key m sig) }
