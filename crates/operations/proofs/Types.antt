-- What a known type says of its height and lengths.
use Rattle.std.proofs.Common.{◌≡◌, ℕ, ◌≤◌, Bool, true, false, eqb, Some, None, Option, refl, subst, arith, ne_eqb}
use Rattle.lists.specs.Lists.{pick}
use Rattle.marks.proofs.Counting.{tally_other}
use Rattle.rfc8391.specs.Formats.{value_length, key_length, served, key_type, hash_of, height_of, path_start, signature_length}
use Rattle.rfc8391.specs.declared.Hash.{Hash}
use Rattle.rfc8391.specs.declared.Hash.TheVariants.{Sha2}
use Rattle.rfc8391.specs.declared.KeyType.{KeyType}

-- a type that is not served
pub type_other : (t : Option KeyType) → ((k : KeyType) → t ≡ Some k → ⊥) → t ≡ None
type_other t f = tally_other t f

-- no number but 1, 2 and 3 is a type
pub no_type : (t : ℕ) → (t ≡ 1 → ⊥) → (t ≡ 2 → ⊥) → (t ≡ 3 → ⊥) → key_type t ≡ None
unfolding key_type
no_type t not1 not2 not3 = rw (ne_eqb t 1 not1, ne_eqb t 2 not2, ne_eqb t 3 not3)

-- keys of every hash have one length, and signatures an index
pub key_size : (g : Hash) → key_length (value_length g) ≡ 68
unfolding key_length value_length
key_size Sha2 = refl

pub longer : (n h l : ℕ) → signature_length n h ≡ l → 4 ≤ l
unfolding signature_length path_start
longer n h l e = omega arith

-- a row of the table: its length is that of its hash and its height
pub record Row (k : KeyType) : Type 0 where
  pub length : signature_length (value_length k.hash) k.height ≡ k.length
  pub few : k.height ≤ 20

-- the table, by what a number is equal to
abbrev table : Bool → Bool → Bool → Option KeyType
table a b c = pick a (served Sha2 10) (pick b (served Sha2 16) (pick c (served Sha2 20) None))

same_row : (r k : KeyType) → Some r ≡ Some k → Row r → Row k
same_row r k e = let q : r ≡ k = cc in subst Row q

pub row : (n : ℕ) (k : KeyType) → key_type n ≡ Some k → Row k
unfolding key_type
row n k = go (eqb n 1) (eqb n 2) (eqb n 3)
  where
    go : (a b c : Bool) → table a b c ≡ Some k → Row k
    go true b c e = same_row _ k e (record { length = refl; few = omega arith })
    go false true c e = same_row _ k e (record { length = refl; few = omega arith })
    go false false true e = same_row _ k e (record { length = refl; few = omega arith })
    go false false false e = absurd (cc)

-- a number that is a type is served with its hash and its height
pub known_is_served : (n : ℕ) → (key_type n ≡ None → ⊥)
    → key_type n ≡ served (hash_of (key_type n)) (height_of (key_type n))
unfolding key_type
known_is_served n = go (eqb n 1) (eqb n 2) (eqb n 3)
  where
    go : (a b c : Bool) → (table a b c ≡ None → ⊥)
        → table a b c ≡ served (hash_of (table a b c)) (height_of (table a b c))
    go true b c u = refl
    go false true c u = refl
    go false false true u = refl
    go false false false u = absurd (u refl)
