-- Keys and signatures as bytes: their types, their layout, and which of them RFC 8391 accepts. Numbers are big-endian.
use Rattle.std.specs.Prelude.{◌≡◌, List, ◌++◌, ℕ, ◌+◌, ◌*◌, eqb, length, take, drop, Option, Some, None}
use Rattle.lists.specs.Lists.{flat, parts, pick}
use Rattle.lists.specs.Bytes.{to_byte, number}
use Rattle.rfc8391.specs.Suite.{Suite}
use Rattle.rfc8391.specs.Xmss.{Signature, PublicKey, verify}
use Rattle.rfc8391.specs.declared.Address.{Address}
use Rattle.rfc8391.specs.declared.Hash.{Hash}
use Rattle.rfc8391.specs.declared.Hash.TheVariants.{Sha2}
use Rattle.rfc8391.specs.declared.KeyType.{KeyType}

-- 4.1.7: a public key: type (4 bytes), root, seed
unfoldable pub key_length : ℕ → ℕ
key_length n = 4 + n + n

unfoldable pub key_bytes : PublicKey → List ℕ
key_bytes k = to_byte k.type 4 ++ (k.root ++ k.seed)

unfoldable pub key_from : ℕ → List ℕ → PublicKey
key_from n b = record { type = number b 0 4; root = take n (drop 4 b); seed = take n (drop (4 + n) b) }

-- 4.1.8: a signature of height h: index (4 bytes), r, the chain values, the path from the leaf up. Where the last two begin, and the end
unfoldable pub values_start : ℕ → ℕ
values_start n = 4 + n

unfoldable pub path_start : ℕ → ℕ
path_start n = 4 + n + n * (2 * n + 3)

unfoldable pub signature_length : ℕ → ℕ → ℕ
signature_length n h = path_start n + n * h

unfoldable pub signature_bytes : Signature → List ℕ
signature_bytes s = to_byte s.idx 4 ++ (s.r ++ (flat s.values ++ flat s.auth))

unfoldable pub signature_from : ℕ → ℕ → List ℕ → Signature
signature_from n h b =
    record {
      idx = number b 0 4;
      r = take n (drop 4 b);
      values = parts n (2 * n + 3) (values_start n) b;
      auth = parts n h (path_start n) b;
    }

-- the bytes of a value, by the hash that a type names
unfoldable pub value_length : Hash → ℕ
value_length Sha2 = 32

-- a type that is served: its hash, the height of its tree, the length of its signatures
abbrev pub served : Hash → ℕ → Option KeyType
served hash h = Some (record { hash = hash; height = h; length = signature_length (value_length hash) h })

-- 5.3 and the registry of section 8: the types with SHA-256 and values of 32 bytes; no other number is a type here
unfoldable pub key_type : ℕ → Option KeyType
key_type t = pick (eqb t 1) (served Sha2 10) (pick (eqb t 2) (served Sha2 16) (pick (eqb t 3) (served Sha2 20) None))

-- the type that a key names, its hash and its height (Sha2 and 0 where it is none)
abbrev pub type_of : List ℕ → Option KeyType
type_of key = key_type (number key 0 4)

abbrev pub hash_of : Option KeyType → Hash
hash_of (Some t) = t.hash
hash_of None = Sha2

abbrev pub height_of : Option KeyType → ℕ
height_of (Some t) = t.height
height_of None = 0

-- layer 0 and tree 0
abbrev pub single_tree : Address
single_tree = record { layer = 0; treehigh = 0; treelow = 0; kind = 0; w4 = 0; w5 = 0; w6 = 0; w7 = 0 }

-- the bytes of a key, a message and a signature that RFC 8391 accepts, at the hash and the height of the key's type: sizes are by the
-- hash, and what is hashed by its suite
pub record Accepts (suites : Hash → Suite) (key m sig : List ℕ) : Type 0 where
  pub hash : Hash
  pub height : ℕ
  pub key_length : length key ≡ key_length (value_length hash)
  pub key_type : type_of key ≡ served hash height
  pub sig_length : length sig ≡ signature_length (value_length hash) height
  pub valid : verify (suites hash) single_tree height (key_from (value_length hash) key) m (signature_from (value_length hash) height sig)
