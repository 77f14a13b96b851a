-- Seed material and the secret record as bytes. Numbers are big-endian; a value has n bytes.
use Rattle.std.specs.Prelude.{List, ◌++◌, ℕ, ◌+◌, ◌*◌, take, drop}
use Rattle.lists.specs.Bytes.{to_byte, number}
use Rattle.rfc8391.specs.Xmss.{PublicKey}

-- the contents of a secret record
pub record SecretRecord : Type 0 where
  pub type : ℕ
  pub secret : List ℕ
  pub prfkey : List ℕ
  pub public : List ℕ
  pub root : List ℕ

-- type (4 bytes), secret seed, message key, public seed, root
unfoldable pub record_length : ℕ → ℕ
record_length n = 4 + 4 * n

unfoldable pub record_bytes : SecretRecord → List ℕ
record_bytes r = to_byte r.type 4 ++ (r.secret ++ (r.prfkey ++ (r.public ++ r.root)))

unfoldable pub record_from : ℕ → List ℕ → SecretRecord
record_from n b =
    record {
      type = number b 0 4;
      secret = take n (drop 4 b);
      prfkey = take n (drop (4 + n) b);
      public = take n (drop (4 + 2 * n) b);
      root = take n (drop (4 + 3 * n) b);
    }

-- the public key that belongs to a secret record
abbrev pub public_key : SecretRecord → PublicKey
public_key r = record { type = r.type; root = r.root; seed = r.public }

-- seed material: secret seed, message key, public seed
unfoldable pub material_length : ℕ → ℕ
material_length n = 3 * n

-- the record of seed material with a root
abbrev pub record_with : ℕ → ℕ → List ℕ → List ℕ → SecretRecord
record_with n type material root =
    record { type = type; secret = take n material; prfkey = take n (drop n material); public = take n (drop (2 * n) material); root = root }
