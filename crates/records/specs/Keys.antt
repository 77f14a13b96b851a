-- What is made of seed material and of a secret record: RFC 8391's keys and signatures at height 10, with our rule for secret values.
use Rattle.std.specs.Prelude.{List, ℕ, ◌*◌, take, drop}
use Rattle.rfc8391.specs.Suite.{Suite}
use Rattle.rfc8391.specs.Xmss.{Signature, auth_path, leaf_of, root_of, signature_with}
use Rattle.rfc8391.specs.House.{secrets}
use Rattle.rfc8391.specs.Formats.{single_tree}
use Rattle.records.specs.Records.{SecretRecord, record_with}

module _ (S : Suite) where
  -- the secret values of a key, of its secret and its public seed
  abbrev pub secrets_of : List ℕ → List ℕ → ℕ → ℕ → List ℕ
  secrets_of secret public = secrets S secret public single_tree

  -- the record that seed material gives: of type 1, with the root of its tree
  unfoldable pub made_record : List ℕ → SecretRecord
  made_record material =
      record_with S.n 1 material
      (root_of S (take S.n (drop (2 * S.n) material)) single_tree
      (secrets_of (take S.n material) (take S.n (drop (2 * S.n) material))) 10)

  -- the path of leaf i of a record's tree
  abbrev pub path_of : SecretRecord → ℕ → List (List ℕ)
  path_of r i = auth_path S r.public single_tree (leaf_of S r.public single_tree (secrets_of r.secret r.public)) 10 i

  -- the signature of a message by index i, with the seeds and the root that the record holds
  unfoldable pub signed_by : SecretRecord → ℕ → List ℕ → Signature
  signed_by r i m =
      signature_with S r.public single_tree (secrets_of r.secret r.public) r.prfkey r.root (path_of r i) i m
