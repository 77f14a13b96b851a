-- What making writes is read back from its bytes, and what is signed with it is accepted under its key.
use Rattle.std.proofs.Common.{◌≡◌, ℕ, ◌-◌, ◌*◌, ◌^◌, ◌<◌, ◌≤◌, List, length, take, drop, sym, refl, ap, ◌∙◌, subst, ap₂, arith, length-append, length-drop, length-take}
use Rattle.lists.specs.Bytes.{number}
use Rattle.lists.proofs.Numbers.{length-to_byte}
use Rattle.rfc8391.specs.Suite.{Suite, Value}
use Rattle.rfc8391.specs.Xmss.{public_key_of, signature_with, signature_of}
use Rattle.rfc8391.specs.House.{secret_value, secrets}
use Rattle.rfc8391.specs.Formats.{value_length, key_bytes, path_start, signature_length, signature_bytes, served, key_type, single_tree, Accepts, hash_of, height_of}
use Rattle.rfc8391.specs.declared.Hash.{Hash}
use Rattle.rfc8391.specs.declared.Hash.TheVariants.{Sha2}
use Rattle.rfc8391.proofs.Honest.{root_value}
use Rattle.rfc8391.proofs.Formats.{front-number}
use Rattle.rfc8391.proofs.Accepted.{honest_accepted}
use Rattle.keyed.specs.Sha2.{sha2}
use Rattle.keyed.specs.Suites.{suite}
use Rattle.keyed.proofs.Suites.{sha2_n, suite_length}
use Rattle.records.specs.Records.{SecretRecord, record_bytes, record_from, public_key}
use Rattle.records.proofs.Read.{RecordFits, record_read}
use Rattle.records.specs.Keys.{secrets_of, made_record, signed_by}
use Rattle.operations.specs.Check.{check_of}
use Rattle.operations.specs.Sign.{SignEnd, sign_of}
use Rattle.promises.specs.Kept as kept
use Rattle.promises.specs.Kept.{secret_for, key_for}
use Rattle.promises.specs.History.{given}
use Rattle.promises.specs.Signing.{signature_for}
use Rattle.promises.proofs.Checking.{accepted}
use Rattle.promises.proofs.Signing.{sign_given}

-- a signature carries its index
pub signature_index : (S : Suite) (r : SecretRecord) (i : ℕ) (m : List ℕ) → i < 1024 → number (signature_bytes (signed_by S r i m)) 0 4 ≡ i
unfolding signature_bytes signed_by signature_with
signature_index S r i m h = front-number i _ (omega arith)

-- over any suite with values of 32 bytes
module _ (S : Suite) (n32 : S.n ≡ 32) (material : List ℕ) (l : length material ≡ 96) where
  secret_values_lem : (secret public : List ℕ) (i c : ℕ) → Value S.n (secrets_of S secret public i c)
  unfolding secrets secret_value
  secret_values_lem secret public i c = S.PRF_value _ _

  public_size : length (take S.n (drop (2 * S.n) material)) ≡ S.n
  public_size = rw (length-take, length-drop) (omega arith)

  made_fits : RecordFits S.n (made_record S material)
  unfolding made_record
  made_fits =
      record {
        type = omega arith;
        secret = rw length-take (omega arith);
        prfkey = rw (length-take, length-drop) (omega arith);
        public = public_size;
        root = (root_value S _ single_tree _ (secret_values_lem _ _) 10).size;
      }

  made_type : number (key_bytes (public_key (made_record S material))) 0 4 ≡ 1
  unfolding key_bytes made_record
  made_type = front-number 1 _ (omega arith)

-- what is signed with it is accepted at the suite of its type
made_accepts : (material : List ℕ) → length material ≡ 96 → (i : ℕ) (m : List ℕ) → i < 1024
    → Accepts suite (key_bytes (public_key (made_record sha2 material))) m (signature_bytes (signed_by sha2 (made_record sha2 material) i m))
unfolding suite made_record signed_by signature_of public_key_of key_type value_length
made_accepts material l i m h =
    honest_accepted suite Sha2 (suite_length Sha2) _ _ _ (public_size sha2 sha2_n material l) (secret_values_lem sha2 sha2_n material l _ _) 1 10 i m (omega arith)
    refl (omega arith) (omega arith)

-- the record that making writes
module _ (material : List ℕ) (l : length material ≡ 96) where
  pub secret_size : length (secret_for material) ≡ 132
  unfolding record_bytes sha2
  secret_size =
      let f = made_fits sha2 sha2_n material l in
      rw (length-append, length-append, length-append, length-append, length-to_byte)
      (omega (arith, f.secret, f.prfkey, f.public, f.root))

  pub secret_type : number (secret_for material) 0 4 ≡ 1
  unfolding record_bytes made_record
  secret_type = front-number 1 _ (omega arith)

  pub secret_read : record_from 32 (secret_for material) ≡ made_record sha2 material
  unfolding sha2
  secret_read = record_read 32 (made_record sha2 material) (made_fits sha2 sha2_n material l)

  -- a signature by any index is accepted under the key
  pub signature_accepted : (i : ℕ) (m σ : List ℕ) → i < 1024 → length m ≤ 65536 →
      σ ≡ signature_bytes (signed_by sha2 (record_from 32 (secret_for material)) i m) → kept.Accepted (key_for material) (given m σ)
  unfolding check_of signature_length path_start key_type value_length
  signature_accepted i m σ h w e =
      let q : σ ≡ signature_bytes (signed_by sha2 (made_record sha2 material) i m) =
      e ∙ ap (λ (r : SecretRecord). signature_bytes (signed_by sha2 r i m)) secret_read in
      let a : Accepts suite (key_for material) m σ =
      subst (Accepts suite (key_for material) m) (sym q) (made_accepts material l i m h) in
      let x : number σ 0 4 ≡ i = ap (λ (s : List ℕ). number s 0 4) q ∙ signature_index sha2 (made_record sha2 material) i m h in
      let t : key_type 1 ≡ served a.hash a.height =
      ap key_type (sym (made_type sha2 sha2_n material l)) ∙ a.key_type in
      let ten : 10 ≡ a.height = ap height_of t in
      let small : number σ 0 4 < 2 ^ a.height = subst (λ (k : ℕ). number σ 0 4 < 2 ^ k) ten (omega arith) in
      let size : length σ ≡ 2500 =
      a.sig_length ∙ ap₂ (λ (g : Hash) (k : ℕ). signature_length (value_length g) k) (sym (ap hash_of t)) (sym ten) in
      record { size = size; checked = (accepted suite (key_for material) m σ).1 (record { accepts = a; message = w; index = small }) }

  -- what is signed with the record is the signature of the key that the material gives
  pub signature_is : (i : ℕ) (m : List ℕ) → signature_bytes (signed_by sha2 (record_from 32 (secret_for material)) i m) ≡ signature_for material i m
  unfolding made_record signed_by signature_of sha2
  signature_is i m = ap (λ (r : SecretRecord). signature_bytes (signed_by sha2 r i m)) secret_read

  pub signed_out : (secret page : List ℕ) (s : ℕ) (m out : List ℕ) (x : SignEnd) → x ≡ sign_of secret page s m out
      → secret ≡ secret_for material → x.answer.outcome ≡ 0 → x.out ≡ signature_for material (s - 1) m
  signed_out secret page s m out x e q z =
      ap (λ (y : SignEnd). y.out) (e ∙ sign_given secret page s m out (sym (ap (λ (y : SignEnd). y.answer.outcome) e) ∙ z))
      ∙ ap (λ (k : List ℕ). signature_bytes (signed_by sha2 (record_from 32 k) (s - 1) m)) q
      ∙ signature_is (s - 1) m

  pub honest_checks : (i : ℕ) (key m σ : List ℕ) → i < 1024 → length m ≤ 65536 → key ≡ key_for material → σ ≡ signature_for material i m
      → (check_of key m σ).outcome ≡ 0
  honest_checks i key m σ h w ek es =
      ap (λ (k : List ℕ). (check_of k m σ).outcome) ek ∙ (signature_accepted i m σ h w (es ∙ sym (signature_is i m))).checked
