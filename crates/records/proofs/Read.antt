-- A secret record is read back from its bytes.
use Rattle.std.proofs.Common.{◌≡◌, ℕ, ◌+◌, ◌*◌, ◌^◌, ◌<◌, List, [], ◌++◌, length, take, drop, append_assoc, append-nil, arith, length-append}
use Rattle.lists.specs.Bytes.{to_byte, number}
use Rattle.lists.proofs.Numbers.{length-to_byte}
use Rattle.rfc8391.proofs.Formats.{front-number, middle}
use Rattle.records.specs.Records.{SecretRecord, record_bytes, record_from}

-- what a secret record must be for its bytes to hold it
pub record RecordFits (n : ℕ) (r : SecretRecord) : Type 0 where
  pub type : r.type < 2 ^ 32
  pub secret : length r.secret ≡ n
  pub prfkey : length r.prfkey ≡ n
  pub public : length r.public ≡ n
  pub root : length r.root ≡ n

-- a secret record is read back
pub record_read : (n : ℕ) (r : SecretRecord) → RecordFits n r → record_from n (record_bytes r) ≡ r
unfolding record_from record_bytes
record_read n r f =
    let t : List ℕ = to_byte r.type 4 in
    let s : List ℕ = r.secret in
    let k : List ℕ = r.prfkey in
    let p : List ℕ = r.public in
    let o : List ℕ = r.root in
    let l1 : length t ≡ 4 = length-to_byte r.type 4 in
    let l2 : length (t ++ s) ≡ 4 + n = rw length-append (omega (arith, f.secret)) in
    let l3 : length ((t ++ s) ++ k) ≡ 4 + 2 * n = rw length-append (omega (arith, f.prfkey)) in
    let l4 : length (((t ++ s) ++ k) ++ p) ≡ 4 + 3 * n = rw length-append (omega (arith, f.public)) in
    let e2 : t ++ (s ++ (k ++ (p ++ o))) ≡ (t ++ s) ++ (k ++ (p ++ o)) = rw append_assoc in
    let e3 : t ++ (s ++ (k ++ (p ++ o))) ≡ ((t ++ s) ++ k) ++ (p ++ o) = rw (append_assoc, append_assoc) in
    let e4 : t ++ (s ++ (k ++ (p ++ o))) ≡ (((t ++ s) ++ k) ++ p) ++ (o ++ []) = rw (append-nil, append_assoc, append_assoc, append_assoc) in
    let a : number (t ++ (s ++ (k ++ (p ++ o)))) 0 4 ≡ r.type = front-number r.type _ f.type in
    let b : take n (drop 4 (t ++ (s ++ (k ++ (p ++ o))))) ≡ s = middle n 4 t s _ l1 f.secret in
    let c : take n (drop (4 + n) (t ++ (s ++ (k ++ (p ++ o))))) ≡ k = rw e2 (middle n (4 + n) (t ++ s) k _ l2 f.prfkey) in
    let d : take n (drop (4 + 2 * n) (t ++ (s ++ (k ++ (p ++ o))))) ≡ p = rw e3 (middle n (4 + 2 * n) ((t ++ s) ++ k) p _ l3 f.public) in
    let e : take n (drop (4 + 3 * n) (t ++ (s ++ (k ++ (p ++ o))))) ≡ o =
    rw e4 (middle n (4 + 3 * n) (((t ++ s) ++ k) ++ p) o [] l4 f.root) in
    rw (a, b, c, d, e)
