-- The bytes of a key, and of a signature that was made with it, are accepted: over any suite, secret values and height.
use Rattle.std.proofs.Common.{◌≡◌, ℕ, ◌+◌, ◌*◌, ◌^◌, ◌<◌, List, [], length, get_or, sym, ap, ◌∙◌, arith, length-append}
use Rattle.lists.specs.Lists.{flat}
use Rattle.lists.proofs.Tabs.{length-tab, tab-get_or}
use Rattle.lists.proofs.Flats.{length-flat}
use Rattle.lists.proofs.Numbers.{length-to_byte}
use Rattle.rfc8391.specs.Suite.{Suite, Value, Values}
use Rattle.rfc8391.specs.Wots.{len, wots_sign}
use Rattle.rfc8391.specs.Xmss.{Signature, PublicKey, ots_at, auth_path, public_key_of, signature_with, signature_of}
use Rattle.rfc8391.specs.Formats.{key_length, key_bytes, key_from, path_start, signature_length, signature_bytes, signature_from, value_length, served, key_type, single_tree, Accepts}
use Rattle.rfc8391.specs.declared.Hash.{Hash}
use Rattle.rfc8391.proofs.Chains.{sign_values}
use Rattle.rfc8391.proofs.Honest.{root_value, path_values, honest_verifies}
use Rattle.rfc8391.proofs.Formats.{KeyFits, SignatureFits, key_read, signature_read}

pub key_size : (n : ℕ) (k : PublicKey) → KeyFits n k → length (key_bytes k) ≡ key_length n
unfolding key_bytes key_length
key_size n k f = rw (length-append, length-append, length-to_byte) (omega (arith, f.root, f.seed))

-- lists of n bytes each, one after the other
flat_size : (n k : ℕ) (l : List (List ℕ)) → length l ≡ k → ((i : ℕ) → i < k → length (get_or l i []) ≡ n) → length (flat l) ≡ n * k
flat_size n k l e h = ap (λ (x : List (List ℕ)). length (flat x)) (sym (tab-get_or k l [] e)) ∙ length-flat n k _ h

sums : (a b c d : ℕ) → a + (b + (c + d)) ≡ a + b + c + d
sums a b c d = omega arith

pub signature_size : (n h : ℕ) (s : Signature) → SignatureFits n h s → length (signature_bytes s) ≡ signature_length n h
unfolding signature_bytes signature_length path_start
signature_size n h s f =
    let v : length (flat s.values) ≡ n * (2 * n + 3) = flat_size n (2 * n + 3) s.values f.values f.value in
    let p : length (flat s.auth) ≡ n * h = flat_size n h s.auth f.auth f.node in
    rw (length-append, length-append, length-append, length-to_byte, f.r, v, p) (sums 4 n (n * (2 * n + 3)) (n * h))

module _ (S : Suite) (seed sk_prf : List ℕ) (sk : ℕ → ℕ → List ℕ) (seed_value : length seed ≡ S.n) (sk_value : (i c : ℕ) → Value S.n (sk i c)) where
  pub made_fits : (t h : ℕ) → t < 2 ^ 32 → KeyFits S.n (public_key_of S seed t single_tree sk h)
  unfolding public_key_of
  made_fits t h q = record { type = q; root = (root_value S seed single_tree sk sk_value h).size; seed = seed_value }

  -- each of as many values has its size
  sizes : (l : List (List ℕ)) (k : ℕ) → length l ≡ k → Values S.n l → (c : ℕ) → c < k → length (get_or l c []) ≡ S.n
  unfolding Values
  sizes l k e v c q = (v c (rw e q)).size

  pub signed_fits : (h i : ℕ) (m : List ℕ) → i < 2 ^ 32 → SignatureFits S.n h (signature_of S seed single_tree sk sk_prf h i m)
  unfolding signature_of signature_with wots_sign auth_path
  signed_fits h i m q =
      record {
        idx = q;
        r = (S.PRF_value _ _).size;
        values = length-tab (len S) _;
        auth = length-tab h _;
        value = sizes _ (len S) (length-tab (len S) _) (sign_values S seed (ots_at single_tree i) _ (sk i) (sk_value i));
        node = sizes _ h (length-tab h _) (path_values S seed single_tree sk sk_value h i);
      }

-- what Algorithm 10 makes for a type, and what Algorithm 12 signs with it, is accepted
pub honest_accepted : (suites : Hash → Suite) (hash : Hash) → (suites hash).n ≡ value_length hash
    → (seed sk_prf : List ℕ) (sk : ℕ → ℕ → List ℕ) → length seed ≡ (suites hash).n → ((i c : ℕ) → Value (suites hash).n (sk i c))
    → (t h i : ℕ) (m : List ℕ) → t < 2 ^ 32 → key_type t ≡ served hash h → i < 2 ^ h → i < 2 ^ 32
    → Accepts suites (key_bytes (public_key_of (suites hash) seed t single_tree sk h)) m
    (signature_bytes (signature_of (suites hash) seed single_tree sk sk_prf h i m))
unfolding public_key_of key_from
honest_accepted suites hash n seed sk_prf sk ls vs t h i m qt et qh qi =
    let S = suites hash in
    let pk = public_key_of S seed t single_tree sk h in
    let sig = signature_of S seed single_tree sk sk_prf h i m in
    let fk = made_fits S seed sk_prf sk ls vs t h qt in
    let fs = signed_fits S seed sk_prf sk ls vs h i m qi in
    let rk : key_from (value_length hash) (key_bytes pk) ≡ pk = ap (λ (w : ℕ). key_from w (key_bytes pk)) (sym n) ∙ key_read S.n pk fk in
    let rs : signature_from (value_length hash) h (signature_bytes sig) ≡ sig =
    ap (λ (w : ℕ). signature_from w h (signature_bytes sig)) (sym n) ∙ signature_read S.n h sig fs in
    record {
      hash = hash;
      height = h;
      key_length = key_size S.n pk fk ∙ ap key_length n;
      key_type = ap (λ (k : PublicKey). key_type k.type) rk ∙ et;
      sig_length = signature_size S.n h sig fs ∙ ap (λ (w : ℕ). signature_length w h) n;
      valid = rw (rk, rs) (honest_verifies S seed single_tree sk t h i sk_prf m qh);
    }
