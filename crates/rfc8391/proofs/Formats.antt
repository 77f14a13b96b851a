-- Keys and signatures are read from their bytes, and written, without a byte unread: both round trips.
use Rattle.std.proofs.Common.{◌≡◌, ℕ, ◌+◌, ◌*◌, ◌^◌, ◌<◌, List, [], ◌++◌, length, get_or, take, drop, sym, refl, ap, ◌∙◌, ap₂, append_assoc, append-nil, mod-eq_of_lt, arith, length-append, length-drop, take-append-drop, take_all, drop-drop, take_at, drop_at}
use Rattle.lists.specs.Lists.{flat, parts}
use Rattle.lists.specs.Bytes.{Bytes, to_byte, number}
use Rattle.lists.proofs.Tabs.{tab-get_or}
use Rattle.lists.proofs.Flats.{length-flat, parts_of_flat, flat-parts}
use Rattle.lists.proofs.Numbers.{length-to_byte, number-front, number-to_byte, to_byte-number}
use Rattle.rfc8391.specs.Xmss.{Signature, PublicKey}
use Rattle.rfc8391.specs.Formats.{key_length, key_bytes, key_from, values_start, path_start, signature_length, signature_bytes, signature_from}

-- what a key, and a signature of height h, must be for its bytes to hold it: sizes alone
pub record KeyFits (n : ℕ) (k : PublicKey) : Type 0 where
  pub type : k.type < 2 ^ 32
  pub root : length k.root ≡ n
  pub seed : length k.seed ≡ n

pub record SignatureFits (n h : ℕ) (s : Signature) : Type 0 where
  pub idx : s.idx < 2 ^ 32
  pub r : length s.r ≡ n
  pub values : length s.values ≡ 2 * n + 3
  pub auth : length s.auth ≡ h
  pub value : (c : ℕ) → c < 2 * n + 3 → length (get_or s.values c []) ≡ n
  pub node : (k : ℕ) → k < h → length (get_or s.auth k []) ≡ n

-- a number of 4 bytes at the front
pub front-number : (x : ℕ) (l : List ℕ) → x < 2 ^ 32 → number (to_byte x 4 ++ l) 0 4 ≡ x
front-number x l h =
    number-front (to_byte x 4) l 0 4 (rw length-to_byte (omega arith)) ∙ number-to_byte x 4 ∙ mod-eq_of_lt h

-- a part in the middle
pub middle : (n b : ℕ) (p x q : List ℕ) → length p ≡ b → length x ≡ n → take n (drop b (p ++ (x ++ q))) ≡ x
middle n b p x q lp lx = rw (drop_at p (x ++ q) b lp) (take_at x q n lx)

pub key_read : (n : ℕ) (k : PublicKey) → KeyFits n k → key_from n (key_bytes k) ≡ k
unfolding key_from key_bytes
key_read n k f =
    let t : List ℕ = to_byte k.type 4 in
    let lt : length t ≡ 4 = length-to_byte k.type 4 in
    let e : t ++ (k.root ++ k.seed) ≡ (t ++ k.root) ++ (k.seed ++ []) = rw (append-nil, append_assoc) in
    let lr : length (t ++ k.root) ≡ 4 + n = rw length-append (omega (arith, f.root)) in
    let a : number (t ++ (k.root ++ k.seed)) 0 4 ≡ k.type = front-number k.type _ f.type in
    let b : take n (drop 4 (t ++ (k.root ++ k.seed))) ≡ k.root = middle n 4 t k.root k.seed lt f.root in
    let c : take n (drop (4 + n) (t ++ (k.root ++ k.seed))) ≡ k.seed =
    rw e (middle n (4 + n) (t ++ k.root) k.seed [] lr f.seed) in
    rw (a, b, c)

-- what is read from place b on, and what is left, are what there was from b on
onward : (m b c : ℕ) (l : List ℕ) → b + m ≡ c → take m (drop b l) ++ drop c l ≡ drop b l
onward m b c l e = rw (← e, ← drop-drop m b l) (take-append-drop m (drop b l))

pub key_written : (n : ℕ) (b : List ℕ) → Bytes b → length b ≡ key_length n → key_bytes (key_from n b) ≡ b
unfolding key_bytes key_from key_length
key_written n b h l =
    let e : take n (drop (4 + n) b) ≡ drop (4 + n) b = take_all n (drop (4 + n) b) (rw length-drop (omega arith)) in
    rw (to_byte-number b 0 4 h (omega arith), e, onward n 4 (4 + n) b refl) (onward 4 0 4 b refl)

pub signature_read : (n h : ℕ) (s : Signature) → SignatureFits n h s → signature_from n h (signature_bytes s) ≡ s
unfolding signature_from signature_bytes values_start path_start
signature_read n h s f =
    let t : List ℕ = to_byte s.idx 4 in
    let v : List ℕ = flat s.values in
    let p : List ℕ = flat s.auth in
    let lt : length t ≡ 4 = length-to_byte s.idx 4 in
    let lr : length (t ++ s.r) ≡ 4 + n = rw length-append (omega (arith, f.r)) in
    let lv : length v ≡ n * (2 * n + 3) =
    ap (λ (l : List (List ℕ)). length (flat l)) (sym (tab-get_or (2 * n + 3) s.values [] f.values)) ∙ length-flat n (2 * n + 3) _ f.value in
    let lp : length ((t ++ s.r) ++ v) ≡ 4 + n + n * (2 * n + 3) = length-append (t ++ s.r) v ∙ ap₂ (λ (x y : ℕ). x + y) lr lv in
    let e1 : t ++ (s.r ++ (v ++ p)) ≡ (t ++ s.r) ++ (v ++ p) = rw append_assoc in
    let e2 : t ++ (s.r ++ (v ++ p)) ≡ ((t ++ s.r) ++ v) ++ (p ++ []) = rw (append-nil, append_assoc, append_assoc) in
    let a : number (t ++ (s.r ++ (v ++ p))) 0 4 ≡ s.idx = front-number s.idx _ f.idx in
    let b : take n (drop 4 (t ++ (s.r ++ (v ++ p)))) ≡ s.r = middle n 4 t s.r (v ++ p) lt f.r in
    let c : parts n (2 * n + 3) (4 + n) (t ++ (s.r ++ (v ++ p))) ≡ s.values =
    rw e1 (parts_of_flat n (2 * n + 3) s.values (t ++ s.r) p (4 + n) lr f.values f.value) in
    let d : parts n h (4 + n + n * (2 * n + 3)) (t ++ (s.r ++ (v ++ p))) ≡ s.auth =
    rw e2 (parts_of_flat n h s.auth ((t ++ s.r) ++ v) [] (4 + n + n * (2 * n + 3)) lp f.auth f.node) in
    rw (a, b, c, d)

pub signature_written : (n h : ℕ) (b : List ℕ) → Bytes b → length b ≡ signature_length n h → signature_bytes (signature_from n h b) ≡ b
unfolding signature_bytes signature_from signature_length values_start path_start
signature_written n h b w l =
    let m : ℕ = n * (2 * n + 3) in
    let e : take (n * h) (drop (4 + n + m) b) ≡ drop (4 + n + m) b = take_all (n * h) (drop (4 + n + m) b) (rw length-drop (omega arith)) in
    rw (to_byte-number b 0 4 w (omega arith), flat-parts n (2 * n + 3) (4 + n) b, flat-parts n h (4 + n + m) b, e, onward m (4 + n) (4 + n + m) b refl, onward n 4 (4 + n) b refl) (onward 4 0 4 b refl)
