-- What the calls of `recomputed_root` give, one after the other.
use Rattle.std.proofs.Common.{◌≡◌, ℕ, ◌+◌, ◌-◌, ◌*◌, List, length, take, drop, sym, refl, ap, ◌∙◌, ap₂, zero-add, arith, length-drop, take_all, drop-drop}
use Rattle.lists.specs.Lists.{parts}
use Rattle.lists.specs.Bytes.{number}
use Rattle.lists.proofs.Tabs.{tab_ext}
use Rattle.lists.proofs.Flats.{parts_of_part}
use Rattle.rfc8391.specs.Suite.{Suite}
use Rattle.rfc8391.specs.Wots.{len}
use Rattle.rfc8391.specs.Xmss.{message_digest, root_from_sig}
use Rattle.rfc8391.specs.Formats.{key_from, values_start, path_start, signature_from, single_tree}
use Rattle.rfc8391.specs.declared.Address.{Address}
use Rattle.signatures.specs.Recomputed.{root_by}

-- what stands behind the type or the index
pub behind_four : (l : List ℕ) → take (length l - 4) (drop 4 l) ≡ drop 4 l
behind_four l = take_all (length l - 4) (drop 4 l) (rw length-drop (omega arith))

-- the root of a key and r of a signature are the first value there, and the seed of a key is the second and last
module _ (n w : ℕ) (l part v : List ℕ) (ew : w ≡ n) (ev : take (length part) v ≡ part) where
  pub first_value : length part ≡ w → part ≡ take w (take (length l - 4) (drop 4 l)) → take n v ≡ take n (drop 4 l)
  first_value k e = ap (λ (j : ℕ). take j v) (sym (k ∙ ew)) ∙ ev ∙ e ∙ ap₂ (λ (j : ℕ) (r : List ℕ). take j r) ew (behind_four l)

  pub last_value : length l ≡ 4 + n + n → part ≡ drop w (take (length l - 4) (drop 4 l)) → take n v ≡ take n (drop (4 + n) l)
  last_value k e =
      let p : part ≡ drop (4 + n) l = e ∙ ap₂ (λ (j : ℕ) (r : List ℕ). drop j r) ew (behind_four l) ∙ drop-drop n 4 l in
      let q : length (drop (4 + n) l) ≡ n = rw length-drop (omega arith) in
      ap (λ (j : ℕ). take j v) (sym (ap (λ (r : List ℕ). length r) p ∙ q)) ∙ ev ∙ p ∙ sym (take_all n (drop (4 + n) l) (omega (arith, q)))

module _ (S : Suite) (key m sig : List ℕ) (h : ℕ) where
  -- the part of a signature between r and its path holds its values
  values_in_lem : (w p : ℕ) → w ≡ S.n → p ≡ path_start w → parts S.n (len S) 0 (take (p - (4 + w)) (drop (4 + w) sig)) ≡ (signature_from S.n h sig).values
  unfolding signature_from values_start path_start
  values_in_lem w p ew ep =
      let z : p - (4 + w) ≡ w * (2 * w + 3) = omega arith in
      rw (z, ew) (parts_of_part S.n (len S) (4 + S.n) (S.n * len S) sig (omega arith))

  -- what stands behind r, and its two parts: the values and the path
  module _ (w : ℕ) (rest values path : List ℕ) (ew : w ≡ S.n) (er : rest ≡ drop w (take (length sig - 4) (drop 4 sig)))
      (ev : values ≡ take (w * (2 * w + 3)) rest) (ep : path ≡ drop (w * (2 * w + 3)) rest) where
    behind_r : rest ≡ drop (4 + S.n) sig
    behind_r = er ∙ ap₂ (λ (j : ℕ) (r : List ℕ). drop j r) ew (behind_four sig) ∙ drop-drop S.n 4 sig

    values_part : values ≡ take (path_start w - (4 + w)) (drop (4 + w) sig)
    unfolding path_start
    values_part =
        let z : 4 + w + w * (2 * w + 3) - (4 + w) ≡ w * (2 * w + 3) = omega arith in
        rw (ev, behind_r, z, ew) refl

    values_here : parts S.n (len S) 0 values ≡ (signature_from S.n h sig).values
    values_here = rw values_part (values_in_lem w (path_start w) ew refl)

    path_in : parts S.n h 0 path ≡ (signature_from S.n h sig).auth
    unfolding signature_from path_start parts
    path_in = rw (ep, behind_r, ew, drop-drop) (tab_ext h _ _ (λ c q. rw (zero-add, drop-drop) refl))

    pub recomputes : (i : ℕ) (a : Address) (seed root r digest x : List ℕ) → seed ≡ take S.n (drop (4 + S.n) key) → root ≡ take S.n (drop 4 key)
        → r ≡ take S.n (drop 4 sig) → i ≡ number sig 0 4 → a ≡ single_tree → digest ≡ message_digest S r root i m
        → x ≡ root_from_sig S seed a h i (parts S.n (len S) 0 values) (parts S.n h 0 path) digest → x ≡ root_by S S.n h key m sig
    unfolding key_from signature_from
    recomputes i a seed root r digest x es eo et ei ea ed ex = rw (ex, values_here, path_in, ed, es, eo, et, ei, ea)
