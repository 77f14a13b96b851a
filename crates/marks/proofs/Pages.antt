-- The well-formed pages: one for each number of used marks.
use Rattle.std.proofs.Common.{◌≡◌, ℕ, suc, ◌+◌, ◌-◌, ◌*◌, ◌/◌, ◌%◌, ◌^◌, ◌<◌, ◌≤◌, min, List, length, get_or, set, replicate, sym, refl, ap, ◌∙◌, subst, div-le_self, arith, length-set, get_or-set_other, get_or-set_same, ext_get_or}
use Rattle.std.proofs.Math.Decide.{ℕ_discrete}
use Rattle.lists.specs.Lists.{tab}
use Rattle.lists.specs.Bytes.{Bytes}
use Rattle.lists.proofs.Tabs.{length-tab, get_or-tab}
use Rattle.lists.proofs.Everywhere.{tab_all}
use Rattle.marks.specs.Page.{bit_used, mark_used, used, used_below, WellFormed, cleared, with_mark}
use Rattle.marks.proofs.Ordered.{FirstUsed, byte_of, page_of}
use Rattle.marks.proofs.Tests.{ltb_same}
use Rattle.marks.proofs.Marks.{marks_are, first_used}
use Rattle.marks.proofs.Bytes.{bits_are, byte_is, next_byte}

-- a mark is a bit of its byte
pub mark_at : (page : List ℕ) (i k : ℕ) → k < 8 → mark_used page (8 * i + k) ≡ bit_used (get_or page i 0) k
unfolding mark_used
mark_at page i k h =
    let d : (8 * i + k) / 8 ≡ i = omega arith in
    let m : (8 * i + k) % 8 ≡ k = omega arith in
    rw (d, m)

pub page_length : (u : ℕ) → length (page_of u) ≡ 128
unfolding page_of
page_length u = length-tab 128 (byte_of u)

pub page_at : (u j : ℕ) → j < 128 → get_or (page_of u) j 0 ≡ byte_of u j
unfolding page_of
page_at u j h = get_or-tab 128 (byte_of u) 0 j h

pub page_bytes : (u : ℕ) → Bytes (page_of u)
unfolding Bytes page_of byte_of
page_bytes u = tab_all 0 (λ b. b < 256) 128 (byte_of u) (omega arith) (λ j. omega (arith, div-le_self 255 (2 ^ min 8 (u - 8 * j))))

-- the fresh page
pub fresh : replicate 128 255 ≡ page_of 0
unfolding page_of tab byte_of
fresh = refl

-- exactly its first u marks are used
pub page_marks : (u : ℕ) → FirstUsed (page_of u) u 1024
unfolding mark_used byte_of
page_marks u i h =
    let l : i / 8 < 128 = omega arith in
    rw (page_at u (i / 8) l, bits_are (min 8 (u - 8 * (i / 8))) (i % 8) (omega arith) (omega arith))
    (ltb_same (i % 8) (min 8 (u - 8 * (i / 8))) i u (λ p. omega arith) (λ p. omega arith))

-- it is well formed, and has u used marks
pub page_counted : (u : ℕ) → u ≤ 1024 → WellFormed (page_of u) × (used (page_of u) ≡ u)
unfolding used
page_counted u h =
    let f = first_used (page_of u) u 1024 (page_marks u) in
    let e : used_below (page_of u) 1024 ≡ u = omega (arith, f.0) in
    ((page_length u, f.1), e)

-- there is no other: a well-formed page of bytes is determined by its count
pub page_is : (page : List ℕ) → Bytes page → WellFormed page → page ≡ page_of (used page)
unfolding Bytes used byte_of
page_is page b w =
    ext_get_or 0 page (page_of (used page)) (w.0 ∙ sym (page_length (used page)))
    (λ j h. go j (subst (λ (n : ℕ). j < n) w.0 h))
  where
    go : (j : ℕ) → j < 128 → get_or page j 0 ≡ get_or (page_of (used page)) j 0
    go j h =
        let u = used page in
        byte_is (get_or page j 0) (min 8 (u - 8 * j)) (b j) (omega arith)
        (λ k l. sym (mark_at page j k l) ∙ marks_are page 1024 w.1 (8 * j + k) (omega arith) ∙ ltb_same (8 * j + k) u k (min 8 (u - 8 * j)) (λ p. omega arith) (λ p. omega arith))
        ∙ sym (page_at u j h)

-- with its first unused mark used, it is the page of one more
pub page_next : (u : ℕ) → u < 1024 → with_mark (page_of u) u ≡ page_of (suc u)
unfolding with_mark byte_of
page_next u h =
    let l : u / 8 < 128 = omega arith in
    rw (page_at u (u / 8) l)
    (ext_get_or 0 _ _ (length-set (page_of u) _ _ ∙ page_length u ∙ sym (page_length (suc u)))
    (λ j q. go j (subst (λ (n : ℕ). j < n) (length-set (page_of u) _ _ ∙ page_length u) q) (ℕ_discrete j (u / 8))))
  where
    go : (j : ℕ) → j < 128 → Dec (j ≡ u / 8) → get_or (set (page_of u) (u / 8) (cleared (byte_of u (u / 8)) (u % 8))) j 0 ≡ get_or (page_of (suc u)) j 0
    go j l (yes e) =
        let k : u / 8 < 128 = omega arith in
        let m : min 8 (u - 8 * (u / 8)) ≡ u % 8 = omega arith in
        let m' : min 8 (suc u - 8 * (u / 8)) ≡ u % 8 + 1 = omega arith in
        rw (e, get_or-set_same (page_of u) (u / 8) _ 0 (omega (arith, page_length u)), page_at (suc u) (u / 8) k, m, m') (next_byte (u % 8) (omega arith))
    go j l (no e) =
        get_or-set_other (page_of u) (u / 8) j _ 0 e ∙ page_at u j l ∙ ap (λ (m : ℕ). 255 / 2 ^ m) (omega arith) ∙ sym (page_at (suc u) j l)
