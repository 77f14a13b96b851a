-- A message's blocks, where the message comes in two parts.
use Rattle.std.proofs.Common.{◌≡◌, ℕ, zero, suc, ◌+◌, ◌*◌, ◌/◌, ◌<◌, ◌≤◌, List, [], ◌++◌, length, get_or, take, drop, sym, refl, ap, ◌∙◌, append_assoc, add-zero, mul-zero, mul-suc, arith, length-append, length-drop, take-append-drop, length-take-le, get_or-drop, get_or-take, drop-drop}
use Rattle.std.specs.Simd.{first_chunks}
use Rattle.lists.specs.Lists.{turns}
use Rattle.lists.proofs.Tabs.{tab_ext}
use Rattle.lists.proofs.Turns.{turns_add, turns_ext}
use Rattle.lists.proofs.Numbers.{number-front, number_back}
use Rattle.sha256.specs.Sha256.{padding, padded, block, H₀, compressed, hashed, digest, sha256}
use Rattle.sha256.specs.Midstate.{padded_rest, finished}
use Rattle.sha256.specs.declared.State.{State}

-- a block of the first part
block_front : (m x : List ℕ) (i : ℕ) → 64 * i + 64 ≤ length m → block i (m ++ x) ≡ block i m
unfolding block
block_front m x i h = tab_ext 16 _ _ (λ j q. number-front m x (64 * i + 4 * j) 4 (omega arith))

-- a block of the second part, where the first is k blocks
block_back : (m x : List ℕ) (k i : ℕ) → length m ≡ 64 * k → block (k + i) (m ++ x) ≡ block i x
unfolding block
block_back m x k i h =
    tab_ext 16 _ _ (λ j q.
    let e : 64 * (k + i) + 4 * j ≡ length m + (64 * i + 4 * j) = omega arith in
    rw e (number_back m x (64 * i + 4 * j) 4))

-- a block of a message is the first of its chunk of 64 bytes
get_or-chunks : (w n i : ℕ) (m : List ℕ) → i < n → get_or (first_chunks w n m) i [] ≡ take w (drop (w * i) m)
get_or-chunks w zero i m h = absurd (omega arith)
get_or-chunks w (suc n) zero m h = rw mul-zero
get_or-chunks w (suc n) (suc i) m h =
    let e : w * suc i ≡ w + w * i = rw mul-suc (omega arith) in
    get_or-chunks w n i (drop w m) (omega arith) ∙ rw (drop-drop (w * i) w m, e)

pub in_chunk : (w n i j : ℕ) (m : List ℕ) (cs : List (List ℕ)) (x : List ℕ) → cs ≡ first_chunks w n m → length cs ≡ n → i < length cs → j < w
    → x ≡ get_or cs i [] → get_or x j 0 ≡ get_or m (w * i + j) 0
in_chunk w n i j m cs x e l h q ex =
    rw (ex, e, get_or-chunks w n i m (omega (arith, l, h)), get_or-take w (drop (w * i) m) j 0 q) (get_or-drop (w * i) m j 0)

pub block_of_chunk : (m : List ℕ) (n i : ℕ) → i < n → 64 * n ≤ length m → block 0 (get_or (first_chunks 64 n m) i []) ≡ block i m
block_of_chunk m n i h le =
    let r : List ℕ = drop (64 * i) m in
    let lr : length (take 64 r) ≡ 64 = length-take-le 64 r (rw length-drop (omega arith)) in
    let f : block 0 (take 64 r ++ drop 64 r) ≡ block 0 (take 64 r) = block_front (take 64 r) (drop 64 r) 0 (omega arith) in
    let b : block (i + 0) (take (64 * i) m ++ r) ≡ block 0 r =
    block_back (take (64 * i) m) r i 0 (length-take-le (64 * i) m (omega arith)) in
    rw (get_or-chunks 64 n i m h) (sym (rw take-append-drop at f) ∙ sym (rw (add-zero, take-append-drop) at b))

-- hashing stops within the first part
pub hashed_front : (n : ℕ) (s : State) (m x : List ℕ) → 64 * n ≤ length m → hashed n s (m ++ x) ≡ hashed n s m
unfolding hashed
hashed_front n s m x h = turns_ext n _ _ s (λ i q v. ap (compressed v) (block_front m x i (omega arith)))

-- hashing goes on from the first part's hash value, where that part is k blocks
pub hashed_splits : (k n : ℕ) (s : State) (m x : List ℕ) → length m ≡ 64 * k → hashed (k + n) s (m ++ x) ≡ hashed n (hashed k s m) x
unfolding hashed
hashed_splits k n s m x h =
    sym (turns_add k n (λ i v. compressed v (block i (m ++ x))) s)
    ∙ turns_ext n _ _ _ (λ i q v. ap (compressed v) (block_back m x k i h))
    ∙ ap (turns n (λ i v. compressed v (block i x))) (turns_ext k _ _ s (λ i q v. ap (compressed v) (block_front m x i (omega arith))))

-- the hash of a message whose first part is k blocks, from the first part's hash value
pub sha256_splits : (k : ℕ) (p m : List ℕ) → length p ≡ 64 * k → sha256 (p ++ m) ≡ finished (hashed k H₀ p) k m
unfolding sha256 padded padded_rest finished
sha256_splits k p m h =
    let n : length (p ++ m) ≡ 64 * k + length m = rw length-append (omega arith) in
    let e : (p ++ m) ++ padding (length (p ++ m)) ≡ p ++ padded_rest k m = rw (append_assoc, n) in
    let l : length (p ++ padded_rest k m) / 64 ≡ k + length (padded_rest k m) / 64 = rw length-append (omega arith) in
    rw (e, l) (ap digest (hashed_splits k (length (padded_rest k m) / 64) H₀ p (padded_rest k m) h))

-- the hash of a message of which no block was hashed before
pub sha256_whole : (m : List ℕ) → sha256 m ≡ finished H₀ 0 m
unfolding hashed turns
sha256_whole m = sha256_splits 0 [] m refl
