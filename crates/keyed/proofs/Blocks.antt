-- A keyed function from the hash value after its number and key, and after two more halves.
use Rattle.std.proofs.Common.{◌≡◌, ℕ, ◌*◌, List, [], ◌++◌, length, sym, ap, ◌∙◌, append_assoc, append-nil, arith, length-append}
use Rattle.lists.specs.Bytes.{to_byte}
use Rattle.lists.proofs.Numbers.{length-to_byte}
use Rattle.sha256.specs.Sha256.{H₀, hashed, sha256}
use Rattle.sha256.specs.Midstate.{finished}
use Rattle.sha256.specs.declared.State.{State}
use Rattle.sha256.proofs.Blocks.{hashed_splits, sha256_splits}
use Rattle.keyed.specs.Keyed.{keyed}

-- number and key are one block
first_block : (number : ℕ) (key : List ℕ) → length key ≡ 32 → length (to_byte number 32 ++ key) ≡ 64 * 1
first_block number key h = rw (length-append, length-to_byte) (omega arith)

-- data that stands behind them
pub keyed_by_one : (number : ℕ) (key m : List ℕ) (s : State) (r : List ℕ) → length key ≡ 32 → s ≡ hashed 1 H₀ (to_byte number 32 ++ key)
    → r ≡ finished s 1 m → r ≡ keyed number key m
unfolding keyed
keyed_by_one number key m s r h es er =
    er ∙ ap (λ (v : State). finished v 1 m) es ∙ sym (sha256_splits 1 (to_byte number 32 ++ key) m (first_block number key h))
    ∙ ap sha256 (append_assoc (to_byte number 32) key m)

-- two more halves are a second block
second_block : (number : ℕ) (key a b m : List ℕ) (s t : State) (r : List ℕ) → length key ≡ 32 → length a ≡ 32 → length b ≡ 32
    → s ≡ hashed 1 H₀ (to_byte number 32 ++ key) → t ≡ hashed 1 s (a ++ b) → r ≡ finished t 2 m
    → r ≡ sha256 (((to_byte number 32 ++ key) ++ (a ++ b)) ++ m)
second_block number key a b m s t r lk la lb es et er =
    let p : List ℕ = to_byte number 32 ++ key in
    let lp : length p ≡ 64 * 1 = first_block number key lk in
    let l : length (p ++ (a ++ b)) ≡ 64 * 2 = simp length-append (omega (arith, length-to_byte number 32)) in
    er ∙ rw (et, es) (ap (λ (v : State). finished v 2 m) (sym (hashed_splits 1 1 H₀ p (a ++ b) lp))) ∙ sym (sha256_splits 2 (p ++ (a ++ b)) m l)

-- which are the data
pub keyed_by_data : (number : ℕ) (key a b : List ℕ) (s t : State) (r : List ℕ) → length key ≡ 32 → length a ≡ 32 → length b ≡ 32
    → s ≡ hashed 1 H₀ (to_byte number 32 ++ key) → t ≡ hashed 1 s (a ++ b) → r ≡ finished t 2 [] → r ≡ keyed number key (a ++ b)
unfolding keyed
keyed_by_data number key a b s t r lk la lb es et er =
    second_block number key a b [] s t r lk la lb es et er ∙ ap sha256 (append-nil _ ∙ append_assoc (to_byte number 32) key (a ++ b))

-- or the end of a longer key
pub keyed_by_key : (number : ℕ) (key a b m : List ℕ) (s t : State) (r : List ℕ) → length key ≡ 32 → length a ≡ 32 → length b ≡ 32
    → s ≡ hashed 1 H₀ (to_byte number 32 ++ key) → t ≡ hashed 1 s (a ++ b) → r ≡ finished t 2 m → r ≡ keyed number (key ++ (a ++ b)) m
unfolding keyed
keyed_by_key number key a b m s t r lk la lb es et er =
    second_block number key a b m s t r lk la lb es et er ∙ ap sha256 (simp append_assoc)
