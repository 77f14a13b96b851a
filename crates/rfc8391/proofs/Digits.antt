-- Laws of digits and their sums, over the number of message digits.
use Rattle.std.proofs.Common.{◌≡◌, ℕ, suc, ◌+◌, ◌-◌, ◌*◌, ◌/◌, ◌%◌, ◌^◌, ◌<◌, ◌≤◌, List, [], ◌∷◌, ◌++◌, length, get_or, take, refl, ap, ◌∙◌, mod-lt, add-one, arith, get_or-take, take-suc}
use Rattle.lists.specs.Bytes.{to_byte}
use Rattle.lists.proofs.Tabs.{length-tab, tab_ext}
use Rattle.lists.proofs.Everywhere.{append_all, tab_all}
use Rattle.rfc8391.specs.Wots.{base_w, checksum, total, digits}

-- k digits are k
pub length-base_w : (x : List ℕ) (k : ℕ) → length (base_w x k) ≡ k
unfolding base_w
length-base_w x k = length-tab k _

-- every digit is at most 15
pub base_w_small : (x : List ℕ) (k i : ℕ) → get_or (base_w x k) i 0 ≤ 15
unfolding base_w
base_w_small x k i =
    tab_all 0 (λ d. d ≤ 15) k _ (omega arith) (λ j. let h : get_or x (j / 2) 0 / 16 ^ (1 - j % 2) % 16 < 16 = mod-lt _ (omega arith) in omega arith) i

pub digit_small : (k : ℕ) (m : List ℕ) (i : ℕ) → get_or (digits k m) i 0 ≤ 15
unfolding digits
digit_small k m i =
    let c : List ℕ = to_byte (checksum (base_w m k) * 2 ^ 4) 2 in
    append_all 0 (λ d. d ≤ 15) (base_w m k) (base_w c 3) (base_w_small m k) (base_w_small c 3) i

-- sums over two lists, one after the other
pub checksum_append : (l r : List ℕ) → checksum (l ++ r) ≡ checksum l + checksum r
unfolding checksum
checksum_append [] r = omega arith
checksum_append (d ∷ l) r = rw (checksum_append l r) (omega arith)

-- one digit more in the checksum
pub checksum_more : (l : List ℕ) (i : ℕ) → i < length l → checksum (take (i + 1) l) ≡ checksum (take i l) + (15 - get_or l i 0)
unfolding checksum
checksum_more l i h = rw (add-one, take-suc l i 0 h) (checksum_append (take i l) (get_or l i 0 ∷ []) ∙ omega arith)

-- what signing walks and what checking walks are 15 a chain
pub sums_meet : (l : List ℕ) → ((i : ℕ) → get_or l i 0 ≤ 15) → total l + checksum l ≡ 15 * length l
unfolding total checksum
sums_meet [] h = refl
sums_meet (d ∷ l) h =
    let ih : total l + checksum l ≡ 15 * length l = sums_meet l (λ i. h (suc i)) in
    omega (arith, h 0)

-- the digits of a value's n bytes are the same where more bytes stand behind them
base_w-front : (n k : ℕ) (m : List ℕ) → k ≤ 2 * n → base_w (take n m) k ≡ base_w m k
unfolding base_w
base_w-front n k m h = tab_ext k _ _ (λ i q. ap (λ (b : ℕ). b / 16 ^ (1 - i % 2) % 16) (get_or-take n m (i / 2) 0 (omega arith)))

pub digits-front : (n : ℕ) (m : List ℕ) → digits (2 * n) (take n m) ≡ digits (2 * n) m
unfolding digits
digits-front n m = rw (base_w-front n (2 * n) m (omega arith))
