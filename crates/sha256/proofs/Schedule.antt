-- The message schedule, one word after the other.
use Rattle.std.proofs.Common.{◌≡◌, ℕ, suc, ◌+◌, ◌-◌, ◌<◌, ◌≤◌, List, length, take, set, sym, ◌∙◌, add-one, arith, get_or-take, take-suc-set}
use Rattle.lists.specs.Lists.{turns}
use Rattle.sha256.specs.Sha256.{word, schedule}

-- a word looks back at the words before it only
word_take : (w : List ℕ) (t : ℕ) → 16 ≤ t → word (take t w) t ≡ word w t
unfolding word
word_take w t h =
    rw (get_or-take t w (t - 2) 0 (omega arith), get_or-take t w (t - 7) 0 (omega arith), get_or-take t w (t - 15) 0 (omega arith), get_or-take t w (t - 16) 0 (omega arith))

-- word t stored at its place, behind the words before it
pub schedule_more : (w m : List ℕ) (t v : ℕ) → 16 ≤ t → t < length w → take t w ≡ schedule (t - 16) m → v ≡ word w t
    → take (t + 1) (set w t v) ≡ schedule (t + 1 - 16) m
unfolding schedule turns
schedule_more w m t v lo hi e ev =
    let n : t + 1 - 16 ≡ suc (t - 16) = omega arith in
    let k : 16 + (t - 16) ≡ t = omega arith in
    let x : v ≡ word (take t w) t = ev ∙ sym (word_take w t lo) in
    rw (n, add-one, take-suc-set w t v hi, k, x, e)
