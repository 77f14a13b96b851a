-- The first 32 bytes, then the others.
use Rattle.std.proofs.Common.{◌≡◌, ℕ, List, length, replicate, append-nil, take_at, drop_at, rules}
use Rattle.sha256.proofs.joined.Goals as goal

pub returns : goal.returns
returns c =
    let a : List ℕ = c.args.a in
    let z : List ℕ = replicate 32 0 in
    let n : length a ≡ 32 = search rules in
    rw (c.copy_from_slice.ensures.after, c.copy_from_slice-2.ensures.after, take_at a z 32 n, drop_at a z 32 n, append-nil)
