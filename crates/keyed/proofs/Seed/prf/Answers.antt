-- By the hash; in `Sha2` from the seed's hash value.
use Rattle.std.proofs.Common.{◌≡◌, length, rules}
use Rattle.keyed.proofs.Blocks.{keyed_by_one}
use Rattle.keyed.proofs.Suites.{only_sha2, prf_in_sha2}
use Rattle.keyed.proofs.Seed.prf.Goals as goal

pub returns : goal.returns
returns c =
    let s = c.args.self in
    let l : length s.bytes ≡ 32 = search rules in
    prf_in_sha2 _ (only_sha2 _) s.bytes _ _ l c.finish_half.type_inv.1.0.1 (keyed_by_one 3 _ _ _ _ l s.prepared c.finish_half.ensures)
