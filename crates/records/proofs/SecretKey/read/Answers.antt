-- The record's values are the four chunks behind its type.
use Rattle.std.proofs.Common.{◌≡◌, ◌-◌, length, take, drop, refl, arith, length-drop, take_all, drop-drop}
use Rattle.std.specs.Simd.{first_chunks}
use Rattle.records.specs.Records.{record_from}
use Rattle.records.proofs.SecretKey.read.Goals as goal

pub returns : goal.returns
unfolding record_from
returns c =
    let b = c.args.bytes.now in
    let l : length (drop 4 b) ≡ 128 = rw length-drop (omega arith) in
    let r : take (length b - 4) (drop 4 b) ≡ drop 4 b = take_all (length b - 4) (drop 4 b) (omega arith) in
    let v : c.as_chunks.result.0.now ≡ first_chunks 32 4 (drop 4 b) = rw (r, l) at c.as_chunks.ensures.front in
    rw (v, drop-drop, drop-drop, drop-drop, c.big_endian.ensures) refl
