use Rattle.std.proofs.Common.{◌≡◌, ℕ, ◌/◌, List, length, ap, ◌∙◌, arith}
use Rattle.sha256.specs.Sha256.{block, compressed, hashed}
use Rattle.lists.proofs.Turns.{turns_more}
use Rattle.sha256.proofs.Blocks.{block_of_chunk}
use Rattle.sha256.proofs.absorb.Goals as goal

pub loop-bytes-preserved : goal.loop-bytes-preserved
unfolding hashed
loop-bytes-preserved c =
    let m : List ℕ = c.args.m.now in
    let i = c.loop-bytes.bytes-index in
    let e : c.words_of.result ≡ block i m =
    c.words_of.ensures ∙ rw c.as_chunks.ensures.front (block_of_chunk m (length m / 64) i (omega arith) (omega arith)) in
    turns_more _ _ _ c.loop-bytes.invariant (c.compress-v.ensures ∙ ap (compressed c.loop-bytes.v) e)
