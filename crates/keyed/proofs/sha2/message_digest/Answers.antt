-- Function 2, whose key is r, the root and the index.
use Rattle.std.proofs.Common.{rules}
use Rattle.keyed.proofs.Blocks.{keyed_by_key}
use Rattle.keyed.proofs.sha2.message_digest.Goals as goal

pub returns : goal.returns
returns c =
    let a = c.args in
    let t = c.to_bytes in
    rw (← t.ensures) (keyed_by_key 2 a.r a.root t.result a.message.now _ _ _ (search rules) (search rules) (search rules)
    c.keyed_by.ensures c.after-mid.ensures c.finish.ensures)
