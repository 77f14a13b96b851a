-- The signature by the pending index, or a refusal.
use Rattle.std.proofs.Common.{sym, arith}
use Rattle.outcomes.proofs.Outcomes.{numbered}
use Rattle.operations.proofs.Signs.{allowed, sign_refused, sign_done}
use Rattle.operations.proofs.sign.Goals as goal

pub write_signature-requires : goal.write_signature-requires
write_signature-requires c =
    let a = allowed _ _ _ _ _ (sym c.in-Ok.ensures.outcome) in
    (a.secret_length, omega (arith, c.in-Ok.ensures.index), a.room)

pub returns-in-Ok : goal.returns-in-Ok
returns-in-Ok c =
    sign_done _ _ _ _ _ _ (sym c.in-Ok.ensures.outcome) (rw c.in-Ok.ensures.index at c.write_signature.ensures)

pub returns-in-Err : goal.returns-in-Err
returns-in-Err c = rw c.number.ensures (sign_refused _ _ _ _ _ _ c.in-Err.ensures.outcome (numbered c.in-Err.refusal))
