-- Four rounds, one after the other.
use Rattle.std.proofs.Common.{◌≡◌, ℕ, get_or}
use Rattle.sha256.specs.Sha256.{round}
use Rattle.sha256.specs.declared.State.{State}
use Rattle.lists.proofs.Turns.{turns_start, turns_more}
use Rattle.lists.specs.Lists.{turns}
use Rattle.sha256.proofs.four_rounds.Goals as goal

pub returns : goal.returns
returns c =
    let a = c.args in
    let f : ℕ → State → State = λ i x. round x (get_or a.k.now i 0) (get_or a.w.now i 0) in
    let e1 : c.one_round-v1.result ≡ turns 1 f a.v = turns_more 0 f a.v (turns_start f a.v) c.one_round-v1.ensures in
    let e2 : c.one_round-v2.result ≡ turns 2 f a.v = turns_more 1 f a.v e1 c.one_round-v2.ensures in
    let e3 : c.one_round-v3.result ≡ turns 3 f a.v = turns_more 2 f a.v e2 c.one_round-v3.ensures in
    turns_more 3 f a.v e3 c.one_round.ensures
