use Rattle.std.proofs.Common.{replicate, refl, arith}
use Rattle.onetime.proofs.Ends.{chain_by}
use Rattle.keyed.specs.Seeds.{suite_of}
use Rattle.rfc8391.specs.Wots.{len, wots_pk}
use Rattle.lists.proofs.Filling.{filling_start, filling_front}
use Rattle.lists.proofs.Fronts.{length-fronts, fronts_more}
use Rattle.lists.specs.Fronts.{fronts}
use Rattle.onetime.proofs.Secrets.ends.Goals as goal

pub loop-c-init : goal.loop-c-init
loop-c-init c = filling_start 67 _ (fronts _ (replicate 67 (replicate 32 0))) (length-fronts _ (replicate 67 (replicate 32 0)))

pub loop-c-preserved : goal.loop-c-preserved
loop-c-preserved c =
    fronts_more 67 _ (suite_of c.args.self.seed).n _ _ _
    (chain_by _ _ _ _ _ _ 15 15 _ c.set_chain_address.ensures c.value.ensures refl c.walk.ensures) (omega arith) c.loop-c.invariant

pub returns : goal.returns
unfolding wots_pk
returns c = filling_front 67 _ _ _ (len (suite_of c.args.self.seed)) (omega arith) c.loop-c.invariant
