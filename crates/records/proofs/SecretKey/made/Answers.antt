-- The material's values, and the node at the top of their tree.
use Rattle.std.proofs.Common.{◌≡◌, [], get_or, take, drop, refl, ap, ◌∙◌, drop-drop}
use Rattle.std.specs.Simd.{first_chunks}
use Rattle.keyed.specs.Suites.{suite}
use Rattle.keyed.proofs.Suites.{suite_sha2}
use Rattle.records.proofs.Made.{made_is}
use Rattle.records.proofs.SecretKey.made.Goals as goal

pub returns : goal.returns
returns c =
    let m = c.args.material.now in
    let t = c.single.ensures in
    let v : c.as_chunks.result.0.now ≡ first_chunks 32 3 m = rw c.requires at c.as_chunks.ensures.front in
    let secret : get_or c.as_chunks.result.0.now 0 [] ≡ take 32 m = rw v refl in
    let prfkey : get_or c.as_chunks.result.0.now 1 [] ≡ take 32 (drop 32 m) = rw v refl in
    let public : get_or c.as_chunks.result.0.now 2 [] ≡ take 32 (drop 64 m) = rw v (ap (take 32) (drop-drop 32 32 m)) in
    made_is m _ c.single.result (t.0 ∙ secret) (t.1 ∙ public) (ap suite t.2 ∙ suite_sha2) t.3 refl secret prfkey public c.node.type_inv.1.0.1 c.node.ensures
