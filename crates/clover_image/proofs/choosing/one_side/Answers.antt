use Rattle.std.proofs.Common.{◌∷◌, ap, suc, arith}
use Rattle.clover_image.specs.Choosing.{taken}
use Rattle.clover_image.proofs.Copies.{one_more}
use Rattle.clover_image.proofs.choosing.one_side.Goals as goal

pub loop-at-preserved : goal.loop-at-preserved
loop-at-preserved g c =
    let ws = g.W.PoolWords.numbers c.args.words.now in
    let each = taken (λ _. c.args.current) c.args.pool.now ws in
    (one_more each each c.loop-at.at c.durable_count-count.result c.copy_of.result c.loop-at.kept.items _ _ c.loop-at-test.true (λ n. ap (λ x. x ∷ each (suc c.loop-at.at) n) c.copy_of.ensures) c.in_ok-push.ensures.items c.loop-at.invariant.0, omega (arith, c.in_ok-push.ensures.len, c.loop-at.invariant.1))
