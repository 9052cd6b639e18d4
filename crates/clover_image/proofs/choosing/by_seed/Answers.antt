use Rattle.std.proofs.Common.{arith}
use Rattle.clover_image.specs.Choosing.{mixed}
use Rattle.clover_image.proofs.Copies.{one_more}
use Rattle.clover_image.proofs.choosing.by_seed.Goals as goal

pub loop-at-preserved : goal.loop-at-preserved
loop-at-preserved g c =
    let ws = g.W.PoolWords.numbers c.args.words.now in
    (one_more (mixed c.loop-at.generator c.args.pool.now ws) (mixed c.draw.new.generator c.args.pool.now ws) c.loop-at.at c.durable_count-count.result c.draw.result c.loop-at.kept.items _ _ c.loop-at-test.true c.draw.ensures c.in_ok-push.ensures.items c.loop-at.invariant.0, omega (arith, c.in_ok-push.ensures.len, c.loop-at.invariant.1))
