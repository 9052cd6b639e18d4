use Rattle.std.proofs.Common.{refl}
use Rattle.clover_pools.proofs.Granting.{bind_begins}
use Rattle.clover_pools.proofs.grants.bind_key.Goals as goal

pub loop-init : goal.loop-init
loop-init c = record {
  binding = bind_begins c.args.pool.now c.make-task.result c.args.directory.now c.args.key c.args.own c.requires.dealt c.requires.directory c.make-task.ensures.made c.requires.key c.requires.own;
  setup = refl;
  client = refl;
}
