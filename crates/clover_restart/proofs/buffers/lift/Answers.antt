use Rattle.clover_restart.proofs.Lifts.{lifted_more}
use Rattle.clover_restart.proofs.buffers.lift.Goals as goal

pub invariant_of-tag : goal.invariant_of-tag
invariant_of-tag c = record { node = c.requires.node; index = c.requires.index; generation = c.requires.generation }

pub returns : goal.returns
returns c = lifted_more c.args.stores.now.items c.push.new.self.items c.push-2.new.self.items (record { node = c.args.buffer.node; index = c.args.buffer.index; generation = c.args.generation })
    (record { node = c.requires.node; index = c.requires.index; generation = c.requires.generation }) c.in_ok-push.ensures.items c.in_ok-push-2.ensures.items
