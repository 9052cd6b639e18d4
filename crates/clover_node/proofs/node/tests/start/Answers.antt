use Rattle.clover_node.proofs.node.tests.start.Goals as goal

pub start-requires-clause-holds : goal.start-requires-clause-holds
start-requires-clause-holds c = let h = c.in_ok-node.ensures.3 c.args.call.now c.new-room.result in (h.0, c.new-room.result, h.1)
