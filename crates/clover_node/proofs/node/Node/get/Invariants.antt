use Rattle.clover_node.proofs.node.Node.get.Given as goal

abbrev pub ghost-finish : goal.ghost-finish
ghost-finish g a = g.call
