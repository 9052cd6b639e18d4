use Rattle.std.specs.Prelude.{true}
use Rattle.clover_node.specs.Node.{count_of}
use Rattle.clover_node.proofs.node.Node.step.Given as goal

abbrev pub ghost-call : goal.ghost-call
ghost-call g a = g.call

abbrev pub ghost-count : goal.ghost-count
ghost-count g a = g.call

abbrev pub ghosts-count : goal.ghosts-count
ghosts-count g a = record { step = count_of a.self.now.counting g.call; first = true }
