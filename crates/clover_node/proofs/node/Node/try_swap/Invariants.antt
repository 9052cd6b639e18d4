use Rattle.clover_put.specs.Putting.{call_of}
use Rattle.clover_node.proofs.node.Node.try_swap.Given as goal

abbrev pub ghost-write : goal.ghost-write
ghost-write g a = call_of a.job a.key.now (record { flags = a.flags; bytes = a.bytes.now })
