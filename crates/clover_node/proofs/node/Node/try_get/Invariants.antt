use Rattle.clover_map.specs.declared.call.Call.TheVariants.{Get}
use Rattle.clover_node.proofs.node.Node.try_get.Given as goal

abbrev pub ghost-get : goal.ghost-get
ghost-get g a = Get a.key.now
