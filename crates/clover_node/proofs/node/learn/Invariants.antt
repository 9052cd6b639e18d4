use Rattle.std.proofs.Common.{◌≡◌, ◌++◌, take}
use Rattle.clover_dir.specs.Bindings.{pairs_of}
use Rattle.clover_node.proofs.node.learn.Given as goal

abbrev pub invariant-loop-binding : goal.invariant-loop-binding
invariant-loop-binding l = l.known ≡ record l.fn.known { list = l.fn.known.list ++ pairs_of (take l.binding-index l.fn.names) }
