use Rattle.std.proofs.Common.{◌≡◌, ◌++◌, take}
use Rattle.std.specs.Prelude.{flat_map}
use Rattle.clover_script.specs.Choice.{further_cut}
use Rattle.clover_script.proofs.choice.push_cut.Given as goal

abbrev pub invariant-loop-stores : goal.invariant-loop-stores
invariant-loop-stores l = l.out.items ≡ l.initial.out.items ++ flat_map further_cut (take l.stores-index l.more)
