use Rattle.std.proofs.Common.{◌≡◌, ◌++◌, take}
use Rattle.std.specs.Prelude.{true, flat_map}
use Rattle.clover_script.specs.Text.{entry_line}
use Rattle.clover_event.proofs.text.push_history.Given as goal

abbrev pub invariant-loop-entry : goal.invariant-loop-entry
invariant-loop-entry l = l.out.items ≡ l.fn.out.items ++ flat_map (entry_line 1 true) (take l.entry-index l.history)
