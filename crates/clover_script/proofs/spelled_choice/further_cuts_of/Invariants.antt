use Rattle.std.proofs.Common.{◌≡◌, ◌++◌, ℕ, List, length}
use Rattle.std.specs.Prelude.{flat_map, All}
use Rattle.clover_script.specs.declared.choice.Choice.{Choice}
use Rattle.clover_script.specs.Choice.{IsFurtherCut, further_cut}
use Rattle.clover_script.proofs.spelled_choice.further_cuts_of.Given as goal

abbrev pub invariant-loop-stores : goal.invariant-loop-stores
invariant-loop-stores l = (all : List (ℕ × Choice)) → All IsFurtherCut all → l.text ≡ flat_map further_cut all → (more : List (ℕ × Choice)) × (all ≡ l.cuts ++ more) × All IsFurtherCut more × (l.rest ≡ flat_map further_cut more)

abbrev pub decreases-loop-stores : goal.decreases-loop-stores
decreases-loop-stores l = length l.rest
