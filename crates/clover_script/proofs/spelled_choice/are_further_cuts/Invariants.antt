use Rattle.std.proofs.Common.{◌≡◌, ℕ, List, length}
use Rattle.std.specs.Prelude.{flat_map, All}
use Rattle.clover_script.specs.declared.choice.Choice.{Choice}
use Rattle.clover_script.specs.Choice.{IsFurtherCut, further_cut}
use Rattle.clover_script.proofs.ChoiceLemmas.{CutsRead}
use Rattle.clover_script.proofs.spelled_choice.are_further_cuts.Given as goal

abbrev pub invariant-loop-rest : goal.invariant-loop-rest
invariant-loop-rest l = record {
  read : CutsRead l.text l.rest;
  no_other : (all : List (ℕ × Choice)) → All IsFurtherCut all → l.text ≡ flat_map further_cut all → (more : List (ℕ × Choice)) × All IsFurtherCut more × (l.rest ≡ flat_map further_cut more);
}

abbrev pub decreases-loop-rest : goal.decreases-loop-rest
decreases-loop-rest l = length l.rest
