use Rattle.std.proofs.Common.{◌≡◌, List, length}
use Rattle.std.specs.Prelude.{flat_map, All}
use Rattle.clover_words.specs.declared.word.Word.{Word}
use Rattle.clover_script.specs.Choice.{IsNamed, AreNamed, further_name, names_text}
use Rattle.clover_script.proofs.ChoiceLemmas.{NamesRead}
use Rattle.clover_script.proofs.spelled_choice.are_names.Given as goal

abbrev pub invariant-loop-rest : goal.invariant-loop-rest
invariant-loop-rest l = record {
  read : NamesRead l.text l.rest;
  no_other : (words : List Word) → AreNamed words → l.text ≡ names_text words → (more : List Word) × All IsNamed more × (l.rest ≡ flat_map further_name more);
}

abbrev pub decreases-loop-rest : goal.decreases-loop-rest
decreases-loop-rest l = length l.rest
