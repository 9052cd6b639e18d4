use Rattle.std.proofs.Common.{◌≡◌, ◌++◌, List, length}
use Rattle.std.specs.Prelude.{flat_map, All}
use Rattle.clover_words.specs.declared.word.Word.{Word}
use Rattle.clover_script.specs.Choice.{IsNamed, AreNamed, further_name, names_text}
use Rattle.clover_script.proofs.spelled_choice.words_of.Given as goal

abbrev pub invariant-loop-word : goal.invariant-loop-word
invariant-loop-word l = (words : List Word) → AreNamed words → l.text ≡ names_text words → (more : List Word) × (words ≡ l.words ++ more) × All IsNamed more × (l.rest ≡ flat_map further_name more)

abbrev pub decreases-loop-word : goal.decreases-loop-word
decreases-loop-word l = length l.rest
