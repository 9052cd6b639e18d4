-- What is to hold of the images that are chosen.
use Rattle.std.specs.Prelude.{ℕ, List}
use Rattle.clover_words.specs.declared.pool.Pool.{Pool}
use Rattle.clover_script.specs.declared.choice.Choice.{Choice}
use Rattle.clover_rule.specs.Cut.{IsCut}
use Rattle.clover_image.specs.Choosing.{chosen}

-- each choice leaves an image of a power cut: of each durable word its current or its flushed copy
abbrev pub ChosenLaw : Type 0
ChosenLaw = (p : Pool) (choice : Choice) (ws : List ℕ) → IsCut p ws (chosen p choice ws)
