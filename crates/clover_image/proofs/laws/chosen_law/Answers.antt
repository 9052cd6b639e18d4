use Rattle.clover_image.proofs.Copies.{chosen_is}
use Rattle.clover_image.proofs.laws.chosen_law.Goals as goal

pub returns : goal.returns
returns c = chosen_is
