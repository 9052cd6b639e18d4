use Rattle.clover_get.proofs.laws.get_law.Goals as goal
use Rattle.clover_get.proofs.Alone as Alone

pub returns : goal.returns
returns c = Alone.get_law
