use Rattle.clover_walk.proofs.laws.start_law.Goals as goal
use Rattle.clover_walk.proofs.Alone as Alone

pub returns : goal.returns
returns c = Alone.start_law
