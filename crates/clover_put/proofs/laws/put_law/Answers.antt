use Rattle.clover_put.proofs.laws.put_law.Goals as goal
use Rattle.clover_put.proofs.Alone as Alone

pub returns : goal.returns
returns c = Alone.put_law
