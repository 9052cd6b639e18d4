use Rattle.clover_server.proofs.Vacant.{vacant}
use Rattle.clover_server.proofs.laws.free_law.Goals as goal

pub returns : goal.returns
returns c = vacant
