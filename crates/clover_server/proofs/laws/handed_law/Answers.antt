use Rattle.clover_server.proofs.Granting.{agrees_handed}
use Rattle.clover_server.proofs.laws.handed_law.Goals as goal

pub returns : goal.returns
returns c = agrees_handed
