use Rattle.clover_server.proofs.Granting.{agrees_first}
use Rattle.clover_server.proofs.laws.first_law.Goals as goal

pub returns : goal.returns
returns c = agrees_first
