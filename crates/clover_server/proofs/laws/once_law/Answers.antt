use Rattle.clover_server.proofs.Once.{tags_apart}
use Rattle.clover_server.proofs.laws.once_law.Goals as goal

pub returns : goal.returns
returns c = tags_apart
