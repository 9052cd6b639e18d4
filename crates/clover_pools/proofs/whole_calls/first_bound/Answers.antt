use Rattle.std.proofs.Common.{◌∙◌, sym}
use Rattle.clover_pools.proofs.ServerSteps.{first_within}
use Rattle.clover_pools.proofs.whole_calls.first_bound.Goals as goal

pub returns : goal.returns
returns c = first_within c.names_since-names.result.now c.index-names-0.result c.args.server.now.directory.list (sym c.is_empty.ensures ∙ c.if-is_empty.false) c.names_since-names.ensures
