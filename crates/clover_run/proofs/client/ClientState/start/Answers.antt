use Rattle.std.proofs.Common.{sym, ◌∙◌, subst}
use Rattle.std.proofs.lemmas.Option.{same_Some}
use Rattle.clover_map.specs.declared.call.Call.{Call}
use Rattle.clover_node.specs.Node.{NodeHolds}
use Rattle.clover_run.proofs.client.ClientState.start.Goals as goal

pub start-requires-clause-holds : goal.start-requires-clause-holds
start-requires-clause-holds c =
    let s = c.requires.starts in
    (s.view, s.into, subst (λ (k : Call). NodeHolds c.args.self.now.node k s.view s.into) (same_Some s.call c.in-Some.call (sym s.is ∙ c.in-Some.is)) s.holds)
