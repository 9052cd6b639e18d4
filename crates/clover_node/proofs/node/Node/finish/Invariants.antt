use Prim.Native.Nat.{suc}
use Rattle.std.proofs.Common.{◌≡◌, ◌-◌}
use Rattle.clover_node.specs.Trying.{most_of, spent}
use Rattle.clover_node.proofs.Finishing.{IsUnderway}
use Rattle.clover_node.proofs.node.Node.finish.Given as goal

abbrev pub ghost-step : goal.ghost-step
ghost-step g a = g.call

abbrev pub invariant-steps : goal.invariant-steps
invariant-steps g l = record {
  under : IsUnderway g.call (g.P.Port.view l.fn.port) l.self (g.P.Port.view l.port) l.into;
  pool : g.P.Port.pool l.port ≡ l.self.caller.pool;
  port : (g.P.Port.pool l.port ≡ g.P.Port.pool l.fn.port) × (g.P.Port.table l.port ≡ g.P.Port.table l.fn.port) × (g.P.Port.lender l.port ≡ g.P.Port.lender l.fn.port);
  faults : g.P.Port.faults l.port ≡ g.P.Port.faults l.fn.port;
}

abbrev pub decreases-steps : goal.decreases-steps
decreases-steps g l = suc (most_of l.self.caller.pool) - spent l.self (g.P.Port.view l.port)
