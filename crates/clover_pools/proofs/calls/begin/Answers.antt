use Rattle.std.proofs.Common.{◌≡◌, true, sym, subst, rules}
use Rattle.clover_map.specs.declared.call.Call.{Call}
use Rattle.clover_node.proofs.Counted.{made_so}
use Rattle.clover_node.specs.declared.answer.NodeRefusal.TheVariants.{Unreached}
use Rattle.clover_node.specs.declared.answer.NodeTurn.TheVariants.{Refused}
use Rattle.clover_pools.specs.Calls.{Acted, Serves}
use Rattle.clover_pools.proofs.calls.begin.Goals as goal

pub call_on-requires : goal.call_on-requires
call_on-requires g c =
    let yes : c.start.result ≡ true = search rules in
    subst (λ (z : Call). Serves c.args.pool.now c.start.new.node z c.args.room.now) (sym c.requires.0) ((c.start.ensures yes).1 c.args.pool.now c.args.room.now c.requires.1.0)

pub returns-then-not-start : goal.returns-then-not-start
returns-then-not-start g c = (Refused Unreached, tt, tt)

pub returns : goal.returns
returns g c =
    let yes : c.start.result ≡ true = search rules in
    let e = c.in_ok-call_on.ensures in (
      e.0,
      e.1,
      made_so e.0 (λ a. record { node = c.start.new.node; begun = (c.start.ensures yes).0; acted = subst (λ (z : Call). Acted e.0 z c.start.new.node c.call_on.new.node c.args.pool.now c.call_on.new.pool c.call_on.new.room) c.requires.0 a }) e.2,
    )
