use Rattle.std.proofs.Common.{◌≡◌, true, sym, subst, rules}
use Rattle.clover_map.specs.declared.call.Call.{Call}
use Rattle.clover_pools.specs.Calls.{IsCommitted}
use Rattle.clover_pools.proofs.calls.put.Goals as goal

pub finish-requires : goal.finish-requires
finish-requires g c =
    let yes : c.in_ok-put_up_to_commit.field-0 ≡ true = search rules in
    subst (λ (z : Call). IsCommitted c.put_up_to_commit.new.pool c.put_up_to_commit.new.node z c.put_up_to_commit.new.room) (sym c.requires.0) (c.in_ok-put_up_to_commit.ensures yes).0
