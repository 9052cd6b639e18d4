use Rattle.std.proofs.Common.{◌≡◌, true, rules}
use Rattle.clover_pools.proofs.Granting.{nameless_still}
use Rattle.clover_pools.proofs.grants.name_key.Goals as goal

pub hand_name-requires-clause-nameless : goal.hand_name-requires-clause-nameless
hand_name-requires-clause-nameless c =
    let yes : c.in_ok-bind_key.field-0 ≡ true = search rules in
    let e = c.in_ok-bind_key.ensures in
    nameless_still c.args.pool.now c.bind_key.new.pool c.args.node.now c.requires.dealt.new (e.bound yes).0.new e.setup e.client c.requires.nameless
