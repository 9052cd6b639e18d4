use Rattle.clover_map.proofs.Tags.{fresh_added, same_inserted}
use Rattle.clover_map.proofs.history.learn.Goals as goal

pub returns-clause-fresh : goal.returns-clause-fresh
returns-clause-fresh c =
    fresh_added c.args.known.now c.args.tag c.in_ok-fresh.fresh c.in_ok-fresh.ensures.added

pub returns-clause-known : goal.returns-clause-known
returns-clause-known c =
    same_inserted c.args.known.now c.insert.new.self c.args.tag c.in_ok-fresh.ensures.updates
