use Rattle.std.proofs.Common.{rules, ◌++◌, [], take}
use Rattle.clover_sched.proofs.Storing.{all_made, at_first, fewer_left, more_made, none_left, none_more, where_ended, where_stored}
use Rattle.clover_sched.proofs.stores.make_all_stores.Goals as goal

pub loop-init : goal.loop-init
loop-init c = ([], at_first c.args.pool.now c.args.restart.now c.requires (c.stands.ensures.down c.requires.down))

pub store_next-requires : goal.store_next-requires
store_next-requires c = c.loop.invariant.1.left

pub returns-in_err-store_next-clause-refused : goal.returns-in_err-store_next-clause-refused
returns-in_err-store_next-clause-refused c =
    let made = none_more c.args.pool.now c.loop.pool c.store_next.new.pool c.args.restart.now c.loop.restart c.loop.invariant.0 c.loop.invariant.1 in
    search rules

pub loop-preserved : goal.loop-preserved
loop-preserved c =
    (c.loop.invariant.0 ++ take 1 c.loop.restart.rest, more_made c.args.pool.now c.loop.pool c.store_next.new.pool c.args.restart.now c.loop.restart c.store_next.new.restart c.loop.invariant.0 (take 1 c.loop.restart.rest) c.loop.invariant.1 c.in_ok-store_next.ensures.made)

pub loop-smaller : goal.loop-smaller
loop-smaller c = fewer_left c.loop.restart.rest c.store_next.new.restart.rest (where_stored c.in_ok-store_next.field-0 c.if-branch.true c.in_ok-store_next.ensures.stored) c.in_ok-store_next.ensures.made.front

pub returns-clause-end : goal.returns-clause-end
returns-clause-end c = none_left c.loop.restart.rest c.store_next.new.restart.rest (where_ended c.in_ok-store_next.field-0 c.if-branch.false c.in_ok-store_next.ensures.end) c.in_ok-store_next.ensures.made.front

pub returns-clause-made : goal.returns-clause-made
returns-clause-made c =
    let none = none_left c.loop.restart.rest c.store_next.new.restart.rest (where_ended c.in_ok-store_next.field-0 c.if-branch.false c.in_ok-store_next.ensures.end) c.in_ok-store_next.ensures.made.front in
    all_made c.args.pool.now c.store_next.new.pool c.args.restart.now c.store_next.new.restart (c.loop.invariant.0 ++ take 1 c.loop.restart.rest)
    (more_made c.args.pool.now c.loop.pool c.store_next.new.pool c.args.restart.now c.loop.restart c.store_next.new.restart c.loop.invariant.0 (take 1 c.loop.restart.rest) c.loop.invariant.1 c.in_ok-store_next.ensures.made) none
