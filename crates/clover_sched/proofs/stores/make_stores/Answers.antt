use Rattle.std.proofs.Common.{rules, ◌≡◌, ◌<◌, length, subst, take, arith}
use Rattle.std.specs.Prelude.{ℕ}
use Rattle.clover_sched.specs.Stores.{Stores}
use Rattle.clover_sched.proofs.Storing.{at_first, fewer_made, front_length, none_more, one_more, where_ended}
use Rattle.clover_sched.proofs.stores.make_stores.Goals as goal

pub loop-init : goal.loop-init
loop-init c = at_first c.args.pool.now c.args.restart.now c.requires (c.stands.ensures.down c.requires.down)

pub store_next-requires : goal.store_next-requires
store_next-requires c = c.loop.invariant.left

pub returns-in_err-store_next-clause-refused : goal.returns-in_err-store_next-clause-refused
returns-in_err-store_next-clause-refused c =
    let front = take c.loop.counter c.args.restart.now.rest in
    let made = none_more c.args.pool.now c.loop.pool c.store_next.new.pool c.args.restart.now c.loop.restart front c.loop.invariant in
    let short = front_length c.args.restart.now.rest c.loop.counter in
    let fewer : length front < c.args.count = (let h = c.loop-test.true in omega (arith, short, h)) in
    search rules

pub loop-preserved : goal.loop-preserved
loop-preserved c = one_more c.args.pool.now c.loop.pool c.store_next.new.pool c.args.restart.now c.loop.restart c.store_next.new.restart c.loop.counter c.loop.invariant c.in_ok-store_next.ensures.made

pub returns-after-loop-clause-made : goal.returns-after-loop-clause-made
returns-after-loop-clause-made c =
    let all : c.loop.counter ≡ c.args.count = (let h = c.loop-test.false in let k = c.loop.auto.counter-end in omega (arith, h, k)) in
    subst (λ (n : ℕ). Stores c.args.pool.now c.args.restart.now (take n c.args.restart.now.rest) c.loop.pool c.loop.restart) all c.loop.invariant

pub returns-then-not-branch-clause-made : goal.returns-then-not-branch-clause-made
returns-then-not-branch-clause-made c =
    fewer_made c.args.pool.now c.loop.pool c.store_next.new.pool c.args.restart.now c.loop.restart c.store_next.new.restart c.loop.counter c.loop.invariant c.in_ok-store_next.ensures.made c.args.count c.loop.auto.counter-end
    (where_ended c.in_ok-store_next.field-0 c.if-not-branch.true c.in_ok-store_next.ensures.end)
