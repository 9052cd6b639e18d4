use Rattle.std.proofs.Common.{[], refl}
use Rattle.clover_run.specs.Machine.{Parts, IsAt, first_opening}
use Rattle.clover_run.proofs.FirstRun.{IsMade, new_first, served_first}
use Rattle.clover_run.proofs.Made.{made_at}
use Rattle.clover_run.proofs.machine.Machine.make.Goals as goal
use Rattle.clover_run.proofs.machine.Machine.make.Goals.{After-idle}

abbrev parts : (c : After-idle) → Parts
parts c = record { setup = c.args.setup; pool = c.in_ok-pool.pool; served = c.in_ok-served.served; recycler = c.idle.result; clients = c.in_ok-clients.clients.items }

-- it stands where a run begins
at_first : (c : After-idle) → IsAt (first_opening c.args.setup) (parts c) []
at_first c =
    let e = c.in_ok-pool.ensures in
    let made : IsMade c.args.setup c.in_ok-pool.pool = record { setup = e.setup.0; words = e.words; seats = e.views.0; views = e.views.1; fresh = e.fresh } in
    made_at (first_opening c.args.setup) (parts c) (record {
      setup = refl;
      pool = new_first c.args.setup c.in_ok-pool.pool made c.in_ok-served.served c.in_ok-served.ensures;
      served = c.in_ok-served.ensures.value;
      side = served_first c.args.setup;
      idle = c.idle.ensures;
      count = c.in_ok-clients.ensures.0;
      firsts = c.in_ok-clients.ensures.1;
    }) (c.stands.ensures.running e.fresh.opened)

pub invariant_of-result : goal.invariant_of-result
invariant_of-result c = (first_opening c.args.setup, [], at_first c)

pub returns-clause-at : goal.returns-clause-at
returns-clause-at c = at_first c
