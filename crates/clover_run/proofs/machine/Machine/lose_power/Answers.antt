use Rattle.std.proofs.Common.{sym, subst}
use Rattle.clover_rule.specs.Cut.{IsCut}
use Rattle.clover_run.specs.Kept.{meaning}
use Rattle.clover_run.specs.Machine.{Parts, IsAt}
use Rattle.clover_run.proofs.Lost.{lost_power}
use Rattle.clover_run.proofs.machine.Machine.lose_power.Goals as goal

pub returns-clause-lost : goal.returns-clause-lost
returns-clause-lost c o rs at =
    let m = meaning c.self.inside in
    let here = subst (λ (n : Parts). IsAt o n rs) (sym c.self.view_is) at in
    let cut = c.power_cut.ensures in
    lost_power o rs m here (c.stands.ensures.running here.pool.opened) c.args.kept.now (subst (λ (n : Parts). IsCut n.setup.pool n.pool.words c.args.kept.now) (sym c.self.view_is) c.requires.cut) c.take_entries-entries.new.self c.power_cut.new.self c.take_entries-entries.ensures.same (record {
      down = cut.down;
      words = cut.words;
      restart = cut.restart;
      first = cut.first;
      accesses = cut.accesses;
      setup = cut.same.0;
      traced = cut.same.1;
    }) c.take_entries-entries.result.items c.take_entries-entries.ensures.entries.0
