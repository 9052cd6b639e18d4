use Rattle.clover_run.specs.Kept.{meaning}
use Rattle.clover_run.specs.Machine.{Parts}
use Rattle.clover_run.proofs.Occurring.{ServedSeat, served_seat, served_may, served_behind, served_ok, served_parts, served_same, served_lowers}
use Rattle.clover_run.proofs.machine.Machine.step_served.Goals as goal

pub step-done-requires : goal.step-done-requires
step-done-requires c =
    let m : Parts = meaning c.self.inside in
    let s : ServedSeat m c.args.seat c.args.actor c.index_mut.result.now = served_seat m c.args.self.now c.args.seat c.args.actor c.index_mut.result.now c.self.view_is c.requires.here c.requires.there c.requires.wants c.index_mut.ensures.value in
    record { may = served_may m c.args.seat c.args.actor s.seat c.index_mut.result.now s.here s.some c.stands.ensures.running c.self.invariant }

pub invariant_of-self : goal.invariant_of-self
invariant_of-self c =
    let m : Parts = meaning c.self.inside in
    let s : ServedSeat m c.args.seat c.args.actor c.index_mut.result.now = served_seat m c.args.self.now c.args.seat c.args.actor c.index_mut.result.now c.self.view_is c.requires.here c.requires.there c.requires.wants c.index_mut.ensures.value in
    served_behind m c.args.seat c.args.actor s.seat c.index_mut.result.now s.here s.some c.stands.ensures.running c.step-done.new.client c.step-done.new.self c.step-done.new.pool c.stands-2.ensures.running c.step-done.result c.step-done.ensures.served c.step-done.ensures.same c.self.invariant

pub returns-clause-happened : goal.returns-clause-happened
returns-clause-happened c =
    let m : Parts = meaning c.self.inside in
    let s : ServedSeat m c.args.seat c.args.actor c.index_mut.result.now = served_seat m c.args.self.now c.args.seat c.args.actor c.index_mut.result.now c.self.view_is c.requires.here c.requires.there c.requires.wants c.index_mut.ensures.value in
    served_ok m c.args.seat c.args.actor s.seat c.index_mut.result.now s.here s.some c.stands.ensures.running c.step-done.new.client c.step-done.new.self c.step-done.new.pool c.stands-2.ensures.running c.args.self.now c.step-done.result c.self.view_is c.step-done.ensures.served

pub returns-clause-parts : goal.returns-clause-parts
returns-clause-parts c =
    let m : Parts = meaning c.self.inside in
    let s : ServedSeat m c.args.seat c.args.actor c.index_mut.result.now = served_seat m c.args.self.now c.args.seat c.args.actor c.index_mut.result.now c.self.view_is c.requires.here c.requires.there c.requires.wants c.index_mut.ensures.value in
    served_parts m c.args.seat c.args.actor s.seat c.index_mut.result.now s.here s.some c.stands.ensures.running c.step-done.new.client c.step-done.new.self c.step-done.new.pool c.stands-2.ensures.running c.args.self.now c.step-done.result c.self.view_is c.step-done.ensures.served c.self.invariant

pub returns-clause-less : goal.returns-clause-less
returns-clause-less c =
    let m : Parts = meaning c.self.inside in
    let s : ServedSeat m c.args.seat c.args.actor c.index_mut.result.now = served_seat m c.args.self.now c.args.seat c.args.actor c.index_mut.result.now c.self.view_is c.requires.here c.requires.there c.requires.wants c.index_mut.ensures.value in
    served_lowers m c.args.seat c.args.actor s.seat c.index_mut.result.now s.here s.some c.stands.ensures.running c.step-done.new.client c.step-done.new.self c.step-done.new.pool c.stands-2.ensures.running c.args.self.now c.step-done.result c.self.view_is c.step-done.ensures.served c.self.invariant

pub returns-clause-same : goal.returns-clause-same
returns-clause-same c =
    let m : Parts = meaning c.self.inside in
    let s : ServedSeat m c.args.seat c.args.actor c.index_mut.result.now = served_seat m c.args.self.now c.args.seat c.args.actor c.index_mut.result.now c.self.view_is c.requires.here c.requires.there c.requires.wants c.index_mut.ensures.value in
    served_same m c.args.seat c.args.actor s.seat c.index_mut.result.now s.here s.some c.stands.ensures.running c.step-done.new.client c.step-done.new.self c.step-done.new.pool c.stands-2.ensures.running c.args.self.now c.step-done.result c.self.view_is c.step-done.ensures.same
