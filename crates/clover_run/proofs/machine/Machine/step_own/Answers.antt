use Rattle.clover_run.specs.Kept.{meaning}
use Rattle.clover_run.specs.Machine.{Parts}
use Rattle.clover_run.proofs.Occurring.{OwnSeat, own_seat, own_stands, own_behind, own_ok, own_parts, own_lowers}
use Rattle.clover_run.proofs.machine.Machine.step_own.Goals as goal

pub step-done-requires : goal.step-done-requires
step-done-requires c =
    let m : Parts = meaning c.self.inside in
    let s : OwnSeat m c.args.seat c.args.actor c.index_mut.result.now = own_seat m c.args.self.now c.args.seat c.args.actor c.index_mut.result.now c.self.view_is c.requires.here c.requires.busy c.requires.own c.index_mut.ensures.value in
    record { stands = own_stands m c.args.seat c.args.actor s.seat c.index_mut.result.now s.here s.has s.free c.self.invariant }

pub invariant_of-self : goal.invariant_of-self
invariant_of-self c =
    let m : Parts = meaning c.self.inside in
    let s : OwnSeat m c.args.seat c.args.actor c.index_mut.result.now = own_seat m c.args.self.now c.args.seat c.args.actor c.index_mut.result.now c.self.view_is c.requires.here c.requires.busy c.requires.own c.index_mut.ensures.value in
    own_behind m c.args.seat c.args.actor s.seat c.index_mut.result.now s.here s.has s.free c.step-done.new.self c.step-done.new.pool c.stands.ensures.running c.step-done.result c.step-done.ensures.went c.step-done.ensures.same c.self.invariant

pub returns-clause-happened : goal.returns-clause-happened
returns-clause-happened c =
    let m : Parts = meaning c.self.inside in
    let s : OwnSeat m c.args.seat c.args.actor c.index_mut.result.now = own_seat m c.args.self.now c.args.seat c.args.actor c.index_mut.result.now c.self.view_is c.requires.here c.requires.busy c.requires.own c.index_mut.ensures.value in
    own_ok m c.args.seat c.args.actor s.seat c.index_mut.result.now s.here s.has s.free c.step-done.new.self c.step-done.new.pool c.stands.ensures.running c.args.self.now c.step-done.result c.self.view_is c.step-done.ensures.went

pub returns-clause-parts : goal.returns-clause-parts
returns-clause-parts c =
    let m : Parts = meaning c.self.inside in
    let s : OwnSeat m c.args.seat c.args.actor c.index_mut.result.now = own_seat m c.args.self.now c.args.seat c.args.actor c.index_mut.result.now c.self.view_is c.requires.here c.requires.busy c.requires.own c.index_mut.ensures.value in
    own_parts m c.args.seat c.args.actor s.seat c.index_mut.result.now s.here s.has s.free c.step-done.new.self c.step-done.new.pool c.stands.ensures.running c.args.self.now c.step-done.result c.self.view_is c.step-done.ensures.went c.self.invariant

pub returns-clause-less : goal.returns-clause-less
returns-clause-less c =
    let m : Parts = meaning c.self.inside in
    let s : OwnSeat m c.args.seat c.args.actor c.index_mut.result.now = own_seat m c.args.self.now c.args.seat c.args.actor c.index_mut.result.now c.self.view_is c.requires.here c.requires.busy c.requires.own c.index_mut.ensures.value in
    own_lowers m c.args.seat c.args.actor s.seat c.index_mut.result.now s.here s.has s.free c.step-done.new.self c.step-done.new.pool c.stands.ensures.running c.args.self.now c.step-done.result c.self.view_is c.step-done.ensures.went c.self.invariant
