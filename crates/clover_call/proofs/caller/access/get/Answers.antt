use Rattle.std.proofs.Common.{refl, ap}
use Rattle.clover_get.specs.Getting.{get_step}
use Rattle.clover_get.specs.Going.{key_of}
use Rattle.clover_call.specs.Caller.{flags_at}
use Rattle.clover_call.specs.declared.answer.Answer.TheVariants.{Found, Absent}
use Rattle.clover_call.proofs.GetStep.{get_more, get_behind, get_done, get_went}
use Rattle.clover_call.proofs.caller.access.get.Goals as goal

pub returns-in-More-clause-made : goal.returns-in-More-clause-made
returns-in-More-clause-made g c =
    let p = c.args.port.now in let q = c.step.new.port in let x = c.args.call.now in let into = c.args.into.now in let P = g.P.Port in let m = c.in-More.ensures.made in
    let made = g.met.P.Port.made_tells p q (get_step x (key_of x (P.view p)) into) x.walk.first m.0 m.1 in
    (m.0, m.1, (c.step.new.self, m.2, m.3, refl, tt), get_more (P.pool p) x into (P.view p) (P.told p) m.0 (P.view q) (P.told q) c.requires.pool c.requires.holds made c.step.new.into c.step.new.self m.2 m.3 c.in-More.ensures.went.stands)

pub returns-in-Behind-clause-made : goal.returns-in-Behind-clause-made
returns-in-Behind-clause-made g c =
    let p = c.args.port.now in let q = c.step.new.port in let x = c.args.call.now in let into = c.args.into.now in let P = g.P.Port in let m = c.in-Behind.ensures.made in
    let made = g.met.P.Port.made_tells p q (get_step x (key_of x (P.view p)) into) x.walk.first m.0 m.1 in
    let w = c.in-Behind.ensures.went in
    (m.0, m.1, (c.step.new.self, m.2, m.3, refl, c.in-Behind.ensures.went.ends), get_behind (P.pool p) x into (P.view p) (P.told p) m.0 (P.view q) (P.told q) c.requires.pool c.requires.holds made c.step.new.into c.step.new.self c.in-Behind.turns m.2 m.3 w.ends w.behind.1)

pub returns-in-Found-clause-made : goal.returns-in-Found-clause-made
returns-in-Found-clause-made g c =
    let p = c.args.port.now in let q = c.step.new.port in let x = c.args.call.now in let into = c.args.into.now in let P = g.P.Port in let m = c.in-Found.ensures.made in
    let made = g.met.P.Port.made_tells p q (get_step x (key_of x (P.view p)) into) x.walk.first m.0 m.1 in
    (m.0, m.1, (c.step.new.self, m.2, m.3, refl, c.in-Found.ensures.went.ends), get_done (P.pool p) x into (P.view p) (P.told p) m.0 (P.view q) (P.told q) c.requires.pool c.requires.holds made c.step.new.into _ _ c.in-Found.ensures.went.found.0)

pub returns-in-Absent-clause-made : goal.returns-in-Absent-clause-made
returns-in-Absent-clause-made g c =
    let p = c.args.port.now in let q = c.step.new.port in let x = c.args.call.now in let into = c.args.into.now in let P = g.P.Port in let m = c.in-Absent.ensures.made in
    let made = g.met.P.Port.made_tells p q (get_step x (key_of x (P.view p)) into) x.walk.first m.0 m.1 in
    (m.0, m.1, (c.step.new.self, m.2, m.3, refl, c.in-Absent.ensures.went.ends), get_done (P.pool p) x into (P.view p) (P.told p) m.0 (P.view q) (P.told q) c.requires.pool c.requires.holds made c.step.new.into _ _ c.in-Absent.ensures.went.absent.0)

pub returns-in-Found-clause-went : goal.returns-in-Found-clause-went
returns-in-Found-clause-went g c =
    let p = c.args.port.now in let q = c.step.new.port in let x = c.args.call.now in let into = c.args.into.now in let P = g.P.Port in let m = c.in-Found.ensures.made in let w = c.in-Found.ensures.went in
    let made = g.met.P.Port.made_tells p q (get_step x (key_of x (P.view p)) into) x.walk.first m.0 m.1 in
    get_went (P.pool p) x into (P.view p) (P.told p) m.0 (P.view q) (P.told q) c.requires.pool c.requires.holds made c.step.new.into (Found c.in-Found.tag c.in-Found.flags) c.in-Found.tag c.step.new.self c.args.cursors.now c.set.new.self c.slot.result m.2 w.found.0 w.found.2 refl tt (ap flags_at w.at.0) w.known c.slot.ensures c.set.ensures.value w.ahead w.bound

pub returns-in-Absent-clause-went : goal.returns-in-Absent-clause-went
returns-in-Absent-clause-went g c =
    let p = c.args.port.now in let q = c.step.new.port in let x = c.args.call.now in let into = c.args.into.now in let P = g.P.Port in let m = c.in-Absent.ensures.made in let w = c.in-Absent.ensures.went in
    let made = g.met.P.Port.made_tells p q (get_step x (key_of x (P.view p)) into) x.walk.first m.0 m.1 in
    get_went (P.pool p) x into (P.view p) (P.told p) m.0 (P.view q) (P.told q) c.requires.pool c.requires.holds made c.step.new.into Absent c.in-Absent.tail c.step.new.self c.args.cursors.now c.set-in-Absent.new.self c.slot-in-Absent.result m.2 w.absent.0 w.absent.2 tt tt tt w.known c.slot-in-Absent.ensures c.set-in-Absent.ensures.value w.ahead w.bound
