use Rattle.std.specs.Prelude.{false}
use Rattle.clover_recycle.specs.Recycling.{recycle_step}
use Rattle.clover_recycle.proofs.Going.{reached, recycle_finds, recycle_went, recycle_gives}
use Rattle.clover_recycle.proofs.task.RecycleTask.step.Goals as goal

pub on-requires : goal.on-requires
on-requires g c =
    let p = c.args.port.now in let q = c.access.new.port in let n = c.args.self.now in let P = g.P.Port in let e = c.in-Ok.ensures.ends in
    let made = g.met.P.Port.made_tells p q (recycle_step n) false e.0 e.1 in
    record { found = recycle_finds (P.pool p) n (P.view p) (P.told p) e.0 (P.view q) (P.told q) c.in-Ok.found c.requires.holds made e.2 }

pub returns-in-Ok-clause-made : goal.returns-in-Ok-clause-made
returns-in-Ok-clause-made g c =
    let p = c.args.port.now in let q = c.access.new.port in let n = c.args.self.now in let P = g.P.Port in let e = c.in-Ok.ensures.ends in
    let made = g.met.P.Port.made_tells p q (recycle_step n) false e.0 e.1 in
    let went = recycle_went (P.pool p) n (P.view p) (P.told p) e.0 (P.view q) (P.told q) c.in-Ok.found c.requires.holds made e.2 c.on.new.self c.on.result c.on.ensures.value c.on.ensures.answer in
    reached c.on.result (e.0, e.1, went)

pub returns-in-Ok-clause-recycled : goal.returns-in-Ok-clause-recycled
returns-in-Ok-clause-recycled g c =
    let p = c.args.port.now in let q = c.access.new.port in let n = c.args.self.now in let P = g.P.Port in let e = c.in-Ok.ensures.ends in
    let made = g.met.P.Port.made_tells p q (recycle_step n) false e.0 e.1 in
    recycle_gives (P.pool p) n (P.view p) (P.told p) e.0 (P.view q) (P.told q) c.in-Ok.found c.requires.holds made c.on.result c.on.ensures.answer
