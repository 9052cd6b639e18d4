use Rattle.clover_get.specs.Getting.{get_step}
use Rattle.clover_get.specs.Going.{key_of}
use Rattle.clover_get.proofs.Walks.{finds_from, get_went}
use Rattle.clover_get.proofs.call.GetCall.step.Goals as goal

pub on-requires-clause-found : goal.on-requires-clause-found
on-requires-clause-found g c =
    let p = c.args.port.now in let q = c.access.new.port in let z = c.args.self.now in let into = c.args.into.now in let P = g.P.Port in let x = c.in-Ok.found in
    let made = g.met.P.Port.made_tells p q (get_step z (key_of z (P.view p)) into) z.walk.first x c.in-Ok.ensures.ends in
    finds_from (P.pool p) z.walk into (P.view p) (P.told p) x (P.view q) (P.told q) c.requires.pool z.stage c.requires.open c.requires.holds made

pub returns-in-Ok-clause-went : goal.returns-in-Ok-clause-went
returns-in-Ok-clause-went g c =
    let p = c.args.port.now in let q = c.access.new.port in let z = c.args.self.now in let into = c.args.into.now in let P = g.P.Port in let x = c.in-Ok.found in let e = c.on.ensures in
    let made = g.met.P.Port.made_tells p q (get_step z (key_of z (P.view p)) into) z.walk.first x c.in-Ok.ensures.ends in
    get_went (P.pool p) z into (P.view p) (P.told p) x (P.view q) (P.told q) c.requires.pool c.requires.open c.requires.holds made c.on.new.self c.on.result c.on.new.into e.goes e.fills e.packs e.answers
