use Rattle.clover_walk.proofs.Goes.{walk_finds, walk_goes, reached}
use Rattle.clover_walk.specs.Walking.{walk_step}
use Rattle.clover_walk.proofs.walk.Walk.step.Goals as goal

pub on-requires-clause-found : goal.on-requires-clause-found
on-requires-clause-found g c =
    let p = c.args.port.now in let q = c.access.new.port in let w = c.args.self.now in let P = g.P.Port in
    let made = g.met.P.Port.made_tells p q (walk_step w) w.first c.in-Ok.found c.in-Ok.ensures.ends in
    walk_finds (P.pool p) w (P.view p) (P.told p) c.in-Ok.found (P.view q) (P.told q) c.requires.pool c.requires.holds c.requires.way made

pub returns-in-Ok-clause-made : goal.returns-in-Ok-clause-made
returns-in-Ok-clause-made g c =
    let p = c.args.port.now in let q = c.access.new.port in let w = c.args.self.now in let P = g.P.Port in
    let made = g.met.P.Port.made_tells p q (walk_step w) w.first c.in-Ok.found c.in-Ok.ensures.ends in
    let goes = walk_goes (P.pool p) w (P.view p) (P.told p) c.in-Ok.found (P.view q) (P.told q) c.requires.pool c.requires.holds c.requires.way made c.on.new.self c.on.result c.on.ensures.value c.on.ensures.answer in
    reached c.on.result (c.in-Ok.found, c.in-Ok.ensures.ends, goes)
