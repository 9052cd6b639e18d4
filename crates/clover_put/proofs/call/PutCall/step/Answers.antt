use Rattle.clover_put.specs.Putting.{put_step}
use Rattle.clover_put.proofs.Goes.{put_finds, put_went}
use Rattle.clover_put.proofs.call.PutCall.step.Goals as goal

pub on-requires-clause-found : goal.on-requires-clause-found
on-requires-clause-found g c =
    let p = c.args.port.now in let q = c.access.new.port in let n = c.args.self.now in let P = g.P.Port in let e = c.in-Ok.ensures.ends in
    let made = g.met.P.Port.made_tells p q (put_step n (P.view p)) n.walk.first e.0 e.1 in
    put_finds (P.pool p) n (P.view p) (P.told p) c.in-Ok.found e.0 (P.view q) (P.told q) c.requires.pool c.requires.going c.requires.holds made e.2

pub returns-in-Ok-clause-went : goal.returns-in-Ok-clause-went
returns-in-Ok-clause-went g c =
    let p = c.args.port.now in let q = c.access.new.port in let n = c.args.self.now in let P = g.P.Port in let e = c.in-Ok.ensures.ends in
    let made = g.met.P.Port.made_tells p q (put_step n (P.view p)) n.walk.first e.0 e.1 in
    put_went (P.pool p) n (P.view p) (P.told p) c.in-Ok.found e.0 (P.view q) (P.told q) c.requires.pool c.requires.going c.requires.holds made e.2 c.fits.ensures c.on.new.self c.on.result c.on.ensures.goes c.on.ensures.answers
