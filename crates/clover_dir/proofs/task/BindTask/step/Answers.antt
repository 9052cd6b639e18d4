use Rattle.clover_dir.specs.Task.{bind_step}
use Rattle.std.proofs.Common.{false}
use Rattle.clover_dir.proofs.Went.{bind_went}
use Rattle.clover_dir.proofs.task.BindTask.step.Goals as goal

pub returns-in-Ok-clause-went : goal.returns-in-Ok-clause-went
returns-in-Ok-clause-went g c =
    let p = c.args.port.now in let q = c.access.new.port in let n = c.args.self.now in let d = c.args.directory.now in let P = g.P.Port in let e = c.in-Ok.ensures.ends in
    let made = g.met.P.Port.made_tells p q (bind_step n d) false e.0 e.1 in
    bind_went (P.pool p) n d (P.view p) (P.told p) e.0 (P.view q) (P.told q) c.stands.ensures c.requires.going c.in-Ok.ensures.valid c.requires.holds made c.on.new.self c.on.new.directory c.on.result c.on.ensures.answers c.on.ensures.made
