use Rattle.std.proofs.Common.{ap, inl, length}
use Rattle.std.proofs.lemmas.Result.{IfErr-weaker, IfOk-weaker}
use Rattle.clover_run.specs.Running.{IsPartOrAll}
use Rattle.clover_run.proofs.Remainders.{part_none}
use Rattle.clover_run.proofs.Following.{lawful_at}
use Rattle.clover_main.proofs.Loops.{told_runs, told_stops}
use Rattle.clover_main.proofs.Pieces.{fails_none}
use Rattle.clover_main.proofs.running.begin.Goals as goal

pub returns-in-Err-clause-err : goal.returns-in-Err-clause-err
returns-in-Err-clause-err g c o rs at = fails_none o c.args.machine.now.pool.traced rs c.give_up.result _ _ _ (IsPartOrAll c.args.line rs) (lawful_at o c.args.machine.now rs at) (inl (part_none c.args.line rs)) c.give_up.ensures.puts

pub returns-in-Ok-clause-ok : goal.returns-in-Ok-clause-ok
returns-in-Ok-clause-ok g c = IfOk-weaker c.tell.result _ _ (λ left tells. told_runs _ _ c.args.line c.in-Ok.came _ c.in-Ok.ensures.came (λ o rs at. ap length (c.accesses-listed.ensures o rs at)) _ _ _ _ left tells) c.tell.ensures.ok

pub returns-in-Ok-clause-err : goal.returns-in-Ok-clause-err
returns-in-Ok-clause-err g c = IfErr-weaker c.tell.result _ _ (λ stop tells. told_stops _ _ c.args.line c.in-Ok.came _ c.in-Ok.ensures.came (λ o rs at. ap length (c.accesses-listed.ensures o rs at)) stop _ _ _ tells) c.tell.ensures.err
