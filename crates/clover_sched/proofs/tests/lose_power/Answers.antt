use Rattle.std.proofs.Common.{ap}
use Rattle.clover_words.specs.declared.setup.Setup.{Setup}
use Rattle.clover_plain.specs.Plain.{history, restart_view}
use Rattle.clover_restart.proofs.UnderWaySteps.{restarting, woken}
use Rattle.clover_sched.proofs.Storing.{if_left}
use Rattle.clover_sched.proofs.tests.lose_power.Goals as goal

pub returns : goal.returns
returns c =
    let p = c.args.pool.now in let q = c.power_cut.new.self in
    if_left q c.of_sound.result
    (restarting c.args.image.now p.setup.pool c.words.result.now q c.requires.pool c.words.ensures.value c.words.ensures.sized c.power_cut.ensures.down (ap (λ (s : Setup). s.pool) c.power_cut.ensures.same.0) c.power_cut.ensures.words
    (woken p.opened p.setup.pool p.first p.used _ (history p) c.words.result.now (restart_view q) c.power_cut.ensures.restart) c.of_sound.result c.of_sound.ensures.pool c.of_sound.ensures.restarts c.of_sound.ensures.next)
