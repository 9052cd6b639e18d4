use Rattle.clover_main.proofs.Exactness.{exact}
use Rattle.clover_main.proofs.replaying.replay.Goals as goal

pub returns-clause-exact : goal.returns-clause-exact
returns-clause-exact g c =
    let e = c.attempt.ensures in
    exact c.attempt.result c.args.trace _ _ _ _ _ _ _ _ e.done e.refused e.read_fault (λ h. (e.write_fault h).0) e.no_other
