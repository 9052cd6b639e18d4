use Rattle.clover_run.proofs.Keeping.{stands_kept, went_kept}
use Rattle.clover_run.proofs.client.ClientState.step.Goals as goal

pub go_on-requires-clause-stands : goal.go_on-requires-clause-stands
go_on-requires-clause-stands c = let (o, i, f, e, own, st) = c.requires.stands in (o, i, f, e, own, stands_kept o c.args.pool.now c.reserve.new.self i c.args.self.now f c.in_ok-reserve.ensures.same st)

pub returns-clause-went : goal.returns-clause-went
returns-clause-went c = λ o i f e own st.
    let k = c.in_ok-reserve.ensures.same in
    went_kept o i f c.args.self.now c.go_on.new.self c.args.pool.now c.reserve.new.self c.go_on.new.pool c.go_on.result k (c.go_on.ensures o i f e own (stands_kept o c.args.pool.now c.reserve.new.self i c.args.self.now f k st))
