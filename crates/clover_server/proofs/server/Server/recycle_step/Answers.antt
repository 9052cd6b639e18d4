use Rattle.std.proofs.Common.{◌≡◌, ◌+◌, ◌≤◌, [], false, refl, subst, sym, ap, ◌∙◌}
use Rattle.std.specs.Prelude.{IsSome}
use Rattle.clover_dir.specs.Directory.{root_of}
use Rattle.clover_server.specs.Holding.{Agrees}
use Rattle.clover_server.specs.Looking.{given_back}
use Rattle.clover_server.specs.Server.{ServerState}
use Rattle.clover_server.specs.Steps.{recycling}
use Rattle.clover_server.proofs.Lessening.{lessened, begun_lessened, gives_on}
use Rattle.clover_server.proofs.Steps.{recycle_finished, recycle_began}
use Rattle.clover_server.proofs.Wants.{some_root, begun_recycling}
use Rattle.clover_server.proofs.server.Server.recycle_step.Goals as goal

pub returns-in-Some-clause-step : goal.returns-in-Some-clause-step
returns-in-Some-clause-step g c =
    let P = g.P.Port in let p = c.args.port.now in let q = c.go_on.new.port in
    recycle_finished (λ a x. P.made p a false x q) (P.failed p q) (q ≡ p) c.args.self.now c.args.self.now c.go_on.new.self c.go_on.result c.go_on.ensures.made
    c.args.slot c.in-Some.unfinished c.tell.result (sym (ap (λ (z : ServerState). z.task) c.self.view_is) ∙ c.in-Some.is) refl c.tell.ensures

pub returns-in-None-clause-step : goal.returns-in-None-clause-step
returns-in-None-clause-step g c =
    let P = g.P.Port in let p = c.args.port.now in let q = c.go_on-in-None.new.port in let s = c.args.self.now in
    let r = some_root (root_of s.directory c.args.slot) (λ root. c.begin_recycling.new.self ≡ recycling s c.args.slot root) c.begin_recycling.ensures.root c.begin_recycling.ensures.begun in
    recycle_began (λ a x. P.made p a false x q) (P.failed p q) (q ≡ p) s c.begin_recycling.new.self c.go_on-in-None.new.self c.go_on-in-None.result c.go_on-in-None.ensures.made
    c.args.slot r.0 (sym (ap (λ (z : ServerState). z.task) c.self.view_is) ∙ c.in-None.is) r.1 r.2

pub go_on-requires-in-None : goal.go_on-requires-in-None
go_on-requires-in-None g c =
    let P = g.P.Port in let p = c.args.port.now in let s = c.args.self.now in
    let r = some_root (root_of s.directory c.args.slot) (λ root. c.begin_recycling.new.self ≡ recycling s c.args.slot root) c.begin_recycling.ensures.root c.begin_recycling.ensures.begun in
    record {
      task = subst (λ (z : ServerState). IsSome z.task) (sym r.2) refl;
      agrees = subst (λ (z : ServerState). Agrees (P.pool p) [] z (P.view p)) (sym r.2) (begun_recycling (P.pool p) s (P.view p) c.args.slot r.0 c.requires.agrees (sym (ap (λ (z : ServerState). z.task) c.self.view_is) ∙ c.in-None.is) r.1 c.requires.bound);
    }

pub returns-in-Some-clause-lessens : goal.returns-in-Some-clause-lessens
returns-in-Some-clause-lessens g c =
    let P = g.P.Port in let p = c.args.port.now in let q = c.go_on.new.port in
    lessened (λ a x. P.made p a false x q) (P.failed p q) c.args.self.now c.go_on.new.self c.in-Some.unfinished.left c.go_on.result c.tell.result c.tell.ensures c.go_on.ensures.made c.go_on.ensures.lowers

pub returns-in-Some-clause-gives : goal.returns-in-Some-clause-gives
returns-in-Some-clause-gives g c =
    let P = g.P.Port in let p = c.args.port.now in let q = c.go_on.new.port in
    gives_on (λ a x. P.made p a false x q) (P.failed p q) c.args.self.now c.go_on.new.self c.go_on.result c.go_on.ensures.made

pub returns-in-None-clause-lessens : goal.returns-in-None-clause-lessens
returns-in-None-clause-lessens g c =
    let P = g.P.Port in let p = c.args.port.now in let q = c.go_on-in-None.new.port in let s = c.args.self.now in
    let r = some_root (root_of s.directory c.args.slot) (λ root. c.begin_recycling.new.self ≡ recycling s c.args.slot root) c.begin_recycling.ensures.root c.begin_recycling.ensures.begun in
    begun_lessened (λ a x. P.made p a false x q) (P.failed p q) c.begin_recycling.new.self c.go_on-in-None.new.self s c.args.slot r.0 c.go_on-in-None.result
    (sym (ap (λ (z : ServerState). z.task) c.self.view_is) ∙ c.in-None.is) r.2 c.go_on-in-None.ensures.made c.go_on-in-None.ensures.lowers

pub returns-in-None-clause-gives : goal.returns-in-None-clause-gives
returns-in-None-clause-gives g c =
    let P = g.P.Port in let p = c.args.port.now in let q = c.go_on-in-None.new.port in let s = c.args.self.now in
    let r = some_root (root_of s.directory c.args.slot) (λ root. c.begin_recycling.new.self ≡ recycling s c.args.slot root) c.begin_recycling.ensures.root c.begin_recycling.ensures.begun in
    subst (λ (z : ServerState). given_back c.go_on-in-None.new.self ≤ given_back z + 1) r.2
    (gives_on (λ a x. P.made p a false x q) (P.failed p q) c.begin_recycling.new.self c.go_on-in-None.new.self c.go_on-in-None.result c.go_on-in-None.ensures.made)
