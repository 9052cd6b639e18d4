use Rattle.std.proofs.Common.{◌≡◌, [], false, sym, ap, ◌∙◌, subst}
use Rattle.std.specs.Prelude.{Option, Some}
use Rattle.std.specs.Option.{option_copied_mut}
use Rattle.clover_words.specs.declared.pool.Pool.{Pool}
use Rattle.clover_server.specs.Going.{work_step, server_step, went, answer_of, refused}
use Rattle.clover_server.specs.Holding.{Agrees}
use Rattle.clover_server.specs.Server.{ServerState}
use Rattle.clover_server.specs.Steps.{OnAccess}
use Rattle.clover_server.specs.declared.work.Unfinished.{Unfinished}
use Rattle.clover_server.specs.Left.{LowersBy, work_left}
use Rattle.clover_server.proofs.Left.{went_lowered}
use Rattle.clover_server.proofs.Outcomes.{either_way}
use Rattle.clover_server.proofs.Onward.{answers, takes, agree}
use Rattle.clover_server.proofs.server.Server.go_on.Goals as goal

-- the server as the task was found
was : (inside now : ServerState) (u : Unfinished) → inside ≡ now → Some u ≡ inside.task → record inside { task = Some u } ≡ now
was inside now u e t = ap (λ (z : Option Unfinished). record inside { task = z }) t ∙ e

pub take_in-requires : goal.take_in-requires
take_in-requires g c =
    let P = g.P.Port in let p = c.args.port.now in let q = c.step_work-outcome.new.port in let s = c.self.inside in let u = c.in-Some.unfinished.now in
    let t : Some u ≡ s.task = ap option_copied_mut (sym c.in-Some.is) ∙ c.as_mut.ensures.value in
    let e = was (record { setup = s.setup; books = s.books; directory = s.directory; task = s.task; sweep = s.sweep }) c.args.self.now u c.self.view_is t in
    takes (P.pool p) s.setup s.books s.directory s.sweep u.left u.work (λ a x. P.made p a false x q) (P.failed p q) c.step_work-outcome.result c.step_work-outcome.new.work c.step_work-outcome.new.directory
    (P.view p) (P.told p) (P.view q) (P.told q) (λ a x m. g.met.P.Port.made_tells p q a false x m) (λ f. (g.met.P.Port.failed_leaves p q f).4)
    (subst (λ (z : ServerState). Agrees (P.pool p) [] z (P.view p)) (sym e) c.requires.agrees)
    c.step_work-outcome.ensures.made c.step_work-outcome.ensures.tags

pub returns-clause-made : goal.returns-clause-made
returns-clause-made g c =
    let P = g.P.Port in let p = c.args.port.now in let q = c.step_work-outcome.new.port in let s = c.self.inside in let u = c.in-Some.unfinished.now in
    let t : Some u ≡ s.task = ap option_copied_mut (sym c.in-Some.is) ∙ c.as_mut.ensures.value in
    let e = was (record { setup = s.setup; books = s.books; directory = s.directory; task = s.task; sweep = s.sweep }) c.args.self.now u c.self.view_is t in
    subst (λ (z : ServerState). OnAccess c.take_in.result (λ x. P.made p (server_step z) false x q × (c.take_in.new.self ≡ went z x) × (c.take_in.result ≡ answer_of z x)) (P.failed p q × (c.take_in.new.self ≡ refused z))) e
    (answers (P.pool p) s.setup s.books s.directory s.sweep u.left u.work (λ a x. P.made p a false x q) (P.failed p q) c.step_work-outcome.result c.step_work-outcome.new.work c.step_work-outcome.new.directory
    c.step_work-outcome.ensures.made c.step_work-outcome.ensures.refused c.take_in.result c.take_in.new.self c.take_in.ensures.value c.take_in.ensures.answer)

pub returns-clause-agrees : goal.returns-clause-agrees
returns-clause-agrees g c =
    let P = g.P.Port in let p = c.args.port.now in let q = c.step_work-outcome.new.port in let s = c.self.inside in let u = c.in-Some.unfinished.now in
    let t : Some u ≡ s.task = ap option_copied_mut (sym c.in-Some.is) ∙ c.as_mut.ensures.value in
    let e = was (record { setup = s.setup; books = s.books; directory = s.directory; task = s.task; sweep = s.sweep }) c.args.self.now u c.self.view_is t in
    let pool : P.pool q ≡ P.pool p = either_way c.step_work-outcome.result (λ m. (g.met.P.Port.made_leaves p q (work_step s.directory u.work) false m.0 m.1).0) (λ r f. (g.met.P.Port.failed_leaves p q f.0).0) c.step_work-outcome.ensures.made c.step_work-outcome.ensures.refused in
    subst (λ (z : Pool). Agrees z [] c.take_in.new.self (P.view q)) (sym pool)
    (agree (P.pool p) s.setup s.books s.directory s.sweep u.left u.work (λ a x. P.made p a false x q) (P.failed p q) c.step_work-outcome.result c.step_work-outcome.new.work c.step_work-outcome.new.directory
    (P.view p) (P.told p) (P.view q) (P.told q) (λ a x m. g.met.P.Port.made_tells p q a false x m) (λ f. (g.met.P.Port.failed_leaves p q f).4)
    (subst (λ (z : ServerState). Agrees (P.pool p) [] z (P.view p)) (sym e) c.requires.agrees)
    c.step_work-outcome.ensures.made c.step_work-outcome.ensures.refused c.step_work-outcome.ensures.tags c.step_work-outcome.ensures.leaves c.take_in.new.self c.take_in.ensures.value c.take_in.ensures.whole)

pub returns-clause-lowers : goal.returns-clause-lowers
returns-clause-lowers g c =
    let P = g.P.Port in let p = c.args.port.now in let q = c.step_work-outcome.new.port in let s = c.self.inside in let u = c.in-Some.unfinished.now in
    let t : Some u ≡ s.task = ap option_copied_mut (sym c.in-Some.is) ∙ c.as_mut.ensures.value in
    let e = was (record { setup = s.setup; books = s.books; directory = s.directory; task = s.task; sweep = s.sweep }) c.args.self.now u c.self.view_is t in
    let a = subst (λ (z : ServerState). Agrees (P.pool p) [] z (P.view p)) (sym e) c.requires.agrees in
    subst (λ (z : ServerState). LowersBy c.take_in.result (work_left z) (work_left c.take_in.new.self)) e
    (went_lowered s.setup s.books s.directory c.step_work-outcome.new.directory s.sweep u.left u.work c.step_work-outcome.new.work
    a.books.whole (λ a x. P.made p a false x q) c.step_work-outcome.result c.step_work-outcome.ensures.made c.step_work-outcome.ensures.lowers c.step_work-outcome.ensures.fits
    (takes (P.pool p) s.setup s.books s.directory s.sweep u.left u.work (λ a x. P.made p a false x q) (P.failed p q) c.step_work-outcome.result c.step_work-outcome.new.work c.step_work-outcome.new.directory
    (P.view p) (P.told p) (P.view q) (P.told q) (λ a x m. g.met.P.Port.made_tells p q a false x m) (λ f. (g.met.P.Port.failed_leaves p q f).4) a
    c.step_work-outcome.ensures.made c.step_work-outcome.ensures.tags)
    c.take_in.new.self c.take_in.result c.take_in.ensures.value c.take_in.ensures.answer)
