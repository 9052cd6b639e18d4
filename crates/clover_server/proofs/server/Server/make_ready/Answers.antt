use Rattle.std.proofs.Common.{◌≡◌, ◌<◌, ℕ, false, refl, ap, ◌∙◌, subst}
use Rattle.clover_port.specs.Told.{Rose}
use Rattle.clover_server.specs.Going.{server_step}
use Rattle.clover_server.specs.Left.{OnMore, work_left}
use Rattle.clover_server.specs.Steps.{stock_due}
use Rattle.clover_server.specs.Told.{IfReached, IsFull}
use Rattle.clover_server.specs.Whole.{StockStep, moment, want_turn_of}
use Rattle.clover_server.specs.declared.turn.ServerTurn.{ServerTurn}
use Rattle.clover_server.specs.declared.turn.ServerTurn.TheVariants.{More}
use Rattle.clover_server.proofs.Repeating.{since_more, since_ends, want_leaves, want_quiet, refusal, unreached_so, stock_has_slot}
use Rattle.clover_server.proofs.server.Server.make_ready.Goals as goal

pub returns-in-Some-clause-came : goal.returns-in-Some-clause-came
returns-in-Some-clause-came g c =
    let P = g.P.Port in let n = c.stock_step.new.self in let q = c.stock_step.new.port in
    since_ends (StockStep (λ p a b x q. P.made p a b x q) (λ p q. P.failed p q)) (moment c.args.self.now c.args.port.now) (moment c.steps.self c.steps.port) c.steps.invariant.since (moment n q) (want_turn_of c.in-Some.end)
    (subst (λ (r : ServerTurn). StockStep (λ p a b x q. P.made p a b x q) (λ p q. P.failed p q) (moment c.steps.self c.steps.port) (moment n q) r) c.in-Some.ensures.some c.stock_step.ensures.step)

pub returns-in-Some-clause-same : goal.returns-in-Some-clause-same
returns-in-Some-clause-same g c =
    let P = g.P.Port in let p = c.steps.port in let q = c.stock_step.new.port in let k = c.steps.invariant.same in
    want_leaves c.steps.self c.stock_step.new.self c.stock_step.result (λ a x. P.made p a false x q) (P.failed p q) (q ≡ p) (stock_due c.steps.self) c.stock_step.ensures.step
    (λ a x m. let l = g.met.P.Port.made_leaves p q (server_step a) false x m in (l.0 ∙ k.0, l.1 ∙ k.1, l.2 ∙ k.2))
    (λ f. let l = g.met.P.Port.failed_leaves p q f in (l.0 ∙ k.0, l.1 ∙ k.1, l.2 ∙ k.2))
    (λ e. (ap P.pool e ∙ k.0, ap P.table e ∙ k.1, ap P.lender e ∙ k.2))

pub returns-in-Some-clause-refused : goal.returns-in-Some-clause-refused
returns-in-Some-clause-refused g c =
    let P = g.P.Port in let p = c.steps.port in let q = c.stock_step.new.port in let n = c.stock_step.new.self in
    refusal c.in-Some.end c.stock_step.result (λ bound worn out. IsFull n (P.view q) bound worn out) ⊥ (Rose (P.faults c.args.port.now) (P.faults q)) c.in-Some.ensures.some
    c.stock_step.ensures.full
    (λ e. stock_has_slot c.steps.self n (λ a x. P.made p a false x q) (P.failed p q) (q ≡ p) (subst (λ (r : ServerTurn). StockStep (λ p a b x q. P.made p a b x q) (λ p q. P.failed p q) (moment c.steps.self p) (moment n q) r) e c.stock_step.ensures.step))
    (unreached_so c.stock_step.result (λ f. subst (λ (m : ℕ). Rose m (P.faults q)) c.steps.invariant.quiet (g.met.P.Port.failed_leaves p q f).3) c.stock_step.ensures.refused)

pub steps-preserved : goal.steps-preserved
steps-preserved g c =
    let P = g.P.Port in let p = c.steps.port in let q = c.stock_step.new.port in let n = c.stock_step.new.self in let k = c.steps.invariant.same in
    let more : c.stock_step.result ≡ More = c.in_default.ensures.none.0 refl in
    record {
      agrees = c.stock_step.ensures.agrees;
      since = since_more (StockStep (λ p a b x q. P.made p a b x q) (λ p q. P.failed p q)) (moment c.args.self.now c.args.port.now) (moment c.steps.self p) c.steps.invariant.since (moment n q)
          (subst (λ (r : ServerTurn). StockStep (λ p a b x q. P.made p a b x q) (λ p q. P.failed p q) (moment c.steps.self p) (moment n q) r) more c.stock_step.ensures.step)
          (subst (λ (r : ServerTurn). OnMore r (work_left n < work_left c.steps.self)) more c.stock_step.ensures.lowers);
      same = want_leaves c.steps.self n c.stock_step.result (λ a x. P.made p a false x q) (P.failed p q) (q ≡ p) (stock_due c.steps.self) c.stock_step.ensures.step
          (λ a x m. let l = g.met.P.Port.made_leaves p q (server_step a) false x m in (l.0 ∙ k.0, l.1 ∙ k.1, l.2 ∙ k.2))
          (λ f. let l = g.met.P.Port.failed_leaves p q f in (l.0 ∙ k.0, l.1 ∙ k.1, l.2 ∙ k.2))
          (λ e. (ap P.pool e ∙ k.0, ap P.table e ∙ k.1, ap P.lender e ∙ k.2));
      quiet = subst (λ (r : ServerTurn). IfReached r (P.faults q ≡ P.faults c.args.port.now)) more
          (want_quiet c.steps.self n c.stock_step.result (λ a x. P.made p a false x q) (P.failed p q) (q ≡ p) (stock_due c.steps.self) c.stock_step.ensures.step
          (λ a x m. (g.met.P.Port.made_leaves p q (server_step a) false x m).3 ∙ c.steps.invariant.quiet)
          (λ e. ap P.faults e ∙ c.steps.invariant.quiet));
    }
