use Rattle.std.proofs.Common.{◌≡◌, ◌<◌, ℕ, false, refl, ap, ◌∙◌, subst}
use Rattle.clover_port.specs.Told.{Rose}
use Rattle.clover_dir.specs.Names.{IsNew}
use Rattle.clover_server.specs.Going.{server_step}
use Rattle.clover_server.specs.Left.{OnMore, work_left}
use Rattle.clover_server.specs.Told.{IfReached, IsFull}
use Rattle.clover_server.specs.Whole.{NamedStep, IsNamed, HasNoSlot, moment, want_turn_of}
use Rattle.clover_server.specs.declared.turn.ServerTurn.{ServerTurn}
use Rattle.clover_server.specs.declared.turn.ServerTurn.TheVariants.{More}
use Rattle.clover_server.proofs.Repeating.{since_more, since_ends, named_leaves, named_quiet, names, has_no_slot, full_new, both_full, success, refusal, unreached_so}
use Rattle.clover_server.proofs.server.Server.bind.Goals as goal

pub returns-in-Some-clause-came : goal.returns-in-Some-clause-came
returns-in-Some-clause-came g c =
    let P = g.P.Port in let n = c.bind_step.new.self in let q = c.bind_step.new.port in
    since_ends (NamedStep c.args.key.now (λ p a b x q. P.made p a b x q) (λ p q. P.failed p q)) (moment c.args.self.now c.args.port.now) (moment c.steps.self c.steps.port) c.steps.invariant.since (moment n q) (want_turn_of c.in-Some.end)
    (subst (λ (r : ServerTurn). NamedStep c.args.key.now (λ p a b x q. P.made p a b x q) (λ p q. P.failed p q) (moment c.steps.self c.steps.port) (moment n q) r) c.in-Some.ensures.some (c.bind_step.ensures.finishes, c.bind_step.ensures.step))

pub returns-in-Some-clause-same : goal.returns-in-Some-clause-same
returns-in-Some-clause-same g c =
    let P = g.P.Port in let p = c.steps.port in let q = c.bind_step.new.port in let k = c.steps.invariant.same in
    named_leaves c.args.key.now (λ p a b x q. P.made p a b x q) (λ p q. P.failed p q) (moment c.steps.self p) (moment c.bind_step.new.self q) c.bind_step.result (c.bind_step.ensures.finishes, c.bind_step.ensures.step)
    (λ a x m. let l = g.met.P.Port.made_leaves p q (server_step a) false x m in (l.0 ∙ k.0, l.1 ∙ k.1, l.2 ∙ k.2))
    (λ f. let l = g.met.P.Port.failed_leaves p q f in (l.0 ∙ k.0, l.1 ∙ k.1, l.2 ∙ k.2))
    (λ e. (ap P.pool e ∙ k.0, ap P.table e ∙ k.1, ap P.lender e ∙ k.2))

pub returns-in-Some-clause-quiet : goal.returns-in-Some-clause-quiet
returns-in-Some-clause-quiet g c =
    let P = g.P.Port in let p = c.steps.port in let q = c.bind_step.new.port in
    subst (λ (r : ServerTurn). IfReached r (P.faults q ≡ P.faults c.args.port.now)) c.in-Some.ensures.some
    (named_quiet c.args.key.now (λ p a b x q. P.made p a b x q) (λ p q. P.failed p q) (moment c.steps.self p) (moment c.bind_step.new.self q) c.bind_step.result (c.bind_step.ensures.finishes, c.bind_step.ensures.step)
    (λ a x m. (g.met.P.Port.made_leaves p q (server_step a) false x m).3 ∙ c.steps.invariant.quiet)
    (λ e. ap P.faults e ∙ c.steps.invariant.quiet))

pub returns-in-Some-clause-named : goal.returns-in-Some-clause-named
returns-in-Some-clause-named g c =
    let P = g.P.Port in let p = c.steps.port in let q = c.bind_step.new.port in let n = c.bind_step.new.self in
    success c.in-Some.end c.bind_step.result (IsNamed c.args.key.now n) c.in-Some.ensures.some
    (λ e. names c.args.key.now (λ p a b x q. P.made p a b x q) (λ p q. P.failed p q) (moment c.steps.self p) (moment n q)
    (subst (λ (r : ServerTurn). NamedStep c.args.key.now (λ p a b x q. P.made p a b x q) (λ p q. P.failed p q) (moment c.steps.self p) (moment n q) r) e (c.bind_step.ensures.finishes, c.bind_step.ensures.step)))

pub returns-in-Some-clause-refused : goal.returns-in-Some-clause-refused
returns-in-Some-clause-refused g c =
    let P = g.P.Port in let p = c.steps.port in let q = c.bind_step.new.port in let n = c.bind_step.new.self in
    refusal c.in-Some.end c.bind_step.result (λ bound worn out. IsFull n (P.view q) bound worn out × IsNew c.args.key.now n.directory.list) (HasNoSlot c.args.key.now n) (Rose (P.faults c.args.port.now) (P.faults q)) c.in-Some.ensures.some
    (both_full c.bind_step.result (λ bound worn out. IsFull n (P.view q) bound worn out) (IsNew c.args.key.now n.directory.list) c.bind_step.ensures.full
    (λ bound worn out e. full_new c.args.key.now (λ p a b x q. P.made p a b x q) (λ p q. P.failed p q) (moment c.steps.self p) (moment n q) bound worn out
    (subst (λ (r : ServerTurn). NamedStep c.args.key.now (λ p a b x q. P.made p a b x q) (λ p q. P.failed p q) (moment c.steps.self p) (moment n q) r) e (c.bind_step.ensures.finishes, c.bind_step.ensures.step))))
    (λ e. has_no_slot c.args.key.now (λ p a b x q. P.made p a b x q) (λ p q. P.failed p q) (moment c.steps.self p) (moment n q)
    (subst (λ (r : ServerTurn). NamedStep c.args.key.now (λ p a b x q. P.made p a b x q) (λ p q. P.failed p q) (moment c.steps.self p) (moment n q) r) e (c.bind_step.ensures.finishes, c.bind_step.ensures.step)))
    (unreached_so c.bind_step.result (λ f. subst (λ (m : ℕ). Rose m (P.faults q)) c.steps.invariant.quiet (g.met.P.Port.failed_leaves p q f).3) c.bind_step.ensures.refused)

pub steps-preserved : goal.steps-preserved
steps-preserved g c =
    let P = g.P.Port in let p = c.steps.port in let q = c.bind_step.new.port in let n = c.bind_step.new.self in let k = c.steps.invariant.same in
    let more : c.bind_step.result ≡ More = c.in_default.ensures.none.0 refl in
    record {
      agrees = c.bind_step.ensures.agrees;
      since = since_more (NamedStep c.args.key.now (λ p a b x q. P.made p a b x q) (λ p q. P.failed p q)) (moment c.args.self.now c.args.port.now) (moment c.steps.self p) c.steps.invariant.since (moment n q)
          (subst (λ (r : ServerTurn). NamedStep c.args.key.now (λ p a b x q. P.made p a b x q) (λ p q. P.failed p q) (moment c.steps.self p) (moment n q) r) more (c.bind_step.ensures.finishes, c.bind_step.ensures.step))
          (subst (λ (r : ServerTurn). OnMore r (work_left n < work_left c.steps.self)) more c.bind_step.ensures.lowers);
      same = named_leaves c.args.key.now (λ p a b x q. P.made p a b x q) (λ p q. P.failed p q) (moment c.steps.self p) (moment n q) c.bind_step.result (c.bind_step.ensures.finishes, c.bind_step.ensures.step)
          (λ a x m. let l = g.met.P.Port.made_leaves p q (server_step a) false x m in (l.0 ∙ k.0, l.1 ∙ k.1, l.2 ∙ k.2))
          (λ f. let l = g.met.P.Port.failed_leaves p q f in (l.0 ∙ k.0, l.1 ∙ k.1, l.2 ∙ k.2))
          (λ e. (ap P.pool e ∙ k.0, ap P.table e ∙ k.1, ap P.lender e ∙ k.2));
      quiet = subst (λ (r : ServerTurn). IfReached r (P.faults q ≡ P.faults c.args.port.now)) more
          (named_quiet c.args.key.now (λ p a b x q. P.made p a b x q) (λ p q. P.failed p q) (moment c.steps.self p) (moment n q) c.bind_step.result (c.bind_step.ensures.finishes, c.bind_step.ensures.step)
          (λ a x m. (g.met.P.Port.made_leaves p q (server_step a) false x m).3 ∙ c.steps.invariant.quiet)
          (λ e. ap P.faults e ∙ c.steps.invariant.quiet));
    }
