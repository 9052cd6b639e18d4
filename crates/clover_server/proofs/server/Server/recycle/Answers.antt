use Rattle.std.proofs.Common.{◌≡◌, ◌<◌, inl, false, refl, ◌∙◌, subst}
use Rattle.std.specs.Prelude.{length, true, None}
use Rattle.clover_words.specs.declared.pool.Pool.{Pool}
use Rattle.clover_server.specs.Left.{OnMore, work_left}
use Rattle.clover_server.specs.Told.{IfReached, EndsTask}
use Rattle.clover_server.specs.Whole.{SlotStep, CameTo, moment}
use Rattle.clover_server.specs.declared.turn.ServerTurn.{ServerTurn}
use Rattle.clover_server.specs.declared.turn.ServerTurn.TheVariants.{More}
use Rattle.clover_server.proofs.Recycled.{recycle_bound, own_goes, own_recycled, own_read, recycled_so}
use Rattle.clover_server.proofs.Repeating.{since_none, since_more, since_ends}
use Rattle.clover_server.proofs.server.Server.recycle.Goals as goal

pub returns-in-Some-clause-came : goal.returns-in-Some-clause-came
returns-in-Some-clause-came g c =
    let P = g.P.Port in let n = c.recycle_step.new.self in let q = c.recycle_step.new.port in (
      c.recycle_step.result,
      c.in-Some.ensures.some,
      since_ends (SlotStep c.args.slot (λ p a b x q. P.made p a b x q) (λ p q. P.failed p q)) (moment c.args.self.now c.args.port.now) (moment c.steps.self c.steps.port) c.steps.invariant.since (moment n q) c.recycle_step.result c.recycle_step.ensures.step,
    )

pub returns-in-Some-clause-recycled : goal.returns-in-Some-clause-recycled
returns-in-Some-clause-recycled g c =
    let P = g.P.Port in let p = c.steps.port in let q = c.recycle_step.new.port in let n = c.recycle_step.new.self in let s = c.args.self.now in
    recycled_so c.in-Some.end c.recycle_step.result (λ recycled. s.task ≡ None → CameTo recycled (P.pool c.args.port.now) c.args.slot s n (P.view q) (P.told q)) c.in-Some.ensures.some
    (λ old e idle.
    subst (λ (z : Pool). CameTo true z c.args.slot s n (P.view q) (P.told q)) c.steps.invariant.same.0
    (own_recycled c.args.slot s idle c.steps.self n (λ a x. P.made p a false x q) (P.failed p q) (c.steps.invariant.own idle) (P.pool p) (P.view p) (P.told p) (P.view q) (P.told q) old (length n.directory.list)
    (subst (λ (r : ServerTurn). SlotStep c.args.slot (λ p a b x q. P.made p a b x q) (λ p q. P.failed p q) (moment c.steps.self p) (moment n q) r) e c.recycle_step.ensures.step)
    (subst (λ (r : ServerTurn). IfReached r (EndsTask (P.pool p) c.steps.self.task (length n.directory.list) (P.view p) (P.told p) (P.view q) (P.told q))) e c.recycle_step.ensures.ends)))
    (λ e idle.
    own_read c.args.slot s idle c.steps.self n (λ a x. P.made p a false x q) (P.failed p q) (c.steps.invariant.own idle) (P.pool p) (P.view p) (P.told p) (P.view q) (P.told q)
    (λ a x m. g.met.P.Port.made_tells p q a false x m)
    (subst (λ (r : ServerTurn). SlotStep c.args.slot (λ p a b x q. P.made p a b x q) (λ p q. P.failed p q) (moment c.steps.self p) (moment n q) r) e c.recycle_step.ensures.step))

pub steps-init : goal.steps-init
steps-init g c =
    let P = g.P.Port in
    record {
      agrees = c.requires.agrees;
      since = since_none (SlotStep c.args.slot (λ p a b x q. P.made p a b x q) (λ p q. P.failed p q)) (moment c.args.self.now c.args.port.now);
      same = (refl, refl, refl);
      bound = c.requires.bound;
      own = λ h. inl refl;
      quiet = refl;
    }

pub steps-preserved : goal.steps-preserved
steps-preserved g c =
    let P = g.P.Port in let p = c.steps.port in let q = c.recycle_step.new.port in let n = c.recycle_step.new.self in let k = c.steps.invariant.same in
    let more : c.recycle_step.result ≡ More = c.in_default.ensures.none.0 refl in
    let step = subst (λ (r : ServerTurn). SlotStep c.args.slot (λ p a b x q. P.made p a b x q) (λ p q. P.failed p q) (moment c.steps.self p) (moment n q) r) more c.recycle_step.ensures.step in
    let l = g.met.P.Port.made_leaves p q _ false step.2.0 step.2.1.0 in
    record {
      agrees = c.recycle_step.ensures.agrees;
      since = since_more (SlotStep c.args.slot (λ p a b x q. P.made p a b x q) (λ p q. P.failed p q)) (moment c.args.self.now c.args.port.now) (moment c.steps.self p) c.steps.invariant.since (moment n q) step
          (subst (λ (r : ServerTurn). OnMore r (work_left n < work_left c.steps.self)) more c.recycle_step.ensures.lowers);
      same = (l.0 ∙ k.0, l.1 ∙ k.1, l.2 ∙ k.2);
      bound = recycle_bound c.steps.self n c.args.slot More (λ a x. P.made p a false x q) (P.failed p q) step c.steps.invariant.bound;
      own = λ idle. own_goes c.args.slot c.args.self.now idle c.steps.self n (λ a x. P.made p a false x q) (P.failed p q) (c.steps.invariant.own idle) step;
      quiet = l.3 ∙ c.steps.invariant.quiet;
    }
