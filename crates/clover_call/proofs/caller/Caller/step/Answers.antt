use Rattle.std.proofs.Common.{◌≡◌, ℕ, true, false, sym, ◌∙◌, subst}
use Rattle.clover_words.specs.declared.pool.Pool.{Pool}
use Rattle.clover_port.specs.Told.{Made}
use Rattle.clover_call.specs.Going.{GoesOn, IsDue, Went}
use Rattle.clover_call.specs.Caller.{CallerState, CallerHolds, next_step, is_first}
use Rattle.clover_call.specs.Turning.{OnMade, ends}
use Rattle.clover_call.specs.declared.under.Underway.{Underway}
use Rattle.clover_call.specs.declared.under.Underway.TheVariants.{Nothing}
use Rattle.clover_call.proofs.Holds.{IsStill, by_turn, still_made, still_same, holds_on, left_over, left_going}
use Rattle.clover_call.proofs.Staying.{stays, stays_too}
use Rattle.clover_call.proofs.caller.Caller.step.Goals as goal

pub returns-then-is_over-clause-holds : goal.returns-then-is_over-clause-holds
returns-then-is_over-clause-holds g c =
    let p = c.args.port.now in let a = c.access-turn in let q = a.new.port in let n = c.args.self.now in let n1 = a.new.self in let into = c.args.into.now in let P = g.P.Port in let r = a.result in
    let over : ends r ≡ true = sym c.is_over.ensures ∙ c.if-is_over.true in
    let still : IsStill (P.view p) (P.view q) = by_turn r a.ensures.made a.ensures.refused (λ m. still_made (P.pool p) (next_step n.under (P.view p) into) _ (P.view p) (P.told p) m.0 (P.view q) (P.told q) (g.met.P.Port.made_tells p q _ _ m.0 m.1)) (λ f. still_same (P.view p) (P.view q) (g.met.P.Port.failed_leaves p q f.0).4) in
    let went = subst (λ (u : Underway). Went n.pool n.under u n.cursors n1.cursors a.new.into (P.view p) (P.told p) (P.view q) (P.told q) r) (left_over r n1.under over) a.ensures.went in
    let h = holds_on n (P.view p) into c.requires.holds (P.view q) still Nothing n1.cursors a.new.into (P.told p) (P.told q) r went in
    let pool = subst (λ (z : Pool). CallerHolds (record { pool = z; cursors = n1.cursors; under = Nothing }) (P.view q) a.new.into) (sym a.ensures.pool) h in
    subst (λ (z : CallerState). CallerHolds (record { pool = z.pool; cursors = z.cursors; under = Nothing }) (P.view q) a.new.into) (sym c.self.view_is) pool

pub returns-then-is_over-clause-made : goal.returns-then-is_over-clause-made
returns-then-is_over-clause-made g c =
    let p = c.args.port.now in let a = c.access-turn in let n = c.args.self.now in let n1 = a.new.self in let q = a.new.port in let into = c.args.into.now in let P = g.P.Port in let r = a.result in
    let over : ends r ≡ true = sym c.is_over.ensures ∙ c.if-is_over.true in
    let left = left_over r n1.under over in
    let made = subst (λ (u : Underway). OnMade r ((x : ℕ) × P.made p (next_step n.under (P.view p) into) (is_first n.under) x q × GoesOn n.under into x r u a.new.into × IsDue n.under into (next_step n.under (P.view p) into) x u a.new.into r)) left a.ensures.made in
    let went = subst (λ (u : Underway). Went n.pool n.under u n.cursors n1.cursors a.new.into (P.view p) (P.told p) (P.view q) (P.told q) r) left a.ensures.went in
    stays_too r _ made (λ m. stays n.pool (P.view p) (P.told p) m.0 (P.view q) (P.told q) into a.new.into n.under _ n.cursors n1.cursors r c.requires.holds.call (subst (λ (z : Pool). Made z (next_step n.under (P.view p) into) (is_first n.under) (P.view p) (P.told p) m.0 (P.view q) (P.told q)) c.requires.pool (g.met.P.Port.made_tells p q _ _ m.0 m.1)) m.2 went)

pub returns-else-is_over-clause-made : goal.returns-else-is_over-clause-made
returns-else-is_over-clause-made g c =
    let p = c.args.port.now in let a = c.access-turn in let n = c.args.self.now in let n1 = a.new.self in let q = a.new.port in let into = c.args.into.now in let P = g.P.Port in let r = a.result in
    let over : ends r ≡ false = sym c.is_over.ensures ∙ c.if-is_over.false in
    let left = left_going r n1.under over in
    let made = subst (λ (u : Underway). OnMade r ((x : ℕ) × P.made p (next_step n.under (P.view p) into) (is_first n.under) x q × GoesOn n.under into x r u a.new.into × IsDue n.under into (next_step n.under (P.view p) into) x u a.new.into r)) left a.ensures.made in
    let went = subst (λ (u : Underway). Went n.pool n.under u n.cursors n1.cursors a.new.into (P.view p) (P.told p) (P.view q) (P.told q) r) left a.ensures.went in
    stays_too r _ made (λ m. stays n.pool (P.view p) (P.told p) m.0 (P.view q) (P.told q) into a.new.into n.under _ n.cursors n1.cursors r c.requires.holds.call (subst (λ (z : Pool). Made z (next_step n.under (P.view p) into) (is_first n.under) (P.view p) (P.told p) m.0 (P.view q) (P.told q)) c.requires.pool (g.met.P.Port.made_tells p q _ _ m.0 m.1)) m.2 went)

pub returns-else-is_over-clause-holds : goal.returns-else-is_over-clause-holds
returns-else-is_over-clause-holds g c =
    let p = c.args.port.now in let a = c.access-turn in let q = a.new.port in let n = c.args.self.now in let n1 = a.new.self in let into = c.args.into.now in let P = g.P.Port in let r = a.result in
    let over : ends r ≡ false = sym c.is_over.ensures ∙ c.if-is_over.false in
    let still : IsStill (P.view p) (P.view q) = by_turn r a.ensures.made a.ensures.refused (λ m. still_made (P.pool p) (next_step n.under (P.view p) into) _ (P.view p) (P.told p) m.0 (P.view q) (P.told q) (g.met.P.Port.made_tells p q _ _ m.0 m.1)) (λ f. still_same (P.view p) (P.view q) (g.met.P.Port.failed_leaves p q f.0).4) in
    let went = subst (λ (u : Underway). Went n.pool n.under u n.cursors n1.cursors a.new.into (P.view p) (P.told p) (P.view q) (P.told q) r) (left_going r n1.under over) a.ensures.went in
    let h = holds_on n (P.view p) into c.requires.holds (P.view q) still n1.under n1.cursors a.new.into (P.told p) (P.told q) r went in
    subst (λ (z : Pool). CallerHolds (record { pool = z; cursors = n1.cursors; under = n1.under }) (P.view q) a.new.into) (sym a.ensures.pool) h
