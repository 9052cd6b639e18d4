use Rattle.std.proofs.Common.{ℕ, refl, sym, ap, ◌∙◌, subst}
use Rattle.clover_call.specs.Going.{GoesOn, IsDue, Went}
use Rattle.clover_call.specs.Caller.{CallerState, CallHolds, next_step, is_first}
use Rattle.clover_call.specs.Turning.{OnMade, left_by}
use Rattle.clover_call.specs.declared.under.Underway.{Underway}
use Rattle.clover_call.specs.declared.under.Underway.TheVariants.{Get, Write}
use Rattle.clover_call.proofs.Holds.{went_at, under_get, under_write}
use Rattle.clover_call.proofs.caller.Caller.access.Goals as goal

pub returns-in-Some-clause-made : goal.returns-in-Some-clause-made
returns-in-Some-clause-made g c =
    let p = c.args.port.now in let into = c.args.into.now in let P = g.P.Port in let r = c.get.result in let into1 = c.get.new.into in
    let e = under_get c.in-Some.call c.self.inside.write c.in-Get.is c.in-Some.is ∙ ap (λ (n : CallerState). n.under) c.self.view_is in
    let behind = under_get c.get.new.call c.self.inside.write c.in-Get.is refl in
    let made = subst (λ (u : Underway). OnMade r ((x : ℕ) × P.made p (next_step u (P.view p) into) (is_first u) x c.get.new.port × GoesOn u into x r (left_by r (Get c.get.new.call)) into1 × IsDue u into (next_step u (P.view p) into) x (left_by r (Get c.get.new.call)) into1 r)) e c.get.ensures.made in
    let under = c.args.self.now.under in
    subst (λ (u : Underway). OnMade r ((x : ℕ) × P.made p (next_step under (P.view p) into) (is_first under) x c.get.new.port × GoesOn under into x r (left_by r u) into1 × IsDue under into (next_step under (P.view p) into) x (left_by r u) into1 r)) behind made

pub returns-in-Some-write-clause-made : goal.returns-in-Some-write-clause-made
returns-in-Some-write-clause-made g c =
    let p = c.args.port.now in let into = c.args.into.now in let P = g.P.Port in let r = c.write.result in
    let e = under_write c.in-Some-write.call c.self.inside.get c.in-Write.is c.in-Some-write.is ∙ ap (λ (n : CallerState). n.under) c.self.view_is in
    let behind = under_write c.write.new.call c.self.inside.get c.in-Write.is refl in
    let made = subst (λ (u : Underway). OnMade r ((x : ℕ) × P.made p (next_step u (P.view p) into) (is_first u) x c.write.new.port × GoesOn u into x r (left_by r (Write c.write.new.call)) into × IsDue u into (next_step u (P.view p) into) x (left_by r (Write c.write.new.call)) into r)) e (c.write.ensures.made into) in
    let under = c.args.self.now.under in
    subst (λ (u : Underway). OnMade r ((x : ℕ) × P.made p (next_step under (P.view p) into) (is_first under) x c.write.new.port × GoesOn under into x r (left_by r u) into × IsDue under into (next_step under (P.view p) into) x (left_by r u) into r)) behind made

pub returns-in-Some-write-clause-went : goal.returns-in-Some-write-clause-went
returns-in-Some-write-clause-went g c =
    let p = c.args.port.now in let q = c.write.new.port in let n = c.args.self.now in let into = c.args.into.now in let P = g.P.Port in let r = c.write.result in
    let e = under_write c.in-Some-write.call c.self.inside.get c.in-Write.is c.in-Some-write.is ∙ ap (λ (n : CallerState). n.under) c.self.view_is in
    let h = subst (λ (u : Underway). CallHolds n.pool u (P.view p) into) (sym e) c.requires.holds.call in
    let went = went_at c.in-Some-write.call.walk.pool n.pool (Write c.in-Some-write.call) n.under (left_by r (Write c.write.new.call)) c.self.inside.cursors n.cursors c.write.new.cursors into (P.view p) (P.told p) (P.view q) (P.told q) r h.0 e (ap (λ (n : CallerState). n.cursors) c.self.view_is) (c.write.ensures.went into) in
    subst (λ (u : Underway). Went n.pool n.under (left_by r u) n.cursors c.write.new.cursors into (P.view p) (P.told p) (P.view q) (P.told q) r) (under_write c.write.new.call c.self.inside.get c.in-Write.is refl) went
