use Rattle.std.proofs.Common.{refl, sym, ◌∙◌, subst, arith}
use Rattle.std.specs.Prelude.{Some}
use Rattle.clover_words.specs.Tag.{TagParts, home, age}
use Rattle.clover_map.specs.declared.call.Call.{Call}
use Rattle.clover_rule.specs.Moves.{nobody}
use Rattle.clover_call.specs.Beginning.{HasTag, IsGiven, ExpectsTag}
use Rattle.clover_call.specs.Caller.{CallerState, AreCursors}
use Rattle.clover_call.proofs.Begins.{first_cursors}
use Rattle.clover_call.proofs.caller.tests.start.Goals as goal

pub start-requires-clause-cursors : goal.start-requires-clause-cursors
start-requires-clause-cursors c =
    let e = c.sent-caller.ensures ∙ c.in_ok-make.ensures in
    (nobody, subst (λ (n : CallerState). AreCursors n.pool nobody n.cursors) (sym e) (first_cursors _ nobody))

pub start-requires-clause-own : goal.start-requires-clause-own
unfolding home age
start-requires-clause-own c =
    let e = c.sent-caller.ensures ∙ c.in_ok-make.ensures in let k = c.in_ok-call.ensures in
    let own : TagParts = record { node = 0; index = 1; generation = 2 } in
    subst (λ (z : Call). HasTag c.sent-caller.result.pool (Some own) z) (sym k.2) (subst (λ (n : CallerState). IsGiven n.pool (Some own)) (sym e) (refl, omega arith))

pub start-requires-clause-expects : goal.start-requires-clause-expects
start-requires-clause-expects c = let k = c.in_ok-call.ensures in subst ExpectsTag (sym k.2) tt
