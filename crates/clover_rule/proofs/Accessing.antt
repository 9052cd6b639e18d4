-- The laws of a step: it keeps the rule, it tells its actor facts, and a table allows it.
use Rattle.std.proofs.Common.{◌≡◌, ℕ, refl, sym, ap, ◌∙◌, subst}
use Rattle.atomic_table.specs.Table.{Allows}
use Rattle.clover_words.specs.declared.word.Word.{Word}
use Rattle.clover_words.specs.Place.{address_of}
use Rattle.clover_rule.specs.Laws.{PartsLaw, StepLaw, ToldLaw, TableStepLaw, OperationLaw}
use Rattle.clover_rule.specs.Steps.{Operation, loads, stores, exchanges, raises, act_on, operation_of, result, side_in, word_of}
use Rattle.clover_rule.specs.Told.{Told, TableHolds}
use Rattle.clover_rule.specs.declared.access.Act.{Act}
use Rattle.clover_rule.specs.declared.access.Act.TheVariants.{Load, Store, Exchange, Raise}
use Rattle.clover_rule.proofs.Acting.{act_word}
use Rattle.clover_rule.proofs.AllKeeps.{keeps}
use Rattle.clover_rule.proofs.Telling.{told, table_law}
use Rattle.clover_rule.proofs.TwelveParts.{rule_holds}

pub parts_law : PartsLaw
parts_law = rule_holds

pub step_law : StepLaw
step_law p first used ws vs h id v a b r at asks =
    let k = keeps p first used ws vs r.story h r.helped id v at a b asks in rule_holds p first used _ _ k.0 _ k.1

pub told_law : ToldLaw
told_law p first used ws vs h id v a b r at asks = told p first used ws vs h id v (r.story, r.helped) at a b asks

pub table_step_law : TableStepLaw
table_step_law p first used slots id me a b asks = table_law (Unit {0}) p first used slots id me a b (λ x you. Told p a b me.0 x you.0 × (you.1 ≡ me.1)) asks (λ x w t. (t, refl))

-- what an access does, by the access
operation_in : Act → Operation
operation_in (Load w x) = loads
operation_in (Store w s y) = stores s y
operation_in (Exchange w e n x) = exchanges e n
operation_in (Raise w y x) = raises y

same_operation : (o : Operation) (w : Word) (x : ℕ) → operation_in (act_on o w x) ≡ o
unfolding operation_in
same_operation loads w x = refl
same_operation (stores s y) w x = refl
same_operation (exchanges e n) w x = refl
same_operation (raises y) w x = refl

same_word : (o : Operation) (w : Word) (x : ℕ) → act_word (act_on o w x) ≡ w
same_word loads w x = refl
same_word (stores s y) w x = refl
same_word (exchanges e n) w x = refl
same_word (raises y) w x = refl

pub operation_law : OperationLaw
operation_law p first used slots id me a b o w asks is =
    let op : operation_of a ≡ o = sym (same_operation (operation_of a) (word_of a) 0) ∙ ap operation_in (is 0) ∙ same_operation o w 0 in
    let on : word_of a ≡ w = sym (same_word (operation_of a) (word_of a) 0) ∙ ap act_word (is 0) ∙ same_word o w 0 in
    subst (λ (z : Word). Allows {S = Unit {0}} (TableHolds p first used) slots id me (address_of p z (side_in o)) (result o) (λ x you. Told p a b me.0 x you.0 × (you.1 ≡ me.1))) on
    (subst (λ (z : Operation). Allows {S = Unit {0}} (TableHolds p first used) slots id me (address_of p (word_of a) (side_in z)) (result z) (λ x you. Told p a b me.0 x you.0 × (you.1 ≡ me.1))) op
    (table_step_law p first used slots id me a b asks))
