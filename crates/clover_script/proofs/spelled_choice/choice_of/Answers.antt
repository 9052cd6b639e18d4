use Rattle.std.proofs.Common.{◌∙◌, ◌++◌, refl, ap}
use Rattle.std.specs.Prelude.{codes}
use Rattle.clover_script.specs.declared.choice.Choice.TheVariants.{Pick}
use Rattle.clover_script.proofs.spelled_choice.choice_of.Goals as goal

pub returns-then-are_names-clause-found : goal.returns-then-are_names-clause-found
returns-then-are_names-clause-found c =
    let names = c.if-are_names.ensures.yes refl in
    (Pick names.0, names.1, (names.0, refl, names.2), c.in-Some-after_word.ensures.found ∙ ap (λ l. codes "pick:" ++ l) names.2)
