use Rattle.std.proofs.Common.{◌∙◌, ℕ, List, ◌++◌, refl, ap}
use Rattle.std.specs.Prelude.{codes}
use Rattle.clover_script.specs.Line.{says_begin, says_call}
use Rattle.clover_script.specs.Spelling.{asked_said}
use Rattle.clover_script.proofs.reader.spelled_line.Goals as goal

pub returns-in-Some-clause-found : goal.returns-in-Some-clause-found
returns-in-Some-clause-found c =
    let asked = c.in_ok-actor.ensures.found in
    let task = asked_said c.in_ok-actor.task asked.0 asked.1 in
    (says_begin c.in_ok-actor.actor task, asked.3, (task, (asked.0, asked.1, asked.2, refl), refl), c.in-Some.ensures.found ∙ ap (λ (l : List ℕ). codes "begin " ++ l) asked.4)

pub returns-in-Some-after_word-clause-found : goal.returns-in-Some-after_word-clause-found
returns-in-Some-after_word-clause-found c =
    let asked = c.in_ok-actor-2.ensures.found in
    let task = asked_said c.in_ok-actor-2.task asked.0 asked.1 in
    (says_call c.in_ok-actor-2.actor task, asked.3, (task, (asked.0, asked.1, asked.2, refl), refl), c.in-Some-after_word.ensures.found ∙ ap (λ (l : List ℕ). codes "call " ++ l) asked.4)
