use Rattle.std.proofs.Common.{◌∙◌, ℕ, List, ◌++◌, refl, ap}
use Rattle.std.specs.Prelude.{codes}
use Rattle.clover_script.specs.Line.{says_cut, says_image}
use Rattle.clover_script.proofs.reader.line_of_cuts.Goals as goal

pub returns-in-Some-clause-found : goal.returns-in-Some-clause-found
returns-in-Some-clause-found c =
    let cut = c.in_ok-cut.ensures.found in
    (says_cut cut.0 cut.1, tt, (cut.2, cut.3), (cut.0, cut.1, cut.4, refl), c.in-Some.ensures.found ∙ ap (λ (l : List ℕ). codes "cut " ++ l) cut.5)

pub returns-clause-found : goal.returns-clause-found
returns-clause-found c =
    let image = c.in_ok-choice.ensures.found in
    (says_image image.0, tt, image.1, (image.0, image.2, refl), c.in_ok-after_word.ensures.found ∙ ap (λ (l : List ℕ). codes "image " ++ l) image.3)
