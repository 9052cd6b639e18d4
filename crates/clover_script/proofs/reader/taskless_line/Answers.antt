use Rattle.std.proofs.Common.{◌∙◌, ℕ, List, ◌++◌, refl, sym, ap, subst}
use Rattle.std.specs.Prelude.{codes}
use Rattle.std.proofs.lemmas.Option.{IfSome_then}
use Rattle.clover_script.specs.Line.{says_step}
use Rattle.clover_script.specs.Spelling.{Says}
use Rattle.clover_script.specs.declared.spelled.LineText.{LineText}
use Rattle.clover_script.proofs.reader.taskless_line.Goals as goal

pub returns-in-Some-clause-found : goal.returns-in-Some-clause-found
returns-in-Some-clause-found c = IfSome_then c.step_of.result c.step_of.ensures.found (λ parts h.
    let spoken = says_step h.0 h.1 in
    (spoken, (h.2, h.3), subst (λ (l : LineText). Says l spoken) (sym h.5) refl, c.in-Some.ensures.found ∙ ap (λ (l : List ℕ). codes "step " ++ l) h.4))
