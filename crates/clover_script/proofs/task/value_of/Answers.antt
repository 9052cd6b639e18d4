use Rattle.std.proofs.Common.{◌∙◌, [], ◌∷◌, sym, ap, arith, length}
use Rattle.clover_script.specs.Coded.{coded}
use Rattle.clover_script.proofs.CodedLemmas.{one_text}
use Rattle.clover_script.proofs.SpellingLemmas.{after_same}
use Rattle.clover_script.proofs.task.value_of.Goals as goal

pub returns-then-length-gt-LONGEST_WRITTEN-clause-none : goal.returns-then-length-gt-LONGEST_WRITTEN-clause-none
returns-then-length-gt-LONGEST_WRITTEN-clause-none c v is e =
    let spelled = c.in_ok-length.ensures.found in
    let tail = after_same (61 ∷ []) c.in_ok-text.text.now (coded v.bytes) (sym c.in_ok-text.ensures.found ∙ e) in
    let same = one_text spelled.0 v.bytes spelled.1 is.2 (sym spelled.2 ∙ tail) in
    omega (arith, ap length same, is.1, spelled.3)
