use Rattle.std.proofs.Common.{◌∙◌, sym, subst}
use Rattle.clover_script.specs.declared.choice.Choice.{Choice}
use Rattle.clover_script.specs.Choice.{HasChoice, choice_text}
use Rattle.clover_script.proofs.LineLemmas.{one_word}
use Rattle.clover_script.proofs.ChoiceLemmas.{one_choice, choice_lacks}
use Rattle.clover_script.proofs.spelled_choice.choice_front.Goals as goal

pub returns-in_err-choice-clause-only : goal.returns-in_err-choice-clause-only
returns-in_err-choice-clause-only c choice rest is end e =
    let cut = c.word_and_rest.ensures in
    let same = one_word c.word_and_rest.result.0.now (choice_text choice) c.word_and_rest.result.1.now rest cut.word (choice_lacks choice is) cut.end end (sym cut.whole ∙ e) in
    absurd (c.in_err-choice.ensures.none choice is same.0)

pub returns-clause-only : goal.returns-clause-only
returns-clause-only c choice rest is end e =
    let cut = c.word_and_rest.ensures in
    let same = one_word c.word_and_rest.result.0.now (choice_text choice) c.word_and_rest.result.1.now rest cut.word (choice_lacks choice is) cut.end end (sym cut.whole ∙ e) in
    let found = c.in_ok-choice.ensures.found in
    let one = one_choice found.0 choice found.1 is (sym found.3 ∙ same.0) in
    (subst (λ (d : Choice). HasChoice c.in_ok-choice.choice d) one found.2, same.1)
