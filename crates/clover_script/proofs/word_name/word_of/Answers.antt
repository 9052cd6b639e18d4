use Rattle.std.proofs.Common.{[], ◌∙◌, sym, ap, length, arith, append-nil}
use Rattle.clover_script.specs.Text.{word_text}
use Rattle.clover_script.proofs.LineLemmas.{if_none}
use Rattle.clover_script.proofs.word_name.word_of.Goals as goal

pub returns-in_err-word-clause-none : goal.returns-in_err-word-clause-none
returns-in_err-word-clause-none c = if_none c.from_residual.result (λ w is e. c.in_err-word.ensures.only w [] is tt (e ∙ sym (append-nil (word_text w))))

pub returns-else-is_empty-clause-none : goal.returns-else-is_empty-clause-none
returns-else-is_empty-clause-none c w is e =
    let found = c.in_ok-word.ensures.only w [] is tt (e ∙ sym (append-nil (word_text w))) in
    let none = ap length found.1 in
    grind (arith, none)
