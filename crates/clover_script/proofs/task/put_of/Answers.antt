use Rattle.std.proofs.Common.{◌∙◌, sym}
use Rattle.clover_script.specs.Text.{value_text}
use Rattle.clover_script.proofs.LineLemmas.{if_none}
use Rattle.clover_script.proofs.SpellingLemmas.{key_split}
use Rattle.clover_script.proofs.task.put_of.Goals as goal

pub returns-in_err-value-clause-none : goal.returns-in_err-value-clause-none
returns-in_err-value-clause-none c = if_none c.from_residual-in_err-value.result (λ k v is fits e.
    let found = c.in_ok-key.ensures.found in
    let same = key_split found.0 k c.in_ok-key.rest.now (value_text v) found.1.0 is (sym found.2 ∙ e) in
    c.in_err-value.ensures.none v fits same.1)
