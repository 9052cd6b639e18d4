use Rattle.std.proofs.Common.{◌∙◌, ◌∷◌, ◌++◌, sym}
use Rattle.clover_script.specs.Text.{tag_text, value_text}
use Rattle.clover_script.proofs.LineLemmas.{if_none}
use Rattle.clover_script.proofs.PartLemmas.{tag_split}
use Rattle.clover_script.proofs.SpellingLemmas.{key_split}
use Rattle.clover_script.proofs.task.swap_of.Goals as goal

pub returns-in_err-expected-clause-none : goal.returns-in_err-expected-clause-none
returns-in_err-expected-clause-none c = if_none c.from_residual-in_err-expected.result (λ k t v is small fits e.
    let key = c.in_ok-key.ensures.found in
    let same = key_split key.0 k c.in_ok-key.rest.now (tag_text t ++ 32 ∷ value_text v) key.1.0 is (sym key.2 ∙ e) in
    c.in_err-expected.ensures.none t (value_text v) small same.1)

pub returns-in_err-value-clause-none : goal.returns-in_err-value-clause-none
returns-in_err-value-clause-none c = if_none c.from_residual-in_err-value.result (λ k t v is small fits e.
    let key = c.in_ok-key.ensures.found in
    let tag = c.in_ok-expected.ensures.found in
    let words = key_split key.0 k c.in_ok-key.rest.now (tag_text t ++ 32 ∷ value_text v) key.1.0 is (sym key.2 ∙ e) in
    let same = tag_split c.in_ok-expected.expected t c.in_ok-expected.rest.now (value_text v) tag.0 small (sym tag.1 ∙ words.1) in
    c.in_err-value.ensures.none v fits same.1)
