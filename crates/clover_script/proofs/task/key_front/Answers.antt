use Rattle.std.proofs.Common.{◌∙◌, sym}
use Rattle.clover_script.specs.Coded.{coded}
use Rattle.clover_script.proofs.LineLemmas.{one_split, no_split, if_none}
use Rattle.clover_script.proofs.SpellingLemmas.{coded_lacks}
use Rattle.clover_script.proofs.task.key_front.Goals as goal

pub returns-in_err-word-clause-none : goal.returns-in_err-word-clause-none
returns-in_err-word-clause-none c = if_none c.from_residual.result (λ k rest is e. no_split 32 c.args.text.now (coded k) rest c.in_err-word.ensures.none e)

pub returns-in_err-key-clause-none : goal.returns-in_err-key-clause-none
returns-in_err-key-clause-none c = if_none c.from_residual-in_err-key.result (λ k rest is e.
    let cut = c.in_ok-word.ensures in
    let same = one_split 32 c.in_ok-word.word.now (coded k) c.in_ok-word.rest.now rest cut.first (coded_lacks k is.2) (sym cut.found ∙ e) in
    c.in_err-key.ensures.none k is same.0)
