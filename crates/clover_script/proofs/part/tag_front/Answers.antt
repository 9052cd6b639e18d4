use Rattle.std.proofs.Common.{◌∙◌, sym}
use Rattle.clover_script.specs.Text.{tag_text}
use Rattle.clover_script.proofs.LineLemmas.{if_none, one_split, no_split}
use Rattle.clover_script.proofs.PartLemmas.{tag_lacks}
use Rattle.clover_script.proofs.part.tag_front.Goals as goal

pub returns-in_err-word-clause-none : goal.returns-in_err-word-clause-none
returns-in_err-word-clause-none c = if_none c.from_residual.result (λ t rest lt e. no_split 32 c.args.text.now (tag_text t) rest c.in_err-word.ensures.none e)

pub returns-in_err-tag-clause-none : goal.returns-in_err-tag-clause-none
returns-in_err-tag-clause-none c = if_none c.from_residual-in_err-tag.result (λ t rest lt e.
    let cut = c.in_ok-word.ensures in
    let same = one_split 32 c.in_ok-word.word.now (tag_text t) c.in_ok-word.rest.now rest cut.first (tag_lacks t lt) (sym cut.found ∙ e) in
    c.in_err-tag.ensures.none t lt same.0)
