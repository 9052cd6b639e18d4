use Rattle.std.proofs.Common.{◌≡◌, ◌∙◌, ℕ, List, [], ◌∷◌, ◌++◌, ap, sym, append_assoc, append-nil}
use Rattle.clover_script.specs.declared.choice.Choice.{Choice}
use Rattle.clover_script.specs.Split.{EndsWord}
use Rattle.clover_script.specs.Choice.{IsFurtherCut, further_cut, HasChoice}
use Rattle.clover_script.proofs.ChoiceLemmas.{next_item, no_item, cuts_end, some_cut}
use Rattle.clover_script.proofs.spelled_choice.further_cuts_of.Goals as goal

pub loop-stores-preserved : goal.loop-stores-preserved
loop-stores-preserved c all are e =
    let rest = c.loop-stores.rest.now in
    let stores = c.in-Some.stores in
    let choice = c.in_ok-choice.choice in
    let after = c.in-Some.after.now in
    let found = c.in-Some.ensures.found in
    let left = c.loop-stores.invariant all are e in
    let next = next_item IsFurtherCut further_cut EndsWord (λ (cut : ℕ × Choice) r. (stores ≡ cut.0) × HasChoice c.in-Some.choice cut.1 × (after ≡ r)) cuts_end rest
    (λ none. some_cut (stores, found.0) after (sym found.3 ∙ none)) c.in-Some.ensures.only left.0 left.2 left.3 in
    let decoded = c.in_ok-choice.ensures next.0.1 next.3.1 next.5.1 in
    let same : (stores, choice) ≡ next.0 = λ i. (next.5.0 i, decoded i) in
    let more = next.2 ∙ ap (λ (cut : ℕ × Choice). cut ∷ next.1) (sym same) in (
      next.1,
      left.1 ∙ ap (λ (l : List (ℕ × Choice)). c.loop-stores.cuts ++ l) more ∙ sym (append_assoc c.loop-stores.cuts ((stores, choice) ∷ []) next.1)
          ∙ ap (λ (l : List (ℕ × Choice)). l ++ next.1) (sym c.in_ok-keep.ensures.ok),
      next.4,
      next.5.2,
    )

pub returns : goal.returns
returns c all are e =
    let left = c.loop-stores.invariant all are e in
    let none = no_item IsFurtherCut further_cut EndsWord cuts_end c.loop-stores.rest.now c.in_default.ensures.only left.0 left.2 left.3 in
    sym (left.1 ∙ ap (λ (l : List (ℕ × Choice)). c.loop-stores.cuts ++ l) none ∙ append-nil c.loop-stores.cuts)
