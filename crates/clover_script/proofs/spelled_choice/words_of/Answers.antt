use Rattle.std.proofs.Common.{◌≡◌, ◌∙◌, List, [], ◌∷◌, ◌++◌, ap, sym, append_assoc, append-nil}
use Rattle.clover_words.specs.declared.word.Word.{Word}
use Rattle.clover_script.specs.Split.{EndsNumber}
use Rattle.clover_script.specs.Choice.{IsNamed, further_name}
use Rattle.clover_script.proofs.ChoiceLemmas.{next_item, no_item, names_end, first_name, some_name}
use Rattle.clover_script.proofs.spelled_choice.words_of.Goals as goal

pub returns-in_default : goal.returns-in_default
returns-in_default c words are e = absurd ((first_name (λ w r. ⊥) c.args.text.now c.in_default.ensures.only words are e).4)

pub loop-word-init : goal.loop-word-init
loop-word-init c words are e =
    let first = c.in-Some.first in
    let rest = c.in-Some.rest.now in
    let read = first_name (λ w r. (first ≡ w) × (rest ≡ r)) c.args.text.now c.in-Some.ensures.only words are e in
    let kept = c.in_ok-keep.ensures.ok ∙ ap (λ (l : List Word). l ++ first ∷ []) c.make-words.ensures in
    (read.1, read.2 ∙ ap (λ (w : Word). w ∷ read.1) (sym read.4.0) ∙ ap (λ (l : List Word). l ++ read.1) (sym kept), read.3, read.4.1)

pub loop-word-preserved : goal.loop-word-preserved
loop-word-preserved c words are e =
    let rest = c.loop-word.rest.now in
    let word = c.in-Some-further_name_front.word in
    let after = c.in-Some-further_name_front.after.now in
    let front = c.in-Some-further_name_front.ensures in
    let left = c.loop-word.invariant words are e in
    let next = next_item IsNamed further_name EndsNumber (λ w r. (word ≡ w) × (after ≡ r)) names_end rest (λ none. some_name word after (sym front.found.1 ∙ none)) front.only left.0 left.2 left.3 in
    let more = next.2 ∙ ap (λ (w : Word). w ∷ next.1) (sym next.5.0) in (
      next.1,
      left.1 ∙ ap (λ (l : List Word). c.loop-word.words ++ l) more ∙ sym (append_assoc c.loop-word.words (word ∷ []) next.1) ∙ ap (λ (l : List Word). l ++ next.1) (sym c.in_ok-keep-2.ensures.ok),
      next.4,
      next.5.1,
    )

pub returns : goal.returns
returns c words are e =
    let left = c.loop-word.invariant words are e in
    let none = no_item IsNamed further_name EndsNumber names_end c.loop-word.rest.now c.in_default-further_name_front.ensures.only left.0 left.2 left.3 in
    sym (left.1 ∙ ap (λ (l : List Word). c.loop-word.words ++ l) none ∙ append-nil c.loop-word.words)
