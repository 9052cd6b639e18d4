use Rattle.std.proofs.Common.{◌≡◌, ◌<◌, ◌∙◌, ◌∷◌, ◌++◌, length, ap, rules, arith, append-nil}
use Rattle.std.proofs.lemmas.List.Elements.{All-cons}
use Rattle.clover_script.specs.Split.{EndsNumber}
use Rattle.clover_script.specs.Choice.{IsNamed, further_name, names_text}
use Rattle.clover_script.proofs.ChoiceLemmas.{next_item, names_end, first_name, first_name_read, name_read, no_bytes}
use Rattle.clover_script.proofs.spelled_choice.are_names.Goals as goal

pub returns-in_default-clause-no : goal.returns-in_default-clause-no
returns-in_default-clause-no c t words are e = (first_name (λ w r. ⊥) c.args.text.now c.in_default.ensures.only words are e).4

pub loop-rest-init : goal.loop-rest-init
loop-rest-init c =
    let word = c.in-Some.field-0-0 in
    let rest = c.in-Some.rest.now in
    record {
      read = first_name_read c.args.text.now rest word c.in-Some.ensures.found.0 c.in-Some.ensures.found.1;
      no_other = λ words are e.
          let read = first_name (λ w r. (word ≡ w) × (rest ≡ r)) c.args.text.now c.in-Some.ensures.only words are e in
          (read.1, read.3, read.4.1);
    }

pub returns-in_default-further_name_front-clause-no : goal.returns-in_default-further_name_front-clause-no
returns-in_default-further_name_front-clause-no c t words are e =
    let left = c.loop-rest.invariant.no_other words are e in
    let some : 0 < length c.loop-rest.rest.now = search rules in
    (next_item IsNamed further_name EndsNumber (λ w r. ⊥) names_end c.loop-rest.rest.now (λ none. omega (arith, some, ap length none)) c.in_default-further_name_front.ensures.only left.0 left.1 left.2).5

pub loop-rest-preserved : goal.loop-rest-preserved
loop-rest-preserved c =
    let rest = c.loop-rest.rest.now in
    let word = c.in-Some-further_name_front.field-0-0 in
    let after = c.in-Some-further_name_front.after.now in
    let front = c.in-Some-further_name_front.ensures in
    let some : 0 < length rest = search rules in
    record {
      read = name_read c.args.text.now rest after word c.loop-rest.invariant.read front.found.0 front.found.1;
      no_other = λ words are e.
          let left = c.loop-rest.invariant.no_other words are e in
          let next = next_item IsNamed further_name EndsNumber (λ w r. (word ≡ w) × (after ≡ r)) names_end rest (λ none. omega (arith, some, ap length none)) front.only left.0 left.1 left.2 in
          (next.1, next.4, next.5.1);
    }

pub returns-clause-yes : goal.returns-clause-yes
returns-clause-yes c t =
    let read = c.loop-rest.invariant.read in
    let none : length c.loop-rest.rest.now ≡ 0 = search rules in
    let words = read.first ∷ read.more in
    (words, ((λ e. cc), All-cons IsNamed read.first read.more read.is read.are), read.parts ∙ ap (λ l. names_text words ++ l) (no_bytes c.loop-rest.rest.now none) ∙ append-nil (names_text words))
