use Rattle.std.proofs.Common.{◌≡◌, ◌<◌, ℕ, length, ap, rules, arith}
use Rattle.clover_script.specs.declared.choice.Choice.{Choice}
use Rattle.clover_script.specs.Split.{EndsWord}
use Rattle.clover_script.specs.Choice.{IsFurtherCut, further_cut, HasChoice}
use Rattle.clover_script.proofs.ChoiceLemmas.{next_item, cuts_end, cut_read}
use Rattle.clover_script.proofs.spelled_choice.are_further_cuts.Goals as goal

pub returns-in_default-clause-no : goal.returns-in_default-clause-no
returns-in_default-clause-no c t all are e =
    let left = c.loop-rest.invariant.no_other all are e in
    let some : 0 < length c.loop-rest.rest.now = search rules in
    (next_item IsFurtherCut further_cut EndsWord (λ cut r. ⊥) cuts_end c.loop-rest.rest.now (λ none. omega (arith, some, ap length none)) c.in_default.ensures.only left.0 left.1 left.2).5

pub loop-rest-preserved : goal.loop-rest-preserved
loop-rest-preserved c =
    let rest = c.loop-rest.rest.now in
    let stores = c.in-Some.field-0-0 in
    let after = c.in-Some.after.now in
    let found = c.in-Some.ensures.found in
    let some : 0 < length rest = search rules in
    let fits : stores < 18446744073709551616 = search rules in
    record {
      read = cut_read c.args.text.now rest after (stores, found.0) c.loop-rest.invariant.read (fits, found.1) found.3;
      no_other = λ all are e.
          let left = c.loop-rest.invariant.no_other all are e in
          let next = next_item IsFurtherCut further_cut EndsWord (λ (cut : ℕ × Choice) r. (stores ≡ cut.0) × HasChoice c.in-Some.field-0-1 cut.1 × (after ≡ r)) cuts_end rest (λ none. omega (arith, some, ap length none)) c.in-Some.ensures.only left.0 left.1 left.2 in
          (next.1, next.4, next.5.2);
    }
