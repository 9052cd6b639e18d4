use Rattle.std.proofs.Common.{◌≡◌, ℕ, ◌+◌, List, Bool, true, length, sym, ap, ◌∙◌, subst, arith}
use Rattle.std.specs.Prelude.{Option}
use Rattle.std.specs.Option.{option_map}
use Rattle.std.proofs.lemmas.List.{length-set}
use Rattle.clover_words.specs.Tag.{TagParts, tag_number}
use Rattle.clover_rule.specs.Content.{InRange}
use Rattle.clover_image.specs.Walking.{AreMarked, IsWalked, place_of}
use Rattle.clover_image.proofs.Answered.{handed_on}
use Rattle.clover_image.proofs.Walking.{fault_found, few_tags, link_range, longer, marked_more, more, next_at, walk_begins, walk_ends, walked_more}
use Rattle.clover_image.proofs.soundness.chain.Goals as goal

pub loop-step-init : goal.loop-step-init
loop-step-init c = record {
  range = λ t e. subst (λ (x : TagParts). InRange c.args.image.now.pool (tag_number x)) (let q : c.args.root ≡ t = cc in q) c.requires.range;
  sized = c.requires.sized;
  walked = λ slot tags root walked marked.
      (tags, walk_begins c.args.image.now slot (tag_number c.args.root) tags root walked, marked, ap (λ (ts : List ℕ). length ts) (walked.ahead slot (omega arith)));
}

pub version-requires-clause-next : goal.version-requires-clause-next
version-requires-clause-next c = next_at c.args.image.now (tag_number c.in-Some.tag) c.requires.nexts (c.loop-step.invariant.range c.in-Some.tag c.in-Some.is)

pub returns-in_err-next-in-Some-clause-err : goal.returns-in_err-next-in-Some-clause-err
returns-in_err-next-in-Some-clause-err c = λ slot tags root walked marked.
    let m = c.args.image.now in let t = tag_number c.in-Some.tag in
    let w = c.loop-step.invariant.walked slot tags root walked marked in
    let here = subst (λ (x : Option ℕ). IsWalked m slot x w.0) (ap (option_map tag_number) c.in-Some.is) w.1 in
    handed_on c.from_residual.result c.in_err-next-in-Some.field-0.0 _ c.from_residual.ensures.1
    (fault_found m slot t w.0 here c.loop-step.met w.2 (c.loop-step.invariant.range c.in-Some.tag c.in-Some.is) c.in_err-next-in-Some.field-0.0 c.in_err-next-in-Some.ensures.err)

pub returns-in-None-clause-ok : goal.returns-in-None-clause-ok
returns-in-None-clause-ok c = λ slot tags root walked marked.
    let m = c.args.image.now in
    let w = c.loop-step.invariant.walked slot tags root walked marked in
    let here = subst (λ (x : Option ℕ). IsWalked m slot x w.0) (ap (option_map tag_number) c.in-None.is) w.1 in
    (w.0, walk_ends m slot w.0 here, w.2)

pub loop-step-preserved : goal.loop-step-preserved
loop-step-preserved c =
    let m = c.args.image.now in let t = tag_number c.in-Some.tag in
    let said = c.in_ok-next-in-Some.ensures in let range = c.loop-step.invariant.range c.in-Some.tag c.in-Some.is in
    record {
      range = λ u e. link_range m t (tag_number u) c.requires.nexts range (said.ok.links ∙ ap (option_map tag_number) e);
      sized = ap (λ (l : List Bool). length l) said.marked ∙ length-set c.loop-step.met (place_of m.pool t) true ∙ c.loop-step.invariant.sized;
      walked = λ slot tags root walked marked.
          let w = c.loop-step.invariant.walked slot tags root walked marked in
          let here = subst (λ (x : Option ℕ). IsWalked m slot x w.0) (ap (option_map tag_number) c.in-Some.is) w.1 in
          let y = option_map tag_number c.in_ok-next-in-Some.next in (
            more m slot t w.0 here c.loop-step.met w.2 range y said.ok said.fresh,
            walked_more m slot t w.0 here c.loop-step.met w.2 range y said.ok said.fresh,
            subst (AreMarked m.pool (more m slot t w.0 here c.loop-step.met w.2 range y said.ok said.fresh)) (sym said.marked) (marked_more m slot t w.0 here c.loop-step.met w.2 range y said.ok said.fresh),
            longer m slot t w.0 here c.loop-step.met w.2 range y said.ok said.fresh ∙ ap (λ (n : ℕ). n + 1) w.3,
          );
    }

pub returns-clause-ok : goal.returns-clause-ok
returns-clause-ok c = λ slot tags root walked marked.
    let m = c.args.image.now in
    let w = c.loop-step.invariant.walked slot tags root walked marked in
    let few = few_tags m slot (option_map tag_number c.loop-step.next) w.0 w.1 in
    let sized = c.loop-step.invariant.sized in let count = w.3 in let past = c.loop-step-test.false in
    absurd (omega arith)
