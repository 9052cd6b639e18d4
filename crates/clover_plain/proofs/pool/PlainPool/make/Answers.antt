use Rattle.std.proofs.Common.{◌≡◌, ◌+◌, ◌++◌, append-nil, ℕ, List, [], length, replicate, true, refl, sym, ap, ◌∙◌, subst, arith}
use Rattle.std.proofs.lemmas.List.{length-replicate}
use Rattle.std.specs.FinMap as finite
use Rattle.clover_words.specs.Place.{pool_words}
use Rattle.clover_map.specs.declared.call.Entry.{Entry}
use Rattle.clover_rule.specs.Lists.{IsPrefix}
use Rattle.clover_rule.specs.Moves.{nobody}
use Rattle.clover_rule.specs.Rule.{longest}
use Rattle.clover_rule.specs.declared.view.View.{View}
use Rattle.clover_plain.specs.Kept.{meaning}
use Rattle.clover_plain.specs.Plain.{Plain, IsFresh, Running, history}
use Rattle.clover_plain.proofs.Opening.{opened_history, opened_rule}
use Rattle.clover_plain.proofs.Seating.{first_there, length_seats, length_views, used_there}
use Rattle.clover_plain.proofs.Stepping.{rule_as}
use Rattle.clover_plain.proofs.pool.PlainPool.make.Goals as goal
use Rattle.clover_plain.proofs.pool.PlainPool.make.Goals.{After-new-2}

abbrev made : After-new-2 → Plain
made c = meaning record { setup = c.args.setup; words = c.in_ok-words.words; seats = c.open_views.new.seats; knowing = c.in_ok-knowing.knowing; begun = c.begin.new.begun; beginning = c.in_ok-beginning.beginning; entries = c.new.result; traced = c.args.trace; trace = c.new-2.result; made = 0; opened = true; whole = true }

seated : (c : After-new-2) → length c.open_views.new.seats.items ≡ c.args.setup.clients + 1
seated c = c.open_views.ensures.length ∙ length_seats c.in_ok-seats.seats.items (c.args.setup.clients + 1) nobody c.in_ok-seats.ensures.seats.1

seats : (c : After-new-2) → length (made c).views ≡ c.args.setup.clients + 1
seats c = length_views c.open_views.new.seats.items ∙ seated c

absent : (c : After-new-2) → (made c).absent ≡ []
absent c = c.begin.ensures.views

all : (c : After-new-2) → (made c).views ++ (made c).absent ≡ (made c).views
all c = ap (λ (l : List View). (made c).views ++ l) (absent c) ∙ append-nil (made c).views

first : (c : After-new-2) → (made c).first ≡ finite.empty
first c = first_there (made c).views finite.empty (let z = seats c in omega arith) (λ i v e. ap (λ (u : View). u.pass.map) (c.open_views.ensures.views i v e))

used : (c : After-new-2) → (made c).used ≡ []
used c = used_there (made c).views [] (let z = seats c in omega arith) (λ i v e. ap (λ (u : View). u.pass.used) (c.open_views.ensures.views i v e))

words_are : (c : After-new-2) → c.in_ok-words.words ≡ replicate (pool_words c.args.setup.pool) 0
words_are c = c.in_ok-words.ensures ∙ ap (λ (n : ℕ). replicate n 0) c.len.ensures.value

no_history : (c : After-new-2) → history (made c) ≡ []
no_history c = ap longest (all c) ∙ opened_history c.args.setup c.in_ok-words.words (words_are c) (made c).views (seats c) c.open_views.ensures.views

fresh : (c : After-new-2) → IsFresh (made c)
fresh c = record {
  opened = refl;
  first = first c;
  used = used c;
  start = c.begin.ensures.words;
  absent = absent c;
  history = no_history c;
  entries = c.new.ensures.items;
  accesses = c.new-2.ensures.items;
  made = refl;
  whole = refl;
}

running : (c : After-new-2) → Running (made c)
running c = record {
  rule = rule_as _ _ finite.empty (made c).first [] (made c).used _ _ (made c).views _ [] (history (made c)) refl (first c) (used c) refl (all c) (no_history c)
      (opened_rule c.args.setup c.in_ok-words.words (words_are c) (made c).views (seats c) c.open_views.ensures.views);
  entered = subst (λ (l : List Entry). IsPrefix l (history (made c))) (sym c.new.ensures.items) (history (made c), refl);
  story = ([], [], record { replays = tt; ends = c.begin.ensures.words; count = refl }, λ t w. sym c.new-2.ensures.items);
  untraced = λ t. c.new-2.ensures.items;
  roles = λ i v e. ap (λ (u : View). u.pass.role) (c.open_views.ensures.views i v e);
}

pub invariant_of-result : goal.invariant_of-result
invariant_of-result c = record {
  stands = running c;
  sized = ap length (words_are c) ∙ length-replicate _ _;
  seated = let z = seated c in omega arith;
  spare = let x = c.open_views.ensures.room in let y = c.in_ok-seats.ensures.spare in omega arith;
  seats = c.open_views.ensures.fits;
  one = let e = c.in_ok-knowing.ensures.0 in omega arith;
  beginning = (c.begin.ensures.fits, let e = c.in_ok-beginning.ensures.0 in omega arith);
}

pub returns-clause-fresh : goal.returns-clause-fresh
returns-clause-fresh c = fresh c

pub returns-clause-views : goal.returns-clause-views
returns-clause-views c = (seats c, c.open_views.ensures.views)
