use Rattle.std.proofs.Common.{◌≡◌, ◌≤◌, ◌++◌, append-nil, List, [], length, Bool, refl, sym, ap, ◌∙◌, subst, arith}
use Rattle.std.specs.FinMap as finite
use Rattle.clover_words.specs.Preset.{buffers_total}
use Rattle.clover_map.specs.declared.call.Entry.{Entry}
use Rattle.clover_rule.specs.Lists.{IsPrefix}
use Rattle.clover_rule.proofs.Tools.{nth_within}
use Rattle.clover_rule.specs.Rule.{Rule, longest}
use Rattle.clover_rule.specs.declared.view.View.{View}
use Rattle.clover_plain.specs.Kept.{AllFit, meaning}
use Rattle.clover_plain.specs.Plain.{Plain, Running, IsFresh, Stands, history}
use Rattle.clover_plain.proofs.Opening.{client_role}
use Rattle.clover_plain.specs.Preset.{IsPreset}
use Rattle.clover_plain.proofs.PresetRule.{preset_rule, preset_history}
use Rattle.clover_plain.proofs.Seating.{S, first_there, fit_take, length_take, length_views, used_there}
use Rattle.clover_plain.proofs.Stepping.{rule_as}
use Rattle.clover_plain.proofs.pool.PlainPool.preset.Goals as goal
use Rattle.clover_plain.proofs.pool.PlainPool.preset.Goals.{After-begin}

-- the pool before and after
abbrev before : After-begin → Plain
before c = meaning c.self.inside

abbrev then : After-begin → Plain
then c = meaning record { setup = c.self.inside.setup; words = c.fill.new.words; seats = c.deal_views.new.seats; knowing = c.self.inside.knowing; begun = c.begin.new.begun; beginning = c.self.inside.beginning; entries = c.self.inside.entries; traced = c.self.inside.traced; trace = c.self.inside.trace; made = c.self.inside.made; opened = c.self.inside.opened; whole = c.self.inside.whole }

blank : (c : After-begin) → IsFresh (before c)
blank c = subst IsFresh (sym c.self.view_is) c.requires.fresh

seated : (c : After-begin) → length c.deal_views.new.seats.items ≡ c.self.inside.setup.clients
seated c = c.deal_views.ensures.length ∙ ap length c.truncate.ensures.items ∙ length_take c.self.inside.seats.items c.self.inside.setup.clients c.self.invariant.seated

seats_are : (c : After-begin) → length (then c).views ≡ c.self.inside.setup.clients
seats_are c = length_views c.deal_views.new.seats.items ∙ seated c

slots : (c : After-begin) → length c.args.keys.now ≤ c.self.inside.setup.pool.slots
slots c = subst (λ (p : Plain). length c.args.keys.now ≤ p.setup.pool.slots) (sym c.self.view_is) c.requires.slots

buffers : (c : After-begin) → c.self.inside.setup.pool.slots ≤ buffers_total c.self.inside.setup.pool
buffers c = subst (λ (p : Plain). p.setup.pool.slots ≤ buffers_total p.setup.pool) (sym c.self.view_is) c.requires.buffers

rule : (c : After-begin) → Rule c.self.inside.setup.pool finite.empty [] c.fill.new.words (then c).views []
rule c = preset_rule c.self.inside.setup c.args.keys.now c.fill.new.words (c.fill.ensures.sized ∙ c.self.invariant.sized) c.fill.ensures.words (slots c) (buffers c) c.are_keys.ensures c.requires.distinct (then c).views (seats_are c) c.deal_views.ensures.views

absent : (c : After-begin) → (then c).absent ≡ []
absent c = c.begin.ensures.views

all : (c : After-begin) → (then c).views ++ (then c).absent ≡ (then c).views
all c = ap (λ (l : List View). (then c).views ++ l) (absent c) ∙ append-nil (then c).views

first : (c : After-begin) → (then c).first ≡ finite.empty
first c = first_there (then c).views finite.empty (let z = seats_are c in let y = c.self.inside.setup.some_client in omega arith) (λ i v e. ap (λ (u : View). u.pass.map) (c.deal_views.ensures.views i v e))

used : (c : After-begin) → (then c).used ≡ []
used c = used_there (then c).views [] (let z = seats_are c in let y = c.self.inside.setup.some_client in omega arith) (λ i v e. ap (λ (u : View). u.pass.used) (c.deal_views.ensures.views i v e))

no_history : (c : After-begin) → history (then c) ≡ []
no_history c = ap longest (all c) ∙ preset_history c.self.inside.setup c.args.keys.now c.fill.new.words (c.fill.ensures.sized ∙ c.self.invariant.sized) c.fill.ensures.words (slots c) (buffers c) c.are_keys.ensures c.requires.distinct (then c).views (seats_are c) c.deal_views.ensures.views

fresh : (c : After-begin) → IsFresh (then c)
fresh c = record {
  opened = (blank c).opened;
  first = first c;
  used = used c;
  start = c.begin.ensures.words;
  absent = absent c;
  history = no_history c;
  entries = (blank c).entries;
  accesses = (blank c).accesses;
  made = (blank c).made;
  whole = (blank c).whole;
}

running : (c : After-begin) → Running (then c)
running c = record {
  rule = rule_as _ _ finite.empty (then c).first [] (then c).used _ _ (then c).views _ [] (history (then c)) refl (first c) (used c) refl (all c) (no_history c) (rule c);
  entered = subst (λ (l : List Entry). IsPrefix l (history (then c))) (sym (blank c).entries) (history (then c), refl);
  story = ([], [], record { replays = tt; ends = c.begin.ensures.words; count = (blank c).made }, λ t w. sym (blank c).accesses);
  untraced = λ t. (blank c).accesses;
  roles = λ i v e. ap (λ (u : View). u.pass.role) (c.deal_views.ensures.views i v e) ∙ sym (client_role c.self.inside.setup i (let z = nth_within (then c).views i v e in let y = seats_are c in omega arith));
}

pub deal_views-requires : goal.deal_views-requires
deal_views-requires c = record { fits = (subst (λ (l : List S). AllFit c.self.inside.knowing.shared.table_id l) (sym c.truncate.ensures.items) (fit_take _ c.self.inside.seats.items c.self.inside.setup.clients c.self.invariant.seats), c.self.invariant.one) }

pub invariant_of-self : goal.invariant_of-self
invariant_of-self c = record {
  stands = subst (λ (b : Bool). Stands b (then c)) (sym (blank c).opened) (running c);
  sized = c.fill.ensures.sized ∙ c.self.invariant.sized;
  seated = let z = seated c in omega arith;
  spare = let x = c.deal_views.ensures.room in let y = c.truncate.ensures.capacity in let z = c.self.invariant.spare in omega arith;
  seats = c.deal_views.ensures.fits;
  one = c.self.invariant.one;
  beginning = (c.begin.ensures.fits, c.self.invariant.beginning.1);
}

pub returns-clause-words : goal.returns-clause-words
returns-clause-words c = subst (λ (p : Plain). IsPreset p.setup c.args.keys.now c.fill.new.words) c.self.view_is c.fill.ensures.words

pub returns-clause-fresh : goal.returns-clause-fresh
returns-clause-fresh c = fresh c
