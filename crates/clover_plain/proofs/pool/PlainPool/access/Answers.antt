use Rattle.std.proofs.Common.{◌≡◌, ◌<◌, ℕ, length, Bool, true, false, ◌&&◌, refl, sym, ap, ◌∙◌, subst, arith}
use Rattle.std.specs.Prelude.{Some}
use Rattle.std.proofs.lemmas.List.{length-set}
use Rattle.clover_words.specs.declared.pool.Pool.{Pool}
use Rattle.clover_words.specs.declared.word.Word.{Word}
use Rattle.clover_words.specs.Place.{IsWithin, HasSide, address_of}
use Rattle.clover_rule.specs.Asks.{Asks}
use Rattle.clover_rule.specs.Learned.{found, words_after_step}
use Rattle.clover_rule.specs.Accesses.{words_after_act}
use Rattle.clover_rule.specs.Moves.{nobody}
use Rattle.clover_rule.specs.Steps.{Step}
use Rattle.clover_rule.specs.declared.access.Act.{Act}
use Rattle.clover_port.specs.Asked.{act_by}
use Rattle.clover_port.specs.Told.{Made}
use Rattle.clover_plain.specs.Kept.{meaning}
use Rattle.clover_plain.specs.Plain.{op_word, op_side, IsTurn, Plain, Stepped, grown, history, open_of, view_at}
use Rattle.clover_rule.proofs.Acting.{act_word, act_side, words_as, found_as, within_as}
use Rattle.clover_plain.proofs.Acting.{access_as, op_place}
use Rattle.clover_plain.proofs.Resting.{made_stepped, stands_stepped}
use Rattle.clover_plain.proofs.Stepping.{first_kept, nth_default}
use Rattle.clover_plain.proofs.pool.PlainPool.access.Goals as goal
use Rattle.clover_plain.proofs.pool.PlainPool.access.Goals.{After-note}

-- which step it is, and which access
abbrev step : (g : _) → After-note g → Step
step g c = g.M.StepName.step

abbrev act : (g : _) → After-note g → ℕ → Act
act g c n = act_by c.args.op n

abbrev inside_pool : (g : _) → After-note g → Pool
inside_pool g c = c.self.inside.setup.pool

-- the pool before the step and after it
abbrev before : (g : _) → After-note g → Plain
before g c = meaning c.self.inside

abbrev then : (g : _) → After-note g → Plain
then g c = meaning record { setup = c.self.inside.setup; words = c.apply-found.new.words; seats = c.set_view.new.seats; knowing = c.self.inside.knowing; begun = c.self.inside.begun; beginning = c.self.inside.beginning; entries = c.self.inside.entries; traced = c.self.inside.traced; trace = c.note.new.trace; made = c.saturating_add-self-inside.result; opened = c.self.inside.opened; whole = c.self.inside.whole && c.args.list }

turn : (g : _) (c : After-note g) → IsTurn (before g c) c.args.seat
turn g c = subst (λ (p : Plain). IsTurn p c.args.seat) (sym c.self.view_is) c.requires.turn

asks : (g : _) (c : After-note g) → Asks (inside_pool g c) (step g c) (view_at (before g c) c.args.seat)
asks g c = subst (λ (p : Plain). Asks p.setup.pool (step g c) (view_at p c.args.seat)) (sym c.self.view_is) c.requires.rule

below : (g : _) (c : After-note g) → c.args.seat < length (before g c).views
below g c = subst (λ (p : Plain). c.args.seat < length p.views) (sym c.self.view_is) c.requires.seat

-- the number that is found is the step's
found_is : (g : _) (c : After-note g) → c.apply-found.result ≡ found (inside_pool g c) (step g c) c.self.inside.words
found_is g c = let o = op_place c.args.op in found_as (inside_pool g c) c.self.inside.words (step g c) (act g c) c.requires.step _ c.apply-found.result (ap (λ (w : Word). address_of (inside_pool g c) w (op_side c.args.op)) o.0 ∙ ap (address_of (inside_pool g c) (act_word (act g c 0))) o.1) c.apply-found.ensures.found

words_are : (g : _) (c : After-note g) → c.apply-found.new.words ≡ words_after_step (inside_pool g c) (step g c) c.self.inside.words
words_are g c = c.apply-found.ensures.after ∙ ap (λ (n : ℕ). words_after_act (inside_pool g c) c.self.inside.words (act g c n)) (found_is g c) ∙ sym (words_as (inside_pool g c) c.self.inside.words (step g c) (act g c) c.requires.step)

of_run : (g : _) (c : After-note g) → ((then g c).first ≡ (before g c).first) × ((then g c).used ≡ (before g c).used)
of_run g c =
    let there = nth_default (before g c).views c.args.seat nobody (below g c) in
    first_kept (before g c).views (then g c).views c.args.seat (view_at (before g c) c.args.seat) g.M.StepName.first (step g c) (history (before g c)) c.apply-found.result there (c.set_view.ensures.views (view_at (before g c) c.args.seat) there)

stepped : (g : _) (c : After-note g) → Stepped (step g c) g.M.StepName.first c.args.list c.args.seat c.apply-found.result (before g c) (then g c)
stepped g c = record {
  found = found_is g c;
  words = words_are g c;
  views = c.set_view.ensures.views (view_at (before g c) c.args.seat) (nth_default (before g c).views c.args.seat nobody (below g c));
  accesses = c.note.ensures.list ∙ ap (λ (z : Act). grown (c.self.inside.traced && c.args.list) c.self.inside.trace.items (record { actor = c.actor_of.result; act = z; refused = false })) c.act_of.ensures ∙ ap (λ x. grown (c.self.inside.traced && c.args.list) c.self.inside.trace.items x) (access_as (step g c) (act g c) c.requires.step c.self.inside.setup c.actor_of.result c.args.seat c.apply-found.result false c.actor_of.ensures);
  made = c.saturating_add-self-inside.ensures;
  whole = refl;
  same = record { setup = refl; first = (of_run g c).0; used = (of_run g c).1; start = refl; absent = refl; entries = refl; traced = refl; opened = refl; entry_room = refl };
}

pub apply-found-requires-clause-within : goal.apply-found-requires-clause-within
apply-found-requires-clause-within g c =
    let o = op_place c.args.op in
    let w = within_as c.self.inside.setup.pool g.M.StepName.step (λ n. act_by c.args.op n) c.requires.step (subst (λ (p : Plain). Asks p.setup.pool g.M.StepName.step (view_at p c.args.seat)) (sym c.self.view_is) c.requires.rule).0 in
    (subst (IsWithin c.self.inside.setup.pool) (sym o.0) w.0, subst (HasSide (op_word c.args.op)) (sym o.1) (subst (λ (z : Word). HasSide z (act_side (act_by c.args.op 0))) (sym o.0) w.1))

pub invariant_of-self : goal.invariant_of-self
invariant_of-self g c = record {
  stands = stands_stepped c.self.inside.opened (step g c) g.M.StepName.first c.args.list c.args.seat c.apply-found.result (before g c) (then g c) c.self.invariant.stands (turn g c) (below g c) (asks g c) (stepped g c);
  sized = ap length (words_are g c) ∙ length-set _ _ _ ∙ c.self.invariant.sized;
  seated = let y = c.set_view.ensures.length in let z = c.self.invariant.seated in omega arith;
  spare = let y = c.set_view.ensures.room in let z = c.self.invariant.spare in omega arith;
  seats = c.set_view.ensures.fits;
  one = c.self.invariant.one;
  beginning = c.self.invariant.beginning;
}

pub returns-clause-step : goal.returns-clause-step
returns-clause-step g c = subst (λ (p : Plain). Stepped (step g c) g.M.StepName.first c.args.list c.args.seat c.apply-found.result p (then g c)) c.self.view_is (stepped g c)

pub returns-clause-made : goal.returns-clause-made
returns-clause-made g c = subst (λ (p : Plain). Made p.setup.pool (step g c) g.M.StepName.first (view_at p c.args.seat) (Some (open_of p)) c.apply-found.result (view_at (then g c) c.args.seat) (Some (open_of (then g c)))) c.self.view_is
    (made_stepped c.self.inside.opened (step g c) g.M.StepName.first c.args.list c.args.seat c.apply-found.result (before g c) (then g c) c.self.invariant.stands (turn g c) (below g c) (asks g c) (stepped g c))
