use Rattle.std.proofs.Common.{◌≡◌, ◌<◌, ◌≤◌, ◌-◌, ℕ, List, Bool, true, length, refl, set, sym, ap, ◌∙◌, subst, arith}
use Rattle.clover_rule.specs.Lists.{nth}
use Rattle.clover_rule.specs.Moves.{MayHand, given}
use Rattle.clover_rule.specs.declared.access.Actor.TheVariants.{Client, Server}
use Rattle.clover_rule.specs.declared.view.View.{View}
use Rattle.clover_dir.specs.Bindings.{pairs_of}
use Rattle.clover_plain.specs.Handing.{Handed, numbers_of}
use Rattle.clover_plain.specs.Kept.{meaning, views_of}
use Rattle.clover_plain.specs.Plain.{IsActor, Plain, Running, Stands, first_of, history, used_of, view_at}
use Rattle.clover_plain.proofs.Handing.{both, client_then, first_both, history_same, running, server_at, used_both}
use Rattle.clover_plain.proofs.pool.PlainPool.hand_over.Goals as goal
use Rattle.clover_plain.proofs.pool.PlainPool.hand_over.Goals.{After-hand_view-2}

-- the pool before
abbrev before : After-hand_view-2 → Plain
before c = meaning c.self.inside

abbrev batch : After-hand_view-2 → List ℕ
batch c = numbers_of c.args.batch.now

abbrev names : After-hand_view-2 → List (ℕ × List ℕ)
names c = pairs_of c.args.names.now

opened_before : (c : After-hand_view-2) → c.self.inside.opened ≡ true
opened_before c = ap (λ (p : Plain). p.opened) c.self.view_is ∙ c.requires.opened

running_before : (c : After-hand_view-2) → Running (before c)
running_before c = subst (λ (b : Bool). Stands b (before c)) (opened_before c) c.self.invariant.stands

server : (c : After-hand_view-2) → (before c).setup.clients < length (before c).views
server c = let a : IsActor (before c) Server = subst (λ (p : Plain). IsActor p Server) (sym c.self.view_is) c.requires.server in subst (λ (n : ℕ). n < length (before c).views) a.1.0 a.1.1

client : (c : After-hand_view-2) → (1 ≤ c.args.client) × (c.args.client ≤ (before c).setup.clients)
client c = let a : IsActor (before c) (Client c.args.client) = subst (λ (p : Plain). IsActor p (Client c.args.client)) (sym c.self.view_is) c.requires.client in (a.1.0, a.1.1)

may : (c : After-hand_view-2) → MayHand (before c).setup.pool (view_at (before c) (before c).setup.clients) (view_at (before c) (c.args.client - 1)) (batch c) (names c)
may c = subst (λ (p : Plain). MayHand p.setup.pool (view_at p p.setup.clients) (view_at p (c.args.client - 1)) (batch c) (names c)) (sym c.self.view_is) c.requires.may

-- the views behind both
views : (c : After-hand_view-2) → views_of c.hand_view-2.new.seats.items ≡ both (before c) c.args.client (batch c) (names c) (running_before c) (server c) (client c).0 (client c).1 (may c)
views c =
    let p = before c in
    let r = running_before c in
    let l = client c in
    let e = c.hand_view.ensures.views (view_at p p.setup.clients) (server_at p c.args.client (batch c) (names c) r (server c) l.0 l.1 (may c)) in
    c.hand_view-2.ensures.views (view_at p (c.args.client - 1)) (ap (λ (vs : List View). nth vs (c.args.client - 1)) e ∙ client_then p c.args.client (batch c) (names c) r (server c) l.0 l.1 (may c))
    ∙ ap (λ (vs : List View). set vs (c.args.client - 1) (given (batch c) (names c) (view_at p (c.args.client - 1)))) e

-- the pool behind them
abbrev then : After-hand_view-2 → Plain
then c = meaning record { setup = c.self.inside.setup; words = c.self.inside.words; seats = c.hand_view-2.new.seats; knowing = c.self.inside.knowing; begun = c.self.inside.begun; beginning = c.self.inside.beginning; entries = c.self.inside.entries; traced = c.self.inside.traced; trace = c.self.inside.trace; made = c.self.inside.made; opened = c.self.inside.opened; whole = c.self.inside.whole }

first : (c : After-hand_view-2) → (then c).first ≡ (before c).first
first c = ap first_of (views c) ∙ first_both (before c) c.args.client (batch c) (names c) (running_before c) (server c) (client c).0 (client c).1 (may c)

used : (c : After-hand_view-2) → (then c).used ≡ (before c).used
used c = ap used_of (views c) ∙ used_both (before c) c.args.client (batch c) (names c) (running_before c) (server c) (client c).0 (client c).1 (may c)

running_then : (c : After-hand_view-2) → Running (then c)
running_then c = running (before c) c.args.client (batch c) (names c) (running_before c) (server c) (client c).0 (client c).1 (may c) (then c).views (then c).first (then c).used (views c) (first c) (used c)

history_then : (c : After-hand_view-2) → history (then c) ≡ history (before c)
history_then c = history_same (before c) c.args.client (batch c) (names c) (running_before c) (server c) (client c).0 (client c).1 (may c) (then c).views (then c).first (then c).used (views c) (first c) (used c)

handed : (c : After-hand_view-2) → Handed c.args.client (batch c) (names c) (before c) (then c)
handed c = record { views = views c; setup = refl; first = first c; used = used c; start = refl; words = refl; absent = refl; entries = refl; traced = refl; accesses = refl; made = refl; opened = refl; whole = refl; access_room = refl; entry_room = refl }

pub invariant_of-self : goal.invariant_of-self
invariant_of-self c = record {
  stands = subst (λ (b : Bool). Stands b (then c)) (sym (opened_before c)) (running_then c);
  sized = c.self.invariant.sized;
  seated = let x = c.hand_view-2.ensures.length in let y = c.hand_view.ensures.length in let z = c.self.invariant.seated in omega arith;
  spare = let x = c.hand_view-2.ensures.room in let y = c.hand_view.ensures.room in let z = c.self.invariant.spare in omega arith;
  seats = c.hand_view-2.ensures.fits;
  one = c.self.invariant.one;
  beginning = c.self.invariant.beginning;
}

pub returns-clause-handed : goal.returns-clause-handed
returns-clause-handed c = subst (λ (p : Plain). Handed c.args.client (batch c) (names c) p (then c)) c.self.view_is (handed c)

pub returns-clause-history : goal.returns-clause-history
returns-clause-history c = history_then c ∙ ap history c.self.view_is
