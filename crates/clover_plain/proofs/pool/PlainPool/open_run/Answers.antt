use Rattle.std.proofs.Common.{◌≡◌, ◌+◌, ◌<◌, ◌≤◌, ℕ, List, [], length, Bool, true, false, set, get_or, get_or-set_other, get_or-set_same, refl, sym, ap, ◌∙◌, subst, arith}
use Rattle.std.proofs.lemmas.List.{length-set}
use Rattle.clover_rule.specs.Moves.{nobody}
use Rattle.clover_rule.specs.declared.view.View.{View}
use Rattle.clover_plain.specs.Kept.{AllFit, meaning, views_of}
use Rattle.clover_plain.specs.Plain.{IsDown, Plain, Stands, history, resting_view, restart_view, view_at}
use Rattle.clover_plain.specs.Reopening.{AreOfWords, serving_view, with_server}
use Rattle.clover_plain.proofs.Reopening.{none, of_run, runs, views_take}
use Rattle.clover_plain.proofs.Seating.{S, fit_take, length_take, length_views}
use Rattle.clover_plain.proofs.Stepping.{nth_default}
use Rattle.clover_plain.proofs.pool.PlainPool.open_run.Goals as goal
use Rattle.clover_plain.proofs.pool.PlainPool.open_run.Goals.{After-self-1}

abbrev before : After-self-1 → Plain
before c = meaning c.self.inside

is_down : (c : After-self-1) → IsDown (before c)
is_down c = subst (λ (b : Bool). Stands b (before c)) (ap (λ (p : Plain). p.opened) c.self.view_is ∙ c.requires.down) c.self.invariant.stands

no_more : (c : After-self-1) → (restart_view (before c)).plan ≡ []
no_more c = ap (λ (p : Plain). (restart_view p).plan) c.self.view_is ∙ c.requires.done

agree : (c : After-self-1) → AreOfWords c.self.inside.setup.pool c.self.inside.words c.args.books.now c.args.directory.now
agree c = subst (λ (p : Plain). AreOfWords p.setup.pool p.words c.args.books.now c.args.directory.now) (sym c.self.view_is) c.requires.agree

-- the seats of the clients and the server
abbrev front : After-self-1 → List View
front c = views_of c.truncate.new.self.items

front_long : (c : After-self-1) → length (front c) ≡ c.self.inside.setup.clients + 1
front_long c =
    let many = (is_down c).seats in
    let seats = length_views c.self.inside.seats.items in
    length_views c.truncate.new.self.items ∙ ap length c.truncate.ensures.items ∙ length_take c.self.inside.seats.items (c.self.inside.setup.clients + 1) (omega arith)

front_at : (c : After-self-1) (i : ℕ) → i ≤ c.self.inside.setup.clients → get_or (front c) i nobody ≡ resting_view (before c) i
front_at c i low = ap (λ (l : List S). get_or (views_of l) i nobody) c.truncate.ensures.items ∙ views_take c.self.inside.seats.items (c.self.inside.setup.clients + 1) i (omega arith) ∙ (is_down c).renewed i low

abbrev views : After-self-1 → List View
views c = views_of c.serve_view.new.seats.items

views_are : (c : After-self-1) → views c ≡ set (front c) c.self.inside.setup.clients (with_server c.self.inside.setup c.args.books.now c.args.directory.now (get_or (front c) c.self.inside.setup.clients nobody))
views_are c = c.serve_view.ensures.views _ (nth_default (front c) c.self.inside.setup.clients nobody (let z = front_long c in omega arith))

long : (c : After-self-1) → length (views c) ≡ c.self.inside.setup.clients + 1
long c = ap length (views_are c) ∙ length-set (front c) c.self.inside.setup.clients _ ∙ front_long c

clients : (c : After-self-1) (i : ℕ) → i < c.self.inside.setup.clients → get_or (views c) i nobody ≡ resting_view (before c) i
clients c i low = ap (λ (l : List View). get_or l i nobody) (views_are c) ∙ get_or-set_other (front c) c.self.inside.setup.clients i _ nobody (λ e. omega arith) ∙ front_at c i (omega arith)

server : (c : After-self-1) → get_or (views c) c.self.inside.setup.clients nobody ≡ serving_view (before c) c.args.books.now c.args.directory.now
server c = ap (λ (l : List View). get_or l c.self.inside.setup.clients nobody) (views_are c) ∙ get_or-set_same (front c) c.self.inside.setup.clients _ nobody (let z = front_long c in omega arith)
    ∙ ap (with_server c.self.inside.setup c.args.books.now c.args.directory.now) (front_at c c.self.inside.setup.clients (omega arith))

pub serve_view-requires-clause-fits : goal.serve_view-requires-clause-fits
serve_view-requires-clause-fits c = (
  subst (λ (l : List S). AllFit c.self.inside.knowing.shared.table_id l) (sym c.truncate.ensures.items) (fit_take c.self.inside.knowing.shared.table_id c.self.inside.seats.items (c.self.inside.setup.clients + 1) c.self.invariant.seats),
  c.self.invariant.one,
)

pub invariant_of-self : goal.invariant_of-self
invariant_of-self c = record {
  stands = runs (before c) (is_down c) (no_more c) c.args.books.now c.args.directory.now (agree c) (views c) (long c) (clients c) (server c);
  sized = c.self.invariant.sized;
  seated = let a = long c in let b = length_views c.serve_view.new.seats.items in omega arith;
  spare = let a = c.serve_view.ensures.room in let b = c.truncate.ensures.capacity in let z = c.self.invariant.spare in omega arith;
  seats = c.serve_view.ensures.fits;
  one = c.self.invariant.one;
  beginning = c.self.invariant.beginning;
}

pub returns-clause-history : goal.returns-clause-history
returns-clause-history c = (none (before c) (is_down c) (no_more c) c.args.books.now c.args.directory.now (agree c) (views c) (long c) (clients c) (server c), (is_down c).entries)

pub returns-clause-seats : goal.returns-clause-seats
returns-clause-seats c = subst (λ (p : Plain). length (views c) ≡ p.setup.clients + 1) c.self.view_is (long c)

pub returns-clause-clients : goal.returns-clause-clients
returns-clause-clients c = subst (λ (p : Plain). (i : ℕ) → i < p.setup.clients → get_or (views c) i nobody ≡ resting_view p i) c.self.view_is (clients c)

pub returns-clause-server : goal.returns-clause-server
returns-clause-server c = subst (λ (p : Plain). get_or (views c) p.setup.clients nobody ≡ serving_view p c.args.books.now c.args.directory.now) c.self.view_is (server c)

pub returns-clause-run : goal.returns-clause-run
returns-clause-run c =
    let run = of_run (before c) (is_down c) (no_more c) c.args.books.now c.args.directory.now (agree c) (views c) (long c) (clients c) (server c) in
    (run.0 ∙ ap (λ (p : Plain). p.first) c.self.view_is, run.1 ∙ ap (λ (p : Plain). p.used) c.self.view_is)
