-- The pool that a restart left is as the next run begins: its words are those that the restart stored, the server has the books and the directory of these words, and the clients know nothing.
use Rattle.std.proofs.Common.{◌≡◌, ℕ, ◌+◌, ◌<◌, length, List, [], Bool, true, false, append-nil, refl, sym, ap, ◌∙◌, subst}
use Rattle.clover_words.specs.declared.setup.Setup.{Setup}
use Rattle.clover_alloc.specs.Ledger.{Ledger, IsLedger}
use Rattle.clover_dir.specs.Directory.{Bindings}
use Rattle.clover_map.specs.Tagged.{Tagged}
use Rattle.clover_rule.specs.declared.access.Access.{Access}
use Rattle.clover_rule.specs.declared.view.View.{View}
use Rattle.clover_plain.specs.Plain.{Plain, Running, history, resting_view, view_at}
use Rattle.clover_plain.specs.Reopening.{serving_view, with_server}
use Rattle.clover_plain.proofs.Opening.{client_role}
use Rattle.clover_server.specs.Holding.{Agrees}
use Rattle.clover_server.specs.Server.{ServerState, new_server}
use Rattle.clover_run.specs.Folds.{listed_in}
use Rattle.clover_run.specs.Machine.{new_side}
use Rattle.clover_run.specs.Power.{Reopens}
use Rattle.clover_run.specs.Reopening.{NewSideLaw}
use Rattle.clover_run.specs.Run.{Opening}
use Rattle.clover_run.specs.declared.served.Served.{Served}
use Rattle.clover_run.proofs.Made.{IsNew, IsNewServed, IsNewView}

-- how a run was opened over the pool p, which was down
pub record IsOpened (p : Plain) (books : Ledger) (d : Bindings) (q : Plain) : Type 0 where
  pub opened : q.opened ≡ true
  pub history : (history q ≡ []) × (q.entries ≡ [])
  pub seats : length q.views ≡ p.setup.clients + 1
  pub clients : (i : ℕ) → i < p.setup.clients → view_at q i ≡ resting_view p i
  pub server : view_at q p.setup.clients ≡ serving_view p books d
  pub run : (q.first ≡ p.first) × (q.used ≡ p.used)
  pub words : q.words ≡ p.words
  pub accesses : (q.accesses ≡ p.accesses) × (q.made ≡ p.made) × (q.whole ≡ p.whole)
  pub setup : q.setup ≡ p.setup
  pub traced : q.traced ≡ p.traced

module _ (p q : Plain) (books : Ledger) (d : Bindings) (is : IsOpened p books d q) (running : Running q) (whole : IsLedger books) (of_books : books.pool ≡ p.setup.pool) (of_directory : d.pool ≡ p.setup.pool) (law : NewSideLaw) (one : p.whole ≡ true) where
  -- what the server knows, as the opened pool has it
  serving : view_at q q.setup.clients ≡ serving_view q books d
  serving =
      ap (λ (s : Setup). view_at q s.clients) is.setup
      ∙ is.server
      ∙ ap (λ (s : Setup). with_server s books d (resting_view (record p { setup = s }) s.clients)) (sym is.setup)
      ∙ ap (λ (m : Tagged). with_server q.setup books d (resting_view (record p { setup = q.setup; first = m }) q.setup.clients)) (sym is.run.0)
      ∙ ap (λ (u : List ℕ). with_server q.setup books d (resting_view (record p { setup = q.setup; first = q.first; used = u }) q.setup.clients)) (sym is.run.1)

  agrees : Agrees q.setup.pool [] (new_server q.setup books d) (view_at q q.setup.clients)
  agrees = law q books d running whole (of_books ∙ ap (λ (s : Setup). s.pool) (sym is.setup)) (of_directory ∙ ap (λ (s : Setup). s.pool) (sym is.setup)) serving

  module _ (o : Opening) (r : Reopens p books d o) where
    setup : q.setup ≡ o.setup
    setup = is.setup ∙ sym r.setup

    knows : (i : ℕ) → i < o.setup.clients → IsNewView o i (view_at q i)
    knows i below =
        let few : i < p.setup.clients = subst (λ (s : Setup). i < s.clients) r.setup below in
        let w = is.clients i few in
        record {
          pool = ap (λ (z : View). z.pass.pool) w ∙ ap (λ (s : Setup). s.pool) (sym r.setup);
          role = ap (λ (z : View). z.pass.role) w ∙ client_role p.setup i few;
          stock = ap (λ (z : View). z.pass.stock) w;
          names = ap (λ (z : View). z.pass.names) w;
        }

    pub new_in : IsNew o q
    new_in = record {
      setup = setup;
      first = is.run.0 ∙ sym r.first;
      used = is.run.1 ∙ sym r.used;
      opened = is.opened;
      whole = is.accesses.2 ∙ one;
      words = is.words ∙ sym r.words;
      entries = is.history.1;
      history = is.history.0;
      accesses = is.accesses.0 ∙ sym r.listed ∙ ap (λ (b : Bool). listed_in o.listed b []) (sym is.traced);
      made = is.accesses.1 ∙ sym r.made;
      seats = is.seats ∙ ap (λ (s : Setup). s.clients + 1) (sym r.setup);
      views = knows;
      agrees = subst (λ (v : Served). Agrees o.setup.pool [] v.server (view_at q o.setup.clients)) (sym r.served)
          (subst (λ (s : Setup). Agrees o.setup.pool [] (new_server s books d) (view_at q o.setup.clients)) is.setup
          (subst (λ (s : Setup). Agrees s.pool [] (new_server q.setup books d) (view_at q s.clients)) setup agrees));
    }

    pub served_in : IsNewServed o.served
    served_in = record {
      task = ap (λ (v : Served). v.server.task) r.served;
      read = ap (λ (v : Served). v.read) r.served;
      done = ap (λ (v : Served). v.done) r.served;
    }

-- an opening from such a pool, the first of its kind
abbrev pub opening_of : Plain → Ledger → Bindings → Opening
opening_of p books d = record { setup = p.setup; words = p.words; served = new_side p.setup books d; first = p.first; used = p.used; run = 1; made = p.made; listed = p.accesses }

pub reopens_so : (p : Plain) (books : Ledger) (d : Bindings) → (p.traced ≡ false → p.accesses ≡ []) → Reopens p books d (opening_of p books d)
reopens_so p books d untraced = record { setup = refl; words = refl; served = refl; first = refl; used = refl; made = refl; listed = by p.traced untraced }
  where
    by : (b : Bool) → (b ≡ false → p.accesses ≡ []) → listed_in p.accesses b [] ≡ p.accesses
    by true blank = append-nil p.accesses
    by false blank = sym (blank refl)
