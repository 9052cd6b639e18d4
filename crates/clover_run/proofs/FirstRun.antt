-- The pool that a setup makes is as its first run begins: its words are 0, the server has every buffer, and the clients know nothing.
use Rattle.std.proofs.Common.{◌≡◌, ℕ, ◌+◌, ◌≤◌, ◌<◌, length, replicate, List, [], Bool, true, false, refl, sym, ap, ◌∙◌, subst, arith}
use Rattle.std.specs.Prelude.{Some, if◌then◌else◌}
use Rattle.clover_words.specs.Place.{pool_words}
use Rattle.clover_words.specs.declared.setup.Setup.{Setup}
use Rattle.clover_rule.specs.Lists.{nth}
use Rattle.clover_rule.specs.Moves.{nobody}
use Rattle.clover_rule.specs.declared.access.Access.{Access}
use Rattle.clover_rule.specs.declared.view.View.{View}
use Rattle.clover_plain.specs.Plain.{Plain, IsFresh, first_view, view_at}
use Rattle.clover_plain.proofs.Opening.{client_role, server_role}
use Rattle.clover_plain.proofs.Stepping.{nth_default}
use Rattle.clover_server.specs.Holding.{Agrees}
use Rattle.clover_run.specs.Machine.{IsFirstSide, first_opening}
use Rattle.clover_run.specs.declared.served.Served.{Served}
use Rattle.clover_run.proofs.Made.{IsNew, IsNewServed, IsNewView}

-- what the pool is made as
pub record IsMade (s : Setup) (p : Plain) : Type 0 where
  pub setup : p.setup ≡ s
  pub words : p.words ≡ replicate (pool_words s.pool) 0
  pub seats : length p.views ≡ s.clients + 1
  pub views : (i : ℕ) (v : View) → nth p.views i ≡ Some v → v ≡ first_view s i
  pub fresh : IsFresh p

module _ (s : Setup) (p : Plain) (made : IsMade s p) (v : Served) (side : IsFirstSide s v) where
  view : (i : ℕ) → i ≤ s.clients → view_at p i ≡ first_view s i
  view i below = made.views i (view_at p i) (nth_default p.views i nobody (omega (arith, below, made.seats)))

  none : (b : Bool) → ◌≡◌ {A = List Access} [] (if b then [] else [])
  none true = refl
  none false = refl

  pub new_first : IsNew (first_opening s) p
  new_first = record {
    setup = made.setup;
    first = made.fresh.first;
    used = made.fresh.used;
    opened = made.fresh.opened;
    whole = made.fresh.whole;
    words = made.words;
    entries = made.fresh.entries;
    history = made.fresh.history;
    accesses = made.fresh.accesses ∙ none p.traced;
    made = made.fresh.made;
    seats = made.seats;
    views = λ i below. let w = view i (omega (arith, below)) in record {
      pool = ap (λ (z : View). z.pass.pool) w;
      role = ap (λ (z : View). z.pass.role) w ∙ client_role s i below;
      stock = ap (λ (z : View). z.pass.stock) w;
      names = ap (λ (z : View). z.pass.names) w;
    };
    agrees = subst (λ (z : Served). Agrees s.pool [] z.server (view_at p s.clients)) side.value
        (subst (λ (z : View). Agrees s.pool [] v.server z) (sym (view s.clients (omega arith)))
        (side.agrees (first_view s s.clients) (record { idle = record { server = server_role s s.clients (omega arith); task_is = refl }; directory = refl; roots = refl; books = refl })));
  }

-- nothing is under way on its side
pub served_first : (s : Setup) → IsNewServed (first_opening s).served
served_first s = record { task = refl; read = refl; done = refl }
