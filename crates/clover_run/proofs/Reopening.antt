-- The server of a run that begins behind a power cut agrees with the view that it has there.
use Rattle.std.proofs.Common.{◌≡◌, ℕ, zero, suc, List, [], ◌∷◌, ◌++◌, append-nil, get_or, refl, sym, ap, ◌∙◌, subst, arith}
use Rattle.std.specs.Prelude.{Some}
use Rattle.clover_words.specs.Version.{buffer_at}
use Rattle.clover_alloc.specs.Ledger.{Ledger, IsLedger, book as line_of}
use Rattle.clover_alloc.specs.declared.line.Line.{Line}
use Rattle.clover_alloc.specs.declared.line.Place.{Place}
use Rattle.clover_alloc.specs.declared.line.Place.TheVariants.{Free, Worn, Bound, Out}
use Rattle.clover_dir.specs.Directory.{Bindings}
use Rattle.clover_dir.specs.Holding.{IsDirectoryOf}
use Rattle.clover_rule.specs.Asks.{IsAt}
use Rattle.clover_rule.specs.Lists.{nth}
use Rattle.clover_rule.specs.Moves.{nobody}
use Rattle.clover_rule.specs.Restart.{buffers_of}
use Rattle.clover_rule.specs.Views.{book}
use Rattle.clover_rule.specs.declared.view.Role.{Role}
use Rattle.clover_rule.specs.declared.view.Role.TheVariants.{Joined, Serving}
use Rattle.clover_rule.specs.declared.view.ServerTask.TheVariants.{Idle}
use Rattle.clover_rule.specs.declared.view.View.{View}
use Rattle.clover_rule.proofs.PoolBuffers.{listed_inside}
use Rattle.clover_rule.proofs.Telling.{facts}
use Rattle.clover_plain.specs.Plain.{Plain, Running, history, view_at}
use Rattle.clover_plain.specs.Reopening.{seen_line, serving_view, state_of as state_in}
use Rattle.clover_plain.proofs.Opening.{server_role}
use Rattle.clover_plain.proofs.Reopening.{line_found, root_found}
use Rattle.clover_plain.proofs.Seating.{at_front}
use Rattle.clover_server.specs.Holding.{Agrees, seen_book, state_of}
use Rattle.clover_server.specs.Server.{new_server}
use Rattle.clover_server.proofs.Binding.{books_of, ranged_of}

-- a plain pool and the server read a line of the books alike
read_alike : (l : Line) → seen_line l ≡ seen_book l
read_alike l = ap (book l.generation) (alike l.place)
  where
    alike : (q : Place) → state_in q ≡ state_of q
    alike Free = refl
    alike Worn = refl
    alike Bound = refl
    alike Out = refl

-- whoever serves has a seat
has_seat : (vs : List View) (i : ℕ) (v : View) → get_or vs i nobody ≡ v → v.pass.role ≡ Serving → nth vs i ≡ Some v
has_seat [] i v e role = absurd (let z : ◌≡◌ {A = Role} Joined Serving = ap (λ (u : View). u.pass.role) e ∙ role in cc)
has_seat (x ∷ vs) zero v e role = ap Some e
has_seat (x ∷ vs) (suc i) v e role = has_seat vs i v e role

module _ (p : Plain) (books : Ledger) (d : Bindings) (runs : Running p) (whole : IsLedger books) (of_pool : books.pool ≡ p.setup.pool) (named_in : d.pool ≡ p.setup.pool) (here : view_at p p.setup.clients ≡ serving_view p books d) where
  abbrev v : View
  v = serving_view p books d

  idle : IsAt v Idle
  idle = record { server = server_role p.setup p.setup.clients (omega arith); task_is = refl }

  directory : IsDirectoryOf p.setup.pool d v
  directory = record { pool = named_in; list = sym (append-nil d.list); roots = λ s. root_found 0 s s d.roots (omega arith) }

  seat : nth (p.views ++ p.absent) p.setup.clients ≡ Some v
  seat = at_front p.views p.absent p.setup.clients v (has_seat p.views p.setup.clients v here idle.server)

  agrees : Agrees p.setup.pool [] (new_server p.setup books d) v
  agrees = record {
    pool = refl;
    task = idle;
    directory = directory;
    ranged = ranged_of p.setup.pool d v (history p) (facts p.setup.pool p.first p.used p.words (p.views ++ p.absent) runs.rule.story (history p) runs.rule.helped p.setup.clients v seat) idle.server directory;
    books = books_of p.setup.pool books v whole of_pool idle.server (λ b i. line_found books (buffers_of p.setup.pool) b (listed_inside p.setup.pool b i) ∙ read_alike (line_of books (buffer_at b)));
    held = tt;
    sweep = tt;
  }

  pub agrees_reopened : Agrees p.setup.pool [] (new_server p.setup books d) (view_at p p.setup.clients)
  agrees_reopened = subst (Agrees p.setup.pool [] (new_server p.setup books d)) (sym here) agrees
