-- How the server of a run agrees with its view where the run begins behind a power cut.
use Rattle.std.specs.Prelude.{◌≡◌, []}
use Rattle.clover_alloc.specs.Ledger.{Ledger, IsLedger}
use Rattle.clover_dir.specs.Directory.{Bindings}
use Rattle.clover_plain.specs.Plain.{Plain, Running, view_at}
use Rattle.clover_plain.specs.Reopening.{serving_view}
use Rattle.clover_server.specs.Holding.{Agrees}
use Rattle.clover_server.specs.Server.{new_server}

-- A server that is made with whole books and a directory of the pool agrees with the view that a run gives it which begins with them.
abbrev pub NewSideLaw : Type 0
NewSideLaw = (p : Plain) (books : Ledger) (d : Bindings) → Running p → IsLedger books → books.pool ≡ p.setup.pool → d.pool ≡ p.setup.pool → view_at p p.setup.clients ≡ serving_view p books d
    → Agrees p.setup.pool [] (new_server p.setup books d) (view_at p p.setup.clients)
