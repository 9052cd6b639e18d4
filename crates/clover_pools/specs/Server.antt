-- A plain pool with a metadata server: the server agrees with its view.
use Rattle.std.specs.Prelude.{◌≡◌, ℕ, [], length, true}
use Rattle.clover_plain.specs.Plain.{Plain, history, view_at}
use Rattle.clover_server.specs.Holding.{Agrees}
use Rattle.clover_server.specs.Server.{ServerState}
use Rattle.clover_pools.specs.Small.{IsReady, IsSmall}

-- the pool is ready and small, and the server agrees with its view
pub record IsServing (s : ServerState) (p : Plain) : Type 0 where
  pub ready : IsReady p
  pub small : IsSmall p
  pub agrees : Agrees p.setup.pool [] s (view_at p 1)

-- what steps of the server leave of a pool
pub record IsLeft (p q : Plain) : Type 0 where
  pub opened : q.opened ≡ true
  pub entered : q.entries ≡ history q
  pub setup : q.setup ≡ p.setup
  pub seats : length q.views ≡ 2
  pub client : view_at q 0 ≡ view_at p 0

-- and of one at whose seat of the server a port stands
abbrev pub IsPortLeft : Plain → Plain → ℕ → Type 0
IsPortLeft p0 p seat = (seat ≡ 1) × IsLeft p0 p

-- and of a pool with its server
pub record Served (s : ServerState) (p q : Plain) : Type 0 where
  pub serving : IsServing s q
  pub client : view_at q 0 ≡ view_at p 0
  pub setup : q.setup ≡ p.setup
