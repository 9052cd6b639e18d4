-- Who holds the server.
use Rattle.std.specs.Prelude.{ℕ, eqb, not, Bool, false, Option, Some, None}
use Rattle.clover_server.specs.Server.{ServerState}
use Rattle.clover_run.specs.declared.served.Served.{Served}

-- the server is so now, held by this actor, and by nobody
abbrev pub held : ℕ → ServerState → Served → Served
held a s v = record v { server = s; holder = Some a }

abbrev pub let_go : ServerState → Served → Served
let_go s v = record v { server = s; holder = None }

-- another actor than this one holds it
abbrev pub is_elsewhere : Option ℕ → ℕ → Bool
is_elsewhere None a = false
is_elsewhere (Some b) a = not (eqb a b)
