-- A call alone from one start of it to the next, the server's part included: only its own steps stand, and no access in them is refused.
use Rattle.std.specs.Prelude.{◌≡◌, ◌≢◌, ℕ, List, [], ◌∷◌, ◌++◌, false, Some, IfSome}
use Rattle.clover_map.specs.declared.call.Call.{Call}
use Rattle.clover_script.specs.declared.line.Task.TheVariants.{Client as ClientTask}
use Rattle.clover_rule.specs.Lists.{Each}
use Rattle.clover_rule.specs.declared.access.Access.{Access}
use Rattle.clover_rule.specs.declared.access.Actor.TheVariants.{Server}
use Rattle.clover_event.specs.declared.event.Event.TheVariants.{Step}
use Rattle.clover_run.specs.Alone.{EndsAlone, IsOwnStep, Starts}
use Rattle.clover_run.specs.Record.{Record}
use Rattle.clover_run.specs.Run.{Opening, standing, known_slot, want_in}
use Rattle.clover_run.specs.declared.want.Want.TheVariants.{Nothing}

-- a step of the client in which no access was refused, and that does not start its call anew
pub record IsRoundStep (c : ℕ) (r : Record) : Type 0 where
  pub event : r.event ≡ Step c
  pub made : IfSome r.access (λ (x : Access). x.refused ≡ false)
  pub goes_on : Starts c r.event r.note → ⊥

-- somewhere in the records a client's call is started, and from there on only such steps stand
pub record Round (o : Opening) (rs : List Record) : Type 0 where
  pub before : List Record
  pub steps : List Record
  pub after : List Record
  pub whole : rs ≡ before ++ (steps ++ after)
  pub client : ℕ
  pub started : (front : List Record) × (start : Record) × (before ≡ front ++ start ∷ []) × Starts client start.event start.note
  pub call : Call
  pub written : ℕ
  pub task : (standing o client before).does.task ≡ Some (ClientTask call written)
  pub own : Each (IsRoundStep client) steps

-- an access in the record is the server's
abbrev pub IsServers : Record → Type 0
IsServers r = IfSome r.access (λ (x : Access). x.actor ≡ Server)

-- The call's own accesses stand first, and behind them only the server's. Where it wants nothing at its start the own ones are those that it costs there, and where it wants something there are none.
pub record CostsRound (o : Opening) (rs : List Record) (x : Round o rs) : Type 0 where
  pub own : List Record
  pub rest : List Record
  pub split : x.steps ≡ own ++ rest
  pub first : Each (IsOwnStep x.client) own
  pub servers : Each IsServers rest
  pub costs : want_in (standing o x.client x.before) x.call ≡ Nothing → EndsAlone o.setup.pool (standing o x.client x.before) (known_slot (standing o x.client x.before) x.call) x.call x.client own
  pub wants : want_in (standing o x.client x.before) x.call ≢ Nothing → own ≡ []

-- each round costs that; what the server's accesses are is said of all records
abbrev pub AllRounds : Opening → List Record → Type 0
AllRounds o rs = (x : Round o rs) → CostsRound o rs x
