-- Calls that run alone, as the machine's clients stand: one under way will be answered at its cost.
use Prim.Native.Nat.{suc}
use Rattle.std.specs.Prelude.{◌≡◌, ◌⊎◌, ℕ, ◌+◌, List, [], length, Option, Some, None}
use Rattle.clover_rule.specs.Lists.{nth}
use Rattle.clover_call.specs.declared.under.Underway.TheVariants.{Nothing as NoCall}
use Rattle.clover_node.specs.Node.{IsIdle}
use Rattle.clover_event.specs.Alone.{EndsIn}
use Rattle.clover_run.specs.Alone.{AllAlone, EndsAlone, RunsAlone, cost_of}
use Rattle.clover_run.specs.Record.{Record}
use Rattle.clover_run.specs.Run.{Opening, standing, known_slot}
use Rattle.clover_run.specs.declared.client.ClientState.{ClientState}

-- a call that has run alone up to the present on this slot will be answered after the accesses that are left of its cost, and is over where none are left; one on none is about to load the count, or has loaded it and makes no other access
abbrev pub Will : (o : Opening) → List ℕ → ClientState → (rs : List Record) (x : RunsAlone o rs) (slot : Option ℕ) → EndsAlone o.setup.pool (standing o x.client x.before) slot x.call x.client x.steps → Type 0
Will o ws y rs x None ends = ((x.steps ≡ []) × (y.node.caller.under ≡ NoCall)) ⊎ IsIdle y.node
Will o ws y rs x (Some slot) ends = (n : ℕ) × (length x.steps + n ≡ cost_of o.setup.pool (standing o x.client x.before) slot x.call ends.0) × EndsIn o.setup.pool ws n y.node.caller.under y.room × (n ≡ 0 → IsIdle y.node)

-- each client with a call that has run alone up to the present
abbrev pub AllUnderway : (o : Opening) → List ℕ → List ClientState → (rs : List Record) → AllAlone o rs → Type 0
AllUnderway o ws clients rs all = (x : RunsAlone o rs) → x.after ≡ [] → (i : ℕ) (y : ClientState) → suc i ≡ x.client → nth clients i ≡ Some y → Will o ws y rs x (known_slot (standing o x.client x.before) x.call) (all x)

-- Each call that runs alone is answered at its cost, and one under way will be.
pub record AloneSoFar (o : Opening) (ws : List ℕ) (clients : List ClientState) (rs : List Record) : Type 0 where
  pub all : AllAlone o rs
  pub underway : AllUnderway o ws clients rs all
