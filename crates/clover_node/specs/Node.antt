-- A compute node: what it has of the server and under way, and what its client knows while that is so.
use Rattle.std.specs.Prelude.{◌≡◌, ℕ, ◌<◌, List, [], map, Bool, true}
use Rattle.clover_words.specs.declared.bytes.ValueBuf.{ValueBuf}
use Rattle.clover_words.specs.declared.pool.Pool.{Pool}
use Rattle.clover_words.specs.Tag.{TagParts, tag_number}
use Rattle.clover_map.specs.History.{key_of}
use Rattle.clover_map.specs.declared.call.Call.{Call}
use Rattle.clover_map.specs.declared.call.Call.TheVariants.{Put}
use Rattle.clover_rule.specs.Asks.{MayMiss}
use Rattle.clover_rule.specs.Content.{InRange}
use Rattle.clover_rule.specs.Lists.{Each}
use Rattle.clover_rule.specs.Steps.{Step, ReadCount, AbsentCount}
use Rattle.clover_rule.specs.Views.{SlotsOnce}
use Rattle.clover_rule.specs.declared.view.Role.TheVariants.{Client}
use Rattle.clover_rule.specs.declared.view.View.{View}
use Rattle.clover_dir.specs.Names.{IsNew}
use Rattle.clover_call.specs.Caller.{CallerState, CallerHolds, call_under, first_caller, next_step, is_first}
use Rattle.clover_call.specs.declared.under.Underway.{Underway}
use Rattle.clover_call.specs.declared.under.Underway.TheVariants.{Nothing, Get, Write}
use Rattle.clover_node.specs.declared.counting.Counting.{Counting}
use Rattle.clover_node.specs.declared.counting.Counting.TheVariants.{No, Names, Absence}

-- what contracts see of a node: its client's number, the call on a slot, what the count is to be loaded for, the tags in the order in which they came, and the copy of the bindings
pub record NodeState : Type 0 where
  pub client : ℕ
  pub caller : CallerState
  pub counting : Counting
  pub stock : List TagParts
  pub names : List (ℕ × List ℕ)

-- a node that has nothing yet
abbrev pub first_node : Pool → ℕ → NodeState
first_node p client = record { client = client; caller = first_caller p; counting = No; stock = []; names = [] }

-- no call is under way
pub record IsIdle (n : NodeState) : Type 0 where
  pub counts : n.counting ≡ No
  pub calls : n.caller.under ≡ Nothing

-- the call is a put
abbrev pub IsPut : Call → Type 0
IsPut (Put key value) = Unit {0}
IsPut call = ⊥

-- the count is loaded for such a call
abbrev pub Counts : Counting → Call → Type 0
Counts No call = ⊥
Counts Names call = IsPut call
Counts Absence call = MayMiss call

-- what is under way on a slot is this call
abbrev pub IsUnder : Underway → View → Call → Type 0
IsUnder Nothing v call = Unit {0}
IsUnder (Get g) v call = call_under (Get g) v ≡ call
IsUnder (Write c) v call = call_under (Write c) v ≡ call

-- the call whose key has no slot in the copy is this one, and nothing is under way on a slot
pub record IsCounting (n : NodeState) (call : Call) : Type 0 where
  pub counts : Counts n.counting call
  pub unnamed : IsNew (key_of call) n.names
  pub idle : n.caller.under ≡ Nothing

-- the call that is under way, if any, is this one
abbrev pub IsAsked : Counting → NodeState → View → Call → Type 0
IsAsked No n v call = IsUnder n.caller.under v call
IsAsked Names n v call = IsCounting n call
IsAsked Absence n v call = IsCounting n call

-- the view is of the node's client, and has its names
pub record HasNames (n : NodeState) (v : View) : Type 0 where
  pub role : v.pass.role ≡ Client n.client
  pub names : v.pass.names ≡ n.names

-- The view is that of the node's client: it has the node's stock and names, tags and slots of the pool and no slot twice, and knows what the caller stands on; and the call that is under way is this one. Where none is under way the call says nothing.
pub record NodeHolds (n : NodeState) (call : Call) (v : View) (room : ValueBuf) : Type 0 where
  pub role : v.pass.role ≡ Client n.client
  pub stock : v.pass.stock ≡ map tag_number n.stock
  pub names : v.pass.names ≡ n.names
  pub tags : Each (λ (t : TagParts). InRange n.caller.pool (tag_number t)) n.stock
  pub slots : Each (λ (q : ℕ × List ℕ). q.0 < n.caller.pool.slots) n.names
  pub once : SlotsOnce n.names
  pub caller : CallerHolds n.caller v room
  pub asked : IsAsked n.counting n v call

-- the load of the count for such a call
abbrev pub count_of : Counting → Call → Step
count_of No call = ReadCount
count_of Names call = ReadCount
count_of Absence call = AbsentCount call

-- the step that the next access is
abbrev pub step_of : Counting → NodeState → Call → View → ValueBuf → Step
step_of No n call v room = next_step n.caller.under v room
step_of c n call v room = count_of c call

abbrev pub node_step : NodeState → Call → View → ValueBuf → Step
node_step n call v room = step_of n.counting n call v room

-- whether that is the first access of the call
abbrev pub first_of : Counting → NodeState → Bool
first_of No n = is_first n.caller.under
first_of c n = true

abbrev pub node_first : NodeState → Bool
node_first n = first_of n.counting n
