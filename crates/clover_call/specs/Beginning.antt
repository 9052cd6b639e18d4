-- A call as a caller starts it, and what its client has to have for it.
use Rattle.std.specs.Prelude.{◌≡◌, ℕ, ◌<◌, ◌^◌, [], ◌∷◌, List, length, Option, Some, None}
use Rattle.clover_words.specs.declared.bytes.ValueBuf.{ValueBuf}
use Rattle.clover_words.specs.declared.pool.Pool.{Pool}
use Rattle.clover_words.specs.Tag.{TagParts, tag_number}
use Rattle.clover_map.specs.declared.bytes.Value.{Value}
use Rattle.clover_map.specs.declared.call.Call.{Call}
use Rattle.clover_map.specs.declared.call.Call.TheVariants.{Get as GetOf, Put as PutOf, Delete as DeleteOf, Swap as SwapOf}
use Rattle.clover_map.specs.History.{key_of}
use Rattle.clover_rule.specs.Content.{InRange}
use Rattle.clover_rule.specs.Lists.{Within}
use Rattle.clover_rule.specs.declared.view.View.{View}
use Rattle.clover_cache.specs.Node.{cursor_at, asked}
use Rattle.clover_walk.specs.Standing.{number_of}
use Rattle.clover_walk.specs.Walking.{Walking, made_walk, key_at}
use Rattle.clover_get.specs.Getting.{getting, Seeking}
use Rattle.clover_put.specs.Putting.{made_put}
use Rattle.clover_put.specs.declared.job.Job.TheVariants.{Put, Delete, Swap}
use Rattle.clover_call.specs.declared.under.Underway.{Underway}
use Rattle.clover_call.specs.declared.under.Underway.TheVariants.{Get, Write}
use Rattle.clover_call.specs.Calling.{begun_call}
use Rattle.clover_call.specs.Mirroring.{Mirrors}
use Rattle.clover_call.specs.Caller.{CallerState, CallerHolds, call_under}

-- how many bytes the value of a call has
abbrev pub size_of : Call → ℕ
size_of (GetOf k) = 0
size_of (PutOf k v) = length v.bytes
size_of (DeleteOf k) = 0
size_of (SwapOf k t v) = length v.bytes

-- the number of an expected tag is one
abbrev pub ExpectsTag : Call → Type 0
ExpectsTag (SwapOf k t v) = t < 2 ^ 42
ExpectsTag call = Unit {0}

-- this tag of the pool was given
abbrev pub IsGiven : Pool → Option TagParts → Type 0
IsGiven p None = ⊥
IsGiven p (Some t) = InRange p (tag_number t)

-- for a call that writes a tag was given; a get takes none
abbrev pub HasTag : Pool → Option TagParts → Call → Type 0
HasTag p own (GetOf k) = Unit {0}
HasTag p own call = IsGiven p own

-- the number of the tag that was given; 0 where none was
abbrev pub given_number : Option TagParts → ℕ
given_number None = 0
given_number (Some t) = tag_number t

-- no flags and no bytes, for a delete
abbrev pub no_value : Value
no_value = record { flags = 0; bytes = [] }

-- The call is under way from the walk's start, with this tag for its version.
abbrev pub IsBegun : Walking → ℕ → Call → Underway → Type 0
IsBegun w own (GetOf key) u = u ≡ Get (getting w Seeking)
IsBegun w own (PutOf key value) u = u ≡ Write (made_put w Put own value)
IsBegun w own (DeleteOf key) u = u ≡ Write (made_put w Delete own no_value)
IsBegun w own (SwapOf key expected value) u = (t : TagParts) × (tag_number t ≡ expected) × (u ≡ Write (made_put w (Swap t) own value))

-- the tag is the next one of the client's stock; a get takes none
abbrev pub IsNext : View → ℕ → Call → Type 0
IsNext v own (GetOf k) = Unit {0}
IsNext v own call = (rest : List ℕ) × (v.pass.stock ≡ own ∷ rest)

-- what the client has that may ask for a call on the slot: it knows the slot to be bound to the call's key, and the tag is the next one of its stock
pub record MayStart (slot own : ℕ) (call : Call) (v : View) : Type 0 where
  pub named : Within (slot, key_of call) v.pass.names
  pub key : key_at v.pass.names slot ≡ key_of call
  pub next : IsNext v own call

-- The caller n has started the call on the slot, from the cursor that it had for that: it is where the call of the definition begins, and the client whose view held before holds what it needs.
pub record Starts (n : CallerState) (slot own : ℕ) (call : Call) (n1 : CallerState) : Type 0 where
  pub pool : n1.pool ≡ n.pool
  pub cursors : n1.cursors ≡ asked slot n.cursors
  pub begun : IsBegun (made_walk n.pool slot (number_of (cursor_at slot n.cursors))) own call n1.under
  pub mirrors : (room : ValueBuf) → Mirrors n1.under room call own (begun_call n.pool slot (number_of (cursor_at slot n.cursors)) own call)
  pub holds : (v : View) (room : ValueBuf) → CallerHolds n v room → MayStart slot own call v → CallerHolds n1 v room × (call_under n1.under v ≡ call)
