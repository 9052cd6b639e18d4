-- What a whole call of the server comes to: its steps, repeated to their end.
use Rattle.std.specs.Prelude.{◌≡◌, ℕ, ◌<◌, ◌≤◌, Bool, true, false, List, Option, Some, None, IsSome, Result, Ok, Err}
use Prim.Native.Nat.{zero, suc}
use Rattle.clover_words.specs.declared.pool.Pool.{Pool}
use Rattle.clover_words.specs.Tag.{TagParts, tag_number}
use Rattle.clover_port.specs.Told.{Open}
use Rattle.clover_dir.specs.Directory.{IsBound, root_of, with_root}
use Rattle.clover_dir.specs.Names.{IsNew}
use Rattle.clover_recycle.specs.Answering.{GivesBack}
use Rattle.clover_rule.specs.Lists.{Within}
use Rattle.clover_rule.specs.Steps.{Step}
use Rattle.clover_rule.specs.declared.view.View.{View}
use Rattle.clover_server.specs.Going.{books_moved}
use Rattle.clover_server.specs.Looking.{IsSlotOf, IsLowestFree, free_in}
use Rattle.clover_server.specs.Server.{ServerState}
use Rattle.clover_server.specs.Steps.{Finishes, WantStep, RecycleStep, stock_due, named_due, recycle_due}
use Rattle.clover_server.specs.declared.turn.ServerRefusal.{ServerRefusal}
use Rattle.clover_server.specs.declared.turn.ServerRefusal.TheVariants.{Full as RefusedFull, NoSlot as RefusedNoSlot, Unreached as RefusedUnreached}
use Rattle.clover_server.specs.declared.turn.ServerTurn.{ServerTurn}
use Rattle.clover_server.specs.declared.turn.ServerTurn.TheVariants.{More, Ready, Unlinked, Recycled, Full, NoSlot, Unreached}

-- a server and its port between two steps
pub record Moment (Q : Type 0) : Type 0 where
  pub server : ServerState
  pub port : Q

abbrev pub moment : {Q : Type 0} → ServerState → Q → Moment Q
moment s p = record { server = s; port = p }

-- what a port means by an access that was made and by one that was refused
abbrev pub Making : Type 0 → Type 1
Making Q = Q → Step → Bool → ℕ → Q → Type 0

abbrev pub Failing : Type 0 → Type 1
Failing Q = Q → Q → Type 0

-- one step of a want of stock, of a want of a key's binding, and of a recycling of a slot
abbrev pub StockStep : {Q : Type 0} → Making Q → Failing Q → Moment Q → Moment Q → ServerTurn → Type 0
StockStep made failed a b r = WantStep (stock_due a.server) a.server b.server r (λ s x. made a.port s false x b.port) (failed a.port b.port) (b.port ≡ a.port)

abbrev pub NamedStep : {Q : Type 0} → List ℕ → Making Q → Failing Q → Moment Q → Moment Q → ServerTurn → Type 0
NamedStep key made failed a b r =
    (IsSome a.server.task → WantStep Finishes a.server b.server r (λ s x. made a.port s false x b.port) (failed a.port b.port) (b.port ≡ a.port))
    × (a.server.task ≡ None → (found free : Option ℕ) × IsSlotOf key a.server.directory found × IsLowestFree a.server.directory free
    × WantStep (named_due a.server key found free) a.server b.server r (λ s x. made a.port s false x b.port) (failed a.port b.port) (b.port ≡ a.port))

abbrev pub SlotStep : {Q : Type 0} → ℕ → Making Q → Failing Q → Moment Q → Moment Q → ServerTurn → Type 0
SlotStep slot made failed a b r = RecycleStep (recycle_due a.server slot) a.server b.server r (λ s x. made a.port s false x b.port) (failed a.port b.port)

-- so many steps, each of which is to be repeated, lead from the one moment to the other
abbrev pub Leads : {Q : Type 0} → (Moment Q → Moment Q → ServerTurn → Type 0) → ℕ → Moment Q → Moment Q → Type 0
Leads step zero a b = b ≡ a
Leads step (suc n) a b = (m : Moment _) × Leads step n a m × step m b More

-- the step was repeated up to one that answered this, at most so many times before
pub record Repeats {Q : Type 0} (step : Moment Q → Moment Q → ServerTurn → Type 0) (most : ℕ) (a b : Moment Q) (r : ServerTurn) : Type 0 where
  pub count : ℕ
  pub few : count ≤ most
  pub before : Moment Q
  pub leads : Leads step count a before
  pub last : step before b r

-- the last step's answer of a want's whole call
abbrev pub want_turn_of : {U : Type 0} → Result U ServerRefusal → ServerTurn
want_turn_of (Ok u) = Ready
want_turn_of (Err (RefusedFull bound worn out)) = Full bound worn out
want_turn_of (Err RefusedNoSlot) = NoSlot
want_turn_of (Err RefusedUnreached) = Unreached

-- and of a recycling's, which tells whether a version was recycled
abbrev pub IsRecycleTurn : Result Bool ServerRefusal → ServerTurn → Type 0
IsRecycleTurn (Ok true) r = (old : TagParts) × (r ≡ Recycled old)
IsRecycleTurn (Ok false) r = r ≡ Unlinked
IsRecycleTurn (Err e) r = (e ≡ RefusedUnreached) × (r ≡ Unreached)

-- what holds by the cause of a refusal
abbrev pub ByCause : ServerRefusal → (ℕ → ℕ → ℕ → Type 0) → Type 0 → Type 0 → Type 0
ByCause (RefusedFull bound worn out) full no_slot unreached = full bound worn out
ByCause RefusedNoSlot full no_slot unreached = no_slot
ByCause RefusedUnreached full no_slot unreached = unreached

-- nothing is unfinished, no want is under way, and a buffer is free
pub record IsReady (s : ServerState) : Type 0 where
  pub idle : s.task ≡ None
  pub ended : s.sweep ≡ None
  pub free : 0 < free_in s

-- nothing is unfinished, no want is under way, and the key is bound
pub record IsNamed (key : List ℕ) (s : ServerState) : Type 0 where
  pub idle : s.task ≡ None
  pub ended : s.sweep ≡ None
  pub slot : ℕ
  pub bound : Within (slot, key) s.directory.list

-- every slot is bound, and the key is not
pub record HasNoSlot (key : List ℕ) (s : ServerState) : Type 0 where
  pub new : IsNew key s.directory.list
  pub all : (slot : ℕ) → slot < s.directory.pool.slots → IsBound slot s.directory

-- The slot's root version was recycled: its buffer was given back, the version that stood behind it is the root, and nothing else of the server changed.
pub record WasRecycled (p : Pool) (slot : ℕ) (s n : ServerState) (told : Option Open) : Type 0 where
  pub old : TagParts
  pub root : TagParts
  pub was : root_of s.directory slot ≡ Some old
  pub value : n ≡ record s { books = books_moved s.books old root; directory = with_root s.directory slot root }
  pub given : GivesBack p told (tag_number old)

-- The slot's root version was read unlinked, and nothing of the server changed.
pub record WasUnlinked (slot : ℕ) (s n : ServerState) (v : View) : Type 0 where
  pub value : n ≡ s
  pub read : Within slot v.server.unlinked

-- what a recycling comes to that finds nothing unfinished
abbrev pub CameTo : Bool → Pool → ℕ → ServerState → ServerState → View → Option Open → Type 0
CameTo true p slot s n v told = WasRecycled p slot s n told
CameTo false p slot s n v told = WasUnlinked slot s n v
