-- What a want finds: a key's slot and the lowest unbound slot in the directory, and whether a buffer is free or the sweep has a binding left.
use Rattle.std.specs.Prelude.{ℕ, ◌+◌, ◌<◌, ◌↔◌, nat_lt, nat_eq, Bool, false, not, if◌then◌else◌, List, slice_get, Option, Some, None, IsNone, IfSome}
use Rattle.clover_alloc.specs.Ledger.{count_of}
use Rattle.clover_alloc.specs.declared.line.Place.TheVariants.{Free, Worn}
use Rattle.clover_dir.specs.Directory.{Bindings, IsBound}
use Rattle.clover_dir.specs.Names.{IsNew}
use Rattle.clover_rule.specs.Lists.{Within}
use Rattle.clover_server.specs.Server.{ServerState}
use Rattle.clover_server.specs.declared.due.Room.{Room}
use Rattle.clover_server.specs.declared.due.Room.TheVariants.{Swept, Full, Free as HasFree}
use Rattle.clover_server.specs.declared.work.Unfinished.{Unfinished}

-- the key's slot, none where it is not bound
pub record IsSlotOf (key : List ℕ) (d : Bindings) (slot : Option ℕ) : Type 0 where
  pub found : IfSome slot (λ s. Within (s, key) d.list)
  pub none : IsNone slot ↔ IsNew key d.list

-- the lowest unbound slot of the pool, none where all are bound
pub record IsLowestFree (d : Bindings) (slot : Option ℕ) : Type 0 where
  pub free : IfSome slot (λ s. (s < d.pool.slots) × (IsBound s d → ⊥))
  pub lowest : IfSome slot (λ s. (r : ℕ) → r < s → IsBound r d)
  pub none : IsNone slot ↔ ((s : ℕ) → s < d.pool.slots → IsBound s d)

-- how many bindings the sweep has left behind; one that has not begun, none of them
abbrev pub position : Option ℕ → ℕ
position None = 0
position (Some n) = n

-- the slot of a binding that is there
abbrev pub slot_in : Option (ℕ × List ℕ) → Option ℕ
slot_in None = None
slot_in (Some q) = Some q.0

-- the slot of the binding at a position, if there is one
abbrev pub slot_at : ServerState → ℕ → Option ℕ
slot_at s n = slot_in (slice_get s.directory.list n)

-- the unfinished task was not left to a later call
abbrev pub is_under_way : Option Unfinished → Bool
is_under_way None = false
is_under_way (Some u) = not u.left

-- how many buffers the books have as free or worn: one more behind the last access of any recycling
abbrev pub given_back : ServerState → ℕ
given_back s = count_of Free s.books + count_of Worn s.books

-- how many buffers are free
abbrev pub free_in : ServerState → ℕ
free_in s = count_of Free s.books

-- too few buffers are free: none, or, once a sweep is under way, fewer than are wanted
abbrev pub lacks : Option ℕ → ℕ → ℕ → Bool
lacks None free enough = nat_eq free 0
lacks (Some n) free enough = nat_lt free enough

-- the binding that the sweep is at is to be recycled, if there is one; or else it is full, or a buffer is free
abbrev pub or_full : ℕ → Room
or_full free = if nat_eq free 0 then Full else HasFree

abbrev pub swept_or : Option (ℕ × List ℕ) → Room → Room
swept_or None room = room
swept_or (Some q) room = Swept q.0

abbrev pub room_of : ServerState → ℕ → Room
room_of s enough = if lacks s.sweep (free_in s) enough then swept_or (slice_get s.directory.list (position s.sweep)) (or_full (free_in s)) else or_full (free_in s)
