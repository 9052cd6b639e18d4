-- Which reply the tagged map may give to a call, and what the map is then.
use Rattle.std.specs.Prelude.{◌≡◌, ◌≢◌, ℕ, List, Some, None}
use Rattle.std.specs.FinMap.{get, insert, remove}
use Rattle.clover_map.specs.declared.bytes.Value.{Value}
use Rattle.clover_map.specs.declared.bytes.Held.{Held}
use Rattle.clover_map.specs.declared.call.Call.{Call}
use Rattle.clover_map.specs.declared.call.Call.TheVariants.{Get, Put, Delete, Swap}
use Rattle.clover_map.specs.declared.call.Reply.{Reply}
use Rattle.clover_map.specs.declared.call.Reply.TheVariants.{Stored, Found, Absent, Deleted, Differs}
use Rattle.clover_map.specs.Tagged.{Tagged}
use Rattle.clover_map.specs.Tags.{IsFresh}

-- a tag with its value
abbrev pub held : ℕ → Value → Held
held t v = record { tag = t; value = v }

-- The map m, with these tags used, may give this reply to this call, and is then n.
-- The pairs of call and reply that are not listed never come: the last line says so.
abbrev pub Does : Tagged → List ℕ → Call → Reply → Tagged → Type 0
Does m used (Put k v) (Stored t) n = IsFresh used t × (n ≡ insert m k (held t v))
Does m used (Get k) (Found t v) n = (get m k ≡ Some (held t v)) × (n ≡ m)
Does m used (Get k) Absent n = (get m k ≡ None) × (n ≡ m)
Does m used (Delete k) (Deleted t) n = (h : Held) × (get m k ≡ Some h) × IsFresh used t × (n ≡ remove m k)
Does m used (Delete k) Absent n = (get m k ≡ None) × (n ≡ m)
Does m used (Swap k e v) (Stored t) n = (h : Held) × (get m k ≡ Some h) × (h.tag ≡ e) × IsFresh used t × (n ≡ insert m k (held t v))
Does m used (Swap k e v) (Differs t) n = (h : Held) × (get m k ≡ Some h) × (h.tag ≡ t) × (t ≢ e) × (n ≡ m)
Does m used (Swap k e v) Absent n = (get m k ≡ None) × (n ≡ m)
Does m used call reply n = ⊥
