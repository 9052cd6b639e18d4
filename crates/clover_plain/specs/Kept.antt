-- What a plain pool keeps.
use Rattle.std.specs.Prelude.{◌≡◌, ℕ, ◌+◌, ◌-◌, ◌<◌, ◌≤◌, List, map, length, vec_len, vec_capacity}
use mathlib.Core.Option.{some}
use lib.ListN.{get_elem?}
use Rattle.atomic_table.specs.declared.shared.Seat.{Seat}
use Rattle.atomic_table.specs.Seated.{TableId}
use Rattle.clover_words.specs.Place.{pool_words}
use Rattle.clover_rule.specs.declared.view.View.{View}
use Rattle.clover_plain.specs.Plain.{Plain, Stands, first_of, used_of}
use Rattle.clover_plain.specs.declared.pool.PlainPool.TheInside.{Inside}

-- what the actor of a seat knows
abbrev pub view_of : Seat (Unit {0}) View → View
view_of s = s.me.0

-- what the actors of these seats know
abbrev pub views_of : List (Seat (Unit {0}) View) → List View
views_of seats = map view_of seats

-- the seats are of this table
abbrev pub AllFit : TableId → List (Seat (Unit {0}) View) → Type 0
AllFit z seats = (i : ℕ) (s : Seat (Unit {0}) View) → get_elem? seats i ≡ some s → s.table_id ≡ z

-- what contracts see of a pool with these fields
abbrev pub meaning : Inside → Plain
meaning p = record {
  setup = p.setup;
  first = first_of (views_of p.seats.items);
  used = used_of (views_of p.seats.items);
  start = p.begun.me.0.words;
  words = p.words;
  views = views_of p.seats.items;
  absent = p.begun.me.0.views;
  entries = p.entries.items;
  traced = p.traced;
  accesses = p.trace.items;
  made = p.made;
  opened = p.opened;
  whole = p.whole;
  access_room = vec_capacity p.trace - vec_len p.trace;
  entry_room = vec_capacity p.entries - vec_len p.entries;
}

-- what every pool keeps
pub record IsKept (p : Inside) : Type 0 where
  pub stands : Stands p.opened (meaning p)
  pub sized : length p.words ≡ pool_words p.setup.pool
  pub seated : p.setup.clients ≤ length p.seats.items
  -- there is room for the seats of the server and of restart
  pub spare : p.setup.clients + 2 ≤ vec_capacity p.seats
  pub seats : AllFit p.knowing.shared.table_id p.seats.items
  pub one : 0 < p.knowing.shared.table_id.words
  pub beginning : (p.begun.table_id ≡ p.beginning.shared.table_id) × (0 < p.beginning.shared.table_id.words)
