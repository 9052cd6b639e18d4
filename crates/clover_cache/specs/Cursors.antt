-- the cursors of one compute node as a list, and what finding and keeping one makes of it
use Rattle.std.specs.Prelude.{ℕ, ◌-◌, ◌≤◌, not, nat_eq, List, ◌∷◌, length, take, filter, Option}
use Rattle.std.specs.List.{IsDistinct}
use Rattle.std.specs.Map.{keys_of, lookup}
use Rattle.std.specs.Option.{option_map_or}
use Rattle.clover_words.specs.Tag.{TagParts}

-- pairs of a slot and its cursor, most recent first
abbrev pub CursorList : Type 0
CursorList = List (ℕ × TagParts)

-- how many cursors a node keeps at most
abbrev pub most_cursors : ℕ
most_cursors = 64

-- no two pairs are of one slot, and there are at most as many as a node keeps
pub record IsCursorList (list : CursorList) : Type 0 where
  pub one_each : IsDistinct nat_eq (keys_of list)
  pub fits : length list ≤ most_cursors

-- the slot's cursor, if the list has one
abbrev pub cursor_of : ℕ → CursorList → Option TagParts
cursor_of slot = lookup (nat_eq slot)

-- the pairs of the other slots, in their order
abbrev pub others : ℕ → CursorList → CursorList
others slot = filter (λ pair. not (nat_eq slot pair.0))

-- the list once the slot's cursor was asked for: its pair, where there is one, stands first
abbrev pub after_find : ℕ → CursorList → CursorList
after_find slot list = option_map_or (λ tag. (slot, tag) ∷ others slot list) (cursor_of slot list) list

-- the list once the tag was kept for the slot: that pair stands first, and behind it as many of the others as there is room for
abbrev pub after_keep : ℕ → TagParts → CursorList → CursorList
after_keep slot tag list = (slot, tag) ∷ take (most_cursors - 1) (others slot list)
