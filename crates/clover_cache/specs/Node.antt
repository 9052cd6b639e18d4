-- the cursors of one compute node with the one that was set last, and what asking for one and setting one makes of them
use Rattle.std.specs.Prelude.{◌≡◌, ◌⊎◌, ℕ, Option, Some, None}
use Rattle.std.specs.Option.{option_or, option_to_list, option_map_or}
use Rattle.clover_words.specs.Tag.{TagParts}
use Rattle.clover_cache.specs.Cursors.{CursorList, cursor_of, after_find, after_keep}

-- the cursor that was set last, with its slot, and the list
pub record Known : Type 0 where
  pub last : Option (ℕ × TagParts)
  pub list : CursorList

-- the cursor that was set last, where it is the slot's
abbrev pub last_of : ℕ → Known → Option TagParts
last_of slot known = cursor_of slot (option_to_list known.last)

-- the slot's cursor: the one that was set last where it is the slot's, else the list's
abbrev pub cursor_at : ℕ → Known → Option TagParts
cursor_at slot known = option_or (last_of slot known) (cursor_of slot known.list)

-- the cursors once the slot's was asked for: as they were where the last one answered, else the list's pair stands first
abbrev pub asked : ℕ → Known → Known
asked slot known = option_map_or (λ _. known) (last_of slot known) (record known { list = after_find slot known.list })

-- the tag was set as the slot's cursor: it is the last one, and the list has it too, or for want of memory is as it was and has none of the slot
pub record IsSet (slot : ℕ) (tag : TagParts) (before after : Known) : Type 0 where
  pub last : after.last ≡ Some (slot, tag)
  pub list : (after.list ≡ after_keep slot tag before.list) ⊎ ((cursor_of slot before.list ≡ None) × (after.list ≡ before.list))
