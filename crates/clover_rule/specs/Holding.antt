-- The server's view, and what its unfinished task holds.
use Rattle.std.specs.Prelude.{◌≡◌, ℕ, List, Option, Some, None, if◌then◌else◌, ◌==◌}
use Rattle.clover_words.specs.Tag.{home}
use Rattle.clover_rule.specs.Lists.{nth}
use Rattle.clover_rule.specs.declared.view.Role.TheVariants.{Serving}
use Rattle.clover_rule.specs.declared.view.ServerTask.{ServerTask}
use Rattle.clover_rule.specs.declared.view.ServerTask.TheVariants.{Storing, Led, Both, Exchanged}
use Rattle.clover_rule.specs.declared.view.View.{View}

-- the view of the server
abbrev pub IsServer : List View → View → Type 0
IsServer vs v = (i : ℕ) × (nth vs i ≡ Some v) × (v.pass.role ≡ Serving)

-- the version under recycling of a slot: the old root version, from the store of the root on
abbrev pub recycled_by : ServerTask → ℕ → Option ℕ
recycled_by (Led c) s = if c.slot == s then Some c.root else None
recycled_by (Both c) s = if c.slot == s then Some c.root else None
recycled_by (Exchanged c) s = if c.slot == s then Some c.root else None
recycled_by _ s = None

-- the buffer that the task holds: a binding's until its root is stored, or that of the version under recycling
abbrev pub held_by : ServerTask → Option ℕ
held_by (Storing b n) = Some (home b.tag)
held_by (Led c) = Some (home c.root)
held_by (Both c) = Some (home c.root)
held_by (Exchanged c) = Some (home c.root)
held_by _ = None
