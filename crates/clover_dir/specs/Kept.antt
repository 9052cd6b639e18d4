-- The values of this crate's types from their fields, and what each of them keeps.
use Rattle.std.specs.Prelude.{◌≡◌, ℕ, ◌<◌, ◌≤◌, length, sum_by, slice_index_or, vec_capacity, Option, Some, None, IsSome}
use Rattle.clover_words.specs.Tag.{TagParts}
use Rattle.clover_dir.specs.Bindings.{pairs_of}
use Rattle.clover_dir.specs.Directory.{Bindings, IsDirectory}
use Rattle.clover_dir.specs.Index.{IsIndex}
use Rattle.clover_dir.specs.Names.{NameList}
use Rattle.clover_dir.specs.Task.{UnderWay, IsUnderWay}
use Rattle.clover_dir.specs.declared.names.Names.TheInside.{Inside as NamesInside}
use Rattle.clover_dir.specs.declared.directory.Directory.TheInside.{Inside as DirectoryInside}
use Rattle.clover_dir.specs.declared.task.BindTask.TheInside.{Inside as TaskInside}

abbrev pub names_in : NamesInside → NameList
names_in n = record { list = pairs_of n.list.items; most = n.most }

-- there is room for as many bindings as were asked for, and the index is that of the list
pub record AreNamesKept (n : NamesInside) : Type 0 where
  pub fits : length n.list.items ≤ n.most
  pub list_room : n.most ≤ vec_capacity n.list
  pub order_room : n.most ≤ vec_capacity n.order
  pub index : IsIndex n.list.items n.order.items

abbrev pub directory_in : DirectoryInside → Bindings
directory_in d = record { pool = d.pool; list = d.names.list; roots = d.roots.items }

-- 1 where a slot has a root version
abbrev pub one_for : Option TagParts → ℕ
one_for None = 0
one_for (Some t) = 1

-- there are as many bindings as slots with a root version, with room for all slots, and low is the lowest slot without one
pub record IsDirectoryKept (d : DirectoryInside) : Type 0 where
  pub directory : IsDirectory (directory_in d)
  pub room : d.names.most ≡ d.pool.slots
  pub counted : sum_by one_for d.roots.items ≡ length d.names.list
  pub low : d.low ≤ d.pool.slots
  pub free : d.low < d.pool.slots → slice_index_or d.roots.items d.low None ≡ None
  pub below : (s : ℕ) → s < d.low → IsSome (slice_index_or d.roots.items s None)

abbrev pub task_in : TaskInside → UnderWay
task_in t = record { slot = t.slot; key = t.key; own = t.own; stage = t.stage }

abbrev pub IsTaskKept : TaskInside → Type 0
IsTaskKept t = IsUnderWay (task_in t)
