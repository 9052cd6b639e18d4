-- A sweep over the list of bindings: how many of them it has left.
use Rattle.std.specs.Prelude.{ℕ, ◌+◌, ◌-◌, ◌^◌, min}
use Rattle.clover_recycle.specs.declared.turn.RecycleTurn.{RecycleTurn}
use Rattle.clover_recycle.specs.declared.turn.RecycleTurn.TheVariants.{Unlinked}

-- the sweep leaves a slot where its root version was read unlinked, and stays at it otherwise; a count stands still at its type's end
abbrev pub after_turn : ℕ → RecycleTurn → ℕ
after_turn n Unlinked = min (n + 1) (2 ^ 64 - 1)
after_turn n r = n
