use Rattle.std.proofs.Common.{◌≡◌, ◌+◌, ◌≤◌, replicate}
use Rattle.std.specs.Prelude.{vec_capacity}
use Rattle.clover_rule.specs.Moves.{nobody}
use Rattle.clover_plain.specs.Kept.{AllFit, views_of}
use Rattle.clover_plain.proofs.pool.seats_of.Given as goal

abbrev pub invariant-loop : goal.invariant-loop
invariant-loop l = AllFit l.knowing.shared.table_id l.seats.items × (views_of l.seats.items ≡ replicate l.counter nobody) × (l.count + 1 ≤ vec_capacity l.seats)
