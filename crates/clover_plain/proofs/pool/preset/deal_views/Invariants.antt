use Rattle.std.proofs.Common.{◌≡◌, ◌<◌, ℕ, length}
use Rattle.std.specs.Prelude.{Some, vec_capacity}
use Rattle.clover_rule.specs.Lists.{nth}
use Rattle.clover_rule.specs.declared.view.View.{View}
use Rattle.clover_plain.specs.Kept.{AllFit, views_of}
use Rattle.clover_plain.specs.Preset.{start_view}
use Rattle.clover_plain.proofs.pool.preset.deal_views.Given as goal

abbrev pub invariant-loop-seat : goal.invariant-loop-seat
invariant-loop-seat l = record {
  fits : AllFit l.knowing.shared.table_id l.seats.items;
  long : length l.seats.items ≡ length l.initial.seats.items;
  room : vec_capacity l.seats ≡ vec_capacity l.initial.seats;
  dealt : (i : ℕ) (v : View) → nth (views_of l.seats.items) i ≡ Some v → i < l.seat → v ≡ start_view l.setup l.keys i;
}

abbrev pub ghosts-deal_view : goal.ghosts-deal_view
ghosts-deal_view a = record { becomes = λ v. start_view a.setup.now a.keys.now a.at }
