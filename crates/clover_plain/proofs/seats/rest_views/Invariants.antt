use Rattle.std.proofs.Common.{◌≡◌, ◌<◌, ℕ, length}
use Rattle.std.specs.Prelude.{Some, vec_capacity}
use Rattle.clover_rule.specs.Lists.{nth}
use Rattle.clover_rule.specs.Views.{alone, start_pass}
use Rattle.clover_rule.specs.declared.view.View.{View}
use Rattle.clover_plain.specs.Kept.{AllFit, view_of, views_of}
use Rattle.clover_plain.specs.Plain.{role_at}
use Rattle.clover_plain.proofs.seats.rest_views.Given as goal

abbrev pub invariant-loop-seat : goal.invariant-loop-seat
invariant-loop-seat l = record {
  fits : AllFit l.knowing.shared.table_id l.seats.items;
  long : length l.seats.items ≡ length l.initial.seats.items;
  room : vec_capacity l.seats ≡ vec_capacity l.initial.seats;
  dealt : (i : ℕ) (v : View) → nth (views_of l.seats.items) i ≡ Some v → i < l.seat → v ≡ alone (start_pass l.setup.pool (view_of l.restart).pass.map (view_of l.restart).pass.used (role_at l.setup i));
}

abbrev pub ghosts-rest_view : goal.ghosts-rest_view
ghosts-rest_view a = record { becomes = λ v. alone (start_pass a.setup.now.pool (view_of a.restart.now).pass.map (view_of a.restart.now).pass.used (role_at a.setup.now a.at)) }
