use Rattle.std.proofs.Common.{◌≡◌, ℕ, List, ◌++◌, ◌∷◌, [], replicate, sym, ap, ◌∙◌, subst, add-one, arith}
use Rattle.clover_rule.specs.Moves.{nobody}
use Rattle.clover_plain.specs.Kept.{AllFit, views_of}
use Rattle.clover_plain.proofs.Seating.{S, fit_more, views_more, replicate_more}
use Rattle.clover_plain.proofs.pool.seats_of.Goals as goal

pub loop-preserved : goal.loop-preserved
loop-preserved c =
    let more : c.push-in-loop.new.self.items ≡ c.loop.seats.items ++ c.load_new_seat-seat.result.1 ∷ [] = c.in_ok-push-2.ensures.items in (
      subst (λ (l : List S). AllFit c.args.knowing.now.shared.table_id l) (sym more) (fit_more _ c.loop.seats.items _ c.loop.invariant.0 c.load_new_seat-seat.ensures.0),
      ap views_of more ∙ views_more c.loop.seats.items c.load_new_seat-seat.result.1 ∙ (λ k. c.loop.invariant.1 k ++ c.load_new_seat-seat.ensures.2 k ∷ []) ∙ replicate_more c.loop.counter nobody ∙ ap (λ (n : ℕ). replicate n nobody) (sym (add-one c.loop.counter)),
      (let y = c.push-in-loop.ensures.capacity in let z = c.loop.invariant.2 in omega arith),
    )
