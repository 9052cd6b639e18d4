use Rattle.std.proofs.Common.{◌≡◌, refl, sym, ap, ◌∙◌, set}
use Rattle.std.specs.Prelude.{Some}
use Rattle.atomic_table.specs.Table.{keeps}
use Rattle.clover_rule.specs.declared.view.View.{View}
use Rattle.clover_plain.specs.Kept.{views_of, view_of}
use Rattle.clover_plain.proofs.Seating.{views_of-set, fit_set, fit_at, view_here}
use Rattle.clover_plain.proofs.seats.renew.Goals as goal

pub load-requires : goal.load-requires
load-requires g c = (fit_at _ _ c.args.at _ c.requires.fits.0 c.requires.at c.index_mut-seat.ensures.value, c.requires.fits.1, λ s u len at below. (g.J.ViewName.becomes c.index_mut-seat.result.now.me.0, keeps, tt, tt, refl))

pub returns-clause-views : goal.returns-clause-views
returns-clause-views g c = λ v e.
    let h : Some (view_of c.index_mut-seat.result.now) ≡ Some v = sym (view_here c.args.seats.now.items c.args.at _ c.requires.at c.index_mut-seat.ensures.value) ∙ e in
    let w : view_of c.index_mut-seat.result.now ≡ v = cc in
    views_of-set c.args.seats.now.items c.args.at _ ∙ ap (λ (z : View). set (views_of c.args.seats.now.items) c.args.at z) (c.load.ensures.2 ∙ ap g.J.ViewName.becomes w)

pub returns-clause-fits : goal.returns-clause-fits
returns-clause-fits g c = fit_set _ c.args.seats.now.items c.args.at _ c.requires.fits.0 (c.load.ensures.0 ∙ fit_at _ _ c.args.at _ c.requires.fits.0 c.requires.at c.index_mut-seat.ensures.value)
