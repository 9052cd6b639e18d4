use Rattle.std.proofs.Common.{◌≡◌, ◌+◌, ◌<◌, ◌≤◌, ◌++◌, ◌∷◌, [], ℕ, length, List, refl, sym, ap, ◌∙◌, subst, arith}
use Prim.Native.Nat.{suc}
use Rattle.std.specs.Prelude.{Some}
use Rattle.clover_rule.specs.Lists.{nth}
use Rattle.clover_rule.specs.Moves.{nobody}
use Rattle.clover_rule.specs.Views.{alone, start_pass}
use Rattle.clover_rule.specs.declared.view.View.{View}
use Rattle.clover_plain.specs.Kept.{AllFit, view_of, views_of}
use Rattle.clover_plain.specs.Plain.{role_at}
use Rattle.clover_plain.proofs.Seating.{S, at_front, at_end, fit_more, fit_take, length_more, length_take, length_views, views_more}
use Rattle.clover_plain.proofs.Stepping.{default_nth, nth_default}
use Rattle.clover_plain.proofs.pool.cut.renew_seats.Goals as goal
use Rattle.clover_plain.proofs.pool.cut.renew_seats.Goals.{After-add_seat-2}

-- how many seats there are before restart's
server_long : (c : After-add_seat-2) → length c.add_seat.new.seats.items ≡ c.args.setup.now.clients + 1
server_long c = ap length c.add_seat.ensures.seats ∙ length_more c.truncate.new.self.items _ ∙ ap (λ (n : ℕ). n + 1) (ap length c.truncate.ensures.items ∙ length_take c.args.seats.now.items c.args.setup.now.clients c.requires.room.0)

long : (c : After-add_seat-2) → length (views_of c.rest_views.new.seats.items) ≡ c.args.setup.now.clients + 1
long c = length_views c.rest_views.new.seats.items ∙ c.rest_views.ensures.length ∙ server_long c

-- all views behind it
all : (c : After-add_seat-2) → views_of c.add_seat-2.new.seats.items ≡ views_of c.rest_views.new.seats.items ++ view_of c.args.restart ∷ []
all c = ap views_of c.add_seat-2.ensures.seats ∙ views_more c.rest_views.new.seats.items c.args.restart

pub load_new_seat-server-requires : goal.load_new_seat-server-requires
load_new_seat-server-requires c = (c.requires.fits.2, λ s u len below. (nobody, tt, refl))

pub rest_views-requires : goal.rest_views-requires
rest_views-requires c = record {
  fits = (
    subst (λ (l : List S). AllFit c.args.knowing.now.shared.table_id l) (sym c.add_seat.ensures.seats)
        (fit_more c.args.knowing.now.shared.table_id c.truncate.new.self.items c.load_new_seat-server.result.1
        (subst (λ (l : List S). AllFit c.args.knowing.now.shared.table_id l) (sym c.truncate.ensures.items) (fit_take c.args.knowing.now.shared.table_id c.args.seats.now.items c.args.setup.now.clients c.requires.fits.0)) c.load_new_seat-server.ensures.0),
    c.requires.fits.2,
  );
}

pub returns-clause-length : goal.returns-clause-length
returns-clause-length c = ap length c.add_seat-2.ensures.seats ∙ length_more c.rest_views.new.seats.items c.args.restart ∙ (let a = c.rest_views.ensures.length in let b = server_long c in omega arith)

pub returns-clause-rest : goal.returns-clause-rest
returns-clause-rest c = λ i low.
    let vs : List View = views_of c.rest_views.new.seats.items in
    let here = nth_default vs i nobody (let z = long c in omega arith) in
    default_nth (views_of c.add_seat-2.new.seats.items) i _ nobody (ap (λ (l : List View). nth l i) (all c) ∙ at_front vs (view_of c.args.restart ∷ []) i _ here) ∙ c.rest_views.ensures.views i _ here

pub returns-clause-restart : goal.returns-clause-restart
returns-clause-restart c =
    let vs : List View = views_of c.rest_views.new.seats.items in
    default_nth (views_of c.add_seat-2.new.seats.items) _ _ nobody (ap (λ (l : List View). nth l (suc c.args.setup.now.clients)) (all c) ∙ ap (nth (vs ++ view_of c.args.restart ∷ [])) (let z = long c in omega arith) ∙ at_end vs (view_of c.args.restart))

pub returns-clause-fits : goal.returns-clause-fits
returns-clause-fits c = subst (λ (l : List S). AllFit c.args.knowing.now.shared.table_id l) (sym c.add_seat-2.ensures.seats) (fit_more c.args.knowing.now.shared.table_id c.rest_views.new.seats.items c.args.restart c.rest_views.ensures.fits c.requires.fits.1)
