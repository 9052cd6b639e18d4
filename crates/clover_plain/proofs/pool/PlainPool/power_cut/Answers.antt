use Rattle.std.proofs.Common.{◌≡◌, ◌+◌, ◌*◌, ◌-◌, ◌<◌, ◌≤◌, ◌++◌, ℕ, List, [], length, Bool, false, replicate, refl, sym, ap, ◌∙◌, subst, arith}
use Prim.Native.Nat.{suc}
use Rattle.std.specs.Prelude.{vec_len, vec_capacity}
use Rattle.clover_words.specs.Place.{durable_words, pool_words}
use Rattle.clover_rule.specs.Cut.{IsCut}
use Rattle.clover_rule.specs.Restart.{rested_words}
use Rattle.clover_rule.specs.Views.{alone, start_pass}
use Rattle.clover_rule.specs.declared.view.View.{View}
use Rattle.clover_plain.specs.Kept.{meaning, view_of, views_of}
use Rattle.clover_plain.specs.Plain.{IsDown, Plain, history, restart_view, role_at, view_at}
use Rattle.clover_plain.specs.Waking.{IsWoken}
use Rattle.clover_plain.proofs.Cutting.{down_cut, map_is, used_is, woken}
use Rattle.clover_plain.proofs.Resting.{down_history}
use Rattle.clover_plain.proofs.Seating.{length_views}
use Rattle.clover_plain.proofs.pool.PlainPool.power_cut.Goals as goal
use Rattle.clover_plain.proofs.pool.PlainPool.power_cut.Goals.{After-self-1}

abbrev before : After-self-1 → Plain
before c = meaning c.self.inside

abbrev then : After-self-1 → Plain
then c = meaning record { setup = c.self.inside.setup; words = c.rest.new.words; seats = c.renew_seats.new.seats; knowing = c.self.inside.knowing; begun = c.begin.new.begun; beginning = c.self.inside.beginning; entries = c.clear.new.self; traced = c.self.inside.traced; trace = c.self.inside.trace; made = c.self.inside.made; opened = false; whole = c.self.inside.whole }

cut : (c : After-self-1) → IsCut c.self.inside.setup.pool c.self.inside.words c.args.kept.now
cut c = subst (λ (p : Plain). IsCut p.setup.pool p.words c.args.kept.now) (sym c.self.view_is) c.requires.cut

words_are : (c : After-self-1) → c.rest.new.words ≡ rested_words c.self.inside.setup.pool c.args.kept.now
words_are c =
    let kept : List ℕ = c.args.kept.now in
    let zeros : length c.self.inside.words - 2 * length kept ≡ suc c.self.inside.setup.pool.slots = (let a = c.self.invariant.sized in let b = (cut c).sized in omega arith) in
    c.rest.ensures.words ∙ ap (λ (n : ℕ). kept ++ kept ++ replicate n 0) zeros

restart_is : (c : After-self-1) → restart_view (then c) ≡ view_of c.wake-restart.result
restart_is c = c.renew_seats.ensures.restart

is_woken : (c : After-self-1) → IsWoken c.self.inside.opened c.self.inside.setup.pool (before c).first (before c).used ((before c).views ++ (before c).absent) (history (before c)) c.args.kept.now (restart_view (then c))
is_woken c = subst (IsWoken c.self.inside.opened c.self.inside.setup.pool (before c).first (before c).used ((before c).views ++ (before c).absent) (history (before c)) c.args.kept.now) (sym (restart_is c)) c.wake-restart.ensures.woken

seats_are : (c : After-self-1) → length (then c).views ≡ c.self.inside.setup.clients + 2
seats_are c = length_views c.renew_seats.new.seats.items ∙ c.renew_seats.ensures.length

renewed : (c : After-self-1) (i : ℕ) → i ≤ c.self.inside.setup.clients → view_at (then c) i ≡ alone (start_pass c.self.inside.setup.pool (restart_view (then c)).pass.map (restart_view (then c)).pass.used (role_at c.self.inside.setup i))
renewed c i low = c.renew_seats.ensures.rest i low ∙ ap (λ (v : View). alone (start_pass c.self.inside.setup.pool v.pass.map v.pass.used (role_at c.self.inside.setup i))) (sym (restart_is c))

is_down : (c : After-self-1) → IsDown (then c)
is_down c = down_cut c.self.inside.opened (before c) (then c) c.args.kept.now c.self.invariant.stands (cut c) refl (words_are c) c.begin.ensures.words (is_woken c) (seats_are c) (renewed c) refl refl c.begin.ensures.views c.clear.ensures.items refl refl refl refl

pub wake-restart-requires-clause-there : goal.wake-restart-requires-clause-there
wake-restart-requires-clause-there c = woken c.self.inside.opened (meaning c.self.inside) c.args.kept.now c.self.invariant.stands (subst (λ (p : Plain). IsCut p.setup.pool p.words c.args.kept.now) (sym c.self.view_is) c.requires.cut)

pub invariant_of-self : goal.invariant_of-self
invariant_of-self c = record {
  stands = is_down c;
  sized = c.rest.ensures.sized ∙ c.self.invariant.sized;
  seated = let z = c.renew_seats.ensures.length in omega arith;
  spare = c.renew_seats.ensures.room;
  seats = c.renew_seats.ensures.fits;
  one = c.self.invariant.one;
  beginning = (c.begin.ensures.fits, c.self.invariant.beginning.1);
}

pub returns-clause-words : goal.returns-clause-words
returns-clause-words c = subst (λ (p : Plain). c.rest.new.words ≡ rested_words p.setup.pool c.args.kept.now) c.self.view_is (words_are c)

pub returns-clause-start : goal.returns-clause-start
returns-clause-start c = c.begin.ensures.words ∙ subst (λ (p : Plain). c.rest.new.words ≡ rested_words p.setup.pool c.args.kept.now) c.self.view_is (words_are c)

pub returns-clause-restart : goal.returns-clause-restart
returns-clause-restart c = subst (λ (p : Plain). IsWoken p.opened p.setup.pool p.first p.used (p.views ++ p.absent) (history p) c.args.kept.now (restart_view (then c))) c.self.view_is (is_woken c)

pub returns-clause-first : goal.returns-clause-first
returns-clause-first c = (
  map_is c.self.inside.opened (before c) (then c) c.args.kept.now c.self.invariant.stands (cut c) refl (words_are c) c.begin.ensures.words (is_woken c) (seats_are c) (renewed c) refl refl c.begin.ensures.views c.clear.ensures.items refl refl refl refl,
  used_is c.self.inside.opened (before c) (then c) c.args.kept.now c.self.invariant.stands (cut c) refl (words_are c) c.begin.ensures.words (is_woken c) (seats_are c) (renewed c) refl refl c.begin.ensures.views c.clear.ensures.items refl refl refl refl,
)

pub returns-clause-entries : goal.returns-clause-entries
returns-clause-entries c = (c.clear.ensures.items, down_history (then c) (is_down c))

pub returns-clause-seats : goal.returns-clause-seats
returns-clause-seats c = subst (λ (p : Plain). length (then c).views ≡ p.setup.clients + 2) c.self.view_is (seats_are c)
