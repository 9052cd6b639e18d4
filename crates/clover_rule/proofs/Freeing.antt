-- The laws of a recycling's exchange and of its last raise.
use Rattle.std.proofs.Common.{◌≡◌, ℕ, suc, ◌<◌, ◌≢◌, List, Bool, true, false, cond, eqb, ltb, refl, sym, ap, ◌∙◌, inl, inr, ⊎_elim, arith, subst, eq-eqb, ne_eqb, eqb-true, true≢false}
use native.Mathlib.Decide.{ℕ_discrete}
use mathlib.Core.Logic.{dite}
use Rattle.std.specs.Prelude.{Option, Some, None}
use Rattle.std.proofs.lemmas.Bool.{lt-ltb}
use Rattle.std.proofs.lemmas.Bool.Decides.{nat_tests}
use Rattle.clover_words.specs.Tag.{home, age}
use Rattle.clover_map.specs.declared.call.Entry.{Entry}
use Rattle.clover_map.specs.Tagged.{Tagged}
use Rattle.clover_rule.specs.Changes.{recycled_mem, recycled_story}
use Rattle.clover_rule.specs.Content.{InRange, inside}
use Rattle.clover_rule.specs.Lists.{nth, upd}
use Rattle.clover_rule.specs.Memory.{Next, word, gen, Mem, greater, order}
use Rattle.clover_rule.specs.Server.{Ready, Stage, Help, or_else, root_in, is_home, book_of, Serves, Whole}
use Rattle.clover_rule.specs.Learned.{root_passed, root_freed}
use Rattle.clover_rule.specs.Story.{Place, Chained, Stocked, Free, Worn, Taken, Story, tag_at, Core, Standing, only}
use Rattle.clover_rule.specs.Views.{free_or_worn, Past, Book, book, Basis, renewed, book_at, root_at}
use Rattle.clover_rule.specs.declared.view.BufferState.TheVariants.{Free as IsFree, Worn as IsWorn, Bound as IsBound, Out as IsOut}
use Rattle.clover_rule.specs.declared.view.Recycling.{Recycling}
use Rattle.clover_rule.specs.declared.view.Role.TheVariants.{Serving}
use Rattle.clover_rule.specs.declared.view.ServerTask.TheVariants.{Idle, Both, Exchanged}
use Rattle.clover_rule.specs.declared.view.View.{View}
use Rattle.clover_words.specs.declared.pool.Pool.{Pool}
use Rattle.clover_rule.proofs.Tools.{upd_same, upd_else}
use Rattle.clover_rule.proofs.Standings.{tag_there}
use Rattle.clover_rule.proofs.Steps.{prefix_self}
use Rattle.clover_rule.proofs.ServerTools.{IsServed, same_known, core_copy, whole, book_same, tale_copy, no_stock}
use Rattle.clover_rule.proofs.ServerLaws.{stage_at, serves_at}
use Rattle.clover_rule.proofs.Derived.{current_past}
use Rattle.clover_rule.proofs.Roots.{freed_core, freed_mem}
use Rattle.clover_rule.proofs.Exchanging.{CanRecycle, recycle_core, stands, is, else_same, behind}
use Rattle.clover_rule.proofs.RecycleLaw.{gens', grows, leaves, spent_kept}

module _ (l : Pool) (m0 : Tagged) (used : List ℕ) (m : Mem) (vs : List View) (id : ℕ) (v : View) (st : Story) (h : List Entry) (w : Whole l m0 used m vs st h) (at : nth vs id ≡ Some v) (role : v.pass.role ≡ Serving) where
  abbrev ru : Basis m0 used m vs st h
  ru = w.basis

  module _ (cycle : Recycling) (e : v.server.task ≡ Both cycle) where
    g : Stage l m st (Both cycle)
    g = stage_at l m0 used m vs id v st h w at role (Both cycle) e

    sv : Serves l m st (Both cycle) v.server
    sv = serves_at l m0 used m vs id v st h w at role (Both cycle) e

    can : CanRecycle m st cycle.slot cycle.root
    can = record { root = g.here.0.root; stored = g.here.3 }

    stand : Standing m st cycle.slot (st.gone cycle.slot) cycle.root
    stand = stands m st cycle.slot cycle.root ru.core can

    -- the exchange finds the link: it never fails
    pub exchange_finds : m.next (home cycle.root) ≡ word (age cycle.root) (Some cycle.next)
    exchange_finds = stand.now ∙ ap (word (age cycle.root)) g.here.0.next

    abbrev m1 : Mem
    m1 = recycled_mem m cycle.root

    abbrev st1 : Story
    st1 = record (recycled_story st cycle.slot cycle.root) { task = Exchanged cycle }

    range : InRange l cycle.root
    range = w.help.ranged.tags cycle.slot (st.gone cycle.slot) cycle.root g.here.0.root

    next_now : m1.next (home cycle.root) ≡ word (suc (age cycle.root)) None
    next_now = is m st cycle.slot cycle.root ru.core can

    next_else : (b : ℕ) → b ≢ home cycle.root → m1.next b ≡ m.next b
    next_else b n = else_same m st cycle.slot cycle.root ru.core can b n

    place_now : st1.place (home cycle.root) ≡ Taken
    place_now = upd_same st.place (home cycle.root) Taken

    place_else : (b : ℕ) → b ≢ home cycle.root → st1.place b ≡ st.place b
    place_else b n = upd_else st.place (home cycle.root) b Taken n

    gone_now : st1.gone cycle.slot ≡ suc (st.gone cycle.slot)
    gone_now = upd_same st.gone cycle.slot (suc (st.gone cycle.slot))

    gone_else : (s1 : ℕ) → s1 ≢ cycle.slot → st1.gone s1 ≡ st.gone s1
    gone_else s1 n = upd_else st.gone cycle.slot s1 (suc (st.gone cycle.slot)) n

    roots_kept : (s1 : ℕ) → root_in (Exchanged cycle) st1 s1 ≡ root_in (Both cycle) st s1
    roots_kept s1 = dite (ℕ_discrete s1 cycle.slot) (λ d. rw d (ap (λ (b : Bool). or_else (cond b (Some (Some cycle.root)) None) (tag_at st1 cycle.slot (st1.gone cycle.slot))) (eq-eqb cycle.slot cycle.slot refl) ∙ sym g.here.0.root)) (λ d. ap (λ (b : Bool). or_else (cond b (Some (Some cycle.root)) None) (tag_at st1 s1 (st1.gone s1))) (ne_eqb cycle.slot s1 (λ z. d (sym z))) ∙ ap (tag_at st s1) (gone_else s1 d))

    help1 : Help l m1 st1
    help1 = let p = w.help in record {
      ranged = let a = p.ranged in record {
        tags = a.tags;
        fits = a.fits;
        own = λ b. dite (ℕ_discrete b (home cycle.root)) (λ d. let z = ap gen (ap m1.next d ∙ next_now) in let z1 = range.1 in omega arith) (λ d. let z = ap gen (next_else b d) in let z1 = a.own b in omega arith);
        below = λ b. let z = gens' m0 used m vs st h ru id v v at cycle.slot cycle.root can b in let z1 = a.below b in omega arith;
        ready = λ b f. dite (ℕ_discrete b (home cycle.root)) (λ d. absurd (subst Ready (ap st1.place d ∙ place_now) f)) (λ d. let z = a.ready b (subst Ready (place_else b d) f) in (z.0, let z1 = z.1 in let z2 = ap gen (next_else b d) in omega arith));
        worn = λ b i f. dite (ℕ_discrete b (home cycle.root)) (λ d. absurd (cc (ap st1.place d, place_now, f))) (λ d. ap gen (next_else b d) ∙ a.worn b i (sym (place_else b d) ∙ f));
      };
      keyed = let a = p.keyed in record { valid = a.valid; current = a.current; flushed = a.flushed; bare = a.bare; nameless = a.nameless; filled = a.filled; slots = a.slots };
      naming = let a = p.naming in record { counted = a.counted; found = a.found; listed = a.listed; waiting = a.waiting; once = a.once };
      stage = record {
        settled = λ s1 q. dite (ℕ_discrete s1 cycle.slot) (λ d. (ap st.lead d ∙ g.here.2 ∙ sym (ap st1.gone d ∙ gone_now), ap st.flead d ∙ g.here.3 ∙ sym (ap st1.gone d ∙ gone_now))) (λ d. let a = g.settled s1 (λ z. d (let y : Some cycle.slot ≡ Some s1 = z in cc)) in (a.0 ∙ sym (gone_else s1 d), a.1 ∙ sym (gone_else s1 d)));
        holds = λ b f. dite (ℕ_discrete b (home cycle.root)) (λ d. ap Some (sym d)) (λ d. absurd (let z : ◌≡◌ {A = Option ℕ} None (Some b) = g.holds b (sym (place_else b d) ∙ f) in cc));
        names = g.names;
        here = record {
          place = place_now;
          now = next_now;
          safe = stand.safe ∙ ap (λ (b : Bool). word (age cycle.root) (only b (tag_at st cycle.slot (suc (st.gone cycle.slot))))) (lt-ltb (suc (st.gone cycle.slot)) (st.sure cycle.slot) g.here.1) ∙ ap (word (age cycle.root)) g.here.0.next;
          root = ap (tag_at st cycle.slot) gone_now ∙ g.here.0.next;
          old = (st.gone cycle.slot, sym gone_now, g.here.0.root);
          body = let x = tag_there st cycle.slot (st.gone cycle.slot) cycle.root g.here.0.root in (x.0, x.1, ru.bodies cycle.slot (st.gone cycle.slot) x.0 x.1 (omega arith));
          inside = range.0;
          young = range.1;
        };
      };
      short = p.short;
    }

    books1 : (b : ℕ) → inside l b ≡ true → (book_at v.server) b ≡ book_of (Exchanged cycle) st1 (st1.place b) (gen (m1.next b)) b
    books1 b i = dite (ℕ_discrete b (home cycle.root))
        (λ d. sv.books b i ∙ ap (λ (x : ℕ). book_of (Both cycle) st (st.place x) (gen (m.next x)) x) d ∙ ap (λ (p : Place). book_of (Both cycle) st p (gen (m.next (home cycle.root))) (home cycle.root)) stand.placed
        ∙ ap (λ (x : Option ℕ). book (gen (m.next (home cycle.root))) (cond (is_home x (home cycle.root)) IsBound IsOut)) g.here.0.root ∙ ap (λ (x : Bool). book (gen (m.next (home cycle.root))) (cond x IsBound IsOut)) (eq-eqb (home cycle.root) (home cycle.root) refl) ∙ ap (λ (x : ℕ). book x IsBound) (ap gen exchange_finds)
        ∙ sym (ap (λ (p : Place). book_of (Exchanged cycle) st1 p (gen (m1.next b)) b) (ap st1.place d ∙ place_now)))
        (λ d. sv.books b i ∙ sym (book_same (Both cycle) (Exchanged cycle) st st1 (st.place b) (gen (m.next b)) b (λ s1 q. ap (λ (x : Option ℕ). is_home x b) (roots_kept s1)) (λ q. absurd (let z : ◌≡◌ {A = Option ℕ} None (Some b) = g.holds b q in cc)))
        ∙ sym (ap (λ (p : Place). book_of (Exchanged cycle) st1 p (gen (m1.next b)) b) (place_else b d) ∙ ap (λ (x : ℕ). book_of (Exchanged cycle) st1 (st.place b) x b) (ap gen (next_else b d))))

    core1 : Core m1 st1
    core1 = core_copy m1 (recycled_story st cycle.slot cycle.root) (recycle_core m st cycle.slot cycle.root ru.core can) m.body m.fbody m.key m.fkey m.short m.count st.keys st.first st.bindings (Exchanged cycle) st.slot_named

    pub exchange_whole : IsServed l m0 used m1 (renewed vs id (root_passed v cycle)) st h
    exchange_whole = (
      st1,
      whole l m0 used m vs st h w id v at role (root_passed v cycle) refl refl refl m1 st1
          record {
            core = core1;
            tale = tale_copy st m0 used h ru.tale (upd st.place (home cycle.root) Taken) (upd st.gone cycle.slot (suc (st.gone cycle.slot))) st.lead st.flead st.named st.bindings (Exchanged cycle) st.slot_named;
            bodies = λ s1 i1 w1 q f. ru.bodies s1 i1 w1 q (behind m st cycle.slot cycle.root ru.core can s1 i1 f);
            spent = λ y q. spent_kept m0 used m vs st h ru id v v at cycle.slot cycle.root can y q;
            bound = ru.bound;
            keyed = ru.keyed;
            grows = let a = grows m0 used m vs st h ru id v v at cycle.slot cycle.root can in record { versions = a.versions; sure = a.sure; gone = a.gone; gens = a.gens; names = a.names; count = a.count; history = a.history };
            leaves = λ j b f. let a = leaves m0 used m vs st h ru id v v at cycle.slot cycle.root can j b f in record { place = a.place; next = a.next; body = a.body; fbody = a.fbody };
            help = help1;
            fgens = λ b. omega arith;
          }
          (λ q. let a = same_known m1 st1 h id v (root_passed v cycle).server q in record { stocked = a.stocked; apart = a.apart; knows = record { durable = a.knows.durable; links = a.knows.links; words = (subst (Past m1 st1 (home cycle.root)) next_now (current_past m1 st1 core1 (home cycle.root)), a.knows.words); copied = a.knows.copied }; written = a.written; flushed = a.flushed; named = a.named; history = a.history; calls = a.calls })
          record { task_is = refl; directory = sv.directory; roots = λ s1. sv.roots s1 ∙ sym (roots_kept s1); books = books1 },
      no_stock st.place (home cycle.root) Taken (λ i z. absurd (let y : Taken ≡ Stocked i = z in cc)),
    )

  module _ (cycle : Recycling) (e : v.server.task ≡ Exchanged cycle) where
    ge : Stage l m st (Exchanged cycle)
    ge = stage_at l m0 used m vs id v st h w at role (Exchanged cycle) e

    se : Serves l m st (Exchanged cycle) v.server
    se = serves_at l m0 used m vs id v st h w at role (Exchanged cycle) e

    abbrev b0 : ℕ
    b0 = home cycle.root

    -- worn or free
    abbrev place_of : (b : Bool) → Place
    place_of true = Worn
    place_of false = Free

    abbrev q0 : Place
    q0 = place_of (eqb (suc (age cycle.root)) l.wear)

    unstocked : (b : Bool) (i : ℕ) → place_of b ≢ Stocked i
    unstocked true i z = absurd (let y : Worn ≡ Stocked i = z in cc)
    unstocked false i z = absurd (let y : Free ≡ Stocked i = z in cc)

    unchained : (s1 : ℕ) → q0 ≢ Chained s1
    unchained s1 = go (eqb (suc (age cycle.root)) l.wear)
      where
        go : (b : Bool) → place_of b ≢ Chained s1
        go true z = absurd (let y : Worn ≡ Chained s1 = z in cc)
        go false z = absurd (let y : Free ≡ Chained s1 = z in cc)

    unheld : q0 ≢ Taken
    unheld = go (eqb (suc (age cycle.root)) l.wear)
      where
        go : (b : Bool) → place_of b ≢ Taken
        go true z = absurd (let y : Worn ≡ Taken = z in cc)
        go false z = absurd (let y : Free ≡ Taken = z in cc)

    raised : greater (m.fnext b0) (word (suc (age cycle.root)) None) ≡ word (suc (age cycle.root)) None
    raised = rw ge.here.safe (let z : ltb (order (word (age cycle.root) (Some cycle.next))) (order (word (suc (age cycle.root)) None)) ≡ true = grind (arith, nat_tests) in rw z refl)

    abbrev m2 : Mem
    m2 = record m { fnext = upd m.fnext b0 (greater (m.fnext b0) (word (suc (age cycle.root)) None)) }

    abbrev st2 : Story
    st2 = record st { place = upd st.place b0 q0; task = Idle }

    is_freed : m2 ≡ freed_mem m st b0 (suc (age cycle.root)) q0 ru.core ge.here.place ge.here.now unchained
    is_freed = ap (λ (n : Next). record m { fnext = upd m.fnext b0 n }) raised

    place2 : st2.place b0 ≡ q0
    place2 = upd_same st.place b0 q0

    place2_else : (b : ℕ) → b ≢ b0 → st2.place b ≡ st.place b
    place2_else b n = upd_else st.place b0 b q0 n

    f_now : m2.fnext b0 ≡ word (suc (age cycle.root)) None
    f_now = upd_same m.fnext b0 (greater (m.fnext b0) (word (suc (age cycle.root)) None)) ∙ raised

    f_else : (b : ℕ) → b ≢ b0 → m2.fnext b ≡ m.fnext b
    f_else b n = upd_else m.fnext b0 b (greater (m.fnext b0) (word (suc (age cycle.root)) None)) n

    core2 : Core m2 (record st { place = upd st.place b0 q0 })
    core2 = subst (λ (x : Mem). Core x (record st { place = upd st.place b0 q0 })) (sym is_freed) (freed_core m st b0 (suc (age cycle.root)) q0 ru.core ge.here.place ge.here.now unchained)

    -- the new root stands in a buffer of its own
    t_stands : Standing m st cycle.slot (st.gone cycle.slot) cycle.next
    t_stands = ru.core.standing cycle.slot (st.gone cycle.slot) cycle.next ge.here.root (omega arith)

    t_away : home cycle.next ≢ b0
    t_away z = absurd (cc (ap st.place z, t_stands.placed, ge.here.place))

    ready_q : (b : Bool) → eqb (suc (age cycle.root)) l.wear ≡ b → Ready (place_of b) → suc (age cycle.root) < l.wear
    ready_q true z f = absurd f
    ready_q false z f = let y = ge.here.young in let x : suc (age cycle.root) ≢ l.wear = λ q. absurd (true≢false (sym (eq-eqb (suc (age cycle.root)) l.wear q) ∙ z)) in omega arith

    worn_q : (b : Bool) → eqb (suc (age cycle.root)) l.wear ≡ b → place_of b ≡ Worn → suc (age cycle.root) ≡ l.wear
    worn_q true z f = eqb-true (suc (age cycle.root)) l.wear z
    worn_q false z f = absurd (let y : Free ≡ Worn = f in cc)

    help2 : Help l m2 st2
    help2 = let p = w.help in record {
      ranged = let a = p.ranged in record {
        tags = a.tags;
        fits = a.fits;
        own = a.own;
        below = λ b. dite (ℕ_discrete b b0) (λ d. let z = ap gen (ap m2.fnext d ∙ f_now) in let z1 = ap gen (ap m.next d ∙ ge.here.now) in omega arith) (λ d. let z = ap gen (f_else b d) in let z1 = a.below b in omega arith);
        ready = λ b f. dite (ℕ_discrete b b0) (λ d. (ap (inside l) d ∙ ge.here.inside, let z = ready_q (eqb (suc (age cycle.root)) l.wear) refl (subst Ready (ap st2.place d ∙ place2) f) in let z1 = ap gen (ap m.next d ∙ ge.here.now) in omega arith)) (λ d. a.ready b (subst Ready (place2_else b d) f));
        worn = λ b i f. dite (ℕ_discrete b b0) (λ d. ap gen (ap m.next d ∙ ge.here.now) ∙ worn_q (eqb (suc (age cycle.root)) l.wear) refl (sym place2 ∙ ap st2.place (sym d) ∙ f)) (λ d. a.worn b i (sym (place2_else b d) ∙ f));
      };
      keyed = let a = p.keyed in record { valid = a.valid; current = a.current; flushed = a.flushed; bare = a.bare; nameless = a.nameless; filled = a.filled; slots = a.slots };
      naming = let a = p.naming in record { counted = a.counted; found = a.found; listed = a.listed; waiting = a.waiting; once = a.once };
      stage = record {
        settled = λ s1 q. ge.settled s1 (λ z. absurd cc);
        holds = λ b f. dite (ℕ_discrete b b0) (λ d. absurd (unheld (sym place2 ∙ ap st2.place (sym d) ∙ f))) (λ d. absurd (d (let z : Some b0 ≡ Some b = ge.holds b (sym (place2_else b d) ∙ f) in cc)));
        names = λ s1 k1 q. ⊎_elim inl (λ z. absurd cc) (ge.names s1 k1 q);
        here = tt;
      };
      short = p.short;
    }

    roots2 : (s1 : ℕ) → upd (root_at v.server) cycle.slot (Some cycle.next) s1 ≡ tag_at st s1 (st.gone s1)
    roots2 s1 = dite (ℕ_discrete s1 cycle.slot) (λ d. ap (upd (root_at v.server) cycle.slot (Some cycle.next)) d ∙ upd_same (root_at v.server) cycle.slot (Some cycle.next) ∙ sym (ap (λ (x : ℕ). tag_at st x (st.gone x)) d ∙ ge.here.root))
        (λ d. upd_else (root_at v.server) cycle.slot s1 (Some cycle.next) d ∙ se.roots s1 ∙ ap (λ (b : Bool). or_else (cond b (Some (Some cycle.root)) None) (tag_at st s1 (st.gone s1))) (ne_eqb cycle.slot s1 (λ z. d (sym z))))

    book_q : (b : Bool) → book_of Idle st2 (place_of b) (suc (age cycle.root)) b0 ≡ book (suc (age cycle.root)) (cond b IsWorn IsFree)
    book_q true = refl
    book_q false = refl

    -- the books of a buffer that is neither the old root's nor the new one's
    same_home : (b : ℕ) → b ≢ b0 → b ≢ home cycle.next → (s1 : ℕ) → is_home (root_in Idle st2 s1) b ≡ is_home (root_in (Exchanged cycle) st s1) b
    same_home b d f s1 = dite (ℕ_discrete s1 cycle.slot)
        (λ z. rw z (ap (λ (x : Option ℕ). is_home x b) ge.here.root ∙ ne_eqb (home cycle.next) b (λ y. f (sym y)) ∙ sym (ne_eqb (home cycle.root) b (λ y. d (sym y))) ∙ sym (ap (λ (x : Bool). is_home (or_else (cond x (Some (Some cycle.root)) None) (tag_at st cycle.slot (st.gone cycle.slot))) b) (eq-eqb cycle.slot cycle.slot refl))))
        (λ z. sym (ap (λ (x : Bool). is_home (or_else (cond x (Some (Some cycle.root)) None) (tag_at st s1 (st.gone s1))) b) (ne_eqb cycle.slot s1 (λ y. z (sym y)))))

    abbrev books2 : ℕ → Book
    books2 = upd (upd (book_at v.server) (home cycle.next) (book (age cycle.next) IsBound)) b0 (book (suc (age cycle.root)) (free_or_worn l.wear (suc (age cycle.root))))

    serves2 : (b : ℕ) → inside l b ≡ true → books2 b ≡ book_of Idle st2 (st2.place b) (gen (m.next b)) b
    serves2 b i = dite (ℕ_discrete b b0)
        (λ d. ap books2 d ∙ upd_same (upd (book_at v.server) (home cycle.next) (book (age cycle.next) IsBound)) b0 (book (suc (age cycle.root)) (free_or_worn l.wear (suc (age cycle.root)))) ∙ sym (book_q (eqb (suc (age cycle.root)) l.wear))
        ∙ sym (ap (λ (x : ℕ). book_of Idle st2 (st2.place x) (gen (m.next x)) x) d ∙ ap (λ (p : Place). book_of Idle st2 p (gen (m.next b0)) b0) place2 ∙ ap (λ (x : ℕ). book_of Idle st2 q0 x b0) (ap gen ge.here.now)))
        (λ d. upd_else (upd (book_at v.server) (home cycle.next) (book (age cycle.next) IsBound)) b0 b (book (suc (age cycle.root)) (free_or_worn l.wear (suc (age cycle.root)))) d ∙ dite (ℕ_discrete b (home cycle.next))
        (λ f. ap (upd (book_at v.server) (home cycle.next) (book (age cycle.next) IsBound)) f ∙ upd_same (book_at v.server) (home cycle.next) (book (age cycle.next) IsBound)
        ∙ sym (ap (λ (p : Place). book_of Idle st2 p (gen (m.next b)) b) (place2_else b d ∙ ap st.place f ∙ t_stands.placed) ∙ ap (λ (x : Option ℕ). book (gen (m.next b)) (cond (is_home x b) IsBound IsOut)) ge.here.root ∙ ap (λ (x : Bool). book (gen (m.next b)) (cond x IsBound IsOut)) (eq-eqb (home cycle.next) b (sym f)) ∙ ap (λ (x : ℕ). book x IsBound) (ap gen (ap m.next f ∙ t_stands.now))))
        (λ f. upd_else (book_at v.server) (home cycle.next) b (book (age cycle.next) IsBound) f ∙ se.books b i ∙ sym (book_same (Exchanged cycle) Idle st st2 (st.place b) (gen (m.next b)) b (λ s1 q. same_home b d f s1) (λ q. absurd (d (let z : Some b0 ≡ Some b = ge.holds b q in cc))))
        ∙ sym (ap (λ (p : Place). book_of Idle st2 p (gen (m.next b)) b) (place2_else b d))))

    pub free_old_whole : IsServed l m0 used m2 (renewed vs id (root_freed l.wear v cycle)) st h
    free_old_whole = (
      st2,
      whole l m0 used m vs st h w id v at role (root_freed l.wear v cycle) refl refl refl m2 st2
          record {
            core = core_copy m2 (record st { place = upd st.place b0 q0 }) core2 m.body m.fbody m.key m.fkey m.short m.count st.keys st.first st.bindings Idle st.slot_named;
            tale = tale_copy st m0 used h ru.tale (upd st.place b0 q0) st.gone st.lead st.flead st.named st.bindings Idle st.slot_named;
            bodies = ru.bodies;
            spent = λ y q. ⊎_elim inl (λ a. inr (a.0, place2_else (home y) (λ d. absurd (cc (ap st.place d, a.1, ge.here.place))) ∙ a.1, a.2)) q;
            bound = ru.bound;
            keyed = ru.keyed;
            grows = record { versions = λ s1 i1 w1 q. q; sure = λ j. omega arith; gone = λ j. omega arith; gens = λ b. omega arith; names = prefix_self st.bindings; count = omega arith; history = prefix_self h };
            leaves = λ j b f. record { place = place2_else b (λ d. absurd (cc (ap st.place d, f, ge.here.place))) ∙ f; next = refl; body = λ y. refl; fbody = λ y. refl };
            help = help2;
            fgens = λ b. dite (ℕ_discrete b b0) (λ d. let z = ap gen (ap m2.fnext d ∙ f_now) in let z1 = ap gen (ap m.fnext d ∙ ge.here.safe) in omega arith) (λ d. let z = ap gen (f_else b d) in omega arith);
          }
          (same_known m2 st2 h id v (root_freed l.wear v cycle).server)
          record { task_is = refl; directory = se.directory; roots = roots2; books = serves2 },
      no_stock st.place b0 q0 (unstocked (eqb (suc (age cycle.root)) l.wear)),
    )
