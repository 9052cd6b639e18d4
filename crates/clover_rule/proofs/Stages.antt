-- The laws of a recycling's steps, of a binding's flushed root and of the count.
use Rattle.std.proofs.Common.{◌≡◌, ℕ, suc, ◌<◌, ◌≤◌, ◌≢◌, ◌⊎◌, List, [], ◌∷◌, ◌++◌, length, length-append, append-nil, Bool, true, false, cond, refl, sym, ap, ◌∙◌, inl, inr, ⊎_elim, arith, true≢false, eqb, eq-eqb, ne_eqb, subst}
use native.Mathlib.Decide.{ℕ_discrete}
use mathlib.Core.Logic.{dite}
use Rattle.std.specs.Prelude.{Option, Some, None}
use Rattle.clover_words.specs.Tag.{home, age}
use Rattle.clover_map.specs.declared.call.Entry.{Entry}
use Rattle.clover_map.specs.Tagged.{Tagged}
use Rattle.clover_rule.specs.Changes.{raised_mem, raised_story}
use Rattle.clover_rule.specs.Content.{inside}
use Rattle.clover_rule.specs.History.{Version}
use Rattle.clover_rule.specs.Lists.{Each, nth, upd, Within, IsPrefix}
use Rattle.clover_rule.specs.Memory.{Next, word, gen, Mem}
use Rattle.clover_rule.specs.Server.{AtStage, Help, Settled, moving, unnamed, holding, waiting_name, IsRecycling, Stage, or_else, root_in, is_home, book_of, Serves, Whole}
use Rattle.clover_rule.specs.Learned.{at_task, looked, link_flushed, entered}
use Rattle.clover_rule.specs.Story.{Core, Tale, Taken, Story, tag_at, now_at, unsure, Place, Chained, Standing}
use Rattle.clover_rule.specs.Views.{SlotsOnce, IsLink, Past, ViewOk, Basis, renewed, root_at, book_at, book}
use Rattle.clover_rule.specs.declared.view.BufferState.TheVariants.{Bound as IsBound, Out as IsOut}
use Rattle.clover_rule.specs.declared.view.NewBinding.{NewBinding}
use Rattle.clover_rule.specs.declared.view.Pass.{Pass}
use Rattle.clover_rule.specs.declared.view.Recycling.{Recycling}
use Rattle.clover_rule.specs.declared.view.Role.TheVariants.{Serving}
use Rattle.clover_rule.specs.declared.view.Server.{Server}
use Rattle.clover_rule.specs.declared.view.ServerTask.{ServerTask}
use Rattle.clover_rule.specs.declared.view.ServerTask.TheVariants.{Idle, Rooted, Waiting, Loaded, Raised, Led, Both}
use Rattle.clover_rule.specs.declared.view.View.{View}
use Rattle.clover_words.specs.declared.pool.Pool.{Pool}
use Rattle.clover_rule.proofs.Bindings.{nth_among}
use Rattle.clover_rule.proofs.Tools.{upd_same, upd_else, nth_snoc}
use Rattle.clover_rule.proofs.Standings.{tag_within}
use Rattle.clover_rule.proofs.Steps.{prefix_self, within_prefix, within_last, Grows, durable_kept}
use Rattle.clover_rule.proofs.Cores.{core_but}
use Rattle.clover_rule.proofs.ServerTools.{IsServed, Moves, same_known, own_whole, core_copy, whole, book_same, tale_copy}
use Rattle.clover_rule.proofs.Derived.{current_past}
use Rattle.clover_rule.proofs.ServerLaws.{stage_at, serves_at}
use Rattle.clover_rule.proofs.Roots.{root_core, flush_core, flead_cases}
use Rattle.clover_rule.proofs.Raising.{raise_core, raised_more, raised_now, raised_higher, raised_below}
use Rattle.clover_rule.proofs.Cuts.{unread_less, unsure_less}

pub grow_refl : (m m' : Mem) (st st' : Story) (h : List Entry) → ((s : ℕ) → st'.log s ≡ st.log s) → ((s : ℕ) → st'.sure s ≡ st.sure s) → ((s : ℕ) → st'.gone s ≡ st.gone s) → ((b : ℕ) → m'.next b ≡ m.next b) → IsPrefix st.bindings st'.bindings → m.count ≤ m'.count → Grows m st h m' st' h
grow_refl m m' st st' h a b c d e f = record { versions = λ s i w q. ap (λ (ws : List Version). nth ws i) (a s) ∙ q; sure = λ s. let x = b s in omega arith; gone = λ s. let x = c s in omega arith; gens = λ y. let x = ap gen (d y) in omega arith; names = e; count = f; history = prefix_self h }

-- the books stay where no buffer is held and each slot keeps its root
books_still : (l : Pool) (m : Mem) (st st' : Story) (T T' : ServerTask) (sv : Server) → Stage l m st T → holding T ≡ None → Serves l m st T sv → ((s : ℕ) → root_in T' st' s ≡ root_in T st s) → (b : ℕ) → inside l b ≡ true → book_at sv b ≡ book_of T' st' (st.place b) (gen (m.next b)) b
books_still l m st st' T T' sv g n e r b i = e.books b i ∙ sym (book_same T T' st st' (st.place b) (gen (m.next b)) b (λ s q. ap (λ (x : Option ℕ). is_home x b) (r s)) (λ q. absurd (cc (n, g.holds b q))))

none_held : (l : Pool) (m : Mem) (st : Story) (T : ServerTask) → Stage l m st T → holding T ≡ None → (b : ℕ) → st.place b ≢ Taken
none_held l m st T g n b q = absurd (cc (n, g.holds b q))

pub within_two : {A : Type 0} (x y : A) (xs : List A) → Within x (xs ++ y ∷ []) → Within x xs ⊎ (y ≡ x)
within_two x y [] w = ⊎_elim inr (λ q. absurd q) w
within_two x y (z ∷ xs) w = ⊎_elim (λ q. inl (inl q)) (λ q. ⊎_elim (λ a. inl (inr a)) inr (within_two x y xs q)) w

module _ (l : Pool) (m0 : Tagged) (used : List ℕ) (m : Mem) (vs : List View) (id : ℕ) (v : View) (st : Story) (h : List Entry) (w : Whole l m0 used m vs st h) (at : nth vs id ≡ Some v) (role : v.pass.role ≡ Serving) where
  abbrev ru : Basis m0 used m vs st h
  ru = w.basis

  stage_of : (T : ServerTask) → v.server.task ≡ T → Stage l m st T
  stage_of T e = stage_at l m0 used m vs id v st h w at role T e

  serves_of : (T : ServerTask) → v.server.task ≡ T → Serves l m st T v.server
  serves_of T e = serves_at l m0 used m vs id v st h w at role T e

  -- a step that changes roots, flushed next words and the task alone, and what the pass knows
  module _ (T T' : ServerTask) (e : v.server.task ≡ T) (free : holding T ≡ None) (roots : (s : ℕ) → root_in T' st s ≡ root_in T st s) (listed : waiting_name T' ≡ waiting_name T)
      (fnext : ℕ → Next) (root froot : ℕ → Option ℕ) (sure lead flead : ℕ → ℕ) where
    abbrev mt : Mem
    mt = record m { fnext = fnext; root = root; froot = froot }

    abbrev led : Story
    led = record st { sure = sure; lead = lead; flead = flead }

    abbrev stt : Story
    stt = record led { task = T' }

    module _ (core : Core mt led) (more : (s : ℕ) → st.sure s ≤ sure s) (higher : (b : ℕ) → gen (m.fnext b) ≤ gen (fnext b)) (below : (b : ℕ) → gen (fnext b) ≤ gen (m.next b))
        (settled : (s : ℕ) → moving T' ≢ Some s → Settled stt s) (names : (s : ℕ) (k : List ℕ) → st.keys s ≡ Some k → (st.named s ≡ true) ⊎ (unnamed T' ≡ Some s)) (here : AtStage l mt stt T')
        (pass : Pass) (role' : pass.role ≡ v.pass.role) (past' : pass.history ≡ v.pass.history) where
      abbrev vt : View
      vt = record v { pass = pass; server = record v.server { task = T' } }

      grown : Grows m st h mt stt h
      grown = record { versions = λ s i w q. q; sure = more; gone = λ j. omega arith; gens = λ b. omega arith; names = prefix_self st.bindings; count = omega arith; history = prefix_self h }

      tale_then : Tale stt m0 used h
      tale_then = record {
        legal = ru.tale.legal;
        told = ru.tale.told;
        began = ru.tale.began;
        unread = unread_less (unsure st) (unsure stt) (λ y q. unsure_less (st.sure (st.slot_of y)) (sure (st.slot_of y)) (st.rank y) (more (st.slot_of y)) q) h ru.tale.unread;
        settled = λ s j y q. let a = ru.tale.settled s j y q in let b = more s in omega arith;
        unbound = ru.tale.unbound;
      }

      help_then : Help l mt stt
      help_then = let p = w.help in record {
        ranged = let a = p.ranged in record { tags = a.tags; own = a.own; below = below; ready = a.ready; worn = a.worn; fits = a.fits };
        keyed = let a = p.keyed in record { valid = a.valid; current = a.current; flushed = a.flushed; bare = a.bare; nameless = a.nameless; filled = a.filled; slots = a.slots };
        naming = let a = p.naming in record { counted = a.counted; found = a.found; listed = a.listed; waiting = a.waiting; once = a.once };
        stage = record { settled = settled; holds = λ b q. absurd (none_held l m st T (stage_of T e) free b q); names = names; here = here };
        short = λ s y q. durable_kept m st h mt stt h grown s y (p.short s y q);
      }

      moves : Moves l m0 used m st h mt stt
      moves = record {
        core = core_copy mt led core m.body m.fbody m.key m.fkey m.short m.count st.keys st.first st.bindings T' st.slot_named;
        tale = tale_then;
        bodies = ru.bodies;
        spent = λ y q. q;
        bound = ru.bound;
        keyed = ru.keyed;
        grows = grown;
        leaves = λ j b f. record { place = f; next = refl; body = λ y. refl; fbody = λ y. refl };
        help = help_then;
        fgens = higher;
      }

      led_whole : (ViewOk mt stt h id v → ViewOk mt stt h id vt) → IsServed l m0 used mt (renewed vs id vt) st h
      led_whole knows = let sv = serves_of T e in (
        stt,
        whole l m0 used m vs st h w id v at role vt role' past' refl mt stt moves knows
            record { task_is = refl; directory = sv.directory ∙ ap (λ (bs : List (ℕ × List ℕ)). st.bindings ++ bs) (sym listed); roots = λ s. sv.roots s ∙ sym (roots s); books = λ b i. books_still l m st stt T T' v.server (stage_of T e) free sv roots b i },
        λ b i f. f,
      )

  -- nothing changes but the roots
  module _ (T T' : ServerTask) (e : v.server.task ≡ T) (free : holding T ≡ None) (roots : (s : ℕ) → root_in T' st s ≡ root_in T st s) (listed : waiting_name T' ≡ waiting_name T) (root froot : ℕ → Option ℕ) (lead flead : ℕ → ℕ) where
    abbrev mk : Mem
    mk = record m { root = root; froot = froot }

    abbrev sk : Story
    sk = record st { lead = lead; flead = flead; task = T' }

    roots_whole : Core mk (record st { lead = lead; flead = flead }) → ((s : ℕ) → moving T' ≢ Some s → Settled sk s) → ((s : ℕ) (k : List ℕ) → st.keys s ≡ Some k → (st.named s ≡ true) ⊎ (unnamed T' ≡ Some s)) → AtStage l mk sk T'
        → IsServed l m0 used mk (renewed vs id (at_task v T')) st h
    roots_whole core settled names here = led_whole T T' e free roots listed m.fnext root froot st.sure lead flead core (λ s. omega arith) (λ b. omega arith) w.help.ranged.below settled names here v.pass refl refl (same_known mk sk h id v (at_task v T').server)

  -- the load of the root version's next word
  module _ (s r : ℕ) (e : v.server.task ≡ Idle) (root : root_at v.server s ≡ Some r) where
    at_root : tag_at st s (st.gone s) ≡ Some r
    at_root = sym ((serves_of Idle e).roots s) ∙ root

    -- it has its own generation
    pub root_shows : m.next (home r) ≡ now_at st s (st.gone s) r
    root_shows = (ru.core.standing s (st.gone s) r at_root (omega arith)).now

    -- what it showed was so
    past : (n : Next) → m.next (home r) ≡ n → Past m st (home r) n
    past n q = subst (Past m st (home r)) q (current_past m st ru.core (home r))

    -- no version stands behind it
    pub read_unlinked : m.next (home r) ≡ word (age r) None → Whole l m0 used m (renewed vs id (looked s r v (word (age r) None))) st h
    read_unlinked q = own_whole l m0 used m vs st h w id v (looked s r v (word (age r) None)) at refl refl
        (let k = ru.views id v at in record { stocked = k.stocked; apart = k.apart; knows = record { durable = k.knows.durable; links = k.knows.links; words = (past (word (age r) None) q, k.knows.words); copied = k.knows.copied }; written = k.written; flushed = k.flushed; named = k.named; history = k.history; calls = k.calls })
        (λ ro x. record { task_is = x.task_is; directory = x.directory; roots = x.roots; books = x.books }) refl

    -- a recycling begins
    module _ (t : ℕ) (shows : m.next (home r) ≡ word (age r) (Some t)) where
      abbrev cycle : Recycling
      cycle = record { slot = s; root = r; next = t }

      recycling : IsRecycling st cycle
      recycling = record { root = at_root; next = let z : now_at st s (st.gone s) r ≡ word (age r) (Some t) = sym root_shows ∙ shows in cc }

      abbrev y : View
      y = looked s r v (word (age r) (Some t))

      link_there : (b : Bool) → Each (IsLink st) v.pass.links → Each (IsLink st) (cond b (record { slot = s; from = r; to = t } ∷ v.pass.links) v.pass.links)
      link_there true k = ((st.gone s, recycling.root, recycling.next), k)
      link_there false k = k

      pub read_linked : IsServed l m0 used m (renewed vs id y) st h
      read_linked = let g = stage_of Idle e in led_whole Idle (Loaded cycle) e refl (λ s1. refl) refl m.fnext m.root m.froot st.sure st.lead st.flead ru.core (λ s1. omega arith) (λ b. omega arith) w.help.ranged.below
          (λ s1 q. g.settled s1 (λ z. absurd cc)) g.names record { root = recycling.root; next = recycling.next } y.pass refl refl
          (λ k. record { stocked = k.stocked; apart = k.apart; knows = record { durable = k.knows.durable; links = link_there (eqb (age r) (age r)) k.knows.links; words = (past (word (age r) (Some t)) shows, k.knows.words); copied = k.knows.copied }; written = k.written; flushed = k.flushed; named = k.named; history = k.history; calls = k.calls })

  -- the raise over its link
  module _ (cycle : Recycling) (e : v.server.task ≡ Loaded cycle) where
    gl : Stage l m st (Loaded cycle)
    gl = stage_of (Loaded cycle) e

    abbrev ms : Mem
    ms = raised_mem m cycle.root cycle.next

    abbrev ss : Story
    ss = record (raised_story st cycle.slot (st.gone cycle.slot)) { task = Raised cycle }

    now_sure : suc (st.gone cycle.slot) < ss.sure cycle.slot
    now_sure = raised_now st cycle.slot (st.gone cycle.slot)

    old_root : age cycle.root ≤ gen (m.next (home cycle.root))
    old_root = let z = ap gen (ru.core.standing cycle.slot (st.gone cycle.slot) cycle.root gl.here.root (omega arith)).now in omega arith

    pub flush_link_whole : IsServed l m0 used ms (renewed vs id (link_flushed v cycle)) st h
    flush_link_whole = led_whole (Loaded cycle) (Raised cycle) e refl (λ s1. refl) refl ms.fnext m.root m.froot ss.sure st.lead st.flead (raise_core m st cycle.slot (st.gone cycle.slot) cycle.root cycle.next ru.core record { from = gl.here.root; to = gl.here.next })
        (raised_more st cycle.slot (st.gone cycle.slot)) (raised_higher m cycle.root cycle.next) (λ b. raised_below m cycle.root cycle.next b old_root (w.help.ranged.below b))
        (λ s1 q. gl.settled s1 (λ z. absurd cc)) gl.names (record { root = gl.here.root; next = gl.here.next }, now_sure) (link_flushed v cycle).pass refl refl
        (λ a. record { stocked = a.stocked; apart = a.apart; knows = record { durable = ((suc (st.gone cycle.slot), gl.here.next, now_sure), a.knows.durable); links = a.knows.links; words = a.knows.words; copied = a.knows.copied }; written = a.written; flushed = a.flushed; named = a.named; history = a.history; calls = a.calls })

  -- the store of the root
  module _ (cycle : Recycling) (e : v.server.task ≡ Raised cycle) where
    pub store_root_whole : IsServed l m0 used (record m { root = upd m.root cycle.slot (Some cycle.next) }) (renewed vs id (at_task v (Led cycle))) st h
    store_root_whole = let g = stage_of (Raised cycle) e in roots_whole (Raised cycle) (Led cycle) e refl (λ s1. refl) refl (upd m.root cycle.slot (Some cycle.next)) m.froot (upd st.lead cycle.slot (suc (st.gone cycle.slot))) st.flead
        (root_core m st cycle.slot cycle.root cycle.next ru.core g.here.0.root g.here.0.next g.here.1)
        (λ s1 q. let d : s1 ≢ cycle.slot = λ z. q (ap Some (sym z)) in let a = g.settled s1 (λ z. absurd cc) in (upd_else st.lead cycle.slot s1 (suc (st.gone cycle.slot)) d ∙ a.0, a.1))
        g.names (record { root = g.here.0.root; next = g.here.0.next }, g.here.1, upd_same st.lead cycle.slot (suc (st.gone cycle.slot)), (g.settled cycle.slot (λ z. absurd cc)).1)

  -- the store of its flushed copy
  module _ (cycle : Recycling) (e : v.server.task ≡ Led cycle) where
    pub store_flushed_whole : IsServed l m0 used (record m { froot = upd m.froot cycle.slot (Some cycle.next) }) (renewed vs id (at_task v (Both cycle))) st h
    store_flushed_whole = let g = stage_of (Led cycle) e in roots_whole (Led cycle) (Both cycle) e refl (λ s1. refl) refl m.root (upd m.froot cycle.slot (Some cycle.next)) st.lead (upd st.flead cycle.slot (st.lead cycle.slot))
        (flush_core m st cycle.slot cycle.next ru.core (ap (tag_at st cycle.slot) g.here.2 ∙ g.here.0.next))
        (λ s1 q. let d : s1 ≢ cycle.slot = λ z. q (ap Some (sym z)) in let a = g.settled s1 q in (a.0, upd_else st.flead cycle.slot s1 (st.lead cycle.slot) d ∙ a.1))
        g.names (record { root = g.here.0.root; next = g.here.0.next }, g.here.1, g.here.2, upd_same st.flead cycle.slot (st.lead cycle.slot) ∙ g.here.2)

  -- a binding's store of the flushed root
  module _ (bind : NewBinding) (e : v.server.task ≡ Rooted bind) where
    pub bind_flushed_whole : IsServed l m0 used (record m { froot = upd m.froot bind.slot (Some bind.tag) }) (renewed vs id (at_task v (Waiting bind))) st h
    bind_flushed_whole =
        let g = stage_of (Rooted bind) e in
        let a0 = g.here.0 in
        let leads : tag_at st bind.slot (st.lead bind.slot) ≡ Some bind.tag = ap (tag_at st bind.slot) ((g.settled bind.slot (λ z. absurd cc)).0 ∙ a0.gone) ∙ a0.tag in
        roots_whole (Rooted bind) (Waiting bind) e refl (λ s1. refl) refl m.root (upd m.froot bind.slot (Some bind.tag)) st.lead (upd st.flead bind.slot (st.lead bind.slot))
        (flush_core m st bind.slot bind.tag ru.core leads)
        (λ s1 q. let a = g.settled s1 (λ z. absurd cc) in (a.0, ⊎_elim (λ d. d.1 ∙ ap st.lead (sym d.0) ∙ a.0) (λ d. d.1 ∙ a.1) (flead_cases m st bind.slot bind.tag ru.core leads s1)))
        g.names (record { key = a0.key; unnamed = a0.unnamed; alone = a0.alone; tag = a0.tag; gone = a0.gone }, upd_same m.froot bind.slot (Some bind.tag))

  -- the store of the count
  module _ (bind : NewBinding) (e : v.server.task ≡ Waiting bind) where
    gc : Stage l m st (Waiting bind)
    gc = stage_of (Waiting bind) e

    abbrev mc : Mem
    mc = record m { count = suc m.count }

    abbrev sc : Story
    sc = record st { named = upd st.named bind.slot true; bindings = st.bindings ++ (bind.slot, bind.key) ∷ []; task = Idle }

    named_else : (s1 : ℕ) → s1 ≢ bind.slot → sc.named s1 ≡ st.named s1
    named_else s1 n = upd_else st.named bind.slot s1 true n

    named_now : sc.named bind.slot ≡ true
    named_now = upd_same st.named bind.slot true

    unnamed_else : (s1 : ℕ) → sc.named s1 ≡ false → s1 ≢ bind.slot
    unnamed_else s1 f z = true≢false (sym named_now ∙ ap sc.named (sym z) ∙ f)

    -- the slot and its tombstone are entered
    root_c : tag_at st bind.slot (st.gone bind.slot) ≡ Some bind.tag
    root_c = ap (tag_at st bind.slot) gc.here.0.gone ∙ gc.here.0.tag

    roots_c : (s1 : ℕ) → upd (root_at v.server) bind.slot (Some bind.tag) s1 ≡ tag_at st s1 (st.gone s1)
    roots_c s1 = dite (ℕ_discrete s1 bind.slot) (λ d. ap (upd (root_at v.server) bind.slot (Some bind.tag)) d ∙ upd_same (root_at v.server) bind.slot (Some bind.tag) ∙ sym (ap (λ (a : ℕ). tag_at st a (st.gone a)) d ∙ root_c))
        (λ d. upd_else (root_at v.server) bind.slot s1 (Some bind.tag) d ∙ (serves_of (Waiting bind) e).roots s1 ∙ ap (λ (b : Bool). or_else (cond b (Some None) None) (tag_at st s1 (st.gone s1))) (ne_eqb bind.slot s1 (λ z. d (sym z))))

    t_stands : Standing m st bind.slot (st.gone bind.slot) bind.tag
    t_stands = ru.core.standing bind.slot (st.gone bind.slot) bind.tag root_c (omega arith)

    books_c : (b : ℕ) → inside l b ≡ true → upd (book_at v.server) (home bind.tag) (book (age bind.tag) IsBound) b ≡ book_of Idle sc (st.place b) (gen (m.next b)) b
    books_c b i = dite (ℕ_discrete b (home bind.tag))
        (λ d. ap (upd (book_at v.server) (home bind.tag) (book (age bind.tag) IsBound)) d ∙ upd_same (book_at v.server) (home bind.tag) (book (age bind.tag) IsBound)
        ∙ sym (ap (λ (q : Place). book_of Idle sc q (gen (m.next b)) b) (ap st.place d ∙ t_stands.placed) ∙ ap (λ (o : Option ℕ). book (gen (m.next b)) (cond (is_home o b) IsBound IsOut)) root_c ∙ ap (λ (c : Bool). book (gen (m.next b)) (cond c IsBound IsOut)) (eq-eqb (home bind.tag) b (sym d)) ∙ ap (λ (y : ℕ). book y IsBound) (ap (λ (y : ℕ). gen (m.next y)) d ∙ ap gen t_stands.now)))
        (λ d. upd_else (book_at v.server) (home bind.tag) b (book (age bind.tag) IsBound) d ∙ (serves_of (Waiting bind) e).books b i ∙ sym (book_same (Waiting bind) Idle st sc (st.place b) (gen (m.next b)) b (λ s1 q. same_home b d s1 q) (λ q. absurd (none_held l m st (Waiting bind) gc refl b q))))
      where
        -- no other buffer stands on the slot's chain
        same_home : (b : ℕ) → b ≢ home bind.tag → (s1 : ℕ) → st.place b ≡ Chained s1 → is_home (root_in Idle sc s1) b ≡ is_home (root_in (Waiting bind) st s1) b
        same_home b d s1 q = dite (ℕ_discrete s1 bind.slot)
            (λ z. absurd (let c = ru.core.chained b s1 q in let a1 = tag_within st s1 c.0 c.1 c.2 in let n1 = ap (λ (y : ℕ). length (st.log y)) z in let n2 = gc.here.0.alone in let z0 : c.0 ≡ 0 = omega arith in
            d (sym c.4 ∙ ap home (let y : Some c.1 ≡ Some bind.tag = sym c.2 ∙ ap (tag_at st s1) z0 ∙ ap (λ (a : ℕ). tag_at st a 0) z ∙ gc.here.0.tag in cc))))
            (λ z. sym (ap (λ (c : Bool). is_home (or_else (cond c (Some None) None) (tag_at st s1 (st.gone s1))) b) (ne_eqb bind.slot s1 (λ y. z (sym y)))))

    -- the slot that gets its name had none
    no_name : (j : ℕ) (k : List ℕ) → nth st.bindings j ≡ Some (bind.slot, k) → ⊥
    no_name j k q = true≢false (sym (ru.bound bind.slot k (nth_among st.bindings j (bind.slot, k) q)).1 ∙ gc.here.0.unnamed)

    once_more : SlotsOnce st.bindings → SlotsOnce (st.bindings ++ (bind.slot, bind.key) ∷ [])
    once_more f i j s k1 k2 q g = ⊎_elim
        (λ a. ⊎_elim (λ b. f i j s k1 k2 a b) (λ b. absurd (no_name i k1 (a ∙ ap (λ (x : ℕ). Some (x, k1)) (sym (ap (λ (x : ℕ × List ℕ). x.0) b.1))))) (nth_snoc st.bindings (bind.slot, bind.key) (s, k2) j g))
        (λ a. ⊎_elim (λ b. absurd (no_name j k2 (b ∙ ap (λ (x : ℕ). Some (x, k2)) (sym (ap (λ (x : ℕ × List ℕ). x.0) a.1))))) (λ b. a.0 ∙ sym b.0) (nth_snoc st.bindings (bind.slot, bind.key) (s, k2) j g))
        (nth_snoc st.bindings (bind.slot, bind.key) (s, k1) i q)

    pub store_count_whole : IsServed l m0 used mc (renewed vs id (entered v bind)) st h
    store_count_whole = let p = w.help in let sv = serves_of (Waiting bind) e in let a0 = gc.here.0 in let c = ru.core in (
      sc,
      whole l m0 used m vs st h w id v at role (entered v bind) refl refl refl mc sc
          record {
            core = core_but m st c m.fnext st.place (upd st.named bind.slot true) m.body m.fbody m.key m.fkey m.short mc.count st.keys st.first (st.bindings ++ (bind.slot, bind.key) ∷ []) Idle st.slot_named (λ s1 i y x. x.safe) (λ y s1 f. (f, refl))
                (λ s1 f x. dite (ℕ_discrete s1 bind.slot) (λ d. absurd (cc (ap m.froot d, f, gc.here.1))) (λ d. named_else s1 d ∙ x)) c.loose c.held c.chained;
            tale = tale_copy st m0 used h ru.tale st.place st.gone st.lead st.flead (upd st.named bind.slot true) (st.bindings ++ (bind.slot, bind.key) ∷ []) Idle st.slot_named;
            bodies = ru.bodies;
            spent = λ y q. q;
            bound = λ s1 k1 q. ⊎_elim (λ b. let z = ru.bound s1 k1 b in (z.0, dite (ℕ_discrete s1 bind.slot) (λ d. ap sc.named d ∙ named_now) (λ d. named_else s1 d ∙ z.1))) (λ b. let z : bind.slot ≡ s1 = ap (λ (x : ℕ × List ℕ). x.0) b in let z1 : bind.key ≡ k1 = ap (λ (x : ℕ × List ℕ). x.1) b in (ap st.keys (sym z) ∙ a0.key ∙ ap Some z1, ap sc.named (sym z) ∙ named_now)) (within_two (s1, k1) (bind.slot, bind.key) st.bindings q);
            keyed = ru.keyed;
            grows = grow_refl m mc st sc h (λ a. refl) (λ a. refl) (λ a. refl) (λ a. refl) ((bind.slot, bind.key) ∷ [], refl) (omega arith);
            leaves = λ j b f. record { place = f; next = refl; body = λ y. refl; fbody = λ y. refl };
            help = record {
              ranged = let a = p.ranged in record { tags = a.tags; own = a.own; below = a.below; ready = a.ready; worn = a.worn; fits = a.fits };
              keyed = let a = p.keyed in record {
                valid = a.valid;
                current = a.current;
                flushed = a.flushed;
                bare = a.bare;
                filled = a.filled;
                slots = a.slots;
                nameless = λ s1 q. named_else s1 (λ z. absurd (cc (ap st.keys z, q, a0.key))) ∙ a.nameless s1 q;
              };
              naming = let a = p.naming in record {
                counted = ap suc a.counted ∙ sym (let z : length (st.bindings ++ (bind.slot, bind.key) ∷ []) ≡ suc (length st.bindings) = omega (arith, length-append st.bindings ((bind.slot, bind.key) ∷ [])) in z);
                found = a.found;
                listed = λ s1 k1 q f. dite (ℕ_discrete s1 bind.slot) (λ d. let z : k1 ≡ bind.key = cc (ap st.keys d, q, a0.key) in rw (d, z) (within_last (bind.slot, bind.key) st.bindings)) (λ d. within_prefix (s1, k1) st.bindings ((bind.slot, bind.key) ∷ []) (a.listed s1 k1 q (sym (named_else s1 d) ∙ f)));
                waiting = λ s1 k1 q f. a.waiting s1 k1 q (sym (named_else s1 (unnamed_else s1 f)) ∙ f);
                once = once_more a.once;
              };
              stage = record {
                settled = λ s1 q. gc.settled s1 (λ z. absurd cc);
                holds = λ b q. gc.holds b q;
                names = λ s1 k1 q. inl (dite (ℕ_discrete s1 bind.slot) (λ d. ap sc.named d ∙ named_now) (λ d. named_else s1 d ∙ ⊎_elim (λ x. x) (λ x. absurd (d (let z : Some bind.slot ≡ Some s1 = x in cc))) (gc.names s1 k1 q)));
                here = tt;
              };
              short = p.short;
            };
            fgens = λ b. omega arith;
          }
          (same_known mc sc h id v (entered v bind).server)
          record { task_is = refl; directory = sv.directory ∙ sym (append-nil (st.bindings ++ (bind.slot, bind.key) ∷ [])); roots = roots_c; books = books_c },
      λ b i f. f,
    )
