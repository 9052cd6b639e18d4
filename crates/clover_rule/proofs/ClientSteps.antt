-- A client's steps keep the helping facts and what the server's view says.
use Rattle.std.proofs.Common.{◌≡◌, ℕ, suc, ◌<◌, ◌≤◌, ◌≢◌, ◌⊎◌, List, [], ◌∷◌, ◌++◌, length, Bool, true, false, cond, eqb, refl, sym, ap, ◌∙◌, inl, inr, ⊎_elim, arith, subst, ne_eqb, true≢false}
use native.Mathlib.Decide.{ℕ_discrete, dec_le}
use mathlib.Core.Logic.{dite}
use Rattle.std.specs.Prelude.{Option, Some, None}
use Rattle.clover_words.specs.Tag.{home, age}
use Rattle.clover_map.specs.declared.call.Entry.{Entry}
use Rattle.clover_map.specs.Tagged.{Tagged}
use Rattle.clover_rule.specs.Changes.{linked_mem, linked_story, raised_mem, raised_story}
use Rattle.clover_rule.specs.Content.{InRange, Fits}
use Rattle.clover_map.specs.Legal.{used_by}
use Rattle.clover_rule.specs.History.{Version}
use Rattle.clover_rule.specs.Lists.{Each, nth, Within}
use Rattle.clover_rule.specs.Memory.{word, gen, Mem, greater}
use Rattle.clover_rule.specs.Server.{Ready, IsWaiting, IsRecycling, AtStage, Help, lagging, or_else, root_in, is_home, book_of, Serves, Whole}
use Rattle.clover_rule.specs.Story.{Place, Chained, Taken, Story, tag_at, Core}
use Rattle.clover_rule.specs.Views.{book, Basis, renewed}
use Rattle.clover_rule.specs.declared.view.BufferState.TheVariants.{Bound as IsBound, Out as IsOut}
use Rattle.clover_rule.specs.declared.view.Role.TheVariants.{Client, Serving}
use Rattle.clover_rule.specs.declared.view.Server.{Server}
use Rattle.clover_rule.specs.declared.view.NewBinding.{NewBinding}
use Rattle.clover_rule.specs.declared.view.Recycling.{Recycling}
use Rattle.clover_rule.specs.declared.view.ServerTask.{ServerTask}
use Rattle.clover_rule.specs.declared.view.ServerTask.TheVariants.{Idle, Storing, Rooted, Waiting, Loaded, Raised, Led, Both, Exchanged}
use Rattle.clover_rule.specs.declared.view.View.{View}
use Rattle.clover_words.specs.declared.pool.Pool.{Pool}
use Rattle.clover_rule.proofs.Tools.{upd_same, upd_else, nth_snoc}
use Rattle.clover_rule.proofs.Standings.{tag_within}
use Rattle.clover_rule.proofs.Steps.{Grows, nth_set, durable_kept}
use Rattle.clover_rule.proofs.Linking.{CanLink, gens, u_stands, tag_else, Pushed, before, new, pushed, length_linked}
use Rattle.clover_rule.proofs.ServerTools.{book_same}
use Rattle.clover_rule.proofs.Staying.{help_kept}
use Rattle.clover_rule.proofs.Raising.{raised_below}
use Rattle.clover_rule.proofs.Raising.{CanRaise, order_below, order_self}

-- any step of a client, from the rule after it and what it keeps
module _ (l : Pool) (m0 : Tagged) (used : List ℕ) (m : Mem) (vs : List View) (st : Story) (h : List Entry) (w : Whole l m0 used m vs st h)
    (id : ℕ) (v v' : View) (at : nth vs id ≡ Some v) (n : ℕ) (role : v.pass.role ≡ Client n) (same : v'.pass.role ≡ v.pass.role) (m' : Mem) (st' : Story) (h' : List Entry)
    (rule : Basis m0 used m' (renewed vs id v') st' h') (help : Help l m' st') (serves : (sv : Server) → Serves l m st st.task sv → Serves l m' st' st'.task sv)
    (safe : Each (λ (t : ℕ). (age t < l.wear) × (age t ≤ gen (m'.fnext (home t)))) (used_by used h'))
    (entries : (cs : List ℕ) → Within n cs → Each (λ (e : Entry). Within e.client cs) h → Each (λ (e : Entry). Within e.client cs) h') where
  was : (i1 : ℕ) (x : View) → nth (renewed vs id v') i1 ≡ Some x → ((i1 ≡ id) × (x.pass.role ≡ Client n)) ⊎ (nth vs i1 ≡ Some x)
  was i1 x q = ⊎_elim (λ d. inl (d.0, ap (λ (z : View). z.pass.role) (sym d.1) ∙ same ∙ role)) (λ d. inr d.1) (nth_set vs id i1 v' x q)

  server_was : (i1 : ℕ) (x : View) → nth (renewed vs id v') i1 ≡ Some x → x.pass.role ≡ Serving → nth vs i1 ≡ Some x
  server_was i1 x q e = ⊎_elim (λ d. absurd (cc (d.1, e))) (λ d. d) (was i1 x q)

  pub client_whole : Whole l m0 used m' (renewed vs id v') st' h'
  client_whole = record {
    basis = rule;
    help = help;
    serves = λ i1 x q e. serves x.server (w.serves i1 x (server_was i1 x q e) e);
    one = λ i1 j1 x y qx qy rx ry. w.one i1 j1 x y (server_was i1 x qx rx) (server_was j1 y qy ry) rx ry;
    safe = safe;
    made = λ i1 j1 k x y qx qy rx ry. ⊎_elim (λ d. w.made i1 id k x v (server_was i1 x qx rx) at rx (role ∙ sym d.1 ∙ ry)) (λ d. w.made i1 j1 k x y (server_was i1 x qx rx) d rx ry) (was j1 y qy);
    entered = λ i1 x q e. let z = server_was i1 x q e in entries x.server.clients (w.made i1 id n x v z at e role) (w.entered i1 x z e);
  }

-- the helping facts after a link
module _ (l : Pool) (m : Mem) (st : Story) (c : Core m st) (p : Help l m st) (s u i k : ℕ) (x : Version) (can : CanLink m st s u i k x) (kn : List ℕ) (key : st.keys s ≡ Some kn) (fits : Fits l x.value) (h h' : List Entry) (g : Grows m st h (linked_mem m u x.tag) (linked_story st s x) h') where
  abbrev t : ℕ
  t = x.tag

  abbrev m' : Mem
  m' = linked_mem m u t

  abbrev st' : Story
  st' = linked_story st s x

  place_else : (b : ℕ) → b ≢ home t → st'.place b ≡ st.place b
  place_else b n = upd_else st.place (home t) b (Chained s) n

  gens' : (b : ℕ) → gen (m'.next b) ≡ gen (m.next b)
  gens' b = gens m st s u i k x c can b

  -- a held buffer keeps its next word
  held_next : (b : ℕ) → st.place b ≡ Taken → m'.next b ≡ m.next b
  held_next b e = upd_else m.next (home u) b (word (age u) (Some t)) (λ q. absurd (cc (ap st.place q, (c.standing s i u can.tail (u_stands m st s u i k x c can)).placed, e)))

  held_place : (b : ℕ) → st.place b ≡ Taken → st'.place b ≡ Taken
  held_place b e = place_else b (λ q. absurd (cc (ap st.place q, can.stocked, e))) ∙ e

  own_range : InRange l t
  own_range = let a = p.ranged.ready (home t) (subst Ready (sym can.stocked) tt) in (a.0, let b = a.1 in let d = can.aged in omega arith)

  log_else : (s1 : ℕ) → s1 ≢ s → st'.log s1 ≡ st.log s1
  log_else s1 d = upd_else st.log s s1 (st.log s ++ x ∷ []) d

  unnamed_else : (s1 : ℕ) → st.named s1 ≡ false → s1 ≢ s
  unnamed_else s1 f q = true≢false (sym can.named ∙ ap st.named (sym q) ∙ f)

  recycling_kept : (cycle : Recycling) → IsRecycling st cycle → IsRecycling st' cycle
  recycling_kept cycle a = record { root = tag_keeps cycle.slot (st.gone cycle.slot) cycle.root a.root; next = tag_keeps cycle.slot (suc (st.gone cycle.slot)) cycle.next a.next }
    where
      tag_keeps : (s1 j y : ℕ) → tag_at st s1 j ≡ Some y → tag_at st' s1 j ≡ Some y
      tag_keeps s1 j y e = tag_else st s x s1 j (λ d q. let a1 = tag_within st s1 j y e in let a2 = ap (λ (z : ℕ). length (st.log z)) d in absurd (omega arith)) ∙ e

  waiting_kept : (bind : NewBinding) → IsWaiting m st bind → IsWaiting m' st' bind
  waiting_kept bind a = let d = unnamed_else bind.slot a.unnamed in record { key = a.key; unnamed = a.unnamed; alone = ap length (log_else bind.slot d) ∙ a.alone; tag = tag_else st s x bind.slot 0 (λ z. absurd (d z)) ∙ a.tag; gone = a.gone }

  here_kept : (T : ServerTask) → AtStage l m st T → AtStage l m' st' T
  here_kept Idle a = tt
  here_kept (Storing bind n1) a = record { place = held_place (home bind.tag) a.place; now = held_next (home bind.tag) a.place ∙ a.now; safe = a.safe; range = a.range; slot = a.slot; bare = a.bare; unnamed = a.unnamed; absent = a.absent; valid = a.valid; body = a.body; fbody = a.fbody; key = a.key; fkey = a.fkey }
  here_kept (Rooted bind) a = (waiting_kept bind a.0, a.1)
  here_kept (Waiting bind) a = (waiting_kept bind a.0, a.1)
  here_kept (Loaded cycle) a = recycling_kept cycle a
  here_kept (Raised cycle) a = (recycling_kept cycle a.0, a.1)
  here_kept (Led cycle) a = (recycling_kept cycle a.0, a.1, a.2, a.3)
  here_kept (Both cycle) a = (recycling_kept cycle a.0, a.1, a.2, a.3)
  here_kept (Exchanged cycle) a = record {
    place = held_place (home cycle.root) a.place;
    now = held_next (home cycle.root) a.place ∙ a.now;
    safe = a.safe;
    root = tag_else st s x cycle.slot (st.gone cycle.slot) (λ d q. let a1 = tag_within st cycle.slot (st.gone cycle.slot) cycle.next a.root in let a2 = ap (λ (z : ℕ). length (st.log z)) d in absurd (omega arith)) ∙ a.root;
    old = (a.old.0, a.old.1, tag_else st s x cycle.slot a.old.0 (λ d q. let a1 = tag_within st cycle.slot a.old.0 cycle.root a.old.2 in let a2 = ap (λ (z : ℕ). length (st.log z)) d in absurd (omega arith)) ∙ a.old.2);
    body = (a.body.0, g.versions cycle.slot a.old.0 a.body.0 a.body.1, a.body.2);
    inside = a.inside;
    young = a.young;
  }

  pub link_help : Help l m' st'
  link_help = record {
    ranged = let a = p.ranged in record {
      tags = λ s1 i1 y e. go s1 i1 y (pushed st s x s1 i1 y e);
      own = λ b. let z = gens' b in let z1 = a.own b in omega arith;
      below = λ b. let z = gens' b in let z1 = a.below b in omega arith;
      ready = λ b f. dite (ℕ_discrete b (home t)) (λ d. absurd (subst Ready (ap st'.place d ∙ upd_same st.place (home t) (Chained s)) f)) (λ d. let z = a.ready b (subst Ready (place_else b d) f) in (z.0, let z1 = z.1 in let z2 = gens' b in omega arith));
      worn = λ b j f. dite (ℕ_discrete b (home t)) (λ d. absurd (cc (ap st'.place d, upd_same st.place (home t) (Chained s), f))) (λ d. gens' b ∙ a.worn b j (sym (place_else b d) ∙ f));
      fits = λ s1 i1 y e. dite (ℕ_discrete s1 s)
          (λ d. ⊎_elim (λ q. a.fits s i1 y q) (λ q. subst (λ (z : Version). Fits l z.value) q.1 fits) (nth_snoc (st.log s) x y i1 (sym (ap (λ (ws : List Version). nth ws i1) (ap st'.log d ∙ upd_same st.log s (st.log s ++ x ∷ []))) ∙ e)))
          (λ d. a.fits s1 i1 y (sym (ap (λ (ws : List Version). nth ws i1) (log_else s1 d)) ∙ e));
    };
    keyed = let a = p.keyed in record {
      valid = a.valid;
      current = a.current;
      flushed = a.flushed;
      nameless = a.nameless;
      slots = a.slots;
      bare = λ s1 q. ap length (log_else s1 (λ d. absurd (cc (ap st.keys d, key, q)))) ∙ a.bare s1 q;
      filled = λ s1 k1 q. let z = a.filled s1 k1 q in ⊎_elim (λ d. let y = d.1 in omega arith) (λ d. let y = d.1 in omega arith) (length_linked st s x s1);
    };
    naming = let a = p.naming in record {
      counted = a.counted;
      found = a.found;
      listed = a.listed;
      waiting = λ s1 k1 q f i1 y e. a.waiting s1 k1 q f i1 y (sym (ap (λ (ws : List Version). nth ws i1) (log_else s1 (unnamed_else s1 f))) ∙ e);
      once = a.once;
    };
    stage = record {
      settled = p.stage.settled;
      holds = λ b f. dite (ℕ_discrete b (home t)) (λ d. absurd (cc (ap st'.place d, upd_same st.place (home t) (Chained s), f))) (λ d. p.stage.holds b (sym (place_else b d) ∙ f));
      names = p.stage.names;
      here = here_kept st.task p.stage.here;
    };
    short = λ s1 y q. durable_kept m st h m' st' h' g s1 y (p.short s1 y q);
  }
    where
      go : (s1 i1 y : ℕ) → Pushed st s x s1 i1 y → InRange l y
      go s1 i1 y (before b n) = p.ranged.tags s1 i1 y b
      go s1 i1 y (new a b d) = rw d own_range

  roots_kept : (T : ServerTask) (s1 : ℕ) → root_in T st' s1 ≡ root_in T st s1
  roots_kept T s1 = ap (or_else (lagging T s1)) gone_kept
    where
      gone_kept : tag_at st' s1 (st.gone s1) ≡ tag_at st s1 (st.gone s1)
      gone_kept = tag_else st s x s1 (st.gone s1) (λ d q. let a1 = tag_within st s i u can.tail in let a2 = u_stands m st s u i k x c can in let a3 = ap st.gone d in absurd (omega arith))

  -- the linked buffer is no slot's root
  not_root : (T : ServerTask) → AtStage l m st T → is_home (root_in T st s) (home t) ≡ false
  not_root T a = by T a
    where
      away : (y : ℕ) → tag_at st s (st.gone s) ≡ Some y → eqb (home y) (home t) ≡ false
      away y e = ne_eqb (home y) (home t) (λ q. absurd (cc (ap st.place q, (c.standing s (st.gone s) y e (omega arith)).placed, can.stocked)))

      root_away : (o : Option ℕ) → tag_at st s (st.gone s) ≡ o → is_home o (home t) ≡ false
      root_away None e = refl
      root_away (Some y) e = away y e

      still : is_home (tag_at st s (st.gone s)) (home t) ≡ false
      still = root_away (tag_at st s (st.gone s)) refl

      none_or : (b : Bool) → is_home (or_else (cond b (Some None) None) (tag_at st s (st.gone s))) (home t) ≡ false
      none_or true = refl
      none_or false = still

      by : (T : ServerTask) → AtStage l m st T → is_home (root_in T st s) (home t) ≡ false
      by Idle a = still
      by (Storing bind n2) a = still
      by (Rooted bind) a = none_or (eqb bind.slot s)
      by (Waiting bind) a = none_or (eqb bind.slot s)
      by (Loaded cycle) a = still
      by (Raised cycle) a = still
      by (Led cycle) a = still
      by (Both cycle) a = still
      by (Exchanged cycle) a = pick (eqb cycle.slot s)
        where
          pick : (b : Bool) → is_home (or_else (cond b (Some (Some cycle.root)) None) (tag_at st s (st.gone s))) (home t) ≡ false
          pick false = still
          pick true = ne_eqb (home cycle.root) (home t) (λ q. absurd (cc (ap st.place q, a.place, can.stocked)))

  pub link_serves : (sv : Server) → Serves l m st st.task sv → Serves l m' st' st.task sv
  link_serves sv e = record {
    task_is = e.task_is;
    directory = e.directory;
    roots = λ s1. e.roots s1 ∙ sym (roots_kept st.task s1);
    books = λ b j. dite (ℕ_discrete b (home t))
        (λ d. e.books b j ∙ ap (λ (q : Place). book_of st.task st q (gen (m.next b)) b) (ap st.place d ∙ can.stocked) ∙ ap (λ (y : ℕ). book y IsOut) (sym (gens' b))
        ∙ sym (ap (λ (q : Place). book_of st.task st' q (gen (m'.next b)) b) (ap st'.place d ∙ upd_same st.place (home t) (Chained s)) ∙ ap (λ (y : Bool). book (gen (m'.next b)) (cond y IsBound IsOut)) (ap (λ (y : Option ℕ). is_home y b) (roots_kept st.task s) ∙ ap (is_home (root_in st.task st s)) d ∙ not_root st.task p.stage.here)))
        (λ d. e.books b j ∙ ap (λ (y : ℕ). book_of st.task st (st.place b) y b) (sym (gens' b)) ∙ sym (held_same st.task b (gen (m'.next b)) (st.place b)) ∙ sym (ap (λ (q : Place). book_of st.task st' q (gen (m'.next b)) b) (place_else b d)));
  }
    where
      held_same : (T : ServerTask) (b y : ℕ) (q : Place) → book_of T st' q y b ≡ book_of T st q y b
      held_same T b y q = book_same T T st st' q y b (λ s1 z. ap (λ (o : Option ℕ). is_home o b) (roots_kept T s1)) (λ z. refl)

-- the helping facts after a raise over a link of a slot's log
module _ (l : Pool) (m : Mem) (st : Story) (c : Core m st) (p : Help l m st) (s i u t : ℕ) (can : CanRaise m st s i u t) (h : List Entry) (g : Grows m st h (raised_mem m u t) (raised_story st s i) h) where
  abbrev mr : Mem
  mr = raised_mem m u t

  abbrev sr : Story
  sr = raised_story st s i

  -- a raise changes no buffer off the slot's chain
  raise_off : (b : ℕ) → st.place b ≢ Chained s → mr.fnext b ≡ m.fnext b
  raise_off b n = dite (ℕ_discrete b (home u)) (λ d. rw d (upd_same m.fnext (home u) (greater (m.fnext (home u)) (word (age u) (Some t))) ∙ still d (dec_le (st.gone s) i))) (λ d. upd_else m.fnext (home u) b (greater (m.fnext (home u)) (word (age u) (Some t))) d)
    where
      still : b ≡ home u → Dec (st.gone s ≤ i) → greater (m.fnext (home u)) (word (age u) (Some t)) ≡ m.fnext (home u)
      still d (yes q) = absurd (n (ap st.place d ∙ (c.standing s i u can.from q).placed))
      still d (no q) = ⊎_elim (λ a. rw (order_below (word (age u) (Some t)) (m.fnext (home u)) a) refl) (λ a. let e : m.fnext (home u) ≡ word (age u) (Some t) = a ∙ ap (word (age u)) can.to in rw e (rw (order_self (word (age u) (Some t))) refl)) (c.passed s i u can.from (omega arith)).safe

  held_off : (b : ℕ) → st.place b ≡ Taken → mr.fnext b ≡ m.fnext b
  held_off b e = raise_off b (λ q. absurd (cc (q, e)))

  u_old : age u ≤ gen (m.next (home u))
  u_old = dite (dec_le (st.gone s) i) (λ d. let z = ap gen (c.standing s i u can.from d).now in omega arith) (λ d. let z = (c.passed s i u can.from (omega arith)).later in omega arith)

  more_sure : (s1 j : ℕ) → j < st.sure s1 → j < sr.sure s1
  more_sure s1 j q = let a = g.sure s1 in omega arith

  pub raise_help : Help l mr sr
  raise_help = let a = p.ranged in help_kept l m st mr.fnext m.body m.fbody m.short st.place sr.sure more_sure (λ b e. (e, held_off b e, refl, refl)) p
      record { tags = a.tags; own = a.own; ready = a.ready; worn = a.worn; fits = a.fits; below = λ b. raised_below m u t b u_old (a.below b) }
      p.stage.holds (λ s1 y q. durable_kept m st h mr sr h g s1 y (p.short s1 y q))

  pub raise_serves : (sv : Server) → Serves l m st st.task sv → Serves l mr sr st.task sv
  raise_serves sv e = record {
    task_is = e.task_is;
    directory = e.directory;
    roots = e.roots;
    books = λ b j. e.books b j ∙ book_same st.task st.task sr st (st.place b) (gen (m.next b)) b (λ s1 q. refl) (λ q. refl);
  }
