-- What the rule says of an actor, what a step tells it, and the law over a table.
use Rattle.std.proofs.Common.{◌≡◌, ℕ, zero, suc, ◌<◌, ◌≤◌, List, [], ◌∷◌, Bool, refl, sym, ap, ◌∙◌, ⊎_elim, arith, subst, cond, eqb, eqb-true, eq-eqb, ne_eqb, true, false, ◌≢◌}
use Rattle.std.specs.Prelude.{nat_lt, slice_index, Option, Some, None, slice_set}
use mathlib.Core.Option.{some, some-injective, some-ne-none}
use lib.ListN.{get_elem?}
use Rattle.atomic_table.specs.Table.{keeps as stay}
use Rattle.clover_words.specs.declared.pool.Pool.{Pool}
use Rattle.clover_words.specs.declared.word.Word.TheVariants.{Next as NextOf, Root, Short}
use Rattle.clover_words.specs.declared.word.Side.{Side}
use Rattle.clover_words.specs.declared.word.Side.TheVariants.{Current, Flushed}
use Rattle.clover_words.specs.Place.{address_of, IsWithin, copy_in}
use Rattle.clover_words.specs.Tag.{home, age}
use Rattle.clover_words.specs.Version.{buffer_at, content_at}
use Rattle.clover_map.specs.declared.call.Entry.{Entry}
use Rattle.clover_map.specs.Key.{IsKey}
use Rattle.clover_map.specs.Tagged.{Tagged}
use Rattle.clover_rule.specs.Content.{InRange}
use Rattle.clover_rule.specs.Lists.{Each, Within, nth}
use Rattle.clover_rule.specs.Meets.{Meets, IsMet}
use Rattle.clover_rule.specs.Memory.{Next, Mem, gen, link}
use Rattle.clover_rule.specs.Server.{Ready, AtStage, IsRecycling, book_of, is_home, or_else, root_in, waiting_name}
use Rattle.clover_rule.specs.Asks.{Asks}
use Rattle.clover_rule.specs.Learned.{next_view, next_history, found, words_after_step}
use Rattle.clover_rule.specs.Steps.{Step, LoadNext, DecideNext, RaiseNext, LinkNext, StoreContent, FlushContent, LoadContent, ReadRoot, ReadShort, StoreShort, ReadCount, AbsentCount, ReadVersion, FlushLink, StoreRoot, FlushRoot, PassRoot, FreeRoot, StoreTombstone, FlushTombstone, StoreKey, FlushKey, BindRoot, FlushBoundRoot, StoreCount, Restart, word_of, side_in, restart_word, restart_operation}
use Rattle.clover_rule.specs.Story.{Place, Chained, Taken, Story, Durable, tag_at}
use Rattle.clover_rule.specs.Views.{book}
use Rattle.clover_rule.specs.declared.view.BufferState.TheVariants.{Bound as IsBound, Out as IsOut}
use Rattle.clover_rule.specs.declared.view.Recycling.{Recycling}
use Rattle.clover_rule.specs.Told.{behind_root, Facts, IsShown, ToldAt, Told, TableLaw}
use Rattle.clover_rule.specs.Words.{mem_of}
use Rattle.clover_rule.specs.declared.view.RestartStore.{RestartStore}
use Rattle.clover_rule.specs.declared.view.RestartStore.TheVariants.{ClearRoot, ClearFlushedRoot, Lift, LiftFlushed, SetCount}
use Rattle.clover_rule.specs.declared.view.View.{View}
use Rattle.clover_rule.specs.declared.view.ServerTask.{ServerTask}
use Rattle.clover_rule.specs.declared.view.ServerTask.TheVariants.{Idle, Storing, Rooted, Waiting, Loaded, Raised, Led, Both, Exchanged}
use Rattle.clover_rule.proofs.ServerTools.{free_place}
use Rattle.clover_rule.proofs.Tools.{each_both}
use Rattle.clover_rule.proofs.Steps.{each_map, each_of, within_prefix, set_here}
use Rattle.clover_rule.proofs.Standings.{tag_within, one_buffer}
use Rattle.clover_rule.proofs.Derived.{current_past}
use Rattle.clover_rule.proofs.Keeping.{read_next, read_fnext, read_root, read_short, inside_of}
use Rattle.clover_rule.proofs.AllKeeps.{keeps}
use Rattle.clover_rule.proofs.Tails.{says}
use Rattle.clover_rule.proofs.Soundness.{cut_sound, flushed_image, flushed_is}
use Rattle.clover_map.specs.Legal.{Legal}
use Rattle.clover_rule.proofs.Ties.{guard_true, test_below}

pub nth_elem : {A : Type 0} (l : List A) (i : ℕ) (a : A) → get_elem? l i ≡ some a → nth l i ≡ Some a
nth_elem [] i a e = absurd (some-ne-none a (sym e))
nth_elem (x ∷ l) zero a e = ap Some (some-injective x a e)
nth_elem (x ∷ l) (suc i) a e = nth_elem l i a e

module _ (p : Pool) (first : Tagged) (used : List ℕ) (ws : List ℕ) (vs : List View) (st : Story) (h : List Entry) (r : Meets p first used ws vs st h) where
  abbrev m : Mem
  m = mem_of p ws

  -- a slot with a version is one of the pool
  slot_in : (s i t : ℕ) → tag_at st s i ≡ Some t → s < p.slots
  slot_in s i t e = bound (st.keys s) refl
    where
      bound : (x : Option (List ℕ)) → st.keys s ≡ x → s < p.slots
      bound None q = absurd (let a = r.whole.help.keyed.bare s q in let b = tag_within st s i t e in omega arith)
      bound (Some k) q = r.whole.help.keyed.slots s k q

  link_in : (b t : ℕ) → link (m.next b) ≡ Some t → InRange p t
  link_in b t e = ⊎_elim (λ q. absurd (let z : ◌≡◌ {A = Option ℕ} None (Some t) = sym q ∙ e in cc))
      (λ q. r.whole.help.ranged.tags q.0.slot (suc q.1.0) t (q.1.2 ∙ (sym q.4 ∙ e))) (current_past m st r.whole.basis.core b).1

  root_in_range : (s t : ℕ) → Durable st s t → InRange p t
  root_in_range s t d = r.whole.help.ranged.tags s d.0 t d.1

  -- a root of the directory is in range, whatever the task
  root_ranged : (T : ServerTask) → AtStage p m st T → (s t : ℕ) → root_in T st s ≡ Some t → (s < p.slots) × InRange p t
  root_ranged T a s t e = by T a e
    where
      here : tag_at st s (st.gone s) ≡ Some t → (s < p.slots) × InRange p t
      here f = (slot_in s (st.gone s) t f, r.whole.help.ranged.tags s (st.gone s) t f)

      none_or : (b : Bool) → or_else (cond b (Some None) None) (tag_at st s (st.gone s)) ≡ Some t → (s < p.slots) × InRange p t
      none_or true f = absurd (let z : ◌≡◌ {A = Option ℕ} None (Some t) = f in cc)
      none_or false f = here f

      by : (T : ServerTask) → AtStage p m st T → root_in T st s ≡ Some t → (s < p.slots) × InRange p t
      by Idle a f = here f
      by (Storing bind n1) a f = here f
      by (Rooted bind) a f = none_or (eqb bind.slot s) f
      by (Waiting bind) a f = none_or (eqb bind.slot s) f
      by (Loaded cycle) a f = here f
      by (Raised cycle) a f = here f
      by (Led cycle) a f = here f
      by (Both cycle) a f = here f
      by (Exchanged cycle) a f = pick (eqb cycle.slot s) refl f
        where
          pick : (b : Bool) → eqb cycle.slot s ≡ b → or_else (cond b (Some (Some cycle.root)) None) (tag_at st s (st.gone s)) ≡ Some t → (s < p.slots) × InRange p t
          pick true q f = let z : cycle.root ≡ t = cc in let y : cycle.slot ≡ s = eqb-true cycle.slot s q in (subst (λ (x : ℕ). x < p.slots) y (slot_in cycle.slot a.old.0 cycle.root a.old.2), subst (InRange p) z (a.inside, a.young))
          pick false q f = here f

  -- the books say of a version that stands that it is bound where it is the root of its slot, and out otherwise
  standing_book : (T : ServerTask) (s i t : ℕ) → tag_at st s i ≡ Some t → st.gone s ≤ i → book_of T st (st.place (home t)) (gen (m.next (home t))) (home t) ≡ book (age t) (cond (is_home (root_in T st s) (home t)) IsBound IsOut)
  standing_book T s i t e g = let c = r.whole.basis.core.standing s i t e g in (λ j. book_of T st (c.placed j) (gen (c.now j)) (home t))

  -- a root of the directory is bound in the books, whatever the task
  root_bound : (T : ServerTask) → AtStage p m st T → (s t : ℕ) → root_in T st s ≡ Some t → book_of T st (st.place (home t)) (gen (m.next (home t))) (home t) ≡ book (age t) IsBound
  root_bound T a s t e = by T a e
    where
      here : (T : ServerTask) → root_in T st s ≡ Some t → tag_at st s (st.gone s) ≡ Some t → book_of T st (st.place (home t)) (gen (m.next (home t))) (home t) ≡ book (age t) IsBound
      here T e f = standing_book T s (st.gone s) t f (let g : st.gone s ≤ st.gone s = omega arith in g)
          ∙ (λ j. book (age t) (cond (is_home (e j) (home t)) IsBound IsOut)) ∙ ap (λ (x : Bool). book (age t) (cond x IsBound IsOut)) (eq-eqb (home t) (home t) refl)

      none_or : (T : ServerTask) (b : Bool) → root_in T st s ≡ Some t → or_else (cond b (Some None) None) (tag_at st s (st.gone s)) ≡ Some t → book_of T st (st.place (home t)) (gen (m.next (home t))) (home t) ≡ book (age t) IsBound
      none_or T true e f = absurd (let z : ◌≡◌ {A = Option ℕ} None (Some t) = f in cc)
      none_or T false e f = here T e f

      by : (T : ServerTask) → AtStage p m st T → root_in T st s ≡ Some t → book_of T st (st.place (home t)) (gen (m.next (home t))) (home t) ≡ book (age t) IsBound
      by Idle a f = here Idle f f
      by (Storing bind n1) a f = here (Storing bind n1) f f
      by (Rooted bind) a f = none_or (Rooted bind) (eqb bind.slot s) f f
      by (Waiting bind) a f = none_or (Waiting bind) (eqb bind.slot s) f f
      by (Loaded cycle) a f = here (Loaded cycle) f f
      by (Raised cycle) a f = here (Raised cycle) f f
      by (Led cycle) a f = here (Led cycle) f f
      by (Both cycle) a f = here (Both cycle) f f
      by (Exchanged cycle) a f = pick (eqb cycle.slot s) f f
        where
          goal : Type 0
          goal = book_of (Exchanged cycle) st (st.place (home t)) (gen (m.next (home t))) (home t) ≡ book (age t) IsBound

          pick : (b : Bool) → root_in (Exchanged cycle) st s ≡ Some t → or_else (cond b (Some (Some cycle.root)) None) (tag_at st s (st.gone s)) ≡ Some t → goal
          pick true e f = let z : cycle.root ≡ t = cc in subst (λ (x : ℕ). book_of (Exchanged cycle) st (st.place (home x)) (gen (m.next (home x))) (home x) ≡ book (age x) IsBound) z
              (ap (λ (q : Place). book_of (Exchanged cycle) st q (gen (m.next (home cycle.root))) (home cycle.root)) a.place)
          pick false e f = here (Exchanged cycle) e f

  -- the version behind the root of a recycling is in range and out
  next_out : (T : ServerTask) → AtStage p m st T → (t : ℕ) → behind_root T ≡ Some t → InRange p t × (book_of T st (st.place (home t)) (gen (m.next (home t))) (home t) ≡ book (age t) IsOut)
  next_out T a t e = by T a e
    where
      Goal : ServerTask → Type 0
      Goal T = InRange p t × (book_of T st (st.place (home t)) (gen (m.next (home t))) (home t) ≡ book (age t) IsOut)

      -- a version that stands and is not the root of its slot in the directory
      here : (T : ServerTask) (s i u : ℕ) → tag_at st s i ≡ Some t → st.gone s ≤ i → root_in T st s ≡ Some u → home u ≢ home t → Goal T
      here T s i u f g e n = (r_in, standing_book T s i t f g ∙ (λ j. book (age t) (cond (is_home (e j) (home t)) IsBound IsOut)) ∙ ap (λ (x : Bool). book (age t) (cond x IsBound IsOut)) (ne_eqb (home u) (home t) n))
        where
          r_in : InRange p t
          r_in = r.whole.help.ranged.tags s i t f

      standing : (T : ServerTask) (c : Recycling) → IsRecycling st c → c.next ≡ t → root_in T st c.slot ≡ tag_at st c.slot (st.gone c.slot) → Goal T
      standing T c q z d =
          let f : tag_at st c.slot (suc (st.gone c.slot)) ≡ Some t = q.next ∙ ap Some z in
          let g : st.gone c.slot ≤ suc (st.gone c.slot) = omega arith in
          let g0 : st.gone c.slot ≤ st.gone c.slot = omega arith in
          here T c.slot (suc (st.gone c.slot)) c.root f g (d ∙ q.root)
          (λ x. let o = one_buffer m st r.whole.basis.core c.slot (suc (st.gone c.slot)) t c.slot (st.gone c.slot) c.root f g q.root g0 x in let y = o.1 in omega arith)

      by : (T : ServerTask) → AtStage p m st T → behind_root T ≡ Some t → Goal T
      by Idle a e = absurd cc
      by (Storing bind n1) a e = absurd cc
      by (Rooted bind) a e = absurd cc
      by (Waiting bind) a e = absurd cc
      by (Loaded cycle) a e = let z : cycle.next ≡ t = cc in standing (Loaded cycle) cycle a z (refl {a = tag_at st cycle.slot (st.gone cycle.slot)})
      by (Raised cycle) a e = let z : cycle.next ≡ t = cc in standing (Raised cycle) cycle a.0 z (refl {a = tag_at st cycle.slot (st.gone cycle.slot)})
      by (Led cycle) a e = let z : cycle.next ≡ t = cc in standing (Led cycle) cycle a.0 z (refl {a = tag_at st cycle.slot (st.gone cycle.slot)})
      by (Both cycle) a e = let z : cycle.next ≡ t = cc in standing (Both cycle) cycle a.0 z (refl {a = tag_at st cycle.slot (st.gone cycle.slot)})
      by (Exchanged cycle) a e =
          let z : cycle.next ≡ t = cc in
          let f : tag_at st cycle.slot (st.gone cycle.slot) ≡ Some t = a.root ∙ ap Some z in
          let g0 : st.gone cycle.slot ≤ st.gone cycle.slot = omega arith in
          here (Exchanged cycle) cycle.slot (st.gone cycle.slot) cycle.root f g0
          (ap (λ (b : Bool). or_else (cond b (Some (Some cycle.root)) None) (tag_at st cycle.slot (st.gone cycle.slot))) (eq-eqb cycle.slot cycle.slot refl))
          (λ x. let c = r.whole.basis.core.standing cycle.slot (st.gone cycle.slot) t f g0 in let y : Taken ≡ Chained cycle.slot = sym a.place ∙ ap st.place x ∙ c.placed in absurd cc)

  -- a bound slot is one of the pool, and its key is one
  bound_in : (s : ℕ) (k : List ℕ) → st.keys s ≡ Some k → (s < p.slots) × IsKey k
  bound_in s k e = (r.whole.help.keyed.slots s k e, r.whole.help.keyed.valid s k e)

  waiting_in : (T : ServerTask) → AtStage p m st T → Each (λ (q : ℕ × List ℕ). (q.0 < p.slots) × IsKey q.1) (waiting_name T)
  waiting_in (Rooted bind) a = (bound_in bind.slot bind.key a.0.key, tt)
  waiting_in (Waiting bind) a = (bound_in bind.slot bind.key a.0.key, tt)
  waiting_in Idle a = tt
  waiting_in (Storing bind n) a = tt
  waiting_in (Loaded cycle) a = tt
  waiting_in (Raised cycle) a = tt
  waiting_in (Led cycle) a = tt
  waiting_in (Both cycle) a = tt
  waiting_in (Exchanged cycle) a = tt

  module _ (id : ℕ) (v : View) (at : nth vs id ≡ Some v) where
    pub facts : Facts p v h
    facts =
        let ok = r.whole.basis.views id v at in
        let o = r.same id v at in
        record {
          of_pool = o.of_pool;
          begins = ok.history;
          legal = subst (λ (u : List ℕ). Legal v.pass.map u h) (sym o.from_used) (subst (λ (f : Tagged). Legal f used h) (sym o.from_map) r.whole.basis.tale.legal);
          calls = ok.calls;
          stock = each_map (λ t q. let g = r.whole.help.ranged.ready (home t) (subst Ready (sym q.0) tt) in (g.0, let z = q.1 in let y = g.1 in omega arith)) v.pass.stock ok.stocked;
          apart = ok.apart;
          durable = each_map (λ q d. (slot_in q.0 d.0 q.1 d.1, root_in_range q.0 q.1 d)) v.pass.durable ok.knows.durable;
          links = each_map (λ l d. (slot_in l.slot d.0 l.from d.1, r.whole.help.ranged.tags l.slot d.0 l.from d.1, r.whole.help.ranged.tags l.slot (suc d.0) l.to d.2)) v.pass.links ok.knows.links;
          names = each_of (λ (q : ℕ × List ℕ). (q.0 < p.slots) × IsKey q.1) v.pass.names (λ q w. bound_in q.0 q.1 (r.whole.basis.bound q.0 q.1 (subst (Within q) (sym ok.named.names.1) (within_prefix q v.pass.names ok.named.names.0 w))).0);
          server = λ ro. let sv = r.whole.serves id v at ro in record {
            directory = subst (Each (λ (q : ℕ × List ℕ). (q.0 < p.slots) × IsKey q.1)) (sym sv.directory) (each_both (λ (q : ℕ × List ℕ). (q.0 < p.slots) × IsKey q.1) st.bindings (waiting_name st.task) (each_of (λ (q : ℕ × List ℕ). (q.0 < p.slots) × IsKey q.1) st.bindings (λ q w. bound_in q.0 q.1 (r.whole.basis.bound q.0 q.1 w).0)) (waiting_in st.task r.whole.help.stage.here));
            roots = λ s t e. root_ranged st.task r.whole.help.stage.here s t (sym (sv.roots s) ∙ e);
            bound = λ s t e. let q = sym (sv.roots s) ∙ e in let g = root_ranged st.task r.whole.help.stage.here s t q in sv.books (home t) g.1.0 ∙ root_bound st.task r.whole.help.stage.here s t q;
            behind = λ t e. let n = next_out st.task r.whole.help.stage.here t (ap behind_root (sym sv.task_is) ∙ e) in (n.0, sv.books (home t) n.0.0 ∙ n.1);
            free = λ b g i e. let f = free_place st.task st (st.place b) (gen (m.next b)) b g (sym (sv.books b i) ∙ e) in let z = (r.whole.help.ranged.ready b (subst Ready (sym f.0) tt)).1 in let y = f.1 in omega arith;
          };
        }

  -- what a copy of a word shows
  fnext_in : (b : ℕ) → (gen (m.fnext b) ≤ p.wear) × ((t : ℕ) → link (m.fnext b) ≡ Some t → InRange p t)
  fnext_in b = (let a = r.whole.help.ranged.below b in let c = r.whole.help.ranged.own b in omega arith, λ t e. (cut_sound p first used m vs st h r.whole (flushed_image m) (flushed_is m)).target b t e)

  next_shown : (b : ℕ) → IsWithin p (NextOf (buffer_at b)) → (s : Side) → IsShown p (NextOf (buffer_at b)) (copy_in p ws (NextOf (buffer_at b)) s)
  next_shown b hw Current = let i = inside_of p b hw in let e = read_next p ws b i in
      (r.decodes (NextOf (buffer_at b)) Current hw tt, subst (λ (n : Next). (gen n ≤ p.wear) × ((t : ℕ) → link n ≡ Some t → InRange p t)) e (r.whole.help.ranged.own b, link_in b))
  next_shown b hw Flushed = let i = inside_of p b hw in let e = read_fnext p ws b i in
      (r.decodes (NextOf (buffer_at b)) Flushed hw tt, subst (λ (n : Next). (gen n ≤ p.wear) × ((t : ℕ) → link n ≡ Some t → InRange p t)) e (fnext_in b))

  content_shown : (b j : ℕ) (x : ℕ) → IsShown p (content_at b j) x
  content_shown b zero x = tt
  content_shown b (suc j) x = tt

  -- a root that is decoded leads to a tag in range, whichever copy it is
  root_shown : (s : ℕ) → s < p.slots → (side : Side) → IsShown p (Root s) (copy_in p ws (Root s) side)
  root_shown s hw Current = (r.decodes (Root s) Current hw tt, λ t e. let f : m.root s ≡ Some t = read_root p ws s hw ∙ e in r.whole.help.ranged.tags s (st.lead s) t (sym (r.whole.basis.core.root s) ∙ f))
  root_shown s hw Flushed = (r.decodes (Root s) Flushed hw tt, λ t e. (cut_sound p first used m vs st h r.whole (flushed_image m) (flushed_is m)).root s t (guard_true (nat_lt s p.slots) _ _ None (test_below s p.slots hw) refl ∙ e))

  restart_shown : (x : RestartStore) → IsWithin p (restart_word x) → IsShown p (restart_word x) (slice_index ws (address_of p (restart_word x) (side_in (restart_operation x))))
  restart_shown (ClearRoot s) hw = root_shown s hw Current
  restart_shown (ClearFlushedRoot s) hw = root_shown s hw Flushed
  restart_shown (Lift b g) hw = next_shown b hw Current
  restart_shown (LiftFlushed b g) hw = next_shown b hw Flushed
  restart_shown (SetCount n) hw = tt

  pub number_shown : (a : Step) → IsWithin p (word_of a) → IsShown p (word_of a) (found p a ws)
  number_shown (LoadNext s t) hw = next_shown (home t) hw Current
  number_shown (DecideNext s t c y) hw = next_shown (home t) hw Current
  number_shown (RaiseNext l) hw = next_shown (home l.from) hw Flushed
  number_shown (LinkNext s u t c) hw = next_shown (home u) hw Current
  number_shown (StoreContent t j x) hw = content_shown (home t) j (found p (StoreContent t j x) ws)
  number_shown (FlushContent t j x) hw = content_shown (home t) j (found p (FlushContent t j x) ws)
  number_shown (LoadContent s t j) hw = content_shown (home t) j (found p (LoadContent s t j) ws)
  number_shown (ReadRoot s) hw = root_shown s hw Current
  number_shown (ReadShort s) hw = (r.decodes (Short s) Current hw tt, λ t e. root_in_range s t (r.whole.help.short s t (read_short p ws s hw ∙ e)))
  number_shown (StoreShort s u) hw = (r.decodes (Short s) Current hw tt, λ t e. root_in_range s t (r.whole.help.short s t (read_short p ws s hw ∙ e)))
  number_shown ReadCount hw = tt
  number_shown (AbsentCount c) hw = tt
  number_shown (ReadVersion s q) hw = next_shown (home q) hw Current
  number_shown (FlushLink c) hw = next_shown (home c.root) hw Flushed
  number_shown (StoreRoot c) hw = root_shown c.slot hw Current
  number_shown (FlushRoot c) hw = root_shown c.slot hw Flushed
  number_shown (PassRoot c) hw = next_shown (home c.root) hw Current
  number_shown (FreeRoot c) hw = next_shown (home c.root) hw Flushed
  number_shown (StoreTombstone b) hw = tt
  number_shown (FlushTombstone b) hw = tt
  number_shown (StoreKey b j x) hw = tt
  number_shown (FlushKey b j x) hw = tt
  number_shown (BindRoot b) hw = root_shown b.slot hw Current
  number_shown (FlushBoundRoot b) hw = root_shown b.slot hw Flushed
  number_shown (StoreCount b n) hw = tt
  number_shown (Restart x) hw = restart_shown x hw

-- what a step tells, where these are the words and the history
pub told_at : (p : Pool) (first : Tagged) (used : List ℕ) (ws : List ℕ) (vs : List View) (st : Story) (h : List Entry) → Meets p first used ws vs st h → (id : ℕ) (v : View) → nth vs id ≡ Some v → (a : Step) (b : Bool) → Asks p a v → ToldAt p ws h a b v (found p a ws) (next_view b a h v (found p a ws))
told_at p first used ws vs st h r id v at a b asks =
    let w : View = next_view b a h v (found p a ws) in
    let after = keeps p first used ws vs st h r id v at a b asks in
    record {
      here = refl;
      before = facts p first used ws vs st h r id v at;
      number = number_shown p first used ws vs st h r a asks.0;
      says = says p first used ws vs st h r id v at a asks;
      next = refl;
      after = facts p first used (words_after_step p a ws) (slice_set vs id w) after.0 (next_history a h v (found p a ws)) after.1 id w (set_here vs id w v at);
    }

pub told : (p : Pool) (first : Tagged) (used : List ℕ) (ws : List ℕ) (vs : List View) (h : List Entry) (id : ℕ) (v : View) → IsMet p first used ws vs h → nth vs id ≡ Some v → (a : Step) (b : Bool) → Asks p a v → Told p a b v (found p a ws) (next_view b a h v (found p a ws))
told p first used ws vs h id v (st, r) at a b asks = (ws, h, told_at p first used ws vs st h r id v at a b asks)

pub table_law : TableLaw
table_law S p first used slots id me a b then asks tells s (h, met) len at fits =
    let x : ℕ = found p a s.words in
    let w : View = next_view b a h me.0 x in
    let here : nth s.views id ≡ Some me.0 = nth_elem s.views id me.0 at in
    (w, stay, tt, (next_history a h me.0 x, keeps p first used s.words s.views met.0 h met.1 id me.0 here a b asks), tells x w (told p first used s.words s.views h id me.0 met here a b asks))
