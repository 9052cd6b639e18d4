-- The laws of a binding's stores of the root, its flushed copy and the count.
use Rattle.std.proofs.Common.{◌≡◌, ℕ, zero, suc, ◌+◌, ◌≤◌, ◌≢◌, ◌⊎◌, List, [], ◌∷◌, ◌++◌, length, append-nil, Bool, true, cond, leb, refl, sym, ap, ◌∙◌, inl, inr, ⊎_elim, arith, subst, eq-eqb, true≢false, ne_eqb}
use native.Mathlib.Decide.{ℕ_discrete}
use mathlib.Core.Logic.{dite}
use Rattle.std.specs.Prelude.{Option, Some, None}
use Rattle.std.proofs.lemmas.List.{nil_from_length}
use Rattle.clover_words.specs.Tag.{home}
use Rattle.std.specs.FinMap.{get}
use Rattle.clover_map.specs.declared.call.Entry.{Entry}
use Rattle.clover_map.specs.Key.{IsKey}
use Rattle.clover_map.specs.Tagged.{Tagged}
use Rattle.clover_rule.specs.Content.{spelling, Fits}
use Rattle.clover_rule.specs.History.{Version, commits_at, ends}
use Rattle.clover_rule.specs.Lists.{nth, upd}
use Rattle.clover_rule.specs.Memory.{gen, Mem}
use Rattle.clover_rule.specs.Server.{Ready, IsStoring, Stage, Help, is_home, book_of, Serves, Whole, or_else, root_in}
use Rattle.clover_rule.specs.Learned.{root_bound}
use Rattle.clover_rule.specs.Story.{Place, Chained, Story, tag_in_version, tag_at, Core, Tale, unsure, Stocked}
use Rattle.clover_rule.specs.Views.{book, Holds, Stands, Basis, renewed, root_at}
use Rattle.clover_rule.specs.declared.view.BufferState.TheVariants.{Bound as IsBound, Out as IsOut}
use Rattle.clover_rule.specs.declared.view.NewBinding.{NewBinding}
use Rattle.clover_rule.specs.declared.view.Role.TheVariants.{Serving}
use Rattle.clover_rule.specs.declared.view.ServerTask.TheVariants.{Storing, Rooted}
use Rattle.clover_rule.specs.declared.view.View.{View}
use Rattle.clover_words.specs.declared.pool.Pool.{Pool}
use Rattle.clover_rule.proofs.KeyMaps.{at_key}
use Rattle.clover_rule.proofs.Keys.{at_key_same, at_key_else}
use Rattle.clover_rule.proofs.Spelling.{dead_word}
use Rattle.clover_rule.proofs.Tools.{upd_same, upd_else, nth_within}
use Rattle.clover_rule.proofs.Standings.{tag_there, tag_within}
use Rattle.clover_rule.proofs.Steps.{prefix_self, Grows, durable_kept}
use Rattle.clover_rule.proofs.ServerTools.{IsServed, same_known, core_copy, Moves, whole, book_same, no_stock}
use Rattle.clover_rule.proofs.ServerLaws.{stage_at, serves_at}
use Rattle.clover_rule.proofs.Binding.{CanBind, bound_story, bind_core, Case, here_tag, else_case, log_here, here_sure}
use Rattle.clover_rule.proofs.Cuts.{unread_less, unsure_less}

-- an unbound slot has no flushed root
pub unrooted : (m : Mem) (st : Story) (s : ℕ) → Core m st → length (st.log s) ≡ 0 → m.froot s ≡ None
unrooted m st s c e = ⊎_elim (λ q. q ∙ ap (λ (ws : List Version). tag_in_version (nth ws (st.flead s))) (nil_from_length (st.log s) e)) (λ q. q.empty) (c.froot s)

module _ (l : Pool) (m0 : Tagged) (used : List ℕ) (m : Mem) (vs : List View) (id : ℕ) (v : View) (st : Story) (h : List Entry) (w : Whole l m0 used m vs st h) (at : nth vs id ≡ Some v) (role : v.pass.role ≡ Serving)
    (bind : NewBinding) (e : v.server.task ≡ Storing bind (2 + length (spelling bind.key) + length (spelling bind.key))) where
  abbrev s : ℕ
  s = bind.slot

  abbrev k : List ℕ
  k = bind.key

  abbrev t : ℕ
  t = bind.tag

  abbrev n : ℕ
  n = 2 + length (spelling k) + length (spelling k)

  abbrev x : Version
  x = record { tag = t; value = None }

  r : Basis m0 used m vs st h
  r = w.basis

  g : Stage l m st (Storing bind n)
  g = stage_at l m0 used m vs id v st h w at role (Storing bind n) e

  sv : Serves l m st (Storing bind n) v.server
  sv = serves_at l m0 used m vs id v st h w at role (Storing bind n) e

  is : IsStoring l m st bind n
  is = g.here

  bare : length (st.log s) ≡ 0
  bare = w.help.keyed.bare s is.bare

  can : CanBind m st s x
  can = record { empty = bare; unrooted = unrooted m st s r.core bare; unnamed = is.unnamed; dead = refl; held = is.place; now = is.now; safe = is.safe }

  abbrev m1 : Mem
  m1 = record m { root = upd m.root s (Some t) }

  abbrev st0 : Story
  st0 = bound_story m st s x r.core can

  abbrev st1 : Story
  st1 = record st0 { keys = upd st.keys s (Some k); first = upd st.first s (x ∷ []); task = Rooted bind; slot_named = at_key st.slot_named k s }

  log_now : st1.log s ≡ x ∷ []
  log_now = log_here m st s x r.core can ∙ ap (λ (ws : List Version). ws ++ x ∷ []) (nil_from_length (st.log s) bare)

  log_else : (s1 : ℕ) → s1 ≢ s → st1.log s1 ≡ st.log s1
  log_else s1 d = upd_else st.log s s1 (st.log s ++ x ∷ []) d

  key_now : st1.keys s ≡ Some k
  key_now = upd_same st.keys s (Some k)

  key_else : (s1 : ℕ) → s1 ≢ s → st1.keys s1 ≡ st.keys s1
  key_else s1 d = upd_else st.keys s s1 (Some k) d

  -- a bound slot is the new one, or as before
  bound_case : (s1 : ℕ) (k1 : List ℕ) → st1.keys s1 ≡ Some k1 → ((s1 ≡ s) × (k1 ≡ k)) ⊎ ((s1 ≢ s) × (st.keys s1 ≡ Some k1))
  bound_case s1 k1 q = dite (ℕ_discrete s1 s) (λ d. inl (d, let z : Some k ≡ Some k1 = sym key_now ∙ ap st1.keys (sym d) ∙ q in cc)) (λ d. inr (d, sym (key_else s1 d) ∙ q))

  silent : (get m0 k ≡ None) × (commits_at k h ≡ [])
  silent = r.tale.unbound k is.absent

  gone_zero : st.gone s ≡ 0
  gone_zero = let a = r.core.bare s bare in let b = r.core.led s in omega arith

  sure_zero : st.sure s ≡ 0
  sure_zero = let a = r.core.sure_most s in let b = bare in omega arith

  same : (s1 : ℕ) → s1 ≢ s → Case m st s x r.core can s1
  same s1 d = else_case m st s x r.core can s1 d

  sure_more : (s1 : ℕ) → st.sure s1 ≤ st1.sure s1
  sure_more s1 = dite (ℕ_discrete s1 s) (λ d. let a = ap st.sure d in let b = sure_zero in omega arith) (λ d. let a = (same s1 d).sure in omega arith)

  place_else : (b : ℕ) → b ≢ home t → st1.place b ≡ st.place b
  place_else b d = upd_else st.place (home t) b (Chained s) d

  less_unsure : (y : ℕ) → unsure st1 y ≡ true → unsure st y ≡ true
  less_unsure y q = dite (ℕ_discrete y t)
      (λ d. absurd (true≢false (sym q ∙ rw d (rw (upd_same st.slot_of t s, upd_same st.rank t (length (st.log s))) (rw (upd_same st.sure s 1) (rw bare refl))))))
      (λ d. let e1 = upd_else st.slot_of t y s d in let e2 = upd_else st.rank t y (length (st.log s)) d in
      unsure_less (st.sure (st.slot_of y)) (st1.sure (st.slot_of y)) (st.rank y) (sure_more (st.slot_of y)) (sym (ap (λ (a : ℕ). leb (st1.sure a) (st1.rank y)) e1 ∙ ap (leb (st1.sure (st.slot_of y))) e2) ∙ q))

  tale1 : Tale st1 m0 used h
  tale1 = record {
    legal = r.tale.legal;
    told = λ s1 k1 q. ⊎_elim
        (λ d. ap st1.log d.0 ∙ log_now ∙ sym (ap (λ (ws : List Version). (x ∷ []) ++ ws) (ap (λ (a : List ℕ). commits_at a h) d.1 ∙ silent.1)) ∙ sym (ap (λ (ws : List Version). ws ++ commits_at k1 h) (ap st1.first d.0 ∙ upd_same st.first s (x ∷ []))))
        (λ d. log_else s1 d.0 ∙ r.tale.told s1 k1 d.1 ∙ ap (λ (ws : List Version). ws ++ commits_at k1 h) (sym (upd_else st.first s s1 (x ∷ []) d.0))) (bound_case s1 k1 q);
    began = λ s1 k1 q. ⊎_elim
        (λ d. ap (ends None) (ap st1.first d.0 ∙ upd_same st.first s (x ∷ [])) ∙ sym silent.0 ∙ ap (get m0) (sym d.1))
        (λ d. ap (ends None) (upd_else st.first s s1 (x ∷ []) d.0) ∙ r.tale.began s1 k1 d.1) (bound_case s1 k1 q);
    unread = unread_less (unsure st) (unsure st1) less_unsure h r.tale.unread;
    settled = λ s1 i y q. dite (ℕ_discrete s1 s)
        (λ d. let f : nth (x ∷ []) i ≡ Some y = sym (ap (λ (ws : List Version). nth ws i) (ap st1.first d ∙ upd_same st.first s (x ∷ []))) ∙ q in let z = nth_within (x ∷ []) i y f in let z1 = ap st1.sure d ∙ here_sure m st s x r.core can in omega arith)
        (λ d. let f = r.tale.settled s1 i y (sym (ap (λ (ws : List Version). nth ws i) (upd_else st.first s s1 (x ∷ []) d)) ∙ q) in let z = sure_more s1 in omega arith);
    unbound = λ k1 f. r.tale.unbound k1 (λ s1 q. dite (ℕ_discrete s1 s) (λ d. absurd (cc (ap st.keys d, q, is.bare))) (λ d. f s1 (key_else s1 d ∙ q)));
  }

  stands_case : (s1 i : ℕ) (y : Version) → Stands st1 s1 i y → ((s1 ≡ s) × (i ≡ 0) × (x ≡ y)) ⊎ ((s1 ≢ s) × Stands st s1 i y)
  stands_case s1 i y q = dite (ℕ_discrete s1 s)
      (λ d. let f : nth (x ∷ []) i ≡ Some y = sym (ap (λ (ws : List Version). nth ws i) (ap st1.log d ∙ log_now)) ∙ q in let z = one i f in inl (d, z.0, z.1))
      (λ d. inr (d, sym (ap (λ (ws : List Version). nth ws i) (log_else s1 d)) ∙ q))
    where
      one : (i : ℕ) → nth (x ∷ []) i ≡ Some y → (i ≡ 0) × (x ≡ y)
      one zero f = (refl, cc)
      one (suc i) f = absurd cc

  holds_new : Holds m1 x
  holds_new j y q = let z = dead_word j y q in rw (z.0, z.1) (is.body (omega arith), is.fbody (omega arith))

  grows : Grows m st h m1 st1 h
  grows = record {
    versions = λ s1 i y q. dite (ℕ_discrete s1 s) (λ d. let f = nth_within (st.log s1) i y q in let z = bare in let z1 = ap (λ (a : ℕ). length (st.log a)) d in absurd (omega arith)) (λ d. ap (λ (ws : List Version). nth ws i) (log_else s1 d) ∙ q);
    sure = sure_more;
    gone = λ s1. dite (ℕ_discrete s1 s) (λ d. let a = ap st.gone d in let b = gone_zero in omega arith) (λ d. let a = (same s1 d).gone in omega arith);
    gens = λ b. omega arith;
    names = prefix_self st.bindings;
    count = omega arith;
    history = prefix_self h;
  }

  tag_case : (s1 i y : ℕ) → tag_at st1 s1 i ≡ Some y → ((s1 ≡ s) × (i ≡ 0) × (y ≡ t)) ⊎ ((s1 ≢ s) × (tag_at st s1 i ≡ Some y))
  tag_case s1 i y q = let z = tag_there st1 s1 i y q in ⊎_elim (λ d. inl (d.0, d.1, sym z.2 ∙ ap (λ (a : Version). a.tag) (sym d.2))) (λ d. inr (d.0, ap tag_in_version d.1 ∙ ap Some z.2)) (stands_case s1 i z.0 z.1)

  help1 : Help l m1 st1
  help1 = let p = w.help in record {
    ranged = let a = p.ranged in record {
      tags = λ s1 i y q. ⊎_elim (λ d. rw d.2 is.range) (λ d. a.tags s1 i y d.1) (tag_case s1 i y q);
      own = a.own;
      below = a.below;
      ready = λ b f. dite (ℕ_discrete b (home t)) (λ d. absurd (subst Ready (ap st1.place d ∙ upd_same st.place (home t) (Chained s)) f)) (λ d. a.ready b (subst Ready (place_else b d) f));
      worn = λ b i f. dite (ℕ_discrete b (home t)) (λ d. absurd (cc (ap st1.place d, upd_same st.place (home t) (Chained s), f))) (λ d. a.worn b i (sym (place_else b d) ∙ f));
      fits = λ s1 i y q. ⊎_elim (λ d. subst (λ (z : Version). Fits l z.value) d.2 tt) (λ d. a.fits s1 i y d.1) (stands_case s1 i y q);
    };
    keyed = let a = p.keyed in record {
      current = λ s1 k1 q. ⊎_elim (λ d. rw (d.0, d.1) (λ j y f. is.key j y f (let z = nth_within (spelling k) j y f in omega arith))) (λ d. a.current s1 k1 d.1) (bound_case s1 k1 q);
      flushed = λ s1 k1 q. ⊎_elim (λ d. rw (d.0, d.1) (λ j y f. is.fkey j y f (let z = nth_within (spelling k) j y f in omega arith))) (λ d. a.flushed s1 k1 d.1) (bound_case s1 k1 q);
      bare = λ s1 q. dite (ℕ_discrete s1 s) (λ d. absurd (cc (ap st1.keys d, key_now, q))) (λ d. ap length (log_else s1 d) ∙ a.bare s1 (sym (key_else s1 d) ∙ q));
      nameless = λ s1 q. dite (ℕ_discrete s1 s) (λ d. absurd (cc (ap st1.keys d, key_now, q))) (λ d. a.nameless s1 (sym (key_else s1 d) ∙ q));
      valid = λ s1 k1 q. ⊎_elim (λ d. subst IsKey (sym d.1) is.valid) (λ d. a.valid s1 k1 d.1) (bound_case s1 k1 q);
      filled = λ s1 k1 q. ⊎_elim (λ d. let z = ap length (ap st1.log d.0 ∙ log_now) in omega arith) (λ d. let z = ap length (log_else s1 d.0) in let z1 = a.filled s1 k1 d.1 in omega arith) (bound_case s1 k1 q);
      slots = λ s1 k1 q. ⊎_elim (λ d. rw d.0 is.slot) (λ d. a.slots s1 k1 d.1) (bound_case s1 k1 q);
    };
    naming = let a = p.naming in record {
      counted = a.counted;
      found = λ s1 k1 q. ⊎_elim (λ d. rw (d.0, d.1) (at_key_same st.slot_named k s)) (λ d. at_key_else st.slot_named k k1 s (λ z. is.absent s1 (d.1 ∙ ap Some z)) ∙ a.found s1 k1 d.1) (bound_case s1 k1 q);
      listed = λ s1 k1 q f. ⊎_elim (λ d. absurd (true≢false (sym f ∙ ap st.named d.0 ∙ is.unnamed))) (λ d. a.listed s1 k1 d.1 f) (bound_case s1 k1 q);
      waiting = λ s1 k1 q f i y z. ⊎_elim (λ d. ap (λ (a1 : Version). a1.value) (sym d.2)) (λ d. ⊎_elim (λ c. absurd (d.0 c.0)) (λ c. a.waiting s1 k1 c.1 f i y d.1) (bound_case s1 k1 q)) (stands_case s1 i y z);
      once = a.once;
    };
    stage = record {
      settled = λ s1 q. dite (ℕ_discrete s1 s) (λ d. (ap st1.lead d ∙ upd_same st.lead s 0 ∙ sym (ap st1.gone d ∙ upd_same st.gone s 0), ap st1.flead d ∙ upd_same st.flead s 0 ∙ sym (ap st1.gone d ∙ upd_same st.gone s 0)))
          (λ d. let z = g.settled s1 q in let c = same s1 d in (c.lead ∙ z.0 ∙ sym c.gone, c.flead ∙ z.1 ∙ sym c.gone));
      holds = λ b f. dite (ℕ_discrete b (home t)) (λ d. absurd (cc (ap st1.place d, upd_same st.place (home t) (Chained s), f))) (λ d. absurd (d (let z : Some (home t) ≡ Some b = g.holds b (sym (place_else b d) ∙ f) in cc)));
      names = λ s1 k1 q. ⊎_elim (λ d. inr (ap Some (sym d.0))) (λ d. ⊎_elim inl (λ z. absurd cc) (g.names s1 k1 d.1)) (bound_case s1 k1 q);
      here = (record { key = key_now; unnamed = is.unnamed; alone = ap length log_now; tag = here_tag m st s x r.core can; gone = upd_same st.gone s 0 }, can.unrooted);
    };
    short = λ s1 y q. durable_kept m st h m1 st1 h grows s1 y (p.short s1 y q);
  }

  moves : Moves l m0 used m st h m1 st1
  moves = record {
    core = core_copy (record m { root = upd m.root s (Some t) }) st0 (bind_core m st s x r.core can) m.body m.fbody m.key m.fkey m.short m.count st1.keys st1.first st.bindings (Rooted bind) st1.slot_named;
    tale = tale1;
    bodies = λ s1 i y q f. ⊎_elim (λ d. subst (Holds m1) d.2 holds_new) (λ d. r.bodies s1 i y d.1 (let z = (same s1 d.0).gone in omega arith)) (stands_case s1 i y q);
    spent = λ y q. ⊎_elim inl (λ a. inr (a.0, place_else (home y) (λ d. absurd (cc (ap st.place d, a.1, is.place))) ∙ a.1, a.2)) q;
    bound = λ s1 k1 q. let z = r.bound s1 k1 q in (key_else s1 (λ d. absurd (cc (ap st.keys d, z.0, is.bare))) ∙ z.0, z.1);
    keyed = λ s1 s2 k1 q1 q2. ⊎_elim (λ a. ⊎_elim (λ b. a.0 ∙ sym b.0) (λ b. absurd (is.absent s2 (b.1 ∙ ap Some a.1))) (bound_case s2 k1 q2)) (λ a. ⊎_elim (λ b. absurd (is.absent s1 (a.1 ∙ ap Some b.1))) (λ b. r.keyed s1 s2 k1 a.1 b.1) (bound_case s2 k1 q2)) (bound_case s1 k1 q1);
    grows = grows;
    leaves = λ j b f. record { place = place_else b (λ d. absurd (cc (ap st.place d, f, is.place))) ∙ f; next = refl; body = λ y. refl; fbody = λ y. refl };
    help = help1;
    fgens = λ b. omega arith;
  }

  -- the directory has no root of the slot yet
  rootless : root_at v.server s ≡ None
  rootless = sv.roots s ∙ none (nth (st.log s) (st.gone s)) refl
    where
      none : (o : Option Version) → nth (st.log s) (st.gone s) ≡ o → tag_in_version o ≡ None
      none None e1 = refl
      none (Some w1) e1 = let z = nth_within (st.log s) (st.gone s) w1 e1 in absurd (omega (arith, bare))

  roots_now : (s1 : ℕ) → root_at v.server s1 ≡ root_in (Rooted bind) st1 s1
  roots_now s1 = dite (ℕ_discrete s1 s) (λ d. ap (root_at v.server) d ∙ rootless ∙ sym (ap (λ (b : Bool). or_else (cond b (Some None) None) (tag_at st1 s1 (st1.gone s1))) (eq-eqb s s1 (sym d))))
      (λ d. sv.roots s1 ∙ sym (ap (tag_at st1 s1) (same s1 d).gone ∙ (same s1 d).tags (st.gone s1)) ∙ sym (ap (λ (b : Bool). or_else (cond b (Some None) None) (tag_at st1 s1 (st1.gone s1))) (ne_eqb s s1 (λ z. d (sym z)))))

  serves1 : Serves l m1 st1 (Rooted bind) (root_bound v bind).server
  serves1 = record {
    task_is = refl;
    directory = ap (λ (a : List (ℕ × List ℕ)). a ++ (s, k) ∷ []) (sv.directory ∙ append-nil st.bindings);
    roots = roots_now;
    books = λ b i. dite (ℕ_discrete b (home t))
        (λ d. sv.books b i ∙ ap (λ (q : Place). book_of (Storing bind n) st q (gen (m.next b)) b) (ap st.place d ∙ is.place)
        ∙ sym (ap (λ (p : Place). book_of (Rooted bind) st1 p (gen (m.next b)) b) (ap st1.place d ∙ upd_same st.place (home t) (Chained s))
        ∙ ap (λ (c : Bool). book (gen (m.next b)) (cond (is_home (or_else (cond c (Some None) None) (tag_at st1 s (st1.gone s))) b) IsBound IsOut)) (eq-eqb s s refl)))
        (λ d. sv.books b i
        ∙ sym (book_same (Storing bind n) (Rooted bind) st st1 (st.place b) (gen (m.next b)) b
        (λ s1 q. ap (λ (a : Option ℕ). is_home a b) (let f : s1 ≢ s = λ z. let c = r.core.chained b s1 q in let c1 = tag_within st s1 c.0 c.1 c.2 in let c2 = bare in let c3 = ap (λ (a : ℕ). length (st.log a)) z in absurd (omega arith) in ap (λ (y : Bool). or_else (cond y (Some None) None) (tag_at st1 s1 (st1.gone s1))) (ne_eqb s s1 (λ z. f (sym z))) ∙ ap (tag_at st1 s1) (same s1 f).gone ∙ (same s1 f).tags (st.gone s1)))
        (λ q. absurd (d (let z : Some (home t) ≡ Some b = g.holds b q in cc))))
        ∙ sym (ap (λ (p : Place). book_of (Rooted bind) st1 p (gen (m.next b)) b) (place_else b d)));
  }

  pub bind_root_whole : IsServed l m0 used m1 (renewed vs id (root_bound v bind)) st h
  bind_root_whole = (st1, whole l m0 used m vs st h w id v at role (root_bound v bind) refl refl refl m1 st1 moves (same_known m1 st1 h id v (root_bound v bind).server) serves1, no_stock st.place (home t) (Chained s) (λ i z. absurd (let y : Chained s ≡ Stocked i = z in cc)))
