-- What each act of the server has to show, and how its law follows from it.
use Rattle.std.proofs.Common.{◌≡◌, ℕ, ◌≤◌, ◌≢◌, List, Bool, true, false, cond, refl, sym, ap, ◌∙◌, ⊎_elim, arith, subst}
use native.Mathlib.Decide.{ℕ_discrete}
use mathlib.Core.Logic.{dite}
use Rattle.std.specs.Prelude.{Option, Some}
use Rattle.clover_words.specs.Tag.{home, age}
use Rattle.clover_map.specs.declared.call.Entry.{Entry}
use Rattle.clover_map.specs.Tagged.{Tagged}
use Rattle.clover_map.specs.Legal.{used_by}
use Rattle.clover_rule.specs.History.{Version}
use Rattle.clover_rule.specs.Lists.{Each, nth, upd, Within}
use Rattle.clover_rule.specs.Memory.{gen, Mem}
use Rattle.clover_rule.specs.Server.{Help, root_in, is_home, held_book, book_of, Serves, Whole}
use Rattle.clover_rule.specs.Story.{Place, Chained, Stocked, Free, Worn, Taken, Story, Core, Tale}
use Rattle.clover_rule.specs.Views.{book, Holds, Stands, ViewOk, Spent, Basis, renewed}
use Rattle.clover_rule.specs.declared.view.BufferState.{BufferState}
use Rattle.clover_rule.specs.declared.view.BufferState.TheVariants.{Free as IsFree, Bound as IsBound, Out as IsOut}
use Rattle.clover_rule.specs.declared.view.Role.TheVariants.{Serving}
use Rattle.clover_rule.specs.declared.view.Server.{Server}
use Rattle.clover_rule.specs.declared.view.ServerTask.{ServerTask}
use Rattle.clover_rule.specs.declared.view.ServerTask.TheVariants.{Idle, Storing, Rooted, Waiting, Loaded, Raised, Led, Both, Exchanged}
use Rattle.clover_rule.specs.declared.view.View.{View}
use Rattle.clover_words.specs.declared.pool.Pool.{Pool}
use Rattle.clover_rule.proofs.Tools.{upd_same, upd_else}
use Rattle.clover_rule.proofs.Cores.{core_but}
use Rattle.clover_rule.proofs.Quiet.{quiet}
use Rattle.clover_rule.proofs.Steps.{each_map, Grows, Leaves, view_kept, nth_set, longest_was}

-- the core facts read neither contents, keys, shortcuts nor the count, nor names and tasks
pub core_copy : (m : Mem) (st : Story) → Core m st → (b fb k fk : ℕ → ℕ → ℕ) (sh : ℕ → Option ℕ) (ct : ℕ) (keys : ℕ → Option (List ℕ)) (first : ℕ → List Version) (bindings : List (ℕ × List ℕ)) (task : ServerTask) (sn : List ℕ → ℕ)
    → Core (record m { body = b; fbody = fb; key = k; fkey = fk; short = sh; count = ct }) (record st { keys = keys; first = first; bindings = bindings; task = task; slot_named = sn })
core_copy m st c b fb k fk sh ct keys first bindings task sn = core_but m st c m.fnext st.place st.named b fb k fk sh ct keys first bindings task sn (λ s i t x. x.safe) (λ y s e. (e, refl)) (λ s e n. n) c.loose c.held c.chained

pub record Moves (l : Pool) (m0 : Tagged) (used : List ℕ) (m : Mem) (st : Story) (h : List Entry) (m' : Mem) (st' : Story) : Type 0 where
  pub core : Core m' st'
  pub tale : Tale st' m0 used h
  pub bodies : (s i : ℕ) (w : Version) → Stands st' s i w → st'.gone s ≤ i → Holds m' w
  pub spent : (y : ℕ) → Spent m st y → Spent m' st' y
  pub bound : (s : ℕ) (k : List ℕ) → Within (s, k) st'.bindings → (st'.keys s ≡ Some k) × (st'.named s ≡ true)
  pub keyed : (s1 s2 : ℕ) (k : List ℕ) → st'.keys s1 ≡ Some k → st'.keys s2 ≡ Some k → s1 ≡ s2
  pub grows : Grows m st h m' st' h
  pub leaves : (j b : ℕ) → st.place b ≡ Stocked j → Leaves m st m' st' j b
  pub help : Help l m' st'
  pub fgens : (b : ℕ) → gen (m.fnext b) ≤ gen (m'.fnext b)

-- a place that becomes no stock leaves what is in stocks
pub no_stock : (f : ℕ → Place) (a : ℕ) (q : Place) → ((i : ℕ) → q ≢ Stocked i) → (b i : ℕ) → upd f a q b ≡ Stocked i → f b ≡ Stocked i
no_stock f a q n b i e = dite (ℕ_discrete b a) (λ d. absurd (n i (sym (upd_same f a q) ∙ ap (upd f a q) (sym d) ∙ e))) (λ d. sym (upd_else f a b q d) ∙ e)

-- what the server alone knows is in no fact on its view
pub same_known : (m : Mem) (st : Story) (h : List Entry) (id : ℕ) (v : View) (sv : Server) → ViewOk m st h id v → ViewOk m st h id (record v { server = sv })
same_known m st h id v sv k = record { stocked = k.stocked; apart = k.apart; knows = k.knows; written = k.written; flushed = k.flushed; named = k.named; history = k.history; calls = k.calls }

-- after a step of the server the helping facts hold with the same history, and no buffer came into a stock
abbrev pub IsServed : Pool → Tagged → List ℕ → Mem → List View → Story → List Entry → Type 0
IsServed l m0 used m vs st h = (st' : Story) × Whole l m0 used m vs st' h × ((b i : ℕ) → st'.place b ≡ Stocked i → st.place b ≡ Stocked i)

module _ (l : Pool) (m0 : Tagged) (used : List ℕ) (m : Mem) (vs : List View) (st : Story) (h : List Entry) (w : Whole l m0 used m vs st h)
    (id : ℕ) (v : View) (at : nth vs id ≡ Some v) (role : v.pass.role ≡ Serving) (v' : View) (role' : v'.pass.role ≡ v.pass.role) (past' : v'.pass.history ≡ v.pass.history) (clients' : v'.server.clients ≡ v.server.clients)
    (m' : Mem) (st' : Story) (mv : Moves l m0 used m st h m' st') (knows : ViewOk m' st' h id v → ViewOk m' st' h id v') (sv : Serves l m' st' st'.task v'.server) where
  abbrev r : Basis m0 used m vs st h
  r = w.basis

  kept : (j : ℕ) (x : View) → ViewOk m st h j x → ViewOk m' st' h j x
  kept j x = view_kept m st h m' st' h mv.grows j x (mv.leaves j) (λ c f. refl)

  ok : ViewOk m' st' h id v'
  ok = knows (kept id v (r.views id v at))

  was : (i1 : ℕ) (x : View) → nth (renewed vs id v') i1 ≡ Some x → (y : View) × (nth vs i1 ≡ Some y) × (y.pass.role ≡ x.pass.role) × (y.server.clients ≡ x.server.clients)
  was i1 x q = ⊎_elim {C = (y : View) × (nth vs i1 ≡ Some y) × (y.pass.role ≡ x.pass.role) × (y.server.clients ≡ x.server.clients)}
      (λ d. (v, ap (nth vs) d.0 ∙ at, sym role' ∙ ap (λ (z : View). z.pass.role) d.1, sym clients' ∙ ap (λ (z : View). z.server.clients) d.1)) (λ d. (x, d.1, refl, refl)) (nth_set vs id i1 v' x q)

  rule' : Basis m0 used m' (renewed vs id v') st' h
  rule' = record {
    core = mv.core;
    tale = mv.tale;
    bodies = mv.bodies;
    spent = each_map mv.spent (used_by used h) r.spent;
    bound = mv.bound;
    keyed = mv.keyed;
    views = λ i1 x q. ⊎_elim (λ d. rw (d.0, ← d.1) ok) (λ d. kept i1 x (r.views i1 x d.1)) (nth_set vs id i1 v' x q);
    numbered = λ i1 j1 c x y qx qy rx ry. let x1 = was i1 x qx in let y1 = was j1 y qy in r.numbered i1 j1 c x1.0 y1.0 x1.1 y1.1 (x1.2 ∙ rx) (y1.2 ∙ ry);
    longest = longest_was vs id v v' at h past' r.longest;
  }

  pub whole : Whole l m0 used m' (renewed vs id v') st' h
  whole = record {
    basis = rule';
    help = mv.help;
    serves = λ i1 x q e. ⊎_elim (λ d. rw (← d.1) sv) (λ d. absurd (d.0 (w.one i1 id x v d.1 at e role))) (nth_set vs id i1 v' x q);
    one = λ i1 j1 x y qx qy rx ry. let x1 = was i1 x qx in let y1 = was j1 y qy in w.one i1 j1 x1.0 y1.0 x1.1 y1.1 (x1.2 ∙ rx) (y1.2 ∙ ry);
    safe = each_map (λ t d. (d.0, let q = mv.fgens (home t) in let q2 = d.1 in omega arith)) (used_by used h) w.safe;
    made = λ i1 j1 n x y qx qy rx ry. let x1 = was i1 x qx in let y1 = was j1 y qy in subst (Within n) x1.3 (w.made i1 j1 n x1.0 y1.0 x1.1 y1.1 (x1.2 ∙ rx) (y1.2 ∙ ry));
    entered = λ i1 x q e. let x1 = was i1 x q in subst (λ (cs : List ℕ). Each (λ (y : Entry). Within y.client cs) h) x1.3 (w.entered i1 x1.0 x1.1 (x1.2 ∙ e));
  }

-- one view is renewed by another of the same role and history, which knows true facts, and the words and the story stay
module _ (l : Pool) (m0 : Tagged) (used : List ℕ) (m : Mem) (vs : List View) (st : Story) (h : List Entry) (w : Whole l m0 used m vs st h) (id : ℕ) (v v' : View) (at : nth vs id ≡ Some v) (same : v'.pass.role ≡ v.pass.role) (past : v'.pass.history ≡ v.pass.history) (ok : ViewOk m st h id v')
    (serves : v.pass.role ≡ Serving → Serves l m st st.task v.server → Serves l m st st.task v'.server) (clients : v'.server.clients ≡ v.server.clients) where
  was_one : (i : ℕ) (x : View) → nth (renewed vs id v') i ≡ Some x → (y : View) × (nth vs i ≡ Some y) × (y.pass.role ≡ x.pass.role) × (y.server.clients ≡ x.server.clients)
  was_one i x q = ⊎_elim {C = (y : View) × (nth vs i ≡ Some y) × (y.pass.role ≡ x.pass.role) × (y.server.clients ≡ x.server.clients)}
      (λ d. (v, ap (nth vs) d.0 ∙ at, sym same ∙ ap (λ (z : View). z.pass.role) d.1, sym clients ∙ ap (λ (z : View). z.server.clients) d.1)) (λ d. (x, d.1, refl, refl)) (nth_set vs id i v' x q)

  pub own_whole : Whole l m0 used m (renewed vs id v') st h
  own_whole = record {
    basis = quiet m0 used m vs st h w.basis id v v' at same past ok;
    help = w.help;
    serves = λ i x q e. ⊎_elim (λ d. subst (λ (z : View). Serves l m st st.task z.server) d.1 (let ro : v.pass.role ≡ Serving = sym same ∙ ap (λ (z : View). z.pass.role) d.1 ∙ e in serves ro (w.serves id v at ro))) (λ d. w.serves i x d.1 e) (nth_set vs id i v' x q);
    one = λ i j x y qx qy rx ry. let a = was_one i x qx in let b = was_one j y qy in w.one i j a.0 b.0 a.1 b.1 (a.2 ∙ rx) (b.2 ∙ ry);
    safe = w.safe;
    made = λ i j n x y qx qy rx ry. let a = was_one i x qx in let b = was_one j y qy in subst (Within n) a.3 (w.made i j n a.0 b.0 a.1 b.1 (a.2 ∙ rx) (b.2 ∙ ry));
    entered = λ i x q e. let a = was_one i x q in subst (λ (cs : List ℕ). Each (λ (y : Entry). Within y.client cs) h) a.3 (w.entered i a.0 a.1 (a.2 ∙ e));
  }

-- the same books at the same place under another task
pub book_same : (T T' : ServerTask) (st st' : Story) (p : Place) (g b : ℕ) → ((s : ℕ) → p ≡ Chained s → is_home (root_in T' st' s) b ≡ is_home (root_in T st s) b) → (p ≡ Taken → book_of T' st' Taken g b ≡ book_of T st Taken g b) → book_of T' st' p g b ≡ book_of T st p g b
book_same T T' st st' (Chained s) g b r h = ap (λ (x : Bool). book g (cond x IsBound IsOut)) (r s refl)
book_same T T' st st' (Stocked i) g b r h = refl
book_same T T' st st' Free g b r h = refl
book_same T T' st st' Worn g b r h = refl
book_same T T' st st' Taken g b r h = h refl

same_state : (g a : ℕ) (x y : BufferState) → book g x ≡ book a y → x ≡ y
same_state g a x y e = cc

-- the books call a buffer that the task holds bound or out
pub held_out : (T : ServerTask) (g a : ℕ) (x : BufferState) → held_book T g ≡ book a x → x ≢ IsBound → x ≢ IsOut → ⊥
held_out (Exchanged cycle) g a x e n o = n (sym (same_state (age cycle.root) a IsBound x e))
held_out Idle g a x e n o = o (sym (same_state g a IsOut x e))
held_out (Storing bind n1) g a x e n o = o (sym (same_state g a IsOut x e))
held_out (Rooted bind) g a x e n o = o (sym (same_state g a IsOut x e))
held_out (Waiting bind) g a x e n o = o (sym (same_state g a IsOut x e))
held_out (Loaded cycle) g a x e n o = o (sym (same_state g a IsOut x e))
held_out (Raised cycle) g a x e n o = o (sym (same_state g a IsOut x e))
held_out (Led cycle) g a x e n o = o (sym (same_state g a IsOut x e))
held_out (Both cycle) g a x e n o = o (sym (same_state g a IsOut x e))

-- what the free ones of the books are
pub free_place : (T : ServerTask) (st : Story) (p : Place) (g b a : ℕ) → book_of T st p g b ≡ book a IsFree → (p ≡ Free) × (g ≡ a)
free_place T st (Chained s) g b a e = go (is_home (root_in T st s) b) e
  where
    go : (x : Bool) → book g (cond x IsBound IsOut) ≡ book a IsFree → (Chained s ≡ Free) × (g ≡ a)
    go true q = absurd cc
    go false q = absurd cc
free_place T st (Stocked i) g b a e = absurd cc
free_place T st Free g b a e = (refl, cc)
free_place T st Worn g b a e = absurd cc
free_place T st Taken g b a e = absurd (held_out T g a IsFree e (λ z. absurd cc) (λ z. absurd cc))

-- the history's facts read neither places, roots, names nor tasks
pub tale_copy : (st : Story) (m0 : Tagged) (used : List ℕ) (h : List Entry) → Tale st m0 used h → (place : ℕ → Place) (gone lead flead : ℕ → ℕ) (named : ℕ → Bool) (bindings : List (ℕ × List ℕ)) (task : ServerTask) (sn : List ℕ → ℕ)
    → Tale (record st { place = place; gone = gone; lead = lead; flead = flead; named = named; bindings = bindings; task = task; slot_named = sn }) m0 used h
tale_copy st m0 used h t place gone lead flead named bindings task sn = record { legal = t.legal; told = t.told; began = t.began; unread = t.unread; settled = t.settled; unbound = t.unbound }
