-- Batches change hands: what is kept, and the laws of the splits and the joins.
use Rattle.std.proofs.Common.{◌≡◌, ℕ, ◌≢◌, ◌⊎◌, List, [], ◌∷◌, ◌++◌, length, set, refl, sym, ap, ◌∙◌, inl, inr, ⊎_elim, arith, subst, ne_eqb}
use native.Mathlib.Decide.{ℕ_discrete}
use mathlib.Core.Logic.{dite}
use Rattle.std.specs.Prelude.{Some}
use Rattle.std.proofs.lemmas.List.{length-set}
use Rattle.clover_words.specs.Tag.{home, age}
use Rattle.clover_map.specs.declared.call.Entry.{Entry}
use Rattle.clover_map.specs.History.{own}
use Rattle.clover_map.specs.Tagged.{Tagged}
use Rattle.clover_map.specs.Legal.{used_by}
use Rattle.clover_rule.specs.Lists.{Each, nth, upd, Within}
use Rattle.clover_rule.specs.Memory.{gen, Mem}
use Rattle.clover_rule.specs.Server.{Ready, Help, Serves, Whole}
use Rattle.clover_rule.specs.Story.{Place, Chained, Stocked, Free, Worn, Taken, Loose, Story, Core}
use Rattle.clover_rule.specs.Views.{Owned, ViewOk, Spent, Numbered, batch_at}
use Rattle.clover_rule.specs.Moves.{making, client_of}
use Rattle.clover_rule.specs.declared.view.Role.TheVariants.{Client, Serving}
use Rattle.clover_rule.specs.declared.view.View.{View}
use Rattle.clover_words.specs.declared.pool.Pool.{Pool}
use Rattle.clover_rule.proofs.Tools.{upd_same, upd_else, nth_within, nth_snoc, nth_front}
use Rattle.clover_rule.proofs.Steps.{each_map, prefix_self, Grows, view_kept, nth_set, set_here, set_away}
use Rattle.clover_rule.proofs.GrantLaw.{away, all_there, core_handed}
use Rattle.clover_rule.proofs.ServerTools.{tale_copy}
use Rattle.clover_rule.proofs.Staying.{help_kept}

-- a batch that stood at one loose place goes to another
module _ (l : Pool) (m0 : Tagged) (used : List ℕ) (m : Mem) (vs : List View) (st : Story) (h : List Entry) (w : Whole l m0 used m vs st h) (batch : List ℕ) (q0 : Place) (k : ℕ) (ready : Ready q0) (was : Each (λ (t : ℕ). st.place (home t) ≡ q0) batch) where
  abbrev pub q : Place
  q = Stocked k

  abbrev pub st' : Story
  st' = record st { place = batch_at st.place batch q }

  loose0 : (p : Place) → Ready p → Loose p
  loose0 Free f = tt
  loose0 (Stocked i) f = tt
  loose0 Worn f = absurd f
  loose0 Taken f = absurd f
  loose0 (Chained s) f = absurd f

  pub hand_core : Core m st'
  hand_core = core_handed m st batch q w.basis.core tt (λ s e. cc) (each_map (λ t d. subst Loose (sym d) (loose0 q0 ready)) batch was)

  not_in : (b : ℕ) (x : Place) → st.place b ≡ x → x ≢ q0 → (ts : List ℕ) → Each (λ (t : ℕ). st.place (home t) ≡ q0) ts → Each (λ (t : ℕ). home t ≢ b) ts
  not_in b x e n [] f = tt
  not_in b x e n (t ∷ ts) f = ((λ z. n (sym e ∙ ap st.place (sym z) ∙ f.0)), not_in b x e n ts f.1)

  pub hand_else : (b : ℕ) (x : Place) → st.place b ≡ x → x ≢ q0 → st'.place b ≡ x
  hand_else b x e n = away st.place batch q b (not_in b x e n batch was) ∙ e

  -- where a buffer stands now: in the batch, or as before
  pub hand_case : (b : ℕ) → ((st'.place b ≡ q) × (st.place b ≡ q0)) ⊎ (st'.place b ≡ st.place b)
  hand_case b = go batch was st.place (inr refl)
    where
      go : (ts : List ℕ) → Each (λ (t : ℕ). st.place (home t) ≡ q0) ts → (f : ℕ → Place) → ((f b ≡ q) × (st.place b ≡ q0)) ⊎ (f b ≡ st.place b) → ((batch_at f ts q b ≡ q) × (st.place b ≡ q0)) ⊎ (batch_at f ts q b ≡ st.place b)
      go [] e f d = d
      go (t ∷ ts) e f d = go ts e.1 (upd f (home t) q) (dite (ℕ_discrete b (home t)) (λ z. inl (ap (upd f (home t) q) z ∙ upd_same f (home t) q, ap st.place z ∙ e.0)) (λ z. ⊎_elim (λ a. inl (upd_else f (home t) b q z ∙ a.0, a.1)) (λ a. inr (upd_else f (home t) b q z ∙ a)) d))

  held_kept : (b : ℕ) → st.place b ≡ Taken → st'.place b ≡ Taken
  held_kept b e = hand_else b Taken e (λ z. subst Ready (sym z) ready)

  pub hand_help : Help l m st'
  hand_help = let p = w.help in let a = p.ranged in help_kept l m st m.fnext m.body m.fbody m.short st'.place st.sure (λ s j q. q) (λ b e. (held_kept b e, refl, refl, refl)) p
      record {
        tags = a.tags;
        own = a.own;
        below = a.below;
        fits = a.fits;
        ready = λ b f. ⊎_elim (λ d. a.ready b (subst Ready (sym d.1) ready)) (λ d. a.ready b (subst Ready d f)) (hand_case b);
        worn = λ b i f. ⊎_elim (λ d. absurd (cc (d.0, f))) (λ d. a.worn b i (sym d ∙ f)) (hand_case b);
      }
      (λ b f. ⊎_elim (λ d. absurd (cc (d.0, f))) (λ d. p.stage.holds b (sym d ∙ f)) (hand_case b)) p.short

  pub hand_spent : (y : ℕ) → Spent m st y → Spent m st' y
  hand_spent y (inl a) = inl a
  hand_spent y (inr a) = inr (a.0, hand_else (home y) (Chained a.0) a.1 (λ z. subst Ready (sym z) ready), a.2)

  grows : Grows m st h m st' h
  grows = record { versions = λ s1 i1 w1 z. z; sure = λ j. omega arith; gone = λ j. omega arith; gens = λ b. omega arith; names = prefix_self st.bindings; count = omega arith; history = prefix_self h }

  -- a view whose stock does not stand there
  pub hand_view : (j : ℕ) (y : View) → Stocked j ≢ q0 → ViewOk m st h j y → ViewOk m st' h j y
  hand_view j y n = view_kept m st h m st' h grows j y (λ b o. record { place = hand_else b (Stocked j) o n; next = refl; body = λ z. refl; fbody = λ z. refl }) (λ c f. refl)

  -- the facts of a view that speak of no stock, told of another view with these lists
  pub hand_owned : (ts : List ℕ) → Each (λ (t : ℕ). st.place (home t) ≡ q0) ts → Each (λ (t : ℕ). gen (m.next (home t)) ≡ age t) batch → Each (Owned m st' k) batch
  hand_owned ts e g = all_there st.place batch q (λ t. gen (m.next (home t)) ≡ age t) g

  -- one law for all splits and joins: the views after are given, each with its facts
  module _ (vs' : List View) (views : (i : ℕ) (y : View) → nth vs' i ≡ Some y → ViewOk m st' h i y) (numbered : Numbered vs') (longest : (i : ℕ) × (y : View) × (nth vs' i ≡ Some y) × (y.pass.history ≡ h))
      (serves : (i : ℕ) (y : View) → nth vs' i ≡ Some y → y.pass.role ≡ Serving → Serves l m st' st.task y.server) (one : (i j : ℕ) (y z : View) → nth vs' i ≡ Some y → nth vs' j ≡ Some z → y.pass.role ≡ Serving → z.pass.role ≡ Serving → i ≡ j)
      (made : (i j n : ℕ) (y z : View) → nth vs' i ≡ Some y → nth vs' j ≡ Some z → y.pass.role ≡ Serving → z.pass.role ≡ Client n → Within n y.server.clients)
      (entered : (i : ℕ) (y : View) → nth vs' i ≡ Some y → y.pass.role ≡ Serving → Each (λ (e : Entry). Within e.client y.server.clients) h) where
    pub hand_whole : Whole l m0 used m vs' st' h
    hand_whole = let r = w.basis in record {
      basis = record {
        core = hand_core;
        tale = tale_copy st m0 used h r.tale (batch_at st.place batch q) st.gone st.lead st.flead st.named st.bindings st.task st.slot_named;
        bodies = r.bodies;
        spent = each_map hand_spent (used_by used h) r.spent;
        bound = r.bound;
        keyed = r.keyed;
        views = views;
        numbered = numbered;
        longest = longest;
      };
      help = hand_help;
      serves = serves;
      one = one;
      safe = w.safe;
      made = made;
      entered = entered;
    }

-- the server splits off a new client's pass: the batch is empty
module _ (l : Pool) (m0 : Tagged) (used : List ℕ) (m : Mem) (vs : List View) (st : Story) (h : List Entry) (w : Whole l m0 used m vs st h) (id : ℕ) (v : View) (at : nth vs id ≡ Some v) (role : v.pass.role ≡ Serving) (n : ℕ) (fresh : Within n v.server.clients → ⊥) where
  abbrev pass_view : View
  pass_view = client_of n v

  abbrev making_view : View
  making_view = making n v

  abbrev pub views_then : List View
  views_then = set vs id making_view ++ pass_view ∷ []

  none_own : (cs : List ℕ) (xs : List Entry) → (Within n cs → ⊥) → Each (λ (e : Entry). Within e.client cs) xs → own xs n ≡ []
  none_own cs [] f a = refl
  none_own cs (e ∷ xs) f a = rw (ne_eqb e.client n (λ q. f (subst (λ (z : ℕ). Within z cs) q a.0))) (none_own cs xs f a.1)

  made_case : (i : ℕ) (y : View) → nth views_then i ≡ Some y → ((i ≡ length vs) × (pass_view ≡ y)) ⊎ (((i ≡ id) × (making_view ≡ y)) ⊎ ((i ≢ id) × (nth vs i ≡ Some y)))
  made_case i y e = ⊎_elim (λ a. inr (nth_set vs id i making_view y a)) (λ a. inl (a.0 ∙ length-set vs id making_view, a.1)) (nth_snoc (set vs id making_view) pass_view y i e)

  server_at : (i : ℕ) (y : View) → nth views_then i ≡ Some y → y.pass.role ≡ Serving → (i ≡ id) × (making_view ≡ y)
  server_at i y e s = ⊎_elim (λ a. absurd (cc (ap (λ (z : View). z.pass.role) a.1, s))) (λ a. ⊎_elim (λ b. b) (λ b. absurd (b.0 (w.one i id y v b.1 at s role))) a) (made_case i y e)

  client_at : (i c : ℕ) (y : View) → nth views_then i ≡ Some y → y.pass.role ≡ Client c → ((i ≡ length vs) × (c ≡ n)) ⊎ (nth vs i ≡ Some y)
  client_at i c y e s = ⊎_elim (λ a. inl (a.0, let z : Client n ≡ Client c = ap (λ (z : View). z.pass.role) a.1 ∙ s in cc)) (λ a. ⊎_elim (λ b. absurd (cc (ap (λ (z : View). z.pass.role) b.1, role, s))) (λ b. inr b.1) a) (made_case i y e)

  pub split_client : Whole l m0 used m views_then st h
  split_client = let p = w.basis in hand_whole l m0 used m vs st h w [] Free (length vs) tt tt views_then
      (λ i y e. ⊎_elim (λ a. rw (← a.1) (record { stocked = tt; apart = tt; knows = record { durable = tt; links = tt; words = tt; copied = tt }; written = tt; flushed = tt; named = record { names = (st.bindings, refl); added = inl refl; most = omega arith }; history = (h, refl); calls = sym (none_own v.server.clients h fresh (w.entered id v at role)) }))
      (λ a. ⊎_elim (λ b. rw (b.0, ← b.1) (let k = p.views id v at in record { stocked = k.stocked; apart = k.apart; knows = k.knows; written = k.written; flushed = k.flushed; named = k.named; history = k.history; calls = k.calls })) (λ b. p.views i y b.1) a) (made_case i y e))
      (λ i j c y z e f s t. ⊎_elim (λ a. ⊎_elim (λ b. a.0 ∙ sym b.0) (λ b. absurd (fresh (subst (λ (x : ℕ). Within x v.server.clients) a.1 (w.made id j c v z at b role t)))) (client_at j c z f t))
      (λ a. ⊎_elim (λ b. absurd (fresh (subst (λ (x : ℕ). Within x v.server.clients) b.1 (w.made id i c v y at a role s)))) (λ b. p.numbered i j c y z a b s t) (client_at j c z f t)) (client_at i c y e s))
      (let o = p.longest in longest_of o.0 o.1 o.2 o.3 (ℕ_discrete o.0 id))
      (λ i y e s. rw (← (server_at i y e s).1) (let a = w.serves id v at role in record { task_is = a.task_is; directory = a.directory; roots = a.roots; books = a.books }))
      (λ i j y z e f s t. (server_at i y e s).0 ∙ sym (server_at j z f t).0)
      (λ i j c y z e f s t. rw (← (server_at i y e s).1) (⊎_elim (λ a. inl (sym a.1)) (λ a. inr (w.made id j c v z at a role t)) (client_at j c z f t)))
      (λ i y e s. rw (← (server_at i y e s).1) (each_map (λ x a. inr a) h (w.entered id v at role)))
    where
      longest_of : (j : ℕ) (x : View) → nth vs j ≡ Some x → x.pass.history ≡ h → Dec (j ≡ id) → (i : ℕ) × (y : View) × (nth views_then i ≡ Some y) × (y.pass.history ≡ h)
      longest_of j x q e (yes d) = (id, making_view, front id making_view (set_here vs id making_view v at), let z : v ≡ x = let zz : Some v ≡ Some x = sym at ∙ ap (nth vs) (sym d) ∙ q in cc in ap (λ (y : View). y.pass.history) z ∙ e)
        where
          front : (i : ℕ) (y : View) → nth (set vs id making_view) i ≡ Some y → nth views_then i ≡ Some y
          front i y f = nth_front (set vs id making_view) pass_view i (λ z. let a = nth_within (set vs id making_view) i y f in absurd (omega arith)) ∙ f
      longest_of j x q e (no d) = (j, x, nth_front (set vs id making_view) pass_view j (λ z. let a = nth_within vs j x q in let b = length-set vs id making_view in absurd (omega arith)) ∙ set_away vs id j making_view d ∙ q, e)
