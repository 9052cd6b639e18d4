-- The twelve parts follow from the helping facts.
use Rattle.std.proofs.Common.{◌≡◌, ℕ, zero, suc, ◌+◌, ◌<◌, ◌≤◌, ◌≢◌, ◌⊎◌, List, [], ◌∷◌, length, drop, Bool, true, false, cond, eqb, ltb, refl, sym, ap, ◌∙◌, inl, inr, ⊎_elim, arith, subst, eq-eqb, ne_eqb, eqb-true, true≢false}
use native.Mathlib.Decide.{ℕ_discrete, dec_le}
use mathlib.Core.Logic.{dite}
use Rattle.std.specs.Prelude.{Option, Some, None}
use Rattle.std.proofs.lemmas.Option.{same_Some}
use Rattle.std.proofs.lemmas.Bool.{lt-ltb}
use Rattle.clover_words.specs.Tag.{age, home}
use Rattle.std.specs.FinMap.{get}
use Rattle.clover_map.specs.declared.bytes.Value.{Value}
use Rattle.clover_map.specs.declared.bytes.Held.{Held}
use Rattle.clover_map.specs.declared.call.Entry.{Entry}
use Rattle.clover_map.specs.Tagged.{Tagged}
use Rattle.clover_words.specs.declared.pool.Pool.{Pool}
use Rattle.clover_map.specs.declared.bytes.Held.{Held}
use Rattle.clover_rule.specs.Content.{content}
use Rattle.clover_map.specs.Legal.{used_by}
use Rattle.clover_rule.specs.History.{Version, commits_at, commit_of, entry_key, ends, paired}
use Rattle.clover_rule.specs.Image.{tags}
use Rattle.clover_rule.specs.Lists.{nth, Within, Each}
use Rattle.clover_rule.specs.Meets.{Meets}
use Rattle.clover_rule.specs.Memory.{Next, word, gen, link, order, Mem}
use Rattle.clover_rule.specs.Chains.{Falls, RootFlushed, ChainsAndContents, LinksAndRootsFlushed, NextWordsRise}
use Rattle.clover_rule.specs.Holding.{held_by, recycled_by}
use Rattle.clover_rule.specs.Buffers.{BuffersInOnePlace, StocksAtRest, AtRest}
use Rattle.clover_rule.specs.Known.{DurableTagsKnown, TargetsStand, CopiesAreWhole, ShortcutsKnown}
use Rattle.clover_rule.specs.Names.{NamesAndCount}
use Rattle.clover_rule.specs.Histories.{tail_pair, HistoryAndMap, ViewsAndHistory}
use Rattle.clover_rule.specs.Rule.{Rule}
use Rattle.clover_rule.specs.Server.{IsWaiting, IsExchanged, waiting_name, moving, unnamed, holding, AtStage, root_in, is_home, book_of}
use Rattle.clover_rule.specs.Story.{Waits, Loose, tag_in_version, only, Place, Chained, Stocked, Free, Worn, Taken, Story, tag_at, Core}
use Rattle.clover_rule.specs.Views.{Owned, book, Spent, Past, IsLink, Holds}
use Rattle.clover_rule.specs.Words.{mem_of}
use Rattle.clover_rule.specs.declared.view.BufferState.TheVariants.{Free as IsFree, Worn as IsWorn, Bound as IsBound, Out as IsOut}
use Rattle.clover_rule.specs.declared.view.Link.{Link}
use Rattle.clover_rule.specs.declared.view.Shown.{Shown}
use Rattle.clover_rule.specs.declared.view.NewBinding.{NewBinding}
use Rattle.clover_rule.specs.declared.view.Recycling.{Recycling}
use Rattle.clover_rule.specs.declared.view.ServerTask.{ServerTask}
use Rattle.clover_rule.specs.declared.view.ServerTask.TheVariants.{Idle, Storing, Rooted, Waiting, Loaded, Raised, Led, Both, Exchanged}
use Rattle.clover_rule.specs.declared.view.View.{View}
use Rattle.clover_rule.proofs.Bindings.{few_bindings, nth_among}
use Rattle.clover_rule.proofs.Standings.{exchanged_tag, tag_there, tag_within, tag_past, one_buffer, word_is, by_held}
use Rattle.clover_rule.proofs.Steps.{each_map, each_within}
use Rattle.clover_rule.proofs.Histories.{leads_commits, ends_more}
use Rattle.clover_rule.proofs.Snocs.{within_nth, within_commits, within_back}
use Rattle.clover_rule.proofs.KeyMaps.{leads, Map, shows}
use Rattle.clover_rule.proofs.TaggedMaps.{legal_history}
use Rattle.clover_rule.proofs.Keys.{key_discrete}
use Rattle.clover_rule.proofs.ServerTools.{held_out, free_place}
use Rattle.clover_rule.proofs.Derived.{chain_of, recycled_of, drop_within, on_chain, is_held, known, target, flushed_links, chains, current_past, past_there, values, values_fall, tag_of, linked_to, chosen_of}

abbrev pub value_in : Option Version → Option Value
value_in None = None
value_in (Some w) = w.value

single : (ws : List Version) (t : ℕ) → length ws ≡ 1 → tag_in_version (nth ws 0) ≡ Some t → tags (drop 0 ws) ≡ t ∷ []
single [] t l e = absurd cc
single (x ∷ []) t l e = ap (λ (y : ℕ). y ∷ []) (let z : Some x.tag ≡ Some t = e in cc)
single (x ∷ y ∷ ws) t l e = absurd (let z : suc (suc (length ws)) ≡ 1 = l in omega arith)

-- the pair of a chain's tail is that with which the versions end
tail_of : (value : ℕ → Option Value) (ws : List Version) (p : ℕ) → p < length ws → ((i : ℕ) (w : Version) → nth ws i ≡ Some w → value w.tag ≡ w.value) → tail_pair value (tags (drop p ws)) ≡ ends None ws
tail_of value [] p h f = absurd (omega arith)
tail_of value (x ∷ []) zero h f = ap (paired x.tag) (f zero x refl)
tail_of value (x ∷ y ∷ ws) zero h f = tail_of value (y ∷ ws) zero (omega arith) (λ i w e. f (suc i) w e)
tail_of value (x ∷ []) (suc p) h f = absurd (omega arith)
tail_of value (x ∷ y ∷ ws) (suc p) h f = tail_of value (y ∷ ws) p (omega arith) (λ i w e. f (suc i) w e)

-- the content of a version, by the story
abbrev pub value_by : Story → ℕ → Option Value
value_by st t = value_in (nth (st.log (st.slot_of t)) (st.rank t))

within_there : (vs : List View) (v : View) → Within v vs → (i : ℕ) × (nth vs i ≡ Some v)
within_there vs v w = within_nth v vs w

module _ (p : Pool) (first : Tagged) (used : List ℕ) (ws : List ℕ) (vs : List View) (st : Story) (h : List Entry) (r : Meets p first used ws vs st h) where
  abbrev m : Mem
  m = mem_of p ws

  abbrev c : Core m st
  c = r.whole.basis.core

  -- a version's content, and the tag of a version
  value_at : (s i : ℕ) (w : Version) → nth (st.log s) i ≡ Some w → value_by st w.tag ≡ w.value
  value_at s i w e = let q = c.spotted s i w.tag (ap tag_in_version e) in
      ap (λ (a : ℕ). value_in (nth (st.log a) (st.rank w.tag))) q.0 ∙ ap (λ (a : ℕ). value_in (nth (st.log s) a)) q.1 ∙ ap value_in e

  -- what the chain's tags are
  record OnChain (s t : ℕ) : Type 0 where
    at : ℕ
    tag : tag_at st s at ≡ Some t
    late : st.lead s ≤ at
    stands : st.gone s ≤ at

  chain_at : (s t : ℕ) → Within t (chain_of st s) → OnChain s t
  chain_at s t w = let x = drop_within (st.lead s) (st.log s) t w in record { at = x.0; tag = x.2; late = x.1; stands = let d = c.led s in let q = x.1 in omega arith }

  -- the version under recycling
  recycled_at : (s t : ℕ) → recycled_of st s ≡ Some t → (st.lead s ≡ suc (st.gone s)) × (tag_at st s (st.gone s) ≡ Some t)
  recycled_at s t e = go (ℕ_discrete (st.lead s) (st.gone s))
    where
      go : Dec (st.lead s ≡ st.gone s) → (st.lead s ≡ suc (st.gone s)) × (tag_at st s (st.gone s) ≡ Some t)
      go (yes d) = absurd (let z : ◌≡◌ {A = Option ℕ} None (Some t) = sym (ap (λ (b : Bool). cond b None (tag_at st s (st.gone s))) (eq-eqb (st.lead s) (st.gone s) d)) ∙ e in cc)
      go (no n) = (let d = c.led s in omega arith, sym (ap (λ (b : Bool). cond b None (tag_at st s (st.gone s))) (ne_eqb (st.lead s) (st.gone s) n)) ∙ e)

  cond_root : (cycle : Recycling) (s y : ℕ) (b : Bool) → cond b (Some cycle.root) None ≡ Some y → cycle.root ≡ y
  cond_root cycle s y true e = same_Some cycle.root y e
  cond_root cycle s y false e = absurd (let z : ◌≡◌ {A = Option ℕ} None (Some y) = e in cc)

  -- a place in the words of the rule: a recycled version is the server's
  moved : Place → ℕ → Place
  moved (Chained s) b = cond (is_home (recycled_of st s) b) Taken (Chained s)
  moved (Stocked i) b = Stocked i
  moved Free b = Free
  moved Worn b = Worn
  moved Taken b = Taken

  abbrev place_at : ℕ → Place
  place_at b = moved (st.place b) b

  is_home_yes : (o : Option ℕ) (t b : ℕ) → o ≡ Some t → home t ≡ b → is_home o b ≡ true
  is_home_yes None t b e q = absurd cc
  is_home_yes (Some u) t b e q = eq-eqb (home u) b (let z : u ≡ t = cc in ap home z ∙ q)

  is_home_some : (o : Option ℕ) (b : ℕ) → is_home o b ≡ true → (t : ℕ) × (o ≡ Some t) × (home t ≡ b)
  is_home_some None b e = absurd (true≢false (sym e))
  is_home_some (Some t) b e = (t, refl, eqb-true (home t) b e)

  not_true : (b : Bool) → (b ≡ true → ⊥) → b ≡ false
  not_true true f = absurd (f refl)
  not_true false f = refl

  chained_here : (s t : ℕ) → Within t (chain_of st s) → place_at (home t) ≡ Chained s
  unfolding moved
  chained_here s t w =
      let x = chain_at s t w in
      let e : st.place (home t) ≡ Chained s = (c.standing s x.at t x.tag x.stands).placed in
      let off : is_home (recycled_of st s) (home t) ≡ false = not_true (is_home (recycled_of st s) (home t)) (λ q.
      let z = is_home_some (recycled_of st s) (home t) q in let y = recycled_at s z.0 z.1 in
      let o = one_buffer m st c s x.at t s (st.gone s) z.0 x.tag x.stands y.1 (omega arith) z.2 in let f = o.1 in let g = x.late in let k = y.0 in omega arith) in
      ap (λ (q : Place). moved q (home t)) e ∙ ap (λ (b : Bool). cond b Taken (Chained s)) off

  chained_back : (b s : ℕ) → place_at b ≡ Chained s → (t : ℕ) × Within t (chain_of st s) × (home t ≡ b)
  unfolding moved
  chained_back b s e = go (st.place b) refl e
    where
      test : (s1 : ℕ) (x : Bool) → is_home (recycled_of st s1) b ≡ x → st.place b ≡ Chained s1 → cond x Taken (Chained s1) ≡ Chained s → (t : ℕ) × Within t (chain_of st s) × (home t ≡ b)
      test s1 true q f g = absurd (let z : Taken ≡ Chained s = g in cc)
      test s1 false q f g =
          let same : s1 ≡ s = let z : Chained s1 ≡ Chained s = g in cc in
          let a = c.chained b s1 f in
          dite (dec_le (st.lead s1) a.0)
          (λ d. (a.1, subst (λ (j : ℕ). Within a.1 (chain_of st j)) same (on_chain m st c s1 a.0 a.1 a.2 d), a.4))
          (λ d. absurd (true≢false (sym (is_home_yes (recycled_of st s1) a.1 b (is_held m st c s1 a.0 a.1 a.2 a.3 (omega arith)) a.4) ∙ q)))

      go : (q : Place) → st.place b ≡ q → moved q b ≡ Chained s → (t : ℕ) × Within t (chain_of st s) × (home t ≡ b)
      go (Chained s1) f g = test s1 (is_home (recycled_of st s1) b) refl f g
      go (Stocked i) f g = absurd (let z : Stocked i ≡ Chained s = g in cc)
      go Free f g = absurd (let z : Free ≡ Chained s = g in cc)
      go Worn f g = absurd (let z : Worn ≡ Chained s = g in cc)
      go Taken f g = absurd (let z : Taken ≡ Chained s = g in cc)

  worn_place : (T : ServerTask) (q : Place) (g b a : ℕ) → book_of T st q g b ≡ book a IsWorn → q ≡ Worn
  worn_place T (Chained s) g b a e = go (is_home (root_in T st s) b) e
    where
      go : (x : Bool) → book g (cond x IsBound IsOut) ≡ book a IsWorn → Chained s ≡ Worn
      go true q = absurd cc
      go false q = absurd cc
  worn_place T (Stocked i) g b a e = absurd cc
  worn_place T Free g b a e = absurd cc
  worn_place T Worn g b a e = refl
  worn_place T Taken g b a e = absurd (held_out T g a IsWorn e (λ z. absurd cc) (λ z. absurd cc))

  led_place : (s y t b : ℕ) → tag_at st s (st.gone s) ≡ Some y → st.lead s ≡ suc (st.gone s) → home y ≡ b → place_at b ≡ Taken
  unfolding moved
  led_place s y t b f g q =
      let e : st.place b ≡ Chained s = ap st.place (sym q) ∙ (c.standing s (st.gone s) y f (omega arith)).placed in
      ap (λ (z : Place). moved z b) e ∙ ap (λ (z : Bool). cond z Taken (Chained s)) (is_home_yes (recycled_of st s) y b (is_held m st c s (st.gone s) y f (omega arith) (omega arith)) q)

  taken_here : (T : ServerTask) → AtStage p m st T → (b : ℕ) → held_by T ≡ Some b → place_at b ≡ Taken
  unfolding moved
  taken_here (Storing bind n) a b e = let q = same_Some (home bind.tag) b e in ap (λ (z : Place). moved z b) (ap st.place (sym q) ∙ a.place)
  taken_here (Led cycle) a b e = led_place cycle.slot cycle.root cycle.next b a.0.root a.2 (same_Some (home cycle.root) b e)
  taken_here (Both cycle) a b e = led_place cycle.slot cycle.root cycle.next b a.0.root a.2 (same_Some (home cycle.root) b e)
  taken_here (Exchanged cycle) a b e = let q = same_Some (home cycle.root) b e in ap (λ (z : Place). moved z b) (ap st.place (sym q) ∙ a.place)
  taken_here Idle a b e = absurd cc
  taken_here (Rooted bind) a b e = absurd cc
  taken_here (Waiting bind) a b e = absurd cc
  taken_here (Loaded cycle) a b e = absurd cc
  taken_here (Raised cycle) a b e = absurd cc

  -- and back: what a place says is so
  unmoved : (q : Place) (b : ℕ) (x : Place) → moved q b ≡ x → ((s : ℕ) → x ≢ Chained s) → x ≢ Taken → q ≡ x
  unfolding moved
  unmoved (Chained s) b x e n k = go (is_home (recycled_of st s) b) e
    where
      go : (z : Bool) → cond z Taken (Chained s) ≡ x → Chained s ≡ x
      go true f = absurd (k (sym f))
      go false f = f
  unmoved (Stocked i) b x e n k = e
  unmoved Free b x e n k = e
  unmoved Worn b x e n k = e
  unmoved Taken b x e n k = e

  free_now : (T : ServerTask) (g b : ℕ) → book_of T st Free g b ≡ book g IsFree
  free_now T g b = refl

  worn_now : (T : ServerTask) (g b : ℕ) → book_of T st Worn g b ≡ book g IsWorn
  worn_now T g b = refl

  held_same : (b : ℕ) → holding st.task ≡ Some b → held_by st.task ≡ Some b
  held_same b e = by_held p m st (λ T. held_by T ≡ Some b) st.task b r.whole.help.stage.here e (λ bind n q a. ap Some q) (λ cycle q a. ap Some q)

  -- the slot whose root is on its way is the task's
  not_settled : (s : ℕ) → st.lead s ≡ suc (st.gone s) → (moving st.task ≢ Some s) → ⊥
  not_settled s l n = let z = (r.whole.help.stage.settled s n).0 in omega arith

  -- the version whose slot's root is on its way is the task's version under recycling
  on_its_way : (cycle : Recycling) → moving st.task ≡ Some cycle.slot → tag_at st cycle.slot (st.gone cycle.slot) ≡ Some cycle.root → (s y : ℕ) → recycled_of st s ≡ Some y → cond (eqb cycle.slot s) (Some cycle.root) None ≡ Some y
  on_its_way cycle q e s y f = go (ℕ_discrete cycle.slot s)
    where
      go : Dec (cycle.slot ≡ s) → cond (eqb cycle.slot s) (Some cycle.root) None ≡ Some y
      go (yes d) = ap (λ (z : Bool). cond z (Some cycle.root) None) (eq-eqb cycle.slot s d) ∙ sym e ∙ ap (λ (i : ℕ). tag_at st i (st.gone i)) d ∙ (recycled_at s y f).1
      go (no n) = absurd (not_settled s (recycled_at s y f).0 (λ z. n (let x : Some cycle.slot ≡ Some s = sym q ∙ z in cc)))

  not_moving : (s y : ℕ) → recycled_of st s ≡ Some y → moving st.task ≡ None → ⊥
  not_moving s y f q = not_settled s (recycled_at s y f).0 (λ z. let x : ◌≡◌ {A = Option ℕ} None (Some s) = sym q ∙ z in cc)

  task_recycles : (T : ServerTask) → st.task ≡ T → AtStage p m st T → (s y : ℕ) → recycled_of st s ≡ Some y → recycled_by T s ≡ Some y
  task_recycles (Led cycle) e a s y f = on_its_way cycle (ap moving e) a.0.root s y f
  task_recycles (Both cycle) e a s y f = on_its_way cycle (ap moving e) a.0.root s y f
  task_recycles Idle e a s y f = absurd (not_moving s y f (ap moving e))
  task_recycles (Storing bind n) e a s y f = absurd (not_moving s y f (ap moving e))
  task_recycles (Rooted bind) e a s y f = absurd (not_moving s y f (ap moving e))
  task_recycles (Waiting bind) e a s y f = absurd (not_moving s y f (ap moving e))
  task_recycles (Loaded cycle) e a s y f = absurd (not_moving s y f (ap moving e))
  task_recycles (Raised cycle) e a s y f = absurd (not_moving s y f (ap moving e))
  task_recycles (Exchanged cycle) e a s y f = absurd (not_moving s y f (ap moving e))

  leaves_by_task : (s y : ℕ) → recycled_of st s ≡ Some y → recycled_by st.task s ≡ Some y
  leaves_by_task s y f = task_recycles st.task refl r.whole.help.stage.here s y f

  -- and the task holds its buffer
  recycled_held : (T : ServerTask) (s y : ℕ) → recycled_by T s ≡ Some y → held_by T ≡ Some (home y)
  recycled_held (Led cycle) s y e = ap (λ (z : ℕ). Some (home z)) (cond_root cycle s y (eqb cycle.slot s) e)
  recycled_held (Both cycle) s y e = ap (λ (z : ℕ). Some (home z)) (cond_root cycle s y (eqb cycle.slot s) e)
  recycled_held (Exchanged cycle) s y e = ap (λ (z : ℕ). Some (home z)) (cond_root cycle s y (eqb cycle.slot s) e)
  recycled_held Idle s y e = absurd cc
  recycled_held (Storing bind n) s y e = absurd cc
  recycled_held (Rooted bind) s y e = absurd cc
  recycled_held (Waiting bind) s y e = absurd cc
  recycled_held (Loaded cycle) s y e = absurd cc
  recycled_held (Raised cycle) s y e = absurd cc

  taken_back : (b : ℕ) → place_at b ≡ Taken → held_by st.task ≡ Some b
  unfolding moved
  taken_back b e = go (st.place b) refl e
    where
      test : (s : ℕ) (x : Bool) → is_home (recycled_of st s) b ≡ x → cond x Taken (Chained s) ≡ Taken → held_by st.task ≡ Some b
      test s true q f = let z = is_home_some (recycled_of st s) b q in recycled_held st.task s z.0 (leaves_by_task s z.0 z.1) ∙ ap (λ (y : ℕ). Some y) z.2
      test s false q f = absurd (let z : Chained s ≡ Taken = f in cc)

      go : (q : Place) → st.place b ≡ q → moved q b ≡ Taken → held_by st.task ≡ Some b
      go (Chained s) f g = test s (is_home (recycled_of st s) b) refl g
      go (Stocked i) f g = absurd (let z : Stocked i ≡ Taken = g in cc)
      go Free f g = absurd (let z : Free ≡ Taken = g in cc)
      go Worn f g = absurd (let z : Worn ≡ Taken = g in cc)
      go Taken f g = held_same b (r.whole.help.stage.holds b f)

  part_1 : BuffersInOnePlace p vs (chain_of st) st.task place_at
  unfolding moved
  part_1 = record {
    chained = chained_here;
    on_chain = chained_back;
    stocked = λ i v e. let ok = r.whole.basis.views i v e in (each_map (λ t q. ap (λ (z : Place). moved z (home t)) q.0) v.pass.stock ok.stocked, ok.apart);
    in_stock = λ b i e. r.stocks b i (unmoved (st.place b) b (Stocked i) e (λ s. λ z. absurd cc) (λ z. absurd cc));
    is_free = λ v sv b i e. let s = r.whole.serves sv.0 v sv.1 sv.2 in (gen (m.next b), s.books b i ∙ ap (λ (q : Place). book_of st.task st q (gen (m.next b)) b) (unmoved (st.place b) b Free e (λ z. λ y. absurd cc) (λ z. absurd cc)) ∙ free_now st.task (gen (m.next b)) b);
    is_worn = λ v sv b i e. let s = r.whole.serves sv.0 v sv.1 sv.2 in (gen (m.next b), s.books b i ∙ ap (λ (q : Place). book_of st.task st q (gen (m.next b)) b) (unmoved (st.place b) b Worn e (λ z. λ y. absurd cc) (λ z. absurd cc)) ∙ worn_now st.task (gen (m.next b)) b);
    free = λ v sv b g i e. let s = r.whole.serves sv.0 v sv.1 sv.2 in ap (λ (z : Place). moved z b) (free_place st.task st (st.place b) (gen (m.next b)) b g (sym (s.books b i) ∙ e)).0;
    worn = λ v sv b g i e. let s = r.whole.serves sv.0 v sv.1 sv.2 in ap (λ (z : Place). moved z b) (worn_place st.task (st.place b) (gen (m.next b)) b g (sym (s.books b i) ∙ e));
    is_taken = taken_back;
    taken = λ b e. taken_here st.task r.whole.help.stage.here b e;
  }

  holds_at : (s i t : ℕ) → tag_at st s i ≡ Some t → st.gone s ≤ i → Holds m (record { tag = t; value = value_by st t })
  holds_at s i t e g = let w = tag_there st s i t e in
      let same : value_by st t ≡ w.0.value = ap (value_by st) (sym w.2) ∙ value_at s i w.0 w.1 in
      λ j y q. let a = r.whole.basis.bodies s i w.0 w.1 g j y (ap (λ (o : Option Value). nth (content o) j) (sym same) ∙ q) in
      (ap (λ (z : ℕ). m.body (home z) j) (sym w.2) ∙ a.0, ap (λ (z : ℕ). m.fbody (home z) j) (sym w.2) ∙ a.1)

  -- the commits of a history stand in the log of their key's slot
  in_log : (e : Entry) (w : Version) → Within e h → commit_of e ≡ Some w → (s : ℕ) → st.keys s ≡ Some (entry_key e) → Within w (st.log s)
  in_log e w a b s k = subst (Within w) (sym (r.whole.basis.tale.told s (entry_key e) k)) (within_back w (st.first s) (commits_at (entry_key e) h) (within_commits h e w a b))

  committed_here : (e : Entry) (w : Version) → Within e h → commit_of e ≡ Some w → value_by st w.tag ≡ w.value
  committed_here e w a b = go (st.keys (st.slot_named (entry_key e))) refl
    where
      k : List ℕ
      k = entry_key e

      unbound : ((s : ℕ) → st.keys s ≢ Some (entry_key e)) → ⊥
      unbound f = subst (Within w) (r.whole.basis.tale.unbound (entry_key e) f).1 (within_commits h e w a b)

      go : (x : Option (List ℕ)) → st.keys (st.slot_named (entry_key e)) ≡ x → value_by st w.tag ≡ w.value
      go None q = absurd (unbound (λ s z. let f = r.whole.help.naming.found s (entry_key e) z in absurd (let y : ◌≡◌ {A = Option (List ℕ)} None (Some (entry_key e)) = sym q ∙ ap st.keys f ∙ z in cc)))
      go (Some j) q = dite (key_discrete j (entry_key e))
          (λ d. let i = within_nth w (st.log (st.slot_named (entry_key e))) (in_log e w a b (st.slot_named (entry_key e)) (q ∙ ap Some d)) in value_at (st.slot_named (entry_key e)) i.0 w i.1)
          (λ n. absurd (unbound (λ s z. let f = r.whole.help.naming.found s (entry_key e) z in n (let y : Some j ≡ Some (entry_key e) = sym q ∙ ap st.keys f ∙ z in cc))))

  -- the task's version under recycling has its content in both copies
  leaving_here : (T : ServerTask) → AtStage p m st T → (s t : ℕ) → recycled_by T s ≡ Some t → Holds m (record { tag = t; value = value_by st t })
  leaving_here (Led cycle) a s t e = subst (λ (y : ℕ). Holds m (record { tag = y; value = value_by st y })) (cond_root cycle s t (eqb cycle.slot s) e) (holds_at cycle.slot (st.gone cycle.slot) cycle.root a.0.root (omega arith))
  leaving_here (Both cycle) a s t e = subst (λ (y : ℕ). Holds m (record { tag = y; value = value_by st y })) (cond_root cycle s t (eqb cycle.slot s) e) (holds_at cycle.slot (st.gone cycle.slot) cycle.root a.0.root (omega arith))
  leaving_here (Exchanged cycle) a s t e = subst (λ (y : ℕ). Holds m (record { tag = y; value = value_by st y })) (exchanged_tag p m st cycle a ∙ cond_root cycle s t (eqb cycle.slot s) e)
      (λ j y q. a.body.2 j y (ap (λ (o : Option Value). nth (content o) j) (sym (value_at cycle.slot a.old.0 a.body.0 a.body.1)) ∙ q))
  leaving_here Idle a s t e = absurd cc
  leaving_here (Storing bind n) a s t e = absurd cc
  leaving_here (Rooted bind) a s t e = absurd cc
  leaving_here (Waiting bind) a s t e = absurd cc
  leaving_here (Loaded cycle) a s t e = absurd cc
  leaving_here (Raised cycle) a s t e = absurd cc

  part_2 : ChainsAndContents m (chain_of st) st.task (value_by st) h
  part_2 = record {
    chains = chains m st c;
    contents = λ s t w. let x = chain_at s t w in holds_at s x.at t x.tag x.stands;
    leaving = leaving_here st.task r.whole.help.stage.here;
    committed = committed_here;
  }

  -- a next word that is unlinked has no link in its generation
  top_bare : (b : ℕ) → link (m.next b) ≡ None → linked_to st (tag_of b (gen (m.next b))) ≡ None
  unfolding tag_of home age
  top_bare b e = go (tag_at st (st.slot_of (tag_of b (gen (m.next b)))) (st.rank (tag_of b (gen (m.next b))))) refl
    where
      small : gen (m.next b) < 1048576
      small = let a = r.whole.help.ranged.own b in let w = p.wear_fits in omega arith

      hm : home (tag_of b (gen (m.next b))) ≡ b
      hm = let a = small in omega arith

      ag : age (tag_of b (gen (m.next b))) ≡ gen (m.next b)
      ag = let a = small in omega arith

      no_link : (t s i : ℕ) → home t ≡ b → age t ≡ gen (m.next b) → tag_at st s i ≡ Some t → (o : Option ℕ) → tag_at st s (suc i) ≡ o → tag_at st s (suc i) ≡ None
      no_link t s i hb ab f None q = q
      no_link t s i hb ab f (Some u) q = dite (dec_le (st.gone s) i)
          (λ g. absurd (let x = (c.standing s i t f g).now in let z : ◌≡◌ {A = Option ℕ} None (Some u) = sym e ∙ ap (λ (y : ℕ). link (m.next y)) (sym hb) ∙ ap link x ∙ q in cc))
          (λ g. absurd (let x = (c.passed s i t f (omega arith)).later in let y = ap (λ (z : ℕ). gen (m.next z)) hb in omega arith))

      chosen : (t u : ℕ) → tag_at st (st.slot_of t) (st.rank t) ≡ Some u → home t ≡ b → age t ≡ gen (m.next b) → Dec (u ≡ t) → cond (eqb u t) (tag_at st (st.slot_of t) (suc (st.rank t))) None ≡ None
      chosen t u f hb ab (yes d) = ap (λ (z : Bool). cond z (tag_at st (st.slot_of t) (suc (st.rank t))) None) (eq-eqb u t d) ∙ no_link t (st.slot_of t) (st.rank t) hb ab (f ∙ ap Some d) (tag_at st (st.slot_of t) (suc (st.rank t))) refl
      chosen t u f hb ab (no n) = ap (λ (z : Bool). cond z (tag_at st (st.slot_of t) (suc (st.rank t))) None) (ne_eqb u t n)

      go : (o : Option ℕ) → tag_at st (st.slot_of (tag_of b (gen (m.next b)))) (st.rank (tag_of b (gen (m.next b)))) ≡ o → chosen_of st (tag_of b (gen (m.next b))) o ≡ None
      go None f = refl
      go (Some u) f = chosen (tag_of b (gen (m.next b))) u f hm ag (ℕ_discrete u (tag_of b (gen (m.next b))))

  top_values : (b g : ℕ) → linked_to st (tag_of b g) ≡ None → Falls (suc (g + g)) (values st b g)
  top_values b zero e = rw e (omega arith, tt)
  top_values b (suc g) e = rw e (omega arith, subst (λ (n : ℕ). Falls n (values st b g)) (let q : suc (suc (g + g)) ≡ suc g + suc g = omega arith in q) (values_fall st b g))

  rises : (b : ℕ) → Falls (suc (order (m.next b))) (values st b (gen (m.next b)))
  rises b = go (m.next b) refl
    where
      go : (n : Next) → m.next b ≡ n → Falls (suc (order n)) (values st b (gen n))
      go (word a None) e = top_values b a (ap (λ (n : Next). linked_to st (tag_of b (gen n))) (sym e) ∙ top_bare b (ap link e))
      go (word a (Some t)) e = values_fall st b a

  flushed_past : (b : ℕ) → Past m st b (m.fnext b)
  flushed_past b = (r.whole.help.ranged.below b, by_place (st.place b) refl)
    where
      at : (s i t : ℕ) → tag_at st s i ≡ Some t → st.gone s ≤ i → home t ≡ b → (x : Bool) → m.fnext b ≡ word (age t) (only x (tag_at st s (suc i))) → (o : Option ℕ) → tag_at st s (suc i) ≡ o → (link (m.fnext b) ≡ None) ⊎ ((l : Link) × IsLink st l × (home l.from ≡ b) × (age l.from ≡ gen (m.fnext b)) × (link (m.fnext b) ≡ Some l.to))
      at s i t e g q false f o k = inl (ap link f)
      at s i t e g q true f None k = inl (ap link f ∙ k)
      at s i t e g q true f (Some u) k = inr (record { slot = s; from = t; to = u }, (i, e, k), q, sym (ap gen f), ap link f ∙ k)

      bare : m.fnext b ≡ m.next b → link (m.next b) ≡ None → link (m.fnext b) ≡ None
      bare e f = ap link e ∙ f

      exchanged_link : (c1 : Recycling) → home c1.root ≡ b → IsExchanged p m st c1 → (link (m.fnext b) ≡ None) ⊎ ((l : Link) × IsLink st l × (home l.from ≡ b) × (age l.from ≡ gen (m.fnext b)) × (link (m.fnext b) ≡ Some l.to))
      exchanged_link c1 q a = inr (record { slot = c1.slot; from = c1.root; to = c1.next }, (a.old.0, a.old.2, ap (tag_at st c1.slot) a.old.1 ∙ a.root), q, sym (ap (λ (z : ℕ). gen (m.fnext z)) (sym q) ∙ ap gen a.safe), ap (λ (z : ℕ). link (m.fnext z)) (sym q) ∙ ap link a.safe)

      by_place : (q : Place) → st.place b ≡ q → (link (m.fnext b) ≡ None) ⊎ ((l : Link) × IsLink st l × (home l.from ≡ b) × (age l.from ≡ gen (m.fnext b)) × (link (m.fnext b) ≡ Some l.to))
      by_place (Chained s) e = let x = c.chained b s e in at s x.0 x.1 x.2 x.3 x.4 (ltb (suc x.0) (st.sure s)) (ap m.fnext (sym x.4) ∙ (c.standing s x.0 x.1 x.2 x.3).safe) (tag_at st s (suc x.0)) refl
      by_place (Stocked j) e = let o = c.loose b (subst Loose (sym e) tt) in inl (bare o.1 o.0)
      by_place Free e = let o = c.loose b (subst Loose (sym e) tt) in inl (bare o.1 o.0)
      by_place Worn e = let o = c.loose b (subst Loose (sym e) tt) in inl (bare o.1 o.0)
      by_place Taken e = by_held p m st (λ T. (link (m.fnext b) ≡ None) ⊎ ((l : Link) × IsLink st l × (home l.from ≡ b) × (age l.from ≡ gen (m.fnext b)) × (link (m.fnext b) ≡ Some l.to))) st.task b r.whole.help.stage.here (r.whole.help.stage.holds b e)
          (λ bind n q a. inl (ap (λ (z : ℕ). link (m.fnext z)) (sym q) ∙ ap link a.safe)) exchanged_link

  part_3 : NextWordsRise m vs
  part_3 b = record {
    values = values st b (gen (m.next b));
    falls = rises b;
    current = past_there m st c b (m.next b) (current_past m st c b);
    flushed = past_there m st c b (m.fnext b) (flushed_past b);
    seen = λ v w. let x = within_there vs v w in each_map {P = λ (q : Shown). Past m st q.buffer (word q.own q.link)} {Q = λ (q : Shown). q.buffer ≡ b → Within (word q.own q.link) (values st b (gen (m.next b)))} (λ q d e. past_there m st c b (word q.own q.link) (subst (λ (z : ℕ). Past m st z (word q.own q.link)) e d)) v.pass.words (r.whole.basis.views x.0 v x.1).knows.words;
  }

  -- how the flushed copy of a slot's root is
  abbrev FlushedRoot : ℕ → Type 0
  FlushedRoot s = RootFlushed m (chain_of st) st.task (value_by st) s

  -- the task that has stored this slot's root alone
  rooted_by : (s : ℕ) → Waits m st s → (T : ServerTask) → st.task ≡ T → AtStage p m st T → unnamed T ≡ Some s → FlushedRoot s
  rooted_by s w (Rooted bind) e a q =
      let same : bind.slot ≡ s = same_Some bind.slot s q in
      let x = tag_there st bind.slot 0 bind.tag a.0.tag in
      let lead : st.lead s ≡ 0 = let b = c.rooted s (let y = w.alone in omega arith) in let d = c.sure_most s in let y = w.alone in omega arith in
      RootFlushed.rooted bind e same w.empty
      (ap (λ (n : ℕ). tags (drop n (st.log s))) lead ∙ single (st.log s) bind.tag w.alone (ap (λ (i : ℕ). tag_at st i 0) (sym same) ∙ a.0.tag))
      (ap (value_by st) (sym x.2) ∙ value_at bind.slot 0 x.0 x.1 ∙ w.dead 0 x.0 (ap (λ (i : ℕ). nth (st.log i) 0) (sym same) ∙ x.1))
  rooted_by s w (Waiting bind) e a q = absurd (let same : bind.slot ≡ s = same_Some bind.slot s q in let z : ◌≡◌ {A = Option ℕ} None (Some bind.tag) = sym w.empty ∙ ap m.froot (sym same) ∙ a.1 in cc)
  rooted_by s w Idle e a q = absurd cc
  rooted_by s w (Storing bind n) e a q = absurd cc
  rooted_by s w (Loaded cycle) e a q = absurd cc
  rooted_by s w (Raised cycle) e a q = absurd cc
  rooted_by s w (Led cycle) e a q = absurd cc
  rooted_by s w (Both cycle) e a q = absurd cc
  rooted_by s w (Exchanged cycle) e a q = absurd cc

  waits_key : (s : ℕ) → Waits m st s → (x : Option (List ℕ)) → st.keys s ≡ x → (k : List ℕ) × (st.keys s ≡ Some k)
  waits_key s w (Some k) q = (k, q)
  waits_key s w None q = absurd (let a = r.whole.help.keyed.bare s q in let b = w.alone in omega arith)

  waits_root : (s : ℕ) → Waits m st s → FlushedRoot s
  waits_root s w =
      let k = waits_key s w (st.keys s) refl in
      let u : unnamed st.task ≡ Some s = ⊎_elim (λ a. absurd (true≢false (sym a ∙ w.unnamed))) (λ a. a) (r.whole.help.stage.names s k.0 k.1) in
      rooted_by s w st.task refl r.whole.help.stage.here u

  -- the task that has stored this slot's new root, but not its flushed copy
  led_by : (s : ℕ) → m.froot s ≡ tag_at st s (st.flead s) → st.flead s < st.lead s → (T : ServerTask) → st.task ≡ T → AtStage p m st T → moving T ≡ Some s → FlushedRoot s
  led_by s f l (Led cycle) e a q =
      let same : cycle.slot ≡ s = same_Some cycle.slot s q in
      let lead : st.lead s ≡ suc (st.gone s) = ap st.lead (sym same) ∙ a.2 ∙ ap (λ (i : ℕ). suc (st.gone i)) same in
      let flead : st.flead s ≡ st.gone s = ap st.flead (sym same) ∙ a.3 ∙ ap st.gone same in
      let root : tag_at st s (st.gone s) ≡ Some cycle.root = ap (λ (i : ℕ). tag_at st i (st.gone i)) (sym same) ∙ a.0.root in
      let next : tag_at st s (suc (st.gone s)) ≡ Some cycle.next = ap (λ (i : ℕ). tag_at st i (suc (st.gone i))) (sym same) ∙ a.0.next in
      let sure : suc (st.gone s) < st.sure s = subst (λ (i : ℕ). suc (st.gone i) < st.sure i) same a.1 in
      RootFlushed.led cycle e same (f ∙ ap (tag_at st s) flead ∙ root) (c.root s ∙ ap (tag_at st s) lead ∙ next)
      ((c.standing s (st.gone s) cycle.root root (omega arith)).safe ∙ ap (λ (b : Bool). word (age cycle.root) (only b (tag_at st s (suc (st.gone s))))) (lt-ltb (suc (st.gone s)) (st.sure s) sure) ∙ ap (word (age cycle.root)) next)
  led_by s f l (Both cycle) e a q = absurd (let same : cycle.slot ≡ s = same_Some cycle.slot s q in let y = ap st.lead (sym same) ∙ a.2 ∙ sym a.3 ∙ ap st.flead same in omega arith)
  led_by s f l Idle e a q = absurd cc
  led_by s f l (Storing bind n) e a q = absurd cc
  led_by s f l (Rooted bind) e a q = absurd cc
  led_by s f l (Waiting bind) e a q = absurd cc
  led_by s f l (Loaded cycle) e a q = absurd cc
  led_by s f l (Raised cycle) e a q = absurd cc
  led_by s f l (Exchanged cycle) e a q = absurd cc

  part_4 : LinksAndRootsFlushed m (chain_of st) st.task (value_by st)
  part_4 = record { links = flushed_links m st c; roots = λ s. ⊎_elim (λ e. go s e (ℕ_discrete (st.flead s) (st.lead s)) (task_moves s)) (waits_root s) (c.froot s) }
    where
      task_moves : (s : ℕ) → Dec (moving st.task ≡ Some s)
      task_moves s = same_option (moving st.task)
        where
          same_option : (o : Option ℕ) → Dec (o ≡ Some s)
          same_option None = no (λ z. let y : ◌≡◌ {A = Option ℕ} None (Some s) = z in cc)
          same_option (Some x) = dite (ℕ_discrete x s) (λ d. yes (ap Some d)) (λ n. no (λ z. n (same_Some x s z)))

      go : (s : ℕ) → m.froot s ≡ tag_at st s (st.flead s) → Dec (st.flead s ≡ st.lead s) → Dec (moving st.task ≡ Some s) → FlushedRoot s
      go s e (yes d) k = RootFlushed.same (e ∙ ap (tag_at st s) d ∙ sym (c.root s))
      go s e (no n) (yes k) = led_by s e (let d = c.led s in omega arith) st.task refl r.whole.help.stage.here k
      go s e (no n) (no k) = absurd (let z = r.whole.help.stage.settled s k in n (z.1 ∙ sym z.0))

  rest_word : (b g : ℕ) → Loose (st.place b) → gen (m.next b) ≡ g → AtRest m b g
  rest_word b g l e = let o = c.loose b l in let n : m.next b ≡ word g None = word_is (m.next b) g None e o.0 in (n, o.1 ∙ n)

  part_5 : StocksAtRest p m vs
  part_5 = record {
    stocks = λ v w. let x = within_there vs v w in each_map (λ t q. rest_word (home t) (age t) (subst Loose (sym q.0) tt) q.1) v.pass.stock (r.whole.basis.views x.0 v x.1).stocked;
    free = λ v sv b g i e. let s = r.whole.serves sv.0 v sv.1 sv.2 in let f = free_place st.task st (st.place b) (gen (m.next b)) b g (sym (s.books b i) ∙ e) in rest_word b g (subst Loose (sym f.0) tt) f.1;
  }

  part_6 : DurableTagsKnown m vs (chain_of st) st.task
  part_6 v w = let x = within_there vs v w in each_map (λ q d. known m st c st.task leaves_by_task q.0 q.1 d) v.pass.durable (r.whole.basis.views x.0 v x.1).knows.durable

  part_7 : TargetsStand m vs (chain_of st) st.task
  part_7 v w = let x = within_there vs v w in each_map (λ l d. target m st c st.task leaves_by_task l d) v.pass.links (r.whole.basis.views x.0 v x.1).knows.links

  part_8 : CopiesAreWhole m vs (value_by st)
  part_8 v w = let x = within_there vs v w in each_map (λ q d. ⊎_elim
      (λ f. inr (λ y e. f y (ap (λ (o : Option Value). nth (content o) q.1.place) (sym (ap (value_by st) (sym d.3) ∙ value_at q.0 d.0 d.1 d.2)) ∙ e)))
      (λ g. inl (c.passed q.0 d.0 q.1.tag (ap tag_in_version d.2 ∙ ap Some d.3) g).later) d.4) v.pass.copied (r.whole.basis.views x.0 v x.1).knows.copied

  part_9 : ShortcutsKnown m (chain_of st) st.task
  part_9 s t e = known m st c st.task leaves_by_task s t (r.whole.help.short s t e)

  binding_waits : (bind : NewBinding) → IsWaiting m st bind → (moving st.task ≢ Some bind.slot) → Each (λ (q : ℕ × List ℕ). (Within q st.bindings → ⊥) × ((u : ℕ) × (chain_of st q.0 ≡ u ∷ []) × (value_by st u ≡ None))) ((bind.slot, bind.key) ∷ [])
  binding_waits bind a n =
      let s : ℕ = bind.slot in
      let k : List ℕ = bind.key in
      let t : ℕ = bind.tag in
      let z = r.whole.help.stage.settled s n in
      let lead : st.lead s ≡ 0 = z.0 ∙ a.gone in
      let w = tag_there st s 0 t a.tag in (
        (
          (λ q. true≢false (sym (r.whole.basis.bound s k q).1 ∙ a.unnamed)),
          (
            t,
            ap (λ (i : ℕ). tags (drop i (st.log s))) lead ∙ single (st.log s) t a.alone a.tag,
            ap (value_by st) (sym w.2) ∙ value_at s 0 w.0 w.1 ∙ r.whole.help.naming.waiting s k a.key a.unnamed 0 w.0 w.1,
          ),
        ),
        tt,
      )

  waiting_here : (T : ServerTask) → st.task ≡ T → AtStage p m st T → Each (λ (q : ℕ × List ℕ). (Within q st.bindings → ⊥) × ((u : ℕ) × (chain_of st q.0 ≡ u ∷ []) × (value_by st u ≡ None))) (waiting_name T)
  waiting_here (Rooted bind) e a = binding_waits bind a.0 (λ q. absurd (let z : ◌≡◌ {A = Option ℕ} None (Some bind.slot) = ap moving (sym e) ∙ q in cc))
  waiting_here (Waiting bind) e a = binding_waits bind a.0 (λ q. absurd (let z : ◌≡◌ {A = Option ℕ} None (Some bind.slot) = ap moving (sym e) ∙ q in cc))
  waiting_here Idle e a = tt
  waiting_here (Storing bind n) e a = tt
  waiting_here (Loaded cycle) e a = tt
  waiting_here (Raised cycle) e a = tt
  waiting_here (Led cycle) e a = tt
  waiting_here (Both cycle) e a = tt
  waiting_here (Exchanged cycle) e a = tt

  part_10 : NamesAndCount p m vs (chain_of st) st.task (value_by st) st.bindings
  part_10 = record {
    count = r.whole.help.naming.counted;
    slots_once = r.whole.help.naming.once;
    keys_once = λ i j s s1 k e f. let a = bound_at i s k e in let b = bound_at j s1 k f in r.whole.help.naming.once i j s k k e (f ∙ ap (λ (x : ℕ). Some (x, k)) (r.whole.basis.keyed s1 s k b a));
    few = let a = few_bindings p.slots st.bindings r.whole.help.naming.once (λ q w. r.whole.help.keyed.slots q.0 q.1 (r.whole.basis.bound q.0 q.1 w).0) in let b = r.whole.help.naming.counted in omega arith;
    directory = λ v sv. (r.whole.serves sv.0 v sv.1 sv.2).directory;
    names = λ v w. let x = within_there vs v w in (r.whole.basis.views x.0 v x.1).named.names;
    added = λ v w. let x = within_there vs v w in (r.whole.basis.views x.0 v x.1).named.added;
    most = λ v w. let x = within_there vs v w in (r.whole.basis.views x.0 v x.1).named.most;
    waiting = waiting_here st.task refl r.whole.help.stage.here;
  }
    where
      bound_at : (i s : ℕ) (k : List ℕ) → nth st.bindings i ≡ Some (s, k) → st.keys s ≡ Some k
      bound_at i s k e = (r.whole.basis.bound s k (nth_among st.bindings i (s, k) e)).0

  map_bound : (s : ℕ) (k : List ℕ) → st.keys s ≡ Some k → leads (shows first) h k ≡ tail_pair (value_by st) (chain_of st s)
  map_bound s k e =
      let f = r.whole.help.keyed.filled s k e in
      let d = c.rooted s f in let n = c.sure_most s in
      leads_commits (shows first) h k ∙ ap (λ (y : Option Held). ends y (commits_at k h)) (sym (r.whole.basis.tale.began s k e)) ∙ sym (ends_more None (st.first s) (commits_at k h)) ∙ ap (ends None) (sym (r.whole.basis.tale.told s k e))
      ∙ sym (tail_of (value_by st) (st.log s) (st.lead s) (omega arith) (λ i w q. value_at s i w q))

  map_unbound : (k : List ℕ) → ((s : ℕ) → st.keys s ≢ Some k) → leads (shows first) h k ≡ None
  map_unbound k f = let u = r.whole.basis.tale.unbound k f in leads_commits (shows first) h k ∙ ap (ends (get first k)) u.1 ∙ u.0

  not_owned : (i t u : ℕ) → Spent m st t → Owned m st i u → u ≡ t → ⊥
  not_owned i t u sp o e = ⊎_elim {C = ⊥} (λ a. let x = o.1 in let y = ap (λ (z : ℕ). gen (m.next (home z))) e in let w = ap age e in omega arith)
      (λ a. let z : Stocked i ≡ Chained a.0 = sym o.0 ∙ ap (λ (y : ℕ). st.place (home y)) e ∙ a.1 in cc) sp

  part_11 : HistoryAndMap p first used m vs (chain_of st) (value_by st) st.keys h
  part_11 = let l = legal_history first used h r.whole.basis.tale.legal in record {
    legal = r.whole.basis.tale.legal;
    keys_are = record {
      rooted = λ s t e. key_here s t (sym (c.root s) ∙ e) (st.keys s) refl;
      bound = λ s k e. root_here s k e (m.root s) refl;
      valid = r.whole.help.keyed.valid;
      spelled = r.whole.help.keyed.current;
      once = r.whole.basis.keyed;
    };
    map = record { map = l.0; leads = l.1; bound = λ s k e. ap (λ (f : Map). f k) l.2 ∙ map_bound s k e; unbound = λ k f. ap (λ (g : Map). g k) l.2 ∙ map_unbound k f };
    old = each_map (λ t d. let b = r.whole.help.ranged.below (home t) in let a = d.1 in omega arith) (used_by used h) r.whole.safe;
    unstocked = λ v w. let x = within_there vs v w in each_map (λ t sp q. not_stocked x.0 t sp v.pass.stock (r.whole.basis.views x.0 v x.1).stocked q) (used_by used h) r.whole.basis.spent;
    unfree = λ v sv. let s = r.whole.serves sv.0 v sv.1 sv.2 in each_map (λ t sp i e. let f = free_place st.task st (st.place (home t)) (gen (m.next (home t))) (home t) (age t) (sym (s.books (home t) i) ∙ e) in
        ⊎_elim {C = ⊥} (λ a. let b = f.1 in omega arith) (λ a. let z : Free ≡ Chained a.0 = sym f.0 ∙ a.1 in cc) sp) (used_by used h) r.whole.basis.spent;
  }
    where
      key_here : (s t : ℕ) → tag_at st s (st.lead s) ≡ Some t → (x : Option (List ℕ)) → st.keys s ≡ x → (k : List ℕ) × (st.keys s ≡ Some k)
      key_here s t e (Some k) q = (k, q)
      key_here s t e None q = absurd (let a = r.whole.help.keyed.bare s q in let b = tag_within st s (st.lead s) t e in omega arith)

      root_here : (s : ℕ) (k : List ℕ) → st.keys s ≡ Some k → (o : Option ℕ) → m.root s ≡ o → (t : ℕ) × (m.root s ≡ Some t)
      root_here s k e (Some t) q = (t, q)
      root_here s k e None q = absurd (let a = tag_past st s (st.lead s) (sym (c.root s) ∙ q) in let b = c.rooted s (r.whole.help.keyed.filled s k e) in let d = c.sure_most s in omega arith)

      not_stocked : (i t : ℕ) → Spent m st t → (us : List ℕ) → Each (Owned m st i) us → Within t us → ⊥
      not_stocked i t sp us o w = (not_owned i t t sp (each_within (Owned m st i) t us o w) refl)

  part_12 : ViewsAndHistory vs h
  part_12 = record {
    longest = let a = r.whole.basis.longest in (a.1, nth_among vs a.0 a.1 a.2, a.3);
    begins = λ v w. let x = within_there vs v w in (r.whole.basis.views x.0 v x.1).history;
    calls = λ v w. let x = within_there vs v w in (r.whole.basis.views x.0 v x.1).calls;
    numbers = r.whole.basis.numbered;
    made = λ y sv v w n e. let x = within_there vs v w in r.whole.made sv.0 x.0 n y v sv.1 x.1 sv.2 e;
    entered = λ y sv. r.whole.entered sv.0 y sv.1 sv.2;
  }

  -- the rule
  pub rule_holds : Rule p first used ws vs h
  rule_holds = record {
    chain = chain_of st;
    value = value_by st;
    place = place_at;
    bindings = st.bindings;
    keys = st.keys;
    task = st.task;
    task_is = λ v sv. (r.whole.serves sv.0 v sv.1 sv.2).task_is;
    one_run = λ v w. let x = within_there vs v w in r.same x.0 v x.1;
    buffers_in_one_place = part_1;
    chains_and_contents = part_2;
    next_words_rise = part_3;
    links_and_roots_flushed = part_4;
    stocks_at_rest = part_5;
    durable_tags_known = part_6;
    targets_stand = part_7;
    copies_are_whole = part_8;
    shortcuts_known = part_9;
    names_and_count = part_10;
    history_and_map = part_11;
    views_and_history = part_12;
    story = st;
    helped = r;
  }
