-- The law of any deciding exchange (put, delete, swap), over words, views and history.
use Rattle.std.proofs.Common.{◌≡◌, ℕ, suc, ◌≤◌, ◌≢◌, ◌⊎◌, List, [], ◌∷◌, ◌++◌, length, append_assoc, append-nil, Bool, true, false, cond, eqb, leb, refl, sym, ap, ◌∙◌, inl, inr, ⊎_elim, arith, subst, eq-eqb, ne_eqb, true≢false}
use native.Mathlib.Decide.{ℕ_discrete}
use Rattle.std.specs.Prelude.{Option, Some, None}
use Rattle.std.proofs.lemmas.Bool.Decides.{nat_tests}
use Rattle.clover_words.specs.Tag.{home, age}
use Rattle.clover_map.specs.declared.bytes.Value.{Value}
use Rattle.clover_map.specs.declared.call.Call.{Call}
use Rattle.clover_map.specs.declared.call.Reply.{Reply}
use Rattle.clover_map.specs.declared.call.Entry.{Entry}
use Rattle.clover_map.specs.History.{key_of}
use Rattle.clover_map.proofs.Parts.{own_push, own_push_other}
use Rattle.clover_map.specs.Tagged.{Tagged}
use Rattle.clover_map.specs.Tags.{IsFresh}
use Rattle.std.specs.List.{cons_option}
use Rattle.clover_rule.specs.Changes.{linked_mem, linked_story}
use Rattle.std.specs.Str.{bytes_eq}
use Rattle.clover_map.specs.Legal.{used_by}
use Rattle.clover_rule.specs.History.{Version, commits_at, entry_key, commit_of, lost_in, committed}
use Rattle.clover_rule.specs.Knowing.{MayLink, link_entry, link_view}
use Rattle.clover_rule.specs.Lists.{Each, nth, Within}
use Rattle.clover_rule.specs.Memory.{word, gen, Mem}
use Rattle.clover_rule.specs.Story.{Chained, Stocked, Story, tag_in_version, tag_at, Core, Tale, Durable, unsure}
use Rattle.clover_rule.specs.Views.{Holds, Stands, IsLink, Past, Owned, Apart, OwnCalls, ViewOk, Spent, Basis, renewed, without, Numbered}
use Rattle.clover_rule.specs.declared.view.Content.{Content}
use Rattle.clover_rule.specs.declared.view.Role.{Role}
use Rattle.clover_rule.specs.declared.view.Role.TheVariants.{Client}
use Rattle.clover_rule.specs.declared.view.View.{View}
use Rattle.clover_rule.proofs.KeyMaps.{leads, shows}
use Rattle.clover_rule.proofs.TaggedMaps.{Permits, new_some, fresh_all}
use Rattle.clover_rule.proofs.Tools.{upd_same, upd_else, nth_within, nth_snoc, nth_front}
use Rattle.clover_rule.proofs.Standings.{same_tag}
use Rattle.clover_rule.proofs.Keys.{eq_key, ne_key}
use Rattle.clover_rule.proofs.Histories.{legal_snoc, commits_snoc, commits_first}
use Rattle.clover_rule.proofs.Linking.{CanLink, link_core, u_last, u_sure, gens, u_stands, tag_else, tag_new}
use Rattle.clover_rule.proofs.Snocs.{unread_snoc, fresh_commit, within_nth, within_commits, within_back, each_used}
use Rattle.clover_rule.proofs.Steps.{each_map, each_within, prefix_self, within_prefix, Grows, Leaves, view_kept, nth_set, set_here, link_kept, durable_kept, past_kept, copied_kept, role_was}

version_kept : (st : Story) (s : ℕ) (w : Version) (s' i : ℕ) (x : Version) → nth (st.log s') i ≡ Some x → nth ((linked_story st s w).log s') i ≡ Some x
version_kept st s w s' i x e = go (ℕ_discrete s' s)
  where
    go : Dec (s' ≡ s) → nth ((linked_story st s w).log s') i ≡ Some x
    go (yes d) = ap (λ (ws : List Version). nth ws i) (ap (linked_story st s w).log d ∙ upd_same st.log s (st.log s ++ w ∷ [])) ∙ nth_front (st.log s) w i (let f : nth (st.log s) i ≡ Some x = ap (λ (j : ℕ). nth (st.log j) i) (sym d) ∙ e in let q = nth_within (st.log s) i x f in (λ z. omega arith)) ∙ ap (λ (j : ℕ). nth (st.log j) i) (sym d) ∙ e
    go (no n) = ap (λ (ws : List Version). nth ws i) (upd_else st.log s s' (st.log s ++ w ∷ []) n) ∙ e

module _ (m0 : Tagged) (used : List ℕ) (m : Mem) (vs : List View) (st : Story) (h : List Entry) (r : Basis m0 used m vs st h)
    (id : ℕ) (v : View) (at : nth vs id ≡ Some v) (n s : ℕ) (k : List ℕ) (u t : ℕ) (y : Option Value) (call : Call) (reply : Reply) (rest : List ℕ) (p : MayLink v n s k u t y rest) (nm : key_of call ≡ k) (cm : committed call reply ≡ Some (record { tag = t; value = y })) (does : IsFresh (used_by used h) t → Permits (leads (shows m0) h k) (used_by used h) call reply) (found : m.next (home u) ≡ word (age u) None) where
  abbrev w : Version
  w = record { tag = t; value = y }

  abbrev e : Entry
  e = link_entry v n call reply

  abbrev st' : Story
  st' = linked_story st s w

  abbrev m' : Mem
  m' = linked_mem m u t

  abbrev h' : List Entry
  h' = h ++ e ∷ []

  abbrev v' : View
  v' = link_view v h n s u t call reply rest

  ok : ViewOk m st h id v
  ok = r.views id v at

  pub tail_durable : Durable st s u
  tail_durable = each_within (λ (q : ℕ × ℕ). Durable st q.0 q.1) (s, u) v.pass.durable ok.knows.durable p.tail

  abbrev place_of : ℕ
  place_of = tail_durable.0

  pub slot_bound : (st.keys s ≡ Some k) × (st.named s ≡ true)
  slot_bound = r.bound s k (subst (Within (s, k)) (sym ok.named.names.1) (within_prefix (s, k) v.pass.names ok.named.names.0 p.name))

  pub owned : Owned m st id t
  owned = (subst (Each (Owned m st id)) p.stock ok.stocked).0

  pub can : CanLink m st s u place_of id w
  can = record { tail = tail_durable.1; durable = tail_durable.2; named = slot_bound.1; found = found; stocked = owned.0; aged = owned.1 }

  core' : Core m' st'
  core' = link_core m st s u place_of id w r.core can

  last : length (st.log s) ≡ suc place_of
  last = u_last m st s u place_of id w r.core can

  sure_all : st.sure s ≡ suc place_of
  sure_all = u_sure m st s u place_of id w r.core can

  fresh : IsFresh (used_by used h) t
  fresh = fresh_all (used_by used h) t (each_map (λ y d q. ⊎_elim (λ a. let b = owned.1 in let f1 = ap age q in let f2 = ap gen (ap m.next (ap home q)) in absurd (omega arith)) (λ a. absurd (cc (ap st.place (ap home q), a.1, owned.0))) d) (used_by used h) r.spent)

  pub grows : Grows m st h m' st' h'
  grows = record {
    versions = version_kept st s w;
    sure = λ j. omega arith;
    gone = λ j. omega arith;
    gens = λ b. let q = gens m st s u place_of id w r.core can b in omega arith;
    names = prefix_self st.bindings;
    count = omega arith;
    history = (e ∷ [], refl);
  }

  leaves : (j b : ℕ) → (b ≢ home t) → st.place b ≡ Stocked j → Leaves m st m' st' j b
  leaves j b d q = record {
    place = upd_else st.place (home t) b (Chained s) d ∙ q;
    next = upd_else m.next (home u) b (word (age u) (Some t)) (λ z. let c = (r.core.standing s place_of u tail_durable.1 (u_stands m st s u place_of id w r.core can)).placed in absurd (cc (ap st.place z, c, q)));
    body = λ k. refl;
    fbody = λ k. refl;
  }

  new_tag : tag_at st' s (suc place_of) ≡ Some t
  new_tag = ap (tag_at st' s) (sym last) ∙ tag_new st s w

  -- a version committed in the history stands at a place before the new one
  committed_at : (x1 : Entry) (y : Version) → Within x1 h → commit_of x1 ≡ Some y → entry_key x1 ≡ k → (unsure st' y.tag ≡ false)
  committed_at x1 y in_h c q =
      let a : Within y (commits_at k h) = subst (λ (j : List ℕ). Within y (commits_at j h)) q (within_commits h x1 y in_h c) in
      let b : Within y (st.log s) = subst (Within y) (sym (r.tale.told s k slot_bound.0)) (within_back y (st.first s) (commits_at k h) a) in
      let f = within_nth y (st.log s) b in
      let g = r.core.spotted s f.0 y.tag (ap tag_in_version f.1) in
      let d : y.tag ≢ t = fresh_commit used h t fresh x1 y in_h c in
      let g0 : st'.slot_of y.tag ≡ s = upd_else st.slot_of t y.tag s d ∙ g.0 in
      let g1 : st'.rank y.tag ≡ f.0 = upd_else st.rank t y.tag (length (st.log s)) d ∙ g.1 in
      let z = nth_within (st.log s) f.0 y f.1 in
      let z2 = last in let z3 = sure_all in
      let test : leb (st.sure s) f.0 ≡ false = grind (arith, nat_tests) in
      rw (g0, g1) test

  unread_after : (x1 : Entry) → Within x1 h → lost_in (unsure st') (commit_of x1) ≡ true → (lost_in (unsure st) (commit_of x1) ≡ true) × (k ≢ entry_key x1)
  unread_after x1 in_h = go (commit_of x1) refl
    where
      go : (o : Option Version) → commit_of x1 ≡ o → lost_in (unsure st') o ≡ true → (lost_in (unsure st) o ≡ true) × (k ≢ entry_key x1)
      go None c q = absurd (true≢false (sym q))
      go (Some y) c q = let d : y.tag ≢ t = fresh_commit used h t fresh x1 y in_h c in (
        sym (ap (λ (a : ℕ). leb (st.sure a) (st'.rank y.tag)) (upd_else st.slot_of t y.tag s d) ∙ ap (λ (a : ℕ). leb (st.sure (st.slot_of y.tag)) a) (upd_else st.rank t y.tag (length (st.log s)) d)) ∙ q,
        λ f. true≢false (sym q ∙ committed_at x1 y in_h c (sym f)),
      )

  own_commit : commits_at k (e ∷ []) ≡ w ∷ []
  own_commit = commits_first k e [] ∙ ap (λ (j : List ℕ). cond (bytes_eq j k) (cons_option (committed call reply) []) []) nm ∙ ap (λ (o : Option Version). cond (bytes_eq k k) (cons_option o []) []) cm ∙ ap (λ (b : Bool). cond b (w ∷ []) []) (eq_key k k refl)

  else_commit : (k1 : List ℕ) → k ≢ k1 → commits_at k1 (e ∷ []) ≡ []
  else_commit k1 d = commits_first k1 e [] ∙ ap (λ (j : List ℕ). cond (bytes_eq j k1) (cons_option (committed call reply) []) []) nm ∙ ap (λ (b : Bool). cond b (cons_option (committed call reply) []) []) (ne_key k k1 d)

  told' : (s1 : ℕ) (k1 : List ℕ) → st.keys s1 ≡ Some k1 → st'.log s1 ≡ st.first s1 ++ commits_at k1 h'
  told' s1 k1 q = go (ℕ_discrete s1 s)
    where
      go : Dec (s1 ≡ s) → st'.log s1 ≡ st.first s1 ++ commits_at k1 h'
      go (yes d) = let f : k1 ≡ k = cc (q, slot_bound.0, ap st.keys d) in
          rw (d, f) (upd_same st.log s (st.log s ++ w ∷ []) ∙ ap (λ (ws : List Version). ws ++ w ∷ []) (r.tale.told s k slot_bound.0) ∙ append_assoc (st.first s) (commits_at k h) (w ∷ [])
          ∙ ap (λ (ws : List Version). st.first s ++ ws) (sym (commits_snoc k h e ∙ ap (λ (ws : List Version). commits_at k h ++ ws) own_commit)))
      go (no d) = let f : k ≢ k1 = λ z. d (r.keyed s1 s k1 q (slot_bound.0 ∙ ap Some z)) in
          upd_else st.log s s1 (st.log s ++ w ∷ []) d ∙ r.tale.told s1 k1 q ∙ ap (λ (ws : List Version). st.first s1 ++ ws) (sym (commits_snoc k1 h e ∙ ap (λ (ws : List Version). commits_at k1 h ++ ws) (else_commit k1 f) ∙ append-nil (commits_at k1 h)))

  tale' : Tale st' m0 used h'
  tale' = record {
    legal = legal_snoc m0 used h e r.tale.legal (subst (λ (j : List ℕ). Permits (leads (shows m0) h j) (used_by used h) call reply) (sym nm) (does fresh));
    told = told';
    began = r.tale.began;
    unread = unread_snoc (unsure st) (unsure st') h e r.tale.unread (λ x1 a b. let z = unread_after x1 a b in (z.0, λ q. z.1 (sym nm ∙ q)));
    settled = r.tale.settled;
    unbound = λ k1 f. let z = r.tale.unbound k1 f in (z.0, commits_snoc k1 h e ∙ ap (λ (ws : List Version). commits_at k1 h ++ ws) (else_commit k1 (λ q. f s (slot_bound.0 ∙ ap Some q))) ∙ append-nil (commits_at k1 h) ∙ z.1);
  }

  holds_new : Holds m' w
  holds_new j y1 q = let a = p.stored j y1 q in (
    (each_within (λ (c : Content). Owned m st id c.tag × (m.body (home c.tag) c.place ≡ c.word)) (record { tag = t; place = j; word = y1 }) v.pass.written ok.written a.0).1,
    (each_within (λ (c : Content). Owned m st id c.tag × (m.fbody (home c.tag) c.place ≡ c.word)) (record { tag = t; place = j; word = y1 }) v.pass.flushed ok.flushed a.1).1,
  )

  bodies' : (s1 i1 : ℕ) (w1 : Version) → Stands st' s1 i1 w1 → st.gone s1 ≤ i1 → Holds m' w1
  bodies' s1 i1 w1 q g = go (ℕ_discrete s1 s)
    where
      go : Dec (s1 ≡ s) → Holds m' w1
      go (no d) = r.bodies s1 i1 w1 (ap (λ (ws : List Version). nth ws i1) (sym (upd_else st.log s s1 (st.log s ++ w ∷ []) d)) ∙ q) g
      go (yes d) = ⊎_elim (λ a. r.bodies s1 i1 w1 (ap (λ (a : ℕ). nth (st.log a) i1) d ∙ a) g) (λ a. subst (Holds m') a.1 holds_new) (nth_snoc (st.log s) w w1 i1 (ap (λ (ws : List Version). nth ws i1) (sym (ap st'.log d ∙ upd_same st.log s (st.log s ++ w ∷ []))) ∙ q))

  gens' : (b : ℕ) → gen (m'.next b) ≡ gen (m.next b)
  gens' = gens m st s u place_of id w r.core can

  spent_kept : (y : ℕ) → Spent m st y → Spent m' st' y
  spent_kept y (inl a) = inl (rw (gens' (home y)) a)
  spent_kept y (inr a) = inr (a.0, upd_else st.place (home t) (home y) (Chained s) (λ q. absurd (cc (ap st.place q, a.1, owned.0))) ∙ a.1, a.2 ∙ sym (gens' (home y)))

  spent_new : Spent m' st' t
  spent_new = inr (s, upd_same st.place (home t) (Chained s), sym (gens' (home t) ∙ owned.1))

  spent' : Each (Spent m' st') (used_by used h')
  spent' = each_used (Spent m' st') used h e (each_map spent_kept (used_by used h) r.spent) (subst (Each (Spent m' st')) (sym (new_some call reply w cm)) (spent_new, tt))

  parts_apart : Each (λ (y : ℕ). home y ≢ home t) rest × Apart rest
  parts_apart = subst Apart p.stock ok.apart

  -- what the seat owns beside the linked tag
  owned_else : (y : ℕ) → home y ≢ home t → Owned m st id y → Owned m' st' id y
  owned_else y d o = let f = leaves id (home y) d o.0 in (f.place, ap gen f.next ∙ o.1)

  owned_rest : (ys : List ℕ) → Each (λ (y : ℕ). home y ≢ home t) ys → Each (Owned m st id) ys → Each (Owned m' st' id) ys
  owned_rest [] a b = tt
  owned_rest (y ∷ ys) a b = (owned_else y a.0 b.0, owned_rest ys a.1 b.1)

  not_home : (y : ℕ) → y ≢ t → Owned m st id y → home y ≢ home t
  not_home y d o q = d (same_tag y t q (sym o.1 ∙ ap gen (ap m.next q) ∙ owned.1))

  contents' : (f : ℕ → ℕ → ℕ) (cs : List Content) → Each (λ (c : Content). Owned m st id c.tag × (f (home c.tag) c.place ≡ c.word)) cs → Each (λ (c : Content). Owned m' st' id c.tag × (f (home c.tag) c.place ≡ c.word)) (without t cs)
  contents' f [] a = tt
  contents' f (c ∷ cs) a = go (ℕ_discrete c.tag t) (contents' f cs a.1)
    where
      go : Dec (c.tag ≡ t) → Each (λ (c : Content). Owned m' st' id c.tag × (f (home c.tag) c.place ≡ c.word)) (without t cs) → Each (λ (c : Content). Owned m' st' id c.tag × (f (home c.tag) c.place ≡ c.word)) (cond (eqb c.tag t) (without t cs) (c ∷ without t cs))
      go (yes q) b = rw (eq-eqb c.tag t q) b
      go (no q) b = rw (ne_eqb c.tag t q) ((owned_else c.tag (not_home c.tag q a.0.0) a.0.0, a.0.1), b)

  link_now : IsLink st' (record { slot = s; from = u; to = t })
  link_now = (place_of, tag_else st s w s place_of (λ q. let z = last in (λ f. omega arith)) ∙ tail_durable.1, new_tag)

  word_now : Past m' st' (home u) (word (age u) (Some t))
  word_now = (let a = gens' (home u) in let b = ap gen found in omega arith, inr (record { slot = s; from = u; to = t }, link_now, refl, refl, refl))

  own_new_calls : OwnCalls v.pass.role v.pass.calls h → OwnCalls v.pass.role (v.pass.calls ++ e ∷ []) h'
  own_new_calls = subst (λ (o : Role). OwnCalls o v.pass.calls h → OwnCalls o (v.pass.calls ++ e ∷ []) h') (sym p.client) (λ q. ap (λ (xs : List Entry). xs ++ e ∷ []) q ∙ sym (own_push h e))

  new_ok : ViewOk m' st' h' id v'
  new_ok = record {
    stocked = owned_rest rest parts_apart.0 (subst (Each (Owned m st id)) p.stock ok.stocked).1;
    apart = parts_apart.1;
    knows = record { durable = each_map (λ q d. durable_kept m st h m' st' h' grows q.0 q.1 d) v.pass.durable ok.knows.durable; links = (link_now, each_map (link_kept m st h m' st' h' grows) v.pass.links ok.knows.links); words = (word_now, each_map (λ q d. past_kept m st h m' st' h' grows q.buffer (word q.own q.link) d) v.pass.words ok.knows.words); copied = each_map (copied_kept m st h m' st' h' grows) v.pass.copied ok.knows.copied };
    written = contents' m.body v.pass.written ok.written;
    flushed = contents' m.fbody v.pass.flushed ok.flushed;
    named = ok.named;
    history = prefix_self h';
    calls = own_new_calls ok.calls;
  }

  views' : (i : ℕ) (v1 : View) → nth (renewed vs id v') i ≡ Some v1 → ViewOk m' st' h' i v1
  views' i v1 q = go (nth_set vs id i v' v1 q)
    where
      go : ((i ≡ id) × (v' ≡ v1)) ⊎ ((i ≢ id) × (nth vs i ≡ Some v1)) → ViewOk m' st' h' i v1
      go (inl a) = rw (a.0, ← a.1) new_ok
      go (inr a) = view_kept m st h m' st' h' grows i v1 (λ b o. leaves i b (λ f. let g = ap st.place f in absurd (a.0 (cc (g, o, owned.0)))) o)
          (λ c f. own_push_other h e c (λ g. a.0 (r.numbered i id n v1 v a.1 at (f ∙ ap Client (sym g)) p.client))) (r.views i v1 a.1)

  numbered' : Numbered (renewed vs id v')
  numbered' i j c a b qa qb ra rb = let x = role_was vs id v v' at refl i a qa in let y = role_was vs id v v' at refl j b qb in r.numbered i j c x.0 y.0 x.1 y.1 (x.2 ∙ ra) (y.2 ∙ rb)

  pub rule' : Basis m0 used m' (renewed vs id v') st' h'
  rule' = record {
    core = core';
    tale = tale';
    bodies = bodies';
    spent = spent';
    bound = r.bound;
    keyed = r.keyed;
    views = views';
    numbered = numbered';
    longest = (id, v', set_here vs id v' v at, refl);
  }
