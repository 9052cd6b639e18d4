-- A binding's store of the root, on the core facts.
use Rattle.std.proofs.Common.{◌≡◌, ℕ, suc, ◌<◌, ◌≤◌, ◌≢◌, List, [], ◌∷◌, ◌++◌, length, length-append, false, ltb, sym, ap, ◌∙◌, inl, inr, ⊎_elim, arith, subst}
use native.Mathlib.Decide.{ℕ_discrete, dec_le}
use mathlib.Core.Logic.{dite}
use Rattle.std.specs.Prelude.{Option, Some, None}
use Rattle.clover_words.specs.Tag.{home, age}
use Rattle.clover_rule.specs.Changes.{linked_story}
use Rattle.clover_rule.specs.History.{Version}
use Rattle.clover_rule.specs.Lists.{nth, upd}
use Rattle.clover_rule.specs.Memory.{word, gen, Mem}
use Rattle.clover_rule.specs.Story.{Chained, Taken, Loose, Story, tag_at, only, Standing, Core, Passed, Waits}
use Rattle.clover_rule.proofs.Tools.{upd_same, upd_else, nth_snoc, nth_within}
use Rattle.clover_rule.proofs.Standings.{tag_within, only_none}
use Rattle.clover_rule.proofs.Linking.{Pushed, before, new, pushed, tag_else, tag_new, tag_beyond, length_linked}

pub record CanBind (m : Mem) (st : Story) (s : ℕ) (w : Version) : Type 0 where
  pub empty : length (st.log s) ≡ 0
  pub unrooted : m.froot s ≡ None
  pub unnamed : st.named s ≡ false
  pub dead : w.value ≡ None
  pub held : st.place (home w.tag) ≡ Taken
  pub now : m.next (home w.tag) ≡ word (age w.tag) None
  pub safe : m.fnext (home w.tag) ≡ word (age w.tag) None

module _ (m : Mem) (st : Story) (s : ℕ) (w : Version) (c : Core m st) (l : CanBind m st s w) where
  abbrev pub bound_mem : Mem
  bound_mem = record m { root = upd m.root s (Some w.tag) }

  abbrev pub bound_story : Story
  bound_story = record (linked_story st s w) { sure = upd st.sure s 1; gone = upd st.gone s 0; lead = upd st.lead s 0; flead = upd st.flead s 0 }

  -- what holds of each slot: it is the bound one, or as before
  pub record Case (s' : ℕ) : Type 0 where
    pub len : length (bound_story.log s') ≡ length (st.log s')
    pub sure : bound_story.sure s' ≡ st.sure s'
    pub gone : bound_story.gone s' ≡ st.gone s'
    pub lead : bound_story.lead s' ≡ st.lead s'
    pub flead : bound_story.flead s' ≡ st.flead s'
    pub tags : (i : ℕ) → tag_at bound_story s' i ≡ tag_at st s' i

  pub else_case : (s' : ℕ) → s' ≢ s → Case s'
  else_case s' n = record {
    len = ap length (upd_else st.log s s' (st.log s ++ w ∷ []) n);
    sure = upd_else st.sure s s' 1 n;
    gone = upd_else st.gone s s' 0 n;
    lead = upd_else st.lead s s' 0 n;
    flead = upd_else st.flead s s' 0 n;
    tags = λ i. tag_else st s w s' i (λ p. absurd (n p));
  }

  pub here_tag : tag_at bound_story s 0 ≡ Some w.tag
  here_tag = ap (tag_at (linked_story st s w) s) (sym l.empty) ∙ tag_new st s w

  pub here_only : (i t : ℕ) → tag_at bound_story s i ≡ Some t → (i ≡ 0) × (t ≡ w.tag)
  here_only i t e = go (pushed st s w s i t e)
    where
      go : Pushed st s w s i t → (i ≡ 0) × (t ≡ w.tag)
      go (before b n) = let q = tag_within st s i t b in let z = l.empty in absurd (omega arith)
      go (new p q r) = (q ∙ l.empty, r)

  pub here_sure : bound_story.sure s ≡ 1
  here_sure = upd_same st.sure s 1

  -- the own tag stands nowhere
  fresh : (s' i : ℕ) → tag_at st s' i ≢ Some w.tag
  fresh s' i e = dite (dec_le (st.gone s') i) (λ g. absurd (cc ((c.standing s' i w.tag e g).placed, l.held))) (λ g. let q = (c.passed s' i w.tag e (omega arith)).later in let z = ap gen l.now in absurd (omega arith))

  pub place_else : (b : ℕ) → b ≢ home w.tag → bound_story.place b ≡ st.place b
  place_else b n = upd_else st.place (home w.tag) b (Chained s) n

  stands_here : Standing bound_mem bound_story s 0 w.tag
  stands_here = record {
    placed = upd_same st.place (home w.tag) (Chained s);
    now = l.now ∙ ap (word (age w.tag)) (sym (ap (tag_at (linked_story st s w) s) (ap suc (sym l.empty)) ∙ tag_beyond st s w));
    safe = l.safe ∙ ap (word (age w.tag)) (sym (ap (only (ltb 1 (bound_story.sure s))) (ap (tag_at (linked_story st s w) s) (ap suc (sym l.empty)) ∙ tag_beyond st s w) ∙ only_none (ltb 1 (bound_story.sure s))));
  }

  bound_standing : (s' i t : ℕ) → tag_at bound_story s' i ≡ Some t → bound_story.gone s' ≤ i → Standing bound_mem bound_story s' i t
  bound_standing s' i t e g = dite (ℕ_discrete s' s)
      (λ d. let q = here_only i t (ap (λ (j : ℕ). tag_at bound_story j i) (sym d) ∙ e) in rw (d, q.0, q.1) stands_here)
      (λ n. let k = else_case s' n in let a : tag_at st s' i ≡ Some t = sym (k.tags i) ∙ e in let x = c.standing s' i t a (let y = k.gone in omega arith) in record {
        placed = place_else (home t) (λ f. absurd (cc (ap st.place f, x.placed, l.held))) ∙ x.placed;
        now = x.now ∙ ap (word (age t)) (sym (k.tags (suc i)));
        safe = x.safe ∙ ap (λ (o : Option ℕ). word (age t) (only (ltb (suc i) (st.sure s')) o)) (sym (k.tags (suc i))) ∙ ap (λ (j : ℕ). word (age t) (only (ltb (suc i) j) (tag_at bound_story s' (suc i)))) (sym k.sure);
      })

  bound_passed : (s' i t : ℕ) → tag_at bound_story s' i ≡ Some t → i < bound_story.gone s' → Passed bound_mem bound_story s' i t
  bound_passed s' i t e g = dite (ℕ_discrete s' s)
      (λ d. let q = ap bound_story.gone d ∙ upd_same st.gone s 0 in absurd (omega arith))
      (λ n. let k = else_case s' n in let x = c.passed s' i t (sym (k.tags i) ∙ e) (let y = k.gone in omega arith) in record { later = x.later; safe = ⊎_elim inl (λ h. inr (h ∙ ap (word (age t)) (sym (k.tags (suc i))))) x.safe })

  pub log_here : bound_story.log s ≡ st.log s ++ w ∷ []
  log_here = upd_same st.log s (st.log s ++ w ∷ [])

  waits_here : Waits bound_mem bound_story s
  waits_here = record {
    empty = l.unrooted;
    unnamed = l.unnamed;
    alone = ap length log_here ∙ (let z = l.empty in omega (arith, length-append (st.log s) (w ∷ [])));
    dead = λ i x e. ⊎_elim (λ a. let q = nth_within (st.log s) i x a in let z = l.empty in absurd (omega arith)) (λ a. ap (λ (y : Version). y.value) (sym a.1) ∙ l.dead) (nth_snoc (st.log s) w x i (ap (λ (ws : List Version). nth ws i) (sym log_here) ∙ e));
  }

  bound_chained : (b s' : ℕ) → bound_story.place b ≡ Chained s' → (i : ℕ) × (t : ℕ) × (tag_at bound_story s' i ≡ Some t) × (bound_story.gone s' ≤ i) × (home t ≡ b)
  bound_chained b s' f = dite (ℕ_discrete b (home w.tag))
      (λ d. let e : s' ≡ s = cc (ap bound_story.place d, upd_same st.place (home w.tag) (Chained s), f) in (0, w.tag, ap (λ (j : ℕ). tag_at bound_story j 0) e ∙ here_tag, (let z = ap bound_story.gone e ∙ upd_same st.gone s 0 in omega arith), sym d))
      (λ n. let h = c.chained b s' (sym (place_else b n) ∙ f) in
      let e : s' ≢ s = λ z. (let q = tag_within st s' h.0 h.1 h.2 in let y = ap (λ (j : ℕ). length (st.log j)) z in let x = l.empty in absurd (omega arith)) in
      let k = else_case s' e in (h.0, h.1, k.tags h.0 ∙ h.2, (let q = h.3 in let y = k.gone in omega arith), h.4))

  pub bind_core : Core bound_mem bound_story
  bind_core = record {
    spotted = λ s' i t e. dite (ℕ_discrete s' s)
        (λ d. let q = here_only i t (ap (λ (j : ℕ). tag_at bound_story j i) (sym d) ∙ e) in (ap bound_story.slot_of q.1 ∙ upd_same st.slot_of w.tag s ∙ sym d, ap bound_story.rank q.1 ∙ upd_same st.rank w.tag (length (st.log s)) ∙ l.empty ∙ sym q.0))
        (λ n. let k = else_case s' n in let a : tag_at st s' i ≡ Some t = sym (k.tags i) ∙ e in let x = c.spotted s' i t a in let f : t ≢ w.tag = λ z. fresh s' i (a ∙ ap Some z) in
        (upd_else st.slot_of w.tag t s f ∙ x.0, upd_else st.rank w.tag t (length (st.log s)) f ∙ x.1));
    passed = bound_passed;
    standing = bound_standing;
    sure_most = λ s'. ⊎_elim (λ d. let z = ap bound_story.sure d.0 ∙ here_sure in let z2 = d.1 in omega arith) (λ d. let k = else_case s' d.0 in let a = k.sure in let b = k.len in let x = c.sure_most s' in omega arith) (length_linked st s w s');
    sure_all = λ s'. ⊎_elim (λ d. let z = ap bound_story.sure d.0 ∙ here_sure in let z2 = d.1 in let z3 = l.empty in omega arith) (λ d. let k = else_case s' d.0 in let a = k.sure in let b = k.len in let x = c.sure_all s' in omega arith) (length_linked st s w s');
    rooted = λ s' h. dite (ℕ_discrete s' s) (λ d. let z = ap bound_story.sure d ∙ here_sure in let y = ap bound_story.lead d ∙ upd_same st.lead s 0 in omega arith) (λ n. let k = else_case s' n in let a = k.sure in let b = k.len in let f = k.lead in let x = c.rooted s' (omega arith) in omega arith);
    bare = λ s' h. dite (ℕ_discrete s' s) (λ d. ap bound_story.lead d ∙ upd_same st.lead s 0) (λ n. let k = else_case s' n in k.lead ∙ c.bare s' (sym k.len ∙ h));
    led = λ s'. dite (ℕ_discrete s' s)
        (λ d. let z1 = ap bound_story.lead d ∙ upd_same st.lead s 0 in let z2 = ap bound_story.flead d ∙ upd_same st.flead s 0 in let z3 = ap bound_story.gone d ∙ upd_same st.gone s 0 in (omega arith, omega arith, omega arith))
        (λ n. let k = else_case s' n in let x = c.led s' in let a = k.gone in let b = k.lead in let f = k.flead in (omega arith, omega arith, omega arith));
    root = λ s'. dite (ℕ_discrete s' s) (λ d. rw d (upd_same m.root s (Some w.tag) ∙ sym here_tag ∙ ap (tag_at bound_story s) (sym (upd_same st.lead s 0)))) (λ n. let k = else_case s' n in upd_else m.root s s' (Some w.tag) n ∙ c.root s' ∙ sym (k.tags (st.lead s')) ∙ ap (tag_at bound_story s') (sym k.lead));
    froot = λ s'. dite (ℕ_discrete s' s) (λ d. inr (rw d waits_here)) (λ n. let k = else_case s' n in ⊎_elim (λ h. inl (h ∙ sym (k.tags (st.flead s')) ∙ ap (tag_at bound_story s') (sym k.flead))) (λ h. inr record { empty = h.empty; unnamed = h.unnamed; alone = k.len ∙ h.alone; dead = λ i x e. h.dead i x (ap (λ (ws : List Version). nth ws i) (sym (upd_else st.log s s' (st.log s ++ w ∷ []) n)) ∙ e) }) (c.froot s'));
    loose = λ b f. dite (ℕ_discrete b (home w.tag)) (λ d. absurd (subst Loose (ap bound_story.place d ∙ upd_same st.place (home w.tag) (Chained s)) f)) (λ n. c.loose b (subst Loose (place_else b n) f));
    held = λ b f. dite (ℕ_discrete b (home w.tag)) (λ d. absurd (cc (ap bound_story.place d, upd_same st.place (home w.tag) (Chained s), f))) (λ n. c.held b (sym (place_else b n) ∙ f));
    chained = bound_chained;
  }
