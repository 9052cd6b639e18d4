-- The law of the link step on the core facts.
use Rattle.std.proofs.Common.{◌≡◌, ℕ, suc, ◌<◌, ◌≤◌, ◌≢◌, ◌⊎◌, List, [], ◌∷◌, ◌++◌, length, length-append, true, ltb, refl, sym, ap, ◌∙◌, inl, inr, ⊎_elim, arith, subst, true≢false}
use native.Mathlib.Decide.{ℕ_discrete, dec_le}
use mathlib.Core.Logic.{dite}
use Rattle.std.specs.Prelude.{Some, None}
use Rattle.clover_words.specs.Tag.{home, age}
use Rattle.clover_rule.specs.Changes.{linked_mem, linked_story}
use Rattle.clover_rule.specs.History.{Version}
use Rattle.clover_rule.specs.Lists.{nth}
use Rattle.clover_rule.specs.Memory.{word, gen, link, Mem}
use Rattle.clover_rule.specs.Story.{Chained, Stocked, Taken, Loose, Story, tag_at, only, safe_at, Standing, Core, Passed, Waits}
use Rattle.clover_rule.proofs.Tools.{upd_same, upd_else, nth_front, nth_last, nth_none}
use Rattle.clover_rule.proofs.Standings.{tag_within, tag_past, same_tag, only_same, only_none, word_is}

-- where a tag stands in the longer story
pub data Pushed (st : Story) (s : ℕ) (w : Version) (s' i' t' : ℕ) : Type 0 where
  before : tag_at st s' i' ≡ Some t' → ((s' ≡ s) → i' ≢ length (st.log s)) → Pushed st s w s' i' t'
  new : s' ≡ s → i' ≡ length (st.log s) → t' ≡ w.tag → Pushed st s w s' i' t'

pub tag_else : (st : Story) (s : ℕ) (w : Version) (s' i' : ℕ) → ((s' ≡ s) → i' ≢ length (st.log s)) → tag_at (linked_story st s w) s' i' ≡ tag_at st s' i'
tag_else st s w s' i' n = go (ℕ_discrete s' s)
  where
    go : Dec (s' ≡ s) → tag_at (linked_story st s w) s' i' ≡ tag_at st s' i'
    go (yes e) = rw e (rw (upd_same st.log s (st.log s ++ w ∷ [])) (rw (nth_front (st.log s) w i' (n e)) refl))
    go (no d) = rw (upd_else st.log s s' (st.log s ++ w ∷ []) d) refl

pub tag_new : (st : Story) (s : ℕ) (w : Version) → tag_at (linked_story st s w) s (length (st.log s)) ≡ Some w.tag
tag_new st s w = rw (upd_same st.log s (st.log s ++ w ∷ [])) (rw (nth_last (st.log s) w) refl)

pub pushed : (st : Story) (s : ℕ) (w : Version) (s' i' t' : ℕ) → tag_at (linked_story st s w) s' i' ≡ Some t' → Pushed st s w s' i' t'
pushed st s w s' i' t' e = go (ℕ_discrete s' s) (ℕ_discrete i' (length (st.log s)))
  where
    go : Dec (s' ≡ s) → Dec (i' ≡ length (st.log s)) → Pushed st s w s' i' t'
    go (no d) x = before (sym (tag_else st s w s' i' (λ p. absurd (d p))) ∙ e) (λ p. absurd (d p))
    go (yes p) (no d) = before (sym (tag_else st s w s' i' (λ q. d)) ∙ e) (λ q. d)
    go (yes p) (yes q) = let h = tag_new st s w in let k : tag_at (linked_story st s w) s (length (st.log s)) ≡ Some t' = subst (λ (x : ℕ). tag_at (linked_story st s w) s x ≡ Some t') q (subst (λ (x : ℕ). tag_at (linked_story st s w) x i' ≡ Some t') p e) in new p q cc

pub record CanLink (m : Mem) (st : Story) (s u i k : ℕ) (w : Version) : Type 0 where
  pub tail : tag_at st s i ≡ Some u
  pub durable : i < st.sure s
  pub named : st.named s ≡ true
  pub found : m.next (home u) ≡ word (age u) None
  pub stocked : st.place (home w.tag) ≡ Stocked k
  pub aged : gen (m.next (home w.tag)) ≡ age w.tag

pub tag_beyond : (st : Story) (s : ℕ) (w : Version) → tag_at (linked_story st s w) s (suc (length (st.log s))) ≡ None
tag_beyond st s w = rw (upd_same st.log s (st.log s ++ w ∷ [])) (rw (nth_none (st.log s ++ w ∷ []) (suc (length (st.log s))) (omega (arith, length-append (st.log s) (w ∷ [])))) refl)

pub length_linked : (st : Story) (s : ℕ) (w : Version) (s' : ℕ) → ((s' ≡ s) × (length ((linked_story st s w).log s') ≡ suc (length (st.log s)))) ⊎ ((s' ≢ s) × (length ((linked_story st s w).log s') ≡ length (st.log s')))
length_linked st s w s' = go (ℕ_discrete s' s)
  where
    go : Dec (s' ≡ s) → ((s' ≡ s) × (length ((linked_story st s w).log s') ≡ suc (length (st.log s)))) ⊎ ((s' ≢ s) × (length ((linked_story st s w).log s') ≡ length (st.log s')))
    go (yes e) = inl (e, rw e (rw (upd_same st.log s (st.log s ++ w ∷ [])) (omega (arith, length-append (st.log s) (w ∷ [])))))
    go (no n) = inr (n, ap length (upd_else st.log s s' (st.log s ++ w ∷ []) n))

module _ (m : Mem) (st : Story) (s u i k : ℕ) (w : Version) (c : Core m st) (l : CanLink m st s u i k w) where
  pub u_stands : st.gone s ≤ i
  u_stands = go (dec_le (st.gone s) i)
    where
      go : Dec (st.gone s ≤ i) → st.gone s ≤ i
      go (yes d) = d
      go (no d) = let lt : i < st.gone s = omega arith in let h = (c.passed s i u l.tail lt).later in let e = ap gen l.found in absurd (omega arith)

  pub u_last : length (st.log s) ≡ suc i
  u_last = let h = c.standing s i u l.tail u_stands in let e : tag_at st s (suc i) ≡ None = cc (h.now, l.found) in let p = tag_past st s (suc i) e in let q = tag_within st s i u l.tail in omega arith

  pub u_sure : st.sure s ≡ suc i
  u_sure = let h = c.sure_most s in let q = u_last in let d = l.durable in omega arith

  -- the own tag stands at no place
  pub own_new : (s' i' : ℕ) → tag_at st s' i' ≢ Some w.tag
  own_new s' i' e = go (dec_le (st.gone s') i')
    where
      go : Dec (st.gone s' ≤ i') → ⊥
      go (yes d) = let h = c.standing s' i' w.tag e d in absurd (cc (h.placed, l.stocked))
      go (no d) = let h = (c.passed s' i' w.tag e (omega arith)).later in let a = l.aged in absurd (omega arith)

  -- a version that stands in u's buffer is u
  at_u : (s' i' t' : ℕ) → tag_at st s' i' ≡ Some t' → st.gone s' ≤ i' → home t' ≡ home u → (s' ≡ s) × (i' ≡ i)
  at_u s' i' t' e g h = let a = (c.standing s' i' t' e g).now in let b = l.found in let ages : age t' ≡ age u = cc (ap m.next h) in let same = same_tag t' u h ages in let x = c.spotted s' i' t' e in let y = c.spotted s i u l.tail in (cc, cc)

  pub apart : home w.tag ≢ home u
  apart h = let p = (c.standing s i u l.tail u_stands).placed in let q = l.stocked in absurd (cc (ap st.place h))

  pub gens : (b : ℕ) → gen ((linked_mem m u w.tag).next b) ≡ gen (m.next b)
  gens b = go (ℕ_discrete b (home u))
    where
      go : Dec (b ≡ home u) → gen ((linked_mem m u w.tag).next b) ≡ gen (m.next b)
      go (yes e) = rw e (rw (upd_same m.next (home u) (word (age u) (Some w.tag))) (sym (ap gen l.found)))
      go (no n) = ap gen (upd_else m.next (home u) b (word (age u) (Some w.tag)) n)

  spotted' : (s' i' t' : ℕ) → tag_at (linked_story st s w) s' i' ≡ Some t' → ((linked_story st s w).slot_of t' ≡ s') × ((linked_story st s w).rank t' ≡ i')
  spotted' s' i' t' e = go (pushed st s w s' i' t' e)
    where
      go : Pushed st s w s' i' t' → ((linked_story st s w).slot_of t' ≡ s') × ((linked_story st s w).rank t' ≡ i')
      go (before b n) = let d : t' ≢ w.tag = λ q. own_new s' i' (b ∙ ap Some q) in let x = c.spotted s' i' t' b in (upd_else st.slot_of w.tag t' s d ∙ x.0, upd_else st.rank w.tag t' (length (st.log s)) d ∙ x.1)
      go (new p q r) = (rw r (upd_same st.slot_of w.tag s ∙ sym p), rw r (upd_same st.rank w.tag (length (st.log s)) ∙ sym q))

  -- a slot with a version has its root among the durable ones
  gone_sure : (s' i' t' : ℕ) → tag_at st s' i' ≡ Some t' → st.lead s' < st.sure s'
  gone_sure s' i' t' e = let h = tag_within st s' i' t' e in c.rooted s' (omega arith)

  early : (s' j : ℕ) → j < st.sure s' → (s' ≡ s) → j ≢ length (st.log s)
  early s' j h p = let y = c.sure_most s' in let z = ap (λ (j : ℕ). length (st.log j)) p in (λ q. absurd (omega arith))

  passed' : (s' i' t' : ℕ) → tag_at (linked_story st s w) s' i' ≡ Some t' → i' < st.gone s' → Passed (linked_mem m u w.tag) (linked_story st s w) s' i' t'
  passed' s' i' t' e g = go (pushed st s w s' i' t' e)
    where
      go : Pushed st s w s' i' t' → Passed (linked_mem m u w.tag) (linked_story st s w) s' i' t'
      go (before b n) = let x = c.passed s' i' t' b g in let r = gone_sure s' i' t' b in let d = c.led s' in record {
        later = rw (gens (home t')) x.later;
        safe = ⊎_elim inl (λ h. inr (h ∙ ap (word (age t')) (sym (tag_else st s w s' (suc i') (early s' (suc i') (omega arith)))))) x.safe;
      }
      go (new p q r) = let x = gone_sure s i u l.tail in let y = c.sure_most s in let d = c.led s in let z = ap st.gone p in absurd (omega arith)

  safe_before : (s' i' t' : ℕ) → Standing m st s' i' t' → (linked_mem m u w.tag).fnext (home t') ≡ safe_at (linked_story st s w) s' i' t'
  safe_before s' i' t' x = x.safe ∙ ap (word (age t')) (only_same (suc i') (st.sure s') (tag_at st s' (suc i')) (tag_at (linked_story st s w) s' (suc i')) (λ lt. sym (tag_else st s w s' (suc i') (λ p q. let y = c.sure_most s' in let z = ap (λ (j : ℕ). length (st.log j)) p in absurd (omega arith)))))

  placed_before : (s' i' t' : ℕ) → Standing m st s' i' t' → (linked_story st s w).place (home t') ≡ Chained s'
  placed_before s' i' t' x = upd_else st.place (home w.tag) (home t') (Chained s) (λ q. absurd (cc (ap st.place q, x.placed, l.stocked))) ∙ x.placed

  -- a version before the new one stands as it did
  stands_before : (s' i' t' : ℕ) → tag_at st s' i' ≡ Some t' → ((s' ≡ s) → i' ≢ length (st.log s)) → st.gone s' ≤ i' → Dec (home t' ≡ home u) → Standing (linked_mem m u w.tag) (linked_story st s w) s' i' t'
  stands_before s' i' t' b n g (yes h) = let x = c.standing s' i' t' b g in let at = at_u s' i' t' b g h in let k0 = u_last in let k1 = u_sure in let k2 = tag_new st s w in
      record {
        placed = placed_before s' i' t' x;
        now = rw h (upd_same m.next (home u) (word (age u) (Some w.tag)) ∙ cc (b, l.tail, at.0, at.1, k0, k2));
        safe = safe_before s' i' t' x;
      }
  stands_before s' i' t' b n g (no h) = let x = c.standing s' i' t' b g in
      record {
        placed = placed_before s' i' t' x;
        now = upd_else m.next (home u) (home t') (word (age u) (Some w.tag)) h ∙ x.now ∙ ap (word (age t')) (sym (tag_else st s w s' (suc i') (λ p q. absurd (let lu = u_last in let ii : i' ≡ i = omega arith in h (cc (b, l.tail, p, ii))))));
        safe = safe_before s' i' t' x;
      }

  stands_new : Standing (linked_mem m u w.tag) (linked_story st s w) s (length (st.log s)) w.tag
  stands_new = let o = c.loose (home w.tag) (subst Loose (sym l.stocked) tt) in
      record {
        placed = upd_same st.place (home w.tag) (Chained s);
        now = upd_else m.next (home u) (home w.tag) (word (age u) (Some w.tag)) apart ∙ word_is (m.next (home w.tag)) (age w.tag) None l.aged o.0 ∙ ap (word (age w.tag)) (sym (tag_beyond st s w));
        safe = o.1 ∙ word_is (m.next (home w.tag)) (age w.tag) None l.aged o.0 ∙ ap (word (age w.tag)) (sym (ap (only (ltb (suc (length (st.log s))) (st.sure s))) (tag_beyond st s w) ∙ only_none (ltb (suc (length (st.log s))) (st.sure s))));
      }

  standing' : (s' i' t' : ℕ) → tag_at (linked_story st s w) s' i' ≡ Some t' → st.gone s' ≤ i' → Standing (linked_mem m u w.tag) (linked_story st s w) s' i' t'
  standing' s' i' t' e g = go (pushed st s w s' i' t' e)
    where
      go : Pushed st s w s' i' t' → Standing (linked_mem m u w.tag) (linked_story st s w) s' i' t'
      go (before b n) = stands_before s' i' t' b n g (ℕ_discrete (home t') (home u))
      go (new p q r) = rw (p, q, r) stands_new

  loose' : (b : ℕ) → Loose ((linked_story st s w).place b) → (link ((linked_mem m u w.tag).next b) ≡ None) × (m.fnext b ≡ (linked_mem m u w.tag).next b)
  loose' b f = go (ℕ_discrete b (home w.tag)) (ℕ_discrete b (home u))
    where
      go : Dec (b ≡ home w.tag) → Dec (b ≡ home u) → (link ((linked_mem m u w.tag).next b) ≡ None) × (m.fnext b ≡ (linked_mem m u w.tag).next b)
      go (yes e) x = absurd (subst Loose (ap (linked_story st s w).place e ∙ upd_same st.place (home w.tag) (Chained s)) f)
      go (no n) (yes e) = absurd (subst Loose (upd_else st.place (home w.tag) b (Chained s) n ∙ ap st.place e ∙ (c.standing s i u l.tail u_stands).placed) f)
      go (no n) (no d) = let o = c.loose b (subst Loose (upd_else st.place (home w.tag) b (Chained s) n) f) in let e = upd_else m.next (home u) b (word (age u) (Some w.tag)) d in (ap link e ∙ o.0, o.1 ∙ sym e)

  chained' : (b s' : ℕ) → (linked_story st s w).place b ≡ Chained s' → (i' : ℕ) × (t' : ℕ) × (tag_at (linked_story st s w) s' i' ≡ Some t') × (st.gone s' ≤ i') × (home t' ≡ b)
  chained' b s' f = go (ℕ_discrete b (home w.tag))
    where
      go : Dec (b ≡ home w.tag) → (i' : ℕ) × (t' : ℕ) × (tag_at (linked_story st s w) s' i' ≡ Some t') × (st.gone s' ≤ i') × (home t' ≡ b)
      go (yes e) = let d : s' ≡ s = cc (ap (linked_story st s w).place e, upd_same st.place (home w.tag) (Chained s), f) in let x = gone_sure s i u l.tail in let dd = c.led s in let y = c.sure_most s in let g : st.gone s ≤ length (st.log s) = omega arith in (length (st.log s), w.tag, rw d (tag_new st s w), rw d g, sym e)
      go (no n) = let h = c.chained b s' (sym (upd_else st.place (home w.tag) b (Chained s) n) ∙ f) in (h.0, h.1, tag_else st s w s' h.0 (λ p q. let y = tag_within st s' h.0 h.1 h.2 in let z = ap (λ (j : ℕ). length (st.log j)) p in absurd (omega arith)) ∙ h.2, h.3, h.4)

  some_old : (s' : ℕ) → 0 < length ((linked_story st s w).log s') → st.lead s' < st.sure s'
  some_old s' h = ⊎_elim (λ d. let x = gone_sure s i u l.tail in let y1 = ap st.lead d.0 in let y2 = ap st.sure d.0 in omega arith) (λ d. let x = d.1 in c.rooted s' (omega arith)) (length_linked st s w s')

  root' : (s' : ℕ) → m.root s' ≡ tag_at (linked_story st s w) s' (st.lead s')
  root' s' = c.root s' ∙ sym (tag_else st s w s' (st.lead s') (λ p. early s' (st.lead s') (let x = gone_sure s i u l.tail in let y1 = ap st.lead p in let y2 = ap st.sure p in omega arith) p))

  dead' : (s' : ℕ) → Waits m st s' → (j : ℕ) (x : Version) → nth ((linked_story st s w).log s') j ≡ Some x → x.value ≡ None
  dead' s' h j x e = dite (ℕ_discrete s' s) (λ d. absurd (true≢false (sym l.named ∙ sym (ap st.named d) ∙ h.unnamed))) (λ n. h.dead j x (ap (λ (ws : List Version). nth ws j) (sym (upd_else st.log s s' (st.log s ++ w ∷ []) n)) ∙ e))

  froot' : (s' : ℕ) → (m.froot s' ≡ tag_at (linked_story st s w) s' (st.flead s')) ⊎ Waits (linked_mem m u w.tag) (linked_story st s w) s'
  froot' s' = ⊎_elim (λ h. inl (h ∙ sym (tag_else st s w s' (st.flead s') (λ p. early s' (st.flead s') (let x = gone_sure s i u l.tail in let dd = c.led s' in let y1 = ap st.lead p in let y2 = ap st.sure p in omega arith) p)))) (λ h. inr record { empty = h.empty; unnamed = h.unnamed; alone = ⊎_elim (λ d. absurd (true≢false (sym l.named ∙ sym (ap st.named d.0) ∙ h.unnamed))) (λ d. d.1 ∙ h.alone) (length_linked st s w s'); dead = dead' s' h }) (c.froot s')

  held' : (b : ℕ) → (linked_story st s w).place b ≡ Taken → link ((linked_mem m u w.tag).next b) ≡ None
  held' b f = dite (ℕ_discrete b (home w.tag)) (λ d. absurd (cc (ap (linked_story st s w).place d, upd_same st.place (home w.tag) (Chained s), f)))
      (λ n. let g : st.place b ≡ Taken = sym (upd_else st.place (home w.tag) b (Chained s) n) ∙ f in
      ap link (upd_else m.next (home u) b (word (age u) (Some w.tag)) (λ d. absurd (cc (ap st.place d, (c.standing s i u l.tail u_stands).placed, g)))) ∙ c.held b g)

  pub link_core : Core (linked_mem m u w.tag) (linked_story st s w)
  link_core = record {
    spotted = spotted';
    passed = passed';
    standing = standing';
    sure_most = λ s'. let x = c.sure_most s' in ⊎_elim (λ h. let y = c.sure_most s in let z = ap st.sure h.0 in omega arith) (λ h. omega arith) (length_linked st s w s');
    sure_all = λ s'. let x = c.sure_all s' in ⊎_elim (λ h. let y = u_sure in let y2 = u_last in let z = ap st.sure h.0 in omega arith) (λ h. omega arith) (length_linked st s w s');
    rooted = some_old;
    bare = λ s' z. ⊎_elim (λ h. absurd (let x = h.1 in omega arith)) (λ h. c.bare s' (sym h.1 ∙ z)) (length_linked st s w s');
    led = c.led;
    root = root';
    froot = froot';
    loose = loose';
    held = held';
    chained = chained';
  }
