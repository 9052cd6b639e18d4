-- The law of the recycling exchange on the core facts.
use Rattle.std.proofs.Common.{◌≡◌, ℕ, suc, ◌<◌, ◌≤◌, ◌≢◌, ◌⊎◌, true, ltb, refl, sym, ap, ◌∙◌, inl, inr, ⊎_elim, arith, subst}
use native.Mathlib.Decide.{ℕ_discrete}
use mathlib.Core.Logic.{dite}
use Rattle.std.specs.Prelude.{Some, None}
use Rattle.std.proofs.lemmas.Bool.Decides.{nat_tests}
use Rattle.clover_words.specs.Tag.{home, age}
use Rattle.clover_rule.specs.Changes.{recycled_mem, recycled_story}
use Rattle.clover_rule.specs.Memory.{word, gen, link, Mem}
use Rattle.clover_rule.specs.Story.{Chained, Taken, Loose, Story, tag_at, Standing, Core, Passed}
use Rattle.clover_rule.proofs.Tools.{upd_same, upd_else}
use Rattle.clover_rule.proofs.Standings.{tag_within, one_buffer}

pub record CanRecycle (m : Mem) (st : Story) (s r : ℕ) : Type 0 where
  pub root : tag_at st s (st.gone s) ≡ Some r
  pub stored : st.flead s ≡ suc (st.gone s)

module _ (m : Mem) (st : Story) (s r : ℕ) (c : Core m st) (l : CanRecycle m st s r) where
  pub stands : Standing m st s (st.gone s) r
  stands = c.standing s (st.gone s) r l.root (omega arith)

  next_safe : suc (st.gone s) < st.sure s
  next_safe = let h = tag_within st s (st.gone s) r l.root in let x = c.rooted s (omega arith) in let y = c.led s in let z = l.stored in omega arith

  pub is : (recycled_mem m r).next (home r) ≡ word (suc (age r)) None
  is = upd_same m.next (home r) (word (suc (age r)) None)

  pub else_same : (b : ℕ) → b ≢ home r → (recycled_mem m r).next b ≡ m.next b
  else_same b n = upd_else m.next (home r) b (word (suc (age r)) None) n

  gone_now : (recycled_story st s r).gone s ≡ suc (st.gone s)
  gone_now = upd_same st.gone s (suc (st.gone s))

  pub gone_cases : (s' : ℕ) → ((s' ≡ s) × ((recycled_story st s r).gone s' ≡ suc (st.gone s))) ⊎ ((s' ≢ s) × ((recycled_story st s r).gone s' ≡ st.gone s'))
  gone_cases s' = dite (ℕ_discrete s' s) (λ d. inl (d, ap (recycled_story st s r).gone d ∙ gone_now)) (λ n. inr (n, upd_else st.gone s s' (suc (st.gone s)) n))

  passed_before : (s' i' t' : ℕ) → Passed m st s' i' t' → Passed (recycled_mem m r) (recycled_story st s r) s' i' t'
  passed_before s' i' t' x = record { later = go (ℕ_discrete (home t') (home r)); safe = x.safe }
    where
      go : Dec (home t' ≡ home r) → age t' < gen ((recycled_mem m r).next (home t'))
      go (no n) = rw (else_same (home t') n) x.later
      go (yes p) = let y = ap gen (ap m.next p ∙ stands.now) in let z = x.later in rw p (rw is (let q : age t' < suc (age r) = omega arith in q))

  passed_now : Passed (recycled_mem m r) (recycled_story st s r) s (st.gone s) r
  passed_now = record { later = rw is (let q : age r < suc (age r) = omega arith in q); safe = inr (stands.safe ∙ ap (word (age r)) (let e : ltb (suc (st.gone s)) (st.sure s) ≡ true = let h = next_safe in grind (arith, nat_tests) in rw e refl)) }

  recycled_passed : (s' i' t' : ℕ) → tag_at st s' i' ≡ Some t' → i' < (recycled_story st s r).gone s' → Passed (recycled_mem m r) (recycled_story st s r) s' i' t'
  recycled_passed s' i' t' e h = go (gone_cases s') (ℕ_discrete i' (st.gone s))
    where
      go : ((s' ≡ s) × ((recycled_story st s r).gone s' ≡ suc (st.gone s))) ⊎ ((s' ≢ s) × ((recycled_story st s r).gone s' ≡ st.gone s')) → Dec (i' ≡ st.gone s) → Passed (recycled_mem m r) (recycled_story st s r) s' i' t'
      go (inr d) x = let y = d.1 in passed_before s' i' t' (c.passed s' i' t' e (omega arith))
      go (inl d) (yes p) = let a : t' ≡ r = cc (e, l.root, d.0, p) in rw (d.0, p, a) passed_now
      go (inl d) (no n) = let y = d.1 in let z = ap st.gone d.0 in passed_before s' i' t' (c.passed s' i' t' e (omega arith))

  pub behind : (s' i' : ℕ) → (recycled_story st s r).gone s' ≤ i' → st.gone s' ≤ i'
  behind s' i' h = ⊎_elim (λ d. let y = d.1 in let z = ap st.gone d.0 in omega arith) (λ d. let y = d.1 in omega arith) (gone_cases s')

  away : (s' i' t' : ℕ) → tag_at st s' i' ≡ Some t' → (recycled_story st s r).gone s' ≤ i' → home t' ≢ home r
  away s' i' t' e g h = let o = one_buffer m st c s (st.gone s) r s' i' t' l.root (omega arith) e (behind s' i' g) h in ⊎_elim (λ d. let y = d.1 in let y2 = o.1 in absurd (omega arith)) (λ d. absurd (d.0 o.0)) (gone_cases s')

  recycled_standing : (s' i' t' : ℕ) → tag_at st s' i' ≡ Some t' → (recycled_story st s r).gone s' ≤ i' → Standing (recycled_mem m r) (recycled_story st s r) s' i' t'
  recycled_standing s' i' t' e g = let x = c.standing s' i' t' e (behind s' i' g) in let n = away s' i' t' e g in record {
    placed = upd_else st.place (home r) (home t') Taken n ∙ x.placed;
    now = else_same (home t') n ∙ x.now;
    safe = x.safe;
  }

  recycled_loose : (b : ℕ) → Loose ((recycled_story st s r).place b) → (link ((recycled_mem m r).next b) ≡ None) × (m.fnext b ≡ (recycled_mem m r).next b)
  recycled_loose b f = go (ℕ_discrete b (home r))
    where
      go : Dec (b ≡ home r) → (link ((recycled_mem m r).next b) ≡ None) × (m.fnext b ≡ (recycled_mem m r).next b)
      go (yes p) = absurd (subst Loose (ap (recycled_story st s r).place p ∙ upd_same st.place (home r) Taken) f)
      go (no n) = let o = c.loose b (subst Loose (upd_else st.place (home r) b Taken n) f) in (ap link (else_same b n) ∙ o.0, o.1 ∙ sym (else_same b n))

  recycled_chained : (b s' : ℕ) → (recycled_story st s r).place b ≡ Chained s' → (i' : ℕ) × (t' : ℕ) × (tag_at st s' i' ≡ Some t') × ((recycled_story st s r).gone s' ≤ i') × (home t' ≡ b)
  recycled_chained b s' f = go (ℕ_discrete b (home r))
    where
      go : Dec (b ≡ home r) → (i' : ℕ) × (t' : ℕ) × (tag_at st s' i' ≡ Some t') × ((recycled_story st s r).gone s' ≤ i') × (home t' ≡ b)
      go (yes p) = absurd (cc (ap (recycled_story st s r).place p, upd_same st.place (home r) Taken, f))
      go (no n) = let h = c.chained b s' (sym (upd_else st.place (home r) b Taken n) ∙ f) in (h.0, h.1, h.2, ⊎_elim (λ d. dite (ℕ_discrete h.0 (st.gone s)) (λ q. let a : h.1 ≡ r = cc (h.2, l.root, d.0, q) in absurd (n (sym h.4 ∙ ap home a))) (λ q. let y = d.1 in let z = ap st.gone d.0 in let w = h.3 in omega arith)) (λ d. let y = d.1 in let w = h.3 in omega arith) (gone_cases s'), h.4)

  pub recycle_core : Core (recycled_mem m r) (recycled_story st s r)
  recycle_core = record {
    spotted = c.spotted;
    passed = recycled_passed;
    standing = recycled_standing;
    sure_most = c.sure_most;
    sure_all = c.sure_all;
    rooted = c.rooted;
    bare = c.bare;
    led = λ s'. let x = c.led s' in ⊎_elim (λ d. let y = d.1 in let z1 = ap st.flead d.0 in let z2 = ap st.gone d.0 in let z3 = ap st.lead d.0 in let w = l.stored in (omega arith, omega arith, omega arith)) (λ d. let y = d.1 in (omega arith, omega arith, omega arith)) (gone_cases s');
    root = c.root;
    froot = λ s'. ⊎_elim inl (λ h. inr record { empty = h.empty; unnamed = h.unnamed; alone = h.alone; dead = h.dead }) (c.froot s');
    loose = recycled_loose;
    held = λ b f. dite (ℕ_discrete b (home r)) (λ d. ap link (ap (recycled_mem m r).next d ∙ is)) (λ n. ap link (else_same b n) ∙ c.held b (sym (upd_else st.place (home r) b Taken n) ∙ f));
    chained = recycled_chained;
  }
