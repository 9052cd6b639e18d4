-- The other steps of a recycling, and a grant, on the core facts.
use Rattle.std.proofs.Common.{◌≡◌, ℕ, suc, ◌<◌, ◌≢◌, ◌⊎◌, length, refl, sym, ap, ◌∙◌, inl, inr, ⊎_elim, arith, subst}
use native.Mathlib.Decide.{ℕ_discrete}
use mathlib.Core.Logic.{dite}
use Rattle.std.specs.Prelude.{Some, None}
use Rattle.clover_words.specs.Tag.{home, age}
use Rattle.clover_rule.specs.Lists.{upd}
use Rattle.clover_rule.specs.Memory.{word, gen, link, Mem}
use Rattle.clover_rule.specs.Story.{Place, Chained, Taken, Loose, Story, tag_at, Core}
use Rattle.clover_rule.proofs.Tools.{upd_same, upd_else}
use Rattle.clover_rule.proofs.Standings.{tag_within}
use Rattle.clover_rule.proofs.Cores.{core_but}

-- the root is stored: the second version leads
module _ (m : Mem) (st : Story) (s r t : ℕ) (c : Core m st) (from : tag_at st s (st.gone s) ≡ Some r) (to : tag_at st s (suc (st.gone s)) ≡ Some t) (sure : suc (st.gone s) < st.sure s) where
  abbrev pub rooted_mem : Mem
  rooted_mem = record m { root = upd m.root s (Some t) }

  abbrev pub rooted_story : Story
  rooted_story = record st { lead = upd st.lead s (suc (st.gone s)) }

  pub lead_cases : (s' : ℕ) → ((s' ≡ s) × (rooted_story.lead s' ≡ suc (st.gone s))) ⊎ ((s' ≢ s) × (rooted_story.lead s' ≡ st.lead s'))
  lead_cases s' = dite (ℕ_discrete s' s) (λ d. inl (d, ap rooted_story.lead d ∙ upd_same st.lead s (suc (st.gone s)))) (λ n. inr (n, upd_else st.lead s s' (suc (st.gone s)) n))

  pub root_core : Core rooted_mem rooted_story
  root_core = record {
    spotted = c.spotted;
    passed = λ s' i t e h. let x = c.passed s' i t e h in record { later = x.later; safe = x.safe };
    standing = λ s' i t e h. let x = c.standing s' i t e h in record { placed = x.placed; now = x.now; safe = x.safe };
    sure_most = c.sure_most;
    sure_all = c.sure_all;
    rooted = λ s' h. ⊎_elim (λ d. let y = d.1 in let z = ap st.sure d.0 in omega arith) (λ d. let y = d.1 in let z = c.rooted s' h in omega arith) (lead_cases s');
    bare = λ s' h. ⊎_elim (λ d. let z = ap (λ (j : ℕ). length (st.log j)) d.0 in let y = tag_within st s (st.gone s) r from in absurd (omega arith)) (λ d. d.1 ∙ c.bare s' h) (lead_cases s');
    led = λ s'. let x = c.led s' in ⊎_elim (λ d. let y = d.1 in let z1 = ap st.flead d.0 in let z2 = ap st.gone d.0 in let z = c.led s in (omega arith, omega arith, omega arith)) (λ d. let y = d.1 in (omega arith, omega arith, omega arith)) (lead_cases s');
    root = λ s'. ⊎_elim (λ d. ap rooted_mem.root d.0 ∙ upd_same m.root s (Some t) ∙ sym to ∙ ap (λ (j : ℕ). tag_at st j (suc (st.gone s))) (sym d.0) ∙ ap (tag_at st s') (sym d.1)) (λ d. upd_else m.root s s' (Some t) d.0 ∙ c.root s' ∙ ap (tag_at st s') (sym d.1)) (lead_cases s');
    froot = λ s'. ⊎_elim inl (λ h. inr record { empty = h.empty; unnamed = h.unnamed; alone = h.alone; dead = h.dead }) (c.froot s');
    loose = c.loose;
    held = c.held;
    chained = c.chained;
  }

-- the flushed copy of the root is stored
module _ (m : Mem) (st : Story) (s t : ℕ) (c : Core m st) (at : tag_at st s (st.lead s) ≡ Some t) where
  abbrev pub flushed_mem : Mem
  flushed_mem = record m { froot = upd m.froot s (Some t) }

  abbrev pub flushed_story : Story
  flushed_story = record st { flead = upd st.flead s (st.lead s) }

  pub flead_cases : (s' : ℕ) → ((s' ≡ s) × (flushed_story.flead s' ≡ st.lead s)) ⊎ ((s' ≢ s) × (flushed_story.flead s' ≡ st.flead s'))
  flead_cases s' = dite (ℕ_discrete s' s) (λ d. inl (d, ap flushed_story.flead d ∙ upd_same st.flead s (st.lead s))) (λ n. inr (n, upd_else st.flead s s' (st.lead s) n))

  pub flush_core : Core flushed_mem flushed_story
  flush_core = record {
    spotted = c.spotted;
    passed = λ s' i t e h. let x = c.passed s' i t e h in record { later = x.later; safe = x.safe };
    standing = λ s' i t e h. let x = c.standing s' i t e h in record { placed = x.placed; now = x.now; safe = x.safe };
    sure_most = c.sure_most;
    sure_all = c.sure_all;
    rooted = c.rooted;
    bare = c.bare;
    led = λ s'. let x = c.led s' in ⊎_elim (λ d. let y = d.1 in let z1 = ap st.lead d.0 in let z2 = ap st.gone d.0 in let z = c.led s in (omega arith, omega arith, omega arith)) (λ d. let y = d.1 in (omega arith, omega arith, omega arith)) (flead_cases s');
    root = c.root;
    froot = λ s'. ⊎_elim (λ d. inl (ap flushed_mem.froot d.0 ∙ upd_same m.froot s (Some t) ∙ sym at ∙ ap (λ (j : ℕ). tag_at st j (st.lead s)) (sym d.0) ∙ ap (tag_at st s') (sym d.1)))
        (λ d. ⊎_elim (λ h. inl (upd_else m.froot s s' (Some t) d.0 ∙ h ∙ ap (tag_at st s') (sym d.1))) (λ h. inr record { empty = upd_else m.froot s s' (Some t) d.0 ∙ h.empty; unnamed = h.unnamed; alone = h.alone; dead = h.dead }) (c.froot s')) (flead_cases s');
    loose = c.loose;
    held = c.held;
    chained = c.chained;
  }

-- the flushed copy of a held buffer is raised to its new generation, and the buffer is free
module _ (m : Mem) (st : Story) (b a : ℕ) (q : Place) (c : Core m st) (held : st.place b ≡ Taken) (now : m.next b ≡ word a None) (loose_q : (s : ℕ) → q ≢ Chained s) where
  abbrev pub freed_mem : Mem
  freed_mem = record m { fnext = upd m.fnext b (word a None) }

  abbrev pub freed_story : Story
  freed_story = record st { place = upd st.place b q }

  away : (y s : ℕ) → st.place y ≡ Chained s → y ≢ b
  away y s e h = absurd (cc (ap st.place h, e, held))

  pub freed_core : Core freed_mem freed_story
  freed_core = core_but m st c freed_mem.fnext freed_story.place st.named m.body m.fbody m.key m.fkey m.short m.count st.keys st.first st.bindings st.task st.slot_named
      (λ s i t x. dite (ℕ_discrete (home t) b)
      (λ d. inl (rw d (rw (upd_same m.fnext b (word a None)) (let y = x.later in let z = ap gen (ap m.next d ∙ now) in let w : age t < a = omega arith in w))))
      (λ n. ⊎_elim (λ y. inl (rw (upd_else m.fnext b (home t) (word a None) n) y)) (λ y. inr (upd_else m.fnext b (home t) (word a None) n ∙ y)) x.safe))
      (λ y s e. let n = away y s e in (upd_else st.place b y q n ∙ e, upd_else m.fnext b y (word a None) n)) (λ s e n. n)
      (λ j f. dite (ℕ_discrete j b)
      (λ d. (ap link (ap m.next d ∙ now), ap freed_mem.fnext d ∙ upd_same m.fnext b (word a None) ∙ sym (ap m.next d ∙ now)))
      (λ n. let o = c.loose j (subst Loose (upd_else st.place b j q n) f) in (o.0, upd_else m.fnext b j (word a None) n ∙ o.1)))
      (λ j f. dite (ℕ_discrete j b) (λ d. ap link (ap m.next d ∙ now)) (λ n. c.held j (sym (upd_else st.place b j q n) ∙ f)))
      (λ j s f. dite (ℕ_discrete j b) (λ d. absurd (loose_q s (sym (upd_same st.place b q) ∙ ap freed_story.place (sym d) ∙ f))) (λ n. c.chained j s (sym (upd_else st.place b j q n) ∙ f)))

-- a buffer that is off the chains and unlinked goes to another place
module _ (m : Mem) (st : Story) (b : ℕ) (q : Place) (c : Core m st) (off : (s : ℕ) → st.place b ≢ Chained s) (off_then : (s : ℕ) → q ≢ Chained s) (lone : link (m.next b) ≡ None) (flushed : Loose q → m.fnext b ≡ m.next b) where
  abbrev placed_story : Story
  placed_story = record st { place = upd st.place b q }

  pub placed_core : Core m placed_story
  placed_core = core_but m st c m.fnext (upd st.place b q) st.named m.body m.fbody m.key m.fkey m.short m.count st.keys st.first st.bindings st.task st.slot_named (λ s i t x. x.safe)
      (λ y s e. (upd_else st.place b y q (λ z. off s (ap st.place (sym z) ∙ e)) ∙ e, refl)) (λ s e n. n)
      (λ j f. dite (ℕ_discrete j b) (λ d. (ap (λ (x : ℕ). link (m.next x)) d ∙ lone, ap m.fnext d ∙ flushed (subst Loose (ap placed_story.place d ∙ upd_same st.place b q) f) ∙ sym (ap m.next d))) (λ n. c.loose j (subst Loose (upd_else st.place b j q n) f)))
      (λ j f. dite (ℕ_discrete j b) (λ d. ap (λ (x : ℕ). link (m.next x)) d ∙ lone) (λ n. c.held j (sym (upd_else st.place b j q n) ∙ f)))
      (λ j s f. dite (ℕ_discrete j b) (λ d. absurd (off_then s (sym (upd_same st.place b q) ∙ ap placed_story.place (sym d) ∙ f))) (λ n. c.chained j s (sym (upd_else st.place b j q n) ∙ f)))

-- a loose buffer changes hands
pub handed_core : (m : Mem) (st : Story) (b : ℕ) (q : Place) → Core m st → Loose (st.place b) → ((s : ℕ) → q ≢ Chained s) → Core m (record st { place = upd st.place b q })
handed_core m st b q c was off = placed_core m st b q c (λ s z. absurd (subst Loose z was)) off (c.loose b was).0 (λ f. (c.loose b was).1)

-- a buffer that is off the chains is held from now on
pub hold_core : (m : Mem) (st : Story) (b : ℕ) → Core m st → link (m.next b) ≡ None → ((s : ℕ) → st.place b ≢ Chained s) → Core m (record st { place = upd st.place b Taken })
hold_core m st b c lone off = placed_core m st b Taken c off (λ s z. absurd cc) lone (λ f. absurd f)
