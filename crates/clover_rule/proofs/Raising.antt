-- The law of the raise step on the core facts.
use Rattle.std.proofs.Common.{◌≡◌, ℕ, suc, ◌<◌, ◌≤◌, ◌≢◌, ◌⊎◌, length, Bool, true, false, cond, ltb, refl, sym, ap, ◌∙◌, inl, inr, ⊎_elim, arith, subst}
use native.Mathlib.Decide.{ℕ_discrete, dec_le}
use mathlib.Core.Logic.{dite}
use Rattle.std.specs.Prelude.{Option, Some, None, max}
use Rattle.std.proofs.lemmas.Bool.Decides.{nat_tests}
use Rattle.clover_words.specs.Tag.{home, age}
use Rattle.clover_rule.specs.Changes.{raised_mem, raised_story}
use Rattle.clover_rule.specs.Lists.{upd}
use Rattle.clover_rule.specs.Memory.{Next, word, gen, link, Mem, order, greater}
use Rattle.clover_rule.specs.Story.{Loose, Story, tag_at, only, safe_at, Standing, Core, Passed}
use Rattle.clover_rule.proofs.Tools.{upd_same, upd_else}
use Rattle.clover_rule.proofs.Standings.{tag_within, one_buffer}
use mathlib.Core.Path.{fun_ext}

-- a function set to what it has
pub upd_again : {A : Type 0} (f : ℕ → A) (i : ℕ) (a : A) → f i ≡ a → upd f i a ≡ f
upd_again f i a e = fun_ext (λ j. go j (ℕ_discrete j i))
  where
    go : (j : ℕ) → Dec (j ≡ i) → upd f i a j ≡ f j
    go j (yes d) = rw d (upd_same f i a ∙ sym e)
    go j (no n) = upd_else f i j a n

gen_most : (o n : Next) (a : ℕ) → gen o ≤ a → gen n ≤ a → gen (greater o n) ≤ a
gen_most o n a p q = elim (ltb (order o) (order n)) as (λ (b : Bool). gen (cond b n o) ≤ a) [ true ↦ q | false ↦ p ]

gen_least : (o n : Next) → gen o ≤ gen (greater o n)
gen_least o n = go (ltb (order o) (order n)) refl
  where
    rises : (x y : Next) → ltb (order x) (order y) ≡ true → gen x ≤ gen y
    rises (word a None) (word b None) q = grind (arith, nat_tests)
    rises (word a None) (word b (Some y)) q = grind (arith, nat_tests)
    rises (word a (Some x)) (word b None) q = grind (arith, nat_tests)
    rises (word a (Some x)) (word b (Some y)) q = grind (arith, nat_tests)

    go : (b : Bool) → ltb (order o) (order n) ≡ b → gen o ≤ gen (cond b n o)
    go true q = rises o n q
    go false q = omega arith

-- the flushed generation after a raise
pub raised_higher : (m : Mem) (u t b : ℕ) → gen (m.fnext b) ≤ gen ((raised_mem m u t).fnext b)
raised_higher m u t b = go (ℕ_discrete b (home u))
  where
    go : Dec (b ≡ home u) → gen (m.fnext b) ≤ gen ((raised_mem m u t).fnext b)
    go (yes d) = rw d (rw (upd_same m.fnext (home u) (greater (m.fnext (home u)) (word (age u) (Some t)))) (gen_least (m.fnext (home u)) (word (age u) (Some t))))
    go (no n) = let z = ap gen (upd_else m.fnext (home u) b (greater (m.fnext (home u)) (word (age u) (Some t))) n) in omega arith

pub raised_below : (m : Mem) (u t b : ℕ) → age u ≤ gen (m.next (home u)) → gen (m.fnext b) ≤ gen (m.next b) → gen ((raised_mem m u t).fnext b) ≤ gen (m.next b)
raised_below m u t b old below = go (ℕ_discrete b (home u))
  where
    go : Dec (b ≡ home u) → gen ((raised_mem m u t).fnext b) ≤ gen (m.next b)
    go (yes d) = rw d (rw (upd_same m.fnext (home u) (greater (m.fnext (home u)) (word (age u) (Some t)))) (gen_most (m.fnext (home u)) (word (age u) (Some t)) (gen (m.next (home u))) (subst (λ (x : ℕ). gen (m.fnext x) ≤ gen (m.next x)) d below) old))
    go (no n) = let z = ap gen (upd_else m.fnext (home u) b (greater (m.fnext (home u)) (word (age u) (Some t))) n) in omega arith

-- how much of a slot is sure after a raise
pub raised_more : (st : Story) (s i j : ℕ) → st.sure j ≤ (raised_story st s i).sure j
raised_more st s i j = go (ℕ_discrete j s)
  where
    go : Dec (j ≡ s) → st.sure j ≤ (raised_story st s i).sure j
    go (yes d) = rw d (rw (upd_same st.sure s (max (st.sure s) (suc (suc i)))) (omega arith))
    go (no n) = let q = upd_else st.sure s j (max (st.sure s) (suc (suc i))) n in omega arith

pub raised_now : (st : Story) (s i : ℕ) → suc i < (raised_story st s i).sure s
raised_now st s i = rw (upd_same st.sure s (max (st.sure s) (suc (suc i)))) (omega arith)

pub order_below : (n o : Next) → gen n < gen o → ltb (order o) (order n) ≡ false
order_below (word a None) (word b None) h = grind (arith, nat_tests)
order_below (word a None) (word b (Some t)) h = grind (arith, nat_tests)
order_below (word a (Some u)) (word b None) h = grind (arith, nat_tests)
order_below (word a (Some u)) (word b (Some t)) h = grind (arith, nat_tests)

pub order_self : (n : Next) → ltb (order n) (order n) ≡ false
order_self n = grind (arith, nat_tests)

order_link : (a t : ℕ) → ltb (order (word a None)) (order (word a (Some t))) ≡ true
order_link a t = grind (arith, nat_tests)

test_next : (a b : ℕ) → a ≢ b → ltb a b ≡ ltb a (suc b)
test_next a b n = grind (arith, nat_tests)

pub record CanRaise (m : Mem) (st : Story) (s i u t : ℕ) : Type 0 where
  pub from : tag_at st s i ≡ Some u
  pub to : tag_at st s (suc i) ≡ Some t

module _ (m : Mem) (st : Story) (s i u t : ℕ) (c : Core m st) (l : CanRaise m st s i u t) where
  lead_sure : st.lead s < st.sure s
  lead_sure = let h = tag_within st s i u l.from in c.rooted s (omega arith)

  -- nothing changes where the link is flushed or passed
  nothing : greater (m.fnext (home u)) (word (age u) (Some t)) ≡ m.fnext (home u) → suc (suc i) ≤ st.sure s → Core (raised_mem m u t) (raised_story st s i)
  nothing e h =
      let e1 : raised_mem m u t ≡ m = ap (λ (f : ℕ → Next). record m { fnext = f }) (upd_again m.fnext (home u) _ (sym e)) in
      let g : max (st.sure s) (suc (suc i)) ≡ st.sure s = omega arith in
      let e2 : raised_story st s i ≡ st = ap (λ (f : ℕ → ℕ). record st { sure = f }) (upd_again st.sure s _ (sym g)) in
      subst (λ (x : Mem). Core x (raised_story st s i)) (sym e1) (subst (λ (x : Story). Core m x) (sym e2) c)

  kept_below : gen (word (age u) (Some t)) < gen (m.fnext (home u)) → greater (m.fnext (home u)) (word (age u) (Some t)) ≡ m.fnext (home u)
  kept_below h = rw (order_below (word (age u) (Some t)) (m.fnext (home u)) h) refl

  kept_equal : m.fnext (home u) ≡ word (age u) (Some t) → greater (m.fnext (home u)) (word (age u) (Some t)) ≡ m.fnext (home u)
  kept_equal h = rw h (rw (order_self (word (age u) (Some t))) refl)

  only_less : (a b : ℕ) (x : Option ℕ) → a < b → only (ltb a b) x ≡ x
  only_less a b x h = let e : ltb a b ≡ true = grind (arith, nat_tests) in rw e refl

  only_more : (a b : ℕ) (x : Option ℕ) → b ≤ a → only (ltb a b) x ≡ None
  only_more a b x h = let e : ltb a b ≡ false = grind (arith, nat_tests) in rw e refl

  module _ (g : st.gone s ≤ i) (last : suc i ≡ st.sure s) where
    stands : Standing m st s i u
    stands = c.standing s i u l.from g

    was : m.fnext (home u) ≡ word (age u) None
    was = stands.safe ∙ ap (word (age u)) (only_more (suc i) (st.sure s) (tag_at st s (suc i)) (omega arith))

    is : (raised_mem m u t).fnext (home u) ≡ word (age u) (Some t)
    is = upd_same m.fnext (home u) (greater (m.fnext (home u)) (word (age u) (Some t))) ∙ rw was (rw (order_link (age u) t) refl)

    else_same : (b : ℕ) → b ≢ home u → (raised_mem m u t).fnext b ≡ m.fnext b
    else_same b n = upd_else m.fnext (home u) b (greater (m.fnext (home u)) (word (age u) (Some t))) n

    sure_now : (raised_story st s i).sure s ≡ suc (suc i)
    sure_now = upd_same st.sure s (max (st.sure s) (suc (suc i))) ∙ (let q : max (st.sure s) (suc (suc i)) ≡ suc (suc i) = omega arith in q)

    sure_else : (s' : ℕ) → s' ≢ s → (raised_story st s i).sure s' ≡ st.sure s'
    sure_else s' n = upd_else st.sure s s' (max (st.sure s) (suc (suc i))) n

    raised_passed : (s' i' t' : ℕ) → tag_at st s' i' ≡ Some t' → i' < st.gone s' → Passed (raised_mem m u t) (raised_story st s i) s' i' t'
    raised_passed s' i' t' e h = go (ℕ_discrete (home t') (home u))
      where
        x : Passed m st s' i' t'
        x = c.passed s' i' t' e h

        go : Dec (home t' ≡ home u) → Passed (raised_mem m u t) (raised_story st s i) s' i' t'
        go (no n) = record { later = x.later; safe = ⊎_elim (λ a. inl (rw (else_same (home t') n) a)) (λ a. inr (else_same (home t') n ∙ a)) x.safe }
        go (yes p) = let b : age t' < age u = let y = ap gen (ap m.next p ∙ stands.now) in let z = x.later in omega arith in
            record { later = x.later; safe = inl (rw p (rw is b)) }

    raised_standing : (s' i' t' : ℕ) → tag_at st s' i' ≡ Some t' → st.gone s' ≤ i' → Standing (raised_mem m u t) (raised_story st s i) s' i' t'
    raised_standing s' i' t' e h = let x = c.standing s' i' t' e h in record { placed = x.placed; now = x.now; safe = go (ℕ_discrete (home t') (home u)) (ℕ_discrete s' s) }
      where
        go : Dec (home t' ≡ home u) → Dec (s' ≡ s) → (raised_mem m u t).fnext (home t') ≡ safe_at (raised_story st s i) s' i' t'
        go (yes p) d = let o = one_buffer m st c s i u s' i' t' l.from g e h p in rw (o.0, o.1, o.2) (is ∙ ap (word (age u)) (sym (ap (λ (b : ℕ). only (ltb (suc i) b) (tag_at st s (suc i))) sure_now ∙ only_less (suc i) (suc (suc i)) (tag_at st s (suc i)) (omega arith) ∙ l.to)))
        go (no n) (no d) = else_same (home t') n ∙ (c.standing s' i' t' e h).safe ∙ ap (λ (b : ℕ). word (age t') (only (ltb (suc i') b) (tag_at st s' (suc i')))) (sym (sure_else s' d))
        go (no n) (yes d) = else_same (home t') n ∙ (c.standing s' i' t' e h).safe ∙ ap (λ (b : Bool). word (age t') (only b (tag_at st s' (suc i')))) (
            let a1 : st.sure s' ≡ suc i = ap st.sure d ∙ sym last in
            let a2 : (raised_story st s i).sure s' ≡ suc (suc i) = ap (raised_story st s i).sure d ∙ sure_now in
            let a3 : i' ≢ i = λ q. n (ap home (cc (e, l.from, d, q))) in
            ap (ltb (suc i')) a1 ∙ test_next (suc i') (suc i) (λ q. a3 (omega arith)) ∙ ap (ltb (suc i')) (sym a2))

    raised_loose : (b : ℕ) → Loose (st.place b) → (link (m.next b) ≡ None) × ((raised_mem m u t).fnext b ≡ m.next b)
    raised_loose b f = go (ℕ_discrete b (home u))
      where
        go : Dec (b ≡ home u) → (link (m.next b) ≡ None) × ((raised_mem m u t).fnext b ≡ m.next b)
        go (yes p) = absurd (subst Loose (ap st.place p ∙ stands.placed) f)
        go (no n) = let o = c.loose b f in (o.0, else_same b n ∙ o.1)

    sure_cases : (s' : ℕ) → ((s' ≡ s) × ((raised_story st s i).sure s' ≡ suc (suc i))) ⊎ ((raised_story st s i).sure s' ≡ st.sure s')
    sure_cases s' = dite (ℕ_discrete s' s) (λ d. inl (d, ap (raised_story st s i).sure d ∙ sure_now)) (λ n. inr (sure_else s' n))

    grows : Core (raised_mem m u t) (raised_story st s i)
    grows = record {
      spotted = c.spotted;
      passed = raised_passed;
      standing = raised_standing;
      sure_most = λ s'. let x = c.sure_most s' in let y = tag_within st s (suc i) t l.to in ⊎_elim (λ d. let z = ap (λ (j : ℕ). length (st.log j)) d.0 in let q = d.1 in omega arith) (λ d. omega arith) (sure_cases s');
      sure_all = λ s'. let x = c.sure_all s' in ⊎_elim (λ d. let z = ap st.sure d.0 in let q = d.1 in omega arith) (λ d. omega arith) (sure_cases s');
      rooted = λ s' h. let x = c.rooted s' h in ⊎_elim (λ d. let z = ap st.sure d.0 in let q = d.1 in omega arith) (λ d. omega arith) (sure_cases s');
      bare = c.bare;
      led = c.led;
      root = c.root;
      froot = λ s'. ⊎_elim inl (λ h. inr record { empty = h.empty; unnamed = h.unnamed; alone = h.alone; dead = h.dead }) (c.froot s');
      loose = raised_loose;
      held = c.held;
      chained = c.chained;
    }

  pub raise_core : Core (raised_mem m u t) (raised_story st s i)
  raise_core = go (dec_le (st.gone s) i) (dec_le (suc (suc i)) (st.sure s))
    where
      go : Dec (st.gone s ≤ i) → Dec (suc (suc i) ≤ st.sure s) → Core (raised_mem m u t) (raised_story st s i)
      go (no n) d = nothing (⊎_elim (λ h. kept_below h) (λ h. kept_equal (h ∙ ap (word (age u)) l.to)) (c.passed s i u l.from (omega arith)).safe) (let a = lead_sure in let b = c.led s in omega arith)
      go (yes g) (yes d) = nothing (kept_equal ((c.standing s i u l.from g).safe ∙ ap (word (age u)) (only_less (suc i) (st.sure s) (tag_at st s (suc i)) (omega arith) ∙ l.to))) d
      go (yes g) (no d) = grows g (let a = c.sure_all s in let b = tag_within st s (suc i) t l.to in omega arith)
