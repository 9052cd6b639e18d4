-- Parts of the rule follow from the core facts.
use Rattle.std.proofs.Common.{◌≡◌, ℕ, zero, suc, ◌+◌, ◌-◌, ◌*◌, ◌<◌, ◌≤◌, ◌≢◌, ◌⊎◌, List, [], ◌∷◌, length, drop, Bool, true, cond, eqb, ltb, refl, sym, ap, ◌∙◌, inl, inr, ⊎_elim, arith, subst, eq-eqb, ne_eqb}
use native.Mathlib.Decide.{ℕ_discrete, dec_le}
use Rattle.std.specs.Prelude.{Option, Some, None}
use Rattle.std.proofs.lemmas.Bool.{lt-ltb}
use Rattle.std.proofs.lemmas.Bool.Decides.{nat_tests}
use Rattle.clover_words.specs.Tag.{home, age}
use Rattle.clover_rule.specs.History.{Version}
use Rattle.clover_rule.specs.Image.{tags}
use Rattle.clover_rule.specs.Lists.{nth, Within}
use Rattle.clover_rule.specs.Memory.{Next, word, gen, link, Mem}
use Rattle.clover_rule.specs.Chains.{Walk, ChainsStand, AllButLast, Falls}
use Rattle.clover_rule.specs.Holding.{recycled_by}
use Rattle.clover_rule.specs.Known.{IsKnown, IsTarget}
use Rattle.clover_rule.specs.declared.view.ServerTask.{ServerTask}
use Rattle.clover_rule.specs.Story.{Place, Chained, Stocked, Free, Worn, Taken, Loose, Story, tag_in_version, tag_at, only, Core, Durable}
use Rattle.clover_rule.specs.Views.{IsLink, Past}
use Rattle.clover_rule.specs.declared.view.Link.{Link}
use Rattle.clover_rule.proofs.Tools.{nth_none, nth_past}
use Rattle.clover_rule.proofs.Standings.{tag_there, tag_within, one_buffer}

drop_all : (n : ℕ) (ws : List Version) → length ws ≤ n → drop n ws ≡ []
drop_all zero [] h = refl
drop_all (suc n) [] h = refl
drop_all zero (w ∷ ws) h = absurd (omega arith)
drop_all (suc n) (w ∷ ws) h = drop_all n ws (omega arith)

drop_next : (n : ℕ) (ws : List Version) (w : Version) → nth ws n ≡ Some w → drop n ws ≡ w ∷ drop (suc n) ws
drop_next n [] w e = absurd cc
drop_next zero (x ∷ ws) w e = ap (λ (y : Version). y ∷ ws) (let q : x ≡ w = cc in q)
drop_next (suc n) (x ∷ ws) w e = drop_next n ws w e

within_drop : (p i : ℕ) (ws : List Version) (w : Version) → nth ws i ≡ Some w → p ≤ i → Within w.tag (tags (drop p ws))
within_drop p i [] w e h = absurd cc
within_drop zero zero (x ∷ ws) w e h = inl (ap (λ (y : Version). y.tag) (let q : x ≡ w = cc in q))
within_drop zero (suc i) (x ∷ ws) w e h = inr (within_drop zero i ws w e (omega arith))
within_drop (suc p) zero (x ∷ ws) w e h = absurd (omega arith)
within_drop (suc p) (suc i) (x ∷ ws) w e h = within_drop p i ws w e (omega arith)

pub drop_within : (p : ℕ) (ws : List Version) (t : ℕ) → Within t (tags (drop p ws)) → (i : ℕ) × (p ≤ i) × (tag_in_version (nth ws i) ≡ Some t)
drop_within zero [] t w = absurd w
drop_within (suc p) [] t w = absurd w
drop_within zero (x ∷ ws) t w = ⊎_elim (λ q. (zero, omega arith, ap Some q)) (λ q. let r = drop_within zero ws t q in (suc r.0, omega arith, r.2)) w
drop_within (suc p) (x ∷ ws) t w = let r = drop_within p ws t w in (suc r.0, let q = r.1 in omega arith, r.2)

-- the chain of a slot, and the version under recycling, from the store of the root on
abbrev pub chain_of : Story → ℕ → List ℕ
chain_of st s = tags (drop (st.lead s) (st.log s))

abbrev pub recycled_of : Story → ℕ → Option ℕ
recycled_of st s = cond (eqb (st.lead s) (st.gone s)) None (tag_at st s (st.gone s))

module _ (m : Mem) (st : Story) (c : Core m st) where
  abbrev chain : ℕ → List ℕ
  chain s = chain_of st s

  abbrev held : ℕ → Option ℕ
  held s = recycled_of st s

  pub on_chain : (s i t : ℕ) → tag_at st s i ≡ Some t → st.lead s ≤ i → Within t (chain s)
  on_chain s i t e h = let w = tag_there st s i t e in subst (λ (x : ℕ). Within x (chain s)) w.2 (within_drop (st.lead s) i (st.log s) w.0 w.1 h)

  pub is_held : (s i t : ℕ) → tag_at st s i ≡ Some t → st.gone s ≤ i → i < st.lead s → held s ≡ Some t
  is_held s i t e g h = let d = c.led s in let q : i ≡ st.gone s = omega arith in let n : st.lead s ≢ st.gone s = λ z. omega arith in rw (ne_eqb (st.lead s) (st.gone s) n) (ap (tag_at st s) (sym q) ∙ e)

  -- what leaves is the task's version under recycling
  pub known : (T : ServerTask) → ((s t : ℕ) → held s ≡ Some t → recycled_by T s ≡ Some t) → (s t : ℕ) → Durable st s t → IsKnown m chain T s t
  known T task s t d = go (dec_le (st.gone s) d.0) (dec_le (st.lead s) d.0) (ℕ_discrete (st.lead s) d.0)
    where
      behind : (i : ℕ) → tag_at st s i ≡ Some t → i < st.sure s → st.lead s < i → IsKnown m chain T s t
      behind zero e h l = absurd (omega arith)
      behind (suc i) e h l = let b = c.led s in
          let w = before (nth (st.log s) i) refl (tag_within st s (suc i) t e) in
          let f : tag_at st s i ≡ Some w.0 = w.1 in
          let x = c.standing s i w.0 f (omega arith) in
          IsKnown.flushed w.0 (on_chain s i w.0 f (omega arith)) (x.safe ∙ ap (word (age w.0)) (ap (λ (b : Bool). only b (tag_at st s (suc i))) (let q : ltb (suc i) (st.sure s) ≡ true = grind (arith, nat_tests) in q) ∙ e)) (on_chain s (suc i) t e (omega arith))
        where
          before : (o : Option Version) → nth (st.log s) i ≡ o → suc i < length (st.log s) → (u : ℕ) × (tag_in_version (nth (st.log s) i) ≡ Some u)
          before None q z = absurd (let y = nth_past (st.log s) i q in omega arith)
          before (Some v) q z = (v.tag, ap tag_in_version q)

      go : Dec (st.gone s ≤ d.0) → Dec (st.lead s ≤ d.0) → Dec (st.lead s ≡ d.0) → IsKnown m chain T s t
      go (no a) x y = IsKnown.passed (c.passed s d.0 t d.1 (omega arith)).later
      go (yes a) (no x) y = IsKnown.recycles (task s t (is_held s d.0 t d.1 a (omega arith)))
      go (yes a) (yes x) (yes y) = IsKnown.leads (c.root s ∙ ap (tag_at st s) y ∙ d.1)
      go (yes a) (yes x) (no y) = behind d.0 d.1 d.2 (omega arith)

  pub target : (T : ServerTask) → ((s t : ℕ) → held s ≡ Some t → recycled_by T s ≡ Some t) → (l : Link) → IsLink st l → IsTarget m chain T l.slot l.to
  target T task l d = go (dec_le (st.gone l.slot) (suc d.0)) (dec_le (st.lead l.slot) (suc d.0))
    where
      go : Dec (st.gone l.slot ≤ suc d.0) → Dec (st.lead l.slot ≤ suc d.0) → IsTarget m chain T l.slot l.to
      go (no a) x = IsTarget.passed (c.passed l.slot (suc d.0) l.to d.2 (omega arith)).later
      go (yes a) (no x) = IsTarget.recycles (task l.slot l.to (is_held l.slot (suc d.0) l.to d.2 a (omega arith)))
      go (yes a) (yes x) = IsTarget.stands (on_chain l.slot (suc d.0) l.to d.2 x)

  -- each link but the last is flushed
  pub flushed_links : (s : ℕ) → AllButLast m (chain s)
  flushed_links s = from s (length (st.log s)) (st.lead s) (let d = c.led s in omega arith) (omega arith)
    where
      one : (s p : ℕ) (a b : Version) (ws : List Version) → st.gone s ≤ p → drop p (st.log s) ≡ a ∷ b ∷ ws → 0 < length ws → m.fnext (home a.tag) ≡ m.next (home a.tag)
      one s p a b ws g e l =
          let f : tag_at st s p ≡ Some a.tag = ap tag_in_version (head_at p (st.log s) a (b ∷ ws) e) in
          let x = c.standing s p a.tag f g in
          let y = ap length e in let z = c.sure_all s in let k : length (drop p (st.log s)) ≤ length (st.log s) - p = drop_length p (st.log s) in
          x.safe ∙ ap (λ (t : Bool). word (age a.tag) (only t (tag_at st s (suc p)))) (let q : ltb (suc p) (st.sure s) ≡ true = lt-ltb (suc p) (st.sure s) (omega arith) in q) ∙ sym x.now
        where
          drop_length : (p : ℕ) (ws : List Version) → length (drop p ws) ≤ length ws - p
          drop_length zero ws = omega arith
          drop_length (suc p) [] = omega arith
          drop_length (suc p) (w ∷ ws) = let h = drop_length p ws in omega arith

          head_at : (p : ℕ) (ws : List Version) (a : Version) (vs : List Version) → drop p ws ≡ a ∷ vs → nth ws p ≡ Some a
          head_at zero [] a vs e = absurd cc
          head_at zero (w ∷ ws) a vs e = let q : w ≡ a = cc in ap Some q
          head_at (suc p) [] a vs e = absurd cc
          head_at (suc p) (w ∷ ws) a vs e = head_at p ws a vs e

      from : (s n p : ℕ) → st.gone s ≤ p → length (st.log s) ≤ p + n → AllButLast m (tags (drop p (st.log s)))
      from s zero p g h = rw (drop_all p (st.log s) (omega arith)) tt
      from s (suc n) p g h = at (drop p (st.log s)) (drop (suc p) (st.log s)) refl refl (from s n (suc p) (omega arith) (omega arith))
        where
          tail_of : (p : ℕ) (ws : List Version) (a : Version) (vs : List Version) → drop p ws ≡ a ∷ vs → drop (suc p) ws ≡ vs
          tail_of zero [] a vs e = absurd cc
          tail_of zero (w ∷ ws) a vs e = let q : ws ≡ vs = cc in q
          tail_of (suc p) [] a vs e = absurd cc
          tail_of (suc p) (w ∷ ws) a vs e = tail_of p ws a vs e

          at : (xs ys : List Version) → drop p (st.log s) ≡ xs → drop (suc p) (st.log s) ≡ ys → AllButLast m (tags ys) → AllButLast m (tags xs)
          at [] ys e f k = tt
          at (a ∷ []) ys e f k = tt
          at (a ∷ b ∷ []) ys e f k = tt
          at (a ∷ b ∷ d ∷ ws) ys e f k = (one s p a b (d ∷ ws) g e (omega arith), subst (λ (z : List Version). AllButLast m (tags z)) (sym f ∙ tail_of p (st.log s) a (b ∷ d ∷ ws) e) k)

  pub chains : ChainsStand m chain
  chains = record {
    walk = λ s. subst (λ (x : Option ℕ). Walk m x (chain s)) (sym (c.root s)) (from s (length (st.log s)) (st.lead s) (let d = c.led s in omega arith) (omega arith));
    apart = λ s s' t t' a b h. let x = drop_within (st.lead s) (st.log s) t a in let y = drop_within (st.lead s') (st.log s') t' b in
        let o = one_buffer m st c s x.0 t s' y.0 t' x.2 (let d = c.led s in let q = x.1 in omega arith) y.2 (let d = c.led s' in let q = y.1 in omega arith) h in (o.0, o.2);
  }
    where
      from : (s n p : ℕ) → st.gone s ≤ p → length (st.log s) ≤ p + n → Walk m (tag_at st s p) (tags (drop p (st.log s)))
      from s zero p g h = rw (drop_all p (st.log s) (omega arith)) (ap tag_in_version (nth_none (st.log s) p (omega arith)))
      from s (suc n) p g h = at (nth (st.log s) p) refl (from s n (suc p) (omega arith) (omega arith))
        where
          at : (o : Option Version) → nth (st.log s) p ≡ o → Walk m (tag_at st s (suc p)) (tags (drop (suc p) (st.log s))) → Walk m (tag_at st s p) (tags (drop p (st.log s)))
          at None q w = rw (drop_all p (st.log s) (nth_past (st.log s) p q)) (ap tag_in_version q)
          at (Some v) q w = let e : tag_at st s p ≡ Some v.tag = ap tag_in_version q in let x = c.standing s p v.tag e g in
              rw (drop_next p (st.log s) v q) (e, ap gen x.now, subst (λ (y : Option ℕ). Walk m y (tags (drop (suc p) (st.log s)))) (sym (ap link x.now)) w)

unfoldable pub tag_of : ℕ → ℕ → ℕ
tag_of b a = b * 1048576 + a

pub tag_of_own : (t : ℕ) → tag_of (home t) (age t) ≡ t
unfolding tag_of home age
tag_of_own t = omega arith

abbrev pub chosen_of : Story → ℕ → Option ℕ → Option ℕ
chosen_of st t None = None
chosen_of st t (Some u) = cond (eqb u t) (tag_at st (st.slot_of t) (suc (st.rank t))) None

-- the link that a tag has or had, by the story
abbrev pub linked_to : Story → ℕ → Option ℕ
linked_to st t = chosen_of st t (tag_at st (st.slot_of t) (st.rank t))

abbrev pub linked_first : ℕ → Option ℕ → List Next → List Next
linked_first a None rest = rest
linked_first a (Some t) rest = word a (Some t) ∷ rest

abbrev pub values : Story → ℕ → ℕ → List Next
values st b zero = linked_first zero (linked_to st (tag_of b zero)) (word zero None ∷ [])
values st b (suc a) = linked_first (suc a) (linked_to st (tag_of b (suc a))) (word (suc a) None ∷ values st b a)

top_falls : (a : ℕ) (o : Option ℕ) (rest : List Next) → Falls (a + a) rest → Falls (suc (suc (a + a))) (linked_first a o (word a None ∷ rest))
top_falls a None rest h = (omega arith, h)
top_falls a (Some t) rest h = (omega arith, (omega arith, h))

pub values_fall : (st : Story) (b a : ℕ) → Falls (suc (suc (a + a))) (values st b a)
values_fall st b zero = top_falls zero (linked_to st (tag_of b zero)) [] tt
values_fall st b (suc a) = top_falls (suc a) (linked_to st (tag_of b (suc a))) (values st b a) (subst (λ (n : ℕ). Falls n (values st b a)) (let e : suc (suc (a + a)) ≡ suc a + suc a = omega arith in e) (values_fall st b a))

within_later : (a : ℕ) (o : Option ℕ) (x : Next) (rest : List Next) → Within x rest → Within x (linked_first a o rest)
within_later a None x rest w = w
within_later a (Some t) x rest w = inr w

below_there : (st : Story) (b a k : ℕ) (x : Next) → Within x (values st b a) → Within x (values st b (k + a))
below_there st b a zero x w = subst (λ (n : ℕ). Within x (values st b n)) (omega arith) w
below_there st b a (suc k) x w = subst (λ (n : ℕ). Within x (values st b n)) (let e : suc (k + a) ≡ suc k + a = omega arith in e) (within_later (suc (k + a)) (linked_to st (tag_of b (suc (k + a)))) x (word (suc (k + a)) None ∷ values st b (k + a)) (inr (below_there st b a k x w)))

unlinked_there : (st : Story) (b a : ℕ) → Within (word a None) (values st b a)
unlinked_there st b zero = within_later zero (linked_to st (tag_of b zero)) (word zero None) (word zero None ∷ []) (inl refl)
unlinked_there st b (suc a) = within_later (suc a) (linked_to st (tag_of b (suc a))) (word (suc a) None) (word (suc a) None ∷ values st b a) (inl refl)

first_there : (a t : ℕ) (o : Option ℕ) (rest : List Next) → o ≡ Some t → Within (word a (Some t)) (linked_first a o rest)
first_there a t None rest e = absurd cc
first_there a t (Some u) rest e = inl (ap (word a) e)

linked_there : (st : Story) (b a t : ℕ) → linked_to st (tag_of b a) ≡ Some t → Within (word a (Some t)) (values st b a)
linked_there st b zero t e = first_there zero t (linked_to st (tag_of b zero)) (word zero None ∷ []) e
linked_there st b (suc a) t e = first_there (suc a) t (linked_to st (tag_of b (suc a))) (word (suc a) None ∷ values st b a) e

-- each value that a word has or had is in the list
pub past_there : (m : Mem) (st : Story) → Core m st → (b : ℕ) (n : Next) → Past m st b n → Within n (values st b (gen (m.next b)))
past_there m st c b (word a None) p = subst (λ (k : ℕ). Within (word a None) (values st b k)) (let q = p.0 in let e : (gen (m.next b) - a) + a ≡ gen (m.next b) = omega arith in e) (below_there st b a (gen (m.next b) - a) (word a None) (unlinked_there st b a))
past_there m st c b (word a (Some t)) p = subst (λ (k : ℕ). Within (word a (Some t)) (values st b k)) (let q = p.0 in let e : (gen (m.next b) - a) + a ≡ gen (m.next b) = omega arith in e) (below_there st b a (gen (m.next b) - a) (word a (Some t)) (linked_there st b a t (go p.1)))
  where
    go : ((Some t ≡ None) ⊎ ((l : Link) × IsLink st l × (home l.from ≡ b) × (age l.from ≡ a) × (Some t ≡ Some l.to))) → linked_to st (tag_of b a) ≡ Some t
    go (inl q) = absurd cc
    go (inr q) =
        let l = q.0 in let d = q.1 in
        let f : tag_of b a ≡ l.from = ap (λ (x : ℕ). tag_of x a) (sym q.2) ∙ ap (tag_of (home l.from)) (sym q.3) ∙ tag_of_own l.from in
        let s = c.spotted l.slot d.0 l.from d.1 in
        ap (linked_to st) f ∙ at l d s ∙ sym q.4
      where
        at : (l : Link) (d : IsLink st l) → (st.slot_of l.from ≡ l.slot) × (st.rank l.from ≡ d.0) → linked_to st l.from ≡ Some l.to
        at l d s = ap (λ (o : Option ℕ). chosen_of st l.from o) (ap (λ (a : ℕ). tag_at st a (st.rank l.from)) s.0 ∙ ap (tag_at st l.slot) s.1 ∙ d.1)
            ∙ ap (λ (b : Bool). cond b (tag_at st (st.slot_of l.from) (suc (st.rank l.from))) None) (eq-eqb l.from l.from refl)
            ∙ ap (λ (a : ℕ). tag_at st a (suc (st.rank l.from))) s.0 ∙ ap (λ (a : ℕ). tag_at st l.slot (suc a)) s.1 ∙ d.2

-- the current value of each next word is one that it has or had
pub current_past : (m : Mem) (st : Story) → Core m st → (b : ℕ) → Past m st b (m.next b)
current_past m st c b = (omega arith, by_place (st.place b) refl)
  where
    unlinked : link (m.next b) ≡ None → (link (m.next b) ≡ None) ⊎ ((l : Link) × IsLink st l × (home l.from ≡ b) × (age l.from ≡ gen (m.next b)) × (link (m.next b) ≡ Some l.to))
    unlinked e = inl e

    on_chain_at : (s i t : ℕ) → tag_at st s i ≡ Some t → st.gone s ≤ i → home t ≡ b → (o : Option ℕ) → tag_at st s (suc i) ≡ o → (link (m.next b) ≡ None) ⊎ ((l : Link) × IsLink st l × (home l.from ≡ b) × (age l.from ≡ gen (m.next b)) × (link (m.next b) ≡ Some l.to))
    on_chain_at s i t e g h None q = inl (ap (λ (x : ℕ). link (m.next x)) (sym h) ∙ ap link (c.standing s i t e g).now ∙ q)
    on_chain_at s i t e g h (Some u) q = inr (record { slot = s; from = t; to = u }, (i, e, q), h, sym (ap (λ (x : ℕ). gen (m.next x)) (sym h) ∙ ap gen (c.standing s i t e g).now), ap (λ (x : ℕ). link (m.next x)) (sym h) ∙ ap link (c.standing s i t e g).now ∙ q)

    by_place : (p : Place) → st.place b ≡ p → (link (m.next b) ≡ None) ⊎ ((l : Link) × IsLink st l × (home l.from ≡ b) × (age l.from ≡ gen (m.next b)) × (link (m.next b) ≡ Some l.to))
    by_place (Chained s) e = let x = c.chained b s e in on_chain_at s x.0 x.1 x.2 x.3 x.4 (tag_at st s (suc x.0)) refl
    by_place (Stocked j) e = inl (c.loose b (subst Loose (sym e) tt)).0
    by_place Free e = inl (c.loose b (subst Loose (sym e) tt)).0
    by_place Worn e = inl (c.loose b (subst Loose (sym e) tt)).0
    by_place Taken e = inl (c.held b e)
