-- What else each image of a cut has: a worn buffer is unlinked, and used tags are in the pool, below the wear and not above the image.
use Rattle.std.proofs.Common.{◌≡◌, ℕ, ◌<◌, ◌≤◌, List, [], ◌∷◌, Bool, true, false, refl, sym, ap, ◌∙◌, ⊎_elim, arith, subst}
use Rattle.std.specs.Prelude.{None}
use Rattle.clover_words.specs.declared.pool.Pool.{Pool}
use Rattle.clover_words.specs.Tag.{home, age}
use Rattle.clover_map.specs.declared.call.Entry.{Entry}
use Rattle.clover_map.specs.Tagged.{Tagged}
use Rattle.clover_rule.specs.Content.{inside}
use Rattle.clover_map.specs.Legal.{used_by}
use Rattle.clover_rule.specs.Image.{Image, IsImage}
use Rattle.clover_rule.specs.Lists.{Each}
use Rattle.clover_rule.specs.Memory.{Mem, Next, word, gen, link}
use Rattle.clover_rule.specs.Server.{Whole}
use Rattle.clover_rule.specs.Story.{Place, Chained, Stocked, Free, Worn, Taken, Loose, Story, Core}
use Rattle.clover_rule.specs.Views.{Spent}
use Rattle.clover_rule.specs.declared.view.View.{View}
use Rattle.clover_rule.proofs.Restarts.{cut_used}
use Rattle.clover_rule.proofs.Standings.{by_held}

each_pair : {A : Type 0} (P Q R : A → Type 0) (xs : List A) → ((x : A) → P x → Q x → R x) → Each P xs → Each Q xs → Each R xs
each_pair P Q R [] f a b = tt
each_pair P Q R (x ∷ xs) f a b = (f x a.0 b.0, each_pair P Q R xs f a.1 b.1)

module _ (l : Pool) (m0 : Tagged) (used : List ℕ) (m : Mem) (vs : List View) (st : Story) (h : List Entry) (w : Whole l m0 used m vs st h) where
  abbrev c : Core m st
  c = w.basis.core

  -- neither copy of a next word is at the wear and linked
  abbrev AtRest : Next → Type 0
  AtRest x = gen x ≡ l.wear → link x ≡ None

  at_place : (b : ℕ) (q : Place) → st.place b ≡ q → AtRest (m.next b) × AtRest (m.fnext b)
  at_place b (Chained s) e =
      let a = c.chained b s e in let x = c.standing s a.0 a.1 a.2 a.3 in let y = (w.help.ranged.tags s a.0 a.1 a.2).1 in
      let g : gen (m.next b) ≡ age a.1 = ap gen (ap m.next (sym a.4) ∙ x.now) in
      let f : gen (m.fnext b) ≡ age a.1 = ap gen (ap m.fnext (sym a.4) ∙ x.safe) in
      (λ z. absurd (omega arith), λ z. absurd (omega arith))
  at_place b (Stocked i) e = let o = c.loose b (subst Loose (sym e) tt) in (λ z. o.0, λ z. ap link o.1 ∙ o.0)
  at_place b Free e = let o = c.loose b (subst Loose (sym e) tt) in (λ z. o.0, λ z. ap link o.1 ∙ o.0)
  at_place b Worn e = let o = c.loose b (subst Loose (sym e) tt) in (λ z. o.0, λ z. ap link o.1 ∙ o.0)
  at_place b Taken e = by_held l m st (λ T. AtRest (m.next b) × AtRest (m.fnext b)) st.task b w.help.stage.here (w.help.stage.holds b e) (λ bind n q a. (λ u. ap link (ap m.next (sym q) ∙ a.now), λ u. ap link (ap m.fnext (sym q) ∙ a.safe)))
      (λ cycle q a. let g : gen (m.fnext b) ≡ age cycle.root = ap gen (ap m.fnext (sym q) ∙ a.safe) in let d = a.young in (λ u. ap link (ap m.next (sym q) ∙ a.now), λ u. absurd (omega arith)))

  module _ (outside : (b : ℕ) → inside l b ≡ false → m.next b ≡ word 0 None) (im : Image) (is : IsImage m im) where
    pub cut_rested : (b : ℕ) → gen (im.next b) ≡ l.wear → link (im.next b) ≡ None
    cut_rested b e = let r = at_place b (st.place b) refl in ⊎_elim (λ q. ap link q ∙ r.0 (sym (ap gen q) ∙ e)) (λ q. ap link q ∙ r.1 (sym (ap gen q) ∙ e)) (is.next b)

    in_pool : (t : ℕ) → Spent m st t → inside l (home t) ≡ true
    in_pool t s = go (inside l (home t)) refl
      where
        go : (x : Bool) → inside l (home t) ≡ x → inside l (home t) ≡ true
        go true e = e
        go false e = ⊎_elim (λ a. absurd (let z = ap gen (outside (home t) e) in omega arith)) (λ a. let d = c.chained (home t) a.0 a.1 in ap (inside l) (sym d.4) ∙ (w.help.ranged.tags a.0 d.0 d.1 d.2).0) s

    pub cut_ages : Each (λ (t : ℕ). (inside l (home t) ≡ true) × (age t < l.wear) × (age t ≤ gen (im.next (home t)))) (used_by used h)
    cut_ages = each_pair (Spent m st) _ _ (used_by used h) (λ t s a. (in_pool t s, a.0, a.1)) w.basis.spent (cut_used l m0 used m vs st h w im is)
