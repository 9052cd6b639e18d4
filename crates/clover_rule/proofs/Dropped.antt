-- A spent view at the end goes: what the others say stays.
use Rattle.std.proofs.Common.{◌≡◌, ℕ, List, [], ◌∷◌, ◌++◌, length, refl, sym, ap, ◌∙◌, ⊎_elim, arith, subst}
use Rattle.std.specs.Prelude.{Some}
use Rattle.clover_map.specs.declared.call.Entry.{Entry}
use Rattle.clover_map.specs.Tagged.{Tagged}
use Rattle.clover_rule.specs.Lists.{nth, IsPrefix}
use Rattle.clover_rule.specs.Memory.{Mem}
use Rattle.clover_rule.specs.Server.{Whole}
use Rattle.clover_rule.specs.Story.{Stocked, Story}
use Rattle.clover_rule.specs.declared.view.View.{View}
use Rattle.clover_words.specs.declared.pool.Pool.{Pool}
use Rattle.clover_rule.proofs.Hands.{hand_whole}
use Rattle.clover_rule.proofs.Tools.{nth_within, nth_snoc, nth_front}

module _ (l : Pool) (m0 : Tagged) (used : List ℕ) (m : Mem) (vs : List View) (spent : View) (st : Story) (h : List Entry) (w : Whole l m0 used m (vs ++ spent ∷ []) st h) (bare : spent.pass.history ≡ []) (some : (i : ℕ) × (v : View) × (nth vs i ≡ Some v)) where
  front : (i : ℕ) (y : View) → nth vs i ≡ Some y → nth (vs ++ spent ∷ []) i ≡ Some y
  front i y e = nth_front vs spent i (λ z. let a = nth_within vs i y e in absurd (omega arith)) ∙ e

  empty_prefix : (xs zs : List Entry) → [] ≡ xs ++ zs → xs ≡ []
  empty_prefix [] zs f = refl
  empty_prefix (x ∷ xs) zs f = absurd (let g = ap length f in omega arith)

  longest : (i : ℕ) × (y : View) × (nth vs i ≡ Some y) × (y.pass.history ≡ h)
  longest = let o = w.basis.longest in ⊎_elim (λ a. (o.0, o.1, a, o.3))
      (λ a. let none : h ≡ [] = sym o.3 ∙ ap (λ (v : View). v.pass.history) (sym a.1) ∙ bare in
      let k = subst (IsPrefix some.1.pass.history) none (w.basis.views some.0 some.1 (front some.0 some.1 some.2)).history in
      (some.0, some.1, some.2, empty_prefix some.1.pass.history k.0 k.1 ∙ sym none)) (nth_snoc vs spent o.1 o.0 o.2)

  pub dropped : Whole l m0 used m vs st h
  dropped = hand_whole l m0 used m (vs ++ spent ∷ []) st h w [] (Stocked 0) 0 tt tt vs
      (λ i y e. w.basis.views i y (front i y e))
      (λ i j n y z e f s t. w.basis.numbered i j n y z (front i y e) (front j z f) s t)
      longest
      (λ i y e s. w.serves i y (front i y e) s)
      (λ i j y z e f s t. w.one i j y z (front i y e) (front j z f) s t)
      (λ i j n y z e f s t. w.made i j n y z (front i y e) (front j z f) s t)
      (λ i y e s. w.entered i y (front i y e) s)
