-- The slots of an image that have a root, listed in ascending order: each once, as many as there are, and found by their keys.
use Rattle.std.proofs.Common.{◌≡◌, ℕ, zero, suc, ◌+◌, ◌<◌, ◌≤◌, ◌≢◌, List, [], ◌∷◌, length, Bool, true, false, cond, refl, sym, ap, ◌∙◌, inl, inr, ⊎_elim, arith, subst, is_some, true≢false, zero-add}
use native.Mathlib.Decide.{ℕ_discrete}
use mathlib.Core.Logic.{dite}
use Rattle.std.specs.Prelude.{Option, Some, None}
use Rattle.std.specs.Str.{bytes_eq}
use Rattle.std.proofs.lemmas.Slice.Eq.{bytes_eq-Decides}
use Rattle.clover_map.specs.Key.{IsKey}
use Rattle.clover_rule.specs.Content.{Spells}
use Rattle.clover_rule.specs.Image.{Image}
use Rattle.clover_rule.specs.Lists.{Within, nth}
use Rattle.clover_rule.specs.Restart.{AreBindings, how_many}
use Rattle.clover_rule.specs.Views.{SlotsOnce}
use Rattle.clover_rule.proofs.Keys.{eq_key}
use Rattle.clover_rule.proofs.Bindings.{nth_among}

-- the first slot with this key in the list
pub slot_of : List (ℕ × List ℕ) → List ℕ → ℕ
slot_of [] k = 0
slot_of (x ∷ xs) k = cond (bytes_eq x.1 k) x.0 (slot_of xs k)

-- where a slot with this key is in the list, the first one is
pub slot_there : (list : List (ℕ × List ℕ)) (k : List ℕ) (s : ℕ) → Within (s, k) list → Within (slot_of list k, k) list
unfolding slot_of
slot_there [] k s w = absurd w
slot_there (x ∷ xs) k s w = go (bytes_eq x.1 k) refl (slot_there xs k s)
  where
    go : (t : Bool) → bytes_eq x.1 k ≡ t → (Within (s, k) xs → Within (slot_of xs k, k) xs) → Within (cond t x.0 (slot_of xs k), k) (x ∷ xs)
    go true e rec = inl (ap (λ (j : List ℕ). (x.0, j)) ((bytes_eq-Decides x.1 k).0 e))
    go false e rec = ⊎_elim (λ q. absurd (true≢false (sym (eq_key x.1 k (ap (λ (y : ℕ × List ℕ). y.1) q)) ∙ e))) (λ v. inr (rec v)) w

module _ (im : Image) where
  -- what the list says of one of its elements
  pub record IsBinding (q : ℕ) (x : ℕ × List ℕ) : Type 0 where
    pub from : q ≤ x.0
    pub rooted : im.root x.0 ≢ None
    pub valid : IsKey x.1
    pub spells : Spells (im.key x.0) x.1

  later : (q : ℕ) (x : ℕ × List ℕ) → IsBinding (suc q) x → IsBinding q x
  later q x a = record { from = (let z = a.from in omega arith); rooted = a.rooted; valid = a.valid; spells = a.spells }

  pub each_binding : (q n : ℕ) (list : List (ℕ × List ℕ)) → AreBindings im q n list → (x : ℕ × List ℕ) → Within x list → IsBinding q x
  each_binding q zero list a x w = absurd (subst (Within x) a w)
  each_binding q (suc n) [] a x w = absurd w
  each_binding q (suc n) (y ∷ ys) a x w = ⊎_elim
      (λ h. later q x (each_binding (suc q) n (y ∷ ys) h.1 x w))
      (λ h. ⊎_elim (λ e. subst (IsBinding q) e (here h.0 h.1 h.2 h.3)) (λ v. later q x (each_binding (suc q) n ys h.4 x v)) w) a
    where
      here : im.root q ≢ None → y.0 ≡ q → IsKey y.1 → Spells (im.key q) y.1 → IsBinding q y
      here r e k s = record { from = omega arith; rooted = subst (λ (t : ℕ). im.root t ≢ None) (sym e) r; valid = k; spells = subst (λ (t : ℕ). Spells (im.key t) y.1) (sym e) s }

  -- each slot with a root is in the list
  pub each_listed : (q n : ℕ) (list : List (ℕ × List ℕ)) → AreBindings im q n list → (s : ℕ) → q ≤ s → s < q + n → im.root s ≢ None → (k : List ℕ) × Within (s, k) list
  each_listed q zero list a s lo hi r = absurd (omega arith)
  each_listed q (suc n) [] a s lo hi r = dite (ℕ_discrete s q) (λ e. absurd (r (ap im.root e ∙ a.0))) (λ ne. each_listed (suc q) n [] a.1 s (omega arith) (omega arith) r)
  each_listed q (suc n) (y ∷ ys) a s lo hi r = ⊎_elim
      (λ h. dite (ℕ_discrete s q) (λ e. absurd (r (ap im.root e ∙ h.0))) (λ ne. each_listed (suc q) n (y ∷ ys) h.1 s (omega arith) (omega arith) r))
      (λ h. dite (ℕ_discrete s q) (λ e. (y.1, inl (ap (λ (t : ℕ). (t, y.1)) (h.1 ∙ sym e)))) (λ ne. let b = each_listed (suc q) n ys h.4 s (omega arith) (omega arith) r in (b.0, inr b.1))) a

  -- no slot stands twice
  pub slots_once : (q n : ℕ) (list : List (ℕ × List ℕ)) → AreBindings im q n list → SlotsOnce list
  slots_once q n [] a i j s k k1 e f = absurd cc
  slots_once q zero (y ∷ ys) a i j s k k1 e f = absurd (let z : y ∷ ys ≡ [] = a in cc)
  slots_once q (suc n) (y ∷ ys) a i j s k k1 e f = ⊎_elim (λ h. slots_once (suc q) n (y ∷ ys) h.1 i j s k k1 e f) (λ h. go h.1 h.4 (slots_once (suc q) n ys h.4) i j e f) a
    where
      behind : AreBindings im (suc q) n ys → y.0 ≡ q → (i : ℕ) (k : List ℕ) → nth ys i ≡ Some (s, k) → y.0 ≡ s → ⊥
      behind h at i k e z = let b = each_binding (suc q) n ys h (s, k) (nth_among ys i (s, k) e) in let u = b.from in absurd (omega arith)

      first : (k : List ℕ) → ◌≡◌ {A = Option (ℕ × List ℕ)} (Some y) (Some (s, k)) → y.0 ≡ s
      first k e = let z : y ≡ (s, k) = cc in ap (λ (x : ℕ × List ℕ). x.0) z

      go : y.0 ≡ q → AreBindings im (suc q) n ys → SlotsOnce ys → (i j : ℕ) → nth (y ∷ ys) i ≡ Some (s, k) → nth (y ∷ ys) j ≡ Some (s, k1) → i ≡ j
      go at h once zero zero e f = refl
      go at h once zero (suc j) e f = absurd (behind h at j k1 f (first k e))
      go at h once (suc i) zero e f = absurd (behind h at i k e (first k1 f))
      go at h once (suc i) (suc j) e f = ap suc (once i j s k k1 e f)

  -- how many slots below q have a root
  abbrev rooted_below : ℕ → ℕ
  rooted_below q = how_many (λ (s : ℕ). is_some (im.root s)) q

  one_more : (q : ℕ) → im.root q ≢ None → rooted_below (suc q) ≡ suc (rooted_below q)
  one_more q r = go (im.root q) refl
    where
      go : (x : Option ℕ) → im.root q ≡ x → cond (is_some x) (suc (rooted_below q)) (rooted_below q) ≡ suc (rooted_below q)
      go None e = absurd (r e)
      go (Some t) e = refl

  none_more : (q : ℕ) → im.root q ≡ None → rooted_below (suc q) ≡ rooted_below q
  none_more q e = ap (λ (x : Option ℕ). cond (is_some x) (suc (rooted_below q)) (rooted_below q)) e

  next_slot : (q n : ℕ) → rooted_below (q + suc n) ≡ rooted_below (suc q + n)
  next_slot q n = ap rooted_below (let e : q + suc n ≡ suc q + n = omega arith in e)

  -- the list is as long as slots have a root
  counted : (q n : ℕ) (list : List (ℕ × List ℕ)) → AreBindings im q n list → rooted_below (q + n) ≡ rooted_below q + length list
  counted q zero list a = let e : rooted_below (q + 0) ≡ rooted_below q = ap rooted_below (let z : q + 0 ≡ q = omega arith in z) in let l : length list ≡ 0 = ap (λ (xs : List (ℕ × List ℕ)). length xs) a in omega arith
  counted q (suc n) [] a = next_slot q n ∙ counted (suc q) n [] a.1 ∙ ap (λ (k : ℕ). k + 0) (none_more q a.0)
  counted q (suc n) (y ∷ ys) a = next_slot q n ∙ ⊎_elim (λ h. counted (suc q) n (y ∷ ys) h.1 ∙ ap (λ (k : ℕ). k + length (y ∷ ys)) (none_more q h.0))
      (λ h. counted (suc q) n ys h.4 ∙ ap (λ (k : ℕ). k + length ys) (one_more q h.0) ∙ (let e : suc (rooted_below q) + length ys ≡ rooted_below q + suc (length ys) = omega arith in e)) a

  pub all_counted : (n : ℕ) (list : List (ℕ × List ℕ)) → AreBindings im 0 n list → rooted_below n ≡ length list
  all_counted n list a = ap rooted_below (sym (zero-add n)) ∙ counted 0 n list a ∙ zero-add (length list)
