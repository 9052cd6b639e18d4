-- Lists read by place, and functions changed at one place.
use Rattle.std.proofs.Common.{◌≡◌, ℕ, zero, suc, ◌<◌, ◌≤◌, ◌≢◌, ◌⊎◌, List, [], ◌∷◌, ◌++◌, length, true, false, eqb, ◌&&◌, refl, sym, ap, ◌∙◌, inl, inr, ⊎_elim, arith, eq-eqb, ne_eqb, true≢false}
use Rattle.std.specs.Prelude.{Some, None}
use Rattle.clover_rule.specs.Lists.{nth, upd, Each}

module _ {A : Type 0} where
  pub upd_same : (f : ℕ → A) (i : ℕ) (a : A) → upd f i a i ≡ a
  upd_same f i a = rw (eq-eqb i i refl)

  pub upd_else : (f : ℕ → A) (i j : ℕ) (a : A) → j ≢ i → upd f i a j ≡ f j
  upd_else f i j a n = rw (ne_eqb i j (λ e. n (sym e)))

  pub nth_snoc : (l : List A) (a b : A) (i : ℕ) → nth (l ++ a ∷ []) i ≡ Some b → (nth l i ≡ Some b) ⊎ ((i ≡ length l) × (a ≡ b))
  nth_snoc [] a b zero e = inr (refl, cc)
  nth_snoc [] a b (suc i) e = absurd cc
  nth_snoc (x ∷ l) a b zero e = inl e
  nth_snoc (x ∷ l) a b (suc i) e = ⊎_elim (λ h. inl h) (λ h. inr (ap suc h.0, h.1)) (nth_snoc l a b i e)

  pub nth_front : (l : List A) (a : A) (i : ℕ) → i ≢ length l → nth (l ++ a ∷ []) i ≡ nth l i
  nth_front [] a zero n = absurd (n refl)
  nth_front [] a (suc i) n = refl
  nth_front (x ∷ l) a zero n = refl
  nth_front (x ∷ l) a (suc i) n = nth_front l a i (λ e. n (ap suc e))

  pub nth_last : (l : List A) (a : A) → nth (l ++ a ∷ []) (length l) ≡ Some a
  nth_last [] a = refl
  nth_last (x ∷ l) a = nth_last l a

  pub nth_within : (l : List A) (i : ℕ) (b : A) → nth l i ≡ Some b → i < length l
  nth_within [] i b e = absurd cc
  nth_within (x ∷ l) zero b e = omega arith
  nth_within (x ∷ l) (suc i) b e = let h = nth_within l i b e in omega arith

  pub nth_some : (l : List A) (i : ℕ) → i < length l → (x : A) × (nth l i ≡ Some x)
  nth_some [] i h = absurd (omega arith)
  nth_some (x ∷ l) zero h = (x, refl)
  nth_some (x ∷ l) (suc i) h = nth_some l i (omega arith)

  pub nth_past : (l : List A) (i : ℕ) → nth l i ≡ None → length l ≤ i
  nth_past [] i e = omega arith
  nth_past (x ∷ l) zero e = absurd cc
  nth_past (x ∷ l) (suc i) e = let h = nth_past l i e in omega arith

  pub nth_none : (l : List A) (i : ℕ) → length l ≤ i → nth l i ≡ None
  nth_none [] i h = refl
  nth_none (x ∷ l) zero h = absurd (omega arith)
  nth_none (x ∷ l) (suc i) h = nth_none l i (omega arith)

  pub length_snoc : (a : A) (l : List A) → length (l ++ a ∷ []) ≡ suc (length l)
  length_snoc a [] = refl
  length_snoc a (x ∷ l) = ap suc (length_snoc a l)

-- a place that differs from a word's differs by the second number where the first is the same
pub other_place : (c t j k : ℕ) → c ≡ t → eqb c t && eqb k j ≡ false → k ≢ j
other_place c t j k e f = λ q. true≢false (sym (let a : eqb c t && eqb k j ≡ true = rw (eq-eqb c t e, eq-eqb k j q) refl in a) ∙ f)

-- what holds of each of two lists
pub each_both : {A : Type 0} (P : A → Type 0) (xs ys : List A) → Each P xs → Each P ys → Each P (xs ++ ys)
each_both P [] ys a b = b
each_both P (x ∷ xs) ys a b = (a.0, each_both P xs ys a.1 b)
