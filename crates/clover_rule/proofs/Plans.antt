-- A restart's plan: its parts, what each of its stores is, and what its roots and lifts leave.
use Rattle.std.proofs.Common.{◌≡◌, ℕ, zero, suc, ◌+◌, ◌<◌, ◌≤◌, ◌≢◌, List, [], ◌∷◌, Bool, true, false, cond, refl, sym, ap, ◌∙◌, inl, inr, ⊎_elim, arith, subst}
use native.Mathlib.Decide.{ℕ_discrete}
use mathlib.Core.Logic.{dite}
use Rattle.std.specs.Prelude.{Option, None}
use Rattle.clover_rule.specs.Lists.{upd, Each, Within}
use Rattle.clover_rule.specs.Memory.{Mem, Next}
use Rattle.clover_rule.specs.Restart.{clears, lifts}
use Rattle.clover_rule.specs.declared.view.RestartStore.{RestartStore}
use Rattle.clover_rule.specs.declared.view.RestartStore.TheVariants.{ClearRoot, ClearFlushedRoot, Lift, LiftFlushed, SetCount}
use Rattle.clover_rule.proofs.RestartStores.{store_mem, stores_mem, IsClear, Cleared, up}
use Rattle.clover_rule.proofs.Tools.{upd_same, upd_else}

-- what holds of both stores of each such slot
pub each_clear : (P : RestartStore → Type 0) (f : ℕ → Bool) → ((s : ℕ) → f s ≡ true → P (ClearRoot s) × P (ClearFlushedRoot s)) → (s n : ℕ) → Each P (clears f s n)
each_clear P f h s zero = tt
each_clear P f h s (suc n) = go (each_clear P f h (suc s) n) (f s) refl
  where
    go : Each P (clears f (suc s) n) → (x : Bool) → f s ≡ x → Each P (cond x (ClearRoot s ∷ ClearFlushedRoot s ∷ clears f (suc s) n) (clears f (suc s) n))
    go r true e = ((h s e).0, ((h s e).1, r))
    go r false e = r

-- what holds of both stores of each such buffer
pub each_lift : (P : RestartStore → Type 0) (f : ℕ → Bool) (g : ℕ → ℕ) (bs : List ℕ) → ((b : ℕ) → Within b bs → f b ≡ true → P (Lift b (suc (g b))) × P (LiftFlushed b (suc (g b)))) → Each P (lifts f g bs)
each_lift P f g [] h = tt
each_lift P f g (b ∷ bs) h = go (each_lift P f g bs (λ c w. h c (inr w))) (f b) refl
  where
    go : Each P (lifts f g bs) → (x : Bool) → f b ≡ x → Each P (cond x (Lift b (suc (g b)) ∷ LiftFlushed b (suc (g b)) ∷ lifts f g bs) (lifts f g bs))
    go r true e = ((h b (inl refl) e).0, ((h b (inl refl) e).1, r))
    go r false e = r

-- the slot has no root in either copy
abbrev pub IsBare : Mem → ℕ → Type 0
IsBare m s = (m.root s ≡ None) × (m.froot s ≡ None)

none_stays : (f : ℕ → Option ℕ) (t s : ℕ) → f s ≡ None → upd f t None s ≡ None
none_stays f t s a = dite (ℕ_discrete s t) (λ q. ap (upd f t None) q ∙ upd_same f t None) (λ n. upd_else f t s None n ∙ a)

bare_stays : (m : Mem) (xs : List RestartStore) (s : ℕ) → Each IsClear xs → IsBare m s → IsBare (stores_mem m xs) s
bare_stays m [] s e a = a
bare_stays m (ClearRoot t ∷ xs) s e a = bare_stays (store_mem m (ClearRoot t)) xs s e.1 (none_stays m.root t s a.0, a.1)
bare_stays m (ClearFlushedRoot t ∷ xs) s e a = bare_stays (store_mem m (ClearFlushedRoot t)) xs s e.1 (a.0, none_stays m.froot t s a.1)
bare_stays m (Lift b x ∷ xs) s e a = absurd e.0
bare_stays m (LiftFlushed b x ∷ xs) s e a = absurd e.0
bare_stays m (SetCount n ∷ xs) s e a = absurd e.0

module _ (gone : ℕ → Bool) where
  pub clears_clear : (s n : ℕ) → Each IsClear (clears gone s n)
  clears_clear s n = each_clear IsClear gone (λ t e. (tt, tt)) s n

  cleared_at : (m : Mem) (q n s : ℕ) → q ≤ s → s < q + n → gone s ≡ true → IsBare (stores_mem m (clears gone q n)) s
  cleared_at m q zero s lo hi d = absurd (omega arith)
  cleared_at m q (suc n) s lo hi d = dite (ℕ_discrete s q) here (λ ne. there (cleared_at (both m q) (suc q) n s (past ne) (omega arith) d) (cleared_at m (suc q) n s (past ne) (omega arith) d) (gone q))
    where
      both : Mem → ℕ → Mem
      both m q = store_mem (store_mem m (ClearRoot q)) (ClearFlushedRoot q)

      at : Bool → Type 0
      at x = IsBare (stores_mem m (cond x (ClearRoot q ∷ ClearFlushedRoot q ∷ clears gone (suc q) n) (clears gone (suc q) n))) s

      here : s ≡ q → at (gone q)
      here e = subst at (sym (ap gone (sym e) ∙ d)) (bare_stays (both m q) (clears gone (suc q) n) s (clears_clear (suc q) n) (ap (upd m.root q None) e ∙ upd_same m.root q None, ap (upd m.froot q None) e ∙ upd_same m.froot q None))

      past : s ≢ q → suc q ≤ s
      past ne = omega arith

      there : at true → at false → (x : Bool) → at x
      there a c true = a
      there a c false = c

  -- clearing slots below n leaves each of them that is gone without a root
  pub clears_all : (on : ℕ → Bool) (g : ℕ → ℕ) (m : Mem) (n : ℕ) → ((s : ℕ) → gone s ≡ true → s < n) → Cleared gone on g (stores_mem m (clears gone 0 n))
  clears_all on g m n h = record { root = λ s e. (cleared_at m 0 n s (omega arith) (let a = h s e in omega arith) e).0; froot = λ s e. (cleared_at m 0 n s (omega arith) (let a = h s e in omega arith) e).1 }

module _ (gone on : ℕ → Bool) (g : ℕ → ℕ) where
  -- both copies of a next word are this one
  abbrev pub AreNext : Mem → ℕ → Next → Type 0
  AreNext m b x = (m.next b ≡ x) × (m.fnext b ≡ x)

  abbrev lifted : Mem → ℕ → Mem
  lifted m c = store_mem (store_mem m (Lift c (suc (g c)))) (LiftFlushed c (suc (g c)))

  abbrev after_lifts : Mem → ℕ → List ℕ → Bool → Mem
  after_lifts m c cs x = stores_mem m (cond x (Lift c (suc (g c)) ∷ LiftFlushed c (suc (g c)) ∷ lifts on g cs) (lifts on g cs))

  -- what holds after the lifts of the rest, whether a buffer is lifted or not
  either_way : (P : Mem → Type 0) (m : Mem) (c : ℕ) (cs : List ℕ) → P (stores_mem (lifted m c) (lifts on g cs)) → P (stores_mem m (lifts on g cs)) → (x : Bool) → P (after_lifts m c cs x)
  either_way P m c cs r s true = r
  either_way P m c cs r s false = s

  up_stays : (f : ℕ → Next) (c b : ℕ) → f b ≡ up gone on g b → upd f c (up gone on g c) b ≡ up gone on g b
  up_stays f c b e = dite (ℕ_discrete b c) (λ q. ap (upd f c (up gone on g c)) q ∙ upd_same f c (up gone on g c) ∙ ap (up gone on g) (sym q)) (λ n. upd_else f c b (up gone on g c) n ∙ e)

  -- a buffer that went on stays there
  stays_up : (m : Mem) (bs : List ℕ) (b : ℕ) → AreNext m b (up gone on g b) → AreNext (stores_mem m (lifts on g bs)) b (up gone on g b)
  stays_up m [] b a = a
  stays_up m (c ∷ cs) b a = either_way (λ (z : Mem). AreNext z b (up gone on g b)) m c cs (stays_up (lifted m c) cs b (up_stays m.next c b a.0, up_stays m.fnext c b a.1)) (stays_up m cs b a) (on c)

  -- a buffer of the list that goes on does
  pub goes_up : (m : Mem) (bs : List ℕ) (b : ℕ) → Within b bs → on b ≡ true → AreNext (stores_mem m (lifts on g bs)) b (up gone on g b)
  goes_up m [] b w o = absurd w
  goes_up m (c ∷ cs) b w o = ⊎_elim
      (λ e. here e (stays_up (lifted m c) cs b (fresh m.next e, fresh m.fnext e)))
      (λ v. either_way (λ (z : Mem). AreNext z b (up gone on g b)) m c cs (goes_up (lifted m c) cs b v o) (goes_up m cs b v o) (on c)) w
    where
      fresh : (f : ℕ → Next) → c ≡ b → upd f c (up gone on g c) b ≡ up gone on g b
      fresh f e = ap (upd f c (up gone on g c)) (sym e) ∙ upd_same f c (up gone on g c) ∙ ap (up gone on g) e

      here : c ≡ b → AreNext (stores_mem (lifted m c) (lifts on g cs)) b (up gone on g b) → AreNext (after_lifts m c cs (on c)) b (up gone on g b)
      here e r = subst (λ (x : Bool). AreNext (after_lifts m c cs x) b (up gone on g b)) (sym (ap on e ∙ o)) r

  -- a buffer that is not in the list stays
  pub stays_down : (m : Mem) (bs : List ℕ) (b : ℕ) → (Within b bs → ⊥) → ((stores_mem m (lifts on g bs)).next b ≡ m.next b) × ((stores_mem m (lifts on g bs)).fnext b ≡ m.fnext b)
  stays_down m [] b n = (refl, refl)
  stays_down m (c ∷ cs) b n = either_way (λ (z : Mem). (z.next b ≡ m.next b) × (z.fnext b ≡ m.fnext b)) m c cs
      (let r = stays_down (lifted m c) cs b (λ v. n (inr v)) in (r.0 ∙ upd_else m.next c b (up gone on g c) (λ e. n (inl (sym e))), r.1 ∙ upd_else m.fnext c b (up gone on g c) (λ e. n (inl (sym e)))))
      (stays_down m cs b (λ v. n (inr v))) (on c)
