-- The buffers of a sound image one by one: their stores and their lines.
use Rattle.std.proofs.Common.{◌≡◌, ℕ, zero, suc, ◌+◌, List, [], ◌∷◌, ◌++◌, Bool, true, false, cond, refl, sym, ap, ◌∙◌, subst, arith, append_assoc, append-nil}
use native.Mathlib.Decide.{ℕ_discrete}
use mathlib.Core.Logic.{dite}
use Rattle.std.specs.Prelude.{map}
use Rattle.clover_words.specs.declared.pool.Pool.{Pool}
use Rattle.clover_words.specs.declared.word.Buffer.{Buffer}
use Rattle.clover_words.specs.Place.{buffer_of}
use Rattle.clover_rule.specs.Image.{Image}
use Rattle.clover_rule.specs.Memory.{gen}
use Rattle.clover_rule.specs.Restart.{buffers_from, lifts, moves}
use Rattle.clover_rule.specs.Sound.{Sound}
use Rattle.clover_rule.specs.declared.view.RestartStore.{RestartStore}
use Rattle.clover_rule.specs.declared.view.RestartStore.TheVariants.{Lift, LiftFlushed}
use Rattle.clover_alloc.specs.Ledger.{Ledger, IsLedger, Moves, book}
use Rattle.clover_alloc.specs.declared.line.Place.{Place}
use Rattle.clover_restart.specs.Lifting.{AreLifted, lift_of, next_line}
use Rattle.clover_restart.specs.Reading.{number_at, number_of, place_at}
use Rattle.clover_restart.specs.Slots.{mark_at}
use Rattle.clover_restart.specs.Stores.{store_of}
use Rattle.clover_restart.specs.declared.store.Store.{Store}
use Rattle.clover_restart.proofs.ChainMarks.{moves_is}
use Rattle.clover_restart.proofs.Marking.{place_number}

-- the first n buffers were read, and the books are whole ones of the pool, from which nothing was taken
pub record AreLiftedTo (p : Pool) (im : Image) (n : ℕ) (before after : List Store) (books : Ledger) : Type 0 where
  pub pool : books.pool ≡ p
  pub fresh : books.fresh ≡ true
  pub whole : IsLedger books
  pub read : (sound : Sound p im) → AreLifted p im sound n before after books

-- one buffer more
buffers_more : (p : Pool) (q n m : ℕ) → q + n ≡ m → buffers_from p q (suc n) ≡ buffers_from p q n ++ number_at p m ∷ []
buffers_more p q zero m e = ap (λ (z : ℕ). number_at p z ∷ []) (let f : q ≡ m = omega arith in f)
buffers_more p q (suc n) m e = ap (λ (bs : List ℕ). number_at p q ∷ bs) (buffers_more p (suc q) n m (omega arith))

-- the stores of one that goes on, or none
abbrev lift_if : Bool → ℕ → ℕ → List RestartStore
lift_if y b g = cond y (Lift b (suc g) ∷ LiftFlushed b (suc g) ∷ []) []

lifts_more : (f : ℕ → Bool) (g : ℕ → ℕ) (bs : List ℕ) (b : ℕ) → lifts f g (bs ++ b ∷ []) ≡ lifts f g bs ++ lift_if (f b) b (g b)
lifts_more f g [] b = go (f b)
  where
    go : (y : Bool) → cond y (Lift b (suc (g b)) ∷ LiftFlushed b (suc (g b)) ∷ []) [] ≡ lift_if y b (g b)
    go true = refl
    go false = refl
lifts_more f g (c ∷ bs) b = go (f c) (lifts_more f g bs b)
  where
    go : (y : Bool) → lifts f g (bs ++ b ∷ []) ≡ lifts f g bs ++ lift_if (f b) b (g b) → cond y (Lift c (suc (g c)) ∷ LiftFlushed c (suc (g c)) ∷ lifts f g (bs ++ b ∷ [])) (lifts f g (bs ++ b ∷ [])) ≡ cond y (Lift c (suc (g c)) ∷ LiftFlushed c (suc (g c)) ∷ lifts f g bs) (lifts f g bs) ++ lift_if (f b) b (g b)
    go true e = ap (λ (xs : List RestartStore). Lift c (suc (g c)) ∷ LiftFlushed c (suc (g c)) ∷ xs) e
    go false e = e

module _ (p : Pool) (im : Image) where
  pub lifted_none : (n : ℕ) (before : List Store) (books : Ledger) → n ≡ 0 → books.pool ≡ p → books.fresh ≡ true → IsLedger books → AreLiftedTo p im n before before books
  lifted_none n before books e a b w = record {
    pool = a;
    fresh = b;
    whole = w;
    read = λ s. record {
      stores = sym (append-nil (map store_of before)) ∙ ap (λ (k : ℕ). map store_of before ++ lifts (moves p im s) (λ (c : ℕ). gen (im.next c)) (buffers_from p 0 k)) (sym e);
      lines = λ q h. absurd (omega arith);
    };
  }

  module _ (sound : Sound p im) where
    -- the mark of the buffer at a place
    abbrev at : ℕ → Place
    at n = mark_at p im sound p.slots (number_at p n)

    abbrev g : ℕ → ℕ
    g b = gen (im.next b)

    pub lift_next : (n : ℕ) (before now after : List Store) (b c : Ledger) (buffer : Buffer) (mark : Place) → AreLifted p im sound n before now b → buffer ≡ buffer_of p n → mark ≡ at n
        → map store_of after ≡ map store_of now ++ lift_of p.wear mark (number_of buffer) (g (number_of buffer)) → Moves b buffer (next_line p.wear mark (g (number_of buffer))) c → AreLifted p im sound (n + 1) before after c
    lift_next n before now after b c buffer mark a eb em es m = record {
      stores =
          es
          ∙ (λ i. a.stores i ++ lift_of p.wear (em i) (number_of (eb i)) (g (number_of (eb i))))
          ∙ append_assoc (map store_of before) (lifts (moves p im sound) g (buffers_from p 0 n)) (lift_of p.wear (at n) (number_at p n) (g (number_at p n)))
          ∙ ap (λ (xs : List RestartStore). map store_of before ++ xs) (
          ap (λ (y : Bool). lifts (moves p im sound) g (buffers_from p 0 n) ++ lift_if y (number_at p n) (g (number_at p n))) (sym (moves_is p im sound (number_at p n)))
          ∙ sym (lifts_more (moves p im sound) g (buffers_from p 0 n) (number_at p n))
          ∙ ap (lifts (moves p im sound) g) (sym (buffers_more p 0 n n (omega arith)) ∙ ap (buffers_from p 0) (let e : suc n ≡ n + 1 = omega arith in e)));
      lines = λ q h. dite (ℕ_discrete q n)
          (λ e. let line = subst (λ (x : Buffer). book c x ≡ next_line p.wear mark (g (number_of x))) eb (m.line) in ap (λ (k : ℕ). book c (buffer_of p k)) e ∙ line ∙ (λ i. next_line p.wear (em i) (g (number_at p n))) ∙ ap (λ (k : ℕ). next_line p.wear (at k) (g (number_at p k))) (sym e))
          (λ ne. m.others (buffer_of p q) (λ same. ne (sym (place_number p q) ∙ ap (λ (x : Buffer). place_at p (number_of x)) (same ∙ eb) ∙ place_number p n)) ∙ a.lines q (omega arith));
    }

  pub lifted_next : (n : ℕ) (before now after : List Store) (b c : Ledger) (buffer : Buffer) (mark : Place) → AreLiftedTo p im n before now b → buffer ≡ buffer_of p n → ((sound : Sound p im) → mark ≡ mark_at p im sound p.slots (number_at p n))
      → map store_of after ≡ map store_of now ++ lift_of p.wear mark (number_of buffer) (gen (im.next (number_of buffer))) → Moves b buffer (next_line p.wear mark (gen (im.next (number_of buffer)))) c → IsLedger c → AreLiftedTo p im (n + 1) before after c
  lifted_next n before now after b c buffer mark a eb em es m w = record {
    pool = ap (λ (x : Ledger). x.pool) m.value ∙ a.pool;
    fresh = ap (λ (x : Ledger). x.fresh) m.value ∙ a.fresh;
    whole = w;
    read = λ s. lift_next s n before now after b c buffer mark (a.read s) eb (em s) es m;
  }
