-- Where a buffer stands on the chains of a sound image, by search.
use Rattle.std.proofs.Common.{◌≡◌, ℕ, zero, suc, ◌<◌, List, [], ◌∷◌, Bool, true, false, cond, eqb, refl, sym, ap, ◌∙◌, arith, subst, eq-eqb, eqb-true}
use native.Mathlib.Decide.{ℕ_discrete}
use mathlib.Core.Logic.{dite}
use Rattle.std.specs.Prelude.{Option, Some, None}
use Rattle.std.proofs.lemmas.Option.{same_Some}
use Rattle.clover_words.specs.Tag.{home}
use Rattle.clover_rule.specs.Image.{Image, Chain}
use Rattle.clover_rule.specs.Lists.{nth}
use Rattle.clover_rule.specs.Sound.{Sound}
use Rattle.clover_words.specs.declared.pool.Pool.{Pool}

next_place : Option ℕ → Option ℕ
next_place None = None
next_place (Some i) = Some (suc i)

find : List ℕ → ℕ → Option ℕ
find [] b = None
find (t ∷ us) b = cond (eqb (home t) b) (Some 0) (next_place (find us b))

found_at : (us : List ℕ) (b i : ℕ) → find us b ≡ Some i → (t : ℕ) × (nth us i ≡ Some t) × (home t ≡ b)
unfolding find next_place
found_at [] b i e = absurd cc
found_at (t ∷ us) b i e = go (found_at us b) (eqb (home t) b) refl e
  where
    after : ((j : ℕ) → find us b ≡ Some j → (u : ℕ) × (nth us j ≡ Some u) × (home u ≡ b)) → (x : Option ℕ) → find us b ≡ x → next_place x ≡ Some i → (u : ℕ) × (nth (t ∷ us) i ≡ Some u) × (home u ≡ b)
    after rec None q f = absurd cc
    after rec (Some j) q f = let a = rec j q in let z : suc j ≡ i = cc in (a.0, subst (λ (x : ℕ). nth (t ∷ us) x ≡ Some a.0) z a.1, a.2)

    go : ((j : ℕ) → find us b ≡ Some j → (u : ℕ) × (nth us j ≡ Some u) × (home u ≡ b)) → (x : Bool) → eqb (home t) b ≡ x → cond x (Some 0) (next_place (find us b)) ≡ Some i → (u : ℕ) × (nth (t ∷ us) i ≡ Some u) × (home u ≡ b)
    go rec true q f = let z : 0 ≡ i = cc in (t, subst (λ (x : ℕ). nth (t ∷ us) x ≡ Some t) z refl, eqb-true (home t) b q)
    go rec false q f = after rec (find us b) refl f

finds : (us : List ℕ) (b i t : ℕ) → nth us i ≡ Some t → home t ≡ b → (j : ℕ) × (find us b ≡ Some j)
unfolding find next_place
finds [] b i t e h = absurd cc
finds (u ∷ us) b zero t e h = let z : u ≡ t = cc in (0, ap (λ (x : Bool). cond x (Some 0) (next_place (find us b))) (eq-eqb (home u) b (ap home z ∙ h)))
finds (u ∷ us) b (suc i) t e h = let a = finds us b i t e h in go (eqb (home u) b) refl a.0 a.1
  where
    go : (x : Bool) → eqb (home u) b ≡ x → (j : ℕ) → find us b ≡ Some j → (k : ℕ) × (cond (eqb (home u) b) (Some 0) (next_place (find us b)) ≡ Some k)
    go true q j f = (0, ap (λ (x : Bool). cond x (Some 0) (next_place (find us b))) q)
    go false q j f = (suc j, ap (λ (x : Bool). cond x (Some 0) (next_place (find us b))) q ∙ ap next_place f)

here_or : ℕ → Option ℕ → Option (ℕ × ℕ) → Option (ℕ × ℕ)
here_or s None x = x
here_or s (Some i) x = Some (s, i)

pub spot_below : (ℕ → List ℕ) → ℕ → ℕ → Option (ℕ × ℕ)
spot_below f zero b = None
spot_below f (suc n) b = here_or n (find (f n) b) (spot_below f n b)

spot_at : (f : ℕ → List ℕ) (n b s i : ℕ) → spot_below f n b ≡ Some (s, i) → (t : ℕ) × (nth (f s) i ≡ Some t) × (home t ≡ b)
unfolding spot_below here_or
spot_at f zero b s i e = absurd cc
spot_at f (suc n) b s i e = go (spot_at f n b s i) (find (f n) b) refl e
  where
    go : (spot_below f n b ≡ Some (s, i) → (t : ℕ) × (nth (f s) i ≡ Some t) × (home t ≡ b)) → (x : Option ℕ) → find (f n) b ≡ x → here_or n x (spot_below f n b) ≡ Some (s, i) → (t : ℕ) × (nth (f s) i ≡ Some t) × (home t ≡ b)
    go rec None q g = rec g
    go rec (Some j) q g = let a = found_at (f n) b j q in let z = same_Some (n, j) (s, i) g in (a.0, subst (λ (p : ℕ × ℕ). nth (f p.0) p.1 ≡ Some a.0) z a.1, a.2)

spots : (f : ℕ → List ℕ) (n b s i t : ℕ) → s < n → nth (f s) i ≡ Some t → home t ≡ b → (p : ℕ × ℕ) × (spot_below f n b ≡ Some p)
unfolding spot_below here_or
spots f zero b s i t l e h = absurd (omega arith)
spots f (suc n) b s i t l e h = go (λ x. spots f n b s i t x e h) (find (f n) b) refl
  where
    go : (s < n → (p : ℕ × ℕ) × (spot_below f n b ≡ Some p)) → (x : Option ℕ) → find (f n) b ≡ x → (p : ℕ × ℕ) × (here_or n (find (f n) b) (spot_below f n b) ≡ Some p)
    go rec (Some j) q = ((n, j), ap (λ (x : Option ℕ). here_or n x (spot_below f n b)) q)
    go rec None q = dite (ℕ_discrete s n)
        (λ d. let a = finds (f n) b i t (ap (λ (x : ℕ). nth (f x) i) (sym d) ∙ e) h in absurd (cc (a.1, q)))
        (λ d. let a = rec (omega arith) in (a.0, ap (λ (x : Option ℕ). here_or n x (spot_below f n b)) q ∙ a.1))

module _ (l : Pool) (im : Image) (sound : Sound l im) where
  pub spot : ℕ → Option (ℕ × ℕ)
  spot b = spot_below sound.chain l.slots b

  pub in_pool : (s i t : ℕ) → nth (sound.chain s) i ≡ Some t → s < l.slots
  in_pool s i t e = go (im.root s) refl
    where
      nil : (us : List ℕ) → Chain im None us → nth us i ≡ Some t → ⊥
      nil [] c q = absurd cc
      nil (u ∷ us) c q = c

      go : (x : Option ℕ) → im.root s ≡ x → s < l.slots
      go (Some y) q = sound.inside s y q
      go None q = absurd (nil (sound.chain s) (subst (λ (x : Option ℕ). Chain im x (sound.chain s)) q (sound.walk s)) e)

  pub spot_from : (b s i : ℕ) → spot b ≡ Some (s, i) → (t : ℕ) × (nth (sound.chain s) i ≡ Some t) × (home t ≡ b)
  unfolding spot
  spot_from b s i e = spot_at sound.chain l.slots b s i e

  pub spot_on : (s i t : ℕ) → nth (sound.chain s) i ≡ Some t → spot (home t) ≡ Some (s, i)
  unfolding spot
  spot_on s i t e = go (spots sound.chain l.slots (home t) s i t (in_pool s i t e) e refl)
    where
      go : (p : ℕ × ℕ) × (spot_below sound.chain l.slots (home t) ≡ Some p) → spot_below sound.chain l.slots (home t) ≡ Some (s, i)
      go ((s1, i1), q) = let a = spot_at sound.chain l.slots (home t) s1 i1 q in let o = sound.once s s1 i i1 t a.0 e a.1 a.2 in q ∙ ap (λ (x : ℕ). Some (x, i1)) o.0 ∙ ap (λ (x : ℕ). Some (s, x)) o.1

-- the chains alone say where buffers stand
pub spot_same : (l : Pool) (im : Image) (one other : Sound l im) → other.chain ≡ one.chain → (b : ℕ) → spot l im other b ≡ spot l im one b
unfolding spot
spot_same l im one other e b = ap (λ (f : ℕ → List ℕ). spot_below f l.slots b) e
