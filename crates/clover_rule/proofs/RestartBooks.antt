-- The books of a new run, read off the chains of an image, are those of where each buffer stands.
use Rattle.std.proofs.Common.{◌≡◌, ℕ, zero, suc, ◌<◌, List, [], ◌∷◌, Bool, true, false, cond, eqb, ◌||◌, refl, sym, ap, ◌∙◌, arith, eq-eqb, ne_eqb, eqb-true}
use mathlib.Core.Path.{fun_ext}
use Rattle.std.specs.Prelude.{Option, Some, None}
use Rattle.std.proofs.lemmas.Bool.{false_from_ne_true}
use Rattle.clover_words.specs.declared.pool.Pool.{Pool}
use Rattle.clover_words.specs.Tag.{home}
use Rattle.clover_rule.specs.Image.{Image}
use Rattle.clover_rule.specs.Lists.{nth}
use Rattle.clover_rule.specs.Memory.{gen}
use Rattle.clover_rule.specs.Opening.{opened_book}
use Rattle.clover_rule.specs.Restart.{book_in, is_of, some_below, stands_on}
use Rattle.clover_rule.specs.Sound.{Sound}
use Rattle.clover_rule.specs.Views.{Book, book, free_or_worn}
use Rattle.clover_rule.specs.declared.view.BufferState.TheVariants.{Bound, Out}
use Rattle.clover_rule.proofs.OneReading.{one_reading_law}
use Rattle.clover_rule.proofs.Opening.{chain_head}
use Rattle.clover_rule.proofs.Spots.{in_pool, spot, spot_from, spot_on, spot_same}
use Rattle.clover_rule.proofs.Stopped.{found_below, on_chain}

-- where some number below n is such, one is
pub below_found : (f : ℕ → Bool) (n : ℕ) → some_below f n ≡ true → (s : ℕ) × (s < n) × (f s ≡ true)
below_found f zero e = absurd cc
below_found f (suc n) e = go (f n) refl (below_found f n) e
  where
    go : (x : Bool) → f n ≡ x → (some_below f n ≡ true → (s : ℕ) × (s < n) × (f s ≡ true)) → (x || some_below f n) ≡ true → (s : ℕ) × (s < suc n) × (f s ≡ true)
    go true q rec e = (n, (let z : n < suc n = omega arith in z), q)
    go false q rec e = let a = rec e in (a.0, (let y = a.1 in let z : a.0 < suc n = omega arith in z), a.2)

-- where a buffer stands on a chain
pub found_on : (us : List ℕ) (b : ℕ) → stands_on us b ≡ true → (i : ℕ) × (t : ℕ) × (nth us i ≡ Some t) × (home t ≡ b)
found_on [] b e = absurd cc
found_on (u ∷ us) b e = go (eqb (home u) b) refl (found_on us b) e
  where
    go : (x : Bool) → eqb (home u) b ≡ x → (stands_on us b ≡ true → (i : ℕ) × (t : ℕ) × (nth us i ≡ Some t) × (home t ≡ b)) → (x || stands_on us b) ≡ true → (i : ℕ) × (t : ℕ) × (nth (u ∷ us) i ≡ Some t) × (home t ≡ b)
    go true q rec e = (0, u, refl, eqb-true (home u) b q)
    go false q rec e = let a = rec e in (suc a.0, a.1, a.2, a.3)

module _ (p : Pool) (im : Image) (sound : Sound p im) (b : ℕ) where
  -- the buffer is a root version, or stands on some chain
  abbrev is_root : Bool
  is_root = some_below (λ (s : ℕ). is_of (im.root s) b) p.slots

  abbrev is_chained : Bool
  is_chained = some_below (λ (s : ℕ). stands_on (sound.chain s) b) p.slots

  -- a root version stands first on its chain
  root_first : is_root ≡ true → (s : ℕ) × (spot p im sound b ≡ Some (s, 0))
  root_first e = let a = below_found (λ (s : ℕ). is_of (im.root s) b) p.slots e in (a.0, go a.0 (im.root a.0) refl a.2)
    where
      go : (s : ℕ) (x : Option ℕ) → im.root s ≡ x → is_of x b ≡ true → spot p im sound b ≡ Some (s, 0)
      go s None q e = absurd cc
      go s (Some t) q e = ap (spot p im sound) (sym (eqb-true (home t) b e)) ∙ spot_on p im sound s 0 t (sym (chain_head im (sound.chain s) (im.root s) (sound.walk s)) ∙ q)

  chained_somewhere : is_chained ≡ true → (q : ℕ × ℕ) × (spot p im sound b ≡ Some q)
  chained_somewhere e =
      let a = below_found (λ (s : ℕ). stands_on (sound.chain s) b) p.slots e in
      let f = found_on (sound.chain a.0) b a.2 in
      ((a.0, f.0), ap (spot p im sound) (sym f.3) ∙ spot_on p im sound a.0 f.0 f.1 f.2)

  first_is_root : (s : ℕ) → spot p im sound b ≡ Some (s, 0) → is_root ≡ true
  first_is_root s e =
      let a = spot_from p im sound b s 0 e in
      found_below (λ (k : ℕ). is_of (im.root k) b) p.slots s (in_pool p im sound s 0 a.0 a.1) (ap (λ (x : Option ℕ). is_of x b) (chain_head im (sound.chain s) (im.root s) (sound.walk s) ∙ a.1) ∙ eq-eqb (home a.0) b a.2)

  spot_is_chained : (s i : ℕ) → spot p im sound b ≡ Some (s, i) → is_chained ≡ true
  spot_is_chained s i e =
      let a = spot_from p im sound b s i e in
      found_below (λ (k : ℕ). stands_on (sound.chain k) b) p.slots s (in_pool p im sound s i a.0 a.1) (ap (stands_on (sound.chain s)) (sym a.2) ∙ on_chain (sound.chain s) i a.0 a.1)

  place_in : Option (ℕ × ℕ) → ℕ
  place_in None = 0
  place_in (Some q) = q.1

  -- what the books say by two tests
  abbrev book_by : Bool → Bool → Book
  book_by x y = book (gen (im.next b)) (cond x Bound (cond y Out (free_or_worn p.wear (gen (im.next b)))))

  by_spot : (x : Option (ℕ × ℕ)) → spot p im sound b ≡ x → opened_book p im x b ≡ book_in p im sound b
  unfolding place_in
  by_spot None e = sym (ap (λ (t : Bool). book_by t is_chained) not_root ∙ ap (book_by false) not_chained)
    where
      not_root : is_root ≡ false
      not_root = false_from_ne_true is_root (λ z. absurd (let a = root_first z in cc (a.1, e)))

      not_chained : is_chained ≡ false
      not_chained = false_from_ne_true is_chained (λ z. absurd (let a = chained_somewhere z in cc (a.1, e)))
  by_spot (Some (s, zero)) e = sym (ap (λ (t : Bool). book_by t is_chained) (first_is_root s e))
  by_spot (Some (s, suc i)) e = ap (λ (t : Bool). book (gen (im.next b)) (cond t Bound Out)) (ne_eqb (suc i) 0 (λ z. absurd (omega arith))) ∙ sym (ap (λ (t : Bool). book_by t is_chained) not_root ∙ ap (book_by false) (spot_is_chained s (suc i) e))
    where
      not_root : is_root ≡ false
      not_root = false_from_ne_true is_root (λ z. absurd (let a = root_first z in let y : 0 ≡ suc i = ap place_in (sym a.1 ∙ e) in omega arith))

  -- a run that begins from an image has the books that are read off it
  pub spot_book : opened_book p im (spot p im sound b) b ≡ book_in p im sound b
  spot_book = by_spot (spot p im sound b) refl

-- and so however the image was found sound
pub spot_books : (p : Pool) (im : Image) (one other : Sound p im) (b : ℕ) → opened_book p im (spot p im one b) b ≡ book_in p im other b
spot_books p im one other b = ap (λ (x : Option (ℕ × ℕ)). opened_book p im x b) (sym (spot_same p im one other (fun_ext (one_reading_law p im one other).chains) b)) ∙ spot_book p im other b
