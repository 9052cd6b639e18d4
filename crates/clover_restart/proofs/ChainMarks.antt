-- What the marks of the chains that are kept say of a buffer of a sound image.
use Rattle.std.proofs.Common.{◌≡◌, ◌≢◌, ℕ, zero, suc, ◌<◌, List, [], ◌∷◌, Bool, true, false, cond, eqb, eqb-true, ◌&&◌, ◌||◌, not, nat_lt, refl, sym, ap, ◌∙◌, arith}
use Rattle.std.specs.Prelude.{Option, Some, None}
use Rattle.std.proofs.lemmas.Bool.{or_left, or_right}
use Rattle.clover_words.specs.declared.pool.Pool.{Pool}
use Rattle.clover_words.specs.Tag.{home, age}
use Rattle.clover_rule.specs.Content.{InRange}
use Rattle.clover_rule.specs.Image.{Image, Chain}
use Rattle.clover_rule.specs.Lists.{Each}
use Rattle.clover_rule.specs.Memory.{gen, link}
use Rattle.clover_rule.specs.Restart.{is_dead, is_of, moves, some_below, stands_on}
use Rattle.clover_rule.specs.Sound.{Sound}
use Rattle.clover_alloc.specs.Lines.{same_place}
use Rattle.clover_alloc.specs.declared.line.Place.TheVariants.{Free, Worn, Bound, Out}
use Rattle.clover_image.proofs.Chains.{slot_range}
use Rattle.clover_restart.specs.Chaining.{HasChain}
use Rattle.clover_restart.specs.Lifting.{IsMark, goes_on}
use Rattle.clover_restart.specs.Slots.{is_root, is_chained, mark_at}

-- a root version stands on its chain
pub of_stands : (im : Image) (b : ℕ) (x : Option ℕ) (us : List ℕ) → Chain im x us → is_of x b ≡ true → stands_on us b ≡ true
of_stands im b None us c e = absurd (let z : false ≡ true = e in cc)
of_stands im b (Some t) [] c e = absurd c
of_stands im b (Some t) (u ∷ us) c e = or_left (eqb (home u) b) (stands_on us b) (ap (λ (z : ℕ). eqb (home z) b) (sym c.0) ∙ e)

-- on a chain of tags of the pool stand buffers that are below the wear
stands_young : (p : Pool) (im : Image) (b : ℕ) (x : Option ℕ) (us : List ℕ) → Chain im x us → Each (InRange p) us → stands_on us b ≡ true → gen (im.next b) < p.wear
stands_young p im b x [] c r e = absurd (let z : false ≡ true = e in cc)
stands_young p im b None (u ∷ us) c r e = absurd c
stands_young p im b (Some t) (u ∷ us) c r e = go (stands_young p im b (link (im.next (home t))) us c.2 r.1) (eqb (home u) b) refl e
  where
    go : (stands_on us b ≡ true → gen (im.next b) < p.wear) → (y : Bool) → eqb (home u) b ≡ y → y || stands_on us b ≡ true → gen (im.next b) < p.wear
    go rest true q f =
        let same : home t ≡ b = ap home c.0 ∙ eqb-true (home u) b q in
        let g : gen (im.next b) ≡ age u = ap (λ (z : ℕ). gen (im.next z)) (sym same) ∙ c.1 ∙ ap age c.0 in
        let a = r.0.1 in omega arith
    go rest false q f = rest f

-- where one of two is so, one of what follows from them is
some_along : (f g : ℕ → Bool) (n : ℕ) → ((s : ℕ) → f s ≡ true → g s ≡ true) → some_below f n ≡ true → some_below g n ≡ true
some_along f g zero h e = e
some_along f g (suc n) h e = go (some_along f g n h) (f n) refl e
  where
    go : (some_below f n ≡ true → some_below g n ≡ true) → (y : Bool) → f n ≡ y → y || some_below f n ≡ true → some_below g (suc n) ≡ true
    go rest true q r = or_left (g n) (some_below g n) (h n q)
    go rest false q r = or_right (g n) (some_below g n) (rest r)

-- what follows from some number below n
pub some_is : (P : Type 0) (f : ℕ → Bool) (n : ℕ) → ((s : ℕ) → s < n → f s ≡ true → P) → some_below f n ≡ true → P
some_is P f zero h e = absurd (let z : false ≡ true = e in cc)
some_is P f (suc n) h e = go (some_is P f n (λ s l q. h s (omega arith) q)) (f n) refl e
  where
    go : (some_below f n ≡ true → P) → (y : Bool) → f n ≡ y → y || some_below f n ≡ true → P
    go rest true q r = h n (omega arith) q
    go rest false q r = rest r

pub and_first : (x y : Bool) → x && y ≡ true → x ≡ true
and_first true y e = refl
and_first false y e = e

pub and_second : (x y : Bool) → x && y ≡ true → y ≡ true
and_second true y e = e
and_second false y e = absurd (let z : false ≡ true = e in cc)

and_along : (x y z : Bool) → (y ≡ true → z ≡ true) → x && y ≡ true → x && z ≡ true
and_along true y z h e = h e
and_along false y z h e = e

module _ (p : Pool) (im : Image) (sound : Sound p im) where
  -- each chain of the image is one of tags of the pool
  pub slot_chain : (s : ℕ) → HasChain p im (im.root s)
  slot_chain s = record { tags = sound.chain s; chain = sound.walk s; range = slot_range p im sound s }

  pub root_chained : (n b : ℕ) → is_root p im sound n b ≡ true → is_chained p im sound n b ≡ true
  root_chained n b e = some_along (λ (s : ℕ). not (is_dead p im sound s) && is_of (im.root s) b) (λ (s : ℕ). not (is_dead p im sound s) && stands_on (sound.chain s) b) n
      (λ s q. and_along (not (is_dead p im sound s)) (is_of (im.root s) b) (stands_on (sound.chain s) b) (of_stands im b (im.root s) (sound.chain s) (sound.walk s)) q) e

  chained_young : (n b : ℕ) → is_chained p im sound n b ≡ true → gen (im.next b) < p.wear
  chained_young n b e = some_is (gen (im.next b) < p.wear) (λ (s : ℕ). not (is_dead p im sound s) && stands_on (sound.chain s) b) n
      (λ s l q. stands_young p im b (im.root s) (sound.chain s) (sound.walk s) (slot_range p im sound s) (and_second (not (is_dead p im sound s)) (stands_on (sound.chain s) b) q)) e

  -- a mark is free exactly off the chains
  free_off : (n b : ℕ) → same_place Free (mark_at p im sound n b) ≡ not (is_chained p im sound n b)
  free_off n b = go (is_root p im sound n b) (is_chained p im sound n b) (root_chained n b)
    where
      go : (x y : Bool) → (x ≡ true → y ≡ true) → same_place Free (cond x Bound (cond y Out Free)) ≡ not y
      go true y h = ap not (sym (h refl))
      go false true h = refl
      go false false h = refl

  pub mark_is : (n b : ℕ) → IsMark p.wear (mark_at p im sound n b) (gen (im.next b))
  mark_is n b = record {
    most = sound.own b;
    young = λ ne. young (is_root p im sound n b) (is_chained p im sound n b) (root_chained n b) (chained_young n b) ne;
    not_worn = not_worn (is_root p im sound n b) (is_chained p im sound n b);
  }
    where
      young : (x y : Bool) → (x ≡ true → y ≡ true) → (y ≡ true → gen (im.next b) < p.wear) → cond x Bound (cond y Out Free) ≢ Free → gen (im.next b) < p.wear
      young true y h k ne = k (h refl)
      young false true h k ne = k refl
      young false false h k ne = absurd (ne refl)

      not_worn : (x y : Bool) → cond x Bound (cond y Out Free) ≢ Worn
      not_worn true y e = absurd cc
      not_worn false true e = absurd cc
      not_worn false false e = absurd cc

  -- the buffers that move are those that go on by their mark
  pub moves_is : (b : ℕ) → moves p im sound b ≡ goes_on p.wear (mark_at p im sound p.slots b) (gen (im.next b))
  moves_is b = ap (λ (y : Bool). y && nat_lt (gen (im.next b)) p.wear) (sym (free_off p.slots b))
