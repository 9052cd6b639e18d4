-- A restart that stops anywhere: each image of the words is then one that a restart may leave.
use Rattle.std.proofs.Common.{append_assoc, ◌≡◌, ℕ, zero, suc, ◌<◌, ◌≢◌, ◌⊎◌, ◌&&◌, List, [], ◌∷◌, ◌++◌, Bool, true, false, eqb, nat_lt, is_some, refl, sym, ap, ◌∙◌, inl, inr, ⊎_elim, arith, subst, true≢false, eq-eqb, not}
use native.Mathlib.Decide.{ℕ_discrete}
use mathlib.Core.Logic.{dite}
use Rattle.std.specs.Prelude.{Option, Some, None}
use Rattle.std.proofs.lemmas.Bool.{and_from, or_left, or_right}
use Rattle.clover_words.specs.declared.pool.Pool.{Pool}
use Rattle.clover_words.specs.Tag.{home}
use Rattle.clover_map.specs.declared.bytes.Held.{Held}
use Rattle.clover_rule.specs.History.{ends}
use Rattle.clover_rule.specs.Image.{Image, IsImage}
use Rattle.clover_rule.specs.Lists.{Each, nth}
use Rattle.clover_rule.specs.Memory.{Mem, Next, word, gen}
use Rattle.clover_rule.specs.Restart.{stands_on, some_below, clears, lifts, how_many, buffers_of, is_dead, is_kept, remains, moves, plan}
use Rattle.clover_rule.specs.Sound.{Sound, Restarting, versions_of}
use Rattle.clover_rule.specs.declared.view.RestartStore.{RestartStore}
use Rattle.clover_rule.specs.declared.view.RestartStore.TheVariants.{SetCount}
use Rattle.clover_rule.proofs.Plans.{each_clear, each_lift, clears_clear, clears_all}
use Rattle.clover_rule.proofs.RestartStores.{stores_mem, stores_both, IsClear, IsLater, nexts_kept, roots_kept, IsFit, Between, between, Cleared}
use Rattle.clover_rule.proofs.Spots.{in_pool}
use Rattle.clover_rule.proofs.Ties.{below}
use Rattle.clover_rule.proofs.Tools.{each_both}

-- a front of two lists is a front of the first, or has the first as a front
front_of : {A : Type 0} (xs ys made rest : List A) → xs ++ ys ≡ made ++ rest → ((r : List A) × (xs ≡ made ++ r)) ⊎ ((d : List A) × (made ≡ xs ++ d) × (ys ≡ d ++ rest))
front_of [] ys made rest e = inr (made, refl, e)
front_of (x ∷ xs) ys [] rest e = inl (x ∷ xs, refl)
front_of (x ∷ xs) ys (y ∷ made) rest e =
    let h : x ≡ y = cc in let t : xs ++ ys ≡ made ++ rest = cc in
    ⊎_elim {C = ((r : List _) × (x ∷ xs ≡ y ∷ (made ++ r))) ⊎ ((d : List _) × (y ∷ made ≡ x ∷ (xs ++ d)) × (ys ≡ d ++ rest))}
    (λ a. inl (a.0, let q = a.1 in cc)) (λ a. inr (a.0, (let q = a.1 in cc), a.2)) (front_of xs ys made rest t)

-- what holds of each element of a list holds of each of a front
pub each_front : {A : Type 0} (P : A → Type 0) (xs ys : List A) → Each P (xs ++ ys) → Each P xs
each_front P [] ys e = tt
each_front P (x ∷ xs) ys e = (e.0, each_front P xs ys e.1)

-- some number below n is such, where one is
pub found_below : (f : ℕ → Bool) (n s : ℕ) → s < n → f s ≡ true → some_below f n ≡ true
found_below f zero s h e = absurd (omega arith)
found_below f (suc n) s h e = dite (ℕ_discrete s n) (λ q. or_left (f n) (some_below f n) (ap f (sym q) ∙ e)) (λ q. or_right (f n) (some_below f n) (found_below f n s (omega arith) e))

-- the buffer of each tag of a chain stands on it
pub on_chain : (us : List ℕ) (i t : ℕ) → nth us i ≡ Some t → stands_on us (home t) ≡ true
on_chain [] i t e = absurd cc
on_chain (u ∷ us) zero t e = or_left (eqb (home u) (home t)) (stands_on us (home t)) (eq-eqb (home u) (home t) (ap home (let z : u ≡ t = cc in z)))
on_chain (u ∷ us) (suc i) t e = or_right (eqb (home u) (home t)) (stands_on us (home t)) (on_chain us i t e)

-- both copies of each durable word are the image's
pub record BothCopies (m : Mem) (im : Image) : Type 0 where
  pub next : (b : ℕ) → (m.next b ≡ im.next b) × (m.fnext b ≡ im.next b)
  pub root : (s : ℕ) → (m.root s ≡ im.root s) × (m.froot s ≡ im.root s)
  pub body : (b j : ℕ) → (m.body b j ≡ im.body b j) × (m.fbody b j ≡ im.body b j)
  pub key : (s j : ℕ) → (m.key s j ≡ im.key s j) × (m.fkey s j ≡ im.key s j)

-- the plan of a restart of a sound image
module _ (p : Pool) (im : Image) (sound : Sound p im) where
  -- the slot's chain ends in a tombstone, or the buffer is on no chain that is kept
  abbrev pub gone : ℕ → Bool
  gone = is_dead p im sound

  abbrev pub on : ℕ → Bool
  on = moves p im sound

  abbrev pub g : ℕ → ℕ
  g b = gen (im.next b)

  -- the parts of the plan: roots that are cleared, and what comes later
  abbrev pub first_part : List RestartStore
  first_part = clears gone 0 p.slots

  abbrev pub later_part : List RestartStore
  later_part = lifts on g (buffers_of p) ++ SetCount (how_many (is_kept p im sound) p.slots) ∷ []

  pub in_parts : plan p im sound ≡ first_part ++ later_part
  in_parts = append_assoc first_part (lifts on g (buffers_of p)) (SetCount (how_many (is_kept p im sound) p.slots) ∷ [])

  -- what a slot's chain ends in
  abbrev pub end : ℕ → Option Held
  end s = ends None (versions_of (sound.chain s) (sound.value s))

  -- what holds of each store, by the buffers of the pool, holds of the plan
  pub each_store : (P : RestartStore → Type 0) → Each P first_part → Each P (lifts on g (buffers_of p)) → P (SetCount (how_many (is_kept p im sound) p.slots)) → Each P (plan p im sound)
  each_store P a b c = each_both P (first_part ++ lifts on g (buffers_of p)) (SetCount (how_many (is_kept p im sound) p.slots) ∷ []) (each_both P first_part (lifts on g (buffers_of p)) a b) (c, tt)

  pub all_fit : Each (IsFit gone on g) (plan p im sound)
  all_fit = each_store (IsFit gone on g) (each_clear (IsFit gone on g) gone (λ s e. (e, e)) 0 p.slots) (each_lift (IsFit gone on g) on g (buffers_of p) (λ b w e. ((e, refl), (e, refl)))) tt

  pub all_later : Each IsLater later_part
  all_later = each_both IsLater (lifts on g (buffers_of p)) (SetCount (how_many (is_kept p im sound) p.slots) ∷ []) (each_lift IsLater on g (buffers_of p) (λ b w e. (tt, tt))) (tt, tt)

  -- a dead slot is one of the pool, and its chain ends in nothing
  pub dead_below : (s : ℕ) → gone s ≡ true → s < p.slots
  dead_below s e = go (im.root s) refl e
    where
      go : (x : Option ℕ) → im.root s ≡ x → (is_some x && not (is_some (end s))) ≡ true → s < p.slots
      go None q e = absurd cc
      go (Some t) q e = sound.inside s t q

  pub dead_end : (s : ℕ) → gone s ≡ true → end s ≡ None
  dead_end s e = go (end s) (is_some (im.root s)) refl e
    where
      go : (x : Option Held) (y : Bool) → end s ≡ x → (y && not (is_some x)) ≡ true → end s ≡ None
      go None y q e = q
      go (Some h) true q e = absurd cc
      go (Some h) false q e = absurd cc

  -- a buffer on the chain of a slot that is not dead remains
  pub remaining : (b s i t : ℕ) → nth (sound.chain s) i ≡ Some t → home t ≡ b → gone s ≡ false → remains p im sound b ≡ true
  remaining b s i t e h d = found_below (λ (k : ℕ). not (gone k) && stands_on (sound.chain k) b) p.slots s (in_pool p im sound s i t e) (and_from (not (gone s)) (stands_on (sound.chain s) b) (ap not d) (ap (stands_on (sound.chain s)) (sym h) ∙ on_chain (sound.chain s) i t e))

  -- a buffer that goes on is below the wear and does not remain
  pub on_young : (b : ℕ) → on b ≡ true → (g b < p.wear) × (remains p im sound b ≡ false)
  on_young b e = go (remains p im sound b) (nat_lt (g b) p.wear) refl e
    where
      go : (x y : Bool) → nat_lt (g b) p.wear ≡ y → (not x && y) ≡ true → (g b < p.wear) × (x ≡ false)
      go true y q e = absurd cc
      go false true q e = (below (g b) p.wear q, refl)
      go false false q e = absurd cc

  -- from words whose copies are the image
  module _ (m0 : Mem) (copies : BothCopies m0 im) where
    pub all_cleared : Cleared gone on g (stores_mem m0 first_part)
    all_cleared = clears_all gone on g m0 p.slots dead_below

    -- no next word has changed yet, or each dead slot has lost its root
    InOrder : Mem → Type 0
    InOrder m = ((m.next ≡ m0.next) × (m.fnext ≡ m0.fnext)) ⊎ Cleared gone on g m

    module _ (m : Mem) (im2 : Image) (a : Between gone on g m0 m) (order : InOrder m) (is : IsImage m im2) where
      RootLeft : ℕ → Type 0
      RootLeft s = (im2.root s ≡ im.root s) ⊎ ((im2.root s ≡ None) × (end s ≡ None))

      NextLeft : ℕ → Type 0
      NextLeft b = (im2.next b ≡ im.next b) ⊎ ((im2.next b ≡ word (suc (g b)) None) × (g b < p.wear) × ((s i t : ℕ) → im2.root s ≢ None → nth (sound.chain s) i ≡ Some t → home t ≢ b))

      root_left : (s : ℕ) (f f0 : ℕ → Option ℕ) → f0 s ≡ im.root s → im2.root s ≡ f s → (f s ≡ f0 s) ⊎ ((f s ≡ None) × (gone s ≡ true)) → RootLeft s
      unfolding RootLeft
      root_left s f f0 h q r = ⊎_elim {C = RootLeft s} (λ e. inl (q ∙ e ∙ h)) (λ e. inr (q ∙ e.0, dead_end s e.1)) r

      alive : (s : ℕ) → Cleared gone on g m → im2.root s ≢ None → gone s ≡ false
      alive s k n = go (gone s) refl
        where
          go : (x : Bool) → gone s ≡ x → gone s ≡ false
          go false e = e
          go true e = absurd (n (⊎_elim (λ q. q ∙ k.root s e) (λ q. q ∙ k.froot s e) (is.root s)))

      next_left : (b : ℕ) (f f0 : ℕ → Next) → ((m.next ≡ m0.next) × (m.fnext ≡ m0.fnext) → f b ≡ f0 b) → f0 b ≡ im.next b → im2.next b ≡ f b → (f b ≡ f0 b) ⊎ ((f b ≡ word (suc (g b)) None) × (on b ≡ true)) → NextLeft b
      unfolding NextLeft InOrder
      next_left b f f0 keep h q r = ⊎_elim {C = NextLeft b}
          (λ e. inl (q ∙ e ∙ h))
          (λ e. ⊎_elim {C = NextLeft b}
          (λ k. inl (q ∙ keep k ∙ h))
          (λ k. inr (q ∙ e.0, (on_young b e.1).0, λ s i t n z y. true≢false (sym (remaining b s i t z y (alive s k n)) ∙ (on_young b e.1).1))) order) r

      left : Restarting p im sound im2
      unfolding RootLeft NextLeft
      left = record {
        root = λ s. ⊎_elim (λ q. root_left s m.root m0.root (copies.root s).0 q (a.root s)) (λ q. root_left s m.froot m0.froot (copies.root s).1 q (a.froot s)) (is.root s);
        next = λ b. ⊎_elim (λ q. next_left b m.next m0.next (λ k. ap (λ (f : ℕ → Next). f b) k.0) (copies.next b).0 q (a.next b)) (λ q. next_left b m.fnext m0.fnext (λ k. ap (λ (f : ℕ → Next). f b) k.1) (copies.next b).1 q (a.fnext b)) (is.next b);
        body = λ b j. ⊎_elim (λ q. q ∙ ap (λ (f : ℕ → ℕ → ℕ). f b j) a.body ∙ (copies.body b j).0) (λ q. q ∙ ap (λ (f : ℕ → ℕ → ℕ). f b j) a.fbody ∙ (copies.body b j).1) (is.body b j);
        key = λ s j. ⊎_elim (λ q. q ∙ ap (λ (f : ℕ → ℕ → ℕ). f s j) a.key ∙ (copies.key s j).0) (λ q. q ∙ ap (λ (f : ℕ → ℕ → ℕ). f s j) a.fkey ∙ (copies.key s j).1) (is.key s j);
      }

    -- a front of the plan has cleared some roots alone, or all of them
    in_order : (made rest : List RestartStore) → plan p im sound ≡ made ++ rest → InOrder (stores_mem m0 made)
    unfolding InOrder
    in_order made rest e = ⊎_elim {C = InOrder (stores_mem m0 made)}
        (λ a. inl (nexts_kept m0 made (each_front IsClear made a.0 (subst (Each IsClear) a.1 (clears_clear gone 0 p.slots)))))
        (λ a. inr (let k = roots_kept (stores_mem m0 first_part) a.0 (each_front IsLater a.0 rest (subst (Each IsLater) a.2 all_later)) in
        let all : stores_mem m0 made ≡ stores_mem (stores_mem m0 first_part) a.0 = ap (stores_mem m0) a.1 ∙ stores_both first_part a.0 m0 in
        record {
          root = λ s d. ap (λ (m : Mem). m.root s) all ∙ ap (λ (f : ℕ → Option ℕ). f s) k.0 ∙ all_cleared.root s d;
          froot = λ s d. ap (λ (m : Mem). m.froot s) all ∙ ap (λ (f : ℕ → Option ℕ). f s) k.1 ∙ all_cleared.froot s d;
        }))
        (front_of first_part later_part made rest (sym in_parts ∙ e))

    -- whatever front of the plan was made
    pub stopped : (made rest : List RestartStore) (im2 : Image) → plan p im sound ≡ made ++ rest → IsImage (stores_mem m0 made) im2 → Restarting p im sound im2
    stopped made rest im2 e is = left (stores_mem m0 made) im2 (between gone on g m0 made (each_front (IsFit gone on g) made rest (subst (Each (IsFit gone on g)) e all_fit))) (in_order made rest e) is
