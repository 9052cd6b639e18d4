-- What all stores of a restart leave: both copies of roots and next words are those of one image.
use Rattle.std.proofs.Common.{◌≡◌, ℕ, ◌&&◌, List, [], ◌∷◌, ◌++◌, Bool, true, false, cond, refl, sym, ap, ◌∙◌, inl, ⊎_elim, true≢false, append-nil}
use Rattle.std.specs.Prelude.{Option, None}
use Rattle.clover_words.specs.declared.pool.Pool.{Pool}
use Rattle.clover_rule.specs.Content.{inside}
use Rattle.clover_rule.specs.Image.{Image}
use Rattle.clover_rule.specs.Memory.{Mem, Next}
use Rattle.clover_rule.specs.Restart.{buffers_of, how_many, is_kept, lifts, plan}
use Rattle.clover_rule.specs.Sound.{Sound, Restarting}
use Rattle.clover_rule.specs.declared.view.RestartStore.{RestartStore}
use Rattle.clover_rule.specs.declared.view.RestartStore.TheVariants.{SetCount}
use Rattle.clover_rule.proofs.Plans.{clears_clear, goes_up, stays_down}
use Rattle.clover_rule.proofs.PoolBuffers.{inside_listed, listed_inside}
use Rattle.clover_rule.proofs.RestartStores.{Between, between, nexts_kept, roots_kept, store_mem, stores_both, stores_mem, up}
use Rattle.clover_rule.proofs.Stopped.{BothCopies, all_cleared, all_fit, all_later, first_part, g, gone, in_parts, later_part, on, stopped}

-- the image of the current copies
abbrev pub image_in : Mem → Image
image_in m = record { next = m.next; root = m.root; body = m.body; key = m.key }

module _ (p : Pool) (im : Image) (sound : Sound p im) where
  -- the root of a slot and the next word of a buffer that a restart leaves
  abbrev pub root_left : ℕ → Option ℕ
  root_left s = cond (gone p im sound s) None (im.root s)

  abbrev pub next_up : ℕ → Next
  next_up b = up (gone p im sound) (on p im sound) (g p im sound) b

  abbrev pub next_left : ℕ → Next
  next_left b = cond (inside p b && on p im sound b) (next_up b) (im.next b)

  -- both copies are as a restart leaves them, and the count is that of the slots that are kept
  pub record Restarted (m : Mem) : Type 0 where
    pub next : (b : ℕ) → (m.next b ≡ next_left b) × (m.fnext b ≡ next_left b)
    pub root : (s : ℕ) → (m.root s ≡ root_left s) × (m.froot s ≡ root_left s)
    pub body : (b j : ℕ) → (m.body b j ≡ im.body b j) × (m.fbody b j ≡ im.body b j)
    pub key : (s j : ℕ) → (m.key s j ≡ im.key s j) × (m.fkey s j ≡ im.key s j)
    pub count : m.count ≡ how_many (is_kept p im sound) p.slots

  module _ (m0 : Mem) (copies : BothCopies m0 im) where
    abbrev bufs : List ℕ
    bufs = buffers_of p

    abbrev count_store : RestartStore
    count_store = SetCount (how_many (is_kept p im sound) p.slots)

    -- the decoded words after the roots, after the lifts too, and after all
    abbrev m1 : Mem
    m1 = stores_mem m0 (first_part p im sound)

    abbrev m2 : Mem
    m2 = stores_mem m1 (lifts (on p im sound) (g p im sound) bufs)

    abbrev m3 : Mem
    m3 = stores_mem m0 (plan p im sound)

    lifts_then_count : m3 ≡ store_mem m2 count_store
    lifts_then_count = stores_both (first_part p im sound ++ lifts (on p im sound) (g p im sound) bufs) (count_store ∷ []) m0 ∙ ap (λ (m : Mem). store_mem m count_store) (stores_both (first_part p im sound) (lifts (on p im sound) (g p im sound) bufs) m0)

    roots_then_rest : m3 ≡ stores_mem m1 (later_part p im sound)
    roots_then_rest = ap (stores_mem m0) (in_parts p im sound) ∙ stores_both (first_part p im sound) (later_part p im sound) m0

    changed : Between (gone p im sound) (on p im sound) (g p im sound) m0 m3
    changed = between (gone p im sound) (on p im sound) (g p im sound) m0 (plan p im sound) (all_fit p im sound)

    same_before : (m1.next ≡ m0.next) × (m1.fnext ≡ m0.fnext)
    same_before = nexts_kept m0 (first_part p im sound) (clears_clear (gone p im sound) 0 p.slots)

    root_after : (s : ℕ) → (m3.root s ≡ root_left s) × (m3.froot s ≡ root_left s)
    root_after s = let l = roots_kept m1 (later_part p im sound) (all_later p im sound) in
        go (gone p im sound s) refl (ap (λ (m : Mem). m.root s) roots_then_rest ∙ ap (λ (f : ℕ → Option ℕ). f s) l.0) (ap (λ (m : Mem). m.froot s) roots_then_rest ∙ ap (λ (f : ℕ → Option ℕ). f s) l.1)
      where
        go : (x : Bool) → gone p im sound s ≡ x → m3.root s ≡ m1.root s → m3.froot s ≡ m1.froot s → (m3.root s ≡ cond x None (im.root s)) × (m3.froot s ≡ cond x None (im.root s))
        go true e a c = (a ∙ (all_cleared p im sound m0 copies).root s e, c ∙ (all_cleared p im sound m0 copies).froot s e)
        go false e a c = (⊎_elim (λ q. q ∙ (copies.root s).0) (λ q. absurd (true≢false (sym q.1 ∙ e))) (changed.root s), ⊎_elim (λ q. q ∙ (copies.root s).1) (λ q. absurd (true≢false (sym q.1 ∙ e))) (changed.froot s))

    nexts_then : (b : ℕ) → (m3.next b ≡ m2.next b) × (m3.fnext b ≡ m2.fnext b)
    nexts_then b = (ap (λ (m : Mem). m.next b) lifts_then_count, ap (λ (m : Mem). m.fnext b) lifts_then_count)

    next_after : (b : ℕ) → (m3.next b ≡ next_left b) × (m3.fnext b ≡ next_left b)
    next_after b = go (inside p b) (on p im sound b) refl refl
      where
        go : (x y : Bool) → inside p b ≡ x → on p im sound b ≡ y → (m3.next b ≡ cond (x && y) (next_up b) (im.next b)) × (m3.fnext b ≡ cond (x && y) (next_up b) (im.next b))
        go true true i o = let r = goes_up (gone p im sound) (on p im sound) (g p im sound) m1 bufs b (listed_inside p b i) o in ((nexts_then b).0 ∙ r.0, (nexts_then b).1 ∙ r.1)
        go true false i o = (⊎_elim (λ q. q ∙ (copies.next b).0) (λ q. absurd (true≢false (sym q.1 ∙ o))) (changed.next b), ⊎_elim (λ q. q ∙ (copies.next b).1) (λ q. absurd (true≢false (sym q.1 ∙ o))) (changed.fnext b))
        go false y i o = let r = stays_down (gone p im sound) (on p im sound) (g p im sound) m1 bufs b (λ w. true≢false (sym (inside_listed p b w) ∙ i)) in
            ((nexts_then b).0 ∙ r.0 ∙ ap (λ (f : ℕ → Next). f b) same_before.0 ∙ (copies.next b).0, (nexts_then b).1 ∙ r.1 ∙ ap (λ (f : ℕ → Next). f b) same_before.1 ∙ (copies.next b).1)

    pub restarted : Restarted m3
    restarted = record {
      next = next_after;
      root = root_after;
      body = λ b j. (ap (λ (f : ℕ → ℕ → ℕ). f b j) changed.body ∙ (copies.body b j).0, ap (λ (f : ℕ → ℕ → ℕ). f b j) changed.fbody ∙ (copies.body b j).1);
      key = λ s j. (ap (λ (f : ℕ → ℕ → ℕ). f s j) changed.key ∙ (copies.key s j).0, ap (λ (f : ℕ → ℕ → ℕ). f s j) changed.fkey ∙ (copies.key s j).1);
      count = ap (λ (m : Mem). m.count) lifts_then_count;
    }

    -- the image that is left is one that a restart may leave
    pub all_left : Restarting p im sound (image_in m3)
    all_left = stopped p im sound m0 copies (plan p im sound) [] (image_in m3) (sym (append-nil (plan p im sound))) (record { next = λ b. inl refl; root = λ s. inl refl; body = λ b j. inl refl; key = λ s j. inl refl })
