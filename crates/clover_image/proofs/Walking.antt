-- Going along the chains of an image, a tag at a time, with a mark for each buffer that was met.
use Rattle.std.proofs.Common.{◌≡◌, ◌≢◌, ◌⊎◌, ℕ, ◌+◌, ◌*◌, ◌/◌, ◌%◌, ◌<◌, ◌≤◌, List, [], ◌∷◌, ◌++◌, length, get_or, Bool, true, false, refl, sym, ap, ◌∙◌, subst, inl, inr, ⊎_elim, arith, true≢false}
use native.Mathlib.Decide.{ℕ_discrete}
use Rattle.std.specs.Prelude.{Option, Some, None, replicate, slice_set}
use Rattle.std.proofs.lemmas.Bool.{cases_lt}
use Rattle.std.proofs.lemmas.List.{get_or-replicate, get_or-set_other, get_or-set_same, get_or_past, length-replicate, length-set}
use Rattle.std.proofs.lemmas.Nat.{mul-add-lt}
use Rattle.clover_words.specs.declared.pool.Pool.{Pool}
use Rattle.clover_words.specs.declared.word.Buffer.{Buffer}
use Rattle.clover_words.specs.declared.word.Word.TheVariants.{Next as NextOf}
use Rattle.clover_words.specs.Place.{IsBuffer}
use Rattle.clover_words.specs.Tag.{home, age}
use Rattle.clover_words.specs.Version.{buffer_at}
use Rattle.clover_words.proofs.Places.{buffer_again}
use Rattle.clover_map.specs.declared.bytes.Value.{Value}
use Rattle.clover_rule.specs.Content.{InRange}
use Rattle.clover_rule.specs.Image.{Image, Chain}
use Rattle.clover_rule.specs.Lists.{nth, upd}
use Rattle.clover_rule.specs.Memory.{word, gen, link}
use Rattle.clover_rule.specs.Words.{guarded, next_of}
use Rattle.clover_rule.proofs.Ties.{buffer_in}
use Rattle.clover_rule.proofs.Tools.{length_snoc, nth_front, nth_last, nth_snoc, nth_within, upd_else, upd_same}
use Rattle.clover_image.specs.declared.damage.Damage.{Damage}
use Rattle.clover_image.specs.Contents.{HasVersion}
use Rattle.clover_image.specs.Damage.{ChainDamage, NextHolds, NextsHold, TagFault}
use Rattle.clover_image.specs.Damage.TagFault.{generation, twice, content}
use Rattle.clover_image.specs.Image.{PoolImage}
use Rattle.clover_image.specs.Reading.{decoded, number_in}
use Rattle.clover_image.specs.Walking.{AreFine, AreMarked, AreWalked, IsMet, IsVersion, IsWalked, Path, place_of}
use Rattle.clover_image.proofs.Chains.{apart_fits, each_nth, place_below, place_home}

-- a path goes on by a tag that serves its generation
path_more : (im : Image) (x : Option ℕ) (ts : List ℕ) (t : ℕ) (y : Option ℕ) → Path im x ts (Some t) → gen (im.next (home t)) ≡ age t → link (im.next (home t)) ≡ y → Path im x (ts ++ t ∷ []) y
path_more im None [] t y p g l = absurd (let z : None ≡ Some t = p in cc)
path_more im (Some z) [] t y p g l =
    let e : z ≡ t = (let q : Some z ≡ Some t = p in cc) in
    (e, subst (λ (b : ℕ). gen (im.next (home b)) ≡ age b) (sym e) g, ap (λ (b : ℕ). link (im.next (home b))) e ∙ l)
path_more im None (u ∷ us) t y p g l = absurd p
path_more im (Some z) (u ∷ us) t y p g l = (p.0, p.1, path_more im (link (im.next (home z))) us t y p.2 g l)

-- a path that leads to nothing is a chain
path_ends : (im : Image) (x : Option ℕ) (ts : List ℕ) → Path im x ts None → Chain im x ts
path_ends im None [] p = tt
path_ends im (Some z) [] p = absurd (let q : Some z ≡ None = p in cc)
path_ends im None (u ∷ us) p = absurd p
path_ends im (Some z) (u ∷ us) p = (p.0, p.1, path_ends im (link (im.next (home z))) us p.2)

-- a mark that was set stays
marks_stay : (marks : List Bool) (n k : ℕ) → k < length marks → get_or marks n false ≡ true → get_or (slice_set marks k true) n false ≡ true
marks_stay marks n k h e = go (ℕ_discrete n k)
  where
    go : Dec (n ≡ k) → get_or (slice_set marks k true) n false ≡ true
    go (yes d) = ap (λ (i : ℕ). get_or (slice_set marks k true) i false) d ∙ get_or-set_same marks k true false h
    go (no d) = get_or-set_other marks k n true false d ∙ e

-- tags of one buffer have one place
pub home_place : (p : Pool) (t u : ℕ) → home u ≡ home t → place_of p u ≡ place_of p t
home_place p t u e = ap (λ (b : ℕ). b / 65536 * p.buffers + b % 65536) e

-- the next word of a buffer of the pool holds
pub next_within : (m : PoolImage) (b : Buffer) → NextsHold m → IsBuffer m.pool b → NextHolds m b
next_within m b holds h =
    let p = m.pool in
    subst (NextHolds m) (buffer_again p b (b.node * p.buffers + b.index) h refl) (holds (b.node * p.buffers + b.index) (let l = mul-add-lt b.node p.buffers b.index p.nodes h.node h.index in omega arith))

pub next_at : (m : PoolImage) (t : ℕ) → NextsHold m → InRange m.pool t → NextHolds m (buffer_at (home t))
next_at m t holds r = next_within m (buffer_at (home t)) holds (buffer_in m.pool (home t) r.0)

-- so the tag that it links to is of the pool
pub link_range : (m : PoolImage) (t u : ℕ) → NextsHold m → InRange m.pool t → link ((decoded m).next (home t)) ≡ Some u → InRange m.pool u
link_range m t u holds r e =
    (next_at m t holds r).shown.1.1 u (sym (ap (λ (x : Bool). link (guarded x (next_of (number_in m (NextOf (buffer_at (home t))))) (word 0 None))) r.0) ∙ e)

module _ (m : PoolImage) (slot : ℕ) where
  -- a slot's chain begins at its root
  pub walk_begins : (t : ℕ) (tags : ℕ → List ℕ) → (decoded m).root slot ≡ Some t → AreWalked m slot tags → IsWalked m slot (Some t) tags
  walk_begins t tags e w = record {
    fine = w.fine;
    whole = w.whole;
    here = subst (λ (ts : List ℕ). Path (decoded m) ((decoded m).root slot) ts (Some t)) (sym (w.ahead slot (omega arith))) e;
    ahead = λ s h. w.ahead s (omega arith);
  }

  -- and is whole where it leads to nothing
  pub walk_ends : (tags : ℕ → List ℕ) → IsWalked m slot None tags → AreWalked m (slot + 1) tags
  walk_ends tags w = record { fine = w.fine; whole = λ s h. by s h (ℕ_discrete s slot); ahead = λ s h. w.ahead s (omega arith) }
    where
      by : (s : ℕ) → s < slot + 1 → Dec (s ≡ slot) → Chain (decoded m) ((decoded m).root s) (tags s)
      by s h (yes d) = subst (λ (n : ℕ). Chain (decoded m) ((decoded m).root n) (tags n)) (sym d) (path_ends (decoded m) ((decoded m).root slot) (tags slot) w.here)
      by s h (no d) = w.whole s (omega arith)

  -- a slot with no root has no tags
  pub walk_skips : (tags : ℕ → List ℕ) → (decoded m).root slot ≡ None → AreWalked m slot tags → AreWalked m (slot + 1) tags
  walk_skips tags e w = walk_ends tags (record {
    fine = w.fine;
    whole = w.whole;
    here = subst (λ (ts : List ℕ). Path (decoded m) ((decoded m).root slot) ts None) (sym (w.ahead slot (omega arith))) e;
    ahead = λ s h. w.ahead s (omega arith);
  })

  -- a slot has at most as many tags as the pool has buffers
  pub few_tags : (y : Option ℕ) (tags : ℕ → List ℕ) → IsWalked m slot y tags → length (tags slot) ≤ m.pool.nodes * m.pool.buffers
  few_tags y tags w = apart_fits m.pool (tags slot) (λ i j t u e f g. (w.fine.once slot slot i j t u e f g).1) (each_nth (InRange m.pool) (tags slot) (λ i t e. w.fine.range slot i t e))

  module _ (t : ℕ) (tags : ℕ → List ℕ) (w : IsWalked m slot (Some t) tags) (marks : List Bool) (marked : AreMarked m.pool tags marks) (r : InRange m.pool t) where
    -- what the marks say of a tag is what the tags say
    met_marked : IsMet tags t → get_or marks (place_of m.pool t) false ≡ true
    met_marked (s, i, u, e, h) = ap (λ (n : ℕ). get_or marks n false) (sym (home_place m.pool t u h)) ∙ marked.each s i u e

    marked_met : get_or marks (place_of m.pool t) false ≡ true → IsMet tags t
    marked_met e = let o = marked.only (place_of m.pool t) e in (o.0, o.1, o.2, o.3, place_home m.pool o.2 t (w.fine.range o.0 o.1 o.2 o.3) r o.4)

    -- so a fault that was found by the marks is one of the tags
    pub fault_found : (d : Damage) → TagFault m t (get_or marks (place_of m.pool t) false ≡ true) d → ChainDamage m slot d
    fault_found d f = record { tag = t; tags = tags; walked = w; fault = by f }
      where
        by : TagFault m t (get_or marks (place_of m.pool t) false ≡ true) d → TagFault m t (IsMet tags t) d
        by (generation ne e) = generation ne e
        by (twice g met e) = twice g (marked_met met) e
        by (content g fresh c) = content g (λ met. fresh (met_marked met)) c

    -- a version whose buffer was not met is one more tag
    module _ (y : Option ℕ) (version : IsVersion m t y) (fresh : get_or marks (place_of m.pool t) false ≡ false) where
      abbrev pub more : ℕ → List ℕ
      more = upd tags slot (tags slot ++ t ∷ [])

      here : more slot ≡ tags slot ++ t ∷ []
      here = upd_same tags slot (tags slot ++ t ∷ [])

      other : (s : ℕ) → s ≢ slot → more s ≡ tags s
      other s d = upd_else tags slot s (tags slot ++ t ∷ []) d

      -- each of the tags is one of those before, or the new one
      New : ℕ → ℕ → ℕ → Type 0
      New s i u = (s ≡ slot) × (i ≡ length (tags slot)) × (t ≡ u)

      cases : (s i u : ℕ) → nth (more s) i ≡ Some u → (nth (tags s) i ≡ Some u) ⊎ New s i u
      unfolding New
      cases s i u e = by (ℕ_discrete s slot)
        where
          by : Dec (s ≡ slot) → (nth (tags s) i ≡ Some u) ⊎ ((s ≡ slot) × (i ≡ length (tags slot)) × (t ≡ u))
          by (no d) = inl (ap (λ (ts : List ℕ). nth ts i) (sym (other s d)) ∙ e)
          by (yes d) = ⊎_elim
              (λ h. inl (ap (λ (n : ℕ). nth (tags n) i) d ∙ h))
              (λ h. inr (d, h.0, h.1))
              (nth_snoc (tags slot) t u i (ap (λ (ts : List ℕ). nth ts i) (sym here) ∙ ap (λ (n : ℕ). nth (more n) i) (sym d) ∙ e))

      kept : (s i u : ℕ) → nth (tags s) i ≡ Some u → nth (more s) i ≡ Some u
      kept s i u e = by (ℕ_discrete s slot)
        where
          by : Dec (s ≡ slot) → nth (more s) i ≡ Some u
          by (no d) = ap (λ (ts : List ℕ). nth ts i) (other s d) ∙ e
          by (yes d) =
              let q : nth (tags slot) i ≡ Some u = ap (λ (n : ℕ). nth (tags n) i) (sym d) ∙ e in
              let l = nth_within (tags slot) i u q in
              ap (λ (n : ℕ). nth (more n) i) d ∙ ap (λ (ts : List ℕ). nth ts i) here ∙ nth_front (tags slot) t i (λ z. omega arith) ∙ q

      last : nth (more slot) (length (tags slot)) ≡ Some t
      last = ap (λ (ts : List ℕ). nth ts (length (tags slot))) here ∙ nth_last (tags slot) t

      -- no tag before is of this buffer
      unmet : (s i u : ℕ) → nth (tags s) i ≡ Some u → home u ≡ home t → ⊥
      unmet s i u e h = true≢false (sym (met_marked (s, i, u, e, h)) ∙ fresh)

      once : (s1 s2 i1 i2 t1 t2 : ℕ) → (nth (tags s1) i1 ≡ Some t1) ⊎ New s1 i1 t1 → (nth (tags s2) i2 ≡ Some t2) ⊎ New s2 i2 t2 → home t2 ≡ home t1 → (s2 ≡ s1) × (i2 ≡ i1)
      unfolding New
      once s1 s2 i1 i2 t1 t2 (inl a) (inl b) h = w.fine.once s1 s2 i1 i2 t1 t2 a b h
      once s1 s2 i1 i2 t1 t2 (inl a) (inr b) h = absurd (unmet s1 i1 t1 a (sym h ∙ ap home (sym b.2)))
      once s1 s2 i1 i2 t1 t2 (inr a) (inl b) h = absurd (unmet s2 i2 t2 b (h ∙ ap home (sym a.2)))
      once s1 s2 i1 i2 t1 t2 (inr a) (inr b) h = (b.0 ∙ sym a.0, b.1 ∙ sym a.1)

      pub fine_more : AreFine m more
      unfolding New
      fine_more = record {
        range = λ s i u e. ⊎_elim (λ h. w.fine.range s i u h) (λ h. subst (InRange m.pool) h.2 r) (cases s i u e);
        contents = λ s i u e. ⊎_elim (λ h. w.fine.contents s i u h) (λ h. subst (λ (n : ℕ). (x : Option Value) × HasVersion m n x) h.2 version.content) (cases s i u e);
        once = λ s1 s2 i1 i2 t1 t2 a b h. once s1 s2 i1 i2 t1 t2 (cases s1 i1 t1 a) (cases s2 i2 t2 b) h;
      }

      pub walked_more : IsWalked m slot y more
      walked_more = record {
        fine = fine_more;
        whole = λ s h. subst (Chain (decoded m) ((decoded m).root s)) (sym (other s (λ e. omega arith))) (w.whole s h);
        here = subst (λ (ts : List ℕ). Path (decoded m) ((decoded m).root slot) ts y) (sym here) (path_more (decoded m) ((decoded m).root slot) (tags slot) t y w.here version.serves version.links);
        ahead = λ s h. other s (λ e. omega arith) ∙ w.ahead s h;
      }

      pub longer : length (more slot) ≡ length (tags slot) + 1
      longer = let l = length_snoc t (tags slot) in let e = ap (λ (ts : List ℕ). length ts) here in omega arith

      in_marks : place_of m.pool t < length marks
      in_marks = let h = place_below m.pool t r in let s = marked.sized in omega arith

      pub marked_more : AreMarked m.pool more (slice_set marks (place_of m.pool t) true)
      unfolding New
      marked_more = record {
        sized = length-set marks (place_of m.pool t) true ∙ marked.sized;
        each = λ s i u e. ⊎_elim
            (λ h. marks_stay marks (place_of m.pool u) (place_of m.pool t) in_marks (marked.each s i u h))
            (λ h. ap (λ (n : ℕ). get_or (slice_set marks (place_of m.pool t) true) (place_of m.pool n) false) (sym h.2) ∙ get_or-set_same marks (place_of m.pool t) true false in_marks)
            (cases s i u e);
        only = λ n e. by n e (ℕ_discrete n (place_of m.pool t));
      }
        where
          by : (n : ℕ) → get_or (slice_set marks (place_of m.pool t) true) n false ≡ true → Dec (n ≡ place_of m.pool t) → (s : ℕ) × (i : ℕ) × (u : ℕ) × (nth (more s) i ≡ Some u) × (place_of m.pool u ≡ n)
          by n e (yes d) = (slot, length (tags slot), t, last, sym d)
          by n e (no d) =
              let o = marked.only n (sym (get_or-set_other marks (place_of m.pool t) n true false d) ∙ e) in
              (o.0, o.1, o.2, kept o.0 o.1 o.2 o.3, o.4)

-- at first no tag was met, and no buffer is marked
pub walk_none : (m : PoolImage) → AreWalked m 0 (λ _. [])
walk_none m = record {
  fine = record {
    range = λ s i t e. absurd (let q : None ≡ Some t = e in cc);
    contents = λ s i t e. absurd (let q : None ≡ Some t = e in cc);
    once = λ s1 s2 i1 i2 t1 t2 e f h. absurd (let q : None ≡ Some t1 = e in cc);
  };
  whole = λ s h. absurd (omega arith);
  ahead = λ s h. refl;
}

no_mark : (n k : ℕ) → (k < n) ⊎ (n ≤ k) → get_or (replicate n false) k false ≡ false
no_mark n k (inl h) = get_or-replicate {A = Bool} n k false false h
no_mark n k (inr h) = get_or_past {X = Bool} (replicate n false) k false (let l = length-replicate {A = Bool} n false in omega arith)

pub marked_none : (p : Pool) (marks : List Bool) → marks ≡ replicate (p.nodes * p.buffers) false → AreMarked p (λ _. []) marks
marked_none p marks e = subst (AreMarked p (λ _. [])) (sym e) (record {
  sized = length-replicate {A = Bool} (p.nodes * p.buffers) false;
  each = λ s i t q. absurd (let z : None ≡ Some t = q in cc);
  only = λ n q. absurd (true≢false (sym q ∙ no_mark (p.nodes * p.buffers) n (cases_lt n (p.nodes * p.buffers))));
})
