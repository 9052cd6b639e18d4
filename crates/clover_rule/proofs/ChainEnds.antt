-- Where a slot's chain ends: in the current copies at its last version, and in an image of a cut at the last one that the image has not lost.
use Rattle.std.proofs.Common.{◌≡◌, ℕ, zero, suc, ◌<◌, ◌≤◌, ◌⊎◌, List, [], ◌∷◌, length, drop, Bool, true, false, cond, refl, sym, ap, ◌∙◌, inl, inr, ⊎_elim, arith, subst, true≢false}
use native.Mathlib.Decide.{ℕ_discrete}
use mathlib.Core.Logic.{dite}
use Rattle.std.specs.List.{last_or}
use Rattle.std.specs.Prelude.{Option, Some, None}
use Rattle.std.proofs.lemmas.Option.{same_Some}
use Rattle.clover_words.specs.declared.pool.Pool.{Pool}
use Rattle.clover_words.specs.Tag.{home, age}
use Rattle.clover_rule.specs.Chains.{Walk}
use Rattle.clover_rule.specs.History.{Version}
use Rattle.clover_rule.specs.Image.{Image, IsImage, Chain, missing, sift, tags}
use Rattle.clover_rule.specs.Lists.{nth}
use Rattle.clover_rule.specs.Marks.{last_tag}
use Rattle.clover_rule.specs.Memory.{Mem, gen, link}
use Rattle.clover_rule.specs.Sound.{Sound}
use Rattle.clover_rule.specs.Story.{Core, Story, tag_at, tag_in_version}
use Rattle.clover_rule.proofs.Cuts.{Shown, cut_chain, shown, up_to}
use Rattle.clover_rule.proofs.Derived.{chain_of, chains}
use Rattle.clover_rule.proofs.OneReading.{one_chain}
use Rattle.clover_rule.proofs.Tools.{nth_none, nth_some, nth_within}

-- the last tag of a list of versions with something in it, whatever stands before
last_some : (o q : Option ℕ) (ws : List Version) → 0 < length ws → last_or o (tags ws) ≡ last_or q (tags ws)
last_some o q [] h = absurd (omega arith)
last_some o q (w ∷ ws) h = refl

last_there : (o : Option ℕ) (ws : List Version) → 0 < length ws → (t : ℕ) × (last_or o (tags ws) ≡ Some t)
last_there o [] h = absurd (omega arith)
last_there o (w ∷ []) h = (w.tag, refl)
last_there o (w ∷ v ∷ ws) h = last_there (Some w.tag) (v ∷ ws) (omega arith)

-- a list of versions without some of its first ones ends as the whole list
last_drop : (o q : Option ℕ) (n : ℕ) (ws : List Version) → n < length ws → last_or o (tags (drop n ws)) ≡ last_or q (tags ws)
last_drop o q zero ws h = last_some o q ws h
last_drop o q (suc n) [] h = absurd (omega arith)
last_drop o q (suc n) (w ∷ ws) h = last_drop o (Some w.tag) n ws (omega arith)

-- the version at the last place ends the list
pub last_at : (o : Option ℕ) (ws : List Version) (i : ℕ) (w : Version) → nth ws i ≡ Some w → length ws ≡ suc i → last_or o (tags ws) ≡ Some w.tag
last_at o [] i w e l = absurd cc
last_at o (x ∷ []) zero w e l = ap (λ (y : Version). Some y.tag) (same_Some x w e)
last_at o (x ∷ y ∷ ws) zero w e l = absurd (omega arith)
last_at o (x ∷ ws) (suc i) w e l = last_at (Some x.tag) ws i w e (omega arith)

-- what ends a list stands in it
pub at_last : (o : Option ℕ) (ws : List Version) (t : ℕ) → last_or o (tags ws) ≡ Some t → (o ≡ Some t) ⊎ ((i : ℕ) × (w : Version) × (nth ws i ≡ Some w) × (w.tag ≡ t))
at_last o [] t e = inl e
at_last o (x ∷ ws) t e = ⊎_elim (λ q. inr (zero, x, refl, same_Some x.tag t q)) (λ q. inr (suc q.0, q.1, q.2, q.3)) (at_last (Some x.tag) ws t e)

-- what ends a list that lost some is not lost
pub last_kept : (lost : ℕ → Bool) (o : Option ℕ) (ws : List Version) (t : ℕ) → (o ≡ Some t → lost t ≡ false) → last_or o (tags (sift lost ws)) ≡ Some t → lost t ≡ false
last_kept lost o [] t f e = f e
last_kept lost o (x ∷ ws) t f e = go (λ q. last_kept lost q ws t) (lost x.tag) refl e
  where
    go : ((q : Option ℕ) → (q ≡ Some t → lost t ≡ false) → last_or q (tags (sift lost ws)) ≡ Some t → lost t ≡ false) → (b : Bool) → lost x.tag ≡ b → last_or o (tags (cond b (sift lost ws) (x ∷ sift lost ws))) ≡ Some t → lost t ≡ false
    go rest true q z = rest o f z
    go rest false q z = rest (Some x.tag) (λ y. ap lost (sym (same_Some x.tag t y)) ∙ q) z

-- what ends a list and is not lost ends what is left of it
pub last_left : (lost : ℕ → Bool) (o q : Option ℕ) (ws : List Version) (t : ℕ) → (o ≡ Some t → q ≡ Some t) → lost t ≡ false → last_or o (tags ws) ≡ Some t → last_or q (tags (sift lost ws)) ≡ Some t
last_left lost o q [] t f l e = f e
last_left lost o q (x ∷ ws) t f l e = go (λ y g. last_left lost (Some x.tag) y ws t g l e) (lost x.tag) refl
  where
    go : ((y : Option ℕ) → (Some x.tag ≡ Some t → y ≡ Some t) → last_or y (tags (sift lost ws)) ≡ Some t) → (b : Bool) → lost x.tag ≡ b → last_or q (tags (cond b (sift lost ws) (x ∷ sift lost ws))) ≡ Some t
    go rest true z = rest q (λ y. absurd (true≢false (sym z ∙ ap lost (same_Some x.tag t y) ∙ l)))
    go rest false z = rest (Some x.tag) (λ y. y)

no_tag : (st : Story) (s i : ℕ) → length (st.log s) ≤ i → tag_at st s i ≡ None
no_tag st s i h = ap tag_in_version (nth_none (st.log s) i h)

module _ (m : Mem) (st : Story) (c : Core m st) where
  -- where the root of an image stands: at a durable version, not before those that were recycled
  record Start (im : Image) (s : ℕ) : Type 0 where
    at : ℕ
    root : im.root s ≡ tag_at st s at
    late : st.gone s ≤ at
    early : at < st.sure s

  -- an image without a root of the slot: it had at most the tombstone of a binding that waits
  record Rootless (im : Image) (s : ℕ) : Type 0 where
    root : im.root s ≡ None
    few : length (st.log s) ≤ 1
    dead : (i : ℕ) (w : Version) → nth (st.log s) i ≡ Some w → w.value ≡ None

  start : (im : Image) → IsImage m im → (s : ℕ) → Start im s ⊎ Rootless im s
  start im is s = dite (ℕ_discrete (length (st.log s)) 0) bare filled
    where
      bare : length (st.log s) ≡ 0 → Start im s ⊎ Rootless im s
      bare z = inr record {
        root = ⊎_elim (λ e. e ∙ c.root s ∙ no_tag st s (st.lead s) (omega arith)) (λ e. e ∙ ⊎_elim (λ f. f ∙ no_tag st s (st.flead s) (omega arith)) (λ f. f.empty) (c.froot s)) (is.root s);
        few = omega arith;
        dead = λ i w e. absurd (let q = nth_within (st.log s) i w e in omega arith);
      }

      filled : (length (st.log s) ≡ 0 → ⊥) → Start im s ⊎ Rootless im s
      filled n =
          let low = c.rooted s (omega arith) in
          let led = c.led s in
          ⊎_elim (λ e. inl record { at = st.lead s; root = e ∙ c.root s; late = omega arith; early = low })
          (λ e. ⊎_elim (λ f. inl record { at = st.flead s; root = e ∙ f; late = omega arith; early = omega arith }) (λ f. inr record { root = e ∙ f.empty; few = (let one = f.alone in omega arith); dead = f.dead }) (c.froot s)) (is.root s)

  -- the chain of a slot in an image ends in the last version that the image has not lost
  pub record Ended (p : Pool) (im : Image) (sound : Sound p im) (s : ℕ) : Type 0 where
    pub tag : ℕ
    pub chain : last_tag (sound.chain s) ≡ Some tag
    pub kept : last_tag (tags (sift (missing st im) (st.log s))) ≡ Some tag

  ended : (p : Pool) (im : Image) (is : IsImage m im) (sound : Sound p im) (s : ℕ) → Start im s → Ended p im sound s
  ended p im is sound s a =
      let left : List Version = sift (missing st im) (st.log s) in
      let n = (shown m st c im is s).0 in
      let f : Shown m st c im is s n = (shown m st c im is s).1 in
      let low = f.enough in
      let high = f.most in
      let soon = a.early in
      let there = nth_some (st.log s) a.at (omega arith) in
      let within : a.at < length left = nth_within left a.at there.0 (f.sifted a.at ∙ sym (up_to a.at n (nth (st.log s) a.at) (omega arith)) ∙ there.1) in
      let chain : Chain im (im.root s) (tags (drop a.at left)) = subst (λ (x : Option ℕ). Chain im x (tags (drop a.at left))) (sym a.root) (cut_chain m st c im is s a.at a.late a.early) in
      let last = last_there None left (omega arith) in
      record {
        tag = last.0;
        chain = ap last_tag (one_chain im (im.root s) (sound.chain s) (tags (drop a.at left)) (sound.walk s) chain) ∙ last_drop None None a.at left within ∙ last.1;
        kept = last.1;
      }

  -- or it is empty, where a binding at most was made
  pub record Empty (p : Pool) (im : Image) (sound : Sound p im) (s : ℕ) : Type 0 where
    pub chain : last_tag (sound.chain s) ≡ None
    pub few : length (st.log s) ≤ 1
    pub dead : (i : ℕ) (w : Version) → nth (st.log s) i ≡ Some w → w.value ≡ None

  pub image_ends : (p : Pool) (im : Image) (is : IsImage m im) (sound : Sound p im) (s : ℕ) → Ended p im sound s ⊎ Empty p im sound s
  image_ends p im is sound s = ⊎_elim (λ a. inl (ended p im is sound s a)) (λ a. inr record { chain = bare a.root; few = a.few; dead = a.dead }) (start im is s)
    where
      bare : im.root s ≡ None → last_tag (sound.chain s) ≡ None
      bare e = ap last_tag (one_chain im (im.root s) (sound.chain s) [] (sound.walk s) (subst (λ (x : Option ℕ). Chain im x []) (sym e) tt))

  -- an image with the current copies of next words and roots has the chains of the words
  walk_chain : (im : Image) → ((b : ℕ) → im.next b ≡ m.next b) → (x : Option ℕ) (ts : List ℕ) → Walk m x ts → Chain im x ts
  walk_chain im f None [] w = tt
  walk_chain im f (Some t) [] w = absurd cc
  walk_chain im f None (u ∷ us) w = absurd (let z = w.0 in cc)
  walk_chain im f (Some t) (u ∷ us) w =
      let q : t ≡ u = same_Some t u w.0 in
      let e : im.next (home t) ≡ m.next (home u) = f (home t) ∙ ap (λ (z : ℕ). m.next (home z)) q in
      (q, ap gen e ∙ w.1 ∙ ap age (sym q), subst (λ (y : Option ℕ). Chain im y us) (sym (ap link e)) (walk_chain im f (link (m.next (home u))) us w.2))

  -- and they end in each slot's last version
  pub current_ends : (p : Pool) (im : Image) → ((b : ℕ) → im.next b ≡ m.next b) → ((s : ℕ) → im.root s ≡ m.root s) → (sound : Sound p im) (s : ℕ) → last_tag (sound.chain s) ≡ last_tag (tags (st.log s))
  current_ends p im f g sound s = ap last_tag (one_chain im (im.root s) (sound.chain s) (chain_of st s) (sound.walk s) (walk_chain im f (im.root s) (chain_of st s) (subst (λ (x : Option ℕ). Walk m x (chain_of st s)) (sym (g s)) ((chains m st c).walk s)))) ∙ dite (ℕ_discrete (length (st.log s)) 0) bare filled
    where
      empty : (n : ℕ) (ws : List Version) → length ws ≡ 0 → last_tag (tags (drop n ws)) ≡ last_tag (tags ws)
      empty zero ws z = refl
      empty (suc n) [] z = refl
      empty (suc n) (w ∷ ws) z = absurd (omega arith)

      bare : length (st.log s) ≡ 0 → last_tag (tags (drop (st.lead s) (st.log s))) ≡ last_tag (tags (st.log s))
      bare z = empty (st.lead s) (st.log s) z

      filled : (length (st.log s) ≡ 0 → ⊥) → last_tag (tags (drop (st.lead s) (st.log s))) ≡ last_tag (tags (st.log s))
      filled n = let low = c.rooted s (omega arith) in let most = c.sure_most s in last_drop None None (st.lead s) (st.log s) (omega arith)
