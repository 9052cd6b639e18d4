-- Any stop of a restart leaves a sound image with the same map.
use Rattle.std.proofs.Common.{◌≡◌, ℕ, zero, suc, ◌<◌, ◌≤◌, List, [], ◌∷◌, refl, sym, ap, ◌∙◌, ⊎_elim, arith, subst}
use Rattle.std.specs.Prelude.{Option, Some, None}
use Rattle.clover_words.specs.Tag.{home, age}
use Rattle.clover_map.specs.declared.call.Entry.{Entry}
use Rattle.clover_map.specs.Tagged.{Tagged}
use Rattle.clover_rule.specs.Content.{Spells}
use Rattle.clover_map.specs.Legal.{used_by}
use Rattle.clover_rule.specs.History.{ends}
use Rattle.clover_rule.specs.Image.{Image, IsImage, Chain}
use Rattle.clover_rule.specs.Lists.{Each, nth}
use Rattle.clover_rule.specs.Memory.{gen, link, Mem}
use Rattle.clover_rule.specs.Server.{Whole}
use Rattle.clover_rule.specs.Sound.{Sound, Restarting, versions_of}
use Rattle.clover_rule.specs.Story.{Story}
use Rattle.clover_rule.specs.declared.view.View.{View}
use Rattle.clover_words.specs.declared.pool.Pool.{Pool}
use Rattle.clover_rule.proofs.Steps.{each_map}

chain_moved : (im im2 : Image) (us : List ℕ) (x : Option ℕ) → ((i t : ℕ) → nth us i ≡ Some t → im2.next (home t) ≡ im.next (home t)) → Chain im x us → Chain im2 x us
chain_moved im im2 [] None f c = tt
chain_moved im im2 [] (Some y) f c = absurd c
chain_moved im im2 (u ∷ us) None f c = absurd c
chain_moved im im2 (u ∷ us) (Some y) f c = let e : im2.next (home y) ≡ im.next (home y) = ap (λ (a : ℕ). im2.next (home a)) c.0 ∙ f zero u refl ∙ sym (ap (λ (a : ℕ). im.next (home a)) c.0) in
    (c.0, ap gen e ∙ c.1, subst (λ (a : Option ℕ). Chain im2 a us) (sym (ap link e)) (chain_moved im im2 us (link (im.next (home y))) (λ i t q. f (suc i) t q) c.2))

abbrev pub shown_chain : Option ℕ → List ℕ → List ℕ
shown_chain None us = []
shown_chain (Some t) us = us

module _ (l : Pool) (im : Image) (sound : Sound l im) (im2 : Image) (r : Restarting l im sound im2) where
  -- a slot that still has a root has the image's
  pub rooted : (s t : ℕ) → im2.root s ≡ Some t → im.root s ≡ Some t
  rooted s t e = ⊎_elim (λ a. sym a ∙ e) (λ a. absurd (cc (a.0, e))) (r.root s)

  still : (s u i t : ℕ) → im2.root s ≡ Some u → nth (sound.chain s) i ≡ Some t → im2.next (home t) ≡ im.next (home t)
  still s u i t e q = ⊎_elim (λ a. a) (λ a. absurd (a.2 s i t (λ z. absurd (cc (z, e))) q refl)) (r.next (home t))

  abbrev pub chain2 : ℕ → List ℕ
  chain2 s = shown_chain (im2.root s) (sound.chain s)

  walk2 : (s : ℕ) (x : Option ℕ) → im2.root s ≡ x → Chain im2 x (shown_chain x (sound.chain s))
  walk2 s None e = tt
  walk2 s (Some t) e = chain_moved im im2 (sound.chain s) (Some t) (λ i u q. still s t i u e q) (subst (λ (x : Option ℕ). Chain im x (sound.chain s)) (rooted s t e) (sound.walk s))

  old_chain : (s i t : ℕ) (x : Option ℕ) → nth (shown_chain x (sound.chain s)) i ≡ Some t → nth (sound.chain s) i ≡ Some t
  old_chain s i t None e = absurd cc
  old_chain s i t (Some y) e = e

  spelt : (s : ℕ) (k : List ℕ) → Spells (im.key s) k → Spells (im2.key s) k
  spelt s k f j x q = r.key s j ∙ f j x q

  unspelt : (s : ℕ) (k : List ℕ) → Spells (im2.key s) k → Spells (im.key s) k
  unspelt s k f j x q = sym (r.key s j) ∙ f j x q

  pub restart_sound : Sound l im2
  restart_sound = record {
    own = λ b. ⊎_elim (λ a. let z = ap gen a in let y = sound.own b in omega arith) (λ a. let z = ap gen a.0 in let y = a.1 in omega arith) (r.next b);
    target = λ b t e. ⊎_elim (λ a. sound.target b t (sym (ap link a) ∙ e)) (λ a. absurd (cc (ap link a.0, e))) (r.next b);
    root = λ s t e. sound.root s t (rooted s t e);
    key = λ s t e. let a = sound.key s t (rooted s t e) in (a.0, a.1, spelt s a.0 a.2);
    same = λ s1 s2 t1 t2 k e1 e2 ik q1 q2. sound.same s1 s2 t1 t2 k (rooted s1 t1 e1) (rooted s2 t2 e2) ik (unspelt s1 k q1) (unspelt s2 k q2);
    chain = chain2;
    walk = λ s. walk2 s (im2.root s) refl;
    once = λ s1 s2 i1 i2 t1 t2 e1 e2 q. sound.once s1 s2 i1 i2 t1 t2 (old_chain s1 i1 t1 (im2.root s1) e1) (old_chain s2 i2 t2 (im2.root s2) e2) q;
    value = sound.value;
    contents = λ s i t e. let a = sound.contents s i t (old_chain s i t (im2.root s) e) in (a.0, λ j y q. r.body (home t) j ∙ a.1 j y q);
    inside = λ s t e. sound.inside s t (rooted s t e);
  }

  -- each slot's chain ends in what it ended in
  pub restart_map : (s : ℕ) → ends None (versions_of (chain2 s) (sound.value s)) ≡ ends None (versions_of (sound.chain s) (sound.value s))
  restart_map s = go (im2.root s) refl
    where
      bare : Chain im None (sound.chain s) → ends None (versions_of [] (sound.value s)) ≡ ends None (versions_of (sound.chain s) (sound.value s))
      bare c = nil (sound.chain s) c
        where
          nil : (us : List ℕ) → Chain im None us → ends None (versions_of [] (sound.value s)) ≡ ends None (versions_of us (sound.value s))
          nil [] c = refl
          nil (u ∷ us) c = absurd c

      go : (x : Option ℕ) → im2.root s ≡ x → ends None (versions_of (shown_chain x (sound.chain s)) (sound.value s)) ≡ ends None (versions_of (sound.chain s) (sound.value s))
      go (Some t) e = refl
      go None e = ⊎_elim (λ a. bare (subst (λ (x : Option ℕ). Chain im x (sound.chain s)) (sym a ∙ e) (sound.walk s))) (λ a. sym a.1) (r.root s)

  -- its chains and values
  pub restart_chain : (s : ℕ) → restart_sound.chain s ≡ chain2 s
  unfolding restart_sound
  restart_chain s = refl

  pub restart_value : (s : ℕ) → restart_sound.value s ≡ sound.value s
  unfolding restart_sound
  restart_value s = refl

  -- each slot's chain ends in what it ended in, as the image is read then
  pub restart_ends : (s : ℕ) → ends None (versions_of (restart_sound.chain s) (restart_sound.value s)) ≡ ends None (versions_of (sound.chain s) (sound.value s))
  unfolding restart_sound
  restart_ends s = restart_map s

-- in each image of a cut no used tag is above its buffer's generation
module _ (l : Pool) (m0 : Tagged) (used : List ℕ) (m : Mem) (vs : List View) (st : Story) (h : List Entry) (w : Whole l m0 used m vs st h) (im : Image) (is : IsImage m im) where
  pub cut_used : Each (λ (t : ℕ). (age t < l.wear) × (age t ≤ gen (im.next (home t)))) (used_by used h)
  cut_used = each_map (λ t d. (d.0, let a = d.1 in let b = w.help.ranged.below (home t) in ⊎_elim (λ q. let z = ap gen q in omega arith) (λ q. let z = ap gen q in omega arith) (is.next (home t)))) (used_by used h) w.safe
