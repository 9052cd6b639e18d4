-- The last tag of a chain, found by going along it.
use Rattle.std.proofs.Common.{◌≡◌, ℕ, suc, ◌+◌, ◌*◌, ◌<◌, ◌≤◌, List, [], ◌∷◌, ◌++◌, length, Bool, true, false, refl, sym, ap, ◌∙◌, subst, arith, length-append, append_assoc}
use Rattle.std.specs.Prelude.{Option, Some, None, nat_lt}
use Rattle.std.specs.Option.{option_map}
use Rattle.std.proofs.lemmas.Bool.Decides.{nat_tests}
use Rattle.clover_words.specs.declared.pool.Pool.{Pool}
use Rattle.clover_words.specs.declared.word.Buffer.{Buffer}
use Rattle.clover_words.specs.declared.meta.Kind.TheVariants.{Value as ValueKind, Tombstone}
use Rattle.clover_words.specs.declared.word.Word.TheVariants.{Next as NextOf, Meta as MetaOf, Root}
use Rattle.clover_words.specs.Meta.{MetaParts, IsMeta, meta_word, tombstone}
use Rattle.clover_words.specs.Next.{NextParts, IsNext, IsLink, next_word, root_word}
use Rattle.clover_words.specs.Place.{IsBuffer}
use Rattle.clover_words.specs.Tag.{TagParts, tag_number, home}
use Rattle.clover_words.specs.Version.{buffer_at}
use Rattle.clover_map.specs.declared.bytes.Value.{Value}
use Rattle.clover_rule.specs.Content.{InRange, Fits, content, inside, value_meta}
use Rattle.clover_rule.specs.Cut.{IsSound}
use Rattle.clover_rule.specs.Image.{Image, Chain}
use Rattle.clover_rule.specs.Lists.{Each, nth}
use Rattle.clover_rule.specs.Memory.{link, word}
use Rattle.clover_rule.specs.Sound.{versions_of}
use Rattle.clover_rule.specs.Words.{guarded, root_of}
use Rattle.clover_rule.proofs.Codecs.{root_of_word}
use Rattle.clover_rule.proofs.Spelling.{short_enough}
use Rattle.clover_rule.proofs.Ties.{and_true, buffer_in, test_below}
use Rattle.clover_image.specs.Image.{PoolImage}
use Rattle.clover_image.specs.Reading.{decoded, is_value, last_of, number_in, number_of, of_value, tail_as}
use Rattle.clover_image.proofs.Chains.{chain_fits, nth_each, slot_range}
use Rattle.clover_image.proofs.Decoding.{next_tells, root_decodes, tag_options}

-- so many steps along the chain stands this tag
pub record IsReached (im : Image) (ts : List ℕ) (steps t : ℕ) : Type 0 where
  pub front : List ℕ
  pub back : List ℕ
  pub parts : ts ≡ front ++ (t ∷ back)
  pub count : length front ≡ steps
  pub here : Chain im (Some t) (t ∷ back)

last_here : (x : Option ℕ) (front : List ℕ) (t : ℕ) (back : List ℕ) → last_of x (front ++ (t ∷ back)) ≡ last_of (Some t) back
last_here x [] t back = refl
last_here x (f ∷ front) t back = last_here (Some f) front t back

range_here : (p : Pool) (front : List ℕ) (t : ℕ) (back : List ℕ) → Each (InRange p) (front ++ (t ∷ back)) → InRange p t
range_here p [] t back r = r.0
range_here p (f ∷ front) t back r = range_here p front t back r.1

-- the root is reached by no step
pub reached_first : (im : Image) (t : ℕ) (ts : List ℕ) → Chain im (Some t) ts → IsReached im ts 0 t
reached_first im t [] c = absurd c
reached_first im t (u ∷ us) c = record {
  front = [];
  back = us;
  parts = ap (λ (z : ℕ). z ∷ us) (sym c.0);
  count = refl;
  here = subst (λ (z : ℕ). Chain im (Some t) (z ∷ us)) (sym c.0) c;
}

module _ (p : Pool) (im : Image) (ts : List ℕ) (steps t : ℕ) (r : IsReached im ts steps t) where
  -- where each tag is in the pool's range, this one is
  pub reached_range : Each (InRange p) ts → InRange p t
  reached_range e = range_here p r.front t r.back (subst (Each (InRange p)) r.parts e)

  -- what its next word links to is reached by a step more
  pub reached_next : (y : ℕ) → link (im.next (home t)) ≡ Some y → IsReached im ts (steps + 1) y
  reached_next y e = go r.back (subst (λ (z : Option ℕ). Chain im z r.back) e r.here.2) r.parts
    where
      go : (us : List ℕ) → Chain im (Some y) us → ts ≡ r.front ++ (t ∷ us) → IsReached im ts (steps + 1) y
      go [] c q = absurd c
      go (u ∷ us) c q = record {
        front = r.front ++ (t ∷ []);
        back = us;
        parts = q ∙ sym (append_assoc r.front (t ∷ []) (u ∷ us)) ∙ ap (λ (z : ℕ). (r.front ++ (t ∷ [])) ++ (z ∷ us)) (sym c.0);
        count = length-append r.front (t ∷ []) ∙ ap (λ (n : ℕ). n + 1) r.count;
        here = subst (λ (z : ℕ). Chain im (Some y) (z ∷ us)) (sym c.0) c;
      }

  -- where it links to none, it is the last
  pub reached_last : link (im.next (home t)) ≡ None → last_of None ts ≡ Some t
  reached_last e = go r.back (subst (λ (z : Option ℕ). Chain im z r.back) e r.here.2) r.parts
    where
      go : (us : List ℕ) → Chain im None us → ts ≡ r.front ++ (t ∷ us) → last_of None ts ≡ Some t
      go [] c q = ap (last_of None) q ∙ last_here None r.front t []
      go (u ∷ us) c q = absurd c

  -- and there are fewer steps than buffers
  pub reached_few : (x : Option ℕ) → Chain im x ts → Each (InRange p) ts → steps + 1 ≤ p.nodes * p.buffers
  reached_few x c e =
      let f = chain_fits p im x ts c e in
      let l = length-append r.front (t ∷ r.back) in
      let q : length ts ≡ length (r.front ++ (t ∷ r.back)) = ap length r.parts in
      let k = r.count in
      omega arith

number_back : (n : ℕ) → number_of (buffer_at n) ≡ n
number_back n = omega arith

-- what the next word of a tag's buffer says
pub next_said : (m : PoolImage) (t : ℕ) (b : Buffer) (n : NextParts) → b ≡ buffer_at (home t)
    → IsBuffer m.pool b → IsNext n → next_word n ≡ number_in m (NextOf b) → (decoded m).next (home t) ≡ word n.own (option_map tag_number n.link)
next_said m t b n at h is e =
    sym (next_tells m b n h is e ∙ ap (λ (z : Buffer). (decoded m).next (number_of z)) at ∙ ap (decoded m).next (number_back (home t)))

-- and its link
pub link_said : (m : PoolImage) (t : ℕ) (b : Buffer) (n : NextParts) → b ≡ buffer_at (home t)
    → IsBuffer m.pool b → IsNext n → next_word n ≡ number_in m (NextOf b) → link ((decoded m).next (home t)) ≡ option_map tag_number n.link
link_said m t b n at h is e = ap link (next_said m t b n at h is e)

-- the root that the root's word says
pub root_said : (m : PoolImage) (s : ℕ) (o : Option TagParts) → s < m.pool.slots → root_word o ≡ number_in m (Root s) → (decoded m).root s ≡ option_map tag_number o
root_said m s o lt e =
    ap (λ (x : Bool). guarded x (root_of (number_in m (Root s))) None) (test_below s m.pool.slots lt) ∙ ap root_of (sym e) ∙ root_of_word o ∙ tag_options o

-- the meta word of a version
pub meta_at : (m : PoolImage) (b : ℕ) → inside m.pool b ≡ true → (decoded m).body b 0 ≡ number_in m (MetaOf (buffer_at b))
meta_at m b e = ap (λ (x : Bool). guarded x (number_in m (MetaOf (buffer_at b))) 0) (and_true (inside m.pool b) (nat_lt 0 (1 + m.pool.words)) e (test_below 0 (1 + m.pool.words) (omega arith)))

-- a content that a buffer has room for is told by its meta word
pub meta_shown : (p : Pool) (o : Option Value) (f : ℕ → ℕ) → Fits p o → ((j y : ℕ) → nth (content o) j ≡ Some y → f j ≡ y) → (x : MetaParts) × IsMeta x × (meta_word x ≡ f 0) × (of_value x.kind ≡ is_value o)
unfolding content
meta_shown p None f fits words = (record { kind = Tombstone; flags = 0; length = 0 }, (refl, refl), sym (words 0 tombstone refl), refl)
meta_shown p (Some v) f fits words = (record { kind = ValueKind; flags = v.flags; length = length v.bytes }, (fits.0, short_enough p (length v.bytes) fits.1), sym (words 0 (value_meta v) refl), refl)

-- the last of some versions is the one of their last tag
pub last_version : (ts : List ℕ) (f : ℕ → Option Value) (t : ℕ) → last_of None ts ≡ Some t → (i : ℕ) × (nth ts i ≡ Some t) × (last_of None (versions_of ts f) ≡ Some record { tag = t; value = f i })
last_version [] f t e = absurd (let q : None ≡ Some t = e in cc)
last_version (a ∷ []) f t e = let q : a ≡ t = (let z : Some a ≡ Some t = e in cc) in (0, e, ap (λ (z : ℕ). Some record { tag = z; value = f 0 }) q)
last_version (a ∷ b ∷ ts) f t e = let r = last_version (b ∷ ts) (λ (i : ℕ). f (suc i)) t e in (suc r.0, r.1, r.2)

-- a chain from nothing has no version
pub no_versions : (im : Image) (x : Option ℕ) (ts : List ℕ) (f : ℕ → Option Value) → x ≡ None → Chain im x ts → last_of None (versions_of ts f) ≡ None
no_versions im None [] f e c = refl
no_versions im None (u ∷ us) f e c = absurd c
no_versions im (Some t) ts f e c = absurd (cc)

last_some : (ts : List ℕ) (t : ℕ) → last_of (Some t) ts ≡ None → ⊥
last_some [] t e = absurd (let z : Some t ≡ None = e in cc)
last_some (u ∷ us) t e = last_some us u e

-- a chain from a root has a last tag
pub has_last : (im : Image) (t : ℕ) (ts : List ℕ) → Chain im (Some t) ts → last_of None ts ≡ None → ⊥
has_last im t [] c e = absurd c
has_last im t (u ∷ us) c e = last_some us u e

module _ (m : PoolImage) (sound : IsSound m.pool m.words) where
  -- a slot with no root has no tail
  pub no_tail : (s : ℕ) → (decoded m).root s ≡ None → option_map tail_as (last_of None (versions_of (sound.reads.chain s) (sound.reads.value s))) ≡ None
  no_tail s e = ap (option_map tail_as) (no_versions (decoded m) ((decoded m).root s) (sound.reads.chain s) (sound.reads.value s) e (sound.reads.walk s))

  -- the tail of a slot, by the last tag of its chain
  pub tail_said : (s t : ℕ) → last_of None (sound.reads.chain s) ≡ Some t → (x : MetaParts) × IsMeta x × IsBuffer m.pool (buffer_at (home t)) × (meta_word x ≡ number_in m (MetaOf (buffer_at (home t)))) × (option_map tail_as (last_of None (versions_of (sound.reads.chain s) (sound.reads.value s))) ≡ Some (t, of_value x.kind))
  tail_said s t e =
      let l = last_version (sound.reads.chain s) (sound.reads.value s) t e in
      let told = sound.reads.contents s l.0 t l.1 in
      let x = meta_shown m.pool (sound.reads.value s l.0) ((decoded m).body (home t)) told.0 told.1 in
      let in_pool = (nth_each (InRange m.pool) (sound.reads.chain s) l.0 t (slot_range m.pool (decoded m) sound.reads s) l.1).0 in
      (x.0, x.1, buffer_in m.pool (home t) in_pool, x.2 ∙ meta_at m (home t) in_pool, ap (option_map tail_as) l.2 ∙ ap (λ (b : Bool). Some (t, b)) (sym x.3))

  -- a slot whose root does not decode is not in the pool
  pub no_root : (s : ℕ) → ((o : Option TagParts) → s < m.pool.slots → IsLink o → root_word o ≡ number_in m (Root s) → ⊥) → (decoded m).root s ≡ None
  no_root s h = go (nat_lt s m.pool.slots) refl
    where
      go : (b : Bool) → nat_lt s m.pool.slots ≡ b → guarded b (root_of (number_in m (Root s))) None ≡ None
      go true e = absurd (let lt : s < m.pool.slots = grind (arith, nat_tests) in let d = root_decodes m sound s lt in h d.0 lt d.1 d.2)
      go false e = refl
