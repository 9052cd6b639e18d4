-- What the passes find makes an image sound, and what each refuses no sound image has.
use Rattle.std.proofs.Common.{◌≡◌, ◌⊎◌, ℕ, zero, suc, ◌/◌, ◌%◌, ◌<◌, ◌≤◌, List, [], ◌∷◌, length, Bool, true, false, refl, sym, ap, ◌∙◌, subst, inl, inr, arith}
use native.Mathlib.Decide.{ℕ_discrete}
use Rattle.std.specs.Prelude.{Option, Some, None, nat_lt}
use Rattle.std.proofs.lemmas.Bool.{cases_lt}
use Rattle.std.proofs.lemmas.Bool.Decides.{nat_tests}
use Rattle.std.proofs.Math.Nat.{div-lt_iff_lt-mul}
use Rattle.clover_words.specs.declared.meta.Kind.{Kind}
use Rattle.clover_words.specs.declared.meta.Kind.TheVariants.{Value as ValueKind, Tombstone}
use Rattle.clover_words.specs.declared.word.Side.TheVariants.{Flushed}
use Rattle.clover_words.specs.declared.word.Word.{Word}
use Rattle.clover_words.specs.declared.word.Word.TheVariants.{Next as NextOf, Meta as MetaOf, Value as ValueOf, Root, Key, Short, Count}
use Rattle.clover_words.specs.Meta.{MetaParts, IsMeta, meta_word}
use Rattle.clover_words.specs.Pack.{packed}
use Rattle.clover_words.specs.Place.{IsWithin, HasSide, buffer_of}
use Rattle.clover_words.specs.Tag.{home, age}
use Rattle.clover_words.specs.Version.{buffer_at}
use Rattle.clover_map.specs.declared.bytes.Value.{Value}
use Rattle.clover_map.specs.Key.{IsKey}
use Rattle.clover_rule.specs.Content.{InRange, Spells, inside}
use Rattle.clover_rule.specs.Cut.{IsSound}
use Rattle.clover_rule.specs.Image.{Image, Chain}
use Rattle.clover_rule.specs.Lists.{nth}
use Rattle.clover_rule.specs.Meets.{IsCode}
use Rattle.clover_rule.specs.Memory.{Next, word, gen, link}
use Rattle.clover_rule.specs.Words.{guarded, next_of, root_of}
use Rattle.clover_rule.proofs.OneReading.{one_chain}
use Rattle.clover_rule.proofs.Spelling.{meta_apart, meta_parts}
use Rattle.clover_rule.proofs.Ties.{buffer_in}
use Rattle.clover_rule.proofs.Tools.{nth_within}
use Rattle.clover_image.specs.declared.damage.Damage.{Damage}
use Rattle.clover_image.specs.Contents.{HasVersion}
use Rattle.clover_image.specs.Damage.{ChainDamage, ContentDamage, IsPadded, KeyDamage, KeyFault, KeysHold, LacksPadding, NextDamage, NextsHold, RootDamage, RootsHold, SaysMeta, TagFault}
use Rattle.clover_image.specs.Damage.ContentDamage.{meta, padding}
use Rattle.clover_image.specs.Damage.KeyFault.{lacks, shares}
use Rattle.clover_image.specs.Damage.TagFault.{generation, twice, content as content_fault}
use Rattle.clover_image.specs.Image.{PoolImage}
use Rattle.clover_image.specs.Reading.{decoded, number_in, of_value}
use Rattle.clover_image.specs.Walking.{AreWalked, IsMet, Path}
use Rattle.clover_image.proofs.Contents.{dead_meta, live_meta, live_words}
use Rattle.clover_image.proofs.Decoding.{sound_next, sound_root}
use Rattle.clover_image.proofs.Padding.{padded_bytes}
use Rattle.clover_image.proofs.Walking.{next_within}

-- the value at a place of a chain, where each tag there has a content
value_of : (m : PoolImage) (o : Option ℕ) → ((t : ℕ) → o ≡ Some t → (x : Option Value) × HasVersion m t x) → Option Value
value_of m None has = None
value_of m (Some t) has = (has t refl).0

value_has : (m : PoolImage) (o : Option ℕ) (has : (t : ℕ) → o ≡ Some t → (x : Option Value) × HasVersion m t x) (t : ℕ) → o ≡ Some t → HasVersion m t (value_of m o has)
unfolding value_of
value_has m None has t e = absurd (let z : None ≡ Some t = e in cc)
value_has m (Some u) has t e = let z : u ≡ t = (let q : Some u ≡ Some t = e in cc) in subst (λ (n : ℕ). HasVersion m n (has u refl).0) z (has u refl).1

module _ (m : PoolImage) where
  module _ (nexts : NextsHold m) (roots : RootsHold m) (keys : KeysHold m) (tags : ℕ → List ℕ) (walked : AreWalked m m.pool.slots tags) where
    im : Image
    im = decoded m

    -- what a next word or a root decodes to
    next_fine : (b : ℕ) → (gen ((decoded m).next b) ≤ m.pool.wear) × ((t : ℕ) → link ((decoded m).next b) ≡ Some t → InRange m.pool t)
    next_fine b = go (inside m.pool b) refl
      where
        go : (x : Bool) → inside m.pool b ≡ x → (gen ((decoded m).next b) ≤ m.pool.wear) × ((t : ℕ) → link ((decoded m).next b) ≡ Some t → InRange m.pool t)
        go true e =
            let is : (decoded m).next b ≡ next_of (number_in m (NextOf (buffer_at b))) = ap (λ (x : Bool). guarded x (next_of (number_in m (NextOf (buffer_at b)))) (word 0 None)) e in
            let h = (next_within m (buffer_at b) nexts (buffer_in m.pool b e)).shown.1 in
            (subst (λ (n : Next). gen n ≤ m.pool.wear) (sym is) h.0, λ t q. h.1 t (sym (ap link is) ∙ q))
        go false e =
            let is : (decoded m).next b ≡ word 0 None = ap (λ (x : Bool). guarded x (next_of (number_in m (NextOf (buffer_at b)))) (word 0 None)) e in
            (subst (λ (n : Next). gen n ≤ m.pool.wear) (sym is) (omega arith), λ t q. absurd (let z : None ≡ Some t = sym (ap link is) ∙ q in cc))

    root_fine : (s : ℕ) → (((decoded m).root s ≡ None) × (m.pool.slots ≤ s)) ⊎ ((s < m.pool.slots) × ((t : ℕ) → (decoded m).root s ≡ Some t → InRange m.pool t))
    root_fine s = go (nat_lt s m.pool.slots) refl
      where
        go : (x : Bool) → nat_lt s m.pool.slots ≡ x → (((decoded m).root s ≡ None) × (m.pool.slots ≤ s)) ⊎ ((s < m.pool.slots) × ((t : ℕ) → (decoded m).root s ≡ Some t → InRange m.pool t))
        go true e =
            let lt : s < m.pool.slots = grind (arith, nat_tests) in
            let is : (decoded m).root s ≡ root_of (number_in m (Root s)) = ap (λ (x : Bool). guarded x (root_of (number_in m (Root s))) None) e in
            inr (lt, λ t q. (roots s lt).shown.1 t (sym is ∙ q))
        go false e =
            let le : m.pool.slots ≤ s = grind (arith, nat_tests) in
            inl (ap (λ (x : Bool). guarded x (root_of (number_in m (Root s))) None) e, le)

    root_within : (s t : ℕ) → (decoded m).root s ≡ Some t → (s < m.pool.slots) × InRange m.pool t
    root_within s t e = go (root_fine s)
      where
        go : (((decoded m).root s ≡ None) × (m.pool.slots ≤ s)) ⊎ ((s < m.pool.slots) × ((u : ℕ) → (decoded m).root s ≡ Some u → InRange m.pool u)) → (s < m.pool.slots) × InRange m.pool t
        go (inl h) = absurd (let z : None ≡ Some t = sym h.0 ∙ e in cc)
        go (inr h) = (h.0, h.1 t e)

    decodes : (w : Word) → IsWithin m.pool w → HasSide w Flushed → IsCode w (number_in m w)
    decodes (NextOf b) h side = (next_within m b nexts h).shown.0
    decodes (MetaOf b) h side = tt
    decodes (ValueOf b k) h side = tt
    decodes (Root s) h side = (roots s h).shown.0
    decodes (Key s k) h side = tt
    decodes (Short s) h side = absurd side
    decodes Count h side = absurd side

    one_slot : (s1 s2 t1 t2 : ℕ) (k : List ℕ) → (decoded m).root s1 ≡ Some t1 → (decoded m).root s2 ≡ Some t2 → IsKey k → Spells ((decoded m).key s1) k → Spells ((decoded m).key s2) k → s2 ≡ s1
    one_slot s1 s2 t1 t2 k e f is a b = go (cases_lt s1 s2) (cases_lt s2 s1)
      where
        go : (s1 < s2) ⊎ (s2 ≤ s1) → (s2 < s1) ⊎ (s1 ≤ s2) → s2 ≡ s1
        go (inl l) q = absurd ((keys s2 (root_within s2 t2 f).0).new s1 t1 t2 k l e f is a b)
        go (inr l) (inl h) = absurd ((keys s1 (root_within s1 t1 e).0).new s2 t2 t1 k h f e is b a)
        go (inr l) (inr h) = omega arith

    walk : (s : ℕ) → Chain (decoded m) ((decoded m).root s) (tags s)
    walk s = go (root_fine s)
      where
        none : (x : Option ℕ) (ts : List ℕ) → x ≡ None → ts ≡ [] → Chain (decoded m) x ts
        none None [] e f = tt
        none None (t ∷ ts) e f = absurd (cc)
        none (Some t) ts e f = absurd (cc)

        go : (((decoded m).root s ≡ None) × (m.pool.slots ≤ s)) ⊎ ((s < m.pool.slots) × ((t : ℕ) → (decoded m).root s ≡ Some t → InRange m.pool t)) → Chain (decoded m) ((decoded m).root s) (tags s)
        go (inl h) = none ((decoded m).root s) (tags s) h.0 (walked.ahead s h.1)
        go (inr h) = walked.whole s h.0

    -- the passes leave nothing of what it is to be sound
    pub is_sound : IsSound m.pool m.words
    is_sound = record {
      decodes = decodes;
      reads = record {
        own = λ b. (next_fine b).0;
        target = λ b. (next_fine b).1;
        root = λ s t e. (root_within s t e).1;
        key = λ s t e. (keys s (root_within s t e).0).own t e;
        same = one_slot;
        chain = tags;
        walk = walk;
        once = walked.fine.once;
        value = λ s i. value_of m (nth (tags s) i) (λ t e. walked.fine.contents s i t e);
        contents = λ s i t e. let h = value_has m (nth (tags s) i) (λ u q. walked.fine.contents s i u q) t e in (h.fits, h.words);
        inside = λ s t e. (root_within s t e).0;
      };
    }

  module _ (sound : IsSound m.pool m.words) where
    -- no next word, no root and no key of a sound image breaks a rule
    pub no_next : (d : Damage) → NextDamage m d → ⊥
    no_next d n =
        let p = m.pool in let some = p.some_buffer in let lt = n.within in
        let node : n.number / p.buffers < p.nodes = (div-lt_iff_lt-mul {k = p.buffers} {x = n.number} {y = p.nodes} some).1 lt in
        n.first.1 (record { shown = sound_next m sound (buffer_of p n.number) (record { node = node; index = omega arith }) })

    pub no_root : (d : Damage) → RootDamage m d → ⊥
    no_root d r = r.first.1 (record { shown = sound_root m sound r.slot r.within })

    pub no_key : (d : Damage) → KeyDamage m d → ⊥
    no_key d k = go k.fault
      where
        go : KeyFault m k.slot d → ⊥
        go (lacks l e) = l.none (sound.reads.key k.slot l.tag l.root)
        go (shares s e) = let q = sound.reads.same s.earlier k.slot s.earlier_tag s.tag s.key s.earlier_root s.root s.is_key s.its s.own in let b = s.before in absurd (omega arith)

  -- no content that an image has for a tag breaks a rule
  module _ (t : ℕ) where
    says_meta : (x : Option Value) → HasVersion m t x → (n : MetaParts) × SaysMeta m (buffer_at (home t)) n
    says_meta None h = let d = dead_meta m t h in (record { kind = Tombstone; flags = 0; length = 0 }, (d.1, d.2, omega arith))
    says_meta (Some v) h = let l = live_meta m t v h in (record { kind = ValueKind; flags = v.flags; length = length v.bytes }, (l.1, l.2, h.fits.1))

    size_is : (k : Kind) (flags size : ℕ) (v : Value) → HasVersion m t (Some v) → of_value k ≡ true → IsMeta (record { kind = k; flags = flags; length = size })
        → meta_word (record { kind = k; flags = flags; length = size }) ≡ number_in m (MetaOf (buffer_at (home t))) → size ≡ length v.bytes
    size_is Tombstone flags size v h live is e = absurd (let z : false ≡ true = live in cc)
    size_is ValueKind flags size v h live is e = let l = live_meta m t v h in (meta_parts flags size v.flags (length v.bytes) is.0 is.1 l.1.0 l.1.1 (e ∙ sym l.2)).1

    not_dead : (k : Kind) (flags size : ℕ) → HasVersion m t None → of_value k ≡ true → IsMeta (record { kind = k; flags = flags; length = size })
        → meta_word (record { kind = k; flags = flags; length = size }) ≡ number_in m (MetaOf (buffer_at (home t))) → ⊥
    not_dead Tombstone flags size h live is e = absurd (let z : false ≡ true = live in cc)
    not_dead ValueKind flags size h live is e = let d = dead_meta m t h in meta_apart flags size is.0 is.1 (e ∙ sym d.2)

    no_padding : (x : Option Value) (n : MetaParts) → HasVersion m t x → LacksPadding m (buffer_at (home t)) n → ⊥
    no_padding None n h l = not_dead n.kind n.flags n.length h l.value l.says.0 l.says.1
    no_padding (Some v) n h l =
        let size = size_is n.kind n.flags n.length v h l.value l.says.0 l.says.1 in
        let some = l.inside in
        let last : number_in m (ValueOf (buffer_at (home t)) (n.length / 8)) ≡ packed v.bytes (n.length / 8) = live_words m t v h (n.length / 8) (omega arith) in
        l.behind (subst (λ (y : ℕ). IsPadded y (n.length % 8)) (sym last) (subst (λ (k : ℕ). IsPadded (packed v.bytes (k / 8)) (k % 8)) (sym size) (padded_bytes v.bytes h.fits.2)))

    no_content : (d : Damage) (x : Option Value) → HasVersion m t x → ContentDamage m (buffer_at (home t)) d → ⊥
    no_content d x h (meta fails e) = let s = says_meta x h in fails s.0 s.1
    no_content d x h (padding n l e) = no_padding x n h l

-- a path to a tag is the front of the chain
path_front : (im : Image) (x : Option ℕ) (ts : List ℕ) (t : ℕ) (us : List ℕ) → Path im x ts (Some t) → Chain im x us → (nth us (length ts) ≡ Some t) × ((i u : ℕ) → nth ts i ≡ Some u → nth us i ≡ Some u)
path_front im None [] t us p c = absurd (let z : None ≡ Some t = p in cc)
path_front im (Some z) [] t [] p c = absurd c
path_front im (Some z) [] t (u ∷ us) p c = (ap Some (sym c.0) ∙ p, λ i v e. absurd (let q : None ≡ Some v = e in cc))
path_front im None (a ∷ ts) t us p c = absurd p
path_front im (Some z) (a ∷ ts) t [] p c = absurd c
path_front im (Some z) (a ∷ ts) t (u ∷ us) p c =
    let r = path_front im (link (im.next (home z))) ts t us p.2 c.2 in
    (r.0, λ i v e. at i v e r.1)
  where
    at : (i v : ℕ) → nth (a ∷ ts) i ≡ Some v → ((j w : ℕ) → nth ts j ≡ Some w → nth us j ≡ Some w) → nth (u ∷ us) i ≡ Some v
    at zero v e more = ap Some (sym c.0 ∙ p.0) ∙ e
    at (suc i) v e more = more i v e

-- a tag on a chain serves its generation
chain_serves : (im : Image) (x : Option ℕ) (us : List ℕ) (i t : ℕ) → Chain im x us → nth us i ≡ Some t → gen (im.next (home t)) ≡ age t
chain_serves im None [] i t c e = absurd (let z : None ≡ Some t = e in cc)
chain_serves im (Some z) [] i t c e = absurd c
chain_serves im None (u ∷ us) i t c e = absurd c
chain_serves im (Some z) (u ∷ us) zero t c e = let q : z ≡ t = c.0 ∙ (let y : Some u ≡ Some t = e in cc) in subst (λ (b : ℕ). gen (im.next (home b)) ≡ age b) q c.1
chain_serves im (Some z) (u ∷ us) (suc i) t c e = chain_serves im (link (im.next (home z))) us i t c.2 e

module _ (m : PoolImage) (sound : IsSound m.pool m.words) where
  -- no chain of a sound image breaks a rule
  pub no_chain : (slot : ℕ) (d : Damage) → ChainDamage m slot d → ⊥
  no_chain slot d c = by c.fault
    where
      front : (nth (sound.reads.chain slot) (length (c.tags slot)) ≡ Some c.tag) × ((i u : ℕ) → nth (c.tags slot) i ≡ Some u → nth (sound.reads.chain slot) i ≡ Some u)
      front = path_front (decoded m) ((decoded m).root slot) (c.tags slot) c.tag (sound.reads.chain slot) c.walked.here (sound.reads.walk slot)

      stands : (s i u : ℕ) → nth (c.tags s) i ≡ Some u → (s ≡ slot → i < length (c.tags slot)) × (nth (sound.reads.chain s) i ≡ Some u)
      stands s i u e = go (ℕ_discrete s slot) (cases_lt s slot)
        where
          go : Dec (s ≡ slot) → (s < slot) ⊎ (slot ≤ s) → (s ≡ slot → i < length (c.tags slot)) × (nth (sound.reads.chain s) i ≡ Some u)
          go (yes q) l =
              let at : nth (c.tags slot) i ≡ Some u = ap (λ (n : ℕ). nth (c.tags n) i) (sym q) ∙ e in
              (λ z. nth_within (c.tags slot) i u at, ap (λ (n : ℕ). nth (sound.reads.chain n) i) q ∙ front.1 i u at)
          go (no q) (inl l) =
              let same = one_chain (decoded m) ((decoded m).root s) (c.tags s) (sound.reads.chain s) (c.walked.whole s l) (sound.reads.walk s) in
              (λ z. absurd (q z), ap (λ (ts : List ℕ). nth ts i) (sym same) ∙ e)
          go (no q) (inr l) = absurd (let z : None ≡ Some u = sym (ap (λ (ts : List ℕ). nth ts i) (c.walked.ahead s (omega arith))) ∙ e in cc)

      met : IsMet c.tags c.tag → ⊥
      met (s, i, u, e, h) =
          let at = stands s i u e in
          let q = sound.reads.once slot s (length (c.tags slot)) i c.tag u front.0 at.1 h in
          let l = at.0 q.0 in let z = q.1 in absurd (omega arith)

      by : TagFault m c.tag (IsMet c.tags c.tag) d → ⊥
      by (generation ne e) = ne (chain_serves (decoded m) ((decoded m).root slot) (sound.reads.chain slot) (length (c.tags slot)) c.tag (sound.reads.walk slot) front.0)
      by (twice g q e) = met q
      by (content_fault g fresh f) =
          let told = sound.reads.contents slot (length (c.tags slot)) c.tag front.0 in
          no_content m c.tag d (sound.reads.value slot (length (c.tags slot))) (record { fits = told.0; words = told.1 }) f
