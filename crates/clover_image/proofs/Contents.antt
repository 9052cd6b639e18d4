-- What an image that has the content of a version says of its meta word and of its value words.
use Rattle.std.proofs.Common.{◌≡◌, ◌≢◌, ℕ, suc, ◌+◌, ◌*◌, ◌<◌, ◌≤◌, List, length, Bool, true, false, ◌&&◌, refl, sym, ap, ◌∙◌, arith}
use Rattle.std.specs.Prelude.{Option, Some, None, nat_lt}
use Rattle.clover_words.specs.declared.meta.Kind.TheVariants.{Value as ValueKind, Tombstone}
use Rattle.clover_words.specs.declared.word.Word.TheVariants.{Meta as MetaOf, Value as ValueOf}
use Rattle.clover_words.specs.Meta.{MetaParts, IsMeta, meta_word, tombstone}
use Rattle.clover_words.specs.Pack.{AreBytes, packed}
use Rattle.clover_words.specs.Place.{IsBuffer}
use Rattle.clover_words.specs.Tag.{home}
use Rattle.clover_words.specs.Version.{buffer_at}
use Rattle.clover_map.specs.declared.bytes.Value.{Value}
use Rattle.clover_rule.specs.Content.{content, inside, value_meta}
use Rattle.clover_rule.specs.Lists.{nth}
use Rattle.clover_rule.specs.Words.{guarded}
use Rattle.clover_rule.proofs.Spelling.{nth_all, short_enough}
use Rattle.clover_rule.proofs.Ties.{and_true, buffer_in, test_below}
use Rattle.clover_image.specs.Contents.{HasVersion, HasWords}
use Rattle.clover_image.specs.Image.{PoolImage}
use Rattle.clover_image.specs.Reading.{decoded, number_in, of_value}
use Rattle.clover_image.proofs.Tails.{meta_at}

-- a value word of a buffer of the pool
pub value_at : (m : PoolImage) (b j : ℕ) → inside m.pool b ≡ true → j < m.pool.words → (decoded m).body b (suc j) ≡ number_in m (ValueOf (buffer_at b) j)
value_at m b j e h = ap (λ (x : Bool). guarded x (number_in m (ValueOf (buffer_at b) j)) 0) (and_true (inside m.pool b) (nat_lt (suc j) (1 + m.pool.words)) e (test_below (suc j) (1 + m.pool.words) (omega arith)))

-- outside of the pool stands no content: it has a meta word
outside_zero : (m : PoolImage) (b : ℕ) → inside m.pool b ≡ false → (decoded m).body b 0 ≡ 0
outside_zero m b e = ap (λ (x : Bool). guarded (x && nat_lt 0 (1 + m.pool.words)) (number_in m (MetaOf (buffer_at b))) 0) e

some_meta : (x : Option Value) (f : ℕ → ℕ) → ((j y : ℕ) → nth (content x) j ≡ Some y → f j ≡ y) → f 0 ≢ 0
unfolding content
some_meta None f words e = let w = words 0 tombstone refl in absurd (omega arith)
some_meta (Some v) f words e = let w = words 0 (value_meta v) refl in absurd (omega arith)

pub version_inside : (m : PoolImage) (t : ℕ) (x : Option Value) → HasVersion m t x → inside m.pool (home t) ≡ true
version_inside m t x h = go (inside m.pool (home t)) refl
  where
    go : (b : Bool) → inside m.pool (home t) ≡ b → inside m.pool (home t) ≡ true
    go true e = e
    go false e = absurd (some_meta x ((decoded m).body (home t)) h.words (outside_zero m (home t) e))

-- the meta word of a tag's version
abbrev pub IsMetaAt : PoolImage → ℕ → MetaParts → Type 0
IsMetaAt m t n = IsBuffer m.pool (buffer_at (home t)) × IsMeta n × (meta_word n ≡ number_in m (MetaOf (buffer_at (home t))))

module _ (m : PoolImage) (t : ℕ) where
  pub dead_meta : HasVersion m t None → IsMetaAt m t (record { kind = Tombstone; flags = 0; length = 0 })
  unfolding content
  dead_meta h = let i = version_inside m t None h in (buffer_in m.pool (home t) i, (refl, refl), sym (h.words 0 tombstone refl) ∙ meta_at m (home t) i)

  pub live_meta : (v : Value) → HasVersion m t (Some v) → IsMetaAt m t (record { kind = ValueKind; flags = v.flags; length = length v.bytes })
  unfolding content
  live_meta v h =
      let i = version_inside m t (Some v) h in
      (buffer_in m.pool (home t) i, (h.fits.0, short_enough m.pool (length v.bytes) h.fits.1), sym (h.words 0 (value_meta v) refl) ∙ meta_at m (home t) i)

  pub live_words : (v : Value) → HasVersion m t (Some v) → HasWords m (buffer_at (home t)) v.bytes
  unfolding content
  live_words v h j l =
      let fits = h.fits.1 in
      sym (value_at m (home t) j (version_inside m t (Some v) h) (omega arith)) ∙ h.words (suc j) (packed v.bytes j) (nth_all v.bytes j l)

  -- where the meta word says no value that a buffer has room for, the content is a tombstone
  pub version_none : (x : Option Value) → HasVersion m t x → ((n : MetaParts) → IsMetaAt m t n → of_value n.kind ≡ true → n.length ≤ 8 * m.pool.words → ⊥) → None ≡ x
  version_none None h never = refl
  version_none (Some v) h never = absurd (never (record { kind = ValueKind; flags = v.flags; length = length v.bytes }) (live_meta v h) refl h.fits.1)

  -- where it says a value, the content is that value
  pub version_some : (x : Option Value) (n : MetaParts) (bytes : List ℕ) → HasVersion m t x → of_value n.kind ≡ true → ((k : MetaParts) → IsMetaAt m t k → n ≡ k)
      → ((value : List ℕ) → AreBytes value → length value ≡ n.length → HasWords m (buffer_at (home t)) value → bytes ≡ value) → Some record { flags = n.flags; bytes = bytes } ≡ x
  version_some None n bytes h is only told = absurd (let e = ap (λ (k : MetaParts). of_value k.kind) (only (record { kind = Tombstone; flags = 0; length = 0 }) (dead_meta h)) in cc)
  version_some (Some v) n bytes h is only told =
      let e = only (record { kind = ValueKind; flags = v.flags; length = length v.bytes }) (live_meta v h) in
      let flags = ap (λ (k : MetaParts). k.flags) e in
      let same = told v.bytes h.fits.2 (sym (ap (λ (k : MetaParts). k.length) e)) (live_words v h) in
      λ i. Some record { flags = flags i; bytes = same i }
