-- Images that break no rule, and what restart makes of them.
use Rattle.clover_words.specs.Tag.{home}
use Rattle.clover_map.specs.Key.{IsKey}
use Rattle.clover_rule.specs.Content.{InRange, Spells, Fits, content}
use Rattle.clover_rule.specs.History.{ends, Version}
use Rattle.clover_rule.specs.Image.{Image, Chain}
use Rattle.clover_rule.specs.Lists.{nth}
use Rattle.clover_rule.specs.Memory.{word, gen, link}
use Prim.Native.Nat.{zero, suc}
use Rattle.std.specs.Prelude.{◌≡◌, ℕ, ◌<◌, ◌≤◌, ◌≢◌, ◌⊎◌, List, [], ◌∷◌, Option, Some, None}
use Rattle.clover_map.specs.declared.bytes.Value.{Value}
use Rattle.clover_words.specs.declared.pool.Pool.{Pool}

-- an image that no rule refuses: ranges, roots, keys, chains without a buffer twice, contents
pub record Sound (l : Pool) (im : Image) : Type 0 where
  pub own : (b : ℕ) → gen (im.next b) ≤ l.wear
  pub target : (b t : ℕ) → link (im.next b) ≡ Some t → InRange l t
  pub root : (s t : ℕ) → im.root s ≡ Some t → InRange l t
  pub key : (s t : ℕ) → im.root s ≡ Some t → (k : List ℕ) × IsKey k × Spells (im.key s) k
  pub same : (s1 s2 t1 t2 : ℕ) (k : List ℕ) → im.root s1 ≡ Some t1 → im.root s2 ≡ Some t2 → IsKey k → Spells (im.key s1) k → Spells (im.key s2) k → s2 ≡ s1
  pub chain : ℕ → List ℕ
  pub walk : (s : ℕ) → Chain im (im.root s) (chain s)
  pub once : (s1 s2 i1 i2 t1 t2 : ℕ) → nth (chain s1) i1 ≡ Some t1 → nth (chain s2) i2 ≡ Some t2 → home t2 ≡ home t1 → (s2 ≡ s1) × (i2 ≡ i1)
  pub value : ℕ → ℕ → Option Value
  pub contents : (s i t : ℕ) → nth (chain s) i ≡ Some t → (Fits l (value s i)) × ((j y : ℕ) → nth (content (value s i)) j ≡ Some y → im.body (home t) j ≡ y)
  pub inside : (s t : ℕ) → im.root s ≡ Some t → s < l.slots

-- tags with values by place, as versions
abbrev pub versions_of : List ℕ → (ℕ → Option Value) → List Version
versions_of [] f = []
versions_of (t ∷ ts) f = record { tag = t; value = f zero } ∷ versions_of ts (λ (i : ℕ). f (suc i))

-- an image after some of restart's stores: dead chains may have lost their root, and buffers on no chain of this image may be at the next generation
pub record Restarting (l : Pool) (im : Image) (sound : Sound l im) (im2 : Image) : Type 0 where
  pub root : (s : ℕ) → (im2.root s ≡ im.root s) ⊎ ((im2.root s ≡ None) × (ends None (versions_of (sound.chain s) (sound.value s)) ≡ None))
  pub next : (b : ℕ) → (im2.next b ≡ im.next b) ⊎ ((im2.next b ≡ word (suc (gen (im.next b))) None) × (gen (im.next b) < l.wear) × ((s i t : ℕ) → im2.root s ≢ None → nth (sound.chain s) i ≡ Some t → home t ≢ b))
  pub body : (b j : ℕ) → im2.body b j ≡ im.body b j
  pub key : (s j : ℕ) → im2.key s j ≡ im.key s j
