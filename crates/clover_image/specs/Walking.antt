-- The chains of an image, as far as they were gone along.
use Rattle.std.specs.Prelude.{◌≡◌, ℕ, ◌+◌, ◌*◌, ◌/◌, ◌%◌, ◌<◌, ◌≤◌, List, [], ◌∷◌, length, slice_index_or, Bool, true, false, Option, Some, None}
use Rattle.clover_words.specs.declared.pool.Pool.{Pool}
use Rattle.clover_words.specs.Tag.{home, age}
use Rattle.clover_map.specs.declared.bytes.Value.{Value}
use Rattle.clover_rule.specs.Content.{InRange}
use Rattle.clover_rule.specs.Image.{Image, Chain}
use Rattle.clover_rule.specs.Lists.{nth}
use Rattle.clover_rule.specs.Memory.{gen, link}
use Rattle.clover_image.specs.Contents.{HasVersion}
use Rattle.clover_image.specs.Image.{PoolImage}
use Rattle.clover_image.specs.Reading.{decoded}

-- the place of a tag's buffer among those of the pool
abbrev pub place_of : Pool → ℕ → ℕ
place_of p t = home t / 65536 * p.buffers + home t % 65536

-- from a root or a link one follows these tags, and the last one links to y
abbrev pub Path : Image → Option ℕ → List ℕ → Option ℕ → Type 0
Path im x [] y = x ≡ y
Path im None (u ∷ us) y = ⊥
Path im (Some t) (u ∷ us) y = (t ≡ u) × (gen (im.next (home t)) ≡ age t) × Path im (link (im.next (home t))) us y

-- the tags of all slots are of the pool, have contents that a buffer has room for, and no two are of one buffer
pub record AreFine (m : PoolImage) (tags : ℕ → List ℕ) : Type 0 where
  pub range : (s i t : ℕ) → nth (tags s) i ≡ Some t → InRange m.pool t
  pub contents : (s i t : ℕ) → nth (tags s) i ≡ Some t → (x : Option Value) × HasVersion m t x
  pub once : (s1 s2 i1 i2 t1 t2 : ℕ) → nth (tags s1) i1 ≡ Some t1 → nth (tags s2) i2 ≡ Some t2 → home t2 ≡ home t1 → (s2 ≡ s1) × (i2 ≡ i1)

-- the tags of the slots below this one are their chains, those of this slot lead from its root to y, and the others have none yet
pub record IsWalked (m : PoolImage) (slot : ℕ) (y : Option ℕ) (tags : ℕ → List ℕ) : Type 0 where
  pub fine : AreFine m tags
  pub whole : (s : ℕ) → s < slot → Chain (decoded m) ((decoded m).root s) (tags s)
  pub here : Path (decoded m) ((decoded m).root slot) (tags slot) y
  pub ahead : (s : ℕ) → slot < s → tags s ≡ []

-- the tags of the slots below this one are their chains, and the others have none yet
pub record AreWalked (m : PoolImage) (slot : ℕ) (tags : ℕ → List ℕ) : Type 0 where
  pub fine : AreFine m tags
  pub whole : (s : ℕ) → s < slot → Chain (decoded m) ((decoded m).root s) (tags s)
  pub ahead : (s : ℕ) → slot ≤ s → tags s ≡ []

-- the buffer of a tag is that of one of the tags
abbrev pub IsMet : (ℕ → List ℕ) → ℕ → Type 0
IsMet tags t = (s : ℕ) × (i : ℕ) × (u : ℕ) × (nth (tags s) i ≡ Some u) × (home u ≡ home t)

-- the marks are those of the buffers of the tags
pub record AreMarked (p : Pool) (tags : ℕ → List ℕ) (marks : List Bool) : Type 0 where
  pub sized : length marks ≡ p.nodes * p.buffers
  pub each : (s i t : ℕ) → nth (tags s) i ≡ Some t → slice_index_or marks (place_of p t) false ≡ true
  pub only : (n : ℕ) → slice_index_or marks n false ≡ true → (s : ℕ) × (i : ℕ) × (t : ℕ) × (nth (tags s) i ≡ Some t) × (place_of p t ≡ n)

-- the tag's buffer serves its generation, links to y, and has a content
pub record IsVersion (m : PoolImage) (t : ℕ) (y : Option ℕ) : Type 0 where
  pub serves : gen ((decoded m).next (home t)) ≡ age t
  pub links : link ((decoded m).next (home t)) ≡ y
  pub content : (x : Option Value) × HasVersion m t x
