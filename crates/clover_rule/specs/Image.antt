-- Images of a power cut, and the chains that are read from them.
use Prim.Native.Nat.{zero, suc}
use Rattle.std.specs.Prelude.{◌≡◌, ℕ, ◌⊎◌, List, [], ◌∷◌, map, Bool, true, false, ◌&&◌, Option, Some, None, if◌then◌else◌}
use Rattle.clover_words.specs.Tag.{home, age}
use Rattle.clover_map.specs.declared.bytes.Held.{Held}
use Rattle.clover_rule.specs.History.{Version, ends}
use Rattle.clover_rule.specs.Memory.{Mem, Next, gen, link}
use Rattle.clover_rule.specs.Story.{Story, tag_at, unsure}

-- what a cut leaves: one copy of each durable word
pub record Image : Type 0 where
  pub next : ℕ → Next
  pub root : ℕ → Option ℕ
  pub body : ℕ → ℕ → ℕ
  pub key : ℕ → ℕ → ℕ

-- each durable word is its current or its flushed copy
pub record IsImage (m : Mem) (im : Image) : Type 0 where
  pub next : (b : ℕ) → (im.next b ≡ m.next b) ⊎ (im.next b ≡ m.fnext b)
  pub root : (s : ℕ) → (im.root s ≡ m.root s) ⊎ (im.root s ≡ m.froot s)
  pub body : (b j : ℕ) → (im.body b j ≡ m.body b j) ⊎ (im.body b j ≡ m.fbody b j)
  pub key : (s j : ℕ) → (im.key s j ≡ m.key s j) ⊎ (im.key s j ≡ m.fkey s j)

-- the tags that one follows from a root or link
abbrev pub Chain : Image → Option ℕ → List ℕ → Type 0
Chain im None [] = Unit {0}
Chain im None (u ∷ us) = ⊥
Chain im (Some t) [] = ⊥
Chain im (Some t) (u ∷ us) = (t ≡ u) × (gen (im.next (home t)) ≡ age t) × Chain im (link (im.next (home t))) us

-- there is no tag
abbrev pub is_none : Option ℕ → Bool
is_none None = true
is_none (Some t) = false

-- the link that leads to a place, as the image has it
abbrev pub leads_to : Story → Image → ℕ → ℕ → Option ℕ
leads_to st im s zero = None
leads_to st im s (suc i) = through (tag_at st s i)
  where
    through : Option ℕ → Option ℕ
    through None = None
    through (Some u) = link (im.next (home u))

-- the tags that the image has lost
abbrev pub missing : Story → Image → ℕ → Bool
missing st im t = unsure st t && is_none (leads_to st im (st.slot_of t) (st.rank t))

-- the versions that are not lost
abbrev pub sift : (ℕ → Bool) → List Version → List Version
sift lost [] = []
sift lost (w ∷ ws) = if lost w.tag then sift lost ws else w ∷ sift lost ws

-- the tags of versions
abbrev pub tags : List Version → List ℕ
tags ws = map (λ (w : Version). w.tag) ws

-- the image has a chain for slot s, which ends in x
pub record Reads (im : Image) (s : ℕ) (x : Option Held) : Type 0 where
  pub versions : List Version
  pub chain : Chain im (im.root s) (tags versions)
  pub last : ends None versions ≡ x
