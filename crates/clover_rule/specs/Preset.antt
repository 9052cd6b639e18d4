-- The preset pool: the first slots are bound, each to its key with a tombstone alone, every other buffer is at rest, and no call was made.
use Rattle.std.specs.FinMap.{get}
use Rattle.std.specs.Prelude.{◌≡◌, ℕ, ◌<◌, ◌≤◌, List, [], ◌∷◌, length, true, Option, Some, None}
use Prim.Native.Nat.{suc}
use Rattle.clover_words.specs.declared.pool.Pool.{Pool}
use Rattle.clover_words.specs.Meta.{tombstone}
use Rattle.clover_words.specs.Tag.{home, age}
use Rattle.clover_map.specs.Key.{IsKey}
use Rattle.clover_map.specs.Tagged.{Tagged}
use Rattle.clover_rule.specs.Content.{inside, spelling}
use Rattle.clover_rule.specs.Lists.{Within, nth}
use Rattle.clover_rule.specs.Meets.{OfRun, Decodes}
use Rattle.clover_rule.specs.Memory.{Mem, word}
use Rattle.clover_rule.specs.Opening.{Starts}
use Rattle.clover_rule.specs.Rule.{Rule}
use Rattle.clover_rule.specs.Views.{Numbered}
use Rattle.clover_rule.specs.Words.{mem_of}
use Rattle.clover_rule.specs.declared.view.Role.TheVariants.{Serving}
use Rattle.clover_rule.specs.declared.view.View.{View}
use Rattle.clover_words.specs.Place.{pool_words}

-- the keys of the slots, and the tag of each slot's tombstone
pub record PresetWords (p : Pool) (keys : List (List ℕ)) (tomb : ℕ → ℕ) (m : Mem) : Type 0 where
  pub next : (b : ℕ) → (m.next b ≡ word 0 None) × (m.fnext b ≡ word 0 None)
  pub rooted : (s : ℕ) → s < length keys → (m.root s ≡ Some (tomb s)) × (m.froot s ≡ Some (tomb s))
  pub unrooted : (s : ℕ) → length keys ≤ s → (m.root s ≡ None) × (m.froot s ≡ None)
  pub body : (s : ℕ) → s < length keys → m.body (home (tomb s)) 0 ≡ tombstone
  pub bodies : (b j : ℕ) → m.fbody b j ≡ m.body b j
  pub key : (s j x : ℕ) (k : List ℕ) → nth keys s ≡ Some k → nth (spelling k) j ≡ Some x → m.key s j ≡ x
  pub flushed_keys : (s j : ℕ) → m.fkey s j ≡ m.key s j
  pub short : (s : ℕ) → m.short s ≡ None
  pub count : m.count ≡ length keys

-- different keys in the pool's slots, and different buffers for the tombstones
pub record PresetKeys (p : Pool) (keys : List (List ℕ)) (tomb : ℕ → ℕ) : Type 0 where
  pub keys_are : (s : ℕ) (k : List ℕ) → nth keys s ≡ Some k → IsKey k
  pub differ : (s r : ℕ) (k : List ℕ) → nth keys s ≡ Some k → nth keys r ≡ Some k → s ≡ r
  pub room : length keys ≤ p.slots
  pub young : (s : ℕ) → s < length keys → age (tomb s) ≡ 0
  pub in_pool : (s : ℕ) → s < length keys → inside p (home (tomb s)) ≡ true
  pub apart : (s r : ℕ) → s < length keys → r < length keys → home (tomb s) ≡ home (tomb r) → s ≡ r

-- slots with their keys, from a slot on
abbrev pub bindings_from : ℕ → List (List ℕ) → List (ℕ × List ℕ)
bindings_from s [] = []
bindings_from s (k ∷ ks) = (s, k) ∷ bindings_from (suc s) ks

-- the views: each has a stock of buffers that no other one has and no slot, and the bindings as its names
pub record PresetViews (p : Pool) (keys : List (List ℕ)) (tomb : ℕ → ℕ) (owner : ℕ → Option ℕ) (m : Mem) (vs : List View) : Type 0 where
  pub starts : (i : ℕ) (v : View) → nth vs i ≡ Some v → Starts m (bindings_from 0 keys) owner i v
  pub off : (b i : ℕ) → owner b ≡ Some i → (s : ℕ) → s < length keys → home (tomb s) ≡ b → ⊥
  pub in_pool : (b i : ℕ) → owner b ≡ Some i → inside p b ≡ true
  pub held : (b i : ℕ) → owner b ≡ Some i → (v : View) × (nth vs i ≡ Some v) × (t : ℕ) × Within t v.pass.stock × (home t ≡ b)
  pub numbered : Numbered vs
  pub some : (i : ℕ) × (v : View) × (nth vs i ≡ Some v)
  pub unserved : (i : ℕ) (v : View) → nth vs i ≡ Some v → v.pass.role ≡ Serving → ⊥

-- The rule holds of the preset pool, with the empty history and no used tag, from a map with nothing.
abbrev pub PresetLaw : Type 0
PresetLaw = (p : Pool) (first : Tagged) (ws : List ℕ) (vs : List View) (keys : List (List ℕ)) (tomb : ℕ → ℕ) (owner : ℕ → Option ℕ)
    → length ws ≡ pool_words p → Decodes p ws → ((i : ℕ) (v : View) → nth vs i ≡ Some v → OfRun p first [] v) → ((k : List ℕ) → get first k ≡ None)
    → PresetWords p keys tomb (mem_of p ws) → PresetKeys p keys tomb → PresetViews p keys tomb owner (mem_of p ws) vs
    → Rule p first [] ws vs []
