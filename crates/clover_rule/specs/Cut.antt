-- Power cuts: the images that may be left, what each is, and which histories survive.
use Rattle.std.specs.Prelude.{◌≡◌, ℕ, ◌+◌, ◌<◌, ◌≤◌, ◌⊎◌, ◌&&◌, nat_lt, List, length, slice_index, Bool, true, Some, None}
use Rattle.std.specs.FinMap.{get}
use Rattle.clover_words.specs.declared.pool.Pool.{Pool}
use Rattle.clover_words.specs.declared.word.Word.{Word}
use Rattle.clover_words.specs.declared.word.Word.TheVariants.{Next as NextOf, Root, Key}
use Rattle.clover_words.specs.declared.word.Side.TheVariants.{Current, Flushed}
use Rattle.clover_words.specs.Place.{IsWithin, HasSide, place, copy_in, durable_words}
use Rattle.clover_words.specs.Tag.{home, age}
use Rattle.clover_words.specs.Version.{buffer_at, content_at}
use Rattle.clover_map.specs.declared.bytes.Held.{Held}
use Rattle.clover_map.specs.declared.call.Entry.{Entry}
use Rattle.clover_map.specs.Key.{IsKey}
use Rattle.clover_map.specs.Tagged.{Tagged}
use Rattle.clover_map.specs.Legal.{Legal, Leads, used_by}
use Rattle.clover_rule.specs.Content.{inside, Spells}
use Rattle.clover_rule.specs.History.{ends, kept, Last}
use Rattle.clover_rule.specs.Image.{Image}
use Rattle.clover_rule.specs.Lists.{Each, Within}
use Rattle.clover_rule.specs.Meets.{IsCode}
use Rattle.clover_rule.specs.Memory.{word, gen, link}
use Rattle.clover_rule.specs.Rule.{Rule}
use Rattle.clover_rule.specs.Sound.{Sound, versions_of}
use Rattle.clover_rule.specs.Words.{next_of, root_of, guarded}
use Rattle.clover_rule.specs.declared.view.View.{View}

-- an image is one number for each durable word: its current or its flushed copy
pub record IsCut (p : Pool) (ws im : List ℕ) : Type 0 where
  pub sized : length im ≡ durable_words p
  pub copies : (w : Word) → IsWithin p w → HasSide w Flushed → (slice_index im (place p w) ≡ copy_in p ws w Current) ⊎ (slice_index im (place p w) ≡ copy_in p ws w Flushed)

-- the decoded image
abbrev pub image_of : Pool → List ℕ → Image
image_of p im = record {
  next = λ (b : ℕ). guarded (inside p b) (next_of (slice_index im (place p (NextOf (buffer_at b))))) (word 0 None);
  root = λ (s : ℕ). guarded (nat_lt s p.slots) (root_of (slice_index im (place p (Root s)))) None;
  body = λ (b k : ℕ). guarded (inside p b && nat_lt k (1 + p.words)) (slice_index im (place p (content_at b k))) 0;
  key = λ (s k : ℕ). guarded (nat_lt s p.slots && nat_lt k 32) (slice_index im (place p (Key s k))) 0;
}

-- an image that no rule refuses: each number is one that its word may have, and what they decode to is sound
pub record IsSound (p : Pool) (im : List ℕ) : Type 0 where
  pub decodes : (w : Word) → IsWithin p w → HasSide w Flushed → IsCode w (slice_index im (place p w))
  pub reads : Sound p (image_of p im)

-- the map has a pair for exactly the keys whose slot's chain ends in a value, and it is the last tag with its content
pub record StandsFor (p : Pool) (im : Image) (sound : Sound p im) (n : Tagged) : Type 0 where
  pub bound : (s t : ℕ) (k : List ℕ) → im.root s ≡ Some t → IsKey k → Spells (im.key s) k → get n k ≡ ends None (versions_of (sound.chain s) (sound.value s))
  pub unbound : (k : List ℕ) → ((s t : ℕ) → im.root s ≡ Some t → Spells (im.key s) k → ⊥) → get n k ≡ None
  pub keys : (k : List ℕ) (x : Held) → get n k ≡ Some x → IsKey k

-- a used tag is one of the pool, below the wear and not above its buffer's generation in the image
abbrev pub IsUsedIn : Pool → Image → ℕ → Type 0
IsUsedIn p im t = (inside p (home t) ≡ true) × (age t < p.wear) × (age t ≤ gen (im.next (home t)))

-- a sound image that stands for a map, in which no used tag is above its buffer and each worn buffer is unlinked: a restart needs no more
pub record Rests (p : Pool) (im : List ℕ) (n : Tagged) (used : List ℕ) : Type 0 where
  pub sound : IsSound p im
  pub stands : StandsFor p (image_of p im) sound.reads n
  pub ages : Each (IsUsedIn p (image_of p im)) used
  pub worn : (b : ℕ) → gen ((image_of p im).next b) ≡ p.wear → link ((image_of p im).next b) ≡ None

-- a view knows the tag to be durable
abbrev pub IsKnownDurable : List View → ℕ → Type 0
IsKnownDurable vs t = (v : View) × Within v vs × ((s : ℕ) × Within (s, t) v.pass.durable)

-- What is left of the history is the history without some commits, each of them the last one of its key and told to nobody, and is legal from where the run began.
pub record Survives (first : Tagged) (used : List ℕ) (told : ℕ → Type 0) (h rest : List Entry) : Type 0 where
  pub lost : ℕ → Bool
  pub without : rest ≡ kept lost h
  pub last : Last lost h
  pub untold : (t : ℕ) → lost t ≡ true → told t → ⊥
  pub legal : Legal first used rest

-- an image after a cut: it rests, with the map of a history that survived, and with the tags that the run used
pub record AfterCut (p : Pool) (first : Tagged) (used : List ℕ) (vs : List View) (h : List Entry) (im : List ℕ) : Type 0 where
  pub rest : List Entry
  pub survives : Survives first used (IsKnownDurable vs) h rest
  pub map : Tagged
  pub leads : Leads first used rest map
  pub rests : Rests p im map (used_by used h)

-- The law of cuts: under the rule, each image is sound and stands for the map of a history that survived.
abbrev pub CutLaw : Type 0
CutLaw = (p : Pool) (first : Tagged) (used ws : List ℕ) (vs : List View) (h : List Entry) (im : List ℕ) → Rule p first used ws vs h → IsCut p ws im → AfterCut p first used vs h im
