-- An image of the code as the rule reads it.
use Rattle.std.specs.Prelude.{ℕ, ◌+◌, ◌*◌, List, [], ◌∷◌, Bool, true, false, Option, Some, None, slice_index}
use Rattle.clover_words.specs.declared.meta.Kind.{Kind}
use Rattle.clover_words.specs.declared.meta.Kind.TheVariants.{Value as ValueKind, Tombstone}
use Rattle.clover_words.specs.declared.word.Buffer.{Buffer}
use Rattle.clover_words.specs.declared.word.Word.{Word}
use Rattle.clover_words.specs.Place.{place}
use Rattle.clover_words.specs.Tag.{TagParts, tag_number}
use Rattle.clover_map.specs.declared.bytes.Value.{Value}
use Rattle.clover_map.specs.Key.{IsKey}
use Rattle.clover_rule.specs.Content.{Spells}
use Rattle.clover_rule.specs.Cut.{image_of}
use Rattle.clover_rule.specs.History.{Version}
use Rattle.clover_rule.specs.Image.{Image}
use Rattle.clover_image.specs.Image.{PoolImage}

-- the decoded image
abbrev pub decoded : PoolImage → Image
decoded m = image_of m.pool m.words

-- the number that the image has for a word
abbrev pub number_in : PoolImage → Word → ℕ
number_in m w = slice_index m.words (place m.pool w)

-- a buffer as the rule has it: its node, and below it its index
abbrev pub number_of : Buffer → ℕ
number_of b = b.node * 65536 + b.index

-- the words of the slot spell a key
abbrev pub HasKey : Image → ℕ → Type 0
HasKey im s = (k : List ℕ) × IsKey k × Spells (im.key s) k

-- the last of a list, or x where it has none
abbrev pub last_of : {A : Type 0} → Option A → List A → Option A
last_of x [] = x
last_of x (y ∷ ys) = last_of (Some y) ys

-- a content that is no tombstone
abbrev pub is_value : Option Value → Bool
is_value None = false
is_value (Some v) = true

-- the tag of a version, and whether it is a value
abbrev pub tail_as : Version → ℕ × Bool
tail_as w = (w.tag, is_value w.value)

-- the same pair of the code, whose tags have parts
abbrev pub told_tail : TagParts × Bool → ℕ × Bool
told_tail x = (tag_number x.0, x.1)

-- the kind of a value
abbrev pub of_value : Kind → Bool
of_value ValueKind = true
of_value Tombstone = false
