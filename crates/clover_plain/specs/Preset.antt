-- The preset pool: the number of each word, and what each client knows as the run begins.
use Prim.Native.Nat.{zero, suc}
use Rattle.std.specs.Prelude.{◌≡◌, ℕ, ◌+◌, ◌-◌, ◌*◌, ◌/◌, ◌%◌, nat_lt, List, [], ◌∷◌, length, Option, Some, None, if◌then◌else◌}
use Rattle.std.specs.FinMap as finite
use Rattle.clover_words.specs.declared.pool.Pool.{Pool}
use Rattle.clover_words.specs.declared.setup.Setup.{Setup}
use Rattle.clover_words.specs.declared.word.Buffer.{Buffer}
use Rattle.clover_words.specs.declared.word.Word.{Word}
use Rattle.clover_words.specs.declared.word.Word.TheVariants.{Next as NextOf, Meta, Value as ValueOf, Root, Key, Short, Count}
use Rattle.clover_words.specs.declared.word.Side.{Side}
use Rattle.clover_words.specs.Place.{IsWithin, HasSide, copy_in}
use Rattle.clover_words.specs.Preset.{buffers_total, tombstone_number, dealt_number}
use Rattle.clover_words.specs.Tag.{tag_number}
use Rattle.clover_words.specs.Meta.{tombstone}
use Rattle.clover_words.specs.Next.{root_code}
use Rattle.clover_rule.specs.Content.{spelling}
use Rattle.clover_rule.specs.Lists.{nth}
use Rattle.clover_rule.specs.Preset.{bindings_from}
use Rattle.clover_rule.specs.Views.{alone, start_pass}
use Rattle.clover_rule.specs.declared.view.Pass.{Pass}
use Rattle.clover_rule.specs.declared.view.Role.TheVariants.{Client}
use Rattle.clover_rule.specs.declared.view.View.{View}

-- the number of a buffer, counted through the nodes
abbrev pub number_of : Pool → Buffer → ℕ
number_of p b = b.node * p.buffers + b.index

-- the tag of the buffer of this number at generation 0
abbrev pub tag_at : Pool → ℕ → ℕ
tag_at p n = tag_number (record { node = n / p.buffers; index = n % p.buffers; generation = 0 })

-- the tag of the tombstone of a slot
abbrev pub tomb : Pool → ℕ → ℕ
tomb p s = tag_at p (tombstone_number p s)

-- the number, or 0
abbrev pub or_zero : Option ℕ → ℕ
or_zero None = 0
or_zero (Some x) = x

-- a word of the key of a slot
abbrev pub key_word : Option (List ℕ) → ℕ → ℕ
key_word None k = 0
key_word (Some key) k = or_zero (nth (spelling key) k)

-- The number of each word, both copies alike: the first slots have their keys, and a tombstone as root; every buffer is at generation 0 and unlinked.
abbrev pub preset_word : Setup → List (List ℕ) → Word → ℕ
preset_word s keys (NextOf b) = 0
preset_word s keys (Meta b) = if nat_lt (buffers_total s.pool - 1 - number_of s.pool b) (length keys) then tombstone else 0
preset_word s keys (ValueOf b k) = 0
preset_word s keys (Root n) = if nat_lt n (length keys) then root_code (Some (tomb s.pool n)) else 0
preset_word s keys (Key n k) = key_word (nth keys n) k
preset_word s keys (Short n) = 0
preset_word s keys Count = length keys

-- both copies of each word are so
abbrev pub IsPreset : Setup → List (List ℕ) → List ℕ → Type 0
IsPreset s keys ws = (w : Word) (side : Side) → IsWithin s.pool w → HasSide w side → copy_in s.pool ws w side ≡ preset_word s keys w

-- the tags of the buffers for the puts of a client, from a put on, at most so many
abbrev pub dealt_from : Setup → ℕ → ℕ → ℕ → List ℕ
dealt_from s c put zero = []
dealt_from s c put (suc n) = if nat_lt (dealt_number s c put + s.pool.slots) (buffers_total s.pool) then tag_at s.pool (dealt_number s c put) ∷ dealt_from s c (suc put) n else []

-- a pass with this stock and these names
abbrev pub knowing : Pass → List ℕ → List (ℕ × List ℕ) → Pass
knowing v stock names = record v { stock = stock; names = names }

-- what the client of a seat knows: its stock, and the bindings
abbrev pub start_view : Setup → List (List ℕ) → ℕ → View
start_view s keys i = alone (knowing (start_pass s.pool finite.empty [] (Client (suc i))) (dealt_from s (suc i) 0 (buffers_total s.pool)) (bindings_from 0 keys))

-- each key stands once
abbrev pub AreDistinct : List (List ℕ) → Type 0
AreDistinct keys = (s r : ℕ) (k : List ℕ) → nth keys s ≡ Some k → nth keys r ≡ Some k → s ≡ r
