-- The words that a version's content and a key are spelled by, and which numbers a pool may have.
use Prim.Native.Nat.{zero, suc}
use Rattle.std.specs.Prelude.{◌≡◌, ℕ, ◌+◌, ◌*◌, ◌/◌, ◌%◌, ◌^◌, ◌<◌, ◌≤◌, ◌&&◌, nat_lt, slice_index, List, [], ◌∷◌, length, Bool, true, Option, Some, None}
use Rattle.std.specs.Int.{w64, to_be_bytes}
use Rattle.clover_words.specs.declared.pool.Pool.{Pool}
use Rattle.clover_words.specs.declared.meta.Kind.TheVariants.{Value as IsValue}
use Rattle.clover_words.specs.Meta.{meta_word, tombstone}
use Rattle.clover_words.specs.Pack.{packed, words_of, AreBytes}
use Rattle.clover_words.specs.Tag.{home, age}
use Rattle.clover_map.specs.declared.bytes.Value.{Value}
use Rattle.clover_rule.specs.Lists.{nth}

-- the meta word of a value
abbrev pub value_meta : Value → ℕ
value_meta v = meta_word (record { kind = IsValue; flags = v.flags; length = length v.bytes })

-- n words of packed bytes, from word k on
abbrev pub words_from : List ℕ → ℕ → ℕ → List ℕ
words_from bytes k zero = []
words_from bytes k (suc n) = packed bytes k ∷ words_from bytes (suc k) n

-- all words of packed bytes
abbrev pub all_words : List ℕ → List ℕ
all_words bytes = words_from bytes 0 (words_of (length bytes))

-- the content of a version: its meta word, and the words of its value
unfoldable pub content : Option Value → List ℕ
content None = tombstone ∷ []
content (Some v) = value_meta v ∷ all_words v.bytes

-- the number spells bytes 8k to 8k + 7 of the value, as far as it goes
abbrev pub Unpacks : ℕ → Value → ℕ → Type 0
Unpacks y x k = (i : ℕ) → i < 8 → 8 * k + i < length x.bytes → slice_index (to_be_bytes w64 y) i ≡ slice_index x.bytes (8 * k + i)

-- a content that a buffer has room for
abbrev pub Fits : Pool → Option Value → Type 0
Fits p None = Unit {0}
Fits p (Some v) = (v.flags < 2 ^ 32) × (length v.bytes ≤ 8 * p.words) × AreBytes v.bytes

-- the words of a key: its length, and its bytes
unfoldable pub spelling : List ℕ → List ℕ
spelling k = all_words (length k ∷ k)

-- the first words of a list are those that spell the key; what lies behind them is not said
abbrev pub Spells : (ℕ → ℕ) → List ℕ → Type 0
Spells f k = (j x : ℕ) → nth (spelling k) j ≡ Some x → f j ≡ x

-- a buffer is the number of its tags without their generations: its node and, below it, its index
abbrev pub inside : Pool → ℕ → Bool
inside p b = nat_lt (b / 65536) p.nodes && nat_lt (b % 65536) p.buffers

-- a tag that a next word or a root may name
abbrev pub InRange : Pool → ℕ → Type 0
InRange p t = (inside p (home t) ≡ true) × (age t < p.wear)
