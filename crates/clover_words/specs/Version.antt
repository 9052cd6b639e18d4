-- The words of a version, by the number of its tag: where they stand, and what its next word says.
use Prim.Native.Nat.{zero, suc}
use Rattle.std.specs.Prelude.{ℕ, ◌+◌, ◌*◌, ◌/◌, ◌%◌, ◌^◌, Some, None}
use Rattle.clover_words.specs.declared.word.Buffer.{Buffer}
use Rattle.clover_words.specs.declared.word.Word.{Word}
use Rattle.clover_words.specs.declared.word.Word.TheVariants.{Meta, Value}
use Rattle.clover_words.specs.Next.{root_code}
use Rattle.clover_words.specs.Tag.{age}

-- the buffer of this number: its node, and below it its index
abbrev pub buffer_at : ℕ → Buffer
buffer_at b = record { node = b / 65536; index = b % 65536 }

-- the word at a place of a buffer's content: the meta word, and behind it the value words
abbrev pub content_at : ℕ → ℕ → Word
content_at b zero = Meta (buffer_at b)
content_at b (suc k) = Value (buffer_at b) k

-- a tag's next word where no tag is linked behind it
abbrev pub unlinked : ℕ → ℕ
unlinked t = age t * 2 ^ 43 + root_code None

-- a tag's next word where another one is linked behind it
abbrev pub linked : ℕ → ℕ → ℕ
linked t u = age t * 2 ^ 43 + root_code (Some u)
