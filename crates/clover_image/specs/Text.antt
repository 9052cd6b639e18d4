-- The printed text of an image.
use Prim.Native.Nat.{zero, suc}
use Rattle.std.specs.Prelude.{ℕ, ◌-◌, ◌/◌, ◌%◌, nat_eq, nat_lt, List, [], ◌∷◌, ◌++◌, decimal, codes, if◌then◌else◌}
use Rattle.clover_words.specs.declared.pool.Pool.{Pool}
use Rattle.clover_words.specs.declared.word.Buffer.{Buffer}
use Rattle.clover_words.specs.declared.word.Word.{Word}
use Rattle.clover_words.specs.declared.word.Word.TheVariants.{Next, Meta, Value, Root, Key}
use Rattle.clover_words.specs.Place.{buffer_of, buffer_words, slots_from}
use Rattle.clover_script.specs.Text.{word_text, hex_text}

-- the words of a buffer and of a slot, in their order
abbrev pub word_of_buffer : Buffer → ℕ → Word
word_of_buffer b zero = Next b
word_of_buffer b (suc zero) = Meta b
word_of_buffer b (suc (suc k)) = Value b k

abbrev pub word_of_slot : ℕ → ℕ → Word
word_of_slot s zero = Root s
word_of_slot s (suc k) = Key s k

-- the durable word whose current copy stands at an address
abbrev pub word_there : Pool → ℕ → Word
word_there p a =
    if nat_lt a (slots_from p)
    then word_of_buffer (buffer_of p (a / buffer_words p)) (a % buffer_words p)
    else word_of_slot ((a - slots_from p) / 33) ((a - slots_from p) % 33)

-- the line of a word, which has one where its number is not 0
abbrev pub word_line : Word → ℕ → List ℕ
word_line w n = if nat_eq n 0 then [] else word_text w ++ (codes " " ++ (hex_text n ++ codes "\n"))

-- the lines of these numbers, of which the first stands at an address
abbrev pub word_lines : Pool → ℕ → List ℕ → List ℕ
word_lines p a [] = []
word_lines p a (n ∷ ns) = word_line (word_there p a) n ++ word_lines p (suc a) ns

-- the line of the pool
abbrev pub pool_text : Pool → List ℕ
pool_text p = codes "pool nodes=" ++ (decimal p.nodes ++ (codes " buffers=" ++ (decimal p.buffers ++ (codes " slots=" ++ (decimal p.slots ++ (codes " words=" ++ (decimal p.words ++ (codes " wear=" ++ (decimal p.wear ++ codes "\n")))))))))

-- all lines: two at the head, one for each durable word that is not 0, in ascending order, and one at the end
abbrev pub image_text : Pool → List ℕ → List ℕ
image_text p im = codes "clover image 1\n" ++ (pool_text p ++ (word_lines p 0 im ++ codes "end\n"))
