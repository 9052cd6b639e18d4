-- An image as contracts see it, and which words it has.
use Rattle.std.specs.Prelude.{ℕ, ◌^◌, ◌<◌, List, slice_index}
use Rattle.clover_words.specs.declared.pool.Pool.{Pool}
use Rattle.clover_words.specs.declared.word.Word.{Word}
use Rattle.clover_words.specs.declared.word.Side.TheVariants.{Flushed}
use Rattle.clover_words.specs.Place.{IsWithin, HasSide}

-- a pool, and one number for each of its durable words, in the order of their addresses
pub record PoolImage : Type 0 where
  pub pool : Pool
  pub words : List ℕ

-- the word is in the pool, and has a flushed copy
abbrev pub IsDurable : Pool → Word → Type 0
IsDurable p w = IsWithin p w × HasSide w Flushed

-- each number fits into a word
abbrev pub AreWords : List ℕ → Type 0
AreWords words = (i : ℕ) → slice_index words i < 2 ^ 64
