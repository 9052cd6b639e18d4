-- What it is for an image to have a value, or the content of a version.
use Rattle.std.specs.Prelude.{◌≡◌, ℕ, ◌<◌, List, length, Option, Some}
use Rattle.clover_words.specs.declared.word.Buffer.{Buffer}
use Rattle.clover_words.specs.declared.word.Word.TheVariants.{Value as ValueOf}
use Rattle.clover_words.specs.Pack.{packed, words_of}
use Rattle.clover_words.specs.Tag.{home}
use Rattle.clover_map.specs.declared.bytes.Value.{Value}
use Rattle.clover_rule.specs.Content.{Fits, content}
use Rattle.clover_rule.specs.Lists.{nth}
use Rattle.clover_image.specs.Image.{PoolImage}
use Rattle.clover_image.specs.Reading.{decoded, number_in}

-- the first value words of the buffer are those of the bytes
abbrev pub HasWords : PoolImage → Buffer → List ℕ → Type 0
HasWords m b bytes = (j : ℕ) → j < words_of (length bytes) → number_in m (ValueOf b j) ≡ packed bytes j

-- a buffer has room for this content, and the content words of the tag's buffer are its words
pub record HasVersion (m : PoolImage) (t : ℕ) (x : Option Value) : Type 0 where
  pub fits : Fits m.pool x
  pub words : (j y : ℕ) → nth (content x) j ≡ Some y → (decoded m).body (home t) j ≡ y
