-- The helping facts over the words of a pool: they carry the rule from step to step.
use Rattle.std.specs.Prelude.{◌≡◌, ℕ, List, [], length}
use Rattle.clover_words.specs.declared.pool.Pool.{Pool}
use Rattle.clover_words.specs.declared.word.Word.{Word}
use Rattle.clover_words.specs.declared.word.Word.TheVariants.{Next as NextOf, Root, Short}
use Rattle.clover_words.specs.declared.word.Side.{Side}
use Rattle.clover_words.specs.Place.{IsWithin, HasSide, copy_in, pool_words}
use Rattle.clover_words.specs.Tag.{home}
use Rattle.clover_words.specs.Next.{root_code}
use Rattle.clover_map.specs.declared.call.Entry.{Entry}
use Rattle.clover_map.specs.Tagged.{Tagged}
use Rattle.std.specs.Prelude.{Some}
use Rattle.clover_rule.specs.Lists.{nth, Within}
use Rattle.clover_rule.specs.Server.{Whole}
use Rattle.clover_rule.specs.Story.{Stocked, Story}
use Rattle.clover_rule.specs.Words.{next_code, next_of, root_of, mem_of}
use Rattle.clover_rule.specs.declared.view.View.{View}

-- the number is one that this word may have
abbrev pub IsCode : Word → ℕ → Type 0
IsCode (NextOf b) n = next_code (next_of n) ≡ n
IsCode (Root s) n = root_code (root_of n) ≡ n
IsCode (Short s) n = root_code (root_of n) ≡ n
IsCode w n = Unit {0}

-- each copy of each word decodes
abbrev pub Decodes : Pool → List ℕ → Type 0
Decodes p ws = (w : Word) (s : Side) → IsWithin p w → HasSide w s → IsCode w (copy_in p ws w s)

-- the actor is one of this run
pub record OfRun (p : Pool) (first : Tagged) (used : List ℕ) (v : View) : Type 0 where
  pub of_pool : v.pass.pool ≡ p
  pub from_map : v.pass.map ≡ first
  pub from_used : v.pass.used ≡ used

-- each buffer whose place is a stock is in that stock
abbrev pub InStocks : List View → Story → Type 0
InStocks vs st = (b i : ℕ) → st.place b ≡ Stocked i → (v : View) × (nth vs i ≡ Some v) × (t : ℕ) × Within t v.pass.stock × (home t ≡ b)

-- the words, the views of all actors and the history, with the story behind them, of a run that began with this map and these used tags
pub record Meets (p : Pool) (first : Tagged) (used : List ℕ) (ws : List ℕ) (vs : List View) (st : Story) (h : List Entry) : Type 0 where
  pub sized : length ws ≡ pool_words p
  pub decodes : Decodes p ws
  pub same : (i : ℕ) (v : View) → nth vs i ≡ Some v → OfRun p first used v
  -- nobody has a store of a restart to make
  pub still : (i : ℕ) (v : View) → nth vs i ≡ Some v → v.plan ≡ []
  -- a buffer whose place is a stock is in that stock
  pub stocks : InStocks vs st
  pub whole : Whole p first used (mem_of p ws) vs st h

-- there is such a story
abbrev pub IsMet : Pool → Tagged → List ℕ → List ℕ → List View → List Entry → Type 0
IsMet p first used ws vs h = (st : Story) × Meets p first used ws vs st h
