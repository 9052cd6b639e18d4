-- What an access through a port tells: the step, and the words where the port tells them.
use Rattle.std.specs.Prelude.{◌≡◌, ℕ, ◌+◌, ◌-◌, ◌^◌, ◌≤◌, min, List, Bool, Option, Some, None}
use Rattle.clover_words.specs.declared.pool.Pool.{Pool}
use Rattle.clover_map.specs.declared.call.Entry.{Entry}
use Rattle.clover_rule.specs.Learned.{words_after_step, next_history}
use Rattle.clover_rule.specs.Steps.{Step}
use Rattle.clover_rule.specs.Told.{ToldAt}
use Rattle.clover_rule.specs.declared.view.View.{View}

-- the words and the history of one moment
pub record Open : Type 0 where
  pub words : List ℕ
  pub history : List Entry

-- the words and the history after a step of the actor v that found the number x
abbrev pub opened : Pool → Step → View → ℕ → Open → Open
opened p a v x o = record { words = words_after_step p a o.words; history = next_history a o.history v x }

-- a port that tells its words told those that the step found, and tells those after it
abbrev pub Tells : Option Open → Open → Open → Option Open → Type 0
Tells (Some o) now then after = (o ≡ now) × (after ≡ Some then)
Tells None now then after = after ≡ None

-- the access of the actor v was this step, the first of its call or a later one: in some words it found the number x and left the view w
pub record Made (p : Pool) (a : Step) (b : Bool) (v : View) (before : Option Open) (x : ℕ) (w : View) (after : Option Open) : Type 0 where
  pub now : Open
  pub told : ToldAt p now.words now.history a b v x w
  pub tells : Tells before now (opened p a v x now) after

-- the count rose, or stands at its last value
abbrev pub Rose : ℕ → ℕ → Type 0
Rose before now = min (before + 1) (2 ^ 64 - 1) ≤ now
