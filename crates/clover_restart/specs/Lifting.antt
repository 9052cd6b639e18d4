-- What a restart makes of a buffer, by its mark and its generation.
use Prim.Native.Nat.{suc}
use Rattle.std.specs.Prelude.{◌≡◌, ◌≢◌, ℕ, ◌<◌, ◌≤◌, ◌&&◌, nat_lt, nat_eq, List, [], ◌∷◌, ◌++◌, map, Bool, if◌then◌else◌}
use Rattle.clover_words.specs.declared.pool.Pool.{Pool}
use Rattle.clover_words.specs.Place.{buffer_of}
use Rattle.clover_rule.specs.Image.{Image}
use Rattle.clover_rule.specs.Memory.{gen}
use Rattle.clover_rule.specs.Restart.{buffers_from, lifts, moves}
use Rattle.clover_rule.specs.Sound.{Sound}
use Rattle.clover_rule.specs.declared.view.RestartStore.{RestartStore}
use Rattle.clover_rule.specs.declared.view.RestartStore.TheVariants.{Lift, LiftFlushed}
use Rattle.clover_alloc.specs.Ledger.{Ledger, book}
use Rattle.clover_alloc.specs.Lines.{line, same_place}
use Rattle.clover_alloc.specs.declared.line.Line.{Line}
use Rattle.clover_alloc.specs.declared.line.Place.{Place}
use Rattle.clover_alloc.specs.declared.line.Place.TheVariants.{Free, Worn}
use Rattle.clover_restart.specs.Reading.{number_at}
use Rattle.clover_restart.specs.Slots.{mark_at}
use Rattle.clover_restart.specs.Stores.{store_of}
use Rattle.clover_restart.specs.declared.store.Store.{Store}

-- it goes on where it is on no chain that is kept and is not worn
abbrev pub goes_on : ℕ → Place → ℕ → Bool
goes_on wear mark g = same_place Free mark && nat_lt g wear

-- its generation then
abbrev pub next_gen : ℕ → Place → ℕ → ℕ
next_gen wear mark g = if goes_on wear mark g then suc g else g

-- its place at that generation: off the chains it is free, or worn at the wear
abbrev pub next_place : ℕ → Place → ℕ → Place
next_place wear Free g = if nat_eq g wear then Worn else Free
next_place wear mark g = mark

-- its line in the books of the next run
abbrev pub next_line : ℕ → Place → ℕ → Line
next_line wear mark g = line (next_gen wear mark g) (next_place wear mark (next_gen wear mark g))

-- the stores that let the buffer go on
abbrev pub lift_of : ℕ → Place → ℕ → ℕ → List RestartStore
lift_of wear mark b g = if goes_on wear mark g then Lift b (suc g) ∷ LiftFlushed b (suc g) ∷ [] else []

-- a mark that a buffer of this generation may have: a version on a chain that is kept has a generation to serve
pub record IsMark (wear : ℕ) (mark : Place) (g : ℕ) : Type 0 where
  pub most : g ≤ wear
  pub young : mark ≢ Free → g < wear
  pub not_worn : mark ≢ Worn

-- the first n buffers of a sound image were read: their stores stand behind those from before, and their lines are in the books
pub record AreLifted (p : Pool) (im : Image) (sound : Sound p im) (n : ℕ) (before after : List Store) (books : Ledger) : Type 0 where
  pub stores : map store_of after ≡ map store_of before ++ lifts (moves p im sound) (λ (b : ℕ). gen (im.next b)) (buffers_from p 0 n)
  pub lines : (q : ℕ) → q < n → book books (buffer_of p q) ≡ next_line p.wear (mark_at p im sound p.slots (number_at p q)) (gen (im.next (number_at p q)))
