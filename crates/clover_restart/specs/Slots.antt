-- What was read of some slots of a sound image.
use Rattle.std.specs.Prelude.{◌≡◌, ℕ, ◌*◌, ◌<◌, ◌&&◌, not, nat_lt, length, map, slice_index_or, Bool, Option, None, if◌then◌else◌}
use Rattle.std.specs.Option.{option_map}
use Rattle.clover_words.specs.declared.pool.Pool.{Pool}
use Rattle.clover_words.specs.Tag.{tag_number}
use Rattle.clover_rule.specs.Image.{Image}
use Rattle.clover_rule.specs.Restart.{AreBindings, clears, how_many, is_dead, is_kept, is_of, some_below, stands_on}
use Rattle.clover_rule.specs.Sound.{Sound}
use Rattle.clover_alloc.specs.declared.line.Place.{Place}
use Rattle.clover_alloc.specs.declared.line.Place.TheVariants.{Free, Bound, Out}
use Rattle.clover_dir.specs.Directory.{root_of}
use Rattle.clover_restart.specs.Reading.{number_at}
use Rattle.clover_restart.specs.Stores.{store_of}
use Rattle.clover_restart.specs.declared.slots.Slots.{Slots}

module _ (p : Pool) (im : Image) (sound : Sound p im) where
  -- the buffer is the root version of a slot below n that is kept
  abbrev pub is_root : ℕ → ℕ → Bool
  is_root n b = some_below (λ (s : ℕ). not (is_dead p im sound s) && is_of (im.root s) b) n

  -- it stands on the chain of such a slot
  abbrev pub is_chained : ℕ → ℕ → Bool
  is_chained n b = some_below (λ (s : ℕ). not (is_dead p im sound s) && stands_on (sound.chain s) b) n

  -- the place of a buffer as the chains of the slots below n that are kept have it; one that is on none of them is free
  abbrev pub mark_at : ℕ → ℕ → Place
  mark_at n b = if is_root n b then Bound else if is_chained n b then Out else Free

  -- the roots that are kept
  abbrev pub kept_root : ℕ → Option ℕ
  kept_root s = if is_dead p im sound s then None else im.root s

  -- the image with those roots alone
  abbrev pub kept_image : Image
  kept_image = record im { root = kept_root }

  -- the slots below n were read
  pub record AreRead (n : ℕ) (slots : Slots) : Type 0 where
    pub stores : map store_of slots.stores.items ≡ clears (is_dead p im sound) 0 n
    pub sized : length slots.marks.items ≡ p.nodes * p.buffers
    pub marks : (q : ℕ) → q < p.nodes * p.buffers → slice_index_or slots.marks.items q Free ≡ mark_at n (number_at p q)
    pub pool : slots.directory.pool ≡ p
    pub list : AreBindings kept_image 0 n slots.directory.list
    pub roots : (s : ℕ) → option_map tag_number (root_of slots.directory s) ≡ (if nat_lt s n then kept_root s else None)
    pub count : length slots.directory.list ≡ how_many (is_kept p im sound) n
