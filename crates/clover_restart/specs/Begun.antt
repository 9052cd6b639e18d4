-- What a restart of a sound image has before its first store.
use Rattle.std.specs.Prelude.{◌≡◌, ℕ, ◌*◌, ◌<◌, length, nat_lt, true, None, if◌then◌else◌}
use Rattle.std.specs.Option.{option_map}
use Rattle.clover_words.specs.declared.pool.Pool.{Pool}
use Rattle.clover_words.specs.Place.{buffer_of}
use Rattle.clover_words.specs.Tag.{tag_number}
use Rattle.clover_rule.specs.Image.{Image}
use Rattle.clover_rule.specs.Memory.{gen}
use Rattle.clover_rule.specs.Restart.{AreBindings, plan}
use Rattle.clover_rule.specs.Sound.{Sound}
use Rattle.clover_alloc.specs.Ledger.{Ledger, IsLedger, book}
use Rattle.clover_dir.specs.Directory.{Bindings, IsDirectory, root_of}
use Rattle.clover_restart.specs.Lifting.{next_line}
use Rattle.clover_restart.specs.Reading.{number_at}
use Rattle.clover_restart.specs.Restart.{RestartState}
use Rattle.clover_restart.specs.Slots.{kept_image, kept_root, mark_at}

-- Books and directory of a new run of the pool: both are whole, and nothing was taken from the books yet.
pub record IsNextRun (p : Pool) (books : Ledger) (directory : Bindings) : Type 0 where
  pub ledger : IsLedger books × (books.pool ≡ p) × (books.fresh ≡ true)
  pub bindings : IsDirectory directory × (directory.pool ≡ p)

-- All stores of the plan are left. The books have each buffer at its next generation where it goes on, bound where it is a root that is kept, out where it stands on a chain behind one, worn at the wear, and else free; the directory has the slots that keep their root, in ascending order, each with the key that it spells and its root.
pub record IsRestartOf (p : Pool) (im : Image) (sound : Sound p im) (r : RestartState) : Type 0 where
  pub rest : r.rest ≡ plan p im sound
  pub stores : r.stores ≡ length r.rest
  pub lines : (q : ℕ) → q < p.nodes * p.buffers → book r.books (buffer_of p q) ≡ next_line p.wear (mark_at p im sound p.slots (number_at p q)) (gen (im.next (number_at p q)))
  pub list : AreBindings (kept_image p im sound) 0 p.slots r.directory.list
  pub roots : (s : ℕ) → option_map tag_number (root_of r.directory s) ≡ (if nat_lt s p.slots then kept_root p im sound s else None)
