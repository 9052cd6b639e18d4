-- How the power of a machine fails, and how a machine begins over the pool behind it.
use Rattle.std.specs.Prelude.{◌≡◌, ℕ, List, [], true, false}
use Rattle.clover_map.specs.Legal.{used_by}
use Rattle.clover_map.specs.declared.call.Entry.{Entry}
use Rattle.clover_alloc.specs.Ledger.{Ledger}
use Rattle.clover_dir.specs.Directory.{Bindings}
use Rattle.clover_rule.specs.Cut.{AfterCut, IsKnownDurable, image_of}
use Rattle.clover_rule.specs.Marks.{Marks}
use Rattle.clover_rule.specs.Restart.{plan as stores_of, rested_words}
use Rattle.clover_rule.specs.declared.view.View.{View}
use Rattle.clover_plain.specs.Plain.{Plain, restart_view}
use Rattle.clover_run.specs.Folds.{entries_in, listed_in, made_after, words_after}
use Rattle.clover_run.specs.Machine.{new_side}
use Rattle.clover_run.specs.Record.{Record}
use Rattle.clover_run.specs.Run.{Opening}
use Rattle.clover_run.specs.Told.{told}

-- What a power cut behind these records may leave: the image stands for the map of a history that survived these views, which knew each tag to be durable that was told. Which commits it took is seen at the ends of the chains.
pub record MayLeave (o : Opening) (rs : List Record) (image : List ℕ) : Type 0 where
  pub views : List View
  pub after : AfterCut o.setup.pool o.first o.used views (entries_in rs) image
  pub known : (t : ℕ) → told rs t ≡ true → IsKnownDurable views t
  pub marks : Marks o.setup.pool (words_after o.setup.pool o.words rs) image (entries_in rs) after.survives.lost

-- The power failed behind these records, which left this image. The pool is down, restart has all stores of the image to make, and the history is handed out.
pub record LosesPower (o : Opening) (rs : List Record) (image : List ℕ) (p : Plain) (handed : List Entry) : Type 0 where
  pub leaves : MayLeave o rs image
  pub setup : p.setup ≡ o.setup
  pub down : p.opened ≡ false
  pub words : p.words ≡ rested_words o.setup.pool image
  pub first : p.first ≡ leaves.after.map
  pub used : p.used ≡ used_by o.used (entries_in rs)
  pub plan : (restart_view p).plan ≡ stores_of o.setup.pool (image_of o.setup.pool image) leaves.after.rests.sound.reads
  pub accesses : p.accesses ≡ listed_in o.listed p.traced rs
  pub made : p.made ≡ made_after o.made rs
  pub whole : p.whole ≡ true
  pub entries : handed ≡ entries_in rs

-- The run begins where this pool stands that is down, with these books and this directory.
pub record Reopens (p : Plain) (books : Ledger) (d : Bindings) (o : Opening) : Type 0 where
  pub setup : o.setup ≡ p.setup
  pub words : o.words ≡ p.words
  pub served : o.served ≡ new_side p.setup books d
  pub first : o.first ≡ p.first
  pub used : o.used ≡ p.used
  pub made : o.made ≡ p.made
  pub listed : listed_in o.listed p.traced [] ≡ p.accesses
