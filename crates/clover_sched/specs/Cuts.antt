-- What a cut's line may come to, and what follows what in a script with power cuts.
use Prim.Native.Nat.{suc}
use Rattle.std.specs.Prelude.{◌≡◌, ◌⊎◌, ℕ, List, [], ◌∷◌, ◌++◌, Contains, Bool, true, false, Some, None}
use Rattle.clover_words.specs.declared.setup.Setup.{Setup}
use Rattle.clover_map.specs.Does.{Does}
use Rattle.clover_map.specs.Legal.{Leads}
use Rattle.clover_map.specs.Tagged.{Tagged}
use Rattle.clover_map.specs.Tags.{IsFresh, new_tags}
use Rattle.clover_map.specs.declared.call.Entry.{Entry}
use Rattle.clover_rule.specs.Cut.{IsSound, StandsFor, image_of}
use Rattle.clover_rule.specs.History.{Last, Version, commit_of, kept}
use Rattle.clover_rule.specs.Lists.{Each, Within}
use Rattle.clover_alloc.specs.Ledger.{Ledger, IsLedger}
use Rattle.clover_dir.specs.Directory.{Bindings, IsDirectory}
use Rattle.clover_plain.specs.Reopening.{AreOfWords}
use Rattle.clover_script.specs.declared.choice.Choice.{Choice}
use Rattle.clover_script.specs.declared.run_entry.RunEntry.{RunEntry}
use Rattle.clover_image.specs.Choosing.{chosen}
use Rattle.clover_run.specs.Folds.{entries_in}
use Rattle.clover_run.specs.Machine.{new_side}
use Rattle.clover_run.specs.Run.{Follows}
use Rattle.clover_run.specs.Told.{told}
use Rattle.clover_run.specs.declared.served.Served.{Served}
use Rattle.clover_sched.specs.Items.{Item, Happened, Loses, Shows, Loss, Present, is_in, present_after, present_by, words_at}
use Rattle.clover_sched.specs.Outages.{AreOutages, last_words}

-- none of the tags is among those used, and none comes twice
abbrev pub AreNew : List ℕ → List ℕ → Type 0
AreNew used [] = Unit {0}
AreNew used (t ∷ ts) = IsFresh used t × AreNew (used ++ t ∷ []) ts

-- the server's side of a new run: nobody holds the server, nothing is under way, and its books and directory are whole and those of the words
pub record IsNewSide (s : Setup) (ws : List ℕ) (v : Served) : Type 0 where
  pub books : Ledger
  pub directory : Bindings
  pub ledger : IsLedger books × (books.pool ≡ s.pool) × (books.fresh ≡ true)
  pub bindings : IsDirectory directory × (directory.pool ≡ s.pool)
  pub agree : AreOfWords s.pool ws books directory
  pub value : v ≡ new_side s books directory

-- These tags may be taken from the run's history: each is of the last commit of its key, and nobody was told of it; and without them the history leads to this map.
pub record MayTake (at : Present) (gone : ℕ → Bool) (left : Tagged) : Type 0 where
  pub last : Last gone (entries_in at.records)
  pub untold : (t : ℕ) → gone t ≡ true → told at.records t ≡ false
  pub leads : Leads at.opening.first at.opening.used (kept gone (entries_in at.records)) left

-- the tag is that of a commit of the run
abbrev pub IsCommitted : Present → ℕ → Type 0
IsCommitted at t = (e : Entry) × (w : Version) × Within e (entries_in at.records) × (commit_of e ≡ Some w) × (w.tag ≡ t)

-- The cut's line behind what was before: its losses of power, and what they took, each tag once and of a commit of the run.
pub record IsLoss (at : Present) (choice : Choice) (more : List (ℕ × Choice)) (l : Loss) : Type 0 where
  pub outages : AreOutages at.opening.setup.pool (words_at at) choice more l.left l.outages
  pub served : IsNewSide at.opening.setup (last_words at.opening.setup.pool l.outages) l.served
  pub takes : MayTake at (is_in l.gone) l.left
  pub commits : Each (IsCommitted at) l.gone
  pub once : AreNew [] l.gone

-- The image that a cut would leave now: it is the one that the choice takes, is sound, and stands for the map of what a cut may leave of the history.
pub record IsLeft (at : Present) (choice : Choice) (image : List ℕ) : Type 0 where
  pub chosen : image ≡ chosen at.opening.setup.pool choice (words_at at)
  pub sound : IsSound at.opening.setup.pool image
  pub gone : ℕ → Bool
  pub left : Tagged
  pub stands : StandsFor at.opening.setup.pool (image_of at.opening.setup.pool image) sound.reads left
  pub takes : MayTake at gone left

-- the item follows what was before
abbrev pub FollowsItem : Present → Item → Type 0
FollowsItem at (Happened r) = Follows at.opening at.records r
FollowsItem at (Loses choice more l) = IsLoss at choice more l
FollowsItem at (Shows choice image) = IsLeft at choice image

abbrev pub AllFollow : Present → List Item → Type 0
AllFollow at [] = Unit {0}
AllFollow at (i ∷ items) = FollowsItem at i × AllFollow (present_by at i) items

-- this holds of each run that a loss of power ended, where it ended
abbrev pub EachEnded : (Present → Type 0) → Present → List Item → Type 0
EachEnded Is at [] = Unit {0}
EachEnded Is at (Happened r ∷ items) = EachEnded Is (present_by at (Happened r)) items
EachEnded Is at (Loses choice more l ∷ items) = Is at × EachEnded Is (present_by at (Loses choice more l)) items
EachEnded Is at (Shows choice image ∷ items) = EachEnded Is at items

-- and of the last one too, where the items end
abbrev pub EachRun : (Present → Type 0) → Present → List Item → Type 0
EachRun Is at items = EachEnded Is at items × Is (present_after at items)

-- what stands is legal from a map with these used tags, and the tag of an entry that does not stand is used
abbrev pub StandsLegal : Tagged → List ℕ → List RunEntry → Type 0
StandsLegal m used [] = Unit {0}
StandsLegal m used (x ∷ xs) = ((x.stands ≡ true) × (n : Tagged) × Does m used x.entry.call x.entry.reply n × StandsLegal n (used ++ new_tags x.entry.reply) xs) ⊎ ((x.stands ≡ false) × StandsLegal m (used ++ new_tags x.entry.reply) xs)
