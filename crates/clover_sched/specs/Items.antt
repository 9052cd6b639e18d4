-- What happens in a script: records of events, losses of power, and images that are shown; and where some of them lead.
use Prim.Native.Nat.{suc}
use Rattle.std.specs.Prelude.{ℕ, ◌+◌, ◌||◌, not, nat_eq, List, [], ◌∷◌, ◌++◌, map, fold, Bool, false}
use Rattle.clover_map.specs.Legal.{used_by}
use Rattle.clover_map.specs.Tagged.{Tagged}
use Rattle.clover_map.specs.declared.call.Entry.{Entry}
use Rattle.clover_rule.specs.History.{commit_of, lost_in}
use Rattle.clover_script.specs.declared.choice.Choice.{Choice}
use Rattle.clover_script.specs.declared.run_entry.RunEntry.{RunEntry}
use Rattle.clover_run.specs.Folds.{accesses_in, entries_in, made_after, words_after}
use Rattle.clover_run.specs.Record.{Record}
use Rattle.clover_run.specs.Run.{Opening}
use Rattle.clover_run.specs.Told.{told}
use Rattle.clover_run.specs.declared.served.Served.{Served}
use Rattle.clover_sched.specs.Outages.{Outage, last_words, stored_in, stores_in}

-- what a cut's line came to: its losses of power, the tags of the commits that they took, the map that is left, and the server's side of the next run
pub record Loss : Type 0 where
  pub outages : List Outage
  pub gone : List ℕ
  pub left : Tagged
  pub served : Served

pub data Item : Type 0 where
  Happened : (r : Record) → Item
  Loses : (choice : Choice) (more : List (ℕ × Choice)) (l : Loss) → Item
  Shows : (choice : Choice) (image : List ℕ) → Item

-- where some items lead: the entries of the runs that have ended, where the present run began, and its records
pub record Present : Type 0 where
  pub past : List RunEntry
  pub opening : Opening
  pub records : List Record

-- the words of the moment
abbrev pub words_at : Present → List ℕ
words_at at = words_after at.opening.setup.pool at.opening.words at.records

-- the tag is one of these
abbrev pub is_in : List ℕ → ℕ → Bool
is_in [] t = false
is_in (u ∷ us) t = nat_eq u t || is_in us t

-- an entry of a run, which stands unless its commit is gone, and is told where its commit is
abbrev pub marked : ℕ → (ℕ → Bool) → (ℕ → Bool) → Entry → RunEntry
marked run gone tells e = record { run = run; entry = e; stands = not (lost_in gone (commit_of e)); told = lost_in tells (commit_of e) }

-- the entries of the present run, where these tags are gone
abbrev pub run_entries : Present → (ℕ → Bool) → List RunEntry
run_entries at gone = map (marked at.opening.run gone (told at.records)) (entries_in at.records)

-- nothing is gone
abbrev pub none_gone : ℕ → Bool
none_gone t = false

-- the history over all runs
abbrev pub history_at : Present → List RunEntry
history_at at = at.past ++ run_entries at none_gone

-- where the next run begins
abbrev pub reopened : Present → Loss → Opening
reopened at l = record {
  setup = at.opening.setup;
  words = last_words at.opening.setup.pool l.outages;
  served = l.served;
  first = l.left;
  used = used_by at.opening.used (entries_in at.records);
  run = suc at.opening.run;
  made = made_after at.opening.made at.records + stored_in l.outages;
  listed = (at.opening.listed ++ accesses_in at.records) ++ stores_in l.outages;
}

abbrev pub present_by : Present → Item → Present
present_by at (Happened r) = record at { records = at.records ++ r ∷ [] }
present_by at (Loses choice more l) = record { past = at.past ++ run_entries at (is_in l.gone); opening = reopened at l; records = [] }
present_by at (Shows choice image) = at

abbrev pub present_after : Present → List Item → Present
present_after at items = fold present_by at items

-- before any item
abbrev pub first_present : Opening → Present
first_present o = record { past = []; opening = o; records = [] }
