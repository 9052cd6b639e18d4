-- What holds over all runs of a script.
use Rattle.std.specs.Prelude.{ℕ, List, map}
use Rattle.clover_map.specs.Legal.{Legal, handed}
use Rattle.clover_script.specs.declared.run_entry.RunEntry.{RunEntry}
use Rattle.clover_run.specs.Folds.{entries_in}
use Rattle.clover_run.specs.Run.{Opening}
use Rattle.clover_sched.specs.Cuts.{AllFollow, AreNew, EachRun, StandsLegal}
use Rattle.clover_sched.specs.Items.{Item, Present, first_present, history_at, present_after}

-- the history of the present run is legal from where that began
abbrev pub IsLegalRun : Present → Type 0
IsLegalRun at = Legal at.opening.first at.opening.used (entries_in at.records)

-- the tags that these entries hand out, standing or not
abbrev pub handed_in : List RunEntry → List ℕ
handed_in xs = handed (map (λ (x : RunEntry). x.entry) xs)

-- one history over all runs: what stands is legal from the first map, and no tag is handed out twice
pub record StandsOnce (o : Opening) (xs : List RunEntry) : Type 0 where
  pub legal : StandsLegal o.first o.used xs
  pub once : AreNew o.used (handed_in xs)

-- Where each run is legal from where it began, and each loss of power takes what may be taken, what stands over all runs is one legal history.
abbrev pub RunsStandLaw : Type 0
RunsStandLaw = (o : Opening) (items : List Item) → AllFollow (first_present o) items → EachRun IsLegalRun (first_present o) items → StandsOnce o (history_at (present_after (first_present o) items))
