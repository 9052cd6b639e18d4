-- What holds of every run of a machine.
use Rattle.std.specs.Prelude.{List}
use Rattle.clover_map.specs.History.{IsNumberedByClient}
use Rattle.clover_map.specs.Legal.{Legal}
use Rattle.clover_rule.specs.Accesses.{Replays}
use Rattle.clover_run.specs.Alone.{AllFound, AllCounted, AllAlone}
use Rattle.clover_run.specs.Folds.{accesses_in, entries_in}
use Rattle.clover_run.specs.Freed.{AllFree}
use Rattle.clover_run.specs.Owed.{AllPaid}
use Rattle.clover_run.specs.Record.{Record}
use Rattle.clover_run.specs.Rounds.{AllRounds}
use Rattle.clover_run.specs.Run.{Opening, IsRun}

-- The records are a run whose accesses replay; its history is legal from what was before it, and in each client's order. At every moment each bound key has a chain with a tail, the count is the number of the bindings, and a buffer that the server's books have as free lies free. A call that runs alone is answered at exactly its cost; from one start of it to the next it makes these accesses, and the server those that its tasks cost.
pub record IsLawful (o : Opening) (records : List Record) : Type 0 where
  pub run : IsRun o records
  pub replays : Replays o.setup.pool o.words (accesses_in records)
  pub legal : Legal o.first o.used (entries_in records)
  pub numbered : IsNumberedByClient (entries_in records)
  pub found : AllFound o records
  pub counted : AllCounted o records
  pub free : AllFree o records
  pub alone : AllAlone o records
  pub paid : AllPaid o records
  pub rounds : AllRounds o records
