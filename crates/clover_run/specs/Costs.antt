-- What a call costs that runs alone from its begin to its answer, the server's part included.
use Rattle.std.specs.Prelude.{◌≡◌, ◌≢◌, ℕ, ◌+◌, ◌*◌, ◌≤◌, List, [], ◌∷◌, ◌++◌, length, false, Option, Some, None, IfSome, IsSome}
use Rattle.clover_map.specs.declared.call.Call.{Call}
use Rattle.clover_script.specs.declared.line.Task.TheVariants.{Client as ClientTask}
use Rattle.clover_words.specs.declared.pool.Pool.{Pool}
use Rattle.clover_words.specs.declared.word.Word.TheVariants.{Count}
use Rattle.clover_node.specs.Node.{IsPut}
use Rattle.clover_rule.specs.Lists.{Each}
use Rattle.clover_rule.specs.declared.access.Access.{Access}
use Rattle.clover_rule.specs.declared.access.Act.{Act}
use Rattle.clover_rule.specs.declared.access.Act.TheVariants.{Load}
use Rattle.clover_rule.specs.declared.access.Actor.{Actor}
use Rattle.clover_rule.specs.declared.access.Actor.TheVariants.{Client}
use Rattle.clover_event.specs.declared.event.Event.TheVariants.{Begin, Step}
use Rattle.clover_run.specs.Alone.{EndsAlone, IsAnswered, cost_of}
use Rattle.clover_run.specs.Folds.{accesses_in, served_after}
use Rattle.clover_run.specs.Lawful.{IsLawful}
use Rattle.clover_run.specs.Owed.{IsPaid, bindings_in, recyclings_in, rest_behind, served_in, unlinked_in}
use Rattle.clover_run.specs.Record.{Record}
use Rattle.clover_run.specs.Rounds.{CostsRound, Round}
use Rattle.clover_run.specs.Run.{Opening, Standing, known_slot, standing, want_in}
use Rattle.clover_run.specs.declared.event.Note.TheVariants.{Quiet}
use Rattle.clover_run.specs.declared.want.Want.TheVariants.{Nothing}

-- a step of the client in which no access was refused
pub record IsMade (c : ℕ) (r : Record) : Type 0 where
  pub event : r.event ≡ Step c
  pub made : IfSome r.access (λ (x : Access). x.refused ≡ false)

-- somewhere in the records a client begins a call, and from there on only such steps of the client stand
pub record AloneCall (o : Opening) (rs : List Record) : Type 0 where
  pub before : List Record
  pub steps : List Record
  pub after : List Record
  pub whole : rs ≡ before ++ (steps ++ after)
  pub client : ℕ
  pub call : Call
  pub written : ℕ
  pub begun : (front : List Record) × (start : Record) × (before ≡ front ++ start ∷ []) × (start.event ≡ Begin client (ClientTask call written)) × (start.note ≡ Quiet)
  pub own : Each (IsMade client) steps

-- how many loads of the count clients made in some records
abbrev pub if_count : Actor → Act → ℕ
if_count (Client c) (Load Count n) = 1
if_count actor act = 0

abbrev pub count_load : Option Access → ℕ
count_load None = 0
count_load (Some x) = if_count x.actor x.act

abbrev pub counts_in : List Record → ℕ
counts_in [] = 0
counts_in (r ∷ rs) = count_load r.access + counts_in rs

-- what a call costs where it starts: a load of the count where its client does not know its key, and else its cost there
abbrev pub own_cost : (p : Pool) (st : Standing) (slot : Option ℕ) (call : Call) (c : ℕ) (own : List Record) → EndsAlone p st slot call c own → ℕ
own_cost p st None call c own ends = 1
own_cost p st (Some slot) call c own ends = cost_of p st slot call ends.0

-- what the server's tasks cost in some records behind others, where behind these none is left unfinished
abbrev pub tasks_cost : Opening → (before steps : List Record) → ℕ
tasks_cost o before steps = rest_behind o before + bindings_in (served_after o.served before) steps + 6 * recyclings_in steps + unlinked_in steps

-- A call was answered, which started for the last time behind its earlier steps: it wanted nothing there, and made what it cost. Where that was its begin the server made no access, and else those of all tasks: what was left of the unfinished one, and those that were begun.
pub record IsAnsweredBy (o : Opening) (rs : List Record) (x : AloneCall o rs) (earlier : List Record) (last : Round o rs) (own : CostsRound o rs last) : Type 0 where
  pub free : want_in (standing o last.client last.before) last.call ≡ Nothing
  pub cost : length own.own ≡ own_cost o.setup.pool (standing o last.client last.before) (known_slot (standing o last.client last.before) last.call) last.call last.client own.own (own.costs free)
  pub none : earlier ≡ [] → served_in x.steps ≡ 0
  pub tasks : earlier ≢ [] → served_in x.steps ≡ tasks_cost o x.before x.steps

-- The accesses of such a call are its own since it last started, before that none or one load of the count, and the server's. There is none where its client knows its key as it begins, and a put whose client has loaded it knows its key as it starts anew. An answered call has made exactly what it cost from where it last started. The server's accesses are those that its tasks cost.
pub record CostsCall (o : Opening) (rs : List Record) (x : AloneCall o rs) : Type 0 where
  pub earlier : List Record
  pub last : Round o rs
  pub behind : last.before ≡ x.before ++ earlier
  pub steps : x.steps ≡ earlier ++ last.steps
  pub same : (last.client ≡ x.client) × (last.call ≡ x.call)
  pub own : CostsRound o rs last
  pub sum : length (accesses_in x.steps) ≡ counts_in earlier + length own.own + served_in x.steps
  pub counts : counts_in earlier ≤ 1
  pub known : IsSome (known_slot (standing o x.client x.before) x.call) → counts_in earlier ≡ 0
  pub once : counts_in earlier ≡ 1 → IsPut x.call → IsSome (known_slot (standing o last.client last.before) last.call)
  pub answered : (front : List Record) (r : Record) → x.steps ≡ front ++ r ∷ [] → IsAnswered x.client r.note → IsAnsweredBy o rs x earlier last own
  pub paid : IsPaid o x.before x.steps

-- so of each call in a lawful run that begins with no task of the server unfinished
abbrev pub CostLaw : Type 0
CostLaw = (o : Opening) (rs : List Record) → o.served.server.task ≡ None → IsLawful o rs → (x : AloneCall o rs) → CostsCall o rs x
