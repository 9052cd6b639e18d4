-- What the server has still to do of its unfinished task, and what the records of a run add to that: its accesses are these, whoever lets it make them.
use Rattle.std.specs.Prelude.{◌≡◌, ℕ, ◌+◌, ◌*◌, List, [], ◌∷◌, ◌++◌, Bool, false, Option, Some, None}
use Rattle.clover_words.specs.declared.word.Word.TheVariants.{Next as NextOf}
use Rattle.clover_dir.specs.Task.{key_length, left}
use Rattle.clover_recycle.specs.declared.stage.Stage.{Stage}
use Rattle.clover_recycle.specs.declared.stage.Stage.TheVariants.{AtVersion, AtLink, AtRoot, AtFlushedRoot, AtPass, AtFree, Over}
use Rattle.clover_rule.specs.Memory.{link}
use Rattle.clover_rule.specs.Words.{next_of}
use Rattle.clover_rule.specs.declared.access.Access.{Access}
use Rattle.clover_rule.specs.declared.access.Act.{Act}
use Rattle.clover_rule.specs.declared.access.Act.TheVariants.{Load}
use Rattle.clover_rule.specs.declared.access.Actor.{Actor}
use Rattle.clover_rule.specs.declared.access.Actor.TheVariants.{Server}
use Rattle.clover_server.specs.declared.work.Unfinished.{Unfinished}
use Rattle.clover_server.specs.declared.work.Work.{Work}
use Rattle.clover_server.specs.declared.work.Work.TheVariants.{Binding, Recycling}
use Rattle.clover_run.specs.Folds.{served_after}
use Rattle.clover_run.specs.Record.{Record}
use Rattle.clover_run.specs.Run.{Opening}
use Rattle.clover_run.specs.declared.served.Served.{Served}

-- how many accesses are left of a recycling; one whose load was refused counts nothing yet, for that load is to tell whether there is anything to recycle
abbrev pub recycling_rest : Stage → ℕ
recycling_rest AtVersion = 0
recycling_rest (AtLink t) = 5
recycling_rest (AtRoot t) = 4
recycling_rest (AtFlushedRoot t) = 3
recycling_rest (AtPass t) = 2
recycling_rest (AtFree t) = 1
recycling_rest Over = 0

abbrev pub work_rest : Work → ℕ
work_rest (Binding own c) = left (key_length c.key) c.stage
work_rest (Recycling slot c) = recycling_rest c.stage

-- how many accesses are left of the server's unfinished task
abbrev pub rest_of : Option Unfinished → ℕ
rest_of None = 0
rest_of (Some u) = work_rest u.work

-- the server makes two accesses for each word of the key that it binds, and five
abbrev pub binding_accesses : Work → ℕ
binding_accesses (Binding own c) = 2 * key_length c.key + 5
binding_accesses (Recycling slot c) = 0

-- the accesses of the binding that a record begins: no task was unfinished before it, and this one is behind it
abbrev pub binding_begun : (before after : Option Unfinished) → ℕ
binding_begun None (Some u) = binding_accesses u.work
binding_begun before after = 0

-- the act of an access that was made for the server
abbrev pub servers_act : Actor → Bool → Act → Option Act
servers_act Server false act = Some act
servers_act actor refused act = None

abbrev pub server_act : Option Access → Option Act
server_act None = None
server_act (Some x) = servers_act x.actor x.refused x.act

abbrev pub if_there : Option Act → ℕ
if_there None = 0
if_there (Some act) = 1

-- the server reads the next word of a slot's root version: it shows a link, with which a recycling begins, or none
abbrev pub shown : Option Act → Option (Option ℕ)
shown (Some (Load (NextOf b) n)) = Some (link (next_of n))
shown act = None

abbrev pub if_linked : Option (Option ℕ) → ℕ
if_linked (Some (Some t)) = 1
if_linked o = 0

abbrev pub if_unlinked : Option (Option ℕ) → ℕ
if_unlinked (Some None) = 1
if_unlinked o = 0

-- how many accesses of the server some records made; how many recyclings they began, and how many root versions they read unlinked
abbrev pub served_in : List Record → ℕ
served_in [] = 0
served_in (r ∷ rs) = if_there (server_act r.access) + served_in rs

abbrev pub recyclings_in : List Record → ℕ
recyclings_in [] = 0
recyclings_in (r ∷ rs) = if_linked (shown (server_act r.access)) + recyclings_in rs

abbrev pub unlinked_in : List Record → ℕ
unlinked_in [] = 0
unlinked_in (r ∷ rs) = if_unlinked (shown (server_act r.access)) + unlinked_in rs

-- and what the bindings cost that they began, behind this side of the server
abbrev pub bindings_in : Served → List Record → ℕ
bindings_in v [] = 0
bindings_in v (r ∷ rs) = binding_begun v.server.task r.served.server.task + bindings_in r.served rs

-- what is left of the task that is unfinished behind some records
abbrev pub rest_behind : Opening → List Record → ℕ
rest_behind o rs = rest_of (served_after o.served rs).server.task

-- In some records behind others the server made the accesses that were left of its unfinished task, but for those that are left behind them, and those of what was begun: what each binding costs, six for each recycling, and one for each root version that was read unlinked.
abbrev pub IsPaid : Opening → (before steps : List Record) → Type 0
IsPaid o before steps = served_in steps + rest_behind o (before ++ steps) ≡ rest_behind o before + bindings_in (served_after o.served before) steps + 6 * recyclings_in steps + unlinked_in steps

-- so between any two records
abbrev pub AllPaid : Opening → List Record → Type 0
AllPaid o rs = (before steps after : List Record) → rs ≡ before ++ (steps ++ after) → IsPaid o before steps
