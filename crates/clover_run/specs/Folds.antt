-- What some records lead to, each thing as a fold of its own: the accesses, the entries, the words, the server's side, and what each actor has under way.
use Rattle.std.specs.Prelude.{ℕ, ◌+◌, ◌==◌, List, [], ◌∷◌, ◌++◌, map, take, fold, Bool, true, false, if◌then◌else◌, Option, Some, None}
use Rattle.std.specs.Option.{option_to_list}
use Rattle.clover_alloc.specs.Batch.{tags_of}
use Rattle.clover_words.specs.declared.pool.Pool.{Pool}
use Rattle.clover_words.specs.Tag.{tag_number}
use Rattle.clover_map.specs.declared.call.Entry.{Entry}
use Rattle.clover_map.specs.declared.call.Reply.{Reply}
use Rattle.clover_map.specs.History.{is_commit}
use Rattle.clover_script.specs.declared.line.Task.{Task}
use Rattle.clover_rule.specs.Learned.{rest_of}
use Rattle.clover_rule.specs.declared.access.Access.{Access}
use Rattle.clover_rule.specs.declared.access.Act.{Act}
use Rattle.clover_rule.specs.declared.access.Actor.{Actor}
use Rattle.clover_rule.specs.declared.access.Actor.TheVariants.{Client}
use Rattle.clover_event.specs.declared.event.Event.{Event}
use Rattle.clover_event.specs.declared.event.Event.TheVariants.{Begin, Step, Refuse}
use Rattle.clover_run.specs.declared.event.Note.{Note}
use Rattle.clover_run.specs.declared.event.Note.TheVariants.{Quiet, Waits, Granted}
use Rattle.clover_event.specs.Folds.{words_by, made_by, actor_of}
use Rattle.clover_run.specs.Record.{Record}
use Rattle.clover_run.specs.declared.served.Served.{Served}

-- the accesses and the entries of some records, in order
abbrev pub accesses_in : List Record → List Access
accesses_in [] = []
accesses_in (r ∷ rs) = option_to_list r.access ++ accesses_in rs

abbrev pub entries_in : List Record → List Entry
entries_in [] = []
entries_in (r ∷ rs) = option_to_list r.entry ++ entries_in rs

-- the accesses that are listed, behind those from before the records: with a trace all, and without one none
abbrev pub listed_in : List Access → Bool → List Record → List Access
listed_in before traced rs = if traced then before ++ accesses_in rs else []

-- the words after some records
abbrev pub words_after : Pool → List ℕ → List Record → List ℕ
words_after p ws rs = fold (λ (w : List ℕ) (r : Record). words_by p w r.access) ws rs

-- how many accesses were made, behind so many; a refused one was not
abbrev pub made_after : ℕ → List Record → ℕ
made_after n rs = fold (λ (m : ℕ) (r : Record). made_by m r.access) n rs

-- the server's side behind some records
abbrev pub served_after : Served → List Record → Served
served_after v rs = fold (λ (w : Served) (r : Record). r.served) v rs

-- What an actor has under way and has: its task; of a call the reply from the deciding access on and the call's acts since its last start; whether its next access is refused; how many bindings it knows, which are the first ones of the directory; and the tags of its stock.
pub record Doing : Type 0 where
  pub task : Option Task
  pub decided : Option Reply
  pub since : List Act
  pub refusing : Bool
  pub known : ℕ
  pub stock : List ℕ

abbrev pub nothing : Doing
nothing = record { task = None; decided = None; since = []; refusing = false; known = 0; stock = [] }

-- a note of a step with which the task ends
abbrev pub ends : Note → Bool
ends Quiet = false
ends Waits = false
ends (Granted c names) = false
ends note = true

-- the task is started, and it has ended
abbrev pub started : Doing → Option Task → Doing
started d t = record d { task = t; decided = None; since = [] }

abbrev pub ended_if : Bool → Doing → Doing
ended_if true d = started d None
ended_if false d = d

abbrev pub begun : Doing → Task → Note → Doing
begun d t Quiet = started d (Some t)
begun d t note = d

-- what a grant brings, which leaves its batch on the server's side; the call starts anew
abbrev pub granted : Doing → Served → Note → Doing
granted d w (Granted c names) = record (started d d.task) { known = d.known + names; stock = d.stock ++ map tag_number (tags_of w.batch) }
granted d w note = d

-- the call's entry decides it; a commit takes the first tag of the stock
abbrev pub entered : Doing → Option Entry → Doing
entered d None = d
entered d (Some e) = record d { decided = Some e.reply; stock = if is_commit e.reply then rest_of d.stock else d.stock }

-- an access for the actor: the call's own is one of its acts
abbrev pub acted : Doing → Actor → Access → Doing
acted d (Client n) x = record d { since = d.since ++ x.act ∷ []; refusing = false }
acted d actor x = record d { refusing = false }

abbrev pub accessed : Doing → Option Access → Doing
accessed d None = d
accessed d (Some x) = acted d x.actor x

abbrev pub stepped : Doing → Record → Doing
stepped d r = ended_if (ends r.note) (granted (entered (accessed d r.access) r.entry) r.served r.note)

abbrev pub does : Doing → Record → Event → Doing
does d r (Begin a t) = begun d t r.note
does d r (Step a) = stepped d r
does d r (Refuse a) = record d { refusing = true }

abbrev pub does_of : ℕ → Doing → Record → Doing
does_of a d r = if actor_of r.event == a then does d r r.event else d

abbrev pub doing : ℕ → List Record → Doing
doing a rs = fold (does_of a) nothing rs

-- the bindings that an actor knows
abbrev pub names_of : Served → Doing → List (ℕ × List ℕ)
names_of v d = take d.known v.server.directory.list
