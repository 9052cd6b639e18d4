-- How many steps an actor's task may yet make: a number that each step which does not only wait lowers, so a line that finishes a task ends.
use Prim.Native.Nat.{zero, suc}
use Rattle.std.specs.Prelude.{ℕ, ◌+◌, ◌-◌, ◌*◌, List, [], ◌∷◌, length, Option, Some, None}
use Rattle.clover_words.specs.Tag.{TagParts}
use Rattle.clover_words.specs.declared.pool.Pool.{Pool}
use Rattle.clover_map.specs.declared.call.Call.{Call}
use Rattle.clover_rule.specs.Lists.{nth}
use Rattle.clover_rule.specs.declared.view.View.{View}
use Rattle.clover_plain.specs.Plain.{view_at}
use Rattle.clover_call.specs.declared.under.Underway.{Underway}
use Rattle.clover_call.specs.declared.under.Underway.TheVariants.{Nothing as NoCall}
use Rattle.clover_node.specs.declared.counting.Counting.{Counting}
use Rattle.clover_node.specs.declared.counting.Counting.TheVariants.{No}
use Rattle.clover_server.specs.Left.{work_left}
use Rattle.clover_server.specs.Server.{ServerState}
use Rattle.clover_event.specs.Machine.{most_made}
use Rattle.clover_run.specs.Client.{since_of}
use Rattle.clover_run.specs.Machine.{Parts}
use Rattle.clover_run.specs.Recycling.{cleaning_left}
use Rattle.clover_run.specs.declared.client.ClientState.{ClientState}
use Rattle.clover_run.specs.declared.want.Want.{Want}
use Rattle.clover_run.specs.declared.want.Want.TheVariants.{Nothing}

-- as many steps as a server of this pool may have left that has no task: each buffer may serve each generation, and each slot be bound and swept
abbrev pub most_work : Pool → ℕ
most_work p = 150 * (p.nodes * (p.buffers * p.wear) + p.slots + 1) + p.slots

-- how often a call may yet start anew: each grant brings names, or a stock where there was none
abbrev pub if_empty : List TagParts → ℕ
if_empty [] = 1
if_empty (t ∷ ts) = 0

abbrev pub rounds : ClientState → ℕ
rounds x = 2 * (x.node.caller.pool.slots - length x.node.names) + if_empty x.node.stock

-- more than the steps from one start of a call to the next: a call's own accesses, and then those of the server
abbrev pub round_size : Pool → ℕ
round_size p = most_work p + most_made p + 3

-- the steps that wants of the server may yet take: none of a call that has committed
abbrev pub wants_left : Option Call → ServerState → ClientState → ℕ
wants_left None s x = 0
wants_left (Some call) s x = rounds x * round_size x.node.caller.pool + (work_left s + 2)

-- of a client that rests none
abbrev pub or_none : Counting → Underway → ℕ → ℕ
or_none No NoCall n = 0
or_none c u n = n

abbrev pub left_by : Want → ServerState → ClientState → View → ℕ
left_by Nothing s x v = or_none x.node.counting x.node.caller.under (wants_left x.call s x + (most_made x.node.caller.pool - length (since_of x.node v)))
left_by want s x v = rounds x * round_size x.node.caller.pool + (work_left s + 1)

abbrev pub left_of : Parts → ℕ → Option ClientState → ℕ
left_of m i None = 0
left_of m i (Some x) = left_by x.want m.served.server x (view_at m.pool i)

-- the recycler is actor 0
abbrev pub left : Parts → ℕ → ℕ
left m zero = cleaning_left m.recycler.chore m.served
left m (suc i) = left_of m i (nth m.clients i)
