-- The server's accesses in the records of a run are those that its tasks cost.
use Rattle.std.proofs.Common.{◌≡◌, ◌≢◌, ℕ, ◌+◌, ◌*◌, ◌<◌, ◌≤◌, List, [], ◌∷◌, ◌++◌, Bool, true, false, refl, sym, ap, ◌∙◌, subst, arith, inl, inr, ◌⊎◌, append_assoc, append-nil}
use Rattle.std.specs.Prelude.{nat_lt, if◌then◌else◌, Option, Some, None, IsSome}
use Rattle.std.proofs.lemmas.Bool.Decides.{nat_tests}
use Rattle.clover_words.specs.Tag.{TagParts}
use Rattle.clover_words.specs.declared.pool.Pool.{Pool}
use Rattle.clover_map.specs.declared.call.Call.{Call}
use Rattle.clover_map.specs.declared.call.Call.TheVariants.{Get, Put, Delete, Swap}
use Rattle.clover_script.specs.declared.line.Task.{Task}
use Rattle.clover_script.specs.declared.line.Task.TheVariants.{Client as ClientTask, Recycle, Sweep}
use Rattle.clover_dir.specs.Directory.{Bindings, with_binding}
use Rattle.clover_dir.specs.Task.{UnderWay, IsPlaced, after, key_length, left, made_bind}
use Rattle.clover_dir.specs.declared.stage.Stage.{Stage as BindStage}
use Rattle.clover_dir.specs.declared.stage.Stage.TheVariants as bind
use Rattle.clover_recycle.specs.Recycling.{RecycleState, look_answer, looked, made_task}
use Rattle.clover_recycle.specs.declared.stage.Stage.{Stage}
use Rattle.clover_recycle.specs.declared.stage.Stage.TheVariants.{AtVersion, AtLink, AtRoot, AtFlushedRoot, AtPass, AtFree, Over}
use Rattle.clover_rule.specs.Lists.{IsPrefix}
use Rattle.clover_rule.specs.Memory.{link}
use Rattle.clover_rule.specs.Steps.{act_of}
use Rattle.clover_rule.specs.Words.{next_of}
use Rattle.clover_rule.specs.declared.access.Access.{Access}
use Rattle.clover_rule.specs.declared.access.Act.{Act}
use Rattle.clover_rule.specs.declared.access.Actor.{Actor}
use Rattle.clover_rule.specs.declared.access.Actor.TheVariants.{Client, Server}
use Rattle.clover_server.specs.Going.{server_step, went, answer_of, at_last, directory_on, outcome_of, refused, left_over, recycle_outcome, taken_in, work_on}
use Rattle.clover_server.specs.Looking.{room_of}
use Rattle.clover_server.specs.Server.{ServerState}
use Rattle.clover_server.specs.Steps.{Due, Finishes, Sweeps, Recycles, Binds, Answers, Begins, OnAccess, RecycleStep, FinishStep, all_swept, begun, by_room, ended, ended_if, is_left, named_due, or_finish, own_turn, recycle_due, stock_due, swept, swept_on, want_after}
use Rattle.clover_server.specs.declared.due.Room.{Room}
use Rattle.clover_server.specs.declared.due.Room.TheVariants.{Swept, Full as IsFull, Free as HasFree}
use Rattle.clover_server.specs.declared.outcome.Outcome.{Outcome}
use Rattle.clover_server.specs.declared.outcome.Outcome.TheVariants as outcome
use Rattle.clover_server.specs.declared.turn.ServerTurn.{ServerTurn}
use Rattle.clover_server.specs.declared.turn.ServerTurn.TheVariants.{More, Ready, Unlinked, Recycled, Full, NoSlot, Unreached}
use Rattle.clover_server.specs.declared.work.Unfinished.{Unfinished}
use Rattle.clover_server.specs.declared.work.Work.{Work}
use Rattle.clover_server.specs.declared.work.Work.TheVariants.{Binding, Recycling}
use Rattle.clover_event.specs.declared.event.Event.{Event}
use Rattle.clover_event.specs.declared.event.Event.TheVariants.{Begin, Step, Refuse}
use Rattle.clover_run.specs.Cleaning.{Cleans, CleansOrEnds, IsCleaned, cleaned, slot_due}
use Rattle.clover_run.specs.Folds.{Doing, served_after}
use Rattle.clover_run.specs.Record.{Record}
use Rattle.clover_run.specs.Run.{Opening, Standing, IsRun, GoesOn, Follows, Fits, IsOwn, IsStepFor, IsStepOf, Still, standing, want_in, begin_served, cleared}
use Rattle.clover_run.specs.Served.{held, let_go, is_elsewhere}
use Rattle.clover_run.specs.Serving.{IsServed, Leaves, Makes, Fails, Goes, Clears, Serves, Binds as BindsKey, Waiting, telling}
use Rattle.clover_run.specs.declared.event.Note.{Note}
use Rattle.clover_run.specs.declared.event.Note.TheVariants.{Quiet}
use Rattle.clover_run.specs.declared.recycler.Chore.{Chore}
use Rattle.clover_run.specs.declared.recycler.Chore.TheVariants.{OfSlot, OfAll}
use Rattle.clover_run.specs.declared.served.Served.{Served}
use Rattle.clover_run.specs.declared.want.Want.{Want}
use Rattle.clover_run.specs.declared.want.Want.TheVariants.{Nothing, Stock, Names}
use Rattle.clover_run.proofs.Pasts.{served_more}
use Rattle.clover_run.specs.Owed.{rest_of, binding_begun, server_act, servers_act, if_there, shown, if_linked, if_unlinked, served_in, recyclings_in, unlinked_in, bindings_in, rest_behind, IsPaid, AllPaid}

below : (a b : ℕ) → nat_lt a b ≡ true → a < b
below a b e = grind (arith, nat_tests)

past : (a b : ℕ) → nat_lt a b ≡ false → b ≤ a
past a b e = grind (arith, nat_tests)

-- a task that has accesses to make
abbrev pub WorkGoes : Work → Type 0
WorkGoes (Binding own c) = (c.stage ≢ bind.Over) × IsPlaced (key_length c.key) c.stage
WorkGoes (Recycling slot c) = c.stage ≢ Over

-- the unfinished task has
abbrev pub TaskGoes : Option Unfinished → Type 0
TaskGoes None = Unit {0}
TaskGoes (Some u) = WorkGoes u.work

-- what an act of the server leaves of its task, and what it began
abbrev Pays : (before : ℕ) → Option Act → (after : Option Unfinished) → Type 0
Pays before act after = (if_there act + rest_of after ≡ before + 6 * if_linked (shown act) + if_unlinked (shown act)) × TaskGoes after

-- an access of a binding
some_words : (key : List ℕ) → 0 < key_length key
some_words key = omega arith

abbrev BindPays : (b : ServerState) (left : Bool) (own : TagParts) (c : UnderWay) → BindStage → ℕ → Type 0
BindPays b is own c at x =
    let s : ServerState = record b { task = Some (record { work = Binding own (record c { stage = at }); left = is }) } in
    Pays (rest_of s.task) (Some (act_of (server_step s) x)) (went s x).task

binding_pays : (b : ServerState) (is : Bool) (own : TagParts) (c : UnderWay) (at : BindStage) (x : ℕ) → at ≢ bind.Over → IsPlaced (key_length c.key) at → BindPays b is own c at x
binding_pays b is own c bind.Tombstone x goes place = (omega arith, ((λ e. cc), tt))
binding_pays b is own c bind.FlushedTombstone x goes place = ((let k = some_words c.key in omega arith), ((λ e. cc), some_words c.key))
binding_pays b is own c (bind.Key j) x goes place = by (nat_lt (j + 1) (key_length c.key)) refl
  where
    by : (t : Bool) → nat_lt (j + 1) (key_length c.key) ≡ t
        → Pays (left (key_length c.key) (bind.Key j)) (Some (act_of (server_step (record b { task = Some (record { work = Binding own (record c { stage = bind.Key j }); left = is }) })) x)) (Some (record { work = Binding own (record c { stage = if t then bind.Key (j + 1) else bind.FlushedKey 0 }); left = is }))
    by true e = let l = below (j + 1) (key_length c.key) e in (omega arith, ((λ q. cc), l))
    by false e = let l = past (j + 1) (key_length c.key) e in (omega arith, ((λ q. cc), some_words c.key))
binding_pays b is own c (bind.FlushedKey j) x goes place = by (nat_lt (j + 1) (key_length c.key)) refl
  where
    by : (t : Bool) → nat_lt (j + 1) (key_length c.key) ≡ t
        → Pays (left (key_length c.key) (bind.FlushedKey j)) (Some (act_of (server_step (record b { task = Some (record { work = Binding own (record c { stage = bind.FlushedKey j }); left = is }) })) x)) (Some (record { work = Binding own (record c { stage = if t then bind.FlushedKey (j + 1) else bind.Root }); left = is }))
    by true e = let l = below (j + 1) (key_length c.key) e in (omega arith, ((λ q. cc), l))
    by false e = let l = past (j + 1) (key_length c.key) e in (omega arith, ((λ q. cc), tt))
binding_pays b is own c bind.Root x goes place = (omega arith, ((λ e. cc), tt))
binding_pays b is own c bind.FlushedRoot x goes place = (omega arith, ((λ e. cc), tt))
binding_pays b is own c bind.Count x goes place = (omega arith, tt)
binding_pays b is own c bind.Over x goes place = absurd (goes refl)

-- an access of a recycling: its load tells what it is to cost
abbrev RecyclePays : (b : ServerState) (left : Bool) (slot : ℕ) (c : RecycleState) → Stage → ℕ → Type 0
RecyclePays b is slot c at x =
    let s : ServerState = record b { task = Some (record { work = Recycling slot (record c { stage = at }); left = is }) } in
    Pays (rest_of s.task) (Some (act_of (server_step s) x)) (went s x).task

recycling_pays : (b : ServerState) (is : Bool) (slot : ℕ) (c : RecycleState) (at : Stage) (x : ℕ) → at ≢ Over → RecyclePays b is slot c at x
recycling_pays b is slot c AtVersion x goes = by (link (next_of x))
  where
    by : (o : Option ℕ) → (1 + rest_of (taken_in (record b { task = Some (record { work = Recycling slot (looked (record c { stage = AtVersion }) o); left = is }) }) (recycle_outcome slot (look_answer o))).task ≡ 0 + 6 * if_linked (Some o) + if_unlinked (Some o))
        × TaskGoes (taken_in (record b { task = Some (record { work = Recycling slot (looked (record c { stage = AtVersion }) o); left = is }) }) (recycle_outcome slot (look_answer o))).task
    by None = (omega arith, tt)
    by (Some t) = (omega arith, λ e. cc)
recycling_pays b is slot c (AtLink t) x goes = (omega arith, λ e. cc)
recycling_pays b is slot c (AtRoot t) x goes = (omega arith, λ e. cc)
recycling_pays b is slot c (AtFlushedRoot t) x goes = (omega arith, λ e. cc)
recycling_pays b is slot c (AtPass t) x goes = (omega arith, λ e. cc)
recycling_pays b is slot c (AtFree t) x goes = (omega arith, tt)
recycling_pays b is slot c Over x goes = absurd (goes refl)

-- an access of any task
abbrev ServerPays : ServerState → ℕ → Type 0
ServerPays s x = Pays (rest_of s.task) (Some (act_of (server_step s) x)) (went s x).task

work_pays : (b : ServerState) (is : Bool) (work : Work) (x : ℕ) → WorkGoes work → ServerPays (record b { task = Some (record { work = work; left = is }) }) x
work_pays b is (Binding own c) x goes = binding_pays b is own c c.stage x goes.0 goes.1
work_pays b is (Recycling slot c) x goes = recycling_pays b is slot c c.stage x goes

server_pays : (b : ServerState) (u : Unfinished) → b.task ≡ Some u → WorkGoes u.work → (x : ℕ) → ServerPays b x
server_pays b u e goes x = subst (λ (z : ServerState). ServerPays z x) (sym (ap (λ (t : Option Unfinished). record b { task = t }) e)) (work_pays b u.left u.work x goes)

-- what a record owes: its access is one of the server or none, and leaves the server so
pub record StepPays (s n : ServerState) (o : Option Access) : Type 0 where
  pays : if_there (server_act o) + rest_of n.task ≡ rest_of s.task + binding_begun s.task n.task + 6 * if_linked (shown (server_act o)) + if_unlinked (shown (server_act o))
  pub goes : TaskGoes n.task
  pub grows : IsPrefix s.directory.list n.directory.list

-- one server has the task and the bindings of the other
abbrev Like : ServerState → ServerState → Type 0
Like m n = (m.task ≡ n.task) × (m.directory.list ≡ n.directory.list)

like : (m n : ServerState) → m ≡ n → Like m n
like m n e = (ap (λ (z : ServerState). z.task) e, ap (λ (z : ServerState). z.directory.list) e)

then_like : (l m n : ServerState) → Like l m → Like m n → Like l n
then_like l m n a b = (a.0 ∙ b.0, a.1 ∙ b.1)

prefix_of : (xs ys : List (ℕ × List ℕ)) → xs ≡ ys → IsPrefix ys xs
prefix_of xs ys e = ([], e ∙ sym (append-nil ys))

none_begun : (t : Option Unfinished) → binding_begun t t ≡ 0
none_begun None = refl
none_begun (Some u) = refl

-- a record that leaves the task and has no access of the server that was made
stays : (s n : ServerState) (o : Option Access) → server_act o ≡ None → Like n s → TaskGoes s.task → StepPays s n o
stays s n o none same goes = record {
  pays =
      subst (λ (a : Option Act). if_there a + rest_of n.task ≡ rest_of s.task + binding_begun s.task n.task + 6 * if_linked (shown a) + if_unlinked (shown a)) (sym none)
      (subst (λ (t : Option Unfinished). 0 + rest_of t ≡ rest_of s.task + binding_begun s.task t + 6 * 0 + 0) (sym same.0) (let k = none_begun s.task in omega arith));
  goes = subst TaskGoes (sym same.0) goes;
  grows = prefix_of n.directory.list s.directory.list same.1;
}

-- how a step of the server begins: it goes on with a task, or begins a recycling or a binding where there is none
data Kind (s b : ServerState) : Type 0 where
  Same : (u : Unfinished) → s.task ≡ Some u → b ≡ s → Kind s b
  Reads : (slot : ℕ) (root : TagParts) → s.task ≡ None → b.task ≡ begun (Recycling slot (made_task slot root)) → b.directory.list ≡ s.directory.list → Kind s b
  Named : (slot : ℕ) (key : List ℕ) (own : TagParts) → s.task ≡ None → b.task ≡ begun (Binding own (made_bind slot key own)) → b.directory.list ≡ s.directory.list → Kind s b

kind_list : (s b : ServerState) → Kind s b → b.directory.list ≡ s.directory.list
kind_list s b (Same u has same) = ap (λ (z : ServerState). z.directory.list) same
kind_list s b (Reads slot root none is list) = list
kind_list s b (Named slot key own none is list) = list

-- an access leaves the bindings, or adds one
taken_list : (s : ServerState) (out : Outcome) → (taken_in s out).directory.list ≡ s.directory.list
taken_list s outcome.Going = refl
taken_list s outcome.Unlinked = refl
taken_list s (outcome.Recycled slot old root) = refl
taken_list s (outcome.Bound own) = refl
taken_list s outcome.Unreached = refl

bound_list : (d : Bindings) (slot : ℕ) (key : List ℕ) (own : TagParts) (at : BindStage) → IsPrefix d.list (at_last at (with_binding d slot key own) d).list
bound_list d slot key own bind.Tombstone = prefix_of d.list d.list refl
bound_list d slot key own bind.FlushedTombstone = prefix_of d.list d.list refl
bound_list d slot key own (bind.Key j) = prefix_of d.list d.list refl
bound_list d slot key own (bind.FlushedKey j) = prefix_of d.list d.list refl
bound_list d slot key own bind.Root = prefix_of d.list d.list refl
bound_list d slot key own bind.FlushedRoot = prefix_of d.list d.list refl
bound_list d slot key own bind.Count = ((slot, key) ∷ [], refl)
bound_list d slot key own bind.Over = prefix_of d.list d.list refl

work_list : (d : Bindings) (work : Work) → IsPrefix d.list (directory_on d work).list
work_list d (Binding own c) = bound_list d c.slot c.key c.own c.stage
work_list d (Recycling slot c) = prefix_of d.list d.list refl

went_list : (b : ServerState) (t : Option Unfinished) (x : ℕ) → IsPrefix b.directory.list (went (record b { task = t }) x).directory.list
went_list b None x = prefix_of b.directory.list b.directory.list refl
went_list b (Some u) x = subst (IsPrefix b.directory.list) (sym (taken_list (record b { directory = directory_on b.directory u.work; task = Some (record u { work = work_on u.work x }) }) (outcome_of u.work x))) (work_list b.directory u.work)

abbrev made_access : ServerState → ℕ → Access
made_access b x = record { actor = Server; act = act_of (server_step b) x; refused = false }

-- the server as it is behind a task of this kind, where the task is as it is there
abbrev Owes : ServerState → ServerState → ℕ → Option Unfinished → Type 0
Owes s b x t = (if_there (server_act (Some (made_access b x))) + rest_of t ≡ rest_of s.task + binding_begun s.task t + 6 * if_linked (shown (server_act (Some (made_access b x)))) + if_unlinked (shown (server_act (Some (made_access b x))))) × TaskGoes t

begins_none : (t : Option Unfinished) (u : Unfinished) → binding_begun (Some u) t ≡ 0
begins_none None u = refl
begins_none (Some v) u = refl

owes : (s b : ServerState) (x : ℕ) → Kind s b → TaskGoes s.task → Owes s b x (went b x).task
owes s b x (Same u has same) goes =
    let p = server_pays s u has (subst TaskGoes has goes) x in
    subst (λ (z : ServerState). Owes s z x (went z x).task) (sym same)
    ((let q : binding_begun s.task (went s x).task ≡ 0 = subst (λ (t : Option Unfinished). binding_begun t (went s x).task ≡ 0) (sym has) (begins_none (went s x).task u) in let k = p.0 in omega arith), p.1)
owes s b x (Reads slot root none is list) goes =
    subst (λ (t : Option Unfinished). (1 + rest_of (went b x).task ≡ rest_of t + binding_begun t (went b x).task + 6 * if_linked (shown (Some (act_of (server_step b) x))) + if_unlinked (shown (Some (act_of (server_step b) x)))) × TaskGoes (went b x).task) (sym none)
    (subst (λ (z : ServerState). (1 + rest_of (went z x).task ≡ 0 + binding_begun None (went z x).task + 6 * if_linked (shown (Some (act_of (server_step z) x))) + if_unlinked (shown (Some (act_of (server_step z) x)))) × TaskGoes (went z x).task) (sym (ap (λ (t : Option Unfinished). record b { task = t }) is))
    (by (link (next_of x))))
  where
    by : (o : Option ℕ) → (1 + rest_of (taken_in (record b { task = Some (record { work = Recycling slot (looked (made_task slot root) o); left = false }) }) (recycle_outcome slot (look_answer o))).task ≡ 0 + binding_begun None (taken_in (record b { task = Some (record { work = Recycling slot (looked (made_task slot root) o); left = false }) }) (recycle_outcome slot (look_answer o))).task + 6 * if_linked (Some o) + if_unlinked (Some o))
        × TaskGoes (taken_in (record b { task = Some (record { work = Recycling slot (looked (made_task slot root) o); left = false }) }) (recycle_outcome slot (look_answer o))).task
    by None = (omega arith, tt)
    by (Some t) = (omega arith, λ e. cc)
owes s b x (Named slot key own none is list) goes =
    subst (λ (t : Option Unfinished). (1 + rest_of (went b x).task ≡ rest_of t + binding_begun t (went b x).task + 6 * if_linked (shown (Some (act_of (server_step b) x))) + if_unlinked (shown (Some (act_of (server_step b) x)))) × TaskGoes (went b x).task) (sym none)
    (subst (λ (z : ServerState). (1 + rest_of (went z x).task ≡ 0 + binding_begun None (went z x).task + 6 * if_linked (shown (Some (act_of (server_step z) x))) + if_unlinked (shown (Some (act_of (server_step z) x)))) × TaskGoes (went z x).task) (sym (ap (λ (t : Option Unfinished). record b { task = t }) is))
    (omega arith, ((λ e. cc), tt)))

-- an access that was made
made_pays : (s b n : ServerState) (o : Option Access) (x : ℕ) → Kind s b → TaskGoes s.task → Makes o (server_step b) x → Like n (went b x) → StepPays s n o
made_pays s b n o x kind goes made same =
    let k : Owes s b x n.task = subst (Owes s b x) (sym same.0) (owes s b x kind goes) in
    record {
      pays = subst (λ (z : Option Access). if_there (server_act z) + rest_of n.task ≡ rest_of s.task + binding_begun s.task n.task + 6 * if_linked (shown (server_act z)) + if_unlinked (shown (server_act z))) (sym made) k.0;
      goes = k.1;
      grows = subst (λ (l : List (ℕ × List ℕ)). IsPrefix l n.directory.list) (kind_list s b kind) (subst (IsPrefix b.directory.list) (sym same.1) (went_list b b.task x));
    }

-- and one that was refused, which leaves the task to a later call
abbrev OwesNone : ServerState → Option Unfinished → Type 0
OwesNone s t = (0 + rest_of t ≡ rest_of s.task + binding_begun s.task t + 6 * 0 + 0) × TaskGoes t

failed_owes : (s b : ServerState) → Kind s b → TaskGoes s.task → OwesNone s (refused b).task
failed_owes s b (Same u has same) goes =
    subst (λ (z : ServerState). OwesNone s (refused z).task) (sym same)
    (subst (λ (t : Option Unfinished). (0 + rest_of (left_over t) ≡ rest_of t + binding_begun t (left_over t) + 6 * 0 + 0) × TaskGoes (left_over t)) (sym has) (omega arith, subst TaskGoes has goes))
failed_owes s b (Reads slot root none is list) goes =
    subst (λ (t : Option Unfinished). (0 + rest_of (left_over b.task) ≡ rest_of t + binding_begun t (left_over b.task) + 6 * 0 + 0) × TaskGoes (left_over b.task)) (sym none)
    (subst (λ (t : Option Unfinished). (0 + rest_of (left_over t) ≡ 0 + binding_begun None (left_over t) + 6 * 0 + 0) × TaskGoes (left_over t)) (sym is) (omega arith, λ e. cc))
failed_owes s b (Named slot key own none is list) goes =
    subst (λ (t : Option Unfinished). (0 + rest_of (left_over b.task) ≡ rest_of t + binding_begun t (left_over b.task) + 6 * 0 + 0) × TaskGoes (left_over b.task)) (sym none)
    (subst (λ (t : Option Unfinished). (0 + rest_of (left_over t) ≡ 0 + binding_begun None (left_over t) + 6 * 0 + 0) × TaskGoes (left_over t)) (sym is) (omega arith, ((λ e. cc), tt)))

failed_pays : (s b n : ServerState) (o : Option Access) → Kind s b → TaskGoes s.task → Fails o → Like n (refused b) → StepPays s n o
failed_pays s b n o kind goes failed same =
    let k : OwesNone s n.task = subst (OwesNone s) (sym same.0) (failed_owes s b kind goes) in
    record {
      pays = subst (λ (z : Option Access). if_there (server_act z) + rest_of n.task ≡ rest_of s.task + binding_begun s.task n.task + 6 * if_linked (shown (server_act z)) + if_unlinked (shown (server_act z))) (sym failed.1) k.0;
      goes = k.1;
      grows = prefix_of n.directory.list s.directory.list (same.1 ∙ kind_list s b kind);
    }

-- an access was made or refused
made_or_refused : (r : ServerTurn) (made : ℕ → Type 0) (failed : Type 0) → OnAccess r made failed → ((x : ℕ) × made x) ⊎ failed
made_or_refused More made failed h = inl h
made_or_refused Ready made failed h = inl h
made_or_refused Unlinked made failed h = inl h
made_or_refused (Recycled old) made failed h = inl h
made_or_refused (Full bound worn out) made failed h = inl h
made_or_refused NoSlot made failed h = inl h
made_or_refused Unreached made failed h = inr h

-- the sweep of a want leaves the task and the bindings
ended_like : (full : Bool) (s : ServerState) → Like (ended_if full s) s
ended_like true s = (refl, refl)
ended_like false s = (refl, refl)

swept_like : (s : ServerState) (turn : ServerTurn) → Like (swept s turn) s
swept_like s Unlinked = ended_like (all_swept (swept_on s)) (swept_on s)
swept_like s More = (refl, refl)
swept_like s Ready = (refl, refl)
swept_like s (Recycled old) = (refl, refl)
swept_like s (Full bound worn out) = (refl, refl)
swept_like s NoSlot = (refl, refl)
swept_like s Unreached = (refl, refl)

want_like : (due : Due) (s : ServerState) (turn : ServerTurn) → Like (want_after due s turn) s
want_like Finishes s turn = (refl, refl)
want_like (Sweeps slot) s turn = swept_like s turn
want_like (Recycles slot) s turn = (refl, refl)
want_like (Binds slot key) s turn = (refl, refl)
want_like (Answers t) s turn = (refl, refl)

-- what is due goes on with a task where there is one, and begins one where there is none
abbrev DueOf : ServerState → Due → Type 0
DueOf s Finishes = IsSome s.task
DueOf s (Sweeps slot) = s.task ≡ None
DueOf s (Recycles slot) = s.task ≡ None
DueOf s (Binds slot key) = s.task ≡ None
DueOf s (Answers turn) = Unit {0}

some_of : (t : Option Unfinished) → IsSome t → (u : Unfinished) × (t ≡ Some u)
some_of None h = absurd (let q : false ≡ true = h in cc)
some_of (Some u) h = (u, refl)

kind_of : (s b : ServerState) (due : Due) → DueOf s due → Begins s due b → Kind s b
kind_of s b Finishes d h = let u = some_of s.task d in Same u.0 u.1 h
kind_of s b (Sweeps slot) d h = Reads slot h.0 d (ap (λ (z : ServerState). z.task) h.2) (ap (λ (z : ServerState). z.directory.list) h.2)
kind_of s b (Recycles slot) d h = Reads slot h.0 d (ap (λ (z : ServerState). z.task) h.2) (ap (λ (z : ServerState). z.directory.list) h.2)
kind_of s b (Binds slot key) d h = Named slot key h.0 d (ap (λ (z : ServerState). z.task) h.2) (ap (λ (z : ServerState). z.directory.list) h.2)
kind_of s b (Answers turn) d h = absurd h

module _ (s n : ServerState) (r : ServerTurn) (o : Option Access) (goes : TaskGoes s.task) where
  -- a step that begins what is due, and makes its access
  begins_pays : (due : Due) → DueOf s due → (b : ServerState) → Begins s due b
      → ((x : ℕ) × Makes o (server_step b) x × (n ≡ want_after due (went b x) (answer_of b x))) ⊎ (Fails o × (n ≡ ended (refused b))) → StepPays s n o
  begins_pays due d b begin (inl m) = made_pays s b n o m.0 (kind_of s b due d begin) goes m.1 (then_like n (want_after due (went b m.0) (answer_of b m.0)) (went b m.0) (like n (want_after due (went b m.0) (answer_of b m.0)) m.2) (want_like due (went b m.0) (answer_of b m.0)))
  begins_pays due d b begin (inr m) = failed_pays s b n o (kind_of s b due d begin) goes m.0 (like n (ended (refused b)) m.1)

  narrow : (due : Due) (b : ServerState) {T : ℕ → Type 0} → ((x : ℕ) × (Makes o (server_step b) x × (n ≡ want_after due (went b x) (answer_of b x)) × T x)) ⊎ (Fails o × (n ≡ ended (refused b)))
      → ((x : ℕ) × Makes o (server_step b) x × (n ≡ want_after due (went b x) (answer_of b x))) ⊎ (Fails o × (n ≡ ended (refused b)))
  narrow due b (inl m) = inl (m.0, m.1.0, m.1.1)
  narrow due b (inr m) = inr m

  goes_pays : (due : Due) → DueOf s due → Goes due s n r (telling o) → StepPays s n o
  goes_pays (Answers turn) d h = stays s n o (ap server_act h.0) (like n (ended s) h.2) goes
  goes_pays Finishes d h = begins_pays Finishes d h.0 h.1 (narrow Finishes h.0 (made_or_refused r _ _ h.2))
  goes_pays (Sweeps slot) d h = begins_pays (Sweeps slot) d h.0 h.1 (narrow (Sweeps slot) h.0 (made_or_refused r _ _ h.2))
  goes_pays (Recycles slot) d h = begins_pays (Recycles slot) d h.0 h.1 (narrow (Recycles slot) h.0 (made_or_refused r _ _ h.2))
  goes_pays (Binds slot key) d h = begins_pays (Binds slot key) d h.0 h.1 (narrow (Binds slot key) h.0 (made_or_refused r _ _ h.2))

  by_room_due : (room : Room) (due : Due) → s.task ≡ None → DueOf s due → DueOf s (by_room s room due)
  by_room_due (Swept slot) due none d = none
  by_room_due IsFull due none d = tt
  by_room_due HasFree due none d = d

  stock_pays : Goes (stock_due s) s n r (telling o) → StepPays s n o
  stock_pays h = by s.task refl
    where
      by : (t : Option Unfinished) → s.task ≡ t → StepPays s n o
      by None e = goes_pays (by_room s (room_of s s.setup.batch) (Answers Ready)) (by_room_due (room_of s s.setup.batch) (Answers Ready) e tt) (subst (λ (t : Option Unfinished). Goes (or_finish t (by_room s (room_of s s.setup.batch) (Answers Ready))) s n r (telling o)) e h)
      by (Some u) e = goes_pays Finishes (subst IsSome (sym e) refl) (subst (λ (t : Option Unfinished). Goes (or_finish t (by_room s (room_of s s.setup.batch) (Answers Ready))) s n r (telling o)) e h)

  named_of : (key : List ℕ) (found free : Option ℕ) → s.task ≡ None → DueOf s (named_due s key found free)
  named_of key (Some slot) free none = tt
  named_of key None None none = tt
  named_of key None (Some slot) none = by_room_due (room_of s 1) (Binds slot key) none none

  finish_pays : IsSome s.task → FinishStep s n r (Makes o) (Fails o) → StepPays s n o
  finish_pays some h = by (made_or_refused r _ _ h)
    where
      by : ((x : ℕ) × (Makes o (server_step s) x × (n ≡ went s x) × (r ≡ More))) ⊎ (Fails o × (n ≡ refused s)) → StepPays s n o
      by (inl m) = let u = some_of s.task some in made_pays s s n o m.0 (Same u.0 u.1 refl) goes m.1.0 (like n (went s m.0) m.1.1)
      by (inr m) = let u = some_of s.task some in failed_pays s s n o (Same u.0 u.1 refl) goes m.0 (like n (refused s) m.1)

  binds_pays : (t : Option Unfinished) → s.task ≡ t → (key : List ℕ) → BindsKey t key s n r (telling o) → StepPays s n o
  binds_pays None e key h = goes_pays (named_due s key h.0 h.1) (named_of key h.0 h.1 e) h.4
  binds_pays (Some u) e key h = goes_pays Finishes (subst IsSome (sym e) refl) h

  clears_pays : (t : Option Unfinished) → s.task ≡ t → Clears t s n r (telling o) → StepPays s n o
  clears_pays None e h = stays s n o (ap server_act h.2) (like n (ended s) h.1) goes
  clears_pays (Some u) e h = finish_pays (subst IsSome (sym e) refl) h

  serves_pays : (want : Want) (call : Call) → Serves want call s n r (telling o) → StepPays s n o
  serves_pays Nothing call h = absurd h
  serves_pays Stock call h = stock_pays h
  serves_pays Names (Put key value) h = binds_pays s.task refl key h
  serves_pays Names (Get key) h = clears_pays s.task refl h
  serves_pays Names (Delete key) h = clears_pays s.task refl h
  serves_pays Names (Swap key e value) h = clears_pays s.task refl h

  recycle_due_of : (slot : ℕ) (t : Option Unfinished) → s.task ≡ t → DueOf s (or_finish t (Recycles slot))
  recycle_due_of slot None e = e
  recycle_due_of slot (Some u) e = subst IsSome (sym e) refl

  recycles_pays : (slot : ℕ) → RecycleStep (recycle_due s slot) s n r (Makes o) (Fails o) → StepPays s n o
  recycles_pays slot h = by (made_or_refused r _ _ h.2)
    where
      kind : Kind s h.0
      kind = kind_of s h.0 (recycle_due s slot) (recycle_due_of slot s.task refl) h.1

      by : ((x : ℕ) × (Makes o (server_step h.0) x × (n ≡ went h.0 x) × (r ≡ own_turn (is_left s.task) (answer_of h.0 x)))) ⊎ (Fails o × (n ≡ refused h.0)) → StepPays s n o
      by (inl m) = made_pays s h.0 n o m.0 kind goes m.1.0 (like n (went h.0 m.0) m.1.1)
      by (inr m) = failed_pays s h.0 n o kind goes m.0 (like n (refused h.0) m.1)

-- what a record leaves of the server's side
side_like : (v w : Served) → v ≡ w → Like v.server w.server
side_like v w e = like v.server w.server (ap (λ (z : Served). z.server) e)

leaves_like : (a : ℕ) (d : Doing) (want : Want) (v : Served) (n : ServerState) (turn : ServerTurn) (r : Record) → Leaves a d want v n turn r → Like r.served.server n
leaves_like a d want v n More r h = side_like r.served (held a n v) h.1
leaves_like a d want v n Ready r h = (ap (λ (w : Served). w.server.task) h.served, ap (λ (w : Served). w.server.directory.list) h.served)
leaves_like a d want v n (Full bound worn out) r h = side_like r.served (let_go n v) h.1
leaves_like a d want v n NoSlot r h = side_like r.served (let_go n v) h.1
leaves_like a d want v n Unreached r h = side_like r.served (let_go n v) h.1
leaves_like a d want v n Unlinked r h = absurd h
leaves_like a d want v n (Recycled old) r h = absurd h

moved_pays : (s n m : ServerState) (o : Option Access) → Like m n → StepPays s n o → StepPays s m o
moved_pays s n m o e h = record {
  pays = subst (λ (t : Option Unfinished). if_there (server_act o) + rest_of t ≡ rest_of s.task + binding_begun s.task t + 6 * if_linked (shown (server_act o)) + if_unlinked (shown (server_act o))) (sym e.0) h.pays;
  goes = subst TaskGoes (sym e.0) h.goes;
  grows = subst (IsPrefix s.directory.list) (sym e.1) h.grows;
}

module _ (p : Pool) (st : Standing) (r : Record) (goes : TaskGoes st.served.server.task) where
  abbrev s_of : ServerState
  s_of = st.served.server

  abbrev Paid : Type 0
  Paid = StepPays s_of r.served.server r.access

  still_pays : (note : Note) → Still st.served r note → Paid
  still_pays note h = stays s_of r.served.server r.access (ap server_act h.access) (side_like r.served st.served h.served) goes

  waiting_pays : Waiting st.served r → Paid
  waiting_pays h = stays s_of r.served.server r.access (ap server_act h.access) (side_like r.served st.served h.served) goes

  own_pays : (call : Call) → IsOwn p st call r → Paid
  own_pays call h = stays s_of r.served.server r.access (ap server_act h.own.is ∙ (let q : h.access.actor ≡ Client st.actor = h.own.actor in ap (λ (a : Actor). servers_act a h.access.refused h.access.act) q)) (side_like r.served st.served h.own.served) goes

  served_pays : (want : Want) (call : Call) → IsServed st.actor st.does want call st.served r → Paid
  served_pays want call h = by (is_elsewhere st.served.holder st.actor) refl
    where
      by : (b : Bool) → is_elsewhere st.served.holder st.actor ≡ b → Paid
      by true e = waiting_pays (h.waits e)
      by false e =
          let k = h.serves e in
          moved_pays s_of k.server r.served.server r.access (leaves_like st.actor st.does want st.served k.server k.turn r k.leaves) (serves_pays s_of k.server k.turn r.access goes want call k.serves)

  for_pays : (call : Call) (want : Want) → IsStepFor p st call want r → Paid
  for_pays call Nothing h = own_pays call h
  for_pays call Stock h = served_pays Stock call h
  for_pays call Names h = served_pays Names call h

  cleaning_pays : (chore : Chore) (slot : Option ℕ) → slot_due chore st.served ≡ slot → (t : Option Unfinished) → s_of.task ≡ t → CleansOrEnds chore slot t st.served r → Paid
  cleaning_pays chore None q None e h = stays s_of r.served.server r.access (ap server_act h.access) (side_like r.served st.served h.served) goes
  cleaning_pays chore None q (Some u) e h = moved_pays s_of h.server r.served.server r.access (side_like r.served (cleaned chore st.served h.server h.turn) h.served)
      (finish_pays s_of h.server h.turn r.access goes (subst IsSome (sym e) refl) (subst (λ (k : Option ℕ). Cleans k s_of h.server h.turn (telling r.access)) q h.cleans))
  cleaning_pays chore (Some slot) q t e h = moved_pays s_of h.server r.served.server r.access (side_like r.served (cleaned chore st.served h.server h.turn) h.served)
      (recycles_pays s_of h.server h.turn r.access goes slot (subst (λ (k : Option ℕ). Cleans k s_of h.server h.turn (telling r.access)) q h.cleans))

  cleaned_pays : (chore : Chore) → IsCleaned chore st.served r → Paid
  cleaned_pays chore h = by (is_elsewhere st.served.holder 0) refl
    where
      by : (b : Bool) → is_elsewhere st.served.holder 0 ≡ b → Paid
      by true e = waiting_pays (h.waits e)
      by false e = cleaning_pays chore (slot_due chore st.served) refl s_of.task refl (h.cleans e)

  step_pays : (task : Option Task) → IsStepOf p st task r → Paid
  step_pays None h = still_pays Quiet h
  step_pays (Some (ClientTask call written)) h = for_pays call (want_in st call) h
  step_pays (Some (Recycle slot)) h = cleaned_pays (OfSlot slot) h
  step_pays (Some Sweep) h = cleaned_pays OfAll h

cleared_like : (v : Served) (note : Note) → Like (cleared v note).server v.server
cleared_like v Quiet = (refl, refl)
cleared_like v note = (refl, refl)

begin_like : (t : Task) (note : Note) (v : Served) → Like (begin_served t note v).server v.server
begin_like (ClientTask c written) note v = (refl, refl)
begin_like (Recycle slot) note v = cleared_like v note
begin_like Sweep note v = cleared_like v note

-- each record that follows pays
pub follows_pays : (o : Opening) (before : List Record) (r : Record) → TaskGoes (served_after o.served before).server.task → Follows o before r → StepPays (served_after o.served before).server r.served.server r.access
follows_pays o before r goes h = by r.event h
  where
    by : (e : Event) → Fits o before r e → StepPays (served_after o.served before).server r.served.server r.access
    by (Begin a t) k = stays (served_after o.served before).server r.served.server r.access (ap server_act k.access) (then_like r.served.server (begin_served t r.note (served_after o.served before)).server (served_after o.served before).server (side_like r.served (begin_served t r.note (served_after o.served before)) k.served) (begin_like t r.note (served_after o.served before))) goes
    by (Step a) k = step_pays o.setup.pool (standing o a before) r goes (standing o a before).does.task k.is
    by (Refuse a) k = still_pays o.setup.pool (standing o a before) r goes Quiet k

-- and so do some in a row
sums : (i l u b mid before end bb ii ll uu : ℕ) → i + mid ≡ before + b + 6 * l + u → ii + end ≡ mid + bb + 6 * ll + uu → (i + ii) + end ≡ before + (b + bb) + 6 * (l + ll) + (u + uu)
sums i l u b mid before end bb ii ll uu e f = omega arith

module _ (o : Opening) where
  pub record PaidOn (before steps : List Record) : Type 0 where
    pub paid : IsPaid o before steps
    pub goes : TaskGoes (served_after o.served (before ++ steps)).server.task

  pub pays_on : (before steps : List Record) → TaskGoes (served_after o.served before).server.task → GoesOn o before steps → PaidOn before steps
  pays_on before [] goes run = record {
    paid = (let e : rest_behind o (before ++ []) ≡ rest_behind o before = ap (rest_behind o) (append-nil before) in omega arith);
    goes = subst (λ (l : List Record). TaskGoes (served_after o.served l).server.task) (sym (append-nil before)) goes;
  }
  pays_on before (r ∷ rs) goes run =
      let here = follows_pays o before r goes run.0 in
      let side : served_after o.served (before ++ r ∷ []) ≡ r.served = served_more o.served before r in
      let later = pays_on (before ++ r ∷ []) rs (subst (λ (w : Served). TaskGoes w.server.task) (sym side) here.goes) run.1 in
      let there : (before ++ r ∷ []) ++ rs ≡ before ++ r ∷ rs = append_assoc before (r ∷ []) rs in
      let paid = subst (λ (l : List Record). served_in rs + rest_behind o l ≡ rest_behind o (before ++ r ∷ []) + bindings_in (served_after o.served (before ++ r ∷ [])) rs + 6 * recyclings_in rs + unlinked_in rs) there later.paid in
      let paid1 = subst (λ (w : Served). served_in rs + rest_behind o (before ++ r ∷ rs) ≡ rest_of w.server.task + bindings_in w rs + 6 * recyclings_in rs + unlinked_in rs) side paid in
      record {
        paid = sums (if_there (server_act r.access)) (if_linked (shown (server_act r.access))) (if_unlinked (shown (server_act r.access))) (binding_begun (served_after o.served before).server.task r.served.server.task) (rest_of r.served.server.task) (rest_behind o before) (rest_behind o (before ++ r ∷ rs)) (bindings_in r.served rs) (served_in rs) (recyclings_in rs) (unlinked_in rs) here.pays paid1;
        goes = subst (λ (l : List Record). TaskGoes (served_after o.served l).server.task) there later.goes;
      }

  -- a run goes on behind its beginning
  pub goes_behind : (at before rest : List Record) → GoesOn o at (before ++ rest) → GoesOn o at before × GoesOn o (at ++ before) rest
  goes_behind at [] rest g = (tt, subst (λ (l : List Record). GoesOn o l rest) (sym (append-nil at)) g)
  goes_behind at (r ∷ rs) rest g =
      let h = goes_behind (at ++ r ∷ []) rs rest g.1 in
      ((g.0, h.0), subst (λ (l : List Record). GoesOn o l rest) (append_assoc at (r ∷ []) rs) h.1)

-- from an opening without an unfinished task
pub all_paid : (o : Opening) (rs : List Record) → o.served.server.task ≡ None → IsRun o rs → AllPaid o rs
all_paid o rs none run before steps after whole =
    let all = subst (GoesOn o []) whole run in
    let front = goes_behind o [] before (steps ++ after) all in
    let first = pays_on o [] before (subst TaskGoes (sym none) tt) front.0 in
    let here = goes_behind o before steps after front.1 in
    (pays_on o before steps first.goes here.0).paid
