-- A step of the server for a client that wants something, and the calls that run alone: it is no own access of a client, and a grant starts a call anew.
use Prim.Native.Nat.{suc}
use Rattle.std.proofs.Common.{◌≡◌, ◌⊎◌, ℕ, List, [], ◌∷◌, ◌++◌, map, Bool, true, false, refl, sym, ap, ◌∙◌, subst, arith, inl, inr}
use Rattle.std.specs.Prelude.{Option, Some, None}
use Rattle.clover_alloc.specs.Batch.{tags_of}
use Rattle.clover_words.specs.Tag.{tag_number}
use Rattle.clover_map.specs.History.{key_of}
use Rattle.clover_map.specs.declared.call.Call.{Call}
use Rattle.clover_map.specs.declared.call.Call.TheVariants.{Get, Put, Delete, Swap}
use Rattle.clover_map.specs.declared.call.Entry.{Entry}
use Rattle.clover_rule.specs.Lists.{nth, Within}
use Rattle.clover_rule.specs.Steps.{Step as Due, act_of}
use Rattle.clover_rule.specs.declared.access.Access.{Access}
use Rattle.clover_rule.specs.declared.access.Actor.TheVariants.{Client, Server}
use Rattle.clover_plain.specs.Plain.{Plain, Running, view_at}
use Rattle.clover_cache.specs.Node.{cursor_at}
use Rattle.clover_walk.specs.Standing.{number_of}
use Rattle.clover_server.specs.Server.{ServerState}
use Rattle.clover_server.specs.Going.{server_step}
use Rattle.clover_server.specs.Steps.{Due as WantDue, Finishes, WantStep, named_due, stock_due}
use Rattle.clover_server.specs.declared.work.Unfinished.{Unfinished}
use Rattle.clover_server.specs.declared.turn.ServerTurn.{ServerTurn}
use Rattle.clover_server.proofs.Repeating.{access_leaves, want_leaves}
use Rattle.clover_node.specs.Beginning.{NodeStarts, Refuses}
use Rattle.clover_node.specs.declared.answer.NodeRefusal.TheVariants.{NeedsStock}
use Rattle.clover_node.specs.Node.{NodeState}
use Rattle.clover_event.specs.Ends.{MayBegin}
use Rattle.clover_event.specs.declared.event.Event.TheVariants.{Step}
use Rattle.clover_run.specs.Alone.{Starts, IsOwnStep}
use Rattle.clover_run.specs.Client.{Wants, IsOf, Matches, Stands, Started, call_at, granted_to, step_record}
use Rattle.clover_run.specs.Folds.{Doing, ends, ended_if, granted, entered, accessed, stepped}
use Rattle.clover_run.specs.Record.{Record}
use Rattle.clover_run.specs.Run.{Opening, Standing, standing}
use Rattle.clover_run.specs.Served.{is_elsewhere}
use Rattle.clover_run.specs.Serving.{Binds, Clears, Fails, IsServed, Makes, Serves, telling}
use Rattle.clover_run.specs.SoFar.{AloneSoFar}
use Rattle.clover_run.specs.Working.{Regards, WasServed}
use Rattle.clover_run.specs.declared.client.ClientState.{ClientState}
use Rattle.clover_run.specs.declared.event.Note.{Note}
use Rattle.clover_run.specs.declared.event.Note.TheVariants.{Quiet, Waits, Answered, Refused, Full, NoSlot, Granted, Recycled, Unlinked, Unbound, Swept, Unreached, Busy, Missing}
use Rattle.clover_run.specs.declared.served.Served.{Served}
use Rattle.clover_run.specs.declared.want.Want.{Want}
use Rattle.clover_run.specs.declared.want.Want.TheVariants.{Nothing, Stock, Names}
use Rattle.clover_run.proofs.Alone.{alone_aside, alone_begins}
use Rattle.clover_run.proofs.Started.{behind_alone}
use Rattle.clover_run.proofs.Stepped.{entered_task, accessed_task}

-- the access, if there is one, is the server's
abbrev pub IsServers : Option Access → Type 0
IsServers o = (x : Access) → o ≡ Some x → x.actor ≡ Server

pub makes_servers : (o : Option Access) (step : Due) (n : ℕ) → Makes o step n → IsServers o
makes_servers o step n h x e = let q : Some x ≡ Some (record { actor = Server; act = act_of step n; refused = false }) = sym e ∙ h in let k : x ≡ record { actor = Server; act = act_of step n; refused = false } = cc in ap (λ (a : Access). a.actor) k

pub fails_servers : (o : Option Access) → Fails o → IsServers o
fails_servers o h x e = let q : Some x ≡ Some (record { actor = Server; act = h.0; refused = true }) = sym e ∙ h.1 in let k : x ≡ record { actor = Server; act = h.0; refused = true } = cc in ap (λ (a : Access). a.actor) k

pub still_servers : (o : Option Access) → o ≡ None → IsServers o
still_servers o h x e = absurd (let q : Some x ≡ None = sym e ∙ h in cc)

module _ (s n : ServerState) (r : ServerTurn) (o : Option Access) where
  want_servers : (due : WantDue) → WantStep due s n r (Makes o) (Fails o) (o ≡ None) → IsServers o
  want_servers due t = want_leaves s n r (Makes o) (Fails o) (o ≡ None) due t (λ b x m. makes_servers o (server_step b) x m) (λ f. fails_servers o f) (λ e. still_servers o e)

  binds_servers : (u : Option Unfinished) (key : List ℕ) → Binds u key s n r (telling o) → IsServers o
  binds_servers None key h = want_servers (named_due s key h.0 h.1) h.4
  binds_servers (Some u) key h = want_servers Finishes h

  clears_servers : (u : Option Unfinished) → Clears u s n r (telling o) → IsServers o
  clears_servers None h = still_servers o h.2
  clears_servers (Some u) h = access_leaves r _ _ h (λ x m. makes_servers o (server_step s) x m.0) (λ m. fails_servers o m.0)

  serves_servers : (want : Want) (call : Call) → Serves want call s n r (telling o) → IsServers o
  serves_servers Nothing call h = absurd h
  serves_servers Stock call h = want_servers (stock_due s) h
  serves_servers Names (Put key value) h = binds_servers s.task key h
  serves_servers Names (Get key) h = clears_servers s.task h
  serves_servers Names (Delete key) h = clears_servers s.task h
  serves_servers Names (Swap key expected value) h = clears_servers s.task h

-- the access of a step that serves an actor is the server's, if there is one
pub served_servers : (a : ℕ) (d : Doing) (want : Want) (call : Call) (v : Served) (r : Record) → IsServed a d want call v r → IsServers r.access
served_servers a d want call v r h = servers (is_elsewhere v.holder a) refl
  where
    servers : (b : Bool) → is_elsewhere v.holder a ≡ b → IsServers r.access
    servers true e = still_servers r.access (h.waits e).access
    servers false e = let z = h.serves e in serves_servers v.server z.server z.turn r.access want call z.serves

-- so it is no own access of a client
pub served_not_own : (a : ℕ) (d : Doing) (want : Want) (call : Call) (v : Served) (r : Record) → IsServed a d want call v r → (c : ℕ) → IsOwnStep c r → ⊥
served_not_own a d want call v r h c own = absurd (let q : Client c ≡ Server = sym own.actor ∙ served_servers a d want call v r h own.access own.is in cc)

-- a note is a grant's, or starts no call
granted_or : (n : Note) → ((c : ℕ) × (names : ℕ) × (n ≡ Granted c names)) ⊎ ((c a : ℕ) → Starts c (Step a) n → ⊥)
granted_or Quiet = inr (λ c a s. s)
granted_or Waits = inr (λ c a s. s)
granted_or (Answered b reply) = inr (λ c a s. s)
granted_or (Refused b y) = inr (λ c a s. s)
granted_or (Full b bound worn out) = inr (λ c a s. s)
granted_or (NoSlot b) = inr (λ c a s. s)
granted_or (Granted b names) = inl (b, names, refl)
granted_or (Recycled old) = inr (λ c a s. s)
granted_or Unlinked = inr (λ c a s. s)
granted_or Unbound = inr (λ c a s. s)
granted_or (Swept count) = inr (λ c a s. s)
granted_or Unreached = inr (λ c a s. s)
granted_or (Busy b) = inr (λ c a s. s)
granted_or (Missing b) = inr (λ c a s. s)

-- a grant leaves the task, and the call starts anew
granted_task_same : (d : Doing) (a : Option Access) (e : Option Entry) (w : Served) (n : Note) (c names : ℕ) → n ≡ Granted c names → (ended_if (ends n) (granted (entered (accessed d a) e) w n)).task ≡ d.task
granted_task_same d a e w n c names is = subst (λ (k : Note). (ended_if (ends k) (granted (entered (accessed d a) e) w k)).task ≡ d.task) (sym is) (entered_task (accessed d a) e ∙ accessed_task d a)

granted_anew : (d : Doing) (w : Served) (n : Note) (c names : ℕ) → n ≡ Granted c names → (ended_if (ends n) (granted d w n)).since ≡ []
granted_anew d w n c names is = subst (λ (k : Note). (ended_if (ends k) (granted d w k)).since ≡ []) (sym is) refl

-- a client that has started its call has the stock and the names that it had
started_node : (x y : ClientState) (call : Call) → Started x y call → (y.node.stock ≡ x.node.stock) × (y.node.names ≡ x.node.names)
started_node x y call s = by_how s.how
  where
    by_how : (NodeStarts x.node call y.node × (y.want ≡ Nothing)) ⊎ ((y.node ≡ x.node) × (y.want ≡ Stock) × Refuses x.node call NeedsStock) → (y.node.stock ≡ x.node.stock) × (y.node.names ≡ x.node.names)
    by_how (inl h) = (ap (λ (n : NodeState). n.stock) h.0.kept, ap (λ (n : NodeState). n.names) h.0.kept)
    by_how (inr h) = (ap (λ (n : NodeState). n.stock) h.0, ap (λ (n : NodeState). n.names) h.0)

-- the client of seat i, which wants something, has its step as y; behind the record it does what the records say, and may begin at its cursors
module _ (o : Opening) (rs : List Record) (clients clients1 : List ClientState) (i : ℕ) (x y : ClientState) (v w : Served) (p q : Plain) (note : Note) (stands : Stands o p i x Wants) (is : IsOf i x p (standing o (suc i) rs)) (matches : Matches x (view_at p i) Wants (standing o (suc i) rs).does) (side : (standing o (suc i) rs).served ≡ v) (had : WasServed o i x y v w p q note)
    (at : AloneSoFar o p.words clients rs) (there : nth clients1 i ≡ Some y) (running : Running q) where
  abbrev st : Standing
  st = standing o (suc i) rs

  abbrev r : Record
  r = step_record st had.access None note w

  abbrev behind : Standing
  behind = standing o (suc i) (rs ++ r ∷ [])

  abbrev call : Call
  call = call_at x (view_at p i)

  follows : IsServed (suc i) st.does x.want call v r × Matches y (view_at q i) had.after (stepped st.does r)
  follows = let f = had.follows st is matches side in (f.1, f.2)

  not_own : (c : ℕ) → IsOwnStep c r → ⊥
  not_own c = served_not_own (suc i) st.does x.want call v r follows.0 c

  module _ (does : behind.does ≡ stepped st.does r) (is_behind : IsOf i y q behind) (may : (slot : ℕ) → Within (slot, key_of call) y.node.names → MayBegin behind.ended (key_of call) (number_of (cursor_at slot y.node.caller.cursors))) where
    anew : (c names : ℕ) → note ≡ Granted c names → AloneSoFar o q.words clients1 (rs ++ r ∷ [])
    anew c names e =
        let regards : Regards (Granted c names) w x y call = subst (λ (n : Note). Regards n w x y call) e had.regards in
        let x1 : ClientState = granted_to x (tags_of w.batch) regards.0 in
        let started : Started x1 y call = regards.2 in
        let same = started_node x1 y call started in
        let task = matches.doing.0 in
        let stock : behind.does.stock ≡ map tag_number x1.node.stock = ap (λ (d : Doing). d.stock) does ∙ follows.1.stock ∙ ap (map tag_number) same.0 in
        let since : behind.does.since ≡ [] = ap (λ (d : Doing). d.since) does ∙ granted_anew (entered (accessed st.does had.access) None) w note c names e in
        alone_begins o rs r p.words q.words clients clients1 at i y there call task.0
        (λ d s. sym (subst (Starts d (Step (suc i))) e s)) not_own
        (ap (λ (d : Doing). d.task) does ∙ granted_task_same st.does had.access None w note c names e ∙ task.1)
        (λ free. behind_alone o q had.stands.setup running i (let a = had.stands.seats in let b = had.stands.seat in omega arith) x1 y call (call_at y (view_at q i)) stands.pool had.stands.pool
        (record { counts = stands.phase.0.counts; calls = stands.phase.0.calls }) had.stands.holds started behind is_behind.words (is_behind.names ∙ same.1) stock since
        (λ slot named. may slot (subst (Within (slot, key_of call)) (sym same.1) named)) free)

    pub alone_served : AloneSoFar o q.words clients1 (rs ++ r ∷ [])
    alone_served = by_note (granted_or note)
      where
        by_note : ((c : ℕ) × (names : ℕ) × (note ≡ Granted c names)) ⊎ ((c a : ℕ) → Starts c (Step a) note → ⊥) → AloneSoFar o q.words clients1 (rs ++ r ∷ [])
        by_note (inl g) = anew g.0 g.1 g.2
        by_note (inr none) = alone_aside o rs r p.words q.words clients clients1 at (λ c other written s t f. none c (suc i) s) not_own
