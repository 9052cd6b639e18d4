-- The machine behind a step of the server for a client that wants something: the record serves that client, and the machine stands behind it.
use Rattle.std.proofs.Common.{◌≡◌, ◌≢◌, ◌⊎◌, ℕ, ◌-◌, suc, length, set, map, List, [], ◌∷◌, ◌++◌, Bool, true, false, refl, sym, ap, ◌∙◌, subst, arith, inl, inr}
use Rattle.std.specs.Prelude.{Option, Some, None}
use Rattle.std.proofs.lemmas.List.{length-set}
use Rattle.clover_alloc.specs.Batch.{tags_of}
use Rattle.clover_words.specs.Tag.{tag_number}
use Rattle.clover_words.specs.declared.pool.Pool.{Pool}
use Rattle.clover_map.specs.History.{key_of}
use Rattle.clover_map.specs.declared.call.Call.{Call}
use Rattle.clover_map.specs.declared.call.Reply.{Reply}
use Rattle.clover_script.specs.declared.line.Task.{Task}
use Rattle.clover_rule.specs.Lists.{nth, IsPrefix, Within}
use Rattle.clover_rule.specs.declared.access.Actor.TheVariants.{Client, Server}
use Rattle.clover_rule.proofs.Steps.{set_here}
use Rattle.clover_plain.specs.Plain.{Plain, Running, view_at}
use Rattle.clover_cache.specs.Node.{cursor_at}
use Rattle.clover_walk.specs.Standing.{number_of}
use Rattle.clover_call.specs.declared.under.Underway.TheVariants.{Nothing as NoCall}
use Rattle.clover_node.specs.Beginning.{NodeStarts, Refuses}
use Rattle.clover_node.specs.Node.{NodeState}
use Rattle.clover_node.specs.declared.answer.NodeRefusal.TheVariants.{NeedsStock}
use Rattle.clover_server.specs.Server.{ServerState}
use Rattle.clover_server.specs.declared.turn.ServerTurn.{ServerTurn}
use Rattle.clover_server.specs.declared.turn.ServerTurn.TheVariants.{More, Ready, Unlinked as TurnUnlinked, Recycled as TurnRecycled, Full as TurnFull, NoSlot as TurnNoSlot, Unreached as TurnUnreached}
use Rattle.clover_event.specs.Ends.{MayBegin}
use Rattle.clover_event.specs.declared.event.CallRefusal.TheVariants.{Unreached as WasUnreached}
use Rattle.clover_event.proofs.Bound.{AreBindings}
use Rattle.clover_run.specs.Client.{Phase, Wants, Stands, Matches, IsOf, GoesSoFar, Remembers, Started, call_at, call_or, granted_to, step_record}
use Rattle.clover_run.specs.Ends.{ended}
use Rattle.clover_run.specs.Folds.{Doing, doing, names_of, served_after, stepped}
use Rattle.clover_run.specs.Machine.{Parts, IsAt, IsPoolAt, IsClientAt, IsTold}
use Rattle.clover_run.specs.Record.{Record}
use Rattle.clover_run.specs.Recycling.{IsRecyclerAt}
use Rattle.clover_run.specs.Run.{Opening, Standing, Follows, IsStepFor, IsStepOf, standing, known_slot, want_in}
use Rattle.clover_run.specs.Served.{is_elsewhere}
use Rattle.clover_run.specs.Serving.{IsServed, Leaves}
use Rattle.clover_run.specs.Wanting.{slot_for, wants}
use Rattle.clover_run.specs.Working.{Regards, WasServed}
use Rattle.clover_run.specs.declared.client.ClientState.{ClientState}
use Rattle.clover_run.specs.declared.event.Note.{Note}
use Rattle.clover_run.specs.declared.event.Note.TheVariants.{Quiet, Waits, Answered, Refused, Full, NoSlot, Granted, Recycled, Unlinked, Unbound, Swept, Unreached, Busy, Missing}
use Rattle.clover_run.specs.declared.served.Served.{Served}
use Rattle.clover_run.specs.declared.want.Want.{Want}
use Rattle.clover_run.specs.declared.want.Want.TheVariants.{Nothing, Stock, Names}
use Rattle.clover_run.proofs.Behind.{legal_in, names_behind, keys_behind}
use Rattle.clover_run.proofs.Finding.{found_behind}
use Rattle.clover_run.proofs.Goes.{goes_first}
use Rattle.clover_run.proofs.Names.{are_bindings, slot_new}
use Rattle.clover_run.proofs.Onward.{pushed, is_of, other_client, own_client, standing_behind, each_set, with_step, stands_on, moved_pool}
use Rattle.clover_run.proofs.Pasts.{ended_more, ended_unanswered, served_more, doing_own}
use Rattle.clover_run.proofs.Recyclers.{recycler_other, served_counts}
use Rattle.clover_run.proofs.Remembering.{remembers_more, remembers_starts, may_begin}
use Rattle.clover_run.proofs.ServedAlone.{alone_served, served_servers}
use Rattle.clover_run.proofs.Starting.{SaysStart}
use Rattle.clover_run.proofs.Stepped.{accessed_task}
use Rattle.clover_run.proofs.Telling.{answers_none, told_unanswered}

-- a step that serves a want is the step of a call that wants this
serves_want : (p : Pool) (st : Standing) (call : Call) (r : Record) (w : Want) → w ≢ Nothing → IsServed st.actor st.does w call st.served r → IsStepFor p st call w r
serves_want p st call r Nothing some s = absurd (some refl)
serves_want p st call r Stock some s = s
serves_want p st call r Names some s = s

-- a step that serves answers no call
leaves_unanswered : (a : ℕ) (d : Doing) (want : Want) (v : Served) (n : ServerState) (turn : ServerTurn) (r : Record) → Leaves a d want v n turn r → (b : ℕ) (reply : Reply) → r.note ≡ Answered b reply → ⊥
leaves_unanswered a d want v n More r l b reply e = let q : Quiet ≡ Answered b reply = sym l.0 ∙ e in cc
leaves_unanswered a d want v n Ready r l b reply e = let q : Granted a (length n.directory.list - d.known) ≡ Answered b reply = sym l.note ∙ e in cc
leaves_unanswered a d want v n (TurnFull bound worn out) r l b reply e = let q : Full a bound worn out ≡ Answered b reply = sym l.0 ∙ e in cc
leaves_unanswered a d want v n TurnNoSlot r l b reply e = let q : NoSlot a ≡ Answered b reply = sym l.0 ∙ e in cc
leaves_unanswered a d want v n TurnUnreached r l b reply e = let q : Refused a WasUnreached ≡ Answered b reply = sym l.0 ∙ e in cc
leaves_unanswered a d want v n TurnUnlinked r l b reply e = l
leaves_unanswered a d want v n (TurnRecycled old) r l b reply e = l

pub served_unanswered : (a : ℕ) (d : Doing) (want : Want) (call : Call) (v : Served) (r : Record) → IsServed a d want call v r → (b : ℕ) (reply : Reply) → r.note ≡ Answered b reply → ⊥
served_unanswered a d want call v r s b reply e = by (is_elsewhere v.holder a) refl
  where
    by : (z : Bool) → is_elsewhere v.holder a ≡ z → ⊥
    by true is = let q : Waits ≡ Answered b reply = sym (s.waits is).note ∙ e in cc
    by false is = let l = s.serves is in leaves_unanswered a d want v l.server l.turn r l.leaves b reply e

-- the note is a grant's, behind which the client has started its call anew
record HasGrant (note : Note) (w : Served) (x y : ClientState) (call : Call) : Type 0 where
  pub client : ℕ
  pub count : ℕ
  pub is : note ≡ Granted client count
  pub added : List (ℕ × List ℕ)
  pub started : Started (granted_to x (tags_of w.batch) added) y call

-- or its node is as it was
regarded : (note : Note) (w : Served) (x y : ClientState) (call : Call) → Regards note w x y call → (y.node ≡ x.node) ⊎ HasGrant note w x y call
regarded (Granted c names) w x y call h = inr (record { client = c; count = names; is = refl; added = h.0; started = h.2 })
regarded Quiet w x y call h = inl h
regarded Waits w x y call h = inl h
regarded (Answered b reply) w x y call h = inl h
regarded (Refused b why) w x y call h = inl h
regarded (Full b bound worn out) w x y call h = inl h
regarded (NoSlot b) w x y call h = inl h
regarded (Recycled old) w x y call h = inl h
regarded Unlinked w x y call h = inl h
regarded Unbound w x y call h = inl h
regarded (Swept count) w x y call h = inl h
regarded Unreached w x y call h = inl h
regarded (Busy b) w x y call h = inl h
regarded (Missing b) w x y call h = inl h

-- a start keeps the names and the stock
started_kept : (x y : ClientState) (call : Call) → Started x y call → (y.node.names ≡ x.node.names) × (y.node.stock ≡ x.node.stock)
started_kept x y call s = go s.how
  where
    go : (NodeStarts x.node call y.node × (y.want ≡ Nothing)) ⊎ ((y.node ≡ x.node) × (y.want ≡ Stock) × Refuses x.node call NeedsStock) → (y.node.names ≡ x.node.names) × (y.node.stock ≡ x.node.stock)
    go (inl h) = (ap (λ (n : NodeState). n.names) h.0.kept, ap (λ (n : NodeState). n.stock) h.0.kept)
    go (inr h) = (ap (λ (n : NodeState). n.names) h.0, ap (λ (n : NodeState). n.stock) h.0)

-- the client of seat i wants something, and had its step, in a pool that runs behind it
module _ (o : Opening) (m : Parts) (rs : List Record) (at : IsAt o m rs) (i : ℕ) (x y : ClientState) (w : Served) (q : Plain) (note : Note) (here : nth m.clients i ≡ Some x) (is_wants : (at.each i x here).phase ≡ Wants) (had : WasServed o i x y m.served w m.pool q note) (running : Running q) where
  abbrev was : IsClientAt o m.pool i x rs
  was = at.each i x here

  abbrev st : Standing
  st = standing o (suc i) rs

  abbrev r : Record
  r = step_record st had.access None note w

  abbrev new : List Record
  new = rs ++ r ∷ []

  abbrev call : Call
  call = call_at x (view_at m.pool i)

  of : IsOf i x m.pool st
  of = is_of o m.pool i x rs at.pool was

  stands : Stands o m.pool i x Wants
  stands = subst (Stands o m.pool i x) is_wants was.stands

  matches : Matches x (view_at m.pool i) Wants st.does
  matches = subst (λ (f : Phase). Matches x (view_at m.pool i) f st.does) is_wants was.matches

  side : st.served ≡ m.served
  side = sym at.served

  serves : IsServed (suc i) st.does x.want call m.served r
  serves = (had.follows st of matches side).1

  behind : Matches y (view_at q i) had.after (stepped st.does r)
  behind = (had.follows st of matches side).2

  -- the step serves the client
  follows : Follows o rs r
  follows =
      let want : want_in st call ≡ x.want = ap (λ (l : List (ℕ × List ℕ)). wants call (slot_for (key_of call) l) st.does.stock st.does.since) was.names ∙ matches.doing.2 in
      let served : IsServed (suc i) st.does (want_in st call) call st.served r = (subst (λ (z : Want). IsServed (suc i) st.does z call st.served r) (sym want) (subst (λ (v : Served). IsServed (suc i) st.does x.want call v r) at.served serves)) in
      record {
        accesses = (had.follows st of matches side).0;
        is = subst (λ (t : Option Task). IsStepOf o.setup.pool st t r) (sym matches.doing.0.1) (serves_want o.setup.pool st call r (want_in st call) (λ none. stands.phase.1 (sym want ∙ none)) served);
      }

  pool : IsPoolAt o q new
  pool = moved_pool o m.pool q rs r at.pool had.moved

  recycler : IsRecyclerAt q w m.recycler (doing 0 new)
  recycler = recycler_other rs r m.pool q m.served w m.recycler had.access None at.recycler (λ (e : suc i ≡ 0). absurd (omega (arith, e))) had.moved had.grows (served_counts (suc i) st.does x.want call m.served r serves)

  names : names_of w (stepped st.does r) ≡ y.node.names
  names = names_behind o q i y had.after w (stepped st.does r) running had.server had.stands behind

  -- no call ends at a tag
  none_ended : (c : ℕ) → ended c new ≡ ended c rs
  none_ended c = ended_more c rs r ∙ ended_unanswered c (doing c rs).task note had.access (ended c rs) (served_unanswered (suc i) st.does x.want call m.served r serves)

  how : (y.node ≡ x.node) ⊎ HasGrant note w x y call
  how = regarded note w x y call had.regards

  cursors : Remembers y.node.names y.node.caller.cursors (ended (suc i) rs)
  cursors = go how
    where
      go : (y.node ≡ x.node) ⊎ HasGrant note w x y call → Remembers y.node.names y.node.caller.cursors (ended (suc i) rs)
      go (inl same) = subst (λ (n : NodeState). Remembers n.names n.caller.cursors (ended (suc i) rs)) (sym same) was.cursors
      go (inr g) = remembers_starts (granted_to x (tags_of w.batch) g.added) y call (ended (suc i) rs) g.started (remembers_more x.node.names g.added x.node.caller.cursors (ended (suc i) rs) was.cursors)

  are : AreBindings y.node.names
  are = are_bindings y.node.names had.stands.holds.once (keys_behind o q i y had.after w.server running had.server had.stands)

  -- the call that started anew stands at its beginning
  module _ (g : HasGrant note w x y call) (called : y.node.caller.under ≢ NoCall) where
    abbrev z : ClientState
    z = granted_to x (tags_of w.batch) g.added

    abbrev st1 : Standing
    st1 = standing_behind o (suc i) rs r

    kept : (y.node.names ≡ z.node.names) × (y.node.stock ≡ z.node.stock)
    kept = started_kept z y call g.started

    anew : ((stepped st.does r).task ≡ st.does.task) × ((stepped st.does r).decided ≡ None) × ((stepped st.does r).since ≡ [])
    anew = subst (λ (n : Note). ((stepped st.does (step_record st had.access None n w)).task ≡ st.does.task) × ((stepped st.does (step_record st had.access None n w)).decided ≡ None) × ((stepped st.does (step_record st had.access None n w)).since ≡ [])) (sym g.is)
        (accessed_task st.does had.access, refl, refl)

    says : SaysStart z call (stepped st.does r)
    says = record {
      written = matches.doing.0.0;
      task = anew.0 ∙ matches.doing.0.1;
      decided = anew.1;
      since = anew.2;
      refusing = sym (ap (λ (k : ClientState). k.refusing) g.started.kept) ∙ behind.refusing;
      known = behind.known ∙ ap length kept.0;
      stock = behind.stock ∙ ap (map tag_number) kept.1;
    }

    knows : Remembers z.node.names z.node.caller.cursors st1.ended
    knows = subst (Remembers z.node.names z.node.caller.cursors) (sym (none_ended (suc i))) (remembers_more x.node.names g.added x.node.caller.cursors (ended (suc i) rs) was.cursors)

    node_goes : NodeStarts z.node call y.node → GoesSoFar o.setup.pool st1 y call
    node_goes s = by_slot (known_slot st1 call) refl
      where
        by_slot : (k : Option ℕ) → known_slot st1 call ≡ k → GoesSoFar o.setup.pool st1 y call
        by_slot None e = absurd (called (ap (λ (n : NodeState). n.caller.under) (s.unnamed (slot_new (key_of call) z.node.names (ap (slot_for (key_of call)) (sym (names ∙ kept.0)) ∙ e))) ∙ stands.phase.0.calls))
        by_slot (Some slot) e = goes_first o.setup st1 z y call slot stands.pool says (names ∙ kept.0) s (subst AreBindings kept.0 are) knows e

    by_how : (NodeStarts z.node call y.node × (y.want ≡ Nothing)) ⊎ ((y.node ≡ z.node) × (y.want ≡ Stock) × Refuses z.node call NeedsStock) → GoesSoFar o.setup.pool st1 y call
    by_how (inl h) = node_goes h.0
    by_how (inr h) = absurd (called (ap (λ (n : NodeState). n.caller.under) h.0 ∙ stands.phase.0.calls))

    same_call : call_at y (view_at q i) ≡ call
    same_call =
        let mine = stands.phase.2 in
        ap (λ (c : Option Call). call_or c y (view_at q i)) (ap (λ (k : ClientState). k.call) g.started.kept ∙ mine.1) ∙ sym (ap (λ (c : Option Call). call_or c x (view_at m.pool i)) mine.1)

    anew_goes : GoesSoFar o.setup.pool st1 y (call_at y (view_at q i))
    anew_goes = subst (GoesSoFar o.setup.pool st1 y) (sym same_call) (by_how g.started.how)

  goes : y.node.caller.under ≢ NoCall → GoesSoFar o.setup.pool (standing_behind o (suc i) rs r) y (call_at y (view_at q i))
  goes called = go how
    where
      go : (y.node ≡ x.node) ⊎ HasGrant note w x y call → GoesSoFar o.setup.pool (standing_behind o (suc i) rs r) y (call_at y (view_at q i))
      go (inl same) = absurd (called (ap (λ (n : NodeState). n.caller.under) same ∙ stands.phase.0.calls))
      go (inr g) = anew_goes g called

  mine : IsClientAt o q i y new
  mine = own_client o q i y had.after rs r refl had.stands behind names (subst (Remembers y.node.names y.node.caller.cursors) (sym (none_ended (suc i))) cursors) goes (had.lacks was.lacks)

  not_server : (j : ℕ) (c : ClientState) → nth m.clients j ≡ Some c → j ≢ o.setup.clients
  not_server j c there e = let seat = (at.each j c there).stands.seat in omega arith

  grows : IsPrefix (served_after o.served rs).server.directory.list w.server.directory.list
  grows = subst (λ (v : Served). IsPrefix v.server.directory.list w.server.directory.list) at.served had.grows

  others : (j : ℕ) (c : ClientState) → j ≢ i → nth m.clients j ≡ Some c → IsClientAt o q j c new
  others j c apart there =
      let view = had.others j apart (not_server j c there) in
      other_client o m.pool q j c rs r (at.each j c there) (λ (e : suc i ≡ suc j). apart (omega arith)) (λ f s. stands_on o i j c f had.access None m.pool q apart tt had.moved view s) view (none_ended (suc j)) grows

  alone_may : (slot : ℕ) → Within (slot, key_of call) y.node.names → MayBegin (ended (suc i) new) (key_of call) (number_of (cursor_at slot y.node.caller.cursors))
  alone_may slot named = may_begin y.node.names are y.node.caller.cursors (ended (suc i) new) slot (key_of call) (subst (Remembers y.node.names y.node.caller.cursors) (sym (none_ended (suc i))) cursors) named

  pub attended_client : IsAt o (with_step m i y w q) new
  attended_client = pushed o m (with_step m i y w q) rs r at follows refl pool refl had.server recycler (length-set m.clients i y)
      (each_set (λ (j : ℕ) (c : ClientState). IsClientAt o q j c new) m.clients i y mine others)
      (λ d above h. absurd (let l = was.stands.seat in omega arith))
      (legal_in o q new pool running)
      (found_behind o rs r q w.server at.found pool.setup running had.server pool.words (ap (λ (v : Served). v.server) (sym (served_more o.served rs r))))
      (inl running)
      (alone_served o rs m.clients (set m.clients i y) i x y m.served w m.pool q note stands of matches side had at.alone (set_here m.clients i y x here) running (doing_own (suc i) rs r refl) (is_of o q i y new pool mine) alone_may)
      (told_unanswered m.pool q rs r at.told had.moved.knows (answers_none note (served_unanswered (suc i) st.does x.want call m.served r serves)))

  -- its access is none of a client
  pub attended_told : IsTold (with_step m i y w q) r
  attended_told k j is actor free = absurd (let e : Client (suc j) ≡ Server = sym actor ∙ served_servers (suc i) st.does x.want call m.served r serves k is in cc)
