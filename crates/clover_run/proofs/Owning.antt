-- The machine behind a step of a client's own: the record is one of its own in the run, and the machine stands behind it.
use Rattle.std.proofs.Common.{◌≡◌, ◌≢◌, ℕ, suc, set, List, [], ◌∷◌, ◌++◌, Bool, true, false, refl, sym, ap, ◌∙◌, subst, arith, append-nil, inl}
use Rattle.std.specs.Prelude.{Option, Some, IfSome}
use Rattle.std.proofs.lemmas.List.{length-set}
use Rattle.std.proofs.lemmas.Option.{same_Some, IfSome_then}
use Rattle.clover_words.specs.declared.pool.Pool.{Pool}
use Rattle.clover_words.specs.declared.setup.Setup.{Setup}
use Rattle.clover_map.specs.declared.call.Call.{Call}
use Rattle.clover_map.specs.declared.call.Entry.{Entry}
use Rattle.clover_map.specs.declared.call.Reply.{Reply}
use Rattle.clover_script.specs.declared.line.Task.{Task}
use Rattle.clover_rule.specs.Lists.{nth}
use Rattle.clover_rule.specs.Names.{KeysOnce}
use Rattle.clover_rule.specs.declared.access.Access.{Access}
use Rattle.clover_rule.specs.declared.access.Actor.TheVariants.{Client}
use Rattle.clover_rule.proofs.Steps.{prefix_self, set_here}
use Rattle.clover_plain.specs.Plain.{Plain, Running, view_at}
use Rattle.clover_call.specs.Caller.{slot_of}
use Rattle.clover_call.specs.declared.under.Underway.TheVariants.{Nothing as NoCall}
use Rattle.clover_event.specs.Client.{IsLast}
use Rattle.clover_event.specs.declared.event.Event.TheVariants.{Step}
use Rattle.clover_run.specs.Client.{IsOwnPhase, IsOf, GoesSoFar, Remembers, Went, call_at, step_record}
use Rattle.clover_run.specs.Ends.{ended}
use Rattle.clover_run.specs.Folds.{doing, ends, names_of, stepped}
use Rattle.clover_run.specs.Machine.{Parts, IsAt, IsPoolAt, IsClientAt, IsTold}
use Rattle.clover_run.specs.Record.{Record}
use Rattle.clover_run.specs.Recycling.{IsRecyclerAt}
use Rattle.clover_run.specs.Run.{Opening, Standing, Follows, IsCause, IsEntry, IsOwn, IsOwnAccess, IsStepFor, IsStepOf, standing}
use Rattle.clover_run.specs.Told.{AllTold}
use Rattle.clover_run.specs.Working.{HasServer}
use Rattle.clover_run.specs.declared.client.ClientState.{ClientState}
use Rattle.clover_run.specs.declared.event.Note.{Note}
use Rattle.clover_run.specs.declared.event.Note.TheVariants.{Answered}
use Rattle.clover_run.specs.declared.served.Served.{Served}
use Rattle.clover_run.specs.declared.want.Want.{Want}
use Rattle.clover_run.proofs.Behind.{legal_in, server_same, names_behind, keys_behind}
use Rattle.clover_run.proofs.Dues.{own_task, went_own, went_free, went_goes}
use Rattle.clover_run.proofs.Finding.{found_behind}
use Rattle.clover_run.proofs.Lasting.{known_at}
use Rattle.clover_run.proofs.Onward.{pushed, is_of, other_client, own_client, standing_behind, each_set, with_step, stands_on, moved_pool}
use Rattle.clover_run.proofs.Pasts.{AnswersOnly, ended_more, ended_other, ended_unanswered, served_more}
use Rattle.clover_run.proofs.Recalling.{went_remembers}
use Rattle.clover_run.proofs.Recyclers.{recycler_other}
use Rattle.clover_run.proofs.Stepped.{alone_went}
use Rattle.clover_run.proofs.Telling.{told_behind, told_known}

-- a note of an own access answers its client alone
answers_own : (p : Pool) (st : Standing) (r : Record) (x : Access) → IsOwnAccess p st r x → AnswersOnly st.actor r.note
answers_own p st r x own b reply is = go x.refused refl
  where
    go : (z : Bool) → x.refused ≡ z → b ≡ st.actor
    go true e = absurd (let both = sym is ∙ (own.unreached e).0 in cc)
    go false e = (subst (IsCause p st r.entry x.act) is (own.cause e)).0

-- and one with which the task goes on answers nobody
goes_unanswered : (note : Note) → ends note ≡ false → (b : ℕ) (reply : Reply) → note ≡ Answered b reply → ⊥
goes_unanswered note goes b reply is = absurd (let e : true ≡ false = ap ends (sym is) ∙ goes in cc)

same_client : {a b : ℕ} → Client a ≡ Client b → a ≡ b
same_client e = cc

-- the client of seat i, with a call whose accesses are its own, made one of them, and left a pool that runs
module _ (o : Opening) (m : Parts) (rs : List Record) (at : IsAt o m rs) (i : ℕ) (x y : ClientState) (q : Plain) (note : Note) (here : nth m.clients i ≡ Some x) (own : IsOwnPhase (at.each i x here).phase) (w : Went o i (at.each i x here).phase x y m.pool q note) (running : Running q) where
  abbrev was : IsClientAt o m.pool i x rs
  was = at.each i x here

  abbrev st : Standing
  st = standing o (suc i) rs

  abbrev r : Record
  r = step_record st (Some w.access) w.entry note st.served

  abbrev new : List Record
  new = rs ++ r ∷ []

  abbrev call : Call
  call = call_at x (view_at m.pool i)

  of : IsOf i x m.pool st
  of = is_of o m.pool i x rs at.pool was

  access : IsOwnAccess o.setup.pool st r w.access
  access = (w.follows st of was.matches).0

  -- the step is its own
  follows : Follows o rs r
  follows =
      let task = own_task was.phase x (view_at m.pool i) st.does own was.matches.doing in
      let mine : IsOwn o.setup.pool st call r = went_own o i was.phase x y m.pool q note w was.stands own st of was.matches was.goes in
      let free = went_free o i was.phase x y m.pool q note w was.stands own st of was.matches was.goes in
      record {
        accesses = w.fits st of was.matches;
        is = subst (λ (t : Option Task). IsStepOf o.setup.pool st t r) (sym task.1) (subst (λ (z : Want). IsStepFor o.setup.pool st call z r) (sym free) mine);
      }

  pool : IsPoolAt o q new
  pool = moved_pool o m.pool q rs r at.pool w.moved

  not_server : m.pool.setup.clients ≢ i
  not_server e = let seat = was.stands.seat in let k = ap (λ (z : Setup). z.clients) at.pool.setup in omega arith

  server : HasServer q m.served.server
  server = server_same m.pool q m.served.server (Some w.access) w.entry at.pool.opened w.moved (w.others m.pool.setup.clients not_server) at.server

  recycler : IsRecyclerAt q m.served m.recycler (doing 0 new)
  recycler = recycler_other rs r m.pool q m.served m.served m.recycler (Some w.access) w.entry at.recycler (λ (e : suc i ≡ 0). absurd (omega (arith, e))) w.moved (prefix_self m.served.server.directory.list) (refl, refl)

  side : r.served ≡ m.served
  side = sym at.served

  names : names_of r.served (stepped st.does r) ≡ y.node.names
  names = names_behind o q i y w.after r.served (stepped st.does r) running (subst (λ (v : Served). HasServer q v.server) at.served server) w.stands (w.follows st of was.matches).1

  keys : KeysOnce x.node.names
  keys = subst KeysOnce w.names (keys_behind o q i y w.after m.served.server running server w.stands)

  answers : AnswersOnly (suc i) note
  answers = answers_own o.setup.pool st r w.access access

  cursors : Remembers y.node.names y.node.caller.cursors (ended (suc i) new)
  cursors = subst (Remembers y.node.names y.node.caller.cursors) (sym (ended_more (suc i) rs r))
      (went_remembers o i was.phase x y m.pool q note w was.stands own st of was.matches keys was.cursors)

  goes : y.node.caller.under ≢ NoCall → GoesSoFar o.setup.pool (standing_behind o (suc i) rs r) y (call_at y (view_at q i))
  goes called = went_goes o i was.phase x y m.pool q note w was.stands own st of was.matches was.goes (standing_behind o (suc i) rs r) refl (names ∙ w.names ∙ sym was.names)
      (λ e. ended_more (suc i) rs r ∙ ended_unanswered (suc i) (doing (suc i) rs).task note (Some w.access) (ended (suc i) rs) (goes_unanswered note e)) called

  mine : IsClientAt o q i y new
  mine = own_client o q i y w.after rs r refl w.stands (w.follows st of was.matches).1 names cursors goes w.lacks

  entry_own : IfSome w.entry (λ (e : Entry). e.client ≡ suc i)
  entry_own = IfSome_then w.entry access.entry (λ (e : Entry) (h : IsEntry o.setup.pool st r e). h.client)

  others : (j : ℕ) (z : ClientState) → j ≢ i → nth m.clients j ≡ Some z → IsClientAt o q j z new
  others j z apart there = other_client o m.pool q j z rs r (at.each j z there) (λ (e : suc i ≡ suc j). apart (omega arith))
      (λ f s. stands_on o i j z f (Some w.access) w.entry m.pool q apart entry_own w.moved (w.others j apart) s) (w.others j apart)
      (ended_more (suc j) rs r ∙ ended_other (suc j) (suc i) (doing (suc j) rs).task note (Some w.access) (ended (suc j) rs) answers (λ (e : suc i ≡ suc j). apart (omega arith)))
      ([], sym (append-nil r.served.server.directory.list))

  -- a tag that its answer tells is the cursor that it set
  told : AllTold q new
  told = told_behind m.pool q rs r at.told w.moved.knows (λ t e.
      known_at q i (slot_of x.node.caller.under) t (let a = w.stands.seats in let b = w.stands.seat in omega arith)
      (told_known y.node.caller.pool (view_at q i) (slot_of x.node.caller.under) w.access.act note x.node.caller.cursors y.node.caller.cursors w.cursor w.stands.holds.caller.cursors t e))

  pub owned_client : IsAt o (with_step m i y m.served q) new
  owned_client = pushed o m (with_step m i y m.served q) rs r at follows refl pool at.served server recycler (length-set m.clients i y)
      (each_set (λ (j : ℕ) (z : ClientState). IsClientAt o q j z new) m.clients i y mine others)
      (λ d above h. absurd (let l = was.stands.seat in omega arith))
      (legal_in o q new pool running)
      (found_behind o rs r q m.served.server at.found pool.setup running server pool.words (ap (λ (v : Served). v.server) (at.served ∙ sym (served_more o.served rs r))))
      (inl running)
      (alone_went o rs m.clients (set m.clients i y) i was.phase x y m.pool q note own was.stands of was.matches w at.alone here (set_here m.clients i y x here))
      told

  -- the access is the last that the client was told
  pub owned_told : IsTold (with_step m i y m.served q) r
  owned_told z j is actor free =
      let same : w.access ≡ z = same_Some _ _ is in
      let seat : suc i ≡ suc j = same_client (sym access.actor ∙ ap (λ (k : Access). k.actor) same ∙ actor) in
      let last : IsLast w.access.act (view_at q i).pass.since = w.last (ap (λ (k : Access). k.refused) same ∙ free) in
      let place : i ≡ j = omega arith in
      (ap Step seat, subst (λ (n : ℕ). IsLast z.act (view_at q n).pass.since) place (subst (λ (k : Access). IsLast k.act (view_at q i).pass.since) same last))
