-- A step of a client's own, and the calls that run alone: behind the load of the count and behind an answer the client has nothing under way.
use Prim.Native.Nat.{suc}
use Rattle.std.proofs.Common.{◌≡◌, ℕ, List, [], ◌∷◌, ◌++◌, length, Bool, true, false, cond, refl, sym, ap, ◌∙◌, subst, arith}
use Rattle.std.specs.Prelude.{Option, Some, None, IfSome}
use Rattle.clover_words.specs.declared.pool.Pool.{Pool}
use Rattle.clover_words.specs.declared.word.Word.TheVariants.{Count}
use Rattle.clover_map.specs.History.{is_commit, key_of}
use Rattle.clover_map.specs.declared.call.Call.{Call}
use Rattle.clover_map.specs.declared.call.Call.TheVariants.{Get, Put, Delete, Swap}
use Rattle.clover_map.specs.declared.call.Entry.{Entry}
use Rattle.clover_map.specs.declared.call.Reply.{Reply}
use Rattle.clover_map.specs.declared.call.Reply.TheVariants.{Stored, Deleted, Found, Absent, Differs}
use Rattle.clover_script.specs.declared.line.Task.{Task}
use Rattle.clover_script.specs.declared.line.Task.TheVariants.{Client as ClientTask}
use Rattle.clover_rule.specs.Accesses.{Committed, Decides, wrote_link}
use Rattle.clover_rule.specs.Lists.{nth, Within}
use Rattle.clover_rule.specs.Steps.{reply_of}
use Rattle.clover_rule.specs.declared.access.Access.{Access}
use Rattle.clover_rule.specs.declared.access.Act.{Act}
use Rattle.clover_rule.specs.declared.access.Act.TheVariants.{Load}
use Rattle.clover_rule.specs.declared.access.Actor.{Actor}
use Rattle.clover_rule.specs.declared.access.Actor.TheVariants.{Client}
use Rattle.clover_rule.specs.declared.view.View.{View}
use Rattle.clover_plain.specs.Plain.{Plain, view_at}
use Rattle.clover_dir.specs.Names.{IsNew}
use Rattle.clover_call.specs.Caller.{HasCommitted, new_tag}
use Rattle.clover_call.specs.declared.under.Underway.TheVariants.{Nothing as NoCall}
use Rattle.clover_node.specs.Node.{NodeState, IsAsked, IsIdle, first_of, node_first}
use Rattle.clover_node.specs.declared.counting.Counting.{Counting}
use Rattle.clover_node.specs.declared.counting.Counting.TheVariants.{No, Names, Absence}
use Rattle.clover_run.specs.Alone.{Starts, IsAnswered}
use Rattle.clover_run.specs.Client.{Phase, Rests, Wants, Calls, Ends, IsIn, IsOwnPhase, IsTaskOf, IsDoing, Matches, IsOf, Stands, Went, call_at, since_of, step_record}
use Rattle.clover_run.specs.Folds.{Doing, ends, ended_if, granted, entered, acted, accessed, stepped}
use Rattle.clover_run.specs.Record.{Record}
use Rattle.clover_run.specs.Run.{Opening, Standing, IsCounting, IsEntry, IsOwnAccess, standing}
use Rattle.clover_run.specs.SoFar.{AloneSoFar}
use Rattle.clover_run.specs.Wanting.{slot_for, wants}
use Rattle.clover_run.specs.declared.client.ClientState.{ClientState}
use Rattle.clover_run.specs.declared.event.Note.{Note}
use Rattle.clover_run.specs.declared.event.Note.TheVariants.{Answered, Granted}
use Rattle.clover_run.specs.declared.served.Served.{Served}
use Rattle.clover_run.specs.declared.want.Want.TheVariants.{Nothing as NoWant, Names as NamesWanted}
use Rattle.clover_run.proofs.Alone.{alone_aside, alone_stepped, own_starts_none}
use Rattle.clover_run.proofs.Names.{slot_within}

-- a task behind a step was there before it
pub granted_task : (d : Doing) (w : Served) (note : Note) → (granted d w note).task ≡ d.task
granted_task d w (Granted c names) = refl
granted_task d w note = refl

pub entered_task : (d : Doing) (e : Option Entry) → (entered d e).task ≡ d.task
entered_task d None = refl
entered_task d (Some e) = refl

acted_task : (d : Doing) (a : Actor) (x : Access) → (acted d a x).task ≡ d.task
acted_task d (Client n) x = refl
acted_task d actor x = refl

pub accessed_task : (d : Doing) (x : Option Access) → (accessed d x).task ≡ d.task
accessed_task d None = refl
accessed_task d (Some x) = acted_task d x.actor x

kept_if : (b : Bool) (d : Doing) (t : Task) → (ended_if b d).task ≡ Some t → d.task ≡ Some t
kept_if true d t e = absurd (let q : None ≡ Some t = e in cc)
kept_if false d t e = e

task_before : (d : Doing) (r : Record) (t : Task) → (stepped d r).task ≡ Some t → d.task ≡ Some t
task_before d r t e =
    let f = kept_if (ends r.note) (granted (entered (accessed d r.access) r.entry) r.served r.note) t e in
    sym (granted_task (entered (accessed d r.access) r.entry) r.served r.note ∙ entered_task (accessed d r.access) r.entry ∙ accessed_task d r.access) ∙ f

-- a reply that decided there behind a step is that of its entry
decided_if : (b : Bool) (d : Doing) (y : Reply) → (ended_if b d).decided ≡ Some y → d.decided ≡ Some y
decided_if true d y e = absurd (let q : None ≡ Some y = e in cc)
decided_if false d y e = e

granted_decided : (d : Doing) (w : Served) (note : Note) (y : Reply) → (granted d w note).decided ≡ Some y → d.decided ≡ Some y
granted_decided d w (Granted c names) y e = absurd (let q : None ≡ Some y = e in cc)
granted_decided d w note y e = e

acted_decided : (d : Doing) (a : Actor) (x : Access) → (acted d a x).decided ≡ d.decided
acted_decided d (Client n) x = refl
acted_decided d actor x = refl

accessed_decided : (d : Doing) (x : Option Access) → (accessed d x).decided ≡ d.decided
accessed_decided d None = refl
accessed_decided d (Some x) = acted_decided d x.actor x

entered_decided : (d : Doing) (e : Option Entry) (y : Reply) → d.decided ≡ None → (entered d e).decided ≡ Some y → (z : Entry) × (e ≡ Some z) × (z.reply ≡ y)
entered_decided d None y none e = absurd (let q : None ≡ Some y = sym none ∙ e in cc)
entered_decided d (Some z) y none e = (z, refl, (let q : Some z.reply ≡ Some y = e in cc))

decided_by : (d : Doing) (r : Record) (y : Reply) → d.decided ≡ None → (stepped d r).decided ≡ Some y → (z : Entry) × (r.entry ≡ Some z) × (z.reply ≡ y)
decided_by d r y none e =
    let f = granted_decided (entered (accessed d r.access) r.entry) r.served r.note y (decided_if (ends r.note) (granted (entered (accessed d r.access) r.entry) r.served r.note) y e) in
    entered_decided (accessed d r.access) r.entry y (accessed_decided d r.access ∙ none) f

-- one load of the count commits nothing
commits_so : (p : Pool) (ws : List ℕ) (names : List (ℕ × List ℕ)) (acts : List Act) (call : Call) (y : Reply) → is_commit y ≡ true → Decides p ws names acts call y → (t : ℕ) × Committed p ws call t acts
commits_so p ws names acts (Put k v) (Stored t) c h = (t, h)
commits_so p ws names acts (Swap k e v) (Stored t) c h = (t, h)
commits_so p ws names acts (Delete k) (Deleted t) c h = (t, h)
commits_so p ws names acts (Get k) (Stored t) c h = absurd h
commits_so p ws names acts (Delete k) (Stored t) c h = absurd h
commits_so p ws names acts (Get k) (Deleted t) c h = absurd h
commits_so p ws names acts (Put k v) (Deleted t) c h = absurd h
commits_so p ws names acts (Swap k e v) (Deleted t) c h = absurd h
commits_so p ws names acts call (Found t v) c h = absurd (let q : false ≡ true = c in cc)
commits_so p ws names acts call Absent c h = absurd (let q : false ≡ true = c in cc)
commits_so p ws names acts call (Differs t) c h = absurd (let q : false ≡ true = c in cc)

one_load : (n u t : ℕ) (before after : List Act) → Load Count n ∷ [] ≡ before ++ wrote_link u t ∷ after → ⊥
one_load n u t [] after e = absurd cc
one_load n u t (a ∷ []) after e = absurd cc
one_load n u t (a ∷ (b ∷ before)) after e = absurd cc

reply_commits : (t : ℕ) (call : Call) → is_commit (reply_of t call) ≡ true
reply_commits t (Get k) = refl
reply_commits t (Put k v) = refl
reply_commits t (Delete k) = refl
reply_commits t (Swap k e v) = refl

-- a call that counts, and has made its access, wants names
slot_wanted : (call : Call) (slot : Option ℕ) (stock : List ℕ) (acts : List Act) (n : ℕ) → length acts ≡ suc n → wants call slot stock acts ≡ NoWant → (s : ℕ) × (slot ≡ Some s)
slot_wanted call slot stock [] n e w = absurd (omega arith)
slot_wanted call None stock (a ∷ acts) n e w = absurd (let q : NamesWanted ≡ NoWant = w in cc)
slot_wanted call (Some s) stock (a ∷ acts) n e w = (s, refl)

-- a node that has a call under way on no slot loads the count for it
pub counts_for_new : (n : NodeState) (v : View) (call : Call) → (IsIdle n → ⊥) → n.caller.under ≡ NoCall → IsAsked n.counting n v call → (node_first n ≡ true) × IsNew (key_of call) n.names
counts_for_new n v call busy none asked = go n.counting refl asked
  where
    go : (c : Counting) → n.counting ≡ c → IsAsked c n v call → (first_of c n ≡ true) × IsNew (key_of call) n.names
    go No e h = absurd (busy (record { counts = e; calls = none }))
    go Names e h = (refl, h.unnamed)
    go Absence e h = (refl, h.unnamed)

-- an own step of the client of seat i, as its records and the pool have it
module _ (o : Opening) (i : ℕ) (f : Phase) (x y : ClientState) (p q : Plain) (note : Note) (own_phase : IsOwnPhase f) (stands : Stands o p i x f) (st : Standing) (is : IsOf i x p st) (matches : Matches x (view_at p i) f st.does) (w : Went o i f x y p q note) where
  abbrev r_of : Record
  r_of = step_record st (Some w.access) w.entry note st.served

  abbrev d_of : Doing
  d_of = stepped st.does r_of

  own : IsOwnAccess o.setup.pool st r_of w.access
  own = (w.follows st is matches).0

  behind : Matches y (view_at q i) w.after d_of
  behind = (w.follows st is matches).1

  committed_busy : (n : NodeState) → HasCommitted n.caller.under → IsIdle n → ⊥
  committed_busy n h idle = subst HasCommitted idle.calls h

  pub busy : IsIdle x.node → ⊥
  busy = by_phase f own_phase stands.phase
    where
      by_phase : (g : Phase) → IsOwnPhase g → IsIn g x → IsIdle x.node → ⊥
      by_phase Rests b h = absurd b
      by_phase Wants b h = absurd b
      by_phase Calls b h = h.0
      by_phase Ends b h = committed_busy x.node h.0

  -- behind an answer it has no task
  no_task : (g : Phase) → IsIn g y → IsDoing g y (view_at q i) d_of → d_of.task ≡ None → IsIdle y.node
  no_task Rests h m e = h.0
  no_task Wants h m e = h.0
  no_task Calls h m e = absurd (let z : None ≡ Some (ClientTask (call_at y (view_at q i)) m.0.0) = sym e ∙ m.0.1 in cc)
  no_task Ends h m e = absurd (let z : None ≡ Some (ClientTask (call_at y (view_at q i)) m.0.0) = sym e ∙ m.0.1 in cc)

  pub answered_idle : IsAnswered (suc i) note → IsIdle y.node
  answered_idle a = no_task w.after w.stands.phase behind.doing (ended note a)
    where
      ended : (n : Note) → IsAnswered (suc i) n → (ended_if (ends n) (granted (entered (accessed st.does (Some w.access)) w.entry) st.served n)).task ≡ None
      ended (Answered c reply) h = refl
      ended n h = absurd h

  -- a call on no slot has made its one access
  module _ (none : x.node.caller.under ≡ NoCall) (made : w.access.refused ≡ false) where
    abbrev call : Call
    call = call_at x (view_at p i)

    begun : (IsTaskOf call st.does) × (st.does.decided ≡ None) × (st.does.since ≡ since_of x.node (view_at p i))
    begun = by_phase f own_phase stands.phase matches.doing
      where
        by_phase : (g : Phase) → IsOwnPhase g → IsIn g x → IsDoing g x (view_at p i) st.does → (IsTaskOf call st.does) × (st.does.decided ≡ None) × (st.does.since ≡ since_of x.node (view_at p i))
        by_phase Rests b h m = absurd b
        by_phase Wants b h m = absurd b
        by_phase Calls b h m = (m.0, m.1, m.2)
        by_phase Ends b h m = absurd (subst HasCommitted none h.0)

    new : (node_first x.node ≡ true) × IsNew (key_of call) x.node.names
    new = counts_for_new x.node (view_at p i) call busy none stands.holds.asked

    first : st.does.since ≡ []
    first = begun.2 ∙ ap (λ (b : Bool). cond b [] (view_at p i).pass.since) new.0

    same_call : (other : Call) → IsTaskOf other d_of → call ≡ other
    same_call other t =
        let b = begun.0 in
        let z : Some (ClientTask call b.0) ≡ Some (ClientTask other t.0) = sym b.1 ∙ task_before st.does r_of (ClientTask other t.0) t.1 in cc

    abbrev later : Call
    later = call_at y (view_at q i)

    no_calls : IsIn Calls y → IsDoing Calls y (view_at q i) d_of → ⊥
    no_calls h m =
        let many : length d_of.since ≡ suc (length (since_of x.node (view_at p i))) = ap length m.2 ∙ w.longer h.0 in
        let found = slot_wanted later (slot_for (key_of later) y.node.names) d_of.stock d_of.since (length (since_of x.node (view_at p i))) many m.3 in
        let slot : ℕ = found.0 in
        let named : Within (slot, key_of later) y.node.names = slot_within (key_of later) y.node.names slot found.1 in
        let unnamed : IsNew (key_of later) x.node.names = subst (λ (c : Call). IsNew (key_of c) x.node.names) (same_call later m.0) new.1 in
        unnamed slot (subst (λ (l : List (ℕ × List ℕ)). Within (slot, key_of later) l) w.names named)

    abbrev reply : Reply
    reply = reply_of (new_tag y.node.caller.under) later

    no_ends : IsDoing Ends y (view_at q i) d_of → ⊥
    no_ends m =
        let e = decided_by st.does r_of reply begun.1 m.1 in
        let entry : IsEntry o.setup.pool st r_of e.0 = subst (λ (z : Option Entry). IfSome z (IsEntry o.setup.pool st r_of)) e.1 own.entry in
        let same : w.access ≡ entry.access = (let z : Some w.access ≡ Some entry.access = entry.last in cc) in
        let count = w.counts none made st is matches in
        let act : entry.access.act ≡ Load Count count.0 = ap (λ (z : Access). z.act) (sym same) ∙ count.1 in
        let acts : st.does.since ++ entry.access.act ∷ [] ≡ Load Count count.0 ∷ [] = (λ k. first k ++ act k ∷ []) in
        let commit : is_commit e.0.reply ≡ true = ap is_commit e.2 ∙ reply_commits (new_tag y.node.caller.under) later in
        let c = commits_so o.setup.pool st.words st.names (st.does.since ++ entry.access.act ∷ []) e.0.call e.0.reply commit entry.decided in
        let k = c.1 in
        one_load count.0 k.0 c.0 k.1 k.2 (sym acts ∙ k.3)

    pub counted_idle : IsIdle y.node
    counted_idle = by_phase w.after w.stands.phase behind.doing
      where
        by_phase : (g : Phase) → IsIn g y → IsDoing g y (view_at q i) d_of → IsIdle y.node
        by_phase Rests h m = h.0
        by_phase Wants h m = h.0
        by_phase Calls h m = absurd (no_calls h m)
        by_phase Ends h m = absurd (no_ends m)

-- the calls that run alone behind a step of the client's own
module _ (o : Opening) (rs : List Record) (clients clients1 : List ClientState) (i : ℕ) (f : Phase) (x y : ClientState) (p q : Plain) (note : Note) (own_phase : IsOwnPhase f) (stands : Stands o p i x f) (is : IsOf i x p (standing o (suc i) rs)) (matches : Matches x (view_at p i) f (standing o (suc i) rs).does) (w : Went o i f x y p q note)
    (at : AloneSoFar o p.words clients rs) (here : nth clients i ≡ Some x) (there : nth clients1 i ≡ Some y) where
  abbrev st_of : Standing
  st_of = standing o (suc i) rs

  abbrev step_of : Record
  step_of = step_record st_of (Some w.access) w.entry note st_of.served

  starts_none : (c : ℕ) → Starts c step_of.event step_of.note → ⊥
  starts_none c s = own_starts_none o.setup.pool st_of step_of w.access (suc i) refl (w.follows st_of is matches).0 c s

  -- a load of the count is that of the call under way
  counting : x.node.caller.under ≡ NoCall → w.access.refused ≡ false → (call : Call) (written : ℕ) → st_of.does.task ≡ Some (ClientTask call written) → IsCounting st_of call w.access.act note
  counting none made call written task =
      let b = (begun o i f x y p q note own_phase stands st_of is matches w none made).0 in
      let same : Some (ClientTask (call_at x (view_at p i)) b.0) ≡ Some (ClientTask call written) = sym b.1 ∙ task in
      let here : call_at x (view_at p i) ≡ call = cc in
      subst (λ (c : Call). IsCounting st_of c w.access.act note) here (w.counts none made st_of is matches)

  pub alone_went : AloneSoFar o q.words clients1 (rs ++ step_of ∷ [])
  alone_went = by_refused w.access.refused refl
    where
      by_refused : (b : Bool) → w.access.refused ≡ b → AloneSoFar o q.words clients1 (rs ++ step_of ∷ [])
      by_refused true e = alone_aside o rs step_of p.words q.words clients clients1 at (λ c call written s t h. starts_none c s)
          (λ c s. let z : Some w.access ≡ Some s.access = s.is in let k : w.access ≡ s.access = cc in absurd (let l : true ≡ false = sym e ∙ ap (λ (a : Access). a.refused) k ∙ s.made in cc))
      by_refused false e = alone_stepped o rs step_of p.words q.words clients clients1 at i y there x here refl
          (busy o i f x y p q note own_phase stands st_of is matches w)
          (λ none. (counted_idle o i f x y p q note own_phase stands st_of is matches w none e, λ call written task. (w.access, refl, counting none e call written task)))
          (λ a. answered_idle o i f x y p q note own_phase stands st_of is matches w a)
          (λ n u h. w.alone n u e h)
          (λ c call written s t h. starts_none c s)
