-- One step of a call that runs alone: it is an access of its own, a step of the server for it, a grant, or its end.
use Rattle.std.proofs.Common.{◌≡◌, ◌≢◌, ◌⊎◌, inl, inr, ℕ, ◌+◌, ◌-◌, take, drop, length, length-append, List, [], ◌∷◌, ◌++◌, Bool, true, false, refl, sym, ap, ◌∙◌, subst, arith, append_assoc, append-nil}
use Rattle.std.specs.Prelude.{Option, Some, None, IfSome, IsSome}
use Rattle.std.proofs.lemmas.List.{take-append-le, take-append-drop, take_all}
use Rattle.clover_map.specs.History.{key_of}
use Rattle.clover_map.specs.declared.call.Call.{Call}
use Rattle.clover_map.specs.declared.call.Entry.{Entry}
use Rattle.clover_script.specs.declared.line.Task.{Task}
use Rattle.clover_script.specs.declared.line.Task.TheVariants.{Client as ClientTask}
use Rattle.clover_node.specs.Node.{IsPut}
use Rattle.clover_rule.specs.Accesses.{CameBack}
use Rattle.clover_rule.specs.Lists.{Each, IsPrefix}
use Rattle.clover_rule.specs.declared.access.Access.{Access}
use Rattle.clover_rule.specs.declared.access.Act.{Act}
use Rattle.clover_rule.specs.declared.access.Actor.{Actor}
use Rattle.clover_rule.specs.declared.access.Actor.TheVariants.{Client, Server}
use Rattle.clover_server.specs.Server.{ServerState}
use Rattle.clover_server.specs.declared.turn.ServerTurn.{ServerTurn}
use Rattle.clover_server.specs.declared.turn.ServerTurn.TheVariants.{More, Ready, Unlinked, Recycled, Full as TurnFull, NoSlot as TurnNoSlot, Unreached}
use Rattle.clover_event.specs.Folds.{actor_of}
use Rattle.clover_event.specs.declared.event.CallRefusal.TheVariants.{Unreached as WasUnreached}
use Rattle.clover_run.specs.Alone.{IsOwnStep}
use Rattle.clover_run.specs.Costs.{IsMade}
use Rattle.clover_run.specs.Folds.{Doing, accessed, acted, does, doing, ended_if, ends, entered, granted, served_after, stepped}
use Rattle.clover_run.specs.Record.{Record}
use Rattle.clover_run.specs.Rounds.{IsServers}
use Rattle.clover_run.specs.Run.{Opening, Standing, Follows, Fits, GoesOn, IsAccess, IsCause, IsDueOn, IsOwn, IsRun, IsStep, IsStepFor, IsStepOf, known_slot, standing, want_in}
use Rattle.clover_run.specs.Served.{is_elsewhere}
use Rattle.clover_run.specs.Serving.{Hands, IsServed, Leaves, Serves, telling}
use Rattle.clover_run.specs.Wanting.{slot_for, wants}
use Rattle.clover_run.specs.declared.event.Note.{Note}
use Rattle.clover_run.specs.declared.event.Note.TheVariants.{Quiet, Waits, Answered, Refused, Full, NoSlot, Granted}
use Rattle.clover_run.specs.declared.served.Served.{Served}
use Rattle.clover_run.specs.declared.want.Want.{Want}
use Rattle.clover_run.specs.declared.want.Want.TheVariants.{Nothing, Stock, Names}
use Rattle.clover_run.proofs.Learning.{known_by, known_few, stepped_known}
use Rattle.clover_run.proofs.Pasts.{doing_own, goes_more, served_more}
use Rattle.clover_run.proofs.Paying.{TaskGoes, follows_pays, pays_on}
use Rattle.clover_run.proofs.Readies.{ready_idle, ready_named, ready_still}
use Rattle.clover_run.proofs.Rounding.{IsUnsaid, still_none, task_behind, unsaid_same}
use Rattle.clover_run.proofs.ServerTells.{serves}
use Rattle.clover_run.proofs.Slots.{slot_front, slot_there}
use Rattle.clover_run.proofs.Stepped.{accessed_task, entered_task, granted_task}

-- a task behind a note that does not end it
pub kept_task : (d : Doing) (r : Record) → ends r.note ≡ false → (stepped d r).task ≡ d.task
kept_task d r e =
    subst (λ (b : Bool). (ended_if b (granted (entered (accessed d r.access) r.entry) r.served r.note)).task ≡ d.task) (sym e)
    (granted_task (entered (accessed d r.access) r.entry) r.served r.note ∙ entered_task (accessed d r.access) r.entry ∙ accessed_task d r.access)

pub over_task : (d : Doing) (r : Record) → ends r.note ≡ true → (stepped d r).task ≡ None
over_task d r e = subst (λ (b : Bool). (ended_if b (granted (entered (accessed d r.access) r.entry) r.served r.note)).task ≡ None) (sym e) refl

-- behind a grant the call starts anew
pub anew : (d : Doing) (r : Record) (b n : ℕ) → r.note ≡ Granted b n → (stepped d r).since ≡ []
anew d r b n e = subst (λ (k : Note). (ended_if (ends k) (granted (entered (accessed d r.access) r.entry) r.served k)).since ≡ []) (sym e) refl

-- behind an access of its own it has made that
entered_since : (d : Doing) (e : Option Entry) → (entered d e).since ≡ d.since
entered_since d None = refl
entered_since d (Some e) = refl

acted_since : (d : Doing) (a : Actor) (c : ℕ) (x : Access) → a ≡ Client c → (acted d a x).since ≡ d.since ++ x.act ∷ []
acted_since d a c x e = subst (λ (b : Actor). (acted d b x).since ≡ d.since ++ x.act ∷ []) (sym e) refl

went_on : (d : Doing) (r : Record) (x : Access) (c : ℕ) → r.access ≡ Some x → x.actor ≡ Client c → r.note ≡ Quiet → (stepped d r).since ≡ d.since ++ x.act ∷ []
went_on d r x c is actor quiet =
    subst (λ (k : Note). (ended_if (ends k) (granted (entered (accessed d r.access) r.entry) r.served k)).since ≡ d.since ++ x.act ∷ []) (sym quiet)
    (subst (λ (o : Option Access). (entered (accessed d o) r.entry).since ≡ d.since ++ x.act ∷ []) (sym is) (entered_since (acted d x.actor x) r.entry ∙ acted_since d x.actor c x actor))

-- what its actor wants behind that, where its call has a slot and where it has none
pub wants_none : (call : Call) (stock : List ℕ) (before : List Act) (act : Act) → wants call None stock (before ++ act ∷ []) ≡ Names
wants_none call stock [] act = refl
wants_none call stock (a ∷ before) act = refl

pub wants_some : (call : Call) (slot : ℕ) (stock : List ℕ) (before : List Act) (act : Act) → wants call (Some slot) stock (before ++ act ∷ []) ≡ Nothing
wants_some call slot stock [] act = refl
wants_some call slot stock (a ∷ before) act = refl

-- a slot that is found among the first bindings is found among all, and among more
slot_of_more : (key : List ℕ) (n : ℕ) (names more : List (ℕ × List ℕ)) → IsPrefix names more → (s : ℕ) → slot_for key (take n names) ≡ Some s → slot_for key more ≡ Some s
slot_of_more key n names more is s e =
    ap (slot_for key) (is.1 ∙ ap (λ (l : List (ℕ × List ℕ)). l ++ is.0) (sym (take-append-drop n names)))
    ∙ slot_front key (take n names ++ drop n names) is.0 s (slot_front key (take n names) (drop n names) s e)

module _ (o : Opening) (none : o.served.server.task ≡ None) (c : ℕ) (call : Call) (written : ℕ) where
  abbrev pub IsUnder : List Record → Type 0
  IsUnder l = (doing c l).task ≡ Some (ClientTask call written)

  abbrev pub slot_at : List Record → Option ℕ
  slot_at l = known_slot (standing o c l) call

  abbrev pub want_at : List Record → Want
  want_at l = want_in (standing o c l) call

  -- how many bindings there are
  abbrev pub bound_at : List Record → ℕ
  bound_at l = length (served_after o.served l).server.directory.list

  -- a step behind these records, of a call that is under way there
  pub data Went (l : List Record) (r : Record) : Type 0 where
    Over : (doing c (l ++ r ∷ [])).task ≡ None → Went l r
    Kept : IsServers r → want_at l ≢ Nothing → IsUnder (l ++ r ∷ []) → want_at (l ++ r ∷ []) ≡ want_at l → slot_at (l ++ r ∷ []) ≡ slot_at l → Went l r
    Grants : r.access ≡ None → want_at l ≢ Nothing → IsUnder (l ++ r ∷ []) → (doing c (l ++ r ∷ [])).since ≡ [] → (doing c (l ++ r ∷ [])).known ≡ bound_at (l ++ r ∷ [])
        → (want_at l ≡ Names → IsPut call → IsSome (slot_at (l ++ r ∷ []))) → (IsSome (slot_at l) → IsSome (slot_at (l ++ r ∷ []))) → Went l r
    Owns : want_at l ≡ Nothing → (x : Access) → r.access ≡ Some x → x.actor ≡ Client c → x.refused ≡ false → IsUnder (l ++ r ∷ []) → r.note ≡ Quiet
        → slot_at (l ++ r ∷ []) ≡ slot_at l → (doing c (l ++ r ∷ [])).since ≡ (doing c l).since ++ x.act ∷ []
        → IsDueOn o.setup.pool (standing o c l) (slot_at l) call x.act r.note → CameBack o.setup.pool (standing o c l).words x.act → Went l r

  module _ (l : List Record) (run : IsRun o l) (r : Record) (h : Follows o l r) (is : IsMade c r) where
    abbrev st : Standing
    st = standing o c l

    abbrev d : Doing
    d = doing c l

    abbrev next : List Record
    next = l ++ r ∷ []

    step : IsStep o.setup.pool st r
    step = subst (Fits o l r) is.event h

    pub behind : doing c next ≡ stepped d r
    behind = doing_own c l r (ap actor_of is.event) ∙ ap (does d r) is.event

    grows : IsPrefix (served_after o.served l).server.directory.list r.served.server.directory.list
    grows = (follows_pays o l r (pays_on o [] l (subst TaskGoes (sym none) tt) run).goes h).grows

    over : ends r.note ≡ true → Went l r
    over e = Over (ap (λ (z : Doing). z.task) behind ∙ over_task d r e)

    under_on : IsUnder l → ends r.note ≡ false → IsUnder next
    under_on under e = ap (λ (z : Doing). z.task) behind ∙ kept_task d r e ∙ under

    -- what it knows is as before, where it is not granted anything
    known_same : IsUnsaid r.note → (stepped d r).known ≡ d.known
    known_same u = stepped_known d r ∙ by r.note u
      where
        by : (n : Note) → IsUnsaid n → known_by n d.known ≡ d.known
        by Quiet v = refl
        by Waits v = refl
        by n v = absurd v

    names_same : IsUnsaid r.note → (standing o c next).names ≡ st.names
    names_same u =
        (λ k. take (behind k).known (served_more o.served l r k).server.directory.list)
        ∙ ap (λ (n : ℕ). take n r.served.server.directory.list) (known_same u)
        ∙ ap (take d.known) grows.1
        ∙ take-append-le d.known (served_after o.served l).server.directory.list grows.0 (known_few o l none run c)

    slot_same : IsUnsaid r.note → slot_at next ≡ slot_at l
    slot_same u = ap (slot_for (key_of call)) (names_same u)

    -- a step of the server for it, which tells nothing
    kept : IsUnder l → want_at l ≢ Nothing → IsServers r → r.entry ≡ None → IsUnsaid r.note → ends r.note ≡ false → Went l r
    kept under w servers entry u e =
        let same = unsaid_same d r servers entry u in
        let b = behind in
        let stock : (doing c next).stock ≡ d.stock = ap (λ (z : Doing). z.stock) b ∙ same.2 in
        let since : (doing c next).since ≡ d.since = ap (λ (z : Doing). z.since) b ∙ same.1 in
        let slot = slot_same u in
        Kept servers w (under_on under e) (λ k. wants call (slot k) (stock k) (since k)) slot

    -- a grant
    hands : (want : Want) → want_at l ≡ want → IsUnder l → want ≢ Nothing → (n : ServerState) → Serves want call st.served.server n Ready (telling r.access) → Hands c d want st.served n r → Went l r
    hands want at under some n s g =
        Grants (ready_still st.served.server n (telling r.access) want call s) (λ e. some (sym at ∙ e)) (under_on under (ap ends g.note)) (ap (λ (z : Doing). z.since) behind ∙ anew d r c (length n.directory.list - d.known) g.note) all named more
      where
        same : r.served.server.directory.list ≡ n.directory.list
        same = ap (λ (w : Served). w.server.directory.list) g.served

        now : served_after o.served next ≡ r.served
        now = served_more o.served l r

        all : (doing c next).known ≡ bound_at next
        all =
            let k : (doing c next).known ≡ d.known + (length n.directory.list - d.known) = ap (λ (z : Doing). z.known) behind ∙ stepped_known d r ∙ ap (λ (z : Note). known_by z d.known) g.note in
            let few = known_few o l none run c in
            let e : length r.served.server.directory.list ≡ length n.directory.list = ap length same in
            let b : bound_at next ≡ length r.served.server.directory.list = ap (λ (w : Served). length w.server.directory.list) now in
            let p : length r.served.server.directory.list ≡ length ((served_after o.served l).server.directory.list ++ grows.0) = ap length grows.1 in
            let q = length-append (served_after o.served l).server.directory.list grows.0 in
            omega arith

        names : (standing o c next).names ≡ r.served.server.directory.list
        names =
            take_all (doing c next).known (served_after o.served next).server.directory.list (let a = all in omega arith)
            ∙ ap (λ (w : Served). w.server.directory.list) now

        slot_so : slot_at next ≡ slot_for (key_of call) r.served.server.directory.list
        slot_so = ap (slot_for (key_of call)) names

        some_of : (s : ℕ) → slot_for (key_of call) r.served.server.directory.list ≡ Some s → IsSome (slot_at next)
        some_of s e = subst IsSome (sym (slot_so ∙ e)) refl

        named : want_at l ≡ Names → IsPut call → IsSome (slot_at next)
        named e put =
            let k = ready_named st.served.server n (telling r.access) call put (subst (λ (w : Want). Serves w call st.served.server n Ready (telling r.access)) (sym at ∙ e) s) in
            let f = slot_there (key_of call) n.directory.list k.slot k.bound in
            some_of f.0 (ap (slot_for (key_of call)) same ∙ f.1)

        more : IsSome (slot_at l) → IsSome (slot_at next)
        more = by (slot_at l) refl
          where
            by : (s : Option ℕ) → slot_at l ≡ s → IsSome s → IsSome (slot_at next)
            by None e k = absurd (let q : false ≡ true = k in cc)
            by (Some s) e k = some_of s (slot_of_more (key_of call) d.known (served_after o.served l).server.directory.list r.served.server.directory.list grows s e)

    -- each access of a step of the server is the server's
    served_servers : (want : Want) → IsServed st.actor st.does want call st.served r → IsServers r
    served_servers want s = by (is_elsewhere st.served.holder st.actor) refl
      where
        by : (b : Bool) → is_elsewhere st.served.holder st.actor ≡ b → IsServers r
        by true e = subst (λ (x : Option Access). IfSome x (λ (y : Access). y.actor ≡ Server)) (sym (s.waits e).access) tt
        by false e =
            let k = s.serves e in
            serves st.served.server k.server k.turn (telling r.access) (IsServers r) want call k.serves
            (λ b x m again. subst (λ (x1 : Option Access). IfSome x1 (λ (y : Access). y.actor ≡ Server)) (sym m) refl)
            (λ m again. subst (λ (x1 : Option Access). IfSome x1 (λ (y : Access). y.actor ≡ Server)) (sym m.1) refl)
            (λ m again. subst (λ (x1 : Option Access). IfSome x1 (λ (y : Access). y.actor ≡ Server)) (sym m) tt)

    served_went : (want : Want) → want_at l ≡ want → want ≢ Nothing → IsUnder l → IsServed st.actor st.does want call st.served r → Went l r
    served_went want at some under s = by (is_elsewhere st.served.holder st.actor) refl
      where
        wants_it : want_at l ≢ Nothing
        wants_it e = some (sym at ∙ e)

        by : (b : Bool) → is_elsewhere st.served.holder st.actor ≡ b → Went l r
        by true e = kept under wants_it (served_servers want s) s.entry (subst IsUnsaid (sym (s.waits e).note) tt) (ap ends (s.waits e).note)
        by false e = let k = s.serves e in leaves k.server k.turn k.serves k.leaves (served_servers want s)
          where
            leaves : (n : ServerState) (turn : ServerTurn) → Serves want call st.served.server n turn (telling r.access) → Leaves st.actor st.does want st.served n turn r → IsServers r → Went l r
            leaves n More k q servers = kept under wants_it servers s.entry (subst IsUnsaid (sym q.0) tt) (ap ends q.0)
            leaves n Ready k q servers = hands want at under some n k q
            leaves n (TurnFull bound worn out) k q servers = over (ap ends q.0)
            leaves n TurnNoSlot k q servers = over (ap ends q.0)
            leaves n Unreached k q servers = over (ap ends q.0)
            leaves n Unlinked k q servers = absurd q
            leaves n (Recycled old) k q servers = absurd q

    -- an access of its own
    owns : want_at l ≡ Nothing → IsUnder l → IsOwn o.setup.pool st call r → Went l r
    owns w under k = by r.note refl (k.own.cause made)
      where
        made : k.access.refused ≡ false
        made = subst (λ (x : Option Access). IfSome x (λ (y : Access). y.refused ≡ false)) k.own.is is.made

        came : CameBack o.setup.pool st.words k.access.act
        came = (subst (λ (x : Option Access). IfSome x (IsAccess o.setup.pool st)) k.own.is step.accesses).replays made

        by : (n : Note) → r.note ≡ n → IsCause o.setup.pool st r.entry k.access.act n → Went l r
        by Quiet e q = Owns w k.access k.own.is k.own.actor made (under_on under (ap ends e)) e (slot_same (subst IsUnsaid (sym e) tt)) (ap (λ (z : Doing). z.since) behind ∙ went_on d r k.access c k.own.is k.own.actor e) (k.due made) came
        by (Answered a y) e q = over (ap ends e)
        by (Refused a y) e q = over (ap ends e)
        by n e q = absurd q

    for_went : (want : Want) → want_at l ≡ want → IsUnder l → IsStepFor o.setup.pool st call want r → Went l r
    for_went Nothing at under s = owns at under s
    for_went Stock at under s = served_went Stock at (λ e. cc) under s
    for_went Names at under s = served_went Names at (λ e. cc) under s

    pub went : IsUnder l → Went l r
    went under = for_went (want_at l) refl under (subst (λ (t : Option Task). IsStepOf o.setup.pool st t r) under step.is)

    -- where it has ended it stays so
    pub gone : d.task ≡ None → (doing c next).task ≡ None
    gone e = ap (λ (z : Doing). z.task) behind ∙ still_none d r e

    -- a grant leaves no task unfinished
    pub granted_idle : IsUnder l → (b k : ℕ) → r.note ≡ Granted b k → r.served.server.task ≡ None
    granted_idle under b k note = for_want (want_at l) (subst (λ (t : Option Task). IsStepOf o.setup.pool st t r) under step.is)
      where
        no_quiet : (other : Note) → r.note ≡ other → other ≢ Granted b k → r.served.server.task ≡ None
        no_quiet other e apart = absurd (apart (sym e ∙ note))

        leaves : (want : Want) (n : ServerState) (turn : ServerTurn) → Serves want call st.served.server n turn (telling r.access) → Leaves st.actor st.does want st.served n turn r → r.served.server.task ≡ None
        leaves want n More s q = no_quiet Quiet q.0 (λ e. cc)
        leaves want n Ready s q = ap (λ (w : Served). w.server.task) q.served ∙ ready_idle st.served.server n (telling r.access) want call s
        leaves want n (TurnFull bound worn out) s q = no_quiet (Full st.actor bound worn out) q.0 (λ e. cc)
        leaves want n TurnNoSlot s q = no_quiet (NoSlot st.actor) q.0 (λ e. cc)
        leaves want n Unreached s q = no_quiet (Refused st.actor WasUnreached) q.0 (λ e. cc)
        leaves want n Unlinked s q = absurd q
        leaves want n (Recycled old) s q = absurd q

        serves_idle : (want : Want) → IsServed st.actor st.does want call st.served r → r.served.server.task ≡ None
        serves_idle want s = by (is_elsewhere st.served.holder st.actor) refl
          where
            by : (z : Bool) → is_elsewhere st.served.holder st.actor ≡ z → r.served.server.task ≡ None
            by true e = no_quiet Waits (s.waits e).note (λ q. cc)
            by false e = let m = s.serves e in leaves want m.server m.turn m.serves m.leaves

        for_want : (want : Want) → IsStepFor o.setup.pool st call want r → r.served.server.task ≡ None
        for_want Nothing s = absurd (subst (IsCause o.setup.pool st r.entry s.access.act) note (s.own.cause (subst (λ (x : Option Access). IfSome x (λ (y : Access). y.refused ≡ false)) s.own.is is.made)))
        for_want Stock s = serves_idle Stock s
        for_want Names s = serves_idle Names s

    -- a call that is under way, or over, is so behind it
    pub or_over : (d.task ≡ None) ⊎ IsUnder l → ((doing c next).task ≡ None) ⊎ IsUnder next
    or_over at = by at (task_behind d r)
      where
        by : (d.task ≡ None) ⊎ IsUnder l → ((stepped d r).task ≡ None) ⊎ ((stepped d r).task ≡ d.task) → ((doing c next).task ≡ None) ⊎ IsUnder next
        by (inl g) t = inl (ap (λ (z : Doing). z.task) behind ∙ still_none d r g)
        by (inr u) (inl t) = inl (ap (λ (z : Doing). z.task) behind ∙ t)
        by (inr u) (inr t) = inr (ap (λ (z : Doing). z.task) behind ∙ t ∙ u)

    -- an access of its own leaves the server as it is
    pub own_served : (d.task ≡ None) ⊎ IsUnder l → IsOwnStep c r → r.served ≡ st.served
    own_served at own = by at
      where
        unserved : (want : Want) → IsServed st.actor st.does want call st.served r → ⊥
        unserved want s = (let q : Server ≡ Client c = sym (subst (λ (x : Option Access). IfSome x (λ (y : Access). y.actor ≡ Server)) own.is (served_servers want s)) ∙ own.actor in absurd cc)

        for_want : (want : Want) → IsStepFor o.setup.pool st call want r → r.served ≡ st.served
        for_want Nothing s = s.own.served
        for_want Stock s = absurd (unserved Stock s)
        for_want Names s = absurd (unserved Names s)

        by : (d.task ≡ None) ⊎ IsUnder l → r.served ≡ st.served
        by (inl g) = (subst (λ (t : Option Task). IsStepOf o.setup.pool st t r) g step.is).served
        by (inr u) = for_want (want_in st call) (subst (λ (t : Option Task). IsStepOf o.setup.pool st t r) u step.is)

  -- some of them in a row
  pub owns_served : (l rs : List Record) → IsRun o l → GoesOn o l rs → Each (IsMade c) rs → Each (IsOwnStep c) rs → ((doing c l).task ≡ None) ⊎ IsUnder l → (served_after o.served (l ++ rs)).server.task ≡ (served_after o.served l).server.task
  owns_served l [] run goes is own at = ap (λ (z : List Record). (served_after o.served z).server.task) (append-nil l)
  owns_served l (r ∷ rs) run goes is own at =
      ap (λ (z : List Record). (served_after o.served z).server.task) (sym (append_assoc l (r ∷ []) rs))
      ∙ owns_served (l ++ r ∷ []) rs (goes_more o [] l r run goes.0) goes.1 is.1 own.1 (or_over l run r goes.0 is.0 at)
      ∙ ap (λ (w : Served). w.server.task) (served_more o.served l r ∙ own_served l run r goes.0 is.0 at own.0)
