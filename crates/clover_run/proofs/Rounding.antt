-- A call alone from one start of it to the next: its own accesses stand first, and behind them only the server's.
use Rattle.std.proofs.Common.{◌≡◌, ◌≢◌, ◌⊎◌, inl, inr, ℕ, take, List, [], ◌∷◌, ◌++◌, Bool, true, false, refl, sym, ap, ◌∙◌, subst, append_assoc}
use Rattle.std.specs.Prelude.{Option, Some, None, IfSome}
use Rattle.std.proofs.lemmas.List.{take-append-le}
use Rattle.clover_map.specs.History.{key_of}
use Rattle.clover_map.specs.declared.call.Call.{Call}
use Rattle.clover_map.specs.declared.call.Entry.{Entry}
use Rattle.clover_script.specs.declared.line.Task.{Task}
use Rattle.clover_script.specs.declared.line.Task.TheVariants.{Client as ClientTask}
use Rattle.clover_rule.specs.Lists.{Each, IsPrefix}
use Rattle.clover_rule.specs.declared.access.Access.{Access}
use Rattle.clover_rule.specs.declared.access.Actor.{Actor}
use Rattle.clover_rule.specs.declared.access.Actor.TheVariants.{Server}
use Rattle.clover_server.specs.Server.{ServerState}
use Rattle.clover_server.specs.declared.turn.ServerTurn.{ServerTurn}
use Rattle.clover_server.specs.declared.turn.ServerTurn.TheVariants.{More, Ready, Unlinked, Recycled, Full as TurnFull, NoSlot as TurnNoSlot, Unreached}
use Rattle.clover_event.specs.Folds.{actor_of}
use Rattle.clover_event.specs.declared.event.Event.{Event}
use Rattle.clover_event.specs.declared.event.Event.TheVariants.{Step}
use Rattle.clover_run.specs.Alone.{AllAlone, IsOwnStep, Starts}
use Rattle.clover_run.specs.Folds.{Doing, accessed, acted, does, doing, ended_if, ends, entered, granted, served_after, stepped}
use Rattle.clover_run.specs.Record.{Record}
use Rattle.clover_run.specs.Rounds.{AllRounds, CostsRound, IsRoundStep, IsServers}
use Rattle.clover_run.specs.Run.{Opening, Standing, Follows, Fits, GoesOn, IsRun, IsStep, IsStepFor, IsStepOf, standing, want_in}
use Rattle.clover_run.specs.Served.{is_elsewhere}
use Rattle.clover_run.specs.Serving.{IsServed, Leaves, telling}
use Rattle.clover_run.specs.Wanting.{slot_for, wants}
use Rattle.clover_run.specs.declared.event.Note.{Note}
use Rattle.clover_run.specs.declared.event.Note.TheVariants.{Quiet, Waits}
use Rattle.clover_run.specs.declared.served.Served.{Served}
use Rattle.clover_run.specs.declared.want.Want.{Want}
use Rattle.clover_run.specs.declared.want.Want.TheVariants.{Nothing, Stock, Names}
use Rattle.clover_run.proofs.Learning.{known_by, known_few, stepped_known}
use Rattle.clover_run.proofs.Pasts.{doing_own, goes_more, served_more}
use Rattle.clover_run.proofs.Paying.{TaskGoes, follows_pays, goes_behind, pays_on}
use Rattle.clover_run.proofs.ServerTells.{serves}
use Rattle.clover_run.proofs.Stepped.{accessed_task, entered_task, granted_task}

-- a step in which nothing happened to what the actor has under way, but that an access of the server was made
abbrev pub IsUnsaid : Note → Type 0
IsUnsaid Quiet = Unit {0}
IsUnsaid Waits = Unit {0}
IsUnsaid note = ⊥

abbrev pub IsAsBefore : Doing → Doing → Type 0
IsAsBefore n d = (n.task ≡ d.task) × (n.since ≡ d.since) × (n.stock ≡ d.stock)

acted_same : (d : Doing) (x : Access) (a : Actor) → a ≡ Server → IsAsBefore (acted d a x) d
acted_same d x a e = subst (λ (b : Actor). IsAsBefore (acted d b x) d) (sym e) (refl, refl, refl)

accessed_same : (d : Doing) (o : Option Access) → IfSome o (λ (x : Access). x.actor ≡ Server) → IsAsBefore (accessed d o) d
accessed_same d None e = (refl, refl, refl)
accessed_same d (Some x) e = acted_same d x x.actor e

note_same : (d e : Doing) (w : Served) (note : Note) → IsUnsaid note → IsAsBefore d e → IsAsBefore (ended_if (ends note) (granted d w note)) e
note_same d e w Quiet u h = h
note_same d e w Waits u h = h
note_same d e w note u h = absurd u

pub unsaid_same : (d : Doing) (r : Record) → IsServers r → r.entry ≡ None → IsUnsaid r.note → IsAsBefore (stepped d r) d
unsaid_same d r servers none u = subst (λ (e : Option Entry). IsAsBefore (ended_if (ends r.note) (granted (entered (accessed d r.access) e) r.served r.note)) d) (sym none) (note_same (accessed d r.access) d r.served r.note u (accessed_same d r.access servers))

-- a task behind a step is none, or the one before it
ended_task : (b : Bool) (d : Doing) → ((ended_if b d).task ≡ None) ⊎ ((ended_if b d).task ≡ d.task)
ended_task true d = inl refl
ended_task false d = inr refl

pub task_behind : (d : Doing) (r : Record) → ((stepped d r).task ≡ None) ⊎ ((stepped d r).task ≡ d.task)
task_behind d r = by (ended_task (ends r.note) (granted (entered (accessed d r.access) r.entry) r.served r.note))
  where
    same : (granted (entered (accessed d r.access) r.entry) r.served r.note).task ≡ d.task
    same = granted_task (entered (accessed d r.access) r.entry) r.served r.note ∙ entered_task (accessed d r.access) r.entry ∙ accessed_task d r.access

    by : ((stepped d r).task ≡ None) ⊎ ((stepped d r).task ≡ (granted (entered (accessed d r.access) r.entry) r.served r.note).task) → ((stepped d r).task ≡ None) ⊎ ((stepped d r).task ≡ d.task)
    by (inl e) = inl e
    by (inr e) = inr (e ∙ same)

pub still_none : (d : Doing) (r : Record) → d.task ≡ None → (stepped d r).task ≡ None
still_none d r none = by (task_behind d r)
  where
    by : ((stepped d r).task ≡ None) ⊎ ((stepped d r).task ≡ d.task) → (stepped d r).task ≡ None
    by (inl e) = e
    by (inr e) = e ∙ none

pub is_nothing : (w : Want) → (w ≡ Nothing) ⊎ (w ≢ Nothing)
is_nothing Nothing = inl refl
is_nothing Stock = inr (λ e. cc)
is_nothing Names = inr (λ e. cc)

module _ (o : Opening) (none : o.served.server.task ≡ None) (c : ℕ) (call : Call) (written : ℕ) where
  abbrev IsUnder : List Record → Type 0
  IsUnder l = (doing c l).task ≡ Some (ClientTask call written)

  abbrev want_at : List Record → Want
  want_at l = want_in (standing o c l) call

  -- the call is over, or wants something of the server
  abbrev IsDry : List Record → Type 0
  IsDry l = ((doing c l).task ≡ None) ⊎ (IsUnder l × (want_at l ≢ Nothing))

  -- one step of it behind these records
  module _ (l : List Record) (run : IsRun o l) (r : Record) (h : Follows o l r) (is : IsRoundStep c r) where
    abbrev st : Standing
    st = standing o c l

    abbrev d : Doing
    d = doing c l

    step : IsStep o.setup.pool st r
    step = subst (Fits o l r) is.event h

    behind : doing c (l ++ r ∷ []) ≡ stepped d r
    behind = doing_own c l r (ap actor_of is.event) ∙ ap (does d r) is.event

    grows : IsPrefix (served_after o.served l).server.directory.list r.served.server.directory.list
    grows = (follows_pays o l r (pays_on o [] l (subst TaskGoes (sym none) tt) run).goes h).grows

    over : (stepped d r).task ≡ None → IsDry (l ++ r ∷ [])
    over e = inl (ap (λ (z : Doing). z.task) behind ∙ e)

    -- what it knows is as before, where it is not granted anything
    known_same : IsUnsaid r.note → (stepped d r).known ≡ d.known
    known_same u = stepped_known d r ∙ by r.note u
      where
        by : (n : Note) → IsUnsaid n → known_by n d.known ≡ d.known
        by Quiet v = refl
        by Waits v = refl
        by n v = absurd v

    names_same : IsUnsaid r.note → (standing o c (l ++ r ∷ [])).names ≡ st.names
    names_same u =
        (λ k. take (behind k).known (served_more o.served l r k).server.directory.list)
        ∙ ap (λ (n : ℕ). take n r.served.server.directory.list) (known_same u)
        ∙ ap (take d.known) grows.1
        ∙ take-append-le d.known (served_after o.served l).server.directory.list grows.0 (known_few o l none run c)

    dry_on : IsUnder l → want_at l ≢ Nothing → IsServers r → r.entry ≡ None → IsUnsaid r.note → IsDry (l ++ r ∷ [])
    dry_on under w servers entry u =
        let same = unsaid_same d r servers entry u in
        let b = behind in
        let task : IsUnder (l ++ r ∷ []) = ap (λ (z : Doing). z.task) b ∙ same.0 ∙ under in
        let stock : (doing c (l ++ r ∷ [])).stock ≡ d.stock = ap (λ (z : Doing). z.stock) b ∙ same.2 in
        let since : (doing c (l ++ r ∷ [])).since ≡ d.since = ap (λ (z : Doing). z.since) b ∙ same.1 in
        let names = names_same u in
        let want : want_at (l ++ r ∷ []) ≡ want_at l = (λ k. wants call (slot_for (key_of call) (names k)) (stock k) (since k)) in
        inr (task, λ e. w (sym want ∙ e))

    -- a step of the server for it
    served_dry : (want : Want) → IsUnder l → want_at l ≢ Nothing → IsServed st.actor st.does want call st.served r → IsServers r × IsDry (l ++ r ∷ [])
    served_dry want under w s = by (is_elsewhere st.served.holder st.actor) refl
      where
        by : (b : Bool) → is_elsewhere st.served.holder st.actor ≡ b → IsServers r × IsDry (l ++ r ∷ [])
        by true e =
            let k = s.waits e in
            let servers : IsServers r = subst (λ (x : Option Access). IfSome x (λ (y : Access). y.actor ≡ Server)) (sym k.access) tt in
            (servers, dry_on under w servers s.entry (subst IsUnsaid (sym k.note) tt))
        by false e =
            let k = s.serves e in
            let servers : IsServers r = serves st.served.server k.server k.turn (telling r.access) (IsServers r) want call k.serves
            (λ b x m again. subst (λ (x1 : Option Access). IfSome x1 (λ (y : Access). y.actor ≡ Server)) (sym m) refl)
            (λ m again. subst (λ (x1 : Option Access). IfSome x1 (λ (y : Access). y.actor ≡ Server)) (sym m.1) refl)
            (λ m again. subst (λ (x1 : Option Access). IfSome x1 (λ (y : Access). y.actor ≡ Server)) (sym m) tt) in
            (servers, leaves k.server k.turn k.leaves servers)
          where
            ends_so : (note : Note) → r.note ≡ note → ends note ≡ true → IsDry (l ++ r ∷ [])
            ends_so note q t = over (subst (λ (b : Bool). (ended_if b (granted (entered (accessed d r.access) r.entry) r.served r.note)).task ≡ None) (sym (ap ends q ∙ t)) refl)

            leaves : (n : ServerState) (turn : ServerTurn) → Leaves st.actor st.does want st.served n turn r → IsServers r → IsDry (l ++ r ∷ [])
            leaves n More q servers = dry_on under w servers s.entry (subst IsUnsaid (sym q.0) tt)
            leaves n Ready q servers = absurd (is.goes_on (subst (λ (v : Event). Starts c v r.note) (sym is.event) (subst (Starts c (Step c)) (sym q.note) refl)))
            leaves n (TurnFull bound worn out) q servers = ends_so r.note refl (ap ends q.0)
            leaves n TurnNoSlot q servers = ends_so r.note refl (ap ends q.0)
            leaves n Unreached q servers = ends_so r.note refl (ap ends q.0)
            leaves n Unlinked q servers = absurd q
            leaves n (Recycled old) q servers = absurd q

    for_dry : (want : Want) → want ≢ Nothing → IsUnder l → want_at l ≢ Nothing → IsStepFor o.setup.pool st call want r → IsServers r × IsDry (l ++ r ∷ [])
    for_dry Nothing some under w s = absurd (some refl)
    for_dry Stock some under w s = served_dry Stock under w s
    for_dry Names some under w s = served_dry Names under w s

    dry_step : IsDry l → IsServers r × IsDry (l ++ r ∷ [])
    dry_step (inl over_at) =
        let k = subst (λ (t : Option Task). IsStepOf o.setup.pool st t r) over_at step.is in
        (subst (λ (x : Option Access). IfSome x (λ (y : Access). y.actor ≡ Server)) (sym k.access) tt, over (still_none d r over_at))
    dry_step (inr q) = for_dry (want_at l) q.1 q.0 q.1 (subst (λ (t : Option Task). IsStepOf o.setup.pool st t r) q.0 step.is)

    -- an access of its own
    own_step : IsUnder l → want_at l ≡ Nothing → IsOwnStep c r × (IsDry (l ++ r ∷ []) ⊎ (IsUnder (l ++ r ∷ []) × (want_at (l ++ r ∷ []) ≡ Nothing)))
    own_step under w =
        let k = subst (λ (n : Want). IsStepFor o.setup.pool st call n r) w (subst (λ (t : Option Task). IsStepOf o.setup.pool st t r) under step.is) in
        (record { event = is.event; access = k.access; is = k.own.is; actor = k.own.actor; made = subst (λ (x : Option Access). IfSome x (λ (y : Access). y.refused ≡ false)) k.own.is is.made }, by (task_behind d r))
      where
        by : ((stepped d r).task ≡ None) ⊎ ((stepped d r).task ≡ d.task) → IsDry (l ++ r ∷ []) ⊎ (IsUnder (l ++ r ∷ []) × (want_at (l ++ r ∷ []) ≡ Nothing))
        by (inl e) = inl (over e)
        by (inr e) = go (is_nothing (want_at (l ++ r ∷ [])))
          where
            now : IsUnder (l ++ r ∷ [])
            now = ap (λ (z : Doing). z.task) behind ∙ e ∙ under

            go : (want_at (l ++ r ∷ []) ≡ Nothing) ⊎ (want_at (l ++ r ∷ []) ≢ Nothing) → IsDry (l ++ r ∷ []) ⊎ (IsUnder (l ++ r ∷ []) × (want_at (l ++ r ∷ []) ≡ Nothing))
            go (inl q) = inr (now, q)
            go (inr q) = inl (inr (now, q))

  -- from there on only accesses of the server
  dry_all : (l steps : List Record) → IsRun o l → GoesOn o l steps → Each (IsRoundStep c) steps → IsDry l → Each IsServers steps
  dry_all l [] run goes is dry = tt
  dry_all l (r ∷ rs) run goes is dry = let k = dry_step l run r goes.0 is.0 dry in (k.0, dry_all (l ++ r ∷ []) rs (goes_more o [] l r run goes.0) goes.1 is.1 k.1)

  -- the own ones first
  record Splits (steps : List Record) : Type 0 where
    pub own : List Record
    pub rest : List Record
    pub split : steps ≡ own ++ rest
    pub first : Each (IsOwnStep c) own
    pub servers : Each IsServers rest

  -- behind one of them
  own_first : (l : List Record) (r : Record) (rs : List Record) → IsRun o (l ++ r ∷ []) → GoesOn o (l ++ r ∷ []) rs → Each (IsRoundStep c) rs → IsOwnStep c r → (IsUnder (l ++ r ∷ []) → want_at (l ++ r ∷ []) ≡ Nothing → Splits rs)
      → IsDry (l ++ r ∷ []) ⊎ (IsUnder (l ++ r ∷ []) × (want_at (l ++ r ∷ []) ≡ Nothing)) → Splits (r ∷ rs)
  own_first l r rs run goes is own again (inl dry) = record { own = r ∷ []; rest = rs; split = refl; first = (own, tt); servers = dry_all (l ++ r ∷ []) rs run goes is dry }
  own_first l r rs run goes is own again (inr q) = let s = again q.0 q.1 in record { own = r ∷ s.own; rest = s.rest; split = ap (λ (z : List Record). r ∷ z) s.split; first = (own, s.first); servers = s.servers }

  own_all : (l steps : List Record) → IsRun o l → GoesOn o l steps → Each (IsRoundStep c) steps → IsUnder l → want_at l ≡ Nothing → Splits steps
  own_all l [] run goes is under w = record { own = []; rest = []; split = refl; first = tt; servers = tt }
  own_all l (r ∷ rs) run goes is under w =
      let k = own_step l run r goes.0 is.0 under w in
      let on = goes_more o [] l r run goes.0 in
      own_first l r rs on goes.1 is.1 k.0 (λ now free. own_all (l ++ r ∷ []) rs on goes.1 is.1 now free) k.1

-- each round of a call
pub all_rounds : (o : Opening) (rs : List Record) → o.served.server.task ≡ None → IsRun o rs → AllAlone o rs → AllRounds o rs
all_rounds o rs none run all x = by (is_nothing (want_in (standing o x.client x.before) x.call))
  where
    cut : GoesOn o [] x.before × GoesOn o x.before (x.steps ++ x.after)
    cut = goes_behind o [] x.before (x.steps ++ x.after) (subst (GoesOn o []) x.whole run)

    goes : GoesOn o x.before x.steps
    goes = (goes_behind o x.before x.steps x.after cut.1).0

    by : (want_in (standing o x.client x.before) x.call ≡ Nothing) ⊎ (want_in (standing o x.client x.before) x.call ≢ Nothing) → CostsRound o rs x
    by (inl w) =
        let s = own_all o none x.client x.call x.written x.before x.steps cut.0 goes x.own x.task w in record {
          own = s.own;
          rest = s.rest;
          split = s.split;
          first = s.first;
          servers = s.servers;
          costs = λ free. all (record { before = x.before; steps = s.own; after = s.rest ++ x.after; whole = x.whole ∙ ap (λ (l : List Record). x.before ++ (l ++ x.after)) s.split ∙ ap (λ (l : List Record). x.before ++ l) (append_assoc s.own s.rest x.after); client = x.client; started = x.started; call = x.call; written = x.written; task = x.task; free = free; own = s.first });
          wants = λ some. absurd (some w);
        }
    by (inr w) = record {
      own = [];
      rest = x.steps;
      split = refl;
      first = tt;
      servers = dry_all o none x.client x.call x.written x.before x.steps cut.0 goes x.own (inr (x.task, w));
      costs = λ free. absurd (w free);
      wants = λ some. refl;
    }
