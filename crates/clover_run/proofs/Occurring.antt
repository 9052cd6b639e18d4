-- What the machine's steps of a client with a task come to, by what the client, or the server's side for it, did; and that want of memory changes nothing.
use Rattle.std.proofs.Common.{◌≡◌, ◌≢◌, ◌⊎◌, ℕ, ◌+◌, ◌<◌, suc, length, set, get_or, cond, List, [], ◌++◌, Bool, true, false, inl, inr, refl, sym, ap, ◌∙◌, subst, arith}
use Rattle.std.specs.Prelude.{Some, Result, Ok, Err, IfOk, OnErr, if◌then◌else◌}
use Rattle.std.proofs.lemmas.Result.{IfOk-weaker}
use Rattle.clover_list.specs.declared.memory.OutOfMemory.{OutOfMemory}
use Rattle.clover_rule.specs.Lists.{nth}
use Rattle.clover_rule.specs.Moves.{nobody}
use Rattle.clover_rule.specs.Rule.{longest}
use Rattle.clover_rule.specs.declared.view.View.{View}
use Rattle.clover_plain.specs.Plain.{Plain, Kept, Running, view_at}
use Rattle.clover_words.specs.declared.pool.Pool.{Pool}
use Rattle.clover_call.specs.declared.under.Underway.TheVariants.{Nothing as NoCall}
use Rattle.clover_event.specs.Machine.{most_made}
use Rattle.clover_event.specs.declared.event.Event.TheVariants.{Step}
use Rattle.clover_event.proofs.Places.{nth_here, set_same}
use Rattle.clover_run.specs.Client.{HasTask, IsOwnPhase, Phase, Wants, Stands, Went, Matches, call_at, since_of, LacksNames, GoesSoFar}
use Rattle.clover_run.specs.Folds.{accesses_in, doing}
use Rattle.clover_run.specs.Left.{left, left_by}
use Rattle.clover_run.specs.Machine.{Parts, IsAt, IsBehind, IsSame, IsBusy, IsClientAt, Continues, Happens, OnlyWaits, WaitsFor, WantsNothing}
use Rattle.clover_run.specs.Record.{Record}
use Rattle.clover_run.specs.Recycling.{IsRecyclerAt}
use Rattle.clover_run.specs.Run.{Opening, standing}
use Rattle.clover_run.specs.Served.{is_elsewhere}
use Rattle.clover_run.specs.Working.{HasServer, MayServe, WasServed}
use Rattle.clover_run.specs.SoFar.{AloneSoFar}
use Rattle.clover_run.specs.declared.client.ClientState.{ClientState}
use Rattle.clover_run.specs.declared.event.Note.{Note}
use Rattle.clover_run.specs.declared.recycler.Recycler.{Recycler}
use Rattle.clover_run.specs.declared.served.Served.{Served}
use Rattle.clover_run.specs.declared.want.Want.TheVariants.{Nothing}
use Rattle.clover_run.proofs.Attended.{attended_client, attended_told}
use Rattle.clover_run.proofs.Awaiting.{served_less}
use Rattle.clover_run.proofs.Behind.{own_phase, wants_phase}
use Rattle.clover_run.proofs.Busies.{busy_within, busy_here}
use Rattle.clover_run.proofs.Dues.{is_called, own_busy}
use Rattle.clover_run.proofs.Goes.{since_few}
use Rattle.clover_run.proofs.Happening.{behind}
use Rattle.clover_run.proofs.Keeping.{stands_kept}
use Rattle.clover_run.proofs.Lasting.{known_same}
use Rattle.clover_run.proofs.Lessening.{own_less, left_less}
use Rattle.clover_run.proofs.Onward.{with_step, is_of}
use Rattle.clover_run.proofs.Owning.{owned_client, owned_told}
use Rattle.clover_run.proofs.ServedKept.{server_kept}
use Rattle.clover_run.proofs.Stepped.{counts_for_new}

-- room that was made leaves the machine where it stood
pub kept_at : (o : Opening) (m n : Parts) (rs : List Record) → IsSame m n → IsAt o m rs → IsAt o n rs
kept_at o m n rs same at =
    let k = same.pool in
    record {
      run = at.run;
      setup = same.setup ∙ at.setup;
      pool = record {
        setup = k.setup ∙ at.pool.setup;
        first = k.first ∙ at.pool.first;
        used = k.used ∙ at.pool.used;
        opened = k.opened ∙ at.pool.opened;
        whole = k.whole ∙ at.pool.whole;
        words = k.words ∙ at.pool.words;
        entries = k.entries ∙ at.pool.entries;
        entered = k.entries ∙ at.pool.entered ∙ sym (λ z. longest (k.views z ++ k.absent z));
        accesses = k.accesses ∙ at.pool.accesses ∙ ap (λ (b : Bool). if b then o.listed ++ accesses_in rs else []) (sym k.traced);
        made = k.made ∙ at.pool.made;
        seats = ap length k.views ∙ at.pool.seats;
      };
      served = same.served ∙ at.served;
      server = subst (λ (v : Served). HasServer n.pool v.server) (sym same.served) (server_kept m.pool n.pool k m.served.server at.server);
      recycler = recycler;
      clients = ap length same.clients ∙ at.clients;
      each = λ i x here. let was = at.each i x (subst (λ (l : List ClientState). nth l i ≡ Some x) same.clients here) in record {
        phase = was.phase;
        stands = stands_kept o m.pool n.pool i x was.phase k was.stands;
        matches = subst (λ (v : View). Matches x v was.phase (doing (suc i) rs)) (sym (view i)) was.matches;
        names = was.names;
        cursors = was.cursors;
        goes = λ busy. subst (λ (v : View). GoesSoFar o.setup.pool (standing o (suc i) rs) x (call_at x v)) (sym (view i)) (was.goes busy);
        lacks = subst (LacksNames x) (sym (view i)) was.lacks;
      };
      far = at.far;
      legal = at.legal;
      begins = at.begins;
      found = at.found;
      counted = at.counted;
      free = at.free;
      alone = subst (λ (ws : List ℕ). AloneSoFar o ws n.clients rs) (sym k.words) (subst (λ (cs : List ClientState). AloneSoFar o m.pool.words cs rs) (sym same.clients) at.alone);
      told = λ t e. known_same m.pool n.pool k.views k.absent t (at.told t e);
    }
  where
    recycler : IsRecyclerAt n.pool n.served n.recycler (doing 0 rs)
    recycler = subst (λ (v : Served). IsRecyclerAt n.pool v n.recycler (doing 0 rs)) (sym same.served)
        (subst (λ (x : Recycler). IsRecyclerAt n.pool m.served x (doing 0 rs)) (sym same.recycler)
        (record { task = at.recycler.task; refusing = at.recycler.refusing; bound = at.recycler.bound; read = at.recycler.read; done = (let d = at.recycler.done in let e = same.pool.made in omega arith) }))

    view : (i : ℕ) → view_at n.pool i ≡ view_at m.pool i
    view i = ap (λ (vs : List View). get_or vs i nobody) same.pool.views

-- a step that found no memory
pub same_parts : (m : Parts) (i : ℕ) (x y : ClientState) (w : Served) (q : Plain) → nth m.clients i ≡ Some x → y ≡ x → w ≡ m.served → Kept m.pool q → IsSame m (with_step m i y w q)
same_parts m i x y w q here e side k = record { setup = refl; pool = k; served = side; recycler = refl; clients = ap (set m.clients i) e ∙ set_same m.clients i x here }

-- a step that lowers what is left of the client at this seat lowers what is left of its actor's task
seat_less : (m : Parts) (i a : ℕ) → suc i ≡ a → (x y : ClientState) (w : Served) (q : Plain) → nth m.clients i ≡ Some x → left_by y.want w.server y (view_at q i) < left_by x.want m.served.server x (view_at m.pool i) → left (with_step m i y w q) a < left m a
seat_less m i a seat x y w q here less = subst (λ (b : ℕ). left (with_step m i y w q) b < left m b) seat (left_less m i x y q w here less)

-- what is read at the seat of an actor that has a task and wants nothing
pub record OwnSeat (m : Parts) (i a : ℕ) (x : ClientState) : Type 0 where
  pub seat : suc i ≡ a
  pub here : nth m.clients i ≡ Some x
  pub has : HasTask x
  pub free : x.want ≡ Nothing

pub own_seat : (m p : Parts) (i a : ℕ) (x : ClientState) → m ≡ p → i + 1 ≡ a → IsBusy p a → WantsNothing (nth p.clients i) → x ≡ get_or m.clients i x → OwnSeat m i a x
own_seat m p i a x same seat busy own read =
    let b : IsBusy m a = subst (λ (z : Parts). IsBusy z a) (sym same) busy in
    let place : suc i ≡ a = omega arith in
    let here : nth m.clients i ≡ Some x = nth_here m.clients i x (busy_within m i a place b) read in
    record {
      seat = place;
      here = here;
      has = busy_here m i a x place here b;
      free = subst WantsNothing (ap (λ (z : Parts). nth z.clients i) (sym same) ∙ here) own;
    }

-- such a client has made fewer accesses since its last start than a call makes at most
own_few : (o : Opening) (m : Parts) (rs : List Record) (at : IsAt o m rs) (i : ℕ) (x : ClientState) (here : nth m.clients i ≡ Some x) → IsOwnPhase (at.each i x here).phase → length (since_of x.node (view_at m.pool i)) < most_made x.node.caller.pool
own_few o m rs at i x here own = go (is_called x.node.caller.under)
  where
    was : IsClientAt o m.pool i x rs
    was = at.each i x here

    go : (x.node.caller.under ≡ NoCall) ⊎ (x.node.caller.under ≢ NoCall) → length (since_of x.node (view_at m.pool i)) < most_made x.node.caller.pool
    go (inl none) =
        let first = counts_for_new x.node (view_at m.pool i) (call_at x (view_at m.pool i)) (own_busy was.phase x own was.stands.phase) none was.stands.holds.asked in
        let few : length (since_of x.node (view_at m.pool i)) ≡ 0 = ap (λ (b : Bool). length (cond b [] (view_at m.pool i).pass.since)) first.0 in
        omega (arith, few)
    go (inr called) = subst (λ (p : Pool). length (since_of x.node (view_at m.pool i)) < most_made p) (sym was.stands.pool)
        (since_few o.setup.pool (standing o (suc i) rs) (view_at m.pool i) x (call_at x (view_at m.pool i)) (call_at x (view_at m.pool i)) called was.stands.pool was.stands.holds (was.goes called))

-- what a step of the client says in every run
abbrev pub GoesOwn : Parts → ℕ → ClientState → ClientState → Plain → Note → Type 0
GoesOwn m a x y q note = (o : Opening) (i : ℕ) (f : Phase) → suc i ≡ a → IsOwnPhase f → Stands o m.pool i x f → Went o i f x y m.pool q note

-- the client of seat i makes an access of its own
module _ (m : Parts) (i a : ℕ) (seat : suc i ≡ a) (x : ClientState) (here : nth m.clients i ≡ Some x) (has : HasTask x) (free : x.want ≡ Nothing) where
  -- so it stands where its accesses are its own
  pub own_stands : IsBehind m → (o : Opening) × (j : ℕ) × (f : Phase) × (suc j ≡ a) × IsOwnPhase f × Stands o m.pool j x f
  own_stands (o, rs, at) = let was = at.each i x here in (o, i, was.phase, seat, own_phase was.phase x free has was.stands.phase, was.stands)

  module _ (y : ClientState) (q : Plain) (runs : q.opened ≡ true → Running q) where
    pub own_happens : (note : Note) → GoesOwn m a x y q note → Happens m (with_step m i y m.served q) (Step a) note
    own_happens note went o rs at =
        let was = at.each i x here in
        let own = own_phase was.phase x free has was.stands.phase in
        let w = went o i was.phase seat own was.stands in
        let running : Running q = runs (w.moved.opened ∙ at.pool.opened) in
        (_, ap Step seat, refl, owned_client o m rs at i x y q note here own w running, owned_told o m rs at i x y q note here own w running)

    pub own_behind : (r : Result Note OutOfMemory) → IfOk r (GoesOwn m a x y q) → OnErr r ((y ≡ x) × Kept m.pool q) → IsBehind m → IsBehind (with_step m i y m.served q)
    own_behind (Ok note) went same b = behind m (with_step m i y m.served q) (Step a) note (own_happens note went) b
    own_behind (Err fault) went same b = (b.0, b.1, kept_at b.0 m (with_step m i y m.served q) b.1 (same_parts m i x y m.served q here same.0 refl same.1) b.2)

    pub own_ok : (p : Parts) (r : Result Note OutOfMemory) → m ≡ p → IfOk r (GoesOwn m a x y q) → IfOk r (Happens p (with_step m i y m.served q) (Step a))
    own_ok p r same went = IfOk-weaker r (GoesOwn m a x y q) (Happens p (with_step m i y m.served q) (Step a)) (λ note w. subst (λ (z : Parts). Happens z (with_step m i y m.served q) (Step a) note) same (own_happens note w)) went

    pub own_parts : (p : Parts) (r : Result Note OutOfMemory) → m ≡ p → IfOk r (GoesOwn m a x y q) → IsBehind m → IfOk r (λ note. Continues p (with_step m i y m.served q))
    own_parts p r same went b = IfOk-weaker r (GoesOwn m a x y q) (λ note. Continues p (with_step m i y m.served q)) (λ note w.
        let s = own_stands b in
        record { setup = ap (λ (z : Parts). z.setup) same; traced = (w s.0 s.1 s.2 s.3 s.4 s.5).moved.traced ∙ ap (λ (z : Parts). z.pool.traced) same }) went

    less : (note : Note) → GoesOwn m a x y q note → IsBehind m → left (with_step m i y m.served q) a < left m a
    less note went (o, rs, at) =
        let was = at.each i x here in
        let own = own_phase was.phase x free has was.stands.phase in
        seat_less m i a seat x y m.served q here
        (own_less o i was.phase x y m.pool q note m.served.server (standing o (suc i) rs) was.stands own (is_of o m.pool i x rs at.pool was) was.matches (own_few o m rs at i x here own) (went o i was.phase seat own was.stands))

    pub own_lowers : (p : Parts) (r : Result Note OutOfMemory) → m ≡ p → IfOk r (GoesOwn m a x y q) → IsBehind m → IfOk r (λ note. left (with_step m i y m.served q) a < left p a)
    own_lowers p r same went b = IfOk-weaker r (GoesOwn m a x y q) (λ note. left (with_step m i y m.served q) a < left p a) (λ note w. subst (λ (z : Parts). left (with_step m i y m.served q) a < left z a) same (less note w b)) went

-- what a step of the server for the client says in every run
abbrev pub GoesServed : Parts → ℕ → ClientState → ClientState → Served → Plain → Note → Type 0
GoesServed m a x y w q note = (o : Opening) (i : ℕ) → suc i ≡ a → MayServe o i x m.served m.pool → WasServed o i x y m.served w m.pool q note

-- what is read at the seat of an actor that wants something
pub record ServedSeat (m : Parts) (i a : ℕ) (x : ClientState) : Type 0 where
  pub seat : suc i ≡ a
  pub here : nth m.clients i ≡ Some x
  pub some : x.want ≢ Nothing

pub served_seat : (m p : Parts) (i a : ℕ) (x : ClientState) → m ≡ p → i + 1 ≡ a → i < length p.clients → (WantsNothing (nth p.clients i) → ⊥) → x ≡ get_or m.clients i x → ServedSeat m i a x
served_seat m p i a x same seat inside wants read =
    let here : nth m.clients i ≡ Some x = nth_here m.clients i x (subst (λ (z : Parts). i < length z.clients) (sym same) inside) read in
    record {
      seat = omega arith;
      here = here;
      some = λ none. wants (subst WantsNothing (sym (ap (λ (z : Parts). nth z.clients i) (sym same) ∙ here)) none);
    }

-- the client of seat i, which wants something, has its step
module _ (m : Parts) (i a : ℕ) (seat : suc i ≡ a) (x : ClientState) (here : nth m.clients i ≡ Some x) (some : x.want ≢ Nothing) (runs : m.pool.opened ≡ true → Running m.pool) where
  is_wants : (o : Opening) (rs : List Record) (at : IsAt o m rs) → (at.each i x here).phase ≡ Wants
  is_wants o rs at = wants_phase (at.each i x here).phase x some (at.each i x here).stands.phase

  may : (o : Opening) (rs : List Record) → IsAt o m rs → MayServe o i x m.served m.pool
  may o rs at = record { stands = subst (Stands o m.pool i x) (is_wants o rs at) (at.each i x here).stands; server = at.server; running = runs at.pool.opened }

  -- so it may be served
  pub served_may : IsBehind m → (o : Opening) × (j : ℕ) × (suc j ≡ a) × MayServe o j x m.served m.pool
  served_may (o, rs, at) = (o, i, seat, may o rs at)

  module _ (y : ClientState) (w : Served) (q : Plain) (behind_runs : q.opened ≡ true → Running q) where
    pub served_happens : (note : Note) → GoesServed m a x y w q note → Happens m (with_step m i y w q) (Step a) note
    served_happens note went o rs at =
        let had = went o i seat (may o rs at) in
        let running : Running q = behind_runs (had.moved.opened ∙ at.pool.opened) in
        (_, ap Step seat, refl, attended_client o m rs at i x y w q note here (is_wants o rs at) had running, attended_told o m rs at i x y w q note here (is_wants o rs at) had running)

    pub served_behind : (r : Result Note OutOfMemory) → IfOk r (GoesServed m a x y w q) → OnErr r ((y ≡ x) × (w ≡ m.served) × Kept m.pool q) → IsBehind m → IsBehind (with_step m i y w q)
    served_behind (Ok note) went same b = behind m (with_step m i y w q) (Step a) note (served_happens note went) b
    served_behind (Err fault) went same b = (b.0, b.1, kept_at b.0 m (with_step m i y w q) b.1 (same_parts m i x y w q here same.0 same.1 same.2) b.2)

    pub served_ok : (p : Parts) (r : Result Note OutOfMemory) → m ≡ p → IfOk r (GoesServed m a x y w q) → IfOk r (Happens p (with_step m i y w q) (Step a))
    served_ok p r same went = IfOk-weaker r (GoesServed m a x y w q) (Happens p (with_step m i y w q) (Step a)) (λ note g. subst (λ (z : Parts). Happens z (with_step m i y w q) (Step a) note) same (served_happens note g)) went

    pub served_parts : (p : Parts) (r : Result Note OutOfMemory) → m ≡ p → IfOk r (GoesServed m a x y w q) → IsBehind m → IfOk r (λ note. Continues p (with_step m i y w q))
    served_parts p r same went b = IfOk-weaker r (GoesServed m a x y w q) (λ note. Continues p (with_step m i y w q)) (λ note g.
        record { setup = ap (λ (z : Parts). z.setup) same; traced = (g b.0 i seat (may b.0 b.1 b.2)).moved.traced ∙ ap (λ (z : Parts). z.pool.traced) same }) went

    -- want of memory changed nothing
    pub served_same : (p : Parts) (r : Result Note OutOfMemory) → m ≡ p → OnErr r ((y ≡ x) × (w ≡ m.served) × Kept m.pool q) → OnErr r (IsSame p (with_step m i y w q))
    served_same p (Ok note) same kept = tt
    served_same p (Err fault) same kept = subst (λ (z : Parts). IsSame z (with_step m i y w q)) same (same_parts m i x y w q here kept.0 kept.1 kept.2)

    -- nobody else holds the server, where it does not only wait
    acts : (OnlyWaits m a → ⊥) → is_elsewhere m.served.holder (suc i) ≡ false
    acts not = go (is_elsewhere m.served.holder (suc i)) refl
      where
        go : (b : Bool) → is_elsewhere m.served.holder (suc i) ≡ b → is_elsewhere m.served.holder (suc i) ≡ false
        go false e = e
        go true e = absurd (not (subst (OnlyWaits m) seat (subst (WaitsFor m.served (suc i)) (sym here) (some, e))))

    less_served : (note : Note) → GoesServed m a x y w q note → IsBehind m → (OnlyWaits m a → ⊥) → left (with_step m i y w q) a < left m a
    less_served note went (o, rs, at) not =
        let was = at.each i x here in
        let given = may o rs at in
        let had = went o i seat given in
        let matches = subst (λ (f : Phase). Matches x (view_at m.pool i) f (doing (suc i) rs)) (is_wants o rs at) was.matches in
        seat_less m i a seat x y w q here
        (served_less o i x y m.served w m.pool q note (standing o (suc i) rs) given had had.lowers (behind_runs (had.moved.opened ∙ at.pool.opened)) (is_of o m.pool i x rs at.pool was) matches (sym at.served) (acts not) was.lacks)

    pub served_lowers : (p : Parts) (r : Result Note OutOfMemory) → m ≡ p → IfOk r (GoesServed m a x y w q) → IsBehind m → IfOk r (λ note. (OnlyWaits p a → ⊥) → left (with_step m i y w q) a < left p a)
    served_lowers p r same went b = IfOk-weaker r (GoesServed m a x y w q) (λ note. (OnlyWaits p a → ⊥) → left (with_step m i y w q) a < left p a)
        (λ note g. subst (λ (z : Parts). (OnlyWaits z a → ⊥) → left (with_step m i y w q) a < left z a) same (less_served note g b)) went
