-- What a step of the server makes of a plain pool: its one access was made or refused, or it made none; the server stands there again.
use Rattle.std.proofs.Common.{◌≡◌, ℕ, ◌-◌, ◌^◌, ◌<◌, List, [], length, Bool, true, false, refl, sym, ap, ◌∙◌, subst}
use Rattle.std.specs.Prelude.{Option, Some, None}
use Rattle.clover_words.specs.declared.setup.Setup.{Setup}
use Rattle.clover_map.specs.declared.call.Call.{Call}
use Rattle.clover_map.specs.declared.call.Entry.{Entry}
use Rattle.clover_port.specs.Told.{Made}
use Rattle.clover_rule.specs.Learned.{next_history}
use Rattle.clover_rule.specs.Steps.{Step, act_of}
use Rattle.clover_rule.specs.declared.view.View.{View}
use Rattle.clover_dir.specs.Directory.{Bindings}
use Rattle.clover_dir.specs.Task.{UnderWay, bind_step}
use Rattle.clover_dir.specs.declared.stage.Stage.{Stage}
use Rattle.clover_dir.specs.declared.stage.Stage.TheVariants.{Tombstone, FlushedTombstone, Key, FlushedKey, Root, FlushedRoot, Count, Over}
use Rattle.clover_recycle.specs.Recycling.{RecycleState, recycle_step}
use Rattle.clover_recycle.specs.declared.stage.Stage.{Stage as RecycleStage}
use Rattle.clover_recycle.specs.declared.stage.Stage.TheVariants.{AtVersion, AtLink, AtRoot, AtFlushedRoot, AtPass, AtFree, Over as RecycleOver}
use Rattle.clover_plain.specs.Plain.{Plain, Refused, Same, Stepped, history, open_of, view_at}
use Rattle.clover_plain.specs.Ports.{MadeBy, FailedBy}
use Rattle.clover_plain.specs.declared.port.PlainPort.{PlainPort}
use Rattle.clover_server.specs.Going.{server_step, work_step}
use Rattle.clover_server.specs.Holding.{Agrees}
use Rattle.clover_server.specs.Left.{OnMore, work_left}
use Rattle.clover_server.specs.Server.{ServerState}
use Rattle.clover_server.specs.declared.turn.ServerTurn.{ServerTurn}
use Rattle.clover_server.specs.declared.work.Unfinished.{Unfinished}
use Rattle.clover_server.specs.declared.work.Work.{Work}
use Rattle.clover_server.specs.declared.work.Work.TheVariants.{Binding, Recycling}
use Rattle.clover_run.specs.Client.{Moved}
use Rattle.clover_run.specs.Serving.{Telling, Serves, telling}
use Rattle.clover_run.specs.Working.{HasServer, IsServersOwn, Worked}
use Rattle.clover_run.specs.declared.want.Want.{Want}
use Rattle.clover_run.proofs.Moving.{blank_act, came_back, history_made, history_refused, moved_served, moved_unserved, others_made, others_refused, servers_access}
use Rattle.clover_run.proofs.Placing.{moved_none}
use Rattle.clover_run.proofs.ServerTells.{serves}

-- a step of the server adds no entry
recycle_quiet : (c : RecycleState) (at : RecycleStage) (h : List Entry) (v : View) (x : ℕ) → next_history (recycle_step (record c { stage = at })) h v x ≡ h
recycle_quiet c AtVersion h v x = refl
recycle_quiet c (AtLink t) h v x = refl
recycle_quiet c (AtRoot t) h v x = refl
recycle_quiet c (AtFlushedRoot t) h v x = refl
recycle_quiet c (AtPass t) h v x = refl
recycle_quiet c (AtFree t) h v x = refl
recycle_quiet c RecycleOver h v x = refl

bind_quiet : (c : UnderWay) (d : Bindings) (at : Stage) (h : List Entry) (v : View) (x : ℕ) → next_history (bind_step (record c { stage = at }) d) h v x ≡ h
bind_quiet c d Tombstone h v x = refl
bind_quiet c d FlushedTombstone h v x = refl
bind_quiet c d (Key j) h v x = refl
bind_quiet c d (FlushedKey j) h v x = refl
bind_quiet c d Root h v x = refl
bind_quiet c d FlushedRoot h v x = refl
bind_quiet c d Count h v x = refl
bind_quiet c d Over h v x = refl

work_quiet : (d : Bindings) (w : Work) (h : List Entry) (v : View) (x : ℕ) → next_history (work_step d w) h v x ≡ h
work_quiet d (Binding own c) h v x = bind_quiet c d c.stage h v x
work_quiet d (Recycling slot c) h v x = recycle_quiet c c.stage h v x

pub server_quiet : (s : ServerState) (h : List Entry) (v : View) (x : ℕ) → next_history (server_step s) h v x ≡ h
server_quiet s h v x = by s.task refl
  where
    by : (t : Option Unfinished) → s.task ≡ t → next_history (server_step s) h v x ≡ h
    by None e = subst (λ (z : Option Unfinished). next_history (server_step (record s { task = z })) h v x ≡ h) (sym e) refl
    by (Some u) e = subst (λ (z : Option Unfinished). next_history (server_step (record s { task = z })) h v x ≡ h) (sym e) (work_quiet s.directory u.work h v x)

-- the server stands in a pool that it has left so
pub server_again : (p q : Plain) (s n : ServerState) (seat : ℕ) → HasServer p s → Same p q → history q ≡ history p → length q.views ≡ length p.views → seat ≡ p.setup.clients → Agrees q.setup.pool [] n (view_at q seat) → HasServer q n
server_again p q s n seat h same quiet seats at agrees = record {
  opened = same.opened ∙ h.opened;
  entered = same.entries ∙ h.entered ∙ sym quiet;
  seat = subst (λ (z : Setup). z.clients < length q.views) (sym same.setup) (subst (λ (k : ℕ). p.setup.clients < k) (sym seats) h.seat);
  agrees = subst (λ (k : ℕ). Agrees q.setup.pool [] n (view_at q k)) (at ∙ sym (ap (λ (z : Setup). z.clients) same.setup)) agrees;
}

-- the access is the server's own: it was made where it was not to be refused, and refused where it was
pub made_own : (p q : Plain) (a : Step) (x : ℕ) (refusing : Bool) → Stepped a false true p.setup.clients x p q → refusing ≡ false → IsServersOwn p refusing (servers_access (act_of a x) false)
made_own p q a x refusing st free = record {
  actor = refl;
  refused = sym free;
  blank = λ e. absurd (let z : false ≡ true = e in cc);
  replays = λ e. came_back p.setup.clients p q a false true x st;
}

pub refused_own : (p : Plain) (a : Step) (refusing : Bool) → refusing ≡ true → IsServersOwn p refusing (servers_access (act_of a 0) true)
refused_own p a refusing asked = record {
  actor = refl;
  refused = sym asked;
  blank = λ e. blank_act a;
  replays = λ e. absurd (let z : true ≡ false = e in cc);
}

-- What a step through a port at the server's seat makes of the pool, where the port lists its first access.
module _ (want : Want) (call : Call) (s n : ServerState) (turn : ServerTurn) (port new : PlainPort) (h : HasServer port.pool.now s) (few : port.pool.now.made < 2 ^ 64 - 1) (seat : port.seat ≡ port.pool.now.setup.clients) (list : port.list ≡ true)
    (agrees : Agrees new.pool.now.setup.pool [] n (view_at new.pool.now new.seat)) (lowers : OnMore turn (work_left n < work_left s)) where
  abbrev p : Plain
  p = port.pool.now

  abbrev q : Plain
  q = new.pool.now

  abbrev t : Telling
  t = record { made = λ (a : Step) (x : ℕ). MadeBy port a false x new; failed = FailedBy port new; still = new ≡ port }

  made_so : (b : ServerState) (x : ℕ) → MadeBy port (server_step b) false x new → ((u : Telling) → u.made (server_step b) x → Serves want call s n turn u) → Worked want call port.refuse new.refuse s n p q turn
  made_so b x m again =
      let a = server_step b in
      let st : Stepped a false true p.setup.clients x p q = subst (λ (z : Bool). Stepped a false z p.setup.clients x p q) list (subst (λ (z : ℕ). Stepped a false port.list z x p q) seat m.0) in
      let made = subst (λ (z : ℕ). Made p.setup.pool a false (view_at p port.seat) (Some (open_of p)) x (view_at q z) (Some (open_of q))) m.2 m.1 in
      let quiet : history q ≡ history p = history_made port.seat p q a false x made ∙ server_quiet b (history p) (view_at p port.seat) x in
      let moves = moved_served p.setup.clients p q a false x st refl few h.entered quiet in
      record {
        access = Some (servers_access (act_of a x) false);
        is = made_own p q a x port.refuse st m.5;
        serves = again (telling (Some (servers_access (act_of a x) false))) refl;
        refusing_is = m.6;
        moved = moves;
        others = others_made p.setup.clients p q a false true x st;
        server = server_again p q s n new.seat h st.same quiet moves.seats (m.2 ∙ seat) agrees;
        lowers = lowers;
      }

  failed_so : FailedBy port new → ((u : Telling) → u.failed → Serves want call s n turn u) → Worked want call port.refuse new.refuse s n p q turn
  failed_so m again =
      let a = m.0.0 in
      let r : Refused (act_of a 0) p.setup.clients p q = subst (λ (z : ℕ). Refused (act_of a 0) z p q) seat m.0.1 in
      let moves = moved_unserved p.setup.clients p q (act_of a 0) r refl h.entered in
      record {
        access = Some (servers_access (act_of a 0) true);
        is = refused_own p a port.refuse m.4;
        serves = again (telling (Some (servers_access (act_of a 0) true))) (act_of a 0, refl);
        refusing_is = m.5;
        moved = moves;
        others = others_refused p.setup.clients p q (act_of a 0) r;
        server = server_again p q s n new.seat h r.same (history_refused p.setup.clients p q (act_of a 0) r) moves.seats (m.1 ∙ seat) agrees;
        lowers = lowers;
      }

  still_so : new ≡ port → ((u : Telling) → u.still → Serves want call s n turn u) → Worked want call port.refuse new.refuse s n p q turn
  still_so e again =
      let back : p ≡ q = ap (λ (z : PlainPort). z.pool.now) (sym e) in
      record {
        access = None;
        is = tt;
        serves = again (telling None) refl;
        refusing_is = ap (λ (z : PlainPort). z.refuse) e;
        moved = subst (Moved None None p) back (moved_none p h.entered);
        others = λ j ne. ap (λ (z : Plain). view_at z j) (sym back);
        server = record {
          opened = subst (λ (z : Plain). z.opened ≡ true) back h.opened;
          entered = subst (λ (z : Plain). z.entries ≡ history z) back h.entered;
          seat = subst (λ (z : Plain). z.setup.clients < length z.views) back h.seat;
          agrees = subst (λ (k : ℕ). Agrees q.setup.pool [] n (view_at q k)) (ap (λ (z : PlainPort). z.seat) e ∙ seat ∙ ap (λ (z : Plain). z.setup.clients) back) agrees;
        };
        lowers = lowers;
      }

  pub worked_so : Serves want call s n turn t → Worked want call port.refuse new.refuse s n p q turn
  worked_so w = serves s n turn t (Worked want call port.refuse new.refuse s n p q turn) want call w made_so failed_so still_so

  -- the port still has the pool that it had
  pub same_lender : Serves want call s n turn t → new.pool.ghost_name ≡ port.pool.ghost_name
  same_lender w = serves s n turn t (new.pool.ghost_name ≡ port.pool.ghost_name) want call w (λ b x m again. m.4) (λ m again. m.3) (λ e again. ap (λ (z : PlainPort). z.pool.ghost_name) e)

-- the same, said of equal pools
pub worked_as : (want : Want) (call : Call) (s n : ServerState) (turn : ServerTurn) (p0 p1 q0 q1 : Plain) (r0 r1 after : Bool) → p0 ≡ p1 → q0 ≡ q1 → r0 ≡ r1 → Worked want call r0 after s n p0 q0 turn → Worked want call r1 after s n p1 q1 turn
worked_as want call s n turn p0 p1 q0 q1 r0 r1 after before behind refusing w =
    subst (λ (r : Bool). Worked want call r after s n p1 q1 turn) refusing
    (subst (λ (z : Plain). Worked want call r0 after s n p1 z turn) behind (subst (λ (z : Plain). Worked want call r0 after s n z q0 turn) before w))
