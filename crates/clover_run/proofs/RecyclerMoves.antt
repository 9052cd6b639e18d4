-- What an access of the server for the recycler makes of a plain pool: it was made or refused, and the server stands there again.
use Rattle.std.proofs.Common.{◌≡◌, ℕ, ◌+◌, ◌-◌, ◌^◌, ◌<◌, ◌≤◌, [], Bool, true, false, refl, ◌∙◌, subst}
use Rattle.std.specs.Prelude.{Option, Some}
use Rattle.clover_port.specs.Told.{Made}
use Rattle.clover_rule.specs.Steps.{Step, act_of}
use Rattle.clover_plain.specs.Plain.{Plain, Refused, Stepped, history, open_of, view_at}
use Rattle.clover_plain.specs.Ports.{MadeBy, FailedBy}
use Rattle.clover_plain.specs.declared.port.PlainPort.{PlainPort}
use Rattle.clover_server.specs.Going.{server_step}
use Rattle.clover_server.specs.Holding.{Agrees}
use Rattle.clover_server.specs.Left.{Lessens, sweep_left}
use Rattle.clover_server.specs.Looking.{given_back}
use Rattle.clover_server.specs.Server.{ServerState}
use Rattle.clover_server.specs.Told.{IsOwnTurn}
use Rattle.clover_server.specs.declared.turn.ServerTurn.{ServerTurn}
use Rattle.clover_run.specs.Cleaning.{Cleans}
use Rattle.clover_run.specs.Recycling.{RecycledFor}
use Rattle.clover_run.specs.Serving.{Telling, telling}
use Rattle.clover_run.specs.Working.{HasServer}
use Rattle.clover_run.proofs.Moving.{history_made, history_refused, moved_served, moved_unserved, others_made, others_refused, servers_access}
use Rattle.clover_run.proofs.ServerMoves.{made_own, refused_own, server_again, server_quiet}
use Rattle.clover_run.proofs.ServerTells.{cleans}

-- What an access through a port at the server's seat makes of the pool, where the port lists its first access.
module _ (slot : Option ℕ) (s n : ServerState) (turn : ServerTurn) (port new : PlainPort) (h : HasServer port.pool.now s) (few : port.pool.now.made < 2 ^ 64 - 1) (seat : port.seat ≡ port.pool.now.setup.clients) (list : port.list ≡ true)
    (agrees : Agrees new.pool.now.setup.pool [] n (view_at new.pool.now new.seat)) (lessens : Lessens turn (sweep_left s) (sweep_left n)) (gives : given_back n ≤ given_back s + 1) (own : IsOwnTurn turn) where
  abbrev p : Plain
  p = port.pool.now

  abbrev q : Plain
  q = new.pool.now

  abbrev t : Telling
  t = record { made = λ (a : Step) (x : ℕ). MadeBy port a false x new; failed = FailedBy port new; still = new ≡ port }

  made_so : (b : ServerState) (x : ℕ) → MadeBy port (server_step b) false x new → ((u : Telling) → u.made (server_step b) x → Cleans slot s n turn u) → RecycledFor slot port.refuse new.refuse s n p q turn
  made_so b x m again =
      let a = server_step b in
      let st : Stepped a false true p.setup.clients x p q = subst (λ (z : Bool). Stepped a false z p.setup.clients x p q) list (subst (λ (z : ℕ). Stepped a false port.list z x p q) seat m.0) in
      let made = subst (λ (z : ℕ). Made p.setup.pool a false (view_at p port.seat) (Some (open_of p)) x (view_at q z) (Some (open_of q))) m.2 m.1 in
      let quiet : history q ≡ history p = history_made port.seat p q a false x made ∙ server_quiet b (history p) (view_at p port.seat) x in
      let moves = moved_served p.setup.clients p q a false x st refl few h.entered quiet in
      record {
        access = servers_access (act_of a x) false;
        is = made_own p q a x port.refuse st m.5;
        cleans = again (telling (Some (servers_access (act_of a x) false))) refl;
        refusing_is = m.6;
        moved = moves;
        others = others_made p.setup.clients p q a false true x st;
        server = server_again p q s n new.seat h st.same quiet moves.seats (m.2 ∙ seat) agrees;
        lessens = lessens;
        gives = gives;
        own = own;
      }

  failed_so : FailedBy port new → ((u : Telling) → u.failed → Cleans slot s n turn u) → RecycledFor slot port.refuse new.refuse s n p q turn
  failed_so m again =
      let a = m.0.0 in
      let r : Refused (act_of a 0) p.setup.clients p q = subst (λ (z : ℕ). Refused (act_of a 0) z p q) seat m.0.1 in
      let moves = moved_unserved p.setup.clients p q (act_of a 0) r refl h.entered in
      record {
        access = servers_access (act_of a 0) true;
        is = refused_own p a port.refuse m.4;
        cleans = again (telling (Some (servers_access (act_of a 0) true))) (act_of a 0, refl);
        refusing_is = m.5;
        moved = moves;
        others = others_refused p.setup.clients p q (act_of a 0) r;
        server = server_again p q s n new.seat h r.same (history_refused p.setup.clients p q (act_of a 0) r) moves.seats (m.1 ∙ seat) agrees;
        lessens = lessens;
        gives = gives;
        own = own;
      }

  pub recycled_so : Cleans slot s n turn t → RecycledFor slot port.refuse new.refuse s n p q turn
  recycled_so w = cleans s n turn t (RecycledFor slot port.refuse new.refuse s n p q turn) slot w made_so failed_so

  -- the port still has the pool that it had
  pub recycled_lender : Cleans slot s n turn t → new.pool.ghost_name ≡ port.pool.ghost_name
  recycled_lender w = cleans s n turn t (new.pool.ghost_name ≡ port.pool.ghost_name) slot w (λ b x m again. m.4) (λ m again. m.3)

-- the same, said of equal pools
pub recycled_as : (slot : Option ℕ) (s n : ServerState) (turn : ServerTurn) (p0 p1 q0 q1 : Plain) (r0 r1 after : Bool) → p0 ≡ p1 → q0 ≡ q1 → r0 ≡ r1 → RecycledFor slot r0 after s n p0 q0 turn → RecycledFor slot r1 after s n p1 q1 turn
recycled_as slot s n turn p0 p1 q0 q1 r0 r1 after before behind refusing w =
    subst (λ (r : Bool). RecycledFor slot r after s n p1 q1 turn) refusing
    (subst (λ (z : Plain). RecycledFor slot r0 after s n p1 z turn) behind (subst (λ (z : Plain). RecycledFor slot r0 after s n z q0 turn) before w))
