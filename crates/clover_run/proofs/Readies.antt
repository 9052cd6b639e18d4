-- What the answers of a step of the server for a call tell of it: nothing is unfinished behind `Ready`, and a want is never told of a recycling.
use Rattle.std.proofs.Common.{◌≡◌, ℕ, ◌<◌, ◌≤◌, List, Bool, true, false, refl, sym, ap, ◌∙◌, subst}
use Rattle.std.specs.Prelude.{Option, Some, None}
use Rattle.clover_map.specs.History.{key_of}
use Rattle.clover_map.specs.declared.call.Call.{Call}
use Rattle.clover_map.specs.declared.call.Call.TheVariants.{Get, Put, Delete, Swap}
use Rattle.clover_server.specs.Going.{went, answer_of}
use Rattle.clover_server.specs.Looking.{free_in, room_of}
use Rattle.clover_server.specs.Server.{ServerState}
use Rattle.clover_server.specs.Steps.{Due, Finishes, Sweeps, Recycles, Binds as BindsFor, Answers, OnAccess, WantStep, all_swept, by_room, ended as want_over, full_if, full_turn, named_due, or_finish, stock_due, swept_on, swept_turn}
use Rattle.clover_server.specs.Told.{IsWantTurn}
use Rattle.clover_server.specs.Whole.{IsNamed}
use Rattle.clover_node.specs.Node.{IsPut}
use Rattle.clover_server.specs.declared.due.Room.{Room}
use Rattle.clover_server.specs.declared.due.Room.TheVariants.{Swept, Full as NoRoom, Free as HasRoom}
use Rattle.clover_server.specs.declared.turn.ServerTurn.{ServerTurn}
use Rattle.clover_server.specs.declared.turn.ServerTurn.TheVariants.{More, Ready, Unlinked, Recycled, Full, NoSlot, Unreached}
use Rattle.clover_server.specs.declared.work.Unfinished.{Unfinished}
use Rattle.clover_server.proofs.Repeating.{finishes_idle, idle_answers, named_ready}
use Rattle.clover_server.proofs.Steps.{found_room}
use Rattle.clover_run.specs.Serving.{Binds, Clears, Serves, Telling}
use Rattle.clover_run.specs.declared.want.Want.{Want}
use Rattle.clover_run.specs.declared.want.Want.TheVariants.{Nothing, Stock, Names}

-- the answer that is due without an access
abbrev answer_in : Due → ServerTurn
answer_in (Answers turn) = turn
answer_in due = More

-- Behind this answer nothing is unfinished and no want is under way, no access was made, a buffer is free where stock was wanted, and a put's key is bound where that was.
pub record IsReady (want : Want) (call : Call) (n : ServerState) (t : Telling) : Type 0 where
  pub idle : n.task ≡ None
  pub ended : n.sweep ≡ None
  pub free : want ≡ Stock → 0 < free_in n
  pub named : want ≡ Names → IsPut call → IsNamed (key_of call) n
  pub still : t.still

-- stock is no bindings
stock_names : Stock ≡ Names → ⊥
stock_names e = cc

module _ (s n : ServerState) (t : Telling) where
  -- what is due was the answer, without an access
  answered : (due : Due) → due ≡ Answers Ready → WantStep due s n Ready t.made t.failed t.still → t.still
  answered due e w = (subst (λ (z : Due). WantStep z s n Ready t.made t.failed t.still) e w).0

  ready_by : (want : Want) (call : Call) (due : Due) → s.task ≡ None → (want ≡ Stock → 0 < free_in s) → (want ≡ Names → IsPut call → IsNamed (key_of call) n) → WantStep due s n Ready t.made t.failed t.still → IsReady want call n t
  ready_by want call due idle free named w =
      let a = idle_answers s n Ready t.made t.failed t.still due tt w in
      record {
        idle = ap (λ (z : ServerState). z.task) a.1 ∙ idle;
        ended = ap (λ (z : ServerState). z.sweep) a.1;
        free = λ e. subst (λ (z : ServerState). 0 < free_in z) (sym a.1) (free e);
        named = named;
        still = answered due a.0 w;
      }

  -- a want of stock has a buffer
  room_free : (room : Room) → by_room s room (Answers Ready) ≡ Answers Ready → room ≡ HasRoom
  room_free (Swept slot) e = absurd (let z : More ≡ Ready = ap answer_in e in cc)
  room_free NoRoom e = absurd (let z : full_turn s ≡ Ready = ap answer_in e in cc)
  room_free HasRoom e = refl

  stock_ready : (call : Call) → 1 ≤ s.setup.batch → WantStep (stock_due s) s n Ready t.made t.failed t.still → IsReady Stock call n t
  stock_ready call some w = by s.task refl (idle_answers s n Ready t.made t.failed t.still (stock_due s) tt w).0
    where
      by : (u : Option Unfinished) → s.task ≡ u → or_finish u (by_room s (room_of s s.setup.batch) (Answers Ready)) ≡ Answers Ready → IsReady Stock call n t
      by None idle e = ready_by Stock call (stock_due s) idle (λ k. found_room s s.setup.batch HasRoom some (sym (room_free (room_of s s.setup.batch) e))) (λ k. absurd (stock_names k)) w
      by (Some u) idle e = absurd (let z : More ≡ Ready = ap answer_in e in cc)

  -- a want of bindings is none of stock
  binds_ready : (u : Option Unfinished) (key : List ℕ) (call : Call) → key_of call ≡ key → s.task ≡ u → Binds u key s n Ready t → IsReady Names call n t
  binds_ready None key call is idle h =
      ready_by Names call (named_due s key h.0 h.1) idle (λ k. absurd (stock_names (sym k))) (λ k put. subst (λ (z : List ℕ). IsNamed z n) (sym is) (named_ready s n key t.made t.failed t.still h.0 h.1 idle h.2 h.4)) h.4
  binds_ready (Some u) key call is idle h = absurd (finishes_idle s n key t.made t.failed t.still Ready tt h)

  clears_ready : (u : Option Unfinished) (call : Call) → (IsPut call → ⊥) → s.task ≡ u → Clears u s n Ready t → IsReady Names call n t
  clears_ready None call unput idle h = record { idle = ap (λ (z : ServerState). z.task) h.1 ∙ idle; ended = ap (λ (z : ServerState). z.sweep) h.1; free = λ k. absurd (stock_names (sym k)); named = λ k put. absurd (unput put); still = h.2 }
  clears_ready (Some u) call unput idle h = absurd (let z : Ready ≡ More = h.1.2 in cc)

  pub serves_ready : (want : Want) (call : Call) → 1 ≤ s.setup.batch → Serves want call s n Ready t → IsReady want call n t
  serves_ready Nothing call some h = absurd h
  serves_ready Stock call some h = stock_ready call some h
  serves_ready Names (Put key value) some h = binds_ready s.task key (Put key value) refl refl h
  serves_ready Names (Get key) some h = clears_ready s.task (Get key) (λ put. put) refl h
  serves_ready Names (Delete key) some h = clears_ready s.task (Delete key) (λ put. put) refl h
  serves_ready Names (Swap key expected value) some h = clears_ready s.task (Swap key expected value) (λ put. put) refl h

  -- no access was made, no task is left, and a put's key is bound where that was wanted
  pub ready_still : (want : Want) (call : Call) → Serves want call s n Ready t → t.still
  ready_still Nothing call h = absurd h
  ready_still Stock call h = answered (stock_due s) (idle_answers s n Ready t.made t.failed t.still (stock_due s) tt h).0 h
  ready_still Names (Put key value) h = (binds_ready s.task key (Put key value) refl refl h).still
  ready_still Names (Get key) h = (clears_ready s.task (Get key) (λ put. put) refl h).still
  ready_still Names (Delete key) h = (clears_ready s.task (Delete key) (λ put. put) refl h).still
  ready_still Names (Swap key expected value) h = (clears_ready s.task (Swap key expected value) (λ put. put) refl h).still

  pub ready_idle : (want : Want) (call : Call) → Serves want call s n Ready t → n.task ≡ None
  ready_idle Nothing call h = absurd h
  ready_idle Stock call h = by s.task refl a.0
    where
      a : (stock_due s ≡ Answers Ready) × (n ≡ want_over s)
      a = idle_answers s n Ready t.made t.failed t.still (stock_due s) tt h

      by : (u : Option Unfinished) → s.task ≡ u → or_finish u (by_room s (room_of s s.setup.batch) (Answers Ready)) ≡ Answers Ready → n.task ≡ None
      by None idle e = ap (λ (z : ServerState). z.task) a.1 ∙ idle
      by (Some u) idle e = absurd (let z : More ≡ Ready = ap answer_in e in cc)
  ready_idle Names (Put key value) h = (binds_ready s.task key (Put key value) refl refl h).idle
  ready_idle Names (Get key) h = (clears_ready s.task (Get key) (λ put. put) refl h).idle
  ready_idle Names (Delete key) h = (clears_ready s.task (Delete key) (λ put. put) refl h).idle
  ready_idle Names (Swap key expected value) h = (clears_ready s.task (Swap key expected value) (λ put. put) refl h).idle

  pub ready_named : (call : Call) → IsPut call → Serves Names call s n Ready t → IsNamed (key_of call) n
  ready_named (Put key value) put h = (binds_ready s.task key (Put key value) refl refl h).named refl tt
  ready_named (Get key) put h = absurd put
  ready_named (Delete key) put h = absurd put
  ready_named (Swap key expected value) put h = absurd put

-- what a want may be due
abbrev IsWantDue : Due → Type 0
IsWantDue (Answers turn) = IsWantTurn turn
IsWantDue due = Unit {0}

room_due : (s : ServerState) (room : Room) (due : Due) → IsWantDue due → IsWantDue (by_room s room due)
room_due s (Swept slot) due h = tt
room_due s NoRoom due h = tt
room_due s HasRoom due h = h

stock_is : (s : ServerState) (u : Option Unfinished) → IsWantDue (or_finish u (by_room s (room_of s s.setup.batch) (Answers Ready)))
stock_is s None = room_due s (room_of s s.setup.batch) (Answers Ready) tt
stock_is s (Some u) = tt

named_is : (s : ServerState) (key : List ℕ) (found free : Option ℕ) → IsWantDue (named_due s key found free)
named_is s key (Some slot) free = tt
named_is s key None None = tt
named_is s key None (Some slot) = room_due s (room_of s 1) (BindsFor slot key) tt

-- an access that was made tells so
access_turn : (r : ServerTurn) (made : ℕ → Type 0) (failed : Type 0) → OnAccess r made failed → ((x : ℕ) → made x → IsWantTurn r) → IsWantTurn r
access_turn More made failed h f = tt
access_turn Ready made failed h f = tt
access_turn Unlinked made failed h f = f h.0 h.1
access_turn (Recycled old) made failed h f = f h.0 h.1
access_turn (Full bound worn out) made failed h f = tt
access_turn NoSlot made failed h f = tt
access_turn Unreached made failed h f = tt

swept_is : (m : ServerState) (t : ServerTurn) → IsWantTurn (swept_turn m t)
swept_is m More = tt
swept_is m Ready = tt
swept_is m Unlinked = by (all_swept (swept_on m))
  where
    by : (full : Bool) → IsWantTurn (full_if full (swept_on m))
    by true = tt
    by false = tt
swept_is m (Recycled old) = tt
swept_is m (Full bound worn out) = tt
swept_is m NoSlot = tt
swept_is m Unreached = tt

module _ (s n : ServerState) (r : ServerTurn) (t : Telling) where
  want_is : (due : Due) → IsWantDue due → WantStep due s n r t.made t.failed t.still → IsWantTurn r
  want_is (Answers turn) d w = subst IsWantTurn (sym w.1) d
  want_is Finishes d w = access_turn r _ _ w.2 (λ x m. subst IsWantTurn (sym m.2) tt)
  want_is (Sweeps slot) d w = access_turn r _ _ w.2 (λ x m. subst IsWantTurn (sym m.2) (swept_is (went w.0 x) (answer_of w.0 x)))
  want_is (Recycles slot) d w = access_turn r _ _ w.2 (λ x m. subst IsWantTurn (sym m.2) tt)
  want_is (BindsFor slot key) d w = access_turn r _ _ w.2 (λ x m. subst IsWantTurn (sym m.2) tt)

  binds_is : (u : Option Unfinished) (key : List ℕ) → Binds u key s n r t → IsWantTurn r
  binds_is None key h = want_is (named_due s key h.0 h.1) (named_is s key h.0 h.1) h.4
  binds_is (Some u) key h = want_is Finishes tt h

  clears_is : (u : Option Unfinished) → Clears u s n r t → IsWantTurn r
  clears_is None h = subst IsWantTurn (sym h.0) tt
  clears_is (Some u) h = access_turn r _ _ h (λ x m. subst IsWantTurn (sym m.2) tt)

  -- a step of the server for a call answers as a want does
  pub serves_turn : (want : Want) (call : Call) → Serves want call s n r t → IsWantTurn r
  serves_turn Nothing call h = absurd h
  serves_turn Stock call h = want_is (stock_due s) (stock_is s s.task) h
  serves_turn Names (Put key value) h = binds_is s.task key h
  serves_turn Names (Get key) h = clears_is s.task h
  serves_turn Names (Delete key) h = clears_is s.task h
  serves_turn Names (Swap key expected value) h = clears_is s.task h
