-- The machine stands behind one record more of the recycler, which has no entry: no client is another, and no call runs alone over it.
use Rattle.std.proofs.Common.{◌≡◌, ℕ, suc, List, [], ◌∷◌, ◌++◌, refl, sym, ◌∙◌, subst, arith, append-nil}
use Rattle.std.specs.Prelude.{Option, Some, None}
use Rattle.clover_map.specs.Legal.{Legal}
use Rattle.clover_map.specs.declared.call.Call.{Call}
use Rattle.clover_map.specs.declared.call.Entry.{Entry}
use Rattle.clover_script.specs.declared.line.Task.TheVariants.{Client as ClientTask, Recycle, Sweep}
use Rattle.clover_rule.specs.Lists.{nth, IsPrefix}
use Rattle.clover_rule.specs.declared.access.Access.{Access}
use Rattle.clover_rule.specs.declared.access.Actor.TheVariants.{Client, Server}
use Rattle.clover_plain.specs.Plain.{Plain}
use Rattle.clover_event.specs.Folds.{actor_of}
use Rattle.clover_event.specs.declared.event.Event.{Event}
use Rattle.clover_event.specs.declared.event.Event.TheVariants.{Begin, Step}
use Rattle.clover_run.specs.Alone.{AllFound, IsOwnStep, Starts}
use Rattle.clover_run.specs.Client.{KeepsOthers, Moved}
use Rattle.clover_run.specs.Ends.{ended}
use Rattle.clover_run.specs.Folds.{does, doing, entries_in}
use Rattle.clover_run.specs.Machine.{Parts, IsAt, IsClientAt, IsTold}
use Rattle.clover_run.specs.Record.{Record}
use Rattle.clover_run.specs.Recycling.{IsRecyclerAt, chore_task}
use Rattle.clover_run.specs.Run.{Opening, Follows}
use Rattle.clover_run.specs.SoFar.{AloneSoFar}
use Rattle.clover_run.specs.Working.{HasServer}
use Rattle.clover_run.specs.declared.client.ClientState.{ClientState}
use Rattle.clover_run.specs.declared.event.Note.{Note}
use Rattle.clover_run.specs.declared.event.Note.TheVariants.{Quiet, Granted}
use Rattle.clover_run.specs.declared.recycler.Chore.{Chore}
use Rattle.clover_run.specs.declared.recycler.Chore.TheVariants.{OfSlot, OfAll}
use Rattle.clover_run.specs.declared.recycler.Recycler.{Recycler}
use Rattle.clover_run.specs.declared.served.Served.{Served}
use Rattle.clover_run.proofs.Alone.{alone_aside}
use Rattle.clover_run.proofs.CleaningTells.{AnswersNone, unanswered}
use Rattle.clover_run.proofs.Freed.{RunsOrStays}
use Rattle.clover_run.proofs.Onward.{pushed, other_client, stands_on, moved_pool}
use Rattle.clover_run.proofs.Pasts.{doing_own, ended_more, ended_unanswered, entries_more}
use Rattle.clover_run.proofs.ServedAlone.{IsServers}
use Rattle.clover_run.proofs.Telling.{told_unanswered}

-- the machine with another recycler, another side of the server and another pool
abbrev pub with_recycler : Parts → Recycler → Served → Plain → Parts
with_recycler m y w q = record m { recycler = y; served = w; pool = q }

-- whose call a record starts, of that actor it is
starts_own : (c : ℕ) (e : Event) (note : Note) → Starts c e note → actor_of e ≡ c
starts_own c (Begin a t) Quiet s = s
starts_own c (Step a) (Granted b names) s = s
starts_own c e note s = absurd s

-- no chore is a call
no_call : (k : Option Chore) (call : Call) (written : ℕ) → chore_task k ≡ Some (ClientTask call written) → ⊥
no_call None call written e = cc
no_call (Some (OfSlot slot)) call written e = let z : Some (Recycle slot) ≡ Some (ClientTask call written) = e in cc
no_call (Some OfAll) call written e = let z : Some Sweep ≡ Some (ClientTask call written) = e in cc

module _ (o : Opening) (m : Parts) (rs : List Record) (at : IsAt o m rs) (e : Event) (actor : actor_of e ≡ 0) (x : Option Access) (servers : IsServers x) (note : Note) (none : AnswersNone note) (y : Recycler) (w : Served) (q : Plain) where
  -- the record of the event
  abbrev pub has_been : Record
  has_been = record { event = e; access = x; note = note; entry = None; served = w }

  abbrev new : List Record
  new = rs ++ has_been ∷ []

  not_client : (i : ℕ) → actor_of e ≡ suc i → ⊥
  not_client i s = absurd (omega (arith, s, actor))

  none_ended : (c : ℕ) → ended c new ≡ ended c rs
  none_ended c = ended_more c rs has_been ∙ ended_unanswered c (doing c rs).task note x (ended c rs) (unanswered note none)

  not_own : (c : ℕ) → IsOwnStep c has_been → ⊥
  not_own c own = absurd (let z : Client c ≡ Server = sym own.actor ∙ servers own.access own.is in cc)

  legal : Legal o.first o.used (entries_in new)
  legal = subst (λ (l : List Entry). Legal o.first o.used l) (sym (entries_more rs has_been ∙ append-nil (entries_in rs))) at.legal

  module _ (moved : Moved x None m.pool q) (others : KeepsOthers o.setup.clients m.pool q) (recycler : IsRecyclerAt q w y (does (doing 0 rs) has_been e)) where
    recycler_at : IsRecyclerAt q w y (doing 0 new)
    recycler_at = subst (IsRecyclerAt q w y) (sym (doing_own 0 rs has_been actor)) recycler

    each : IsPrefix m.served.server.directory.list w.server.directory.list → (i : ℕ) (c : ClientState) → nth m.clients i ≡ Some c → IsClientAt o q i c new
    each grows i c here =
        let seat = (at.each i c here).stands.seat in
        let view = others i (λ (s : i ≡ o.setup.clients). absurd (omega (arith, seat, s))) in
        other_client o m.pool q i c rs has_been (at.each i c here) (not_client i)
        (λ f s. stands_on o (suc i) i c f x None m.pool q (λ (k : i ≡ suc i). absurd (omega (arith, k))) tt moved view s) view (none_ended (suc i))
        (subst (λ (v : Served). IsPrefix v.server.directory.list w.server.directory.list) at.served grows)

    -- the recycler's task is no client's call
    starts_none : (c : ℕ) (call : Call) (written : ℕ) → Starts c e note → (doing c new).task ≡ Some (ClientTask call written) → ⊥
    starts_none c call written s task =
        let here : c ≡ 0 = sym (starts_own c e note s) ∙ actor in
        no_call y.chore call written (sym recycler_at.task ∙ subst (λ (a : ℕ). (doing a new).task ≡ Some (ClientTask call written)) here task)

    alone : AloneSoFar o q.words m.clients new
    alone = alone_aside o rs has_been m.pool.words q.words m.clients m.clients at.alone (λ c call written s t f. starts_none c call written s t) not_own

    pub recycler_behind : Follows o rs has_been → HasServer q w.server → IsPrefix m.served.server.directory.list w.server.directory.list → AllFound o new → RunsOrStays m (with_recycler m y w q) → IsAt o (with_recycler m y w q) new
    recycler_behind follows server grows found runs = pushed o m (with_recycler m y w q) rs has_been at follows refl (moved_pool o m.pool q rs has_been at.pool moved) refl server recycler_at refl (each grows)
        (λ d above h. absurd (omega (arith, actor, above))) legal found runs alone (told_unanswered m.pool q rs has_been at.told moved.knows none)

  -- its access is none of a client
  pub recycler_told : IsTold (with_recycler m y w q) has_been
  recycler_told z i is client free = absurd (let k : Client (suc i) ≡ Server = sym client ∙ servers z is in cc)
