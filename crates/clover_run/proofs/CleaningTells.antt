-- What a step of the recycler tells: its access is the server's, if there is one, and its note answers no call.
use Rattle.std.proofs.Common.{◌≡◌, ℕ, Bool, true, false, refl, sym, subst}
use Rattle.std.specs.Prelude.{Option, Some, None}
use Rattle.clover_map.specs.declared.call.Reply.{Reply}
use Rattle.clover_rule.specs.declared.access.Access.{Access}
use Rattle.clover_server.specs.Going.{server_step}
use Rattle.clover_server.specs.Server.{ServerState}
use Rattle.clover_server.specs.declared.turn.ServerTurn.{ServerTurn}
use Rattle.clover_server.specs.declared.turn.ServerTurn.TheVariants.{More, Ready, Unlinked as TurnUnlinked, Recycled as TurnRecycled, Full as TurnFull, NoSlot as TurnNoSlot, Unreached as TurnUnreached}
use Rattle.clover_server.specs.declared.work.Unfinished.{Unfinished}
use Rattle.clover_server.proofs.Repeating.{access_leaves}
use Rattle.clover_run.specs.Cleaning.{Cleans, CleansOrEnds, IsCleaned, IsCleaning, swept_note, clean_note, slot_due, cleaned}
use Rattle.clover_run.specs.Record.{Record}
use Rattle.clover_run.specs.Served.{is_elsewhere}
use Rattle.clover_run.specs.Serving.{telling}
use Rattle.clover_run.specs.declared.event.Note.{Note}
use Rattle.clover_run.specs.declared.event.Note.TheVariants.{Answered}
use Rattle.clover_run.specs.declared.recycler.Chore.{Chore}
use Rattle.clover_run.specs.declared.recycler.Chore.TheVariants.{OfSlot, OfAll}
use Rattle.clover_run.specs.declared.served.Served.{Served}
use Rattle.clover_run.proofs.ServedAlone.{IsServers, makes_servers, fails_servers, still_servers}

-- the note answers no call
abbrev pub AnswersNone : Note → Type 0
AnswersNone (Answered b reply) = ⊥
AnswersNone note = Unit {0}

pub unanswered : (note : Note) → AnswersNone note → (b : ℕ) (reply : Reply) → note ≡ Answered b reply → ⊥
unanswered note none b reply e = let z : AnswersNone (Answered b reply) = subst AnswersNone e none in z

cleans_servers : (slot : Option ℕ) (s n : ServerState) (turn : ServerTurn) (o : Option Access) → Cleans slot s n turn (telling o) → IsServers o
cleans_servers (Some slot) s n turn o h = access_leaves turn _ _ h.2 (λ x m. makes_servers o (server_step h.0) x m.0) (λ m. fails_servers o m.0)
cleans_servers None s n turn o h = access_leaves turn _ _ h (λ x m. makes_servers o (server_step s) x m.0) (λ m. fails_servers o m.0)

swept_none : (w : Served) (slot : Option ℕ) → AnswersNone (swept_note w slot)
swept_none w None = tt
swept_none w (Some slot) = tt

clean_none : (chore : Chore) (w : Served) (turn : ServerTurn) → AnswersNone (clean_note chore w turn)
clean_none (OfSlot slot) w More = tt
clean_none (OfSlot slot) w Ready = tt
clean_none (OfSlot slot) w TurnUnlinked = tt
clean_none (OfSlot slot) w (TurnRecycled old) = tt
clean_none (OfSlot slot) w (TurnFull bound worn out) = tt
clean_none (OfSlot slot) w TurnNoSlot = tt
clean_none (OfSlot slot) w TurnUnreached = tt
clean_none OfAll w More = tt
clean_none OfAll w Ready = tt
clean_none OfAll w TurnUnlinked = swept_none w (slot_due OfAll w)
clean_none OfAll w (TurnRecycled old) = tt
clean_none OfAll w (TurnFull bound worn out) = tt
clean_none OfAll w TurnNoSlot = tt
clean_none OfAll w TurnUnreached = tt

-- what it tells of its record
pub record Tells (r : Record) : Type 0 where
  pub servers : IsServers r.access
  pub none : AnswersNone r.note

cleaning_tells : (chore : Chore) (v : Served) (r : Record) → IsCleaning chore v r → Tells r
cleaning_tells chore v r h = record {
  servers = cleans_servers (slot_due chore v) v.server h.server h.turn r.access h.cleans;
  none = subst AnswersNone (sym h.note) (clean_none chore (cleaned chore v h.server h.turn) h.turn);
}

cleans_tells : (chore : Chore) (slot : Option ℕ) (task : Option Unfinished) (v : Served) (r : Record) → CleansOrEnds chore slot task v r → Tells r
cleans_tells chore None None v r h = record { servers = still_servers r.access h.access; none = subst AnswersNone (sym h.note) tt }
cleans_tells chore None (Some u) v r h = cleaning_tells chore v r h
cleans_tells chore (Some slot) None v r h = cleaning_tells chore v r h
cleans_tells chore (Some slot) (Some u) v r h = cleaning_tells chore v r h

pub cleaned_tells : (chore : Chore) (v : Served) (r : Record) → IsCleaned chore v r → Tells r
cleaned_tells chore v r h = by (is_elsewhere v.holder 0) refl
  where
    by : (b : Bool) → is_elsewhere v.holder 0 ≡ b → Tells r
    by true e = record { servers = still_servers r.access (h.waits e).access; none = subst AnswersNone (sym (h.waits e).note) tt }
    by false e = cleans_tells chore (slot_due chore v) v.server.task v r (h.cleans e)
