-- A client that was asked for a task: what that comes to, that it stands where the records lead, and that the client may start its call.
use Prim.Native.Nat.{suc}
use Rattle.std.proofs.Common.{◌≡◌, ℕ, ltb, ◌*◌, ◌<◌, ◌≤◌, List, ◌++◌, map, Bool, true, false, inl, inr, refl, sym, ap, ◌∙◌, subst, arith}
use Rattle.std.specs.Prelude.{Option, Some, None, if◌then◌else◌}
use Rattle.std.proofs.Math.Nat.{min-le_left}
use Rattle.std.proofs.lemmas.Bool.Decides.{nat_tests}
use Rattle.clover_words.specs.declared.pool.Pool.{Pool}
use Rattle.clover_words.specs.declared.setup.Setup.{Setup}
use Rattle.clover_words.specs.declared.bytes.ValueBuf.{ValueBuf}
use Rattle.clover_words.specs.Tag.{TagParts, tag_number}
use Rattle.clover_map.specs.declared.call.Call.{Call}
use Rattle.clover_script.specs.declared.line.Task.{Task}
use Rattle.clover_script.specs.declared.line.Task.TheVariants.{Client as ClientTask}
use Rattle.clover_rule.specs.Moves.{given}
use Rattle.clover_rule.specs.declared.view.View.{View}
use Rattle.clover_plain.specs.Plain.{Plain, view_at}
use Rattle.clover_call.specs.Beginning.{size_of}
use Rattle.clover_node.specs.Accepting.{MayTake}
use Rattle.clover_node.specs.Beginning.{room_of}
use Rattle.clover_node.specs.Node.{NodeState, NodeHolds, IsIdle}
use Rattle.clover_event.specs.Client.{IsCallTask}
use Rattle.clover_event.specs.Run.{room}
use Rattle.clover_event.specs.declared.event.CallRefusal.TheVariants.{TooLong}
use Rattle.clover_run.specs.Client.{Phase, Rests, Stands, StartsFrom, IsCall, Begun, Matches}
use Rattle.clover_run.specs.Folds.{Doing, begun, started}
use Rattle.clover_run.specs.Run.{Opening, begin_note}
use Rattle.clover_run.specs.declared.client.ClientState.{ClientState}
use Rattle.clover_run.specs.declared.event.Note.{Note}
use Rattle.clover_run.specs.declared.event.Note.TheVariants.{Quiet, Missing, Refused}
use Rattle.clover_run.specs.declared.served.Served.{Served}
use Rattle.clover_run.proofs.Starting.{IsReady, HasStarted, ready_rests, started_client}

-- a task whose value has room in a buffer is of a call that the run begins: what is kept of a value is no longer than what was written of it
pub task_call : (o : Opening) (call : Call) (written : ℕ) → IsCallTask call written → written ≤ room o.setup → IsCall o call
task_call o call written t fits = record { expects = t.1; fits = let e = t.0 in let l = min-le_left written 1024 in omega arith }

-- a client that is ready for its call may start it
pub ready_from : (o : Opening) (p : Plain) (i : ℕ) (x : ClientState) (call : Call) → IsReady o p i x call → StartsFrom x
ready_from o p i x call r = record {
  idle = r.idle;
  call = call;
  is = r.call_is;
  expects = r.is.expects;
  fits = subst (λ (z : Pool). size_of call ≤ 8 * z.words) (sym r.pool) r.is.fits;
  view = view_at p i;
  into = x.room;
  holds = r.holds;
}

-- what a begin comes to that the client takes up or finds too long
module _ (o : Opening) (i : ℕ) (seat : suc i ≤ o.setup.clients) (call : Call) (written : ℕ) (v : Served) (d : Doing) (none : d.task ≡ None) where
  there : ltb o.setup.clients (suc i) ≡ false
  there = let a = seat in grind (arith, nat_tests)

  notes : (b : Bool) → ltb (room o.setup) written ≡ b → begin_note o.setup v d (suc i) (ClientTask call written) ≡ (if b then Refused (suc i) (TooLong written (room o.setup)) else Quiet)
  notes b is =
      ap (λ (t : Option Task). begin_note o.setup v (record d { task = t }) (suc i) (ClientTask call written)) none
      ∙ ap (λ (c : Bool). if c then Missing (suc i) else (if ltb (room o.setup) written then Refused (suc i) (TooLong written (room o.setup)) else Quiet)) there
      ∙ ap (λ (c : Bool). if c then Refused (suc i) (TooLong written (room o.setup)) else Quiet) is

  quiet_note : written ≤ room o.setup → Quiet ≡ begin_note o.setup v d (suc i) (ClientTask call written)
  quiet_note fits = let short : ltb (room o.setup) written ≡ false = grind (arith, nat_tests) in sym (notes false short)

  long_note : room o.setup < written → Refused (suc i) (TooLong written (room o.setup)) ≡ begin_note o.setup v d (suc i) (ClientTask call written)
  long_note over = let long : ltb (room o.setup) written ≡ true = grind (arith, nat_tests) in sym (notes true long)

-- The client of seat i, which rested, was asked for this task: the note is the begin's, and the client stands where that leads.
pub record HasBegun (o : Opening) (p : Plain) (i : ℕ) (x y : ClientState) (call : Call) (written : ℕ) (note : Note) (v : Served) (d : Doing) (f : Phase) : Type 0 where
  pub stands : Stands o p i y f
  pub matches : Matches y (view_at p i) f (begun d (ClientTask call written) note)
  pub note_is : note ≡ begin_note o.setup v d (suc i) (ClientTask call written)

module _ (o : Opening) (p : Plain) (i : ℕ) (x y : ClientState) (v : Served) (d : Doing) (call : Call) (written : ℕ) (s : Stands o p i x Rests) (m : Matches x (view_at p i) Rests d) where
  -- the value was too long
  long_client : (note : Note) → note ≡ Refused (suc i) (TooLong written (room o.setup)) → room o.setup < written → y ≡ x → HasBegun o p i x y call written note v d Rests
  long_client note is over same = subst (λ (n : Note). HasBegun o p i x y call written n v d Rests) (sym is) (record {
    stands = subst (λ (z : ClientState). Stands o p i z Rests) (sym same) s;
    matches = subst (λ (z : ClientState). Matches z (view_at p i) Rests d) (sym same) m;
    note_is = long_note o i s.seat call written v d m.doing over;
  })

  -- it has started the call
  begun_so : (note : Note) (f : Phase) → note ≡ Quiet → written ≤ room o.setup → HasStarted o p i (record x { call = Some call }) y call f → HasBegun o p i x y call written note v d f
  begun_so note f is fits h = subst (λ (n : Note). HasBegun o p i x y call written n v d f) (sym is) (record {
    stands = h.stands;
    matches = h.matches (started d (Some (ClientTask call written))) (record { written = written; task = refl; decided = refl; since = refl; refusing = m.refusing; known = m.known; stock = m.stock });
    note_is = quiet_note o i s.seat call written v d m.doing fits;
  })

-- a client that rested and was asked for a task has a phase, and stands so
pub begun_client : (o : Opening) (p : Plain) (i : ℕ) (x y : ClientState) (call : Call) (written : ℕ) (note : Note) (v : Served) (d : Doing) → IsCallTask call written → Begun (suc i) o.setup x y call written note → Stands o p i x Rests → Matches x (view_at p i) Rests d → (f : Phase) × HasBegun o p i x y call written note v d f
begun_client o p i x y call written note v d t (inl (over, is, same)) s m = (Rests, long_client o p i x y v d call written s m note is over same)
begun_client o p i x y call written note v d t (inr (fits, is, starts)) s m =
    let h = started_client o p i (record x { call = Some call }) y call (ready_rests o p i x call s (task_call o call written t fits)) starts in
    (h.0, begun_so o p i x y v d call written s m note h.0 is fits h.1)

-- a client that rests may start a call whose value has room
pub rests_starts : (o : Opening) (p : Plain) (i : ℕ) (x : ClientState) (s : Setup) (call : Call) (written : ℕ) → IsCallTask call written → o.setup ≡ s → written ≤ 8 * s.pool.words → Stands o p i x Rests → StartsFrom (record x { call = Some call })
rests_starts o p i x s call written kept setup fits st =
    let room_is : written ≤ room o.setup = subst (λ (z : Setup). written ≤ 8 * z.pool.words) (sym setup) fits in
    ready_from o p i (record x { call = Some call }) call (ready_rests o p i x call st (task_call o call written kept room_is))

-- a client that has taken a batch and names in may start its call anew
pub granted_starts : (x : ClientState) (n : NodeState) (tags : List TagParts) (added : List (ℕ × List ℕ)) → StartsFrom x → MayTake x.node tags added → n ≡ record x.node { stock = x.node.stock ++ tags; names = x.node.names ++ added }
    → ((call : Call) (v : View) (into : ValueBuf) → NodeHolds x.node call v into → MayTake x.node tags added → NodeHolds n call (given (map tag_number tags) added v) into) → StartsFrom (record x { node = n })
granted_starts x n tags added s may is holds = record {
  idle = subst IsIdle (sym is) (record { counts = s.idle.counts; calls = s.idle.calls });
  call = s.call;
  is = s.is;
  expects = s.expects;
  fits = subst (λ (m : NodeState). size_of s.call ≤ room_of m) (sym is) s.fits;
  view = given (map tag_number tags) added s.view;
  into = s.into;
  holds = holds s.call s.view s.into s.holds may;
}
