-- The machine stands behind a begin of a client that has no task: the value is too long, or the client has started its call.
use Rattle.std.proofs.Common.{◌≡◌, ◌≢◌, ◌⊎◌, ℕ, zero, ◌≤◌, ◌<◌, suc, set, length, List, [], ◌∷◌, ◌++◌, refl, sym, ap, ◌∙◌, subst, arith, inl, inr}
use Rattle.std.specs.Prelude.{Some}
use Rattle.clover_map.specs.History.{key_of}
use Rattle.clover_map.specs.declared.call.Call.{Call}
use Rattle.clover_script.specs.declared.line.Task.{Task}
use Rattle.clover_script.specs.declared.line.Task.TheVariants.{Client as ClientTask}
use Rattle.clover_rule.specs.Lists.{nth, Within}
use Rattle.clover_rule.specs.Names.{KeysOnce}
use Rattle.clover_rule.specs.declared.view.View.{View}
use Rattle.clover_rule.proofs.Steps.{set_here}
use Rattle.clover_plain.specs.Plain.{Plain, Running, view_at}
use Rattle.clover_cache.specs.Node.{cursor_at}
use Rattle.clover_walk.specs.Standing.{number_of}
use Rattle.clover_call.specs.declared.under.Underway.TheVariants.{Nothing as NoCall}
use Rattle.clover_node.specs.Beginning.{NodeStarts, Refuses}
use Rattle.clover_node.specs.Node.{NodeState}
use Rattle.clover_node.specs.declared.answer.NodeRefusal.TheVariants.{NeedsStock}
use Rattle.clover_event.specs.Client.{IsCallTask}
use Rattle.clover_event.specs.Ends.{MayBegin}
use Rattle.clover_event.specs.Run.{room}
use Rattle.clover_event.specs.declared.event.CallRefusal.TheVariants.{TooLong}
use Rattle.clover_event.specs.declared.event.Event.TheVariants.{Begin}
use Rattle.clover_event.proofs.Places.{set_same}
use Rattle.clover_run.specs.Client.{Phase, Rests, HasTask, Stands, Matches, GoesSoFar, Remembers, Begun, Started, call_at}
use Rattle.clover_run.specs.Ends.{ended}
use Rattle.clover_run.specs.Folds.{Doing, begun, doing, names_of, served_after}
use Rattle.clover_run.specs.Machine.{Parts, IsAt}
use Rattle.clover_run.specs.Record.{Record}
use Rattle.clover_run.specs.Run.{Opening, Standing, standing, begin_note, known_slot, want_in}
use Rattle.clover_run.specs.SoFar.{AloneSoFar}
use Rattle.clover_run.specs.declared.client.ClientState.{ClientState}
use Rattle.clover_run.specs.declared.event.Note.{Note}
use Rattle.clover_run.specs.declared.event.Note.TheVariants.{Quiet, Refused}
use Rattle.clover_run.specs.declared.want.Want.TheVariants.{Nothing, Stock}
use Rattle.clover_run.proofs.Alone.{BeginsAlone, alone_started}
use Rattle.clover_run.proofs.Beginning.{HasBegun, begun_client, task_call}
use Rattle.clover_run.proofs.Finding.{seat_here}
use Rattle.clover_run.proofs.Goes.{started_goes}
use Rattle.clover_run.proofs.Lacking.{started_lacks}
use Rattle.clover_run.proofs.Names.{are_bindings, keys_front}
use Rattle.clover_run.proofs.NoAccess.{rests_of, stays, silent, stayed, changed, ends_none, still_pool}
use Rattle.clover_run.proofs.Onward.{standing_behind, standing_own, with_client}
use Rattle.clover_run.proofs.Pasts.{doing_own}
use Rattle.clover_run.proofs.Remembering.{may_begin, remembers_starts}
use Rattle.clover_run.proofs.Started.{started_alone}
use Rattle.clover_run.proofs.Starting.{IsReady, SaysStart, ready_rests}

-- a start keeps the names
started_names : (x y : ClientState) (call : Call) → Started x y call → y.node.names ≡ x.node.names
started_names x y call s = go s.how
  where
    go : (NodeStarts x.node call y.node × (y.want ≡ Nothing)) ⊎ ((y.node ≡ x.node) × (y.want ≡ Stock) × Refuses x.node call NeedsStock) → y.node.names ≡ x.node.names
    go (inl h) = ap (λ (n : NodeState). n.names) h.0.kept
    go (inr h) = ap (λ (n : NodeState). n.names) h.0

-- no key stands twice among the names of a client in a pool that runs
pub names_once : (o : Opening) (p : Plain) (i : ℕ) (x : ClientState) (f : Phase) → Running p → Stands o p i x f → KeysOnce x.node.names
names_once o p i x f running s =
    let below : i < length p.views = (let a = s.seats in let b = s.seat in omega arith) in
    let front = running.rule.names_and_count.names (view_at p i) (nth_here_within (p.views ++ p.absent) i (view_at p i) (seat_here p i below)) in
    subst KeysOnce s.holds.names (keys_front (view_at p i).pass.names front.0 (subst KeysOnce front.1 running.rule.names_and_count.keys_once))
  where
    nth_here_within : {A : Type 0} (xs : List A) (k : ℕ) (z : A) → nth xs k ≡ Some z → Within z xs
    nth_here_within [] k z e = absurd cc
    nth_here_within (y ∷ ys) zero z e = inl (let q : y ≡ z = cc in q)
    nth_here_within (y ∷ ys) (suc k) z e = inr (nth_here_within ys k z e)

module _ (o : Opening) (m : Parts) (rs : List Record) (at : IsAt o m rs) (i : ℕ) (x y : ClientState) (here : nth m.clients i ≡ Some x) (idle : HasTask x → ⊥) (running : Running m.pool) where
  abbrev d : Doing
  d = doing (suc i) rs

  abbrev v : View
  v = view_at m.pool i

  rests : (at.each i x here).phase ≡ Rests
  rests = rests_of o m.pool i x (at.each i x here).phase idle (at.each i x here).stands

  stands : Stands o m.pool i x Rests
  stands = subst (Stands o m.pool i x) rests (at.each i x here).stands

  matches : Matches x v Rests d
  matches = subst (λ (f : Phase). Matches x v f d) rests (at.each i x here).matches

  once : KeysOnce x.node.names
  once = names_once o m.pool i x Rests running stands

  -- it was turned away, and is as it was
  away : (call : Call) (written : ℕ) (note : Note) → note ≡ Refused (suc i) (TooLong written (room o.setup)) → note ≡ begin_note o.setup (served_after o.served rs) d (suc i) (ClientTask call written) → y ≡ x → IsAt o (with_client m i y) (rs ++ stays o m rs at (Begin (suc i) (ClientTask call written)) note ∷ [])
  away call written note is told same = subst (λ (z : List ClientState). IsAt o (record m { clients = z }) (rs ++ stays o m rs at (Begin (suc i) (ClientTask call written)) note ∷ [])) (sym (ap (set m.clients i) same ∙ set_same m.clients i x here)) (go note is told)
    where
      t : Task
      t = ClientTask call written

      go : (n : Note) → n ≡ Refused (suc i) (TooLong written (room o.setup)) → n ≡ begin_note o.setup (served_after o.served rs) d (suc i) t → IsAt o m (rs ++ stays o m rs at (Begin (suc i) t) n ∷ [])
      go n e f = subst (λ (k : Note). IsAt o m (rs ++ stays o m rs at (Begin (suc i) t) k ∷ [])) (sym e)
          (stayed o m rs at (Begin (suc i) t) (Refused (suc i) (TooLong written (room o.setup))) tt (record { access = refl; entry = refl; note_is = sym e ∙ f; served = at.served }) (λ z. refl)
          (silent o m rs at (Begin (suc i) t) (Refused (suc i) (TooLong written (room o.setup))) m.clients (λ c s. s)))

  -- it has started the call
  module _ (call : Call) (written : ℕ) (is : IsCallTask call written) (fits : written ≤ room o.setup) (starts : Started (record x { call = Some call }) y call) where
    abbrev r : Record
    r = stays o m rs at (Begin (suc i) (ClientTask call written)) Quiet

    abbrev new : List Record
    new = rs ++ r ∷ []

    -- the client with its call, before the start
    abbrev z : ClientState
    z = record x { call = Some call }

    abbrev st : Standing
    st = standing o (suc i) new

    behind : st ≡ standing_behind o (suc i) rs r
    behind = standing_own o (suc i) rs r refl

    ready : IsReady o m.pool i z call
    ready = ready_rests o m.pool i x call stands (task_call o call written is fits)

    says : SaysStart z call (begun d (ClientTask call written) Quiet)
    says = record { written = written; task = refl; decided = refl; since = refl; refusing = matches.refusing; known = matches.known; stock = matches.stock }

    names : names_of m.served (begun d (ClientTask call written) Quiet) ≡ x.node.names
    names = (λ j. names_of (at.served j) d) ∙ (at.each i x here).names

    none_ended : ended (suc i) new ≡ ended (suc i) rs
    none_ended = ends_none o m rs at (suc i) (Begin (suc i) (ClientTask call written)) Quiet

    knows : Remembers x.node.names x.node.caller.cursors (ended (suc i) new)
    knows = subst (Remembers x.node.names x.node.caller.cursors) (sym none_ended) (at.each i x here).cursors

    goes : y.node.caller.under ≢ NoCall → GoesSoFar o.setup.pool (standing_behind o (suc i) rs r) y (call_at y v)
    goes busy = started_goes o m.pool i (standing_behind o (suc i) rs r) z y call ready starts says names once knows busy

    st_words : st.words ≡ m.pool.words
    st_words = sym (still_pool o m rs at (Begin (suc i) (ClientTask call written)) Quiet).words

    may : (slot : ℕ) → Within (slot, key_of call) x.node.names → MayBegin st.ended (key_of call) (number_of (cursor_at slot x.node.caller.cursors))
    may slot named = may_begin x.node.names (are_bindings x.node.names stands.holds.once once) x.node.caller.cursors (ended (suc i) new) slot (key_of call) knows named

    does_task : st.does ≡ begun d (ClientTask call written) Quiet
    does_task = doing_own (suc i) rs r refl

    begins : want_in st call ≡ Nothing → BeginsAlone o.setup.pool st m.pool.words y call (known_slot st call)
    begins free = started_alone o m.pool stands.setup running i (let a = stands.seats in let b = stands.seat in omega arith) z y call (call_at x v) stands.pool stands.phase.0 stands.holds starts st st_words
        (ap (λ (s : Standing). s.names) behind ∙ names) (ap (λ (k : Doing). k.stock) does_task ∙ matches.stock) (ap (λ (k : Doing). k.since) does_task) may free

    alone : AloneSoFar o m.pool.words (set m.clients i y) new
    alone = alone_started o rs r m.pool.words m.pool.words m.clients (set m.clients i y) at.alone i y (set_here m.clients i y x here) call written (λ c s. sym s) refl (ap (λ (k : Doing). k.task) does_task) begins

    goes_on : (f : Phase) → HasBegun o m.pool i x y call written Quiet (served_after o.served rs) d f → IsAt o (with_client m i y) new
    goes_on f h = changed o m rs at i x y f (Begin (suc i) (ClientTask call written)) Quiet here refl tt (record { access = refl; entry = refl; note_is = h.note_is; served = at.served }) h.stands h.matches
        (names ∙ sym (started_names z y call starts)) (remembers_starts z y call (ended (suc i) rs) starts (at.each i x here).cursors) goes (started_lacks z y call v starts) alone

  pub asked_client : (call : Call) (written : ℕ) (note : Note) → IsCallTask call written → Begun (suc i) o.setup x y call written note → IsAt o (with_client m i y) (rs ++ stays o m rs at (Begin (suc i) (ClientTask call written)) note ∷ [])
  asked_client call written note is (inl (over, e, same)) =
      let h = begun_client o m.pool i x y call written note (served_after o.served rs) d is (inl (over, e, same)) stands matches in
      away call written note e h.1.note_is same
  asked_client call written note is (inr (fits, e, starts)) =
      let h = begun_client o m.pool i x y call written Quiet (served_after o.served rs) d is (inr (fits, refl, starts)) stands matches in
      subst (λ (n : Note). IsAt o (with_client m i y) (rs ++ stays o m rs at (Begin (suc i) (ClientTask call written)) n ∷ [])) (sym e) (goes_on call written is fits starts h.0 h.1)
