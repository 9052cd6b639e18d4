-- What an event without an access comes to, by what the machine's client of that number has under way.
use Rattle.std.proofs.Common.{◌≡◌, ℕ, ◌≤◌, ◌<◌, suc, length, List, [], ◌∷◌, ◌++◌, true, refl, sym, ap, subst, arith}
use Rattle.std.specs.Prelude.{Some, None}
use Rattle.clover_words.specs.declared.setup.Setup.{Setup}
use Rattle.clover_rule.specs.Lists.{nth}
use Rattle.clover_rule.specs.declared.access.Access.{Access}
use Rattle.clover_plain.specs.Plain.{Plain, Running}
use Rattle.clover_map.specs.declared.call.Call.{Call}
use Rattle.clover_script.specs.declared.line.Task.TheVariants.{Client as ClientTask}
use Rattle.clover_event.specs.Client.{IsCallTask}
use Rattle.clover_event.specs.declared.event.Event.{Event}
use Rattle.clover_event.specs.declared.event.Event.TheVariants.{Begin, Refuse}
use Rattle.clover_run.specs.Client.{HasTask, Rests, Stands, Begun}
use Rattle.clover_run.specs.Machine.{Parts, IsAt, IsBehind, Happens}
use Rattle.clover_run.specs.Record.{Record}
use Rattle.clover_run.specs.Run.{Opening}
use Rattle.clover_run.specs.declared.client.ClientState.{ClientState}
use Rattle.clover_run.specs.declared.event.Note.{Note}
use Rattle.clover_run.specs.declared.event.Note.TheVariants.{Quiet, Busy, Missing}
use Rattle.clover_run.proofs.Asking.{asked_client}
use Rattle.clover_run.proofs.NoAccess.{rests_of, begun_missing, begun_busy, refused_client, refused_far}
use Rattle.clover_run.proofs.Onward.{with_client}
use Rattle.clover_run.proofs.Refusing.{refusing}

-- no access was made
none_made : (x : Access) → None ≡ Some x → ⊥
none_made x is = cc

pub behind : (m n : Parts) (e : Event) (note : Note) → Happens m n e note → IsBehind m → IsBehind n
behind m n e note h b = let x = h b.0 b.1 b.2 in (b.0, b.1 ++ x.0 ∷ [], x.3)

-- the actor is the client of seat i, if there is one
module _ (m : Parts) (i a : ℕ) (seat : suc i ≡ a) where
  -- there is no such client
  above : (o : Opening) (rs : List Record) → IsAt o m rs → length m.clients ≤ i → o.setup.clients < a
  above o rs at past = let n = at.clients in omega arith

  pub missing_happens : (call : Call) (written : ℕ) → length m.clients ≤ i → Happens m m (Begin a (ClientTask call written)) (Missing a)
  missing_happens call written past o rs at = (_, refl, refl, begun_missing o m rs at a call written (above o rs at past), λ z j is. absurd (none_made z is))

  pub refused_nobody : length m.clients ≤ i → Happens m m (Refuse a) Quiet
  refused_nobody past o rs at = (_, refl, refl, refused_far o m rs at a (above o rs at past), λ z j is. absurd (none_made z is))

  -- there is one
  pub busy_happens : (call : Call) (written : ℕ) (x : ClientState) → nth m.clients i ≡ Some x → HasTask x → Happens m m (Begin a (ClientTask call written)) (Busy a)
  busy_happens call written x here busy o rs at = (_, ap (λ (b : ℕ). Begin b (ClientTask call written)) seat, ap Busy seat, begun_busy o m rs at i x call written here busy, λ z j is. absurd (none_made z is))

  pub refused_happens : (x : ClientState) → nth m.clients i ≡ Some x → Happens m (with_client m i (refusing x)) (Refuse a) Quiet
  refused_happens x here o rs at = (_, ap Refuse seat, refl, refused_client o m rs at i x here, λ z j is. absurd (none_made z is))

  -- a client without a task begins
  pub asked_happens : (call : Call) (written : ℕ) (x y : ClientState) (note : Note) → nth m.clients i ≡ Some x → (HasTask x → ⊥) → IsCallTask call written → Begun a m.setup x y call written note → (m.pool.opened ≡ true → Running m.pool) → Happens m (with_client m i y) (Begin a (ClientTask call written)) note
  asked_happens call written x y note here idle is b running o rs at =
      let own : Begun (suc i) o.setup x y call written note = subst (λ (n : ℕ). Begun n o.setup x y call written note) (sym seat) (subst (λ (s : Setup). Begun a s x y call written note) at.setup b) in
      (_, ap (λ (n : ℕ). Begin n (ClientTask call written)) seat, refl, asked_client o m rs at i x y here idle (running at.pool.opened) call written note is own, λ z j k. absurd (none_made z k))

  -- such a client rests
  pub asked_rests : (x : ClientState) → nth m.clients i ≡ Some x → (HasTask x → ⊥) → IsBehind m → (o : Opening) × (p : Plain) × (j : ℕ) × (suc j ≡ a) × (o.setup ≡ m.setup) × Stands o p j x Rests
  asked_rests x here idle (o, rs, at) =
      let was = at.each i x here in
      (o, m.pool, i, seat, sym at.setup, subst (Stands o m.pool i x) (rests_of o m.pool i x was.phase idle was.stands) was.stands)
