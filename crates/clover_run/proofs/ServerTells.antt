-- What a step of the server tells: that its access was made, that one was refused, or that none was made; and that it is the same step by any words for that.
use Rattle.std.proofs.Common.{◌≡◌, ℕ, List, true, false, refl, sym, subst}
use Rattle.std.specs.Prelude.{Option, Some, None, IsSome}
use Rattle.clover_map.specs.declared.bytes.Value.{Value}
use Rattle.clover_map.specs.declared.key.Key.{Key}
use Rattle.clover_map.specs.declared.call.Call.{Call}
use Rattle.clover_map.specs.declared.call.Call.TheVariants.{Get, Put, Delete, Swap}
use Rattle.clover_server.specs.Going.{server_step}
use Rattle.clover_server.specs.Looking.{IsSlotOf, IsLowestFree}
use Rattle.clover_server.specs.Server.{ServerState}
use Rattle.clover_server.specs.Steps.{Due, Finishes, Sweeps, Recycles, Binds, Answers, OnAccess, FinishStep, ended, named_due, stock_due}
use Rattle.clover_server.specs.declared.turn.ServerTurn.{ServerTurn}
use Rattle.clover_server.specs.declared.turn.ServerTurn.TheVariants.{More, Ready, Unlinked, Recycled, Full, NoSlot, Unreached}
use Rattle.clover_server.specs.declared.work.Unfinished.{Unfinished}
use Rattle.clover_run.specs.Cleaning.{Cleans}
use Rattle.clover_run.specs.Serving.{Telling, Serves, Goes, Clears, Binds as BindsKey}
use Rattle.clover_run.specs.declared.want.Want.{Want}
use Rattle.clover_run.specs.declared.want.Want.TheVariants.{Nothing, Stock, Names}

-- an access was made or refused, and what holds of that may be said by other words
on_access : {A : Type 0} (r : ServerTurn) (made : ℕ → Type 0) (failed : Type 0) → OnAccess r made failed
    → ((x : ℕ) → made x → ((made1 : ℕ → Type 0) (failed1 : Type 0) → made1 x → OnAccess r made1 failed1) → A)
    → (failed → ((made1 : ℕ → Type 0) (failed1 : Type 0) → failed1 → OnAccess r made1 failed1) → A) → A
on_access More made failed t f g = f t.0 t.1 (λ made1 failed1 m. (t.0, m))
on_access Ready made failed t f g = f t.0 t.1 (λ made1 failed1 m. (t.0, m))
on_access Unlinked made failed t f g = f t.0 t.1 (λ made1 failed1 m. (t.0, m))
on_access (Recycled old) made failed t f g = f t.0 t.1 (λ made1 failed1 m. (t.0, m))
on_access (Full bound worn out) made failed t f g = f t.0 t.1 (λ made1 failed1 m. (t.0, m))
on_access NoSlot made failed t f g = f t.0 t.1 (λ made1 failed1 m. (t.0, m))
on_access Unreached made failed t f g = g t (λ made1 failed1 m. m)

module _ (s n : ServerState) (r : ServerTurn) (t : Telling) (A : Type 0) where
  -- the cases of a relation between a server, a turn and a telling: its access was made, refused, or not made
  abbrev pub Cases : (Telling → Type 0) → Type 1
  Cases R = ((b : ServerState) (x : ℕ) → t.made (server_step b) x → ((u : Telling) → u.made (server_step b) x → R u) → A)
      → (t.failed → ((u : Telling) → u.failed → R u) → A)
      → (t.still → ((u : Telling) → u.still → R u) → A) → A

  goes : (due : Due) → Goes due s n r t → Cases (λ u. Goes due s n r u)
  goes (Answers turn) h = λ f g k. k h.0 (λ u z. (z, h.1, h.2))
  goes Finishes h = λ f g k. on_access r _ _ h.2 (λ x m again. f h.0 x m.0 (λ u z. (h.0, h.1, again _ _ (z, m.1, m.2)))) (λ m again. g m.0 (λ u z. (h.0, h.1, again _ _ (z, m.1))))
  goes (Sweeps slot) h = λ f g k. on_access r _ _ h.2 (λ x m again. f h.0 x m.0 (λ u z. (h.0, h.1, again _ _ (z, m.1, m.2)))) (λ m again. g m.0 (λ u z. (h.0, h.1, again _ _ (z, m.1))))
  goes (Recycles slot) h = λ f g k. on_access r _ _ h.2 (λ x m again. f h.0 x m.0 (λ u z. (h.0, h.1, again _ _ (z, m.1, m.2)))) (λ m again. g m.0 (λ u z. (h.0, h.1, again _ _ (z, m.1))))
  goes (Binds slot key) h = λ f g k. on_access r _ _ h.2 (λ x m again. f h.0 x m.0 (λ u z. (h.0, h.1, again _ _ (z, m.1, m.2)))) (λ m again. g m.0 (λ u z. (h.0, h.1, again _ _ (z, m.1))))

  binds : (o : Option Unfinished) (key : List ℕ) → BindsKey o key s n r t → Cases (λ u. BindsKey o key s n r u)
  binds None key h = λ f g k. goes (named_due s key h.0 h.1) h.4 (λ b x m again. f b x m (λ u z. (h.0, h.1, h.2, h.3, again u z))) (λ m again. g m (λ u z. (h.0, h.1, h.2, h.3, again u z))) (λ m again. k m (λ u z. (h.0, h.1, h.2, h.3, again u z)))
  binds (Some w) key h = λ f g k. goes Finishes h f g k

  clears : (o : Option Unfinished) → Clears o s n r t → Cases (λ u. Clears o s n r u)
  clears None h = λ f g k. k h.2 (λ u z. (h.0, h.1, z))
  clears (Some w) h = λ f g k. on_access r _ _ h (λ x m again. f s x m.0 (λ u z. again _ _ (z, m.1, m.2))) (λ m again. g m.0 (λ u z. again _ _ (z, m.1)))

  pub serves : (want : Want) (call : Call) → Serves want call s n r t → Cases (λ u. Serves want call s n r u)
  serves Nothing call h = absurd h
  serves Stock call h = λ f g k. goes (stock_due s) h f g k
  serves Names (Put key value) h = λ f g k. binds s.task key h f g k
  serves Names (Get key) h = λ f g k. clears s.task h f g k
  serves Names (Delete key) h = λ f g k. clears s.task h f g k
  serves Names (Swap key expected value) h = λ f g k. clears s.task h f g k

  -- and for the recycler, of which each is an access
  pub cleans : (slot : Option ℕ) → Cleans slot s n r t → ((b : ServerState) (x : ℕ) → t.made (server_step b) x → ((u : Telling) → u.made (server_step b) x → Cleans slot s n r u) → A) → (t.failed → ((u : Telling) → u.failed → Cleans slot s n r u) → A) → A
  cleans (Some slot) h = λ f g. on_access r _ _ h.2 (λ x m again. f h.0 x m.0 (λ u z. (h.0, h.1, again _ _ (z, m.1, m.2)))) (λ m again. g m.0 (λ u z. (h.0, h.1, again _ _ (z, m.1))))
  cleans None h = λ f g. on_access r _ _ h (λ x m again. f s x m.0 (λ u z. again _ _ (z, m.1, m.2))) (λ m again. g m.0 (λ u z. again _ _ (z, m.1)))

-- what the server's own calls say is what a step for a call is
module _ (s n : ServerState) (r : ServerTurn) (t : Telling) where
  pub binds_so : (key : List ℕ) → (IsSome s.task → Goes Finishes s n r t) → (s.task ≡ None → (found free : Option ℕ) × IsSlotOf key s.directory found × IsLowestFree s.directory free × Goes (named_due s key found free) s n r t) → BindsKey s.task key s n r t
  binds_so key f g = by s.task refl
    where
      by : (o : Option Unfinished) → s.task ≡ o → BindsKey o key s n r t
      by None e = g e
      by (Some u) e = f (subst IsSome (sym e) refl)

  clears_by : (call : Call) → ((key : Key) (value : Value) → call ≡ Put key value → ⊥) → Clears s.task s n r t → Serves Names call s n r t
  clears_by (Put key value) other h = absurd (other key value refl)
  clears_by (Get key) other h = h
  clears_by (Delete key) other h = h
  clears_by (Swap key expected value) other h = h

  pub finishes_so : (call : Call) → ((key : Key) (value : Value) → call ≡ Put key value → ⊥) → IsSome s.task → FinishStep s n r t.made t.failed → Serves Names call s n r t
  finishes_so call other some h = clears_by call other (by s.task refl)
    where
      by : (o : Option Unfinished) → s.task ≡ o → Clears o s n r t
      by None e = absurd (let z : false ≡ true = subst IsSome e some in cc)
      by (Some u) e = h

  pub ready_so : (call : Call) → ((key : Key) (value : Value) → call ≡ Put key value → ⊥) → (IsSome s.task → ⊥) → r ≡ Ready → n ≡ ended s → t.still → Serves Names call s n r t
  ready_so call other none turn same still = clears_by call other (by s.task refl)
    where
      by : (o : Option Unfinished) → s.task ≡ o → Clears o s n r t
      by None e = (turn, same, still)
      by (Some u) e = absurd (none (subst IsSome (sym e) refl))
