-- The recycler behind a record of another actor: it is as it was, the slot that it is on stays bound, and its counts are of no more than there is.
use Rattle.std.proofs.Common.{◌≡◌, ◌≢◌, ℕ, suc, ◌≤◌, length, List, [], ◌∷◌, ◌++◌, Bool, true, false, refl, sym, ap, subst, arith}
use Rattle.std.specs.Prelude.{Option, Some, None, if◌then◌else◌}
use Rattle.std.proofs.lemmas.List.{length-append}
use Rattle.clover_map.specs.declared.call.Call.{Call}
use Rattle.clover_map.specs.declared.call.Entry.{Entry}
use Rattle.clover_rule.specs.Lists.{IsPrefix, Within}
use Rattle.clover_rule.specs.declared.access.Access.{Access}
use Rattle.clover_rule.proofs.Steps.{within_prefix}
use Rattle.clover_plain.specs.Plain.{Plain}
use Rattle.clover_server.specs.Server.{ServerState}
use Rattle.clover_server.specs.declared.turn.ServerTurn.{ServerTurn}
use Rattle.clover_server.specs.declared.turn.ServerTurn.TheVariants.{More, Ready, Unlinked, Recycled, Full, NoSlot, Unreached}
use Rattle.clover_event.specs.Folds.{actor_of, made_by}
use Rattle.clover_run.specs.Client.{Moved}
use Rattle.clover_run.specs.Folds.{Doing, doing}
use Rattle.clover_run.specs.Record.{Record}
use Rattle.clover_run.specs.Recycling.{IsOnBound, IsRecyclerAt}
use Rattle.clover_run.specs.Served.{is_elsewhere}
use Rattle.clover_run.specs.Serving.{IsServed, Leaves}
use Rattle.clover_run.specs.declared.recycler.Chore.{Chore}
use Rattle.clover_run.specs.declared.recycler.Chore.TheVariants.{OfSlot, OfAll}
use Rattle.clover_run.specs.declared.recycler.Recycler.{Recycler}
use Rattle.clover_run.specs.declared.served.Served.{Served}
use Rattle.clover_run.specs.declared.want.Want.{Want}
use Rattle.clover_run.proofs.Pasts.{doing_other}

-- the slot is bound where there are the same bindings or more
bound_on : (k : Option Chore) (v w : Served) → IsPrefix v.server.directory.list w.server.directory.list → IsOnBound k v → IsOnBound k w
bound_on None v w grows b = tt
bound_on (Some (OfSlot slot)) v w grows b = (b.0, subst (Within (slot, b.0)) (sym grows.1) (within_prefix (slot, b.0) v.server.directory.list grows.0 b.1))
bound_on (Some OfAll) v w grows b = tt

made_more : (n : ℕ) (x : Option Access) → n ≤ made_by n x
made_more n None = omega arith
made_more n (Some x) = by x.refused refl
  where
    by : (b : Bool) → x.refused ≡ b → n ≤ made_by n (Some x)
    by true e = let same : made_by n (Some x) ≡ n = ap (λ (b : Bool). if b then n else suc n) e in omega (arith, same)
    by false e = let same : made_by n (Some x) ≡ suc n = ap (λ (b : Bool). if b then n else suc n) e in omega (arith, same)

pub recycler_other : (rs : List Record) (r : Record) (p q : Plain) (v w : Served) (x : Recycler) (a : Option Access) (e : Option Entry) → IsRecyclerAt p v x (doing 0 rs) → actor_of r.event ≢ 0 → Moved a e p q → IsPrefix v.server.directory.list w.server.directory.list → (w.read ≡ v.read) × (w.done ≡ v.done) → IsRecyclerAt q w x (doing 0 (rs ++ r ∷ []))
recycler_other rs r p q v w x a e at apart moved grows same = subst (IsRecyclerAt q w x) (sym (doing_other 0 rs r apart)) (record {
  task = at.task;
  refusing = at.refusing;
  bound = bound_on x.chore v w grows at.bound;
  read =
      let l = ap length grows.1 in
      let n = length-append v.server.directory.list grows.0 in
      let k = same.0 in
      let b = at.read in
      omega arith;
  done = let m = moved.made in let n = made_more p.made a in let k = same.1 in let b = at.done in omega arith;
})

-- a step of the server for a client leaves the recycler's counts
leaves_counts : (a : ℕ) (d : Doing) (want : Want) (v : Served) (n : ServerState) (turn : ServerTurn) (r : Record) → Leaves a d want v n turn r → (r.served.read ≡ v.read) × (r.served.done ≡ v.done)
leaves_counts a d want v n More r l = (ap (λ (w : Served). w.read) l.1, ap (λ (w : Served). w.done) l.1)
leaves_counts a d want v n Ready r l = (ap (λ (w : Served). w.read) l.served, ap (λ (w : Served). w.done) l.served)
leaves_counts a d want v n (Full bound worn out) r l = (ap (λ (w : Served). w.read) l.1, ap (λ (w : Served). w.done) l.1)
leaves_counts a d want v n NoSlot r l = (ap (λ (w : Served). w.read) l.1, ap (λ (w : Served). w.done) l.1)
leaves_counts a d want v n Unreached r l = (ap (λ (w : Served). w.read) l.1, ap (λ (w : Served). w.done) l.1)
leaves_counts a d want v n Unlinked r l = absurd l
leaves_counts a d want v n (Recycled old) r l = absurd l

pub served_counts : (a : ℕ) (d : Doing) (want : Want) (call : Call) (v : Served) (r : Record) → IsServed a d want call v r → (r.served.read ≡ v.read) × (r.served.done ≡ v.done)
served_counts a d want call v r s = by (is_elsewhere v.holder a) refl
  where
    by : (b : Bool) → is_elsewhere v.holder a ≡ b → (r.served.read ≡ v.read) × (r.served.done ≡ v.done)
    by true e = let same = (s.waits e).served in (ap (λ (w : Served). w.read) same, ap (λ (w : Served). w.done) same)
    by false e = let x = s.serves e in leaves_counts a d want v x.server x.turn r x.leaves
