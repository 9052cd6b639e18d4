-- A client's own calls behind a step of its call, to which the call comes where an access decides it.
use Rattle.std.proofs.Common.{◌≡◌, ℕ, [], ◌∷◌, ◌++◌, Bool, cond, refl, ap, ◌∙◌, eq-eqb}
use Rattle.std.specs.Prelude.{Option}
use Rattle.clover_words.specs.declared.pool.Pool.{Pool}
use Rattle.clover_words.specs.Version.{unlinked}
use Rattle.clover_map.specs.declared.call.Call.{Call}
use Rattle.clover_rule.specs.Knowing.{link_entry, link_view}
use Rattle.clover_rule.specs.Learned.{seen, rest_of}
use Rattle.clover_rule.specs.Steps.{Step, LoadNext, DecideNext, RaiseNext, LinkNext, StoreContent, FlushContent, LoadContent, ReadRoot, ReadShort, StoreShort, client, reply_of}
use Rattle.clover_rule.specs.Words.{next_of}
use Rattle.clover_rule.specs.declared.view.View.{View}
use Rattle.clover_port.specs.Told.{Open, Made}
use Rattle.clover_walk.specs.Ending.{Commits}
use Rattle.clover_walk.proofs.Endings.{kept}
use Rattle.clover_call.specs.Going.{IsQuiet}
use Rattle.clover_call.specs.Caller.{HasCommitted, IsUncommitted}
use Rattle.clover_call.specs.declared.under.Underway.{Underway}
use Rattle.clover_call.specs.declared.under.Underway.TheVariants.{Nothing, Get, Write}
use Rattle.clover_call.proofs.GetStep.{differs}
use Rattle.clover_call.proofs.PutStep.{both}

-- no call has committed that has not
pub apart : (x : Underway) → IsUncommitted x → HasCommitted x → ⊥
apart Nothing b h = b
apart (Get g) b h = h
apart (Write c) b h = both c.stage b h

module _ (p : Pool) (b : Bool) (v : View) (o : Option Open) (n : ℕ) (w : View) (o1 : Option Open) where
  -- a step that commits and ends nothing leaves the own calls
  pub quiet_calls : (a : Step) → Made p a b v o n w o1 → IsQuiet a n → w.pass.calls ≡ v.pass.calls
  quiet_calls (ReadShort s) made q = (kept p (ReadShort s) b v o n w o1 made tt).calls
  quiet_calls (ReadRoot s) made q = (kept p (ReadRoot s) b v o n w o1 made tt).calls
  quiet_calls (LoadNext s t) made q = (kept p (LoadNext s t) b v o n w o1 made tt).calls
  quiet_calls (RaiseNext l) made q = (kept p (RaiseNext l) b v o n w o1 made tt).calls
  quiet_calls (LoadContent s t j) made q = ap (λ (u : View). u.pass.calls) made.told.next
  quiet_calls (StoreContent t j y) made q = ap (λ (u : View). u.pass.calls) made.told.next
  quiet_calls (FlushContent t j y) made q = ap (λ (u : View). u.pass.calls) made.told.next
  quiet_calls (DecideNext s t c r) made q = (kept p (DecideNext s t c r) b v o n w o1 made (differs n (unlinked t) q)).calls
  quiet_calls (LinkNext s u t c) made q = (kept p (LinkNext s u t c) b v o n w o1 made (differs n (unlinked u) q)).calls
  quiet_calls a made q = absurd q

  -- so does the store of a shortcut
  pub short_calls : (s t : ℕ) → Made p (StoreShort s t) b v o n w o1 → w.pass.calls ≡ v.pass.calls
  short_calls s t made = ap (λ (u : View). u.pass.calls) made.told.next

-- a commit comes to the own calls
pub commit_calls : (p : Pool) (c : Call) (v : View) (o : Option Open) (w : View) (o1 : Option Open) (own : ℕ) → Commits p c own v o w o1 → w.pass.calls ≡ v.pass.calls ++ link_entry v (client v) c (reply_of own c) ∷ []
commit_calls p c v o w o1 own e =
    ap (λ (u : View). u.pass.calls) e.made.told.next
    ∙ ap (λ (k : Bool). (cond k (link_view v e.made.now.history (client v) e.slot e.tail own c (reply_of own c) (rest_of v.pass.stock)) (seen e.slot e.tail v (next_of (unlinked e.tail)))).pass.calls) (eq-eqb (unlinked e.tail) (unlinked e.tail) refl)
