-- A client whose next access is to be refused stands, and goes on, as it did.
use Rattle.std.proofs.Common.{◌≡◌, ℕ, true, refl, sym, subst}
use Rattle.std.specs.Prelude.{Option, Some, None}
use Rattle.clover_words.specs.declared.pool.Pool.{Pool}
use Rattle.clover_map.specs.declared.call.Call.{Call}
use Rattle.clover_rule.specs.Steps.{reply_of}
use Rattle.clover_rule.specs.declared.view.View.{View}
use Rattle.clover_plain.specs.Plain.{Plain, view_at}
use Rattle.clover_call.specs.Caller.{new_tag}
use Rattle.clover_node.specs.Node.{NodeHolds}
use Rattle.clover_run.specs.Client.{Phase, Rests, Wants, Calls, Ends, IsIn, IsDoing, IsTaskOf, Stands, Matches, GoesSoFar, call_at, call_or, since_of, want_of}
use Rattle.clover_run.specs.Folds.{Doing}
use Rattle.clover_run.specs.Run.{Opening, Standing}
use Rattle.clover_run.specs.declared.client.ClientState.{ClientState}
use Rattle.clover_run.specs.declared.want.Want.TheVariants.{Nothing}

abbrev pub refusing : ClientState → ClientState
refusing x = record x { refusing = true }

-- the call under way is the same
call_refusing : (x : ClientState) (v : View) → call_at (refusing x) v ≡ call_at x v
call_refusing x v = go x.call
  where
    go : (c : Option Call) → call_or c (refusing x) v ≡ call_or c x v
    go None = refl
    go (Some call) = refl

refusing_phase : (f : Phase) (x : ClientState) → IsIn f x → IsIn f (refusing x)
refusing_phase Rests x h = h
refusing_phase Wants x h = h
refusing_phase Calls x h = h
refusing_phase Ends x h = h

pub refusing_stands : (o : Opening) (p : Plain) (i : ℕ) (x : ClientState) (f : Phase) → Stands o p i x f → Stands o p i (refusing x) f
refusing_stands o p i x f s = record {
  setup = s.setup;
  opened = s.opened;
  entered = s.entered;
  seat = s.seat;
  seats = s.seats;
  client = s.client;
  number = s.number;
  pool = s.pool;
  holds = subst (λ (call : Call). NodeHolds x.node call (view_at p i) x.room) (sym (call_refusing x (view_at p i))) s.holds;
  phase = refusing_phase f x s.phase;
  call = s.call;
  linked = s.linked;
}

abbrev refuses : Doing → Doing
refuses d = record d { refusing = true }

refusing_doing : (f : Phase) (x : ClientState) (v : View) (d : Doing) → IsDoing f x v d → IsDoing f (refusing x) v (refuses d)
refusing_doing Rests x v d h = h
refusing_doing Wants x v d h = subst (λ (call : Call). IsTaskOf call d × (d.decided ≡ None) × (want_of x call d ≡ x.want)) (sym (call_refusing x v)) h
refusing_doing Calls x v d h = subst (λ (call : Call). IsTaskOf call d × (d.decided ≡ None) × (d.since ≡ since_of x.node v) × (want_of x call d ≡ Nothing)) (sym (call_refusing x v)) h
refusing_doing Ends x v d h = subst (λ (call : Call). IsTaskOf call d × (d.decided ≡ Some (reply_of (new_tag x.node.caller.under) call)) × (d.since ≡ since_of x.node v) × (want_of x call d ≡ Nothing)) (sym (call_refusing x v)) h

pub refusing_matches : (x : ClientState) (v : View) (f : Phase) (d : Doing) → Matches x v f d → Matches (refusing x) v f (refuses d)
refusing_matches x v f d m = record { refusing = refl; known = m.known; stock = m.stock; doing = refusing_doing f x v d m.doing }

pub refusing_goes : (p : Pool) (t : Standing) (x : ClientState) (v : View) → GoesSoFar p t x (call_at x v) → GoesSoFar p t (refusing x) (call_at (refusing x) v)
refusing_goes p t x v g = subst (λ (call : Call). GoesSoFar p t (refusing x) call) (sym (call_refusing x v)) (record { slot = g.slot; known = g.known; stands = g.stands; calling = g.calling; under = g.under; fits = g.fits })
