-- What the machine stands on behind one record more, whatever the record is: the history is legal, the server stands where nothing of it changed, and a client's names are the first of the directory.
use Rattle.std.proofs.Common.{◌≡◌, ◌≢◌, ℕ, take, true, inl, inr, List, [], refl, sym, ap, ◌∙◌, subst, arith}
use Rattle.std.specs.Prelude.{Option}
use Rattle.std.proofs.Math.Seq.{take-append_seam}
use Rattle.clover_words.specs.declared.setup.Setup.{Setup}
use Rattle.clover_map.specs.Legal.{Legal}
use Rattle.clover_map.specs.Tagged.{Tagged}
use Rattle.clover_map.specs.declared.call.Entry.{Entry}
use Rattle.clover_rule.specs.Names.{KeysOnce}
use Rattle.clover_rule.specs.declared.access.Access.{Access}
use Rattle.clover_rule.specs.declared.view.View.{View}
use Rattle.clover_plain.specs.Plain.{Plain, Running, history, view_at}
use Rattle.clover_server.specs.Holding.{Agrees}
use Rattle.clover_server.specs.Server.{ServerState}
use Rattle.clover_run.specs.Client.{Phase, Rests, Wants, Calls, Ends, HasTask, IsIn, IsOwnPhase, Moved, Stands, Matches}
use Rattle.clover_run.specs.Folds.{Doing, entries_in, names_of}
use Rattle.clover_run.specs.Machine.{IsPoolAt}
use Rattle.clover_run.specs.Record.{Record}
use Rattle.clover_run.specs.Run.{Opening}
use Rattle.clover_run.specs.Working.{HasServer}
use Rattle.clover_run.specs.declared.client.ClientState.{ClientState}
use Rattle.clover_run.specs.declared.served.Served.{Served}
use Rattle.clover_run.specs.declared.want.Want.TheVariants.{Nothing}
use Rattle.clover_run.proofs.Listed.{known_names, list_once}
use Rattle.clover_run.proofs.Names.{keys_front}

-- in a pool that runs the entries so far are a legal history
pub legal_in : (o : Opening) (q : Plain) (rs : List Record) → IsPoolAt o q rs → Running q → Legal o.first o.used (entries_in rs)
legal_in o q rs at running =
    subst (λ (l : List Entry). Legal o.first o.used l) (sym at.entered ∙ at.entries)
    (subst (λ (f : Tagged). Legal f o.used (history q)) at.first (subst (λ (u : List ℕ). Legal q.first u (history q)) at.used running.rule.history_and_map.legal))

-- the server stands where its view is as it was
pub server_same : (p q : Plain) (s : ServerState) (a : Option Access) (e : Option Entry) → p.opened ≡ true → Moved a e p q → view_at q p.setup.clients ≡ view_at p p.setup.clients → HasServer p s → HasServer q s
server_same p q s a e opened moved view h = record {
  opened = moved.opened ∙ opened;
  entered = moved.entered;
  seat = let b = h.seat in let n = moved.seats in let c = ap (λ (z : Setup). z.clients) moved.setup in omega arith;
  agrees = subst (λ (z : Setup). Agrees z.pool [] s (view_at q z.clients)) (sym moved.setup) (subst (λ (v : View). Agrees p.setup.pool [] s v) (sym view) h.agrees);
}

-- the names that the records say a client knows are those of its node
pub names_behind : (o : Opening) (q : Plain) (i : ℕ) (y : ClientState) (f : Phase) (w : Served) (d : Doing) → Running q → HasServer q w.server → Stands o q i y f → Matches y (view_at q i) f d → names_of w d ≡ y.node.names
names_behind o q i y f w d running server stands matches =
    let k = known_names q w.server running server o i y f stands in
    (λ j. take (matches.known j) (k.1 j)) ∙ take-append_seam y.node.names k.0

-- and no key stands twice among them
pub keys_behind : (o : Opening) (q : Plain) (i : ℕ) (y : ClientState) (f : Phase) (s : ServerState) → Running q → HasServer q s → Stands o q i y f → KeysOnce y.node.names
keys_behind o q i y f s running server stands =
    let k = known_names q s running server o i y f stands in
    keys_front y.node.names k.0 (subst KeysOnce k.1 (list_once q s running server))

-- a client with a task that wants nothing makes accesses of its own, and one that wants something waits for it
pub own_phase : (f : Phase) (x : ClientState) → x.want ≡ Nothing → HasTask x → IsIn f x → IsOwnPhase f
own_phase Rests x free (inl some) h = absurd (some h.2)
own_phase Rests x free (inr busy) h = absurd (busy h.0)
own_phase Wants x free has h = absurd (h.1 free)
own_phase Calls x free has h = tt
own_phase Ends x free has h = tt

pub wants_phase : (f : Phase) (x : ClientState) → x.want ≢ Nothing → IsIn f x → f ≡ Wants
wants_phase Rests x some h = absurd (some h.1)
wants_phase Wants x some h = refl
wants_phase Calls x some h = absurd (some h.2)
wants_phase Ends x some h = absurd (some h.1)
