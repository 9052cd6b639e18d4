-- What a step of the server for a client comes to where it hands the client a batch, or bindings alone: the client has started its call anew.
use Prim.Native.Nat.{suc}
use Rattle.std.proofs.Common.{◌≡◌, ◌≢◌, ℕ, ◌+◌, ◌-◌, ◌<◌, List, [], ◌++◌, length, map, Bool, true, false, cond, ⊎_elim, refl, sym, ap, ◌∙◌, subst, arith}
use Rattle.std.specs.Prelude.{Option, Some, None}
use Rattle.std.proofs.lemmas.List.{map-append}
use Rattle.std.proofs.Math.ListN.{length-append}
use Rattle.clover_words.specs.declared.setup.Setup.{Setup}
use Rattle.clover_words.specs.Tag.{TagParts, tag_number}
use Rattle.clover_map.specs.History.{key_of}
use Rattle.clover_map.specs.declared.call.Call.{Call}
use Rattle.clover_alloc.specs.Batch.{tags_of}
use Rattle.clover_rule.specs.Lists.{IsPrefix, Within}
use Rattle.clover_rule.specs.declared.access.Access.{Access}
use Rattle.clover_rule.specs.declared.view.View.{View}
use Rattle.clover_plain.specs.Handing.{numbers_of}
use Rattle.clover_plain.specs.Plain.{Plain, Running, view_at}
use Rattle.clover_node.specs.Node.{NodeState}
use Rattle.clover_server.specs.Server.{ServerState}
use Rattle.clover_server.specs.declared.turn.ServerTurn.TheVariants.{Ready}
use Rattle.clover_run.specs.Client.{Calls, IsDoing, IsOf, IsTaskOf, Matches, Moved, Phase, Rests, Ends, Stands, Started, Wants, call_at, granted_to, since_of, step_record, want_of}
use Rattle.clover_run.specs.Folds.{Doing, granted}
use Rattle.clover_run.specs.Run.{Opening, Standing}
use Rattle.clover_run.specs.Served.{is_elsewhere}
use Rattle.clover_run.specs.Serving.{IsServing, Serves, TakesFor, telling}
use Rattle.clover_run.specs.Wanting.{slot_for, wants, wants_first}
use Rattle.clover_run.specs.Working.{Gained, MayGrant, MayServe, WasGranted, WasServed, Worked, refusing_behind}
use Rattle.clover_run.specs.declared.client.ClientState.{ClientState}
use Rattle.clover_run.specs.declared.event.Note.{Note}
use Rattle.clover_run.specs.declared.event.Note.TheVariants.{Granted}
use Rattle.clover_run.specs.declared.served.Served.{Served}
use Rattle.clover_run.specs.declared.want.Want.{Want}
use Rattle.clover_run.specs.declared.want.Want.TheVariants.{Nothing, Stock}
use Rattle.clover_run.proofs.Growing.{serves_grows}
use Rattle.clover_run.proofs.Placing.{After, call_is, moved_entries, moved_handed, stands_started}
use Rattle.clover_run.proofs.Readies.{IsReady, serves_ready}
use Rattle.clover_run.proofs.ServedSteps.{doing_wants, stands_on, task_so}
use Rattle.clover_run.proofs.Views.{handed_other}
use Rattle.clover_run.proofs.Wanted.{refused_stock, starts_nothing}
use Rattle.clover_run.proofs.Lacking.{started_lacks}

-- a started call leaves the names and the stock of the node
module _ (g y : ClientState) (call : Call) (t : Started g y call) where
  started_names : y.node.names ≡ g.node.names
  started_names = ⊎_elim (λ k. ap (λ (n : NodeState). n.names) k.0.kept) (λ k. ap (λ (n : NodeState). n.names) k.0) t.how

  started_stock : y.node.stock ≡ g.node.stock
  started_stock = ⊎_elim (λ k. ap (λ (n : NodeState). n.stock) k.0.kept) (λ k. ap (λ (n : NodeState). n.stock) k.0) t.how

  -- what it has under way then is what the records say, which have the call and the stock, and no act
  module _ (v : View) (d : Doing) (is : g.call ≡ Some call) (task : IsTaskOf call d) (decided : d.decided ≡ None) (since : d.since ≡ []) (stock : d.stock ≡ map tag_number g.node.stock) where
    call_kept : y.call ≡ Some call
    call_kept = ap (λ (z : ClientState). z.call) t.kept ∙ is

    first_want : want_of y call d ≡ wants_first call (slot_for (key_of call) g.node.names) (map tag_number g.node.stock)
    first_want = λ k. wants call (slot_for (key_of call) (started_names k)) (stock k) (since k)

    doing_started : (after : Phase) → After after g y call → IsDoing after y v d
    doing_started Rests a = absurd a
    doing_started Ends a = absurd a
    doing_started Calls a = subst (λ (c : Call). IsTaskOf c d × (d.decided ≡ None) × (d.since ≡ since_of y.node v) × (want_of y c d ≡ Nothing)) (sym (call_is y v call call_kept))
        (task, decided, since ∙ sym (ap (λ (b : Bool). cond b [] v.pass.since) a.0.first), first_want ∙ starts_nothing g.node call y.node a.0)
    doing_started Wants a = doing_wants y v d call call_kept task decided (first_want ∙ refused_stock g.node call a.2 ∙ sym a.1)

-- The client of seat i wants something and may be served, and the server's step answered that nothing is left to do.
module _ (o : Opening) (i : ℕ) (x : ClientState) (v : Served) (p : Plain) (may : MayServe o i x v p) (call : Call) (is : x.call ≡ Some call) (here_held : is_elsewhere v.holder (suc i) ≡ false) (b : Bool) (n : ServerState) (p1 : Plain) (w : Worked x.want call x.refusing b v.server n p p1 Ready) where
  ready : IsReady x.want call n (telling w.access)
  ready = serves_ready v.server n (telling w.access) x.want call v.server.setup.some_batch w.serves

  -- no access was made
  same_refusing : b ≡ x.refusing
  same_refusing = w.refusing_is ∙ ap (λ (a : Option Access). refusing_behind a x.refusing) ready.still

  moved_still : Moved None None p p1
  moved_still = subst (λ (a : Option Access). Moved a None p p1) ready.still w.moved

  -- the server's side may hand over
  pub may_grant : Running p1 → MayGrant o i (record x { refusing = b }) (record v { server = n }) p1
  may_grant running = record {
    may = record { stands = stands_on o i x v p may call is here_held b n p1 Ready w; server = w.server; running = running };
    idle = ready.idle;
    ended = ready.ended;
    free = ready.free;
  }

  module _ (y : ClientState) (s : Served) (q : Plain) (note : Note) (g : WasGranted i x y (record v { server = n }) s p1 q note) where
    abbrev tags : List TagParts
    tags = tags_of s.batch

    -- the client with what it was handed, and the pool behind that
    abbrev with_grant : ClientState
    with_grant = granted_to x tags g.added

    moved : Moved None None p q
    moved = moved_handed i (numbers_of s.batch) g.added None p p1 q moved_still g.handed g.history_same

    begun : Started with_grant y call
    begun = g.started call is

    stood : (after : Phase) × Stands o q i y after × After after with_grant y call
    stood =
        let idle = may.stands.phase.0 in
        stands_started o i p q moved.setup moved.opened moved.entered moved.seats (moved_entries None p q moved) x with_grant y Wants call may.stands (record { counts = idle.counts; calls = idle.calls }) refl refl refl is (may.stands.call call is) g.holds begun

    others_so : (j : ℕ) → j ≢ i → j ≢ o.setup.clients → view_at q j ≡ view_at p j
    others_so j ne nc =
        let same : p.setup.clients ≡ o.setup.clients = ap (λ (z : Setup). z.clients) may.stands.setup in
        let same1 : p1.setup.clients ≡ o.setup.clients = ap (λ (z : Setup). z.clients) (w.moved.setup ∙ may.stands.setup) in
        handed_other i (numbers_of s.batch) g.added p1 q g.handed j ne (λ e. nc (e ∙ same1)) ∙ w.others j (λ e. nc (e ∙ same))

    -- what the records say behind it
    abbrev does_so : Standing → Doing
    does_so st = granted st.does s (Granted (suc i) (length g.added))

    matches_so : (st : Standing) → Matches x (view_at p i) Wants st.does → Matches y (view_at q i) stood.0 (does_so st)
    matches_so st m =
        let stock : (does_so st).stock ≡ map tag_number with_grant.node.stock = ap (λ (l : List ℕ). l ++ map tag_number tags) m.stock ∙ sym (map-append tag_number x.node.stock tags) in
        record {
          refusing = ap (λ (z : ClientState). z.refusing) begun.kept ∙ m.refusing;
          known = ap (λ (k : ℕ). k + length g.added) m.known ∙ sym (length-append x.node.names g.added) ∙ ap length (sym (started_names with_grant y call begun));
          stock = stock ∙ ap (map tag_number) (sym (started_stock with_grant y call begun));
          doing = doing_started with_grant y call begun (view_at q i) (does_so st) is (task_so o i x v p may call is st m) refl refl stock stood.0 stood.2;
        }

    -- the grant brings the bindings that the client does not know
    added_so : (st : Standing) → Matches x (view_at p i) Wants st.does → length g.added ≡ length n.directory.list - st.does.known
    added_so st m = let l = length-append x.node.names g.added in let e = ap length g.names in let k = m.known in omega arith

    serving_so : (st : Standing) → IsOf i x p st → Matches x (view_at p i) Wants st.does → IsServing st.actor st.does x.want (call_at x (view_at p i)) v (step_record st None None (Granted (suc i) (length g.added)) s)
    serving_so st of m = record {
      turn = Ready;
      server = n;
      serves = subst (λ (c : Call). Serves x.want c v.server n Ready (telling None)) (sym (call_is x (view_at p i) call is)) (subst (λ (a : Option Access). Serves x.want call v.server n Ready (telling a)) ready.still w.serves);
      leaves = record { books = g.books; takes = g.takes; note = λ k. Granted (sym of.actor k) (added_so st m k); served = g.side };
    }

    -- and what it has by it
    names_so : y.node.names ≡ s.server.directory.list
    names_so = started_names with_grant y call begun ∙ g.names ∙ sym (ap (λ (z : Served). z.server.directory.list) g.side)

    stock_so : x.want ≡ Stock → 0 < length y.node.stock
    stock_so e =
        let many = (subst (λ (z : Want). TakesFor z n.books n.setup.batch tags g.books) e g.takes).many in
        let free = ready.free e in
        let some = n.setup.some_batch in
        let l = ap length (started_stock with_grant y call begun) ∙ length-append x.node.stock tags in
        omega arith

    gained_so : Gained x y call s.server
    gained_so = record {
      names = names_so;
      stock = stock_so;
      named = λ e put. let b = ready.named e put in (b.slot, subst (Within (b.slot, key_of call)) (sym (names_so ∙ ap (λ (z : Served). z.server.directory.list) g.side)) b.bound);
    }

    granted_here : WasServed o i x y v s p q (Granted (suc i) (length g.added))
    granted_here = record {
      access = None;
      moved = moved;
      others = others_so;
      after = stood.0;
      stands = stood.1;
      server = g.server;
      grows = subst (λ (z : Served). IsPrefix v.server.directory.list z.server.directory.list) (sym g.side) (serves_grows v.server n Ready (telling w.access) x.want call w.serves);
      follows = λ st of m same. (
        tt,
        record {
          entry = refl;
          waits = λ h. absurd (let z : true ≡ false = sym h ∙ ap (is_elsewhere v.holder) of.actor ∙ here_held in cc);
          serves = λ h. serving_so st of m;
        },
        matches_so st m,
      );
      regards = (g.added, refl, subst (λ (c : Call). Started with_grant y c) (sym (call_is x (view_at p i) call is)) begun);
      gained = subst (λ (c : Call). Gained x y c s.server) (sym (call_is x (view_at p i) call is)) gained_so;
      lowers = λ e. absurd cc;
      lacks = λ h. started_lacks with_grant y call (view_at q i) begun;
    }

    granted_so : WasServed o i x y v s p q note
    granted_so = subst (WasServed o i x y v s p q) (sym g.note_is) granted_here

  -- the client was handed what its call wants, and has started its call anew
  pub was_granted : (y : ClientState) (s : Served) (q : Plain) (note : Note) → WasGranted i (record x { refusing = b }) y (record v { server = n }) s p1 q note → WasServed o i x y v s p q note
  was_granted y s q note g = granted_so y s q note (subst (λ (c : Bool). WasGranted i (record x { refusing = c }) y (record v { server = n }) s p1 q note) same_refusing g)
