-- The accesses behind which a call goes on without an entry, and those at which it ends without an answer.
use Prim.Native.Nat.{suc}
use Rattle.std.proofs.Common.{◌≡◌, ℕ, ◌-◌, ◌^◌, ◌<◌, List, length, true, false, refl, sym, ap, ◌∙◌, subst, map}
use Rattle.std.specs.Prelude.{Option, Some, None}
use Rattle.clover_words.specs.declared.pool.Pool.{Pool}
use Rattle.clover_words.specs.declared.setup.Setup.{Setup}
use Rattle.clover_words.specs.Tag.{TagParts, tag_number}
use Rattle.clover_map.specs.History.{key_of}
use Rattle.clover_map.specs.declared.call.Call.{Call}
use Rattle.clover_rule.specs.Lists.{Within}
use Rattle.clover_rule.specs.Steps.{Step, act_of, reply_of}
use Rattle.clover_rule.specs.declared.access.Act.{Act}
use Rattle.clover_rule.specs.declared.view.View.{View}
use Rattle.clover_rule.proofs.Tools.{length_snoc}
use Rattle.clover_port.specs.Told.{Made, Open}
use Rattle.clover_plain.specs.Plain.{Plain, Refused as RefusedAt, history, open_of, view_at}
use Rattle.clover_walk.specs.Walking.{budget}
use Rattle.clover_call.specs.Caller.{is_first, new_tag, next_step, slot_of, CallerState}
use Rattle.clover_call.specs.Going.{Went as CallWent}
use Rattle.clover_call.specs.declared.under.Underway.{Underway}
use Rattle.clover_call.proofs.Staying.{turned}
use Rattle.clover_node.specs.Going.{KeepsCaller, SaysAt}
use Rattle.clover_node.specs.Node.{NodeState, NodeHolds}
use Rattle.clover_node.specs.declared.answer.NodeRefusal.{NodeRefusal}
use Rattle.clover_node.specs.declared.answer.NodeRefusal.TheVariants as node
use Rattle.clover_node.specs.declared.answer.NodeTurn.{NodeTurn}
use Rattle.clover_node.specs.declared.answer.NodeTurn.TheVariants.{More, Refused as RefusedTurn}
use Rattle.clover_node.specs.declared.counting.Counting.{Counting}
use Rattle.clover_node.specs.declared.counting.Counting.TheVariants.{No, Names, Absence}
use Rattle.clover_event.specs.Client.{access}
use Rattle.clover_event.specs.declared.event.CallRefusal.{CallRefusal}
use Rattle.clover_event.specs.declared.event.CallRefusal.TheVariants as why
use Rattle.clover_event.specs.Run.{lost}
use Rattle.clover_event.proofs.Advancing.{goes_on, stays_ahead}
use Rattle.clover_event.proofs.Going.{number_same}
use Rattle.clover_event.proofs.Linking.{linked_more, lost_commit}
use Rattle.clover_event.proofs.Turns.{quiet_history, quiet_act}
use Rattle.clover_run.specs.Client.{Phase, Rests, Calls, Ends, IsOwnPhase, Stands, IsDoing, Went, call_at, since_of}
use Rattle.clover_run.specs.Folds.{Doing}
use Rattle.clover_run.specs.Run.{Opening}
use Rattle.clover_run.specs.Stepping.{Accesses}
use Rattle.clover_run.specs.declared.client.ClientState.{ClientState}
use Rattle.clover_run.specs.declared.event.Note.TheVariants.{Quiet, Refused}
use Rattle.clover_run.proofs.Accessing.{busy_in, call_goes, counts_no, came_so, alone_so, doing_goes, due_so, held, held_behind, kept_call, kept_client, kept_names, kept_number, kept_want, lacks_none, last_so, made_access, made_own, matches_rests, not_refusing, phase_goes, refused_access, refused_own, seated, since_on, stands_by, stands_over, under_is, wants_none, since_view}
use Rattle.clover_run.proofs.Linking.{quiet_advances, under_named, wants_nothing}
use Rattle.clover_run.proofs.Moving.{blank_act, history_made, moved_made, moved_refused, others_made, others_refused}
use Rattle.clover_run.proofs.OnSlots.{OnSlot, called_by, on_slot, slot_says, slots_only}
use Rattle.clover_rule.specs.Accesses.{CameBack}
use Rattle.clover_words.specs.declared.bytes.ValueBuf.{ValueBuf}

-- a call that was refused leaves the cursors
cursors_at : (c : Counting) (p : Pool) (n n1 : NodeState) (call : Call) (room : ValueBuf) (v w : View) (o o1 : Option Open) (z : NodeRefusal) → SaysAt c p n call room v o n1 w o1 (RefusedTurn z) → KeepsCaller c n n1 → (c ≡ No → CallWent p n.caller.under n1.caller.under n.caller.cursors n1.caller.cursors room v o w o1 (called_by (RefusedTurn z))) → n1.caller.cursors ≡ n.caller.cursors
cursors_at No p n n1 call room v w o o1 z says still went = (went refl).cursors
cursors_at Names p n n1 call room v w o o1 z says still went = ap (λ (k : CallerState). k.cursors) still
cursors_at Absence p n n1 call room v w o o1 z says still went = ap (λ (k : CallerState). k.cursors) still

module _ (o : Opening) (i : ℕ) (f : Phase) (own_step : IsOwnPhase f) (x : ClientState) (p q : Plain) (st : Stands o p i x f) (few : p.made < 2 ^ 64 - 1) where
  abbrev v : View
  v = view_at p i

  abbrev w : View
  w = view_at q i

  abbrev u : Underway
  u = x.node.caller.under

  abbrev call : Call
  call = call_at x v

  abbrev step : Step
  step = next_step u v x.room

  -- what was under way goes on
  pub went_more : (y : ClientState) → Accesses i x y p q More → Went o i f x y p q Quiet
  went_more y a =
      let none : x.node.counting ≡ No = slots_only x.node.counting x.node v x.room _ a.made.0 More y.node w y.room a.made.2 (λ c. c) in
      let s : OnSlot i x y p q More = on_slot i x y p q More none (counts_no o i f x p st y q More a) a.made in
      let says = slot_says i x y p q More none a.went.says in
      let busy = busy_in f x own_step st.phase none in
      let act : Act = act_of step s.n in
      let still : history q ≡ history p = history_made i p q step (is_first u) s.n s.made ∙ quiet_history step (history p) v s.n s.stays.quiet in
      let moved = moved_made i p q step (is_first u) s.n s.stepped (seated o i f x p st) few st.entered still in
      let quiet = quiet_act step s.n s.stays.quiet in
      let names = kept_names o i f x p st y q More a in
      let calls = kept_call o i f x p st y q More a in
      let wants = kept_want o i f x p st y q More a in
      let same : call_at y w ≡ call = call_goes f x y v w own_step st.phase calls s.stays.same.call in
      let since = since_on o i f x p st y q More a s none a.went.going.later in
      let named : Within (slot_of u, key_of (call_at y w)) y.node.names
      = subst (λ (l : List (ℕ × List ℕ)). Within (slot_of u, key_of (call_at y w)) l) (st.holds.names ∙ sym names) (subst (λ (c : Call). Within (slot_of u, key_of c) v.pass.names) (under_is o i f x p st none busy ∙ sym same) (under_named o.setup.pool u v x.room busy (held o i f x p st))) in
      record {
        access = access i act false;
        entry = None;
        moved = moved;
        others = others_made i p q step (is_first u) true s.n s.stepped;
        last = λ free. last_so o i f x p st y q More a s;
        after = f;
        stands = stands_by o i f x p st q y f (Some (access i act false)) None moved (kept_client o i f x p st y q More a) a.went.pool
            (kept_number o i f x p st y q More a ∙ number_same x.number (suc i) p.entries q.entries st.number moved.entries)
            (subst (λ (c : Call). NodeHolds y.node c w y.room) (sym same) a.holds)
            (phase_goes f x y own_step st.phase wants calls a.went.going.busy a.went.turns.0)
            (λ c e. st.call c (sym calls ∙ e))
            (linked_more x.node.caller.pool u y.node.caller.under v w x.room y.room s.n st.holds.caller.call s.go says.turns st.linked (since_view o i f x p st y q More a s));
        lacks = lacks_none y w (wants ∙ wants_none f x own_step st.phase);
        follows = λ d of h. (
          made_own o.setup.pool i d act of.actor None Quiet tt tt (λ b. absurd (quiet.0 b)) (tt, quiet.1),
          record {
            refusing = not_refusing o i f x p st y q More a;
            known = h.known ∙ ap length (sym names);
            stock = h.stock ∙ ap (λ (l : List TagParts). map tag_number l) (sym (ap (λ (n : NodeState). n.stock) a.went.kept));
            doing = doing_goes f x y v w act d.does own_step same s.stays.same.tag since (λ acts. wants_nothing (call_at y w) y.node.names (slot_of u) d.does.stock acts act named) h.doing;
          },
        );
        fits = λ d of h. made_access o.setup.pool i d act of.actor (sym h.refusing ∙ a.asked) (subst (λ (ws : List ℕ). CameBack o.setup.pool ws act) (sym of.words) (came_so o i f x p st y q More a s));
        longer = λ b. ap length since ∙ length_snoc act (since_of x.node v);
        names = names;
        cursor = says.cursors;
        calls = λ b free. due_so x y step s.n (called_by More) Quiet s.due (λ c own k n t. t.0);
        counts = λ b. absurd (busy b);
        alone = λ m b free h. quiet_advances (suc i) o.setup.pool m q.words y.node.caller.under y.room
            (goes_on (suc i) o.setup.pool m v p.words q.words x.room y.room s.n u y.node.caller.under (called_by More) w (λ k. refl) (alone_so o i f x p st y q More a s (suc i) m y.room) (held o i f x p st) (held_behind o i f x p st y q More a) s.go h);
      }

  -- what is left of a client whose call is over without an answer
  cursors_lost : (y : ClientState) (z : NodeRefusal) → Accesses i x y p q (RefusedTurn z) → y.node.caller.cursors ≡ x.node.caller.cursors
  cursors_lost y z a =
      cursors_at x.node.counting x.node.caller.pool x.node y.node call y.room v w (Some (open_of p)) (Some (open_of q)) z a.went.says a.went.still (λ none. slot_says i x y p q (RefusedTurn z) none a.went.says)

  -- the turns of the call have reached the budget
  pub went_behind : (y : ClientState) (turns : ℕ) → Accesses i x y p q (RefusedTurn (node.Behind turns)) → f ≡ Calls → Went o i f x (record y { call = None }) p q (Refused (suc i) (why.Behind turns))
  went_behind y turns a calling =
      let t : NodeTurn = RefusedTurn (node.Behind turns) in
      let none : x.node.counting ≡ No = slots_only x.node.counting x.node v x.room _ a.made.0 t y.node w y.room a.made.2 (λ c. c) in
      let s : OnSlot i x y p q t = on_slot i x y p q t none (counts_no o i f x p st y q t a) a.made in
      let says = slot_says i x y p q t none a.went.says in
      let busy = busy_in f x own_step st.phase none in
      let act : Act = act_of step s.n in
      let still : history q ≡ history p = history_made i p q step (is_first u) s.n s.made ∙ quiet_history step (history p) v s.n s.stays.quiet in
      let moved = moved_made i p q step (is_first u) s.n s.stepped (seated o i f x p st) few st.entered still in
      let quiet = quiet_act step s.n s.stays.quiet in
      let names = kept_names o i f x p st y q t a in
      let pool : x.node.caller.pool ≡ p.setup.pool = st.pool ∙ sym (ap (λ (k : Setup). k.pool) st.setup) in
      record {
        access = access i act false;
        entry = None;
        moved = moved;
        others = others_made i p q step (is_first u) true s.n s.stepped;
        last = λ free. last_so o i f x p st y q t a s;
        after = Rests;
        stands = stands_over o i f x p st q (record y { call = None }) (Some (access i act false)) None call moved (kept_client o i f x p st y q t a) a.went.pool
            (kept_number o i f x p st y q t a ∙ number_same x.number (suc i) p.entries q.entries st.number moved.entries) a.holds a.went.over (kept_want o i f x p st y q t a ∙ wants_none f x own_step st.phase) refl;
        lacks = lacks_none (record y { call = None }) w (kept_want o i f x p st y q t a ∙ wants_none f x own_step st.phase);
        follows = λ d of h.
            let undecided : d.does.decided ≡ None = (subst (λ (g : Phase). IsDoing g x v d.does) calling h.doing).1 in (
              made_own o.setup.pool i d act of.actor None (Refused (suc i) (why.Behind turns)) tt tt (λ b. absurd (quiet.0 b)) (sym of.actor, says.behind.0 ∙ ap budget st.pool, refl, undecided, quiet.1),
              matches_rests (record y { call = None }) w _ (not_refusing o i f x p st y q t a) (h.known ∙ ap length (sym names)) (h.stock ∙ ap (λ (l : List TagParts). map tag_number l) (sym (ap (λ (n : NodeState). n.stock) a.went.kept))) refl refl,
            );
        fits = λ d of h. made_access o.setup.pool i d act of.actor (sym h.refusing ∙ a.asked) (subst (λ (ws : List ℕ). CameBack o.setup.pool ws act) (sym of.words) (came_so o i f x p st y q t a s));
        longer = λ b. absurd (b a.went.over);
        names = names;
        cursor = says.cursors;
        calls = λ b free. due_so x y step s.n (called_by t) (Refused (suc i) (why.Behind turns)) s.due (λ c own k n told. told);
        counts = λ b. absurd (busy b);
        alone = λ m b free h. absurd (stays_ahead (suc i) o.setup.pool m v p.words q.words x.room y.room s.n u y.node.caller.under turns (alone_so o i f x p st y q t a s (suc i) m y.room) (held o i f x p st) s.go h
            (turned x.node.caller.pool v (Some (open_of p)) s.n w (Some (open_of q)) x.room y.room u busy st.holds.caller.call (subst (λ (k : Pool). Made k step (is_first u) v (Some (open_of p)) s.n w (Some (open_of q))) (sym pool) s.made) says.behind.1));
      }

  -- the access was refused, which the call is answered by why
  went_refused : (y : ClientState) (z : NodeRefusal) (fault : CallRefusal) (a : Accesses i x y p q (RefusedTurn z)) → (b : Step) × RefusedAt (act_of b 0) i p q → x.refusing ≡ true → ((d : Doing) → IsDoing f x v d → fault ≡ lost d.decided)
      → Went o i f x (record y { call = None }) p q (Refused (suc i) fault)
  went_refused y z fault a (b, r) forced told =
      let t : NodeTurn = RefusedTurn z in
      let act : Act = act_of b 0 in
      let moved = moved_refused i p q act r (seated o i f x p st) st.entered in
      let names = kept_names o i f x p st y q t a in
      record {
        access = access i act true;
        entry = None;
        moved = moved;
        others = others_refused i p q act r;
        last = λ free. absurd (let k : true ≡ false = free in cc);
        after = Rests;
        stands = stands_over o i f x p st q (record y { call = None }) (Some (access i act true)) None call moved (kept_client o i f x p st y q t a) a.went.pool
            (kept_number o i f x p st y q t a ∙ number_same x.number (suc i) p.entries q.entries st.number moved.entries) a.holds a.went.over (kept_want o i f x p st y q t a ∙ wants_none f x own_step st.phase) refl;
        lacks = lacks_none (record y { call = None }) w (kept_want o i f x p st y q t a ∙ wants_none f x own_step st.phase);
        follows = λ d of h. (
          refused_own o.setup.pool i d act of.actor (Refused (suc i) fault) (ap (Refused (suc i)) (told d.does h.doing)),
          matches_rests (record y { call = None }) w _ (not_refusing o i f x p st y q t a) (h.known ∙ ap length (sym names)) (h.stock ∙ ap (λ (l : List TagParts). map tag_number l) (sym (ap (λ (n : NodeState). n.stock) a.went.kept))) refl refl,
        );
        fits = λ d of h. refused_access o.setup.pool i d act of.actor (sym h.refusing ∙ forced) (blank_act b);
        longer = λ b. absurd (b a.went.over);
        names = names;
        cursor = cursors_lost y z a;
        calls = λ b free. absurd (let k : true ≡ false = free in cc);
        counts = λ b free. absurd (let k : true ≡ false = free in cc);
        alone = λ m b free h. absurd (let k : true ≡ false = free in cc);
      }

  pub went_unreached : (y : ClientState) → Accesses i x y p q (RefusedTurn node.Unreached) → f ≡ Calls → Went o i f x (record y { call = None }) p q (Refused (suc i) why.Unreached)
  went_unreached y a calling = went_refused y node.Unreached why.Unreached a a.refused.0 a.forced (λ d is. let undecided : d.decided ≡ None = (subst (λ (g : Phase). IsDoing g x v d) calling is).1 in ap lost (sym undecided))

  pub went_linked : (y : ClientState) (t : TagParts) → Accesses i x y p q (RefusedTurn (node.Linked t)) → f ≡ Ends → Went o i f x (record y { call = None }) p q (Refused (suc i) (why.Linked (tag_number t)))
  went_linked y t a ending = went_refused y (node.Linked t) (why.Linked (tag_number t)) a a.refused.0 a.forced (λ d is.
      let decided : d.decided ≡ Some (reply_of (new_tag u) call) = (subst (λ (g : Phase). IsDoing g x v d) ending is).1 in
      ap why.Linked a.went.turns.1 ∙ sym (lost_commit (new_tag u) call) ∙ ap lost (sym decided))
