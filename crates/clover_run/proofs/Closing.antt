-- What the store of its shortcut comes to for a call that has committed: it is answered.
use Prim.Native.Nat.{suc}
use Rattle.std.proofs.Common.{◌≡◌, ◌≢◌, ℕ, ◌-◌, ◌^◌, ◌<◌, List, [], ◌∷◌, length, map, true, false, refl, sym, ap, ◌∙◌, subst}
use Rattle.std.specs.Prelude.{Some, None}
use Rattle.clover_words.specs.Tag.{TagParts, tag_number}
use Rattle.clover_map.specs.declared.call.Call.{Call}
use Rattle.clover_map.specs.declared.call.Reply.{Reply}
use Rattle.clover_rule.specs.Accesses.{CameBack}
use Rattle.clover_rule.specs.Learned.{next_history}
use Rattle.clover_rule.specs.Steps.{Step, StoreShort, act_of, reply_of}
use Rattle.clover_rule.specs.declared.access.Act.{Act}
use Rattle.clover_rule.specs.declared.view.View.{View}
use Rattle.clover_plain.specs.Plain.{Plain, view_at, history}
use Rattle.clover_call.specs.Caller.{HasCommitted, call_under, is_first, new_tag, next_step, slot_of}
use Rattle.clover_call.specs.Turning.{reply_in}
use Rattle.clover_call.specs.declared.answer.Answer.{Answer}
use Rattle.clover_call.specs.declared.under.Underway.{Underway}
use Rattle.clover_call.specs.declared.under.Underway.TheVariants.{Nothing as NoCall}
use Rattle.clover_node.specs.Node.{NodeState}
use Rattle.clover_node.specs.declared.answer.NodeTurn.{NodeTurn}
use Rattle.clover_node.specs.declared.answer.NodeTurn.TheVariants.{Done}
use Rattle.clover_node.specs.declared.counting.Counting.TheVariants.{No}
use Rattle.clover_event.specs.Alone.{Advances as SchedAdvances}
use Rattle.clover_event.specs.Client.{access}
use Rattle.clover_event.specs.Run.{Wrote}
use Rattle.clover_event.specs.declared.event.Note.TheVariants.{Answered as SchedAnswered}
use Rattle.clover_event.proofs.Advancing.{answers}
use Rattle.clover_event.proofs.Going.{number_same}
use Rattle.clover_event.proofs.Turns.{busy_behind}
use Rattle.clover_run.specs.Client.{Rests, Ends, Stands, IsKeptOrSet, Went, call_at}
use Rattle.clover_run.specs.Ends.{end_tags}
use Rattle.clover_run.specs.Run.{Opening, IsAnswer}
use Rattle.clover_run.specs.Stepping.{Accesses}
use Rattle.clover_run.specs.declared.client.ClientState.{ClientState}
use Rattle.clover_run.specs.declared.event.Note.TheVariants.{Answered}
use Rattle.clover_run.proofs.Accessing.{alone_so, came_so, counts_no, due_so, held, kept_client, kept_names, kept_number, kept_want, lacks_none, last_so, made_access, made_own, matches_rests, not_refusing, seated, since_was, stands_over, under_is}
use Rattle.clover_run.proofs.Linking.{answered_advances, answers_commit, commit_tags, ends_commit}
use Rattle.clover_run.proofs.Moving.{history_made, moved_made, others_made}
use Rattle.clover_run.proofs.OnSlots.{OnSlot, called_by, on_slot, slot_says}

module _ (o : Opening) (i : ℕ) (x : ClientState) (p q : Plain) (st : Stands o p i x Ends) (few : p.made < 2 ^ 64 - 1) (y : ClientState) where
  abbrev v : View
  v = view_at p i

  abbrev w : View
  w = view_at q i

  abbrev u : Underway
  u = x.node.caller.under

  abbrev call : Call
  call = call_at x (view_at p i)

  abbrev step : Step
  step = next_step x.node.caller.under (view_at p i) x.room

  pub went_closed : (a : Answer) (f : Accesses i x y p q (Done a)) (none : x.node.counting ≡ No) → Went o i Ends x (record y { call = None }) p q (Answered (suc i) (reply_in a y.room))
  went_closed a f none =
      let turn : NodeTurn = Done a in
      let s : OnSlot i x y p q turn = on_slot i x y p q turn none (counts_no o i Ends x p st y q turn f) f.made in
      let says = slot_says i x y p q turn none f.went.says in
      let behind : HasCommitted u = st.phase.0 in
      let busy : u ≢ NoCall = busy_behind u behind in
      let act : Act = act_of step s.n in
      let reply : Reply = reply_in a y.room in
      let z : ClientState = record y { call = None } in
      let short : step ≡ StoreShort (slot_of u) (new_tag u) = s.stays.shortens behind in
      let still : history q ≡ history p = history_made i p q step (is_first u) s.n s.made ∙ ap (λ (k : Step). next_history k (history p) v s.n) short in
      let moved = moved_made i p q step (is_first u) s.n s.stepped (seated o i Ends x p st) few st.entered still in
      let names = kept_names o i Ends x p st y q turn f in
      let own_is = says.done.1.own behind in
      let is : call_under u v ≡ call = under_is o i Ends x p st none busy in
      let told : reply ≡ reply_of (new_tag u) call = own_is.1 ∙ ap (reply_of (new_tag u)) is in
      let tags : end_tags reply act ≡ tag_number says.done.0 ∷ [] = ap (λ (r : Reply). end_tags r act) told ∙ commit_tags (new_tag u) call act ∙ ap (λ (k : ℕ). k ∷ []) (sym own_is.0) in
      record {
        access = access i act false;
        entry = None;
        moved = moved;
        others = others_made i p q step (is_first u) true s.n s.stepped;
        last = λ free. last_so o i Ends x p st y q turn f s;
        after = Rests;
        stands = stands_over o i Ends x p st q z (Some (access i act false)) None call moved (kept_client o i Ends x p st y q turn f) f.went.pool
            (kept_number o i Ends x p st y q turn f ∙ number_same x.number (suc i) p.entries q.entries st.number moved.entries) f.holds f.went.over (kept_want o i Ends x p st y q turn f ∙ st.phase.1) refl;
        lacks = lacks_none z w (kept_want o i Ends x p st y q turn f ∙ st.phase.1);
        follows = λ d of h. (
          made_own o.setup.pool i d act of.actor None (Answered (suc i) reply) tt tt (λ wrote. absurd (subst (λ (k : Step). Wrote (act_of k s.n)) short wrote)) (
            sym of.actor,
            subst (λ (r : Reply). IsAnswer d None act r) (sym told) (answers_commit d act (new_tag u) call h.doing.1
                (ends_commit x.node.caller.pool u y.node.caller.under v x.room y.room s.n d a call h.doing.0.0 (st.holds.names ∙ sym of.names) is st.holds.caller.call s.go behind st.linked short h.doing.0.1 (h.doing.2 ∙ since_was o i Ends x p st y q turn f s none))),
          ),
          matches_rests z w _ (not_refusing o i Ends x p st y q turn f) (h.known ∙ ap length (sym names)) (h.stock ∙ ap (λ (l : List TagParts). map tag_number l) (sym (ap (λ (n : NodeState). n.stock) f.went.kept))) refl refl,
        );
        fits = λ d of h. made_access o.setup.pool i d act of.actor (sym h.refusing ∙ f.asked) (subst (λ (ws : List ℕ). CameBack o.setup.pool ws act) (sym of.words) (came_so o i Ends x p st y q turn f s));
        longer = λ b. absurd (b f.went.over);
        names = names;
        cursor = subst (λ (l : List ℕ). IsKeptOrSet l (slot_of u) x.node.caller.cursors y.node.caller.cursors) (sym tags) (says.done.0, refl, says.done.2);
        calls = λ b free. due_so x y step s.n (called_by turn) (Answered (suc i) reply) s.due (λ c own k n h. h);
        counts = λ b. absurd (busy b);
        alone = λ m b free h. answered_advances (suc i) o.setup.pool m q.words y.node.caller.under y.room reply reply (subst (λ (k : Underway). SchedAdvances (suc i) o.setup.pool m q.words k y.room (SchedAnswered (suc i) reply)) (sym f.went.over.calls)
            (answers (suc i) o.setup.pool m v p.words q.words x.room y.room s.n u y.node.caller.under a q.words reply (alone_so o i Ends x p st y q turn f s (suc i) m y.room) (held o i Ends x p st) s.go h));
      }
