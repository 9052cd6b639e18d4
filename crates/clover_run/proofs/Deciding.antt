-- What the access that decides a call comes to: the exchange that links its version, or the load that shows its tail; and what the store of a shortcut behind a commit does.
use Prim.Native.Nat.{suc}
use Rattle.std.proofs.Common.{◌≡◌, ◌≢◌, ℕ, ◌-◌, ◌^◌, ◌<◌, List, [], ◌∷◌, ◌++◌, length, map, Bool, false, cond, refl, sym, ap, ◌∙◌, subst}
use Rattle.std.specs.Prelude.{Option, Some, None}
use Rattle.clover_words.specs.Tag.{TagParts, tag_number}
use Rattle.clover_words.specs.Version.{unlinked}
use Rattle.clover_map.specs.History.{key_of, is_commit}
use Rattle.clover_map.specs.declared.call.Call.{Call}
use Rattle.clover_map.specs.declared.call.Entry.{Entry}
use Rattle.clover_map.specs.declared.call.Reply.{Reply}
use Rattle.clover_rule.specs.Accesses.{CameBack, shows_tail}
use Rattle.clover_rule.specs.Knowing.{link_entry}
use Rattle.clover_rule.specs.Learned.{rest_of}
use Rattle.clover_rule.specs.Lists.{Within}
use Rattle.clover_rule.specs.Steps.{Step, DecideNext, LinkNext, act_of, client, reply_of}
use Rattle.clover_rule.specs.declared.access.Act.{Act}
use Rattle.clover_rule.specs.declared.view.View.{View}
use Rattle.clover_rule.proofs.Tools.{length_snoc}
use Rattle.clover_port.specs.Told.{Open}
use Rattle.clover_plain.specs.Plain.{Plain, KeptButEntries, view_at, history, open_of}
use Rattle.clover_call.specs.Caller.{IsUncommitted, call_under, is_first, new_tag, next_step, slot_of}
use Rattle.clover_call.specs.Turning.{reply_in}
use Rattle.clover_call.specs.declared.answer.Answer.{Answer}
use Rattle.clover_call.specs.declared.under.Underway.{Underway}
use Rattle.clover_call.specs.declared.under.Underway.TheVariants.{Nothing as NoCall}
use Rattle.clover_node.specs.Node.{NodeState, NodeHolds, IsAsked}
use Rattle.clover_node.specs.declared.answer.NodeTurn.{NodeTurn}
use Rattle.clover_node.specs.declared.answer.NodeTurn.TheVariants.{Decided, Done}
use Rattle.clover_node.specs.declared.counting.Counting.{Counting}
use Rattle.clover_node.specs.declared.counting.Counting.TheVariants.{No}
use Rattle.clover_event.specs.Client.{access, HasLinked}
use Rattle.clover_event.specs.Stepping.{next_entry}
use Rattle.clover_event.proofs.Advancing.{goes_on, answers}
use Rattle.clover_event.proofs.Linking.{linked_now, link_act}
use Rattle.clover_event.proofs.Places.{same_snoc}
use Rattle.clover_event.proofs.Turns.{busy_behind, commits_always, commits_nothing}
use Rattle.clover_run.specs.Alone.{Advances}
use Rattle.clover_run.specs.Client.{Rests, Calls, Ends, Stands, Matches, IsKeptOrSet, Went, call_at, since_of, step_record, call_or}
use Rattle.clover_run.specs.Ends.{end_tags, seen_tags}
use Rattle.clover_run.specs.Folds.{Doing, stepped}
use Rattle.clover_run.specs.Run.{Opening}
use Rattle.clover_run.specs.Stepping.{Accesses}
use Rattle.clover_run.specs.declared.client.ClientState.{ClientState}
use Rattle.clover_run.specs.declared.event.Note.TheVariants.{Quiet, Answered}
use Rattle.clover_run.proofs.Accessing.{alone_so, busy_in, came_so, counts_no, due_so, held, held_behind, kept_client, kept_names, kept_number, kept_want, lacks_none, made_access, matches_rests, not_refusing, since_on, since_view, since_was, stands_by, stands_over, under_call, under_is}
use Rattle.clover_run.proofs.Entering.{decides_so, last_in, moved_in, number_in, one_more, others_in, own_in, takes_first, takes_none, there, told_more}
use Rattle.clover_run.proofs.Linking.{answer_tags, answered_advances, quiet_advances, seen_tail, under_named, wants_nothing}
use Rattle.clover_run.proofs.OnSlots.{OnSlot, called_by, on_slot, slot_says, uncommitted_of_open}
use Rattle.clover_script.specs.declared.line.Task.TheVariants.{Client as ClientTask}
use Rattle.clover_event.specs.Alone.{Advances as SchedAdvances}
use Rattle.clover_event.specs.declared.event.Note.TheVariants.{Answered as SchedAnswered}

module _ (o : Opening) (i : ℕ) (x : ClientState) (p q : Plain) (st : Stands o p i x Calls) (few : p.made < 2 ^ 64 - 1) (y : ClientState) where
  abbrev v : View
  v = view_at p i

  abbrev w : View
  w = view_at q i

  abbrev u : Underway
  u = x.node.caller.under

  abbrev call : Call
  call = call_at x (view_at p i)

  abbrev step : Step
  step = next_step x.node.caller.under (view_at p i) x.room

  -- a call on a slot is under way, and has committed nothing
  busy_so : x.node.counting ≡ No → u ≢ NoCall
  busy_so none = busy_in Calls x tt st.phase none

  before_so : x.node.counting ≡ No → IsUncommitted u
  before_so none = uncommitted_of_open u st.phase.1 (busy_so none)

  -- what its client keeps is the call itself
  kept_so : {t : NodeTurn} → Accesses i x y p q t → y.call ≡ Some call
  kept_so a = ap (λ (z : ClientState). z.call) a.rest ∙ st.phase.3.1 ∙ sym (ap (λ (k : Option Call). Some (call_or k x v)) st.phase.3.1)

  -- the exchange that committed the call added its entry
  pub commit_adds : (a : Answer) (f : Accesses i x y p q (Decided a)) → x.node.counting ≡ No → history q ≡ history p ++ link_entry v (client v) call (reply_in a y.room) ∷ []
  commit_adds a f none =
      let e = (slot_says i x y p q (Decided a) none f.went.says).decided in
      told_more x.node.caller.pool (LinkNext e.0.slot e.0.tail (new_tag u) (call_under u v)) false v (unlinked e.0.tail) (link_entry v (client v) (call_under u v) (reply_of (new_tag u) (call_under u v))) (open_of p) w (open_of q) e.0.made (λ h. one_more (unlinked e.0.tail) h (link_entry v (client v) (call_under u v) (reply_of (new_tag u) (call_under u v))))
      ∙ (λ j. history p ++ link_entry v (client v) (under_is o i Calls x p st none (busy_so none) j) (sym e.1 j) ∷ [])

  -- and so did the load that ended one at its tail
  pub end_adds : (a : Answer) (f : Accesses i x y p q (Done a)) → x.node.counting ≡ No → history q ≡ history p ++ link_entry v (client v) call (reply_in a y.room) ∷ []
  end_adds a f none =
      let e = ((slot_says i x y p q (Done a) none f.went.says).done.1.tail (before_so none)).0 in
      told_more x.node.caller.pool (DecideNext e.slot e.tag (call_under u v) (reply_in a y.room)) false v (unlinked e.tag) (link_entry v (client v) (call_under u v) (reply_in a y.room)) (open_of p) w (open_of q) e.made (λ h. one_more (unlinked e.tag) h (link_entry v (client v) (call_under u v) (reply_in a y.room)))
      ∙ (λ j. history p ++ link_entry v (client v) (under_is o i Calls x p st none (busy_so none) j) (reply_in a y.room) ∷ [])

  -- the exchange that linked the new tag
  pub went_decided : (a : Answer) (f : Accesses i x y p q (Decided a)) (none : x.node.counting ≡ No) (t : Plain) → t.entries ≡ q.entries ++ next_entry (suc i) x.number call (reply_in a y.room) ∷ [] → KeptButEntries q t
      → Went o i Calls x (record y { call = None; number = suc y.number }) p t Quiet
  went_decided a f none t more kept =
      let turn : NodeTurn = Decided a in
      let s : OnSlot i x y p q turn = on_slot i x y p q turn none (counts_no o i Calls x p st y q turn f) f.made in
      let says = slot_says i x y p q turn none f.went.says in
      let busy = busy_so none in
      let act : Act = act_of step s.n in
      let reply : Reply = reply_in a y.room in
      let adds = commit_adds a f none in
      let entry : Entry = next_entry (suc i) x.number call reply in
      let z : ClientState = record y { call = None; number = suc y.number } in
      let to : view_at t i ≡ w = there o i x p q st few step (is_first u) s.n s.stepped s.made reply adds t more kept in
      let moved = moved_in o i x p q st few step (is_first u) s.n s.stepped s.made reply adds t more kept in
      let names = kept_names o i Calls x p st y q turn f in
      let behind = says.turns.1 in
      let same : call_under y.node.caller.under w ≡ call = under_call y.node.caller.under w call (subst (λ (c : Counting). IsAsked c y.node w call) (counts_no o i Calls x p st y q turn f) f.holds.asked) (busy_behind y.node.caller.under behind) in
      let since = since_on o i Calls x p st y q turn f s none f.went.going.later in
      let has : (d : Doing) → d.stock ≡ map tag_number x.node.stock → d.stock ≡ new_tag u ∷ w.pass.stock = λ d e. e ∙ sym st.holds.stock ∙ s.stays.stock in
      let named : Within (slot_of u, key_of (call_under y.node.caller.under w)) y.node.names
      = subst (λ (l : List (ℕ × List ℕ)). Within (slot_of u, key_of (call_under y.node.caller.under w)) l) (st.holds.names ∙ sym names)
      (subst (λ (c : Call). Within (slot_of u, key_of c) v.pass.names) (under_is o i Calls x p st none busy ∙ sym same) (under_named o.setup.pool u v x.room busy (held o i Calls x p st))) in
      let acts : (d : Doing) → d.since ≡ since_of x.node v → w.pass.since ≡ d.since ++ act ∷ []
      = λ d e. since_view o i Calls x p st y q turn f s ∙ ap (λ (l : List Act). l ++ act ∷ []) (sym (e ∙ since_was o i Calls x p st y q turn f s none)) in
      record {
        access = access i act false;
        entry = Some entry;
        moved = moved;
        others = others_in o i x p q st few step (is_first u) s.n s.stepped s.made reply adds t more kept;
        last = λ free. last_in o i x p q st few step (is_first u) s.n s.stepped s.made reply adds t more kept;
        after = Ends;
        stands = stands_by o i Calls x p st t z Ends (Some (access i act false)) (Some entry) moved (kept_client o i Calls x p st y q turn f) f.went.pool
            (ap suc (kept_number o i Calls x p st y q turn f) ∙ number_in o i x p q st few step (is_first u) s.n s.stepped s.made reply adds t more kept)
            (subst (λ (k : View). NodeHolds y.node (call_under y.node.caller.under k) k y.room) (sym to) (subst (λ (c : Call). NodeHolds y.node c w y.room) (sym same) f.holds))
            (behind, kept_want o i Calls x p st y q turn f ∙ st.phase.2, refl) (λ c e. absurd cc)
            (subst (λ (k : View). HasLinked y.node.caller.under k.pass.since) (sym to) (linked_now x.node.caller.pool u y.node.caller.under v w x.room y.room s.n u a s.go behind (since_view o i Calls x p st y q turn f s)));
        lacks = lacks_none z (view_at t i) (kept_want o i Calls x p st y q turn f ∙ st.phase.2);
        follows = λ d of h. (
          own_in o i x p q st few step (is_first u) s.n s.stepped s.made reply adds t more kept d Quiet of h.doing.0 h.doing.1
              (decides_so o i x p q st few step (is_first u) s.n s.stepped s.made reply adds (call_under u v) (reply_of (new_tag u) (call_under u v)) says.decided.0.made.now.words (d.does.since ++ act ∷ []) (under_is o i Calls x p st none busy) (sym says.decided.1)
              (ap (λ (k : Open). k.words) (sym says.decided.0.made.tells.0)) (acts d.does h.doing.2) says.decided.0.decides)
              (takes_first d entry (new_tag u) w.pass.stock call f.went.turns.3 (has d.does h.stock))
              (ap is_commit f.went.turns.3 ∙ commits_always (new_tag u) call, link_act x.node.caller.pool u y.node.caller.under v w x.room y.room s.n u a s.go behind),
          subst (λ (k : View). Matches z k Ends (stepped d.does (step_record d (Some (access i act false)) (Some entry) Quiet d.served))) (sym to) (record {
            refusing = not_refusing o i Calls x p st y q turn f;
            known = h.known ∙ ap length (sym names);
            stock = ap (λ (b : Bool). cond b (rest_of d.does.stock) d.does.stock) (ap is_commit f.went.turns.3 ∙ commits_always (new_tag u) call) ∙ ap rest_of (has d.does h.stock) ∙ f.holds.stock;
            doing = (
              (h.doing.0.0, h.doing.0.1 ∙ ap (λ (c : Call). Some (ClientTask c h.doing.0.0)) (sym same)),
              ap Some (f.went.turns.3 ∙ (λ j. reply_of (sym f.went.turns.2 j) (sym same j))),
              ap (λ (l : List Act). l ++ act ∷ []) h.doing.2 ∙ sym since,
              wants_nothing (call_under y.node.caller.under w) y.node.names (slot_of u) (cond (is_commit reply) (rest_of d.does.stock) d.does.stock) d.does.since act named,
            );
          }),
        );
        fits = λ d of h. made_access o.setup.pool i d act of.actor (sym h.refusing ∙ f.asked) (subst (λ (ws : List ℕ). CameBack o.setup.pool ws act) (sym of.words) (came_so o i Calls x p st y q turn f s));
        longer = λ b. ap (λ (k : View). length (since_of y.node k)) to ∙ ap length since ∙ length_snoc act (since_of x.node v);
        names = names;
        cursor = says.cursors;
        calls = λ b free. due_so x y step s.n (called_by turn) Quiet s.due (λ c own k n h. h.0);
        counts = λ b. absurd (busy b);
        alone = λ m b free h. subst (λ (ws : List ℕ). Advances (suc i) o.setup.pool m ws y.node.caller.under y.room Quiet) (sym kept.words)
            (quiet_advances (suc i) o.setup.pool m q.words y.node.caller.under y.room
            (goes_on (suc i) o.setup.pool m v p.words q.words x.room y.room s.n u y.node.caller.under (called_by turn) w (λ k. refl) (alone_so o i Calls x p st y q turn f s (suc i) m y.room) (held o i Calls x p st) (held_behind o i Calls x p st y q turn f) s.go h));
      }

  -- the load that decided a call at its tail
  pub went_answered : (a : Answer) (f : Accesses i x y p q (Done a)) (none : x.node.counting ≡ No) (t : Plain) → t.entries ≡ q.entries ++ next_entry (suc i) x.number call (reply_in a y.room) ∷ [] → KeptButEntries q t
      → Went o i Calls x (record y { call = None; number = suc y.number }) p t (Answered (suc i) (reply_in a y.room))
  went_answered a f none t more kept =
      let turn : NodeTurn = Done a in
      let s : OnSlot i x y p q turn = on_slot i x y p q turn none (counts_no o i Calls x p st y q turn f) f.made in
      let says = slot_says i x y p q turn none f.went.says in
      let busy = busy_so none in
      let act : Act = act_of step s.n in
      let reply : Reply = reply_in a y.room in
      let adds = end_adds a f none in
      let entry : Entry = next_entry (suc i) x.number call reply in
      let z : ClientState = record y { call = None; number = suc y.number } in
      let to : view_at t i ≡ w = there o i x p q st few step (is_first u) s.n s.stepped s.made reply adds t more kept in
      let moved = moved_in o i x p q st few step (is_first u) s.n s.stepped s.made reply adds t more kept in
      let names = kept_names o i Calls x p st y q turn f in
      let ended = says.done.1.tail (before_so none) in
      let shown : act ≡ shows_tail (tag_number says.done.0) = (same_snoc (cond (is_first u) [] v.pass.since) ended.1.0 act (shows_tail (tag_number says.done.0)) (sym (since_view o i Calls x p st y q turn f s) ∙ ended.1.1)).1 in
      let plain = commits_nothing a y.room ended.2 in
      let tags : end_tags reply act ≡ tag_number says.done.0 ∷ [] = answer_tags a says.done.0 y.room act says.done.1.tag (ap seen_tags shown ∙ seen_tail (tag_number says.done.0)) in
      let acts : (d : Doing) → d.since ≡ since_of x.node v → w.pass.since ≡ d.since ++ act ∷ []
      = λ d e. since_view o i Calls x p st y q turn f s ∙ ap (λ (l : List Act). l ++ act ∷ []) (sym (e ∙ since_was o i Calls x p st y q turn f s none)) in
      record {
        access = access i act false;
        entry = Some entry;
        moved = moved;
        others = others_in o i x p q st few step (is_first u) s.n s.stepped s.made reply adds t more kept;
        last = λ free. last_in o i x p q st few step (is_first u) s.n s.stepped s.made reply adds t more kept;
        after = Rests;
        stands = stands_over o i Calls x p st t z (Some (access i act false)) (Some entry) call moved (kept_client o i Calls x p st y q turn f) f.went.pool
            (ap suc (kept_number o i Calls x p st y q turn f) ∙ number_in o i x p q st few step (is_first u) s.n s.stepped s.made reply adds t more kept)
            (subst (λ (k : View). NodeHolds y.node call k y.room) (sym to) f.holds) f.went.over (kept_want o i Calls x p st y q turn f ∙ st.phase.2) refl;
        lacks = lacks_none z (view_at t i) (kept_want o i Calls x p st y q turn f ∙ st.phase.2);
        follows = λ d of h. (
          own_in o i x p q st few step (is_first u) s.n s.stepped s.made reply adds t more kept d (Answered (suc i) reply) of h.doing.0 h.doing.1
              (decides_so o i x p q st few step (is_first u) s.n s.stepped s.made reply adds (call_under u v) reply ended.0.made.now.words (d.does.since ++ act ∷ []) (under_is o i Calls x p st none busy) refl
              (ap (λ (k : Open). k.words) (sym ended.0.made.tells.0)) (acts d.does h.doing.2) ended.0.decides)
              (takes_none d entry plain) (sym of.actor, (plain, refl)),
          matches_rests z (view_at t i) _ (not_refusing o i Calls x p st y q turn f) (h.known ∙ ap length (sym names))
              (ap (λ (b : Bool). cond b (rest_of d.does.stock) d.does.stock) plain ∙ h.stock ∙ ap (λ (l : List TagParts). map tag_number l) (sym (ap (λ (n : NodeState). n.stock) f.went.kept))) refl refl,
        );
        fits = λ d of h. made_access o.setup.pool i d act of.actor (sym h.refusing ∙ f.asked) (subst (λ (ws : List ℕ). CameBack o.setup.pool ws act) (sym of.words) (came_so o i Calls x p st y q turn f s));
        longer = λ b. absurd (b f.went.over);
        names = names;
        cursor = subst (λ (l : List ℕ). IsKeptOrSet l (slot_of u) x.node.caller.cursors y.node.caller.cursors) (sym tags) (says.done.0, refl, says.done.2);
        calls = λ b free. due_so x y step s.n (called_by turn) (Answered (suc i) reply) s.due (λ c own k n h. h);
        counts = λ b. absurd (busy b);
        alone = λ m b free h. answered_advances (suc i) o.setup.pool m t.words y.node.caller.under y.room reply reply (subst (λ (k : Underway). SchedAdvances (suc i) o.setup.pool m t.words k y.room (SchedAnswered (suc i) reply)) (sym f.went.over.calls)
            (answers (suc i) o.setup.pool m v p.words q.words x.room y.room s.n u y.node.caller.under a t.words reply (alone_so o i Calls x p st y q turn f s (suc i) m y.room) (held o i Calls x p st) s.go h));
      }
