-- What a load of the count comes to for a client: its call is absent, or wants names.
use Prim.Native.Nat.{suc}
use Rattle.std.proofs.Common.{◌≡◌, ◌≢◌, ℕ, ◌-◌, ◌^◌, ◌<◌, List, [], ◌∷◌, ◌++◌, length, map, Bool, true, false, cond, refl, sym, ap, ◌∙◌, subst}
use Rattle.std.specs.Prelude.{Option, Some, None}
use Rattle.clover_words.specs.declared.setup.Setup.{Setup}
use Rattle.clover_words.specs.Tag.{TagParts, tag_number}
use Rattle.clover_map.specs.History.{key_of}
use Rattle.clover_map.specs.declared.call.Call.{Call}
use Rattle.clover_map.specs.declared.call.Entry.{Entry}
use Rattle.clover_map.specs.declared.call.Reply.TheVariants.{Absent as AbsentReply}
use Rattle.clover_rule.specs.Accesses.{CameBack}
use Rattle.clover_rule.specs.Knowing.{link_entry}
use Rattle.clover_rule.specs.Steps.{Step, AbsentCount, act_of, client}
use Rattle.clover_rule.specs.declared.access.Act.{Act}
use Rattle.clover_rule.specs.declared.access.Act.TheVariants.{Load}
use Rattle.clover_words.specs.declared.word.Word.TheVariants.{Count}
use Rattle.clover_rule.specs.declared.view.View.{View}
use Rattle.clover_port.specs.Told.{Open}
use Rattle.clover_plain.specs.Plain.{Plain, KeptButEntries, view_at, history, open_of}
use Rattle.clover_walk.proofs.Endings.{stepped}
use Rattle.clover_call.specs.Caller.{CallerState, slot_of}
use Rattle.clover_call.specs.declared.answer.Answer.TheVariants.{Absent}
use Rattle.clover_call.specs.declared.under.Underway.{Underway}
use Rattle.clover_node.specs.Node.{NodeState, NodeHolds, count_of}
use Rattle.clover_node.specs.declared.answer.NodeRefusal.TheVariants.{NeedsNames}
use Rattle.clover_node.specs.declared.answer.NodeTurn.{NodeTurn}
use Rattle.clover_node.specs.declared.answer.NodeTurn.TheVariants.{Done, Refused as RefusedTurn}
use Rattle.clover_node.specs.declared.counting.Counting.TheVariants.{No}
use Rattle.clover_event.specs.Client.{HasLinked, access}
use Rattle.clover_event.specs.Run.{Shortens, Wrote}
use Rattle.clover_event.specs.Stepping.{next_entry}
use Rattle.clover_event.proofs.Going.{number_same}
use Rattle.clover_run.specs.Client.{Rests, Wants, Calls, Stands, IsKeptOrSet, Went, call_at, call_or, since_of}
use Rattle.clover_run.specs.Ends.{end_tags}
use Rattle.clover_run.specs.Folds.{Doing}
use Rattle.clover_run.specs.Run.{Opening, counted}
use Rattle.clover_run.specs.Stepping.{Accesses}
use Rattle.clover_run.specs.Wanting.{slot_for, wants_later}
use Rattle.clover_run.specs.declared.client.ClientState.{ClientState}
use Rattle.clover_run.specs.declared.event.Note.TheVariants.{Quiet, Answered}
use Rattle.clover_run.specs.declared.want.Want.TheVariants.{Names}
use Rattle.clover_run.proofs.Accessing.{kept_client, kept_names, kept_number, kept_want, lacks_none, made_access, made_own, matches_rests, not_refusing, seated, stands_by, stands_over}
use Rattle.clover_run.proofs.CountLoads.{OnCount, absent_counts, absent_note, count_act, lacks_names, loaded_most, on_count, says_count, wants_history, wants_names, wants_note}
use Rattle.clover_run.proofs.Entering.{decides_so, last_in, moved_in, number_in, one_more, others_in, own_in, takes_none, there, told_more}
use Rattle.clover_run.proofs.Linking.{unnamed_slot, wants_behind}
use Rattle.clover_run.proofs.Moving.{came_back, history_made, moved_made, others_made}
use Rattle.clover_script.specs.declared.line.Task.TheVariants.{Client as ClientTask}

-- a load of the count writes nothing, stores no shortcut, and shows no tag
load_wrote : (n : ℕ) (act : Act) → act ≡ Load Count n → Wrote act → ⊥
load_wrote n act e h = subst Wrote e h

load_shortens : (n : ℕ) (act : Act) → act ≡ Load Count n → Shortens act → ⊥
load_shortens n act e h = subst Shortens e h

module _ (o : Opening) (i : ℕ) (x : ClientState) (p q : Plain) (st : Stands o p i x Calls) (few : p.made < 2 ^ 64 - 1) (y : ClientState) (some : x.node.counting ≢ No) where
  abbrev v : View
  v = view_at p i

  abbrev w : View
  w = view_at q i

  abbrev u : Underway
  u = x.node.caller.under

  abbrev call : Call
  call = call_at x (view_at p i)

  abbrev step : Step
  step = count_of x.node.counting (call_at x (view_at p i))

  module _ (t : NodeTurn) (f : Accesses i x y p q t) (s : OnCount i x y p q x.node.counting t) where
    abbrev act : Act
    act = act_of step s.n

    act_is : act ≡ Load Count s.n
    act_is = count_act x.node.counting call s.n

    came_so : CameBack o.setup.pool p.words act
    came_so = subst (λ (k : Setup). CameBack k.pool p.words act) st.setup (came_back i p q step true true s.n s.stepped)

    since_first : w.pass.since ≡ act ∷ []
    since_first = (stepped p.setup.pool step true v (Some (open_of p)) s.n w (Some (open_of q)) s.made).since

    -- the call had made no access
    since_none : since_of x.node v ≡ []
    since_none = ap (λ (b : Bool). cond b [] v.pass.since) s.first

    acts_are : (d : Doing) → d.since ≡ since_of x.node v → w.pass.since ≡ d.since ++ act ∷ []
    acts_are d e = since_first ∙ ap (λ (l : List Act). l ++ act ∷ []) (sym (e ∙ since_none))

    cursors_kept : y.node.caller.cursors ≡ x.node.caller.cursors
    cursors_kept = ap (λ (k : CallerState). k.cursors) s.caller

  -- the call wants names
  pub went_wants : (k b : ℕ) → Accesses i x y p q (RefusedTurn (NeedsNames k b)) → Went o i Calls x (record y { want = Names }) p q Quiet
  went_wants k b f =
      let t : NodeTurn = RefusedTurn (NeedsNames k b) in
      let s : OnCount i x y p q x.node.counting t = on_count i x y p q t x.node.counting some st.holds.asked f.made in
      let a : Act = act_of step s.n in
      let is : a ≡ Load Count s.n = act_is t f s in
      let z : ClientState = record y { want = Names } in
      let still : history q ≡ history p = history_made i p q step true s.n s.made ∙ wants_history x.node.counting call (history p) v (length x.node.names) s.n k b (ap length st.holds.names) s.turn in
      let moved = moved_made i p q step true s.n s.stepped (seated o i Calls x p st) few st.entered still in
      let names = kept_names o i Calls x p st y q t f in
      let calls : y.call ≡ Some st.phase.3.0 = ap (λ (j : ClientState). j.call) f.rest ∙ st.phase.3.1 in
      let same : call_at z w ≡ call = ap (λ (c : Option Call). call_or c z w) calls ∙ sym (ap (λ (c : Option Call). call_or c x v) st.phase.3.1) in
      let more = wants_names x.node.counting call (length x.node.names) s.n k b s.asks.counts s.turn in
      record {
        access = access i a false;
        entry = None;
        moved = moved;
        others = others_made i p q step true true s.n s.stepped;
        last = λ free. ([], since_first t f s);
        after = Wants;
        stands = stands_by o i Calls x p st q z Wants (Some (access i a false)) None moved (kept_client o i Calls x p st y q t f) f.went.pool
            (kept_number o i Calls x p st y q t f ∙ number_same x.number (suc i) p.entries q.entries st.number moved.entries)
            (subst (λ (c : Call). NodeHolds y.node c w y.room) (sym same) f.holds) (f.went.over, (λ e. cc), (st.phase.3.0, calls), (λ e. absurd cc)) (λ c e. st.call c (sym (ap (λ (j : ClientState). j.call) f.rest) ∙ e))
            (subst (λ (j : Underway). HasLinked j w.pass.since) (sym f.went.over.calls) tt);
        lacks = λ e. lacks_names (call_at z w) call y.node.names x.node.names s.n w.pass.most same names
            (loaded_most x.node.counting p.setup.pool s.made.now.words s.made.now.history call v s.n w (length x.node.names) (ap length st.holds.names) s.made.told.says s.made.told.next) more;
        follows = λ d of h. (
          made_own o.setup.pool i d a of.actor None Quiet tt tt (λ wrote. absurd (load_wrote s.n a is wrote)) (tt, load_shortens s.n a is),
          record {
            refusing = not_refusing o i Calls x p st y q t f;
            known = h.known ∙ ap length (sym names);
            stock = h.stock ∙ ap (λ (l : List TagParts). map tag_number l) (sym (ap (λ (j : NodeState). j.stock) f.went.kept));
            doing = (
              (h.doing.0.0, h.doing.0.1 ∙ ap (λ (c : Call). Some (ClientTask c h.doing.0.0)) (sym same)),
              h.doing.1,
              wants_behind (call_at z w) (slot_for (key_of (call_at z w)) y.node.names) d.does.stock d.does.since a
                  ∙ ap wants_later ((λ j. slot_for (key_of (same j)) (names j)) ∙ unnamed_slot (key_of call) x.node.names s.asks.unnamed),
            );
          },
        );
        fits = λ d of h. made_access o.setup.pool i d a of.actor (sym h.refusing ∙ f.asked) (subst (λ (ws : List ℕ). CameBack o.setup.pool ws a) (sym of.words) (came_so t f s));
        longer = λ busy. absurd (busy f.went.over);
        names = names;
        cursor = cursors_kept t f s;
        calls = λ busy. absurd (busy s.asks.idle);
        counts = λ none free d of h. (s.n, is, sym (ap (λ (m : ℕ). counted call d.actor m s.n) h.known ∙ wants_note call d.actor (length x.node.names) s.n more));
        alone = λ m busy. absurd (busy s.asks.idle);
      }

  -- the call is absent
  pub missed_adds : (f : Accesses i x y p q (Done Absent)) → history q ≡ history p ++ link_entry v (client v) call AbsentReply ∷ []
  missed_adds f =
      let e = says_count x.node.counting x.node.caller.pool x.node call y.room v w (Some (open_of p)) (Some (open_of q)) y.node (Done Absent) some f.went.says in
      told_more x.node.caller.pool (AbsentCount call) true v (length v.pass.names) (link_entry v (client v) call AbsentReply) (open_of p) w (open_of q) e.made (λ h. one_more (length v.pass.names) h (link_entry v (client v) call AbsentReply))

  pub went_missed : (f : Accesses i x y p q (Done Absent)) (r : Plain) → r.entries ≡ q.entries ++ next_entry (suc i) x.number call AbsentReply ∷ [] → KeptButEntries q r
      → Went o i Calls x (record y { call = None; number = suc y.number }) p r (Answered (suc i) AbsentReply)
  went_missed f r more kept =
      let t : NodeTurn = Done Absent in
      let s : OnCount i x y p q x.node.counting t = on_count i x y p q t x.node.counting some st.holds.asked f.made in
      let e = says_count x.node.counting x.node.caller.pool x.node call y.room v w (Some (open_of p)) (Some (open_of q)) y.node t some f.went.says in
      let a : Act = act_of step s.n in
      let is : a ≡ Load Count s.n = act_is t f s in
      let z : ClientState = record y { call = None; number = suc y.number } in
      let entry : Entry = next_entry (suc i) x.number call AbsentReply in
      let adds = missed_adds f in
      let to : view_at r i ≡ w = there o i x p q st few step true s.n s.stepped s.made AbsentReply adds r more kept in
      let moved = moved_in o i x p q st few step true s.n s.stepped s.made AbsentReply adds r more kept in
      let names = kept_names o i Calls x p st y q t f in
      let all = absent_counts x.node.counting call Absent (length x.node.names) s.n s.asks.counts s.turn in
      record {
        access = access i a false;
        entry = Some entry;
        moved = moved;
        others = others_in o i x p q st few step true s.n s.stepped s.made AbsentReply adds r more kept;
        last = λ free. last_in o i x p q st few step true s.n s.stepped s.made AbsentReply adds r more kept;
        after = Rests;
        stands = stands_over o i Calls x p st r z (Some (access i a false)) (Some entry) call moved (kept_client o i Calls x p st y q t f) f.went.pool
            (ap suc (kept_number o i Calls x p st y q t f) ∙ number_in o i x p q st few step true s.n s.stepped s.made AbsentReply adds r more kept)
            (subst (λ (k : View). NodeHolds y.node call k y.room) (sym to) f.holds) f.went.over (kept_want o i Calls x p st y q t f ∙ st.phase.2) refl;
        lacks = lacks_none z (view_at r i) (kept_want o i Calls x p st y q t f ∙ st.phase.2);
        follows = λ d of h. (
          own_in o i x p q st few step true s.n s.stepped s.made AbsentReply adds r more kept d (Answered (suc i) AbsentReply) of h.doing.0 h.doing.1
              (decides_so o i x p q st few step true s.n s.stepped s.made AbsentReply adds call AbsentReply e.made.now.words (d.does.since ++ a ∷ []) refl refl
              (ap (λ (k : Open). k.words) (sym e.made.tells.0)) (acts_are t f s d.does h.doing.2) e.decides)
              (takes_none d entry refl) (sym of.actor, (refl, refl)),
          matches_rests z (view_at r i) _ (not_refusing o i Calls x p st y q t f) (h.known ∙ ap length (sym names)) (h.stock ∙ ap (λ (l : List TagParts). map tag_number l) (sym (ap (λ (j : NodeState). j.stock) f.went.kept))) refl refl,
        );
        fits = λ d of h. made_access o.setup.pool i d a of.actor (sym h.refusing ∙ f.asked) (subst (λ (ws : List ℕ). CameBack o.setup.pool ws a) (sym of.words) (came_so t f s));
        longer = λ busy. absurd (busy f.went.over);
        names = names;
        cursor = subst (λ (k : Act). IsKeptOrSet (end_tags AbsentReply k) (slot_of u) x.node.caller.cursors y.node.caller.cursors) (sym is) (cursors_kept t f s);
        calls = λ busy. absurd (busy s.asks.idle);
        counts = λ none free d of h. (s.n, is, ap (λ (c : ℕ). Answered c AbsentReply) (sym of.actor) ∙ sym (ap (λ (m : ℕ). counted call d.actor m s.n) h.known ∙ absent_note call d.actor (length x.node.names) s.n all.2 all.1));
        alone = λ m busy. absurd (busy s.asks.idle);
      }
