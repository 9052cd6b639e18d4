-- What a load of the count is: the one access of a call whose key its client does not know, which is absent by it or wants names.
use Rattle.std.proofs.Common.{◌≡◌, ◌≢◌, ℕ, ◌<◌, ◌≤◌, List, [], ◌∷◌, ◌++◌, length, Bool, true, false, cond, eqb, inl, inr, refl, sym, ap, ◌∙◌, subst, arith, eq-eqb, eqb-true, ne_eqb}
use Rattle.std.specs.Prelude.{◌⊎◌, ◌==◌, max, Option, Some}
use Rattle.clover_words.specs.declared.pool.Pool.{Pool}
use Rattle.clover_words.specs.declared.bytes.ValueBuf.{ValueBuf}
use Rattle.clover_words.specs.declared.word.Word.TheVariants.{Count}
use Rattle.clover_map.specs.declared.call.Call.{Call}
use Rattle.clover_map.specs.declared.call.Call.TheVariants.{Get, Put, Delete, Swap}
use Rattle.clover_map.specs.declared.call.Entry.{Entry}
use Rattle.clover_map.specs.declared.call.Reply.TheVariants.{Absent as AbsentReply}
use Rattle.clover_rule.specs.Asks.{MayMiss}
use Rattle.clover_rule.specs.Knowing.{link_entry}
use Rattle.clover_rule.specs.Learned.{counts, missed, next_history, next_view}
use Rattle.clover_rule.specs.Steps.{act_of, client}
use Rattle.clover_rule.specs.Told.{Says}
use Rattle.clover_rule.specs.declared.access.Act.TheVariants.{Load}
use Rattle.clover_rule.specs.declared.view.View.{View}
use Rattle.clover_port.specs.Told.{Open, Made}
use Rattle.clover_plain.specs.Plain.{Plain, Stepped, open_of, view_at}
use Rattle.clover_call.specs.declared.answer.Answer.{Answer}
use Rattle.clover_call.specs.declared.answer.Answer.TheVariants.{Absent}
use Rattle.clover_node.specs.Going.{CountSays, GoesAt, NodeIsDue, SaysAt}
use Rattle.clover_node.specs.Node.{NodeState, IsAsked, IsCounting, IsPut, Counts, count_of, first_of, step_of}
use Rattle.clover_node.specs.Turning.{count_turn}
use Rattle.clover_node.specs.declared.answer.NodeRefusal.TheVariants.{NeedsNames}
use Rattle.clover_node.specs.declared.answer.NodeTurn.{NodeTurn}
use Rattle.clover_node.specs.declared.answer.NodeTurn.TheVariants.{Done, Refused}
use Rattle.clover_node.specs.declared.counting.Counting.{Counting}
use Rattle.clover_node.specs.declared.counting.Counting.TheVariants.{No, Names, Absence}
use Rattle.clover_run.specs.Client.{call_at}
use Rattle.clover_run.specs.Run.{counted}
use Rattle.clover_run.specs.declared.client.ClientState.{ClientState}
use Rattle.clover_run.specs.declared.event.Note.TheVariants.{Quiet, Answered}

-- The access of the client of seat i was a load of the count for its call, that was made and came to this turn.
pub record OnCount (i : ℕ) (x y : ClientState) (p q : Plain) (c : Counting) (t : NodeTurn) : Type 0 where
  pub n : ℕ
  pub stepped : Stepped (count_of c (call_at x (view_at p i))) true true i n p q
  pub made : Made p.setup.pool (count_of c (call_at x (view_at p i))) true (view_at p i) (Some (open_of p)) n (view_at q i) (Some (open_of q))
  pub turn : t ≡ count_turn c (length x.node.names) n
  pub caller : y.node.caller ≡ x.node.caller
  pub first : first_of c x.node ≡ true
  pub asks : IsCounting x.node (call_at x (view_at p i))

pub on_count : (i : ℕ) (x y : ClientState) (p q : Plain) (t : NodeTurn) (c : Counting) → c ≢ No → IsAsked c x.node (view_at p i) (call_at x (view_at p i))
    → (n : ℕ) × (Stepped (step_of c x.node (call_at x (view_at p i)) (view_at p i) x.room) (first_of c x.node) true i n p q × Made p.setup.pool (step_of c x.node (call_at x (view_at p i)) (view_at p i) x.room) (first_of c x.node) (view_at p i) (Some (open_of p)) n (view_at q i) (Some (open_of q)))
    × GoesAt c x.node (view_at p i) x.room (step_of c x.node (call_at x (view_at p i)) (view_at p i) x.room) n t y.node (view_at q i) y.room × NodeIsDue x.node x.room (step_of c x.node (call_at x (view_at p i)) (view_at p i) x.room) n y.node y.room t
    → OnCount i x y p q c t
on_count i x y p q t No some asked m = absurd (some refl)
on_count i x y p q t Names some asked m = record { n = m.0; stepped = m.1.0; made = m.1.1; turn = m.2.0; caller = m.2.1; first = refl; asks = asked }
on_count i x y p q t Absence some asked m = record { n = m.0; stepped = m.1.0; made = m.1.1; turn = m.2.0; caller = m.2.1; first = refl; asks = asked }

-- its act, whatever the count is loaded for
pub count_act : (c : Counting) (call : Call) (n : ℕ) → act_of (count_of c call) n ≡ Load Count n
count_act No call n = refl
count_act Names call n = refl
count_act Absence call n = refl

-- where it wants names there are more than its client knows, or the call is a put
pub wants_names : (c : Counting) (call : Call) (known n k b : ℕ) → Counts c call → Refused (NeedsNames k b) ≡ count_turn c known n → IsPut call ⊎ (n ≢ known)
wants_names No call known n k b h e = absurd h
wants_names Names call known n k b h e = inl h
wants_names Absence call known n k b h e = inr (λ same. let z : Refused (NeedsNames k b) ≡ Done Absent = e ∙ ap (λ (t : Bool). cond t (Done Absent) (Refused (NeedsNames known n))) (eq-eqb n known same) in cc)

-- so it enters nothing
pub wants_history : (c : Counting) (call : Call) (h : List Entry) (v : View) (known n k b : ℕ) → length v.pass.names ≡ known → Refused (NeedsNames k b) ≡ count_turn c known n → next_history (count_of c call) h v n ≡ h
wants_history No call h v known n k b names e = refl
wants_history Names call h v known n k b names e = refl
wants_history Absence call h v known n k b names e =
    ap (λ (t : Bool). cond t (h ++ link_entry v (client v) call AbsentReply ∷ []) h) (ne_eqb n (length v.pass.names) (λ same. let z : Refused (NeedsNames k b) ≡ Done Absent = e ∙ ap (λ (t : Bool). cond t (Done Absent) (Refused (NeedsNames known n))) (eq-eqb n known (same ∙ names)) in cc))

-- and prints nothing
pub wants_note : (call : Call) (a known n : ℕ) → IsPut call ⊎ (n ≢ known) → counted call a known n ≡ Quiet
wants_note (Get key) a known n (inl put) = absurd put
wants_note (Get key) a known n (inr more) = ap (λ (t : Bool). cond t (Answered a AbsentReply) Quiet) (ne_eqb known n (λ e. more (sym e)))
wants_note (Put key value) a known n h = refl
wants_note (Delete key) a known n (inl put) = absurd put
wants_note (Delete key) a known n (inr more) = ap (λ (t : Bool). cond t (Answered a AbsentReply) Quiet) (ne_eqb known n (λ e. more (sym e)))
wants_note (Swap key expected value) a known n (inl put) = absurd put
wants_note (Swap key expected value) a known n (inr more) = ap (λ (t : Bool). cond t (Answered a AbsentReply) Quiet) (ne_eqb known n (λ e. more (sym e)))

-- where it answers the call, that is absent, and its client knows all names
done_test : (a : Answer) (known n : ℕ) (b : Bool) → eqb n known ≡ b → Done a ≡ cond b (Done Absent) (Refused (NeedsNames known n)) → (a ≡ Absent) × (n ≡ known)
done_test a known n true e is = (cc, eqb-true n known e)
done_test a known n false e is = absurd cc

pub absent_counts : (c : Counting) (call : Call) (a : Answer) (known n : ℕ) → Counts c call → Done a ≡ count_turn c known n → (a ≡ Absent) × (n ≡ known) × MayMiss call
absent_counts No call a known n h e = absurd h
absent_counts Names call a known n h e = absurd cc
absent_counts Absence call a known n h e = let d = done_test a known n (eqb n known) refl e in (d.0, d.1, h)

pub absent_note : (call : Call) (a known n : ℕ) → MayMiss call → n ≡ known → counted call a known n ≡ Answered a AbsentReply
absent_note (Get key) a known n h e = ap (λ (t : Bool). cond t (Answered a AbsentReply) Quiet) (eq-eqb known n (sym e))
absent_note (Put key value) a known n h e = absurd h
absent_note (Delete key) a known n h e = ap (λ (t : Bool). cond t (Answered a AbsentReply) Quiet) (eq-eqb known n (sym e))
absent_note (Swap key expected value) a known n h e = ap (λ (t : Bool). cond t (Answered a AbsentReply) Quiet) (eq-eqb known n (sym e))

-- what the turn says of a load of the count
pub says_count : (c : Counting) (p : Pool) (m : NodeState) (call : Call) (room : ValueBuf) (v w : View) (o o1 : Option Open) (m1 : NodeState) (t : NodeTurn) → c ≢ No → SaysAt c p m call room v o m1 w o1 t → CountSays p m call v o w o1 t
says_count No p m call room v w o o1 m1 t some says = absurd (some refl)
says_count Names p m call room v w o o1 m1 t some says = says
says_count Absence p m call room v w o o1 m1 t some says = says

-- the count that was loaded is at least the number of the client's names, and the client knows it from then on
most_by : (c : Counting) (h : List Entry) (call : Call) (v : View) (n : ℕ) → (next_view true (count_of c call) h v n).pass.most ≡ max v.pass.most n
most_by No h call v n = refl
most_by Names h call v n = refl
most_by Absence h call v n = by (n == length v.pass.names)
  where
    by : (t : Bool) → (cond t (missed v h call n) (counts v n)).pass.most ≡ max v.pass.most n
    by true = refl
    by false = refl

least_by : (c : Counting) (pool : Pool) (ws : List ℕ) (call : Call) (v : View) (n : ℕ) → Says pool ws (count_of c call) v n → length v.pass.names ≤ n
least_by No pool ws call v n says = says.0
least_by Names pool ws call v n says = says.0
least_by Absence pool ws call v n says = says.0

pub loaded_most : (c : Counting) (pool : Pool) (ws : List ℕ) (h : List Entry) (call : Call) (v : View) (n : ℕ) (w : View) (known : ℕ) → length v.pass.names ≡ known → Says pool ws (count_of c call) v n → w ≡ next_view true (count_of c call) h v n → (known ≤ n) × (n ≤ w.pass.most)
loaded_most c pool ws h call v n w known names says next =
    let least = least_by c pool ws call v n says in
    let most : w.pass.most ≡ max v.pass.most n = ap (λ (z : View). z.pass.most) next ∙ most_by c h call v n in
    (omega arith, omega arith)

apart_below : (a b : ℕ) → a ≤ b → a ≢ b → a < b
apart_below a b low apart = omega (arith, apart)

-- so a call that wants names by it lacks some, unless it is a put
pub lacks_names : (k call : Call) (names known : List (ℕ × List ℕ)) (n most : ℕ) → k ≡ call → names ≡ known → (length known ≤ n) × (n ≤ most) → IsPut call ⊎ (n ≢ length known) → IsPut k ⊎ (length names < most)
lacks_names k call names known n most same is bounds (inl put) = inl (subst IsPut (sym same) put)
lacks_names k call names known n most same is bounds (inr more) =
    let e : length names ≡ length known = ap length is in let low = bounds.0 in let high = bounds.1 in
    inr (let strict : length known < n = apart_below (length known) n low (λ q. more (sym q)) in omega arith)
