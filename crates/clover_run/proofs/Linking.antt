-- What the acts and the notes of a call show where it ends: the store of a shortcut behind the raise of a link, the tag at which it ended, the slot of its key; and how it advances alone.
use Prim.Native.Nat.{zero, suc}
use Rattle.std.proofs.Common.{◌≡◌, ◌≢◌, ℕ, List, [], ◌∷◌, ◌++◌, Bool, true, false, cond, inl, inr, refl, sym, ap, ◌∙◌, subst}
use Rattle.std.specs.Prelude.{Option, Some, None}
use Rattle.std.specs.Str.{bytes_eq}
use Rattle.std.proofs.lemmas.Slice.Eq.{bytes_eq-Decides}
use Rattle.clover_words.specs.declared.bytes.ValueBuf.{ValueBuf}
use Rattle.clover_words.specs.declared.pool.Pool.{Pool}
use Rattle.clover_words.specs.Tag.{TagParts, tag_number}
use Rattle.clover_map.specs.History.{key_of}
use Rattle.clover_map.specs.declared.call.Call.{Call}
use Rattle.clover_map.specs.declared.call.Call.TheVariants.{Get as GetOf, Put as PutOf, Delete as DeleteOf, Swap as SwapOf}
use Rattle.clover_map.specs.declared.call.Reply.{Reply}
use Rattle.clover_script.specs.declared.line.Task.TheVariants.{Client as ClientTask}
use Rattle.clover_rule.specs.Accesses.{shows_tail}
use Rattle.clover_rule.specs.Lists.{Within}
use Rattle.clover_rule.specs.Steps.{Step, StoreShort, act_of, reply_of}
use Rattle.clover_rule.specs.declared.access.Act.{Act}
use Rattle.clover_rule.specs.declared.view.View.{View}
use Rattle.clover_dir.specs.Names.{IsNew}
use Rattle.clover_walk.specs.Walking.{key_at}
use Rattle.clover_put.specs.Holding.{Fills}
use Rattle.clover_put.specs.Putting.{Stage}
use Rattle.clover_call.specs.Going.{GoesOn}
use Rattle.clover_call.specs.Caller.{CallHolds, HasCommitted, call_under, is_first, new_tag, next_step, slot_of}
use Rattle.clover_call.specs.Turning.{IsTagOf, reply_in}
use Rattle.clover_call.specs.declared.answer.Answer.{Answer}
use Rattle.clover_call.specs.declared.answer.Answer.TheVariants.{Stored, Found, Absent, Deleted, Differs}
use Rattle.clover_call.specs.declared.answer.CallerTurn.TheVariants.{Done}
use Rattle.clover_call.specs.declared.under.Underway.{Underway}
use Rattle.clover_call.specs.declared.under.Underway.TheVariants.{Nothing, Get, Write}
use Rattle.clover_call.proofs.Staying.{shortens_at}
use Rattle.clover_event.specs.Alone.{Advances as SchedAdvances, NotesWith as SchedNotes}
use Rattle.clover_event.specs.Client.{HasLinked, LinkedAt}
use Rattle.clover_event.specs.Run.{Flushes}
use Rattle.clover_event.specs.declared.event.Note.TheVariants.{Quiet as SchedQuiet, Answered as SchedAnswered}
use Rattle.clover_event.proofs.Remembering.{key_of_call}
use Rattle.clover_event.proofs.Turns.{seen_dead}
use Rattle.clover_run.specs.Alone.{Advances, NotesWith}
use Rattle.clover_run.specs.Ends.{end_tags, seen_tags}
use Rattle.clover_run.specs.Run.{Standing, EndsCommit, IsAnswer}
use Rattle.clover_run.specs.Wanting.{slot_for, wants, wants_later}
use Rattle.clover_run.specs.declared.event.Note.TheVariants.{Quiet, Answered}
use Rattle.clover_run.specs.declared.want.Want.TheVariants.{Nothing as NoWant}

-- the slot of a key that is not among the bindings, and of one that is
test_no : (key : List ℕ) (q : ℕ × List ℕ) (b : Bool) (rest : Option ℕ) → bytes_eq q.1 key ≡ b → ((q ≡ (q.0, key)) → ⊥) → rest ≡ None → cond b (Some q.0) rest ≡ None
test_no key q true rest e new none = absurd (new (λ j. (q.0, (bytes_eq-Decides q.1 key).0 e j)))
test_no key q false rest e new none = none

pub unnamed_slot : (key : List ℕ) (names : List (ℕ × List ℕ)) → IsNew key names → slot_for key names ≡ None
unnamed_slot key [] new = refl
unnamed_slot key (q ∷ qs) new = test_no key q (bytes_eq q.1 key) (slot_for key qs) refl (λ e. new q.0 (inl e)) (unnamed_slot key qs (λ s at. new s (inr at)))

test_one : (b : Bool) (s : ℕ) (rest : Option ℕ) → (t : ℕ) × (rest ≡ Some t) → (t : ℕ) × (cond b (Some s) rest ≡ Some t)
test_one true s rest h = (s, refl)
test_one false s rest h = h

pub named_slot : (key : List ℕ) (names : List (ℕ × List ℕ)) (s : ℕ) → Within (s, key) names → (t : ℕ) × (slot_for key names ≡ Some t)
named_slot key [] s at = absurd at
named_slot key (q ∷ qs) s (inl e) = (q.0, ap (λ (b : Bool). cond b (Some q.0) (slot_for key qs)) ((bytes_eq-Decides q.1 key).1 (ap (λ (z : ℕ × List ℕ). z.1) e)))
named_slot key (q ∷ qs) s (inr at) = test_one (bytes_eq q.1 key) q.0 (slot_for key qs) (named_slot key qs s at)

-- what a call wants behind an access of its own: nothing, where its key has a slot
pub wants_behind : (call : Call) (slot : Option ℕ) (stock : List ℕ) (acts : List Act) (act : Act) → wants call slot stock (acts ++ act ∷ []) ≡ wants_later slot
wants_behind call slot stock [] act = refl
wants_behind call slot stock (a ∷ acts) act = refl

pub wants_nothing : (call : Call) (names : List (ℕ × List ℕ)) (s : ℕ) (stock : List ℕ) (acts : List Act) (act : Act) → Within (s, key_of call) names → wants call (slot_for (key_of call) names) stock (acts ++ act ∷ []) ≡ NoWant
wants_nothing call names s stock acts act at = wants_behind call (slot_for (key_of call) names) stock acts act ∙ ap wants_later (named_slot (key_of call) names s at).1

-- the key of a call on a slot is one of the names
pub under_named : (p : Pool) (u : Underway) (v : View) (room : ValueBuf) → u ≢ Nothing → CallHolds p u v room → Within (slot_of u, key_of (call_under u v)) v.pass.names
under_named p Nothing v room busy held = absurd (busy refl)
under_named p (Get g) v room busy held = held.1.walk.named
under_named p (Write c) v room busy held = subst (λ (key : List ℕ). Within (c.walk.slot, key) v.pass.names) (sym (key_of_call c.job (key_at v.pass.names c.walk.slot) c.value)) held.1.walk.named

-- a call that ends behind its exchange stores its shortcut, behind the raise of its link
pub ends_commit : (p : Pool) (u y : Underway) (v : View) (room room1 : ValueBuf) (n : ℕ) (st : Standing) (a : Answer) (call : Call) (written : ℕ) → v.pass.names ≡ st.names → call_under u v ≡ call → CallHolds p u v room → GoesOn u room n (Done a) y room1 → HasCommitted u → HasLinked u v.pass.since
    → next_step u v room ≡ StoreShort (slot_of u) (new_tag u) → st.does.task ≡ Some (ClientTask call written) → st.does.since ≡ cond (is_first u) [] v.pass.since → EndsCommit st (act_of (next_step u v room) n) (new_tag u)
ends_commit p Nothing y v room room1 n st a call written names is held go h linked short task since = absurd h
ends_commit p (Get g) y v room room1 n st a call written names is held go h linked short task since = absurd h
ends_commit p (Write c) y v room room1 n st a call written names is held go h linked short task since =
    let e = shortens_at c n h go.2 in
    record {
      call = call;
      written = written;
      task = task;
      slot = c.walk.slot;
      named = subst (λ (k : Call). Within (c.walk.slot, key_of k) st.names) is (subst (λ (l : List (ℕ × List ℕ)). Within (c.walk.slot, key_of (call_under (Write c) v)) l) names (under_named p (Write c) v room (λ z. cc) held));
      stores = ap (λ (k : Step). act_of k n) short;
      flushed = subst (Flushes c.own) (sym (since ∙ ap (λ (b : Bool). cond b [] v.pass.since) (subst (λ (s : Stage). Fills s c v) e held.1.fills))) (subst (λ (s : Stage). LinkedAt s c.own v.pass.since) e linked);
    }

-- the answer to a commit is its entry's reply
pub answers_commit : (st : Standing) (act : Act) (t : ℕ) (call : Call) → st.does.decided ≡ Some (reply_of t call) → EndsCommit st act t → IsAnswer st None act (reply_of t call)
answers_commit st act t (GetOf key) e h = (e, h)
answers_commit st act t (PutOf key x) e h = (e, h)
answers_commit st act t (DeleteOf key) e h = (e, h)
answers_commit st act t (SwapOf key s x) e h = (e, h)

-- the tag at which a call ended: its own where it committed
pub commit_tags : (t : ℕ) (call : Call) (act : Act) → end_tags (reply_of t call) act ≡ t ∷ []
commit_tags t (GetOf key) act = refl
commit_tags t (PutOf key x) act = refl
commit_tags t (DeleteOf key) act = refl
commit_tags t (SwapOf key e x) act = refl

-- and the answer's, or the one that its last load showed
pub answer_tags : (a : Answer) (t : TagParts) (room : ValueBuf) (act : Act) → IsTagOf a t → seen_tags act ≡ tag_number t ∷ [] → end_tags (reply_in a room) act ≡ tag_number t ∷ []
answer_tags (Stored u) t room act is seen = ap (λ (k : TagParts). tag_number k ∷ []) is
answer_tags (Found u f) t room act is seen = ap (λ (k : TagParts). tag_number k ∷ []) is
answer_tags Absent t room act is seen = seen
answer_tags (Deleted u) t room act is seen = ap (λ (k : TagParts). tag_number k ∷ []) is
answer_tags (Differs u) t room act is seen = ap (λ (k : TagParts). tag_number k ∷ []) is

-- the load that shows a tag unlinked shows that tag
pub seen_tail : (t : ℕ) → seen_tags (shows_tail t) ≡ t ∷ []
seen_tail t = ap (λ (k : ℕ). k ∷ []) (seen_dead t)

-- a call that runs alone goes on, or is answered, as the old machine's does
quiet_notes : (c n : ℕ) → SchedNotes c n SchedQuiet → NotesWith c n Quiet
quiet_notes c zero h = absurd h
quiet_notes c (suc n) h = refl

answered_notes : (c n : ℕ) (reply again : Reply) → SchedNotes c n (SchedAnswered c reply) → NotesWith c n (Answered c again)
answered_notes c zero reply again h = refl
answered_notes c (suc n) reply again h = absurd cc

pub quiet_advances : (c : ℕ) (p : Pool) (n : ℕ) (ws : List ℕ) (u : Underway) (room : ValueBuf) → SchedAdvances c p n ws u room SchedQuiet → Advances c p n ws u room Quiet
quiet_advances c p n ws u room h = record { left = h.left; one = h.one; ends = h.ends; notes = quiet_notes c h.left h.notes }

pub answered_advances : (c : ℕ) (p : Pool) (n : ℕ) (ws : List ℕ) (u : Underway) (room : ValueBuf) (reply again : Reply) → SchedAdvances c p n ws u room (SchedAnswered c reply) → Advances c p n ws u room (Answered c again)
answered_advances c p n ws u room reply again h = record { left = h.left; one = h.one; ends = h.ends; notes = answered_notes c h.left reply again h.notes }
