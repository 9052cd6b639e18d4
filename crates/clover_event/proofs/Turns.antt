-- What each turn of a node tells of its client's call: whether it had committed and has, what its step did, and the acts since its start.
use Prim.Native.Nat.{zero, suc}
use Rattle.std.proofs.Common.{◌≡◌, ◌≢◌, ℕ, ◌/◌, ◌%◌, ◌≤◌, List, [], ◌∷◌, ◌++◌, Bool, true, false, cond, refl, sym, ap, ◌∙◌, inl, inr, subst, arith, eq-eqb}
use Rattle.clover_map.specs.History.{is_commit}
use Rattle.clover_words.specs.declared.bytes.ValueBuf.{ValueBuf}
use Rattle.clover_words.specs.declared.word.Side.{Side}
use Rattle.clover_words.specs.declared.word.Side.TheVariants.{Current, Flushed}
use Rattle.std.specs.Prelude.{None}
use Rattle.clover_words.specs.declared.word.Word.TheVariants.{Next as NextOf}
use Rattle.clover_words.specs.Tag.{TagParts, tag_number, home, age}
use Rattle.clover_words.specs.Version.{unlinked, buffer_at, content_at}
use Rattle.clover_map.specs.declared.call.Call.{Call}
use Rattle.clover_map.specs.declared.call.Call.TheVariants.{Get as GetOf, Put as PutOf, Delete as DeleteOf, Swap as SwapOf}
use Rattle.clover_map.specs.declared.call.Entry.{Entry}
use Rattle.clover_rule.specs.Knowing.{link_entry}
use Rattle.clover_rule.specs.Learned.{next_history}
use Rattle.clover_rule.specs.Steps.{Step, LoadNext, DecideNext, RaiseNext, LinkNext, StoreContent, FlushContent, LoadContent, ReadRoot, ReadShort, AbsentCount, act_of, client, reply_of}
use Rattle.clover_rule.specs.Memory.{Next, word, gen}
use Rattle.clover_rule.specs.Words.{next_of}
use Rattle.clover_rule.proofs.Ties.{next_again}
use Rattle.clover_rule.specs.declared.access.Act.{Act}
use Rattle.clover_rule.specs.declared.access.Act.TheVariants.{Load, Store}
use Rattle.clover_rule.specs.declared.view.View.{View}
use Rattle.clover_put.specs.Answering.{IsBefore, IsBehind}
use Rattle.clover_put.specs.Putting.{Stage, Storing, Flushing, Seeking, AtMeta, AtLink, Deciding, AtBad, AtRaise, AtShort, Over, put_on}
use Rattle.clover_call.specs.Going.{GoesOn, IsQuiet, Turns}
use Rattle.clover_call.specs.Caller.{HasCommitted, IsUncommitted, is_first}
use Rattle.clover_call.specs.Turning.{CommitsNothing, IsTagOf, reply_in, left_by}
use Rattle.clover_call.specs.declared.answer.Answer.{Answer}
use Rattle.clover_call.specs.declared.answer.Answer.TheVariants.{Stored, Found, Absent, Deleted, Differs}
use Rattle.clover_call.specs.declared.answer.CallerTurn.{CallerTurn}
use Rattle.clover_call.specs.declared.answer.CallerTurn.TheVariants.{More}
use Rattle.clover_call.specs.declared.under.Underway.{Underway}
use Rattle.clover_call.specs.declared.under.Underway.TheVariants.{Nothing, Get, Write}
use Rattle.clover_call.proofs.PutStep.{both}
use Rattle.clover_event.specs.Ends.{seen_tag}
use Rattle.clover_event.specs.Run.{Shortens, Wrote}

-- a quiet step adds no entry
pub quiet_history : (a : Step) (h : List Entry) (v : View) (x : ℕ) → IsQuiet a x → next_history a h v x ≡ h
quiet_history (DecideNext s t c r) h v x q = ap (λ (b : Bool). cond b (h ++ link_entry v (client v) c r ∷ []) h) q
quiet_history (LinkNext s u t c) h v x q = ap (λ (b : Bool). cond b (h ++ link_entry v (client v) c (reply_of t c) ∷ []) h) q
quiet_history (AbsentCount c) h v x q = absurd q
quiet_history a h v x q = refl

content_shortens : (b j y : ℕ) (side : Side) → Shortens (Store (content_at b j) side y) → ⊥
content_shortens b zero y side h = h
content_shortens b (suc j) y side h = h

-- it is no exchange that wrote, and stores no shortcut
pub quiet_act : (a : Step) (x : ℕ) → IsQuiet a x → (Wrote (act_of a x) → ⊥) × (Shortens (act_of a x) → ⊥)
quiet_act (LinkNext s u t c) x q = (λ w. absurd (let y = eq-eqb x (unlinked u) w in cc), λ h. h)
quiet_act (StoreContent t j y) x q = (λ h. h, content_shortens (home t) j y Current)
quiet_act (FlushContent t j y) x q = (λ h. h, content_shortens (home t) j y Flushed)
quiet_act (LoadNext s t) x q = (λ h. h, λ h. h)
quiet_act (DecideNext s t c r) x q = (λ h. h, λ h. h)
quiet_act (RaiseNext l) x q = (λ h. h, λ h. h)
quiet_act (LoadContent s t j) x q = (λ h. h, λ h. h)
quiet_act (ReadRoot s) x q = (λ h. h, λ h. h)
quiet_act (ReadShort s) x q = (λ h. h, λ h. h)
quiet_act a x q = absurd q

-- a call has committed or not, and then there is one
pub apart : (u : Underway) → IsUncommitted u → HasCommitted u → ⊥
apart Nothing b h = b
apart (Get g) b h = h
apart (Write c) b h = both c.stage b h

pub busy_behind : (u : Underway) → HasCommitted u → u ≢ Nothing
busy_behind u b e = subst HasCommitted e b

-- the load that shows a tag unlinked shows that tag
pub seen_dead : (t : ℕ) → seen_tag (Load (NextOf (buffer_at (home t))) (unlinked t)) ≡ t
unfolding home age
seen_dead t =
    let e : next_of (unlinked t) ≡ word (age t) None = next_again (age t) None (omega arith) in
    ap (λ (n : Next). tag_number (record { node = home t / 65536; index = home t % 65536; generation = gen n })) e ∙ (omega arith)

-- whether a reply is a commit's
pub commits_always : (t : ℕ) (call : Call) → is_commit (reply_of t call) ≡ true
commits_always t (GetOf key) = refl
commits_always t (PutOf key x) = refl
commits_always t (DeleteOf key) = refl
commits_always t (SwapOf key e x) = refl

pub commits_nothing : (a : Answer) (room : ValueBuf) → CommitsNothing a → is_commit (reply_in a room) ≡ false
commits_nothing (Stored u) room h = absurd h
commits_nothing (Found u f) room h = refl
commits_nothing Absent room h = refl
commits_nothing (Deleted u) room h = absurd h
commits_nothing (Differs u) room h = refl
