-- A client's cursors behind an access: what it knew to be durable it knows still, and the cursor that its answer sets it knows too.
use Rattle.std.proofs.Common.{◌≡◌, ◌≢◌, ℕ, ◌==◌, List, length, Bool, true, false, cond, refl, sym, subst, inr}
use Rattle.std.specs.Prelude.{Option, Some, None, IfSome}
use Rattle.std.proofs.lemmas.List.Elements.{All-weaker}
use Rattle.clover_words.specs.declared.pool.Pool.{Pool}
use Rattle.clover_words.specs.Tag.{TagParts, tag_number}
use Rattle.clover_words.specs.Version.{unlinked}
use Rattle.clover_map.specs.declared.call.Entry.{Entry}
use Rattle.clover_rule.specs.Knowing.{link_view}
use Rattle.clover_rule.specs.Lists.{Within}
use Rattle.clover_rule.specs.Memory.{Next, word}
use Rattle.clover_rule.specs.Learned.{learned, looked, seen, started, decided, missed, counts, rest_of}
use Rattle.clover_rule.specs.Steps.{Step, LoadNext, DecideNext, RaiseNext, LinkNext, ReadRoot, ReadShort, AbsentCount, ReadVersion, FlushLink, client, reply_of}
use Rattle.clover_rule.specs.Words.{next_of, root_of}
use Rattle.clover_rule.specs.declared.view.View.{View}
use Rattle.clover_port.specs.Told.{Open, Made}
use Rattle.clover_cache.specs.Node.{Known, cursor_at, asked, IsSet}
use Rattle.clover_cache.proofs.Known.{held_at, last-asked, All-asked, All-set_cursor}
use Rattle.clover_call.specs.Caller.{IsCursor, AreCursors}

-- what the first view knows durable the other knows too
abbrev pub KnowsMore : View → View → Type 0
KnowsMore v w = (q : ℕ × ℕ) → Within q v.pass.durable → Within q w.pass.durable

durable_choice : (k : Bool) (u v w : View) → KnowsMore u v → KnowsMore u w → KnowsMore u (cond k v w)
durable_choice true u v w e f = e
durable_choice false u v w e f = f

durable_seen : (s t : ℕ) (v : View) (n : Next) → KnowsMore v (seen s t v n)
durable_seen s t v (word a None) q h = h
durable_seen s t v (word a (Some u)) q h = h

durable_looked : (s r : ℕ) (v : View) (n : Next) → KnowsMore v (looked s r v n)
durable_looked s r v (word a None) q h = h
durable_looked s r v (word a (Some t)) q h = h

durable_started : (s : ℕ) (v : View) (o : Option ℕ) → KnowsMore v (started s v o)
durable_started s v None q h = h
durable_started s v (Some t) q h = inr h

pub durable_learned : (a : Step) (h : List Entry) (v : View) (x : ℕ) → KnowsMore v (learned a h v x)
durable_learned (LoadNext s t) h v x = durable_seen s t v (next_of x)
durable_learned (DecideNext s t c r) h v x = durable_choice (x == unlinked t) v (decided v h t c r) (seen s t v (next_of x)) (λ q i. i) (durable_seen s t v (next_of x))
durable_learned (RaiseNext l) h v x = λ q i. inr i
durable_learned (LinkNext s u t c) h v x = durable_choice (x == unlinked u) v (link_view v h (client v) s u t c (reply_of t c) (rest_of v.pass.stock)) (seen s u v (next_of x)) (λ q i. i) (durable_seen s u v (next_of x))
durable_learned (ReadRoot s) h v x = durable_started s v (root_of x)
durable_learned (ReadShort s) h v x = durable_started s v (root_of x)
durable_learned (AbsentCount c) h v x = durable_choice (x == length v.pass.names) v (missed v h c x) (counts v x) (λ q i. i) (λ q i. i)
durable_learned (ReadVersion s r) h v x = durable_looked s r v (next_of x)
durable_learned (FlushLink c) h v x = λ q i. inr i
durable_learned a h v x = λ q i. i

-- a client forgets nothing by an access
pub knows_more : (p : Pool) (a : Step) (b : Bool) (v : View) (o : Option Open) (x : ℕ) (w : View) (o1 : Option Open) → Made p a b v o x w o1 → KnowsMore v w
knows_more p a b v o x w o1 made = subst (KnowsMore v) (sym made.told.next) (durable_learned a made.now.history v x)

cursor_kept : (p : Pool) (v w : View) → KnowsMore v w → (q : ℕ × TagParts) → IsCursor p v q → IsCursor p w q
cursor_kept p v w more q (range, known) = (range, more (q.0, tag_number q.1) known)

last_kept : (p : Pool) (v w : View) → KnowsMore v w → (o : Option (ℕ × TagParts)) → IfSome o (IsCursor p v) → IfSome o (IsCursor p w)
last_kept p v w more None h = h
last_kept p v w more (Some q) h = cursor_kept p v w more q h

-- what were a client's cursors are so where it knows more
pub cursors_kept : (p : Pool) (v w : View) (k : Known) → KnowsMore v w → AreCursors p v k → AreCursors p w k
cursors_kept p v w k more h = record { last = last_kept p v w more k.last h.last; list = All-weaker (IsCursor p v) (IsCursor p w) (cursor_kept p v w more) k.list h.list }

-- and so is the one that an answer sets, where it is known durable then
pub cursors_set : (p : Pool) (v w : View) (s : ℕ) (t : TagParts) (k n : Known) → KnowsMore v w → AreCursors p v k → IsCursor p w (s, t) → IsSet s t k n → AreCursors p w n
cursors_set p v w s t k n more h new is = record {
  last = subst (λ (o : Option (ℕ × TagParts)). IfSome o (IsCursor p w)) (sym is.last) new;
  list = All-set_cursor s t k n is (IsCursor p w) (All-weaker (IsCursor p v) (λ q. q.0 ≢ s → IsCursor p w q) (λ q i differs. cursor_kept p v w more q i) k.list h.list) new;
}

-- asking for one leaves them
pub cursors_asked : (p : Pool) (v : View) (s : ℕ) (k : Known) → AreCursors p v k → AreCursors p v (asked s k)
cursors_asked p v s k h = record {
  last = subst (λ (o : Option (ℕ × TagParts)). IfSome o (IsCursor p v)) (sym (last-asked s k)) h.last;
  list = All-asked s k (IsCursor p v) h.list;
}

-- the client knows the cursor that it has for a slot to be a durable tag there
pub cursor_held : (p : Pool) (v : View) (s : ℕ) (k : Known) → AreCursors p v k → IfSome (cursor_at s k) (λ t. IsCursor p v (s, t))
cursor_held p v s k h = go (cursor_at s k) refl
  where
    go : (o : Option TagParts) → cursor_at s k ≡ o → IfSome o (λ t. IsCursor p v (s, t))
    go None e = tt
    go (Some t) e = held_at (IsCursor p v) s t k h.last h.list e
