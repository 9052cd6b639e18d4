-- A client stands, and its step is one, also where the pool or the client differ in what neither says: room that was made, and whether the next access is refused.
use Prim.Native.Nat.{suc}
use Rattle.std.proofs.Common.{◌≡◌, ℕ, List, length, get_or, Bool, sym, ap, ◌∙◌, subst, refl}
use Rattle.std.specs.Prelude.{Option, Some, None}
use Rattle.clover_map.specs.History.{own}
use Rattle.clover_map.specs.declared.call.Call.{Call}
use Rattle.clover_map.specs.declared.call.Entry.{Entry}
use Rattle.clover_rule.specs.Moves.{nobody}
use Rattle.clover_rule.specs.declared.view.View.{View}
use Rattle.clover_plain.specs.Plain.{Plain, Kept, history, view_at}
use Rattle.clover_node.specs.Node.{NodeHolds}
use Rattle.clover_event.specs.Alone.{EndsIn}
use Rattle.clover_event.specs.Client.{HasLinked}
use Rattle.clover_run.specs.Client.{IsIn, IsOf, Matches, Phase, Rests, Wants, Calls, Ends, Stands, Went, call_at, call_or, since_of}
use Rattle.clover_run.specs.Run.{IsCounting, Opening, Standing}
use Rattle.clover_run.specs.declared.client.ClientState.{ClientState}
use Rattle.clover_run.specs.declared.event.Note.{Note}
use Rattle.clover_run.proofs.Moving.{history_kept, moved_kept, others_kept}

-- a client stands where its view is the same, and so is the number of its entries
pub stands_same : (o : Opening) (p q : Plain) (i : ℕ) (x : ClientState) (f : Phase) → q.setup ≡ p.setup → q.opened ≡ p.opened → q.entries ≡ history q → length q.views ≡ length p.views → length (own q.entries (suc i)) ≡ length (own p.entries (suc i)) → view_at q i ≡ view_at p i
    → Stands o p i x f → Stands o q i x f
stands_same o p q i x f setup opened entered seats number e s = record {
  setup = setup ∙ s.setup;
  opened = opened ∙ s.opened;
  entered = entered;
  seat = s.seat;
  seats = seats ∙ s.seats;
  client = s.client;
  number = s.number ∙ sym number;
  pool = s.pool;
  holds = subst (λ (v : View). NodeHolds x.node (call_at x v) v x.room) (sym e) s.holds;
  phase = s.phase;
  call = s.call;
  linked = subst (λ (v : View). HasLinked x.node.caller.under v.pass.since) (sym e) s.linked;
}

-- room that was made changes nothing of what is said
pub kept_view : (i : ℕ) (p q : Plain) → Kept p q → view_at q i ≡ view_at p i
kept_view i p q k = λ z. get_or (k.views z) i nobody

pub stands_kept : (o : Opening) (p q : Plain) (i : ℕ) (x : ClientState) (f : Phase) → Kept p q → Stands o p i x f → Stands o q i x f
stands_kept o p q i x f k s =
    stands_same o p q i x f k.setup k.opened (k.entries ∙ s.entered ∙ sym (history_kept p q k)) (ap length k.views) (ap (λ (h : List Entry). length (own h (suc i))) k.entries) (kept_view i p q k) s

pub is_of_kept : (i : ℕ) (x : ClientState) (p q : Plain) (st : Standing) → Kept p q → IsOf i x p st → IsOf i x q st
is_of_kept i x p q st k h = record { actor = h.actor; names = h.names; entries = h.entries; words = h.words ∙ sym k.words }

pub went_kept : (o : Opening) (i : ℕ) (f : Phase) (x y : ClientState) (p p1 q : Plain) (note : Note) → Kept p p1 → Went o i f x y p1 q note → Went o i f x y p q note
went_kept o i f x y p p1 q note k w =
    let e = kept_view i p p1 k in
    record {
      access = w.access;
      entry = w.entry;
      moved = moved_kept (Some w.access) w.entry p p1 q k w.moved;
      others = others_kept i p p1 q k w.others;
      last = w.last;
      after = w.after;
      stands = w.stands;
      lacks = w.lacks;
      follows = λ st is m. w.follows st (is_of_kept i x p p1 st k is) (subst (λ (v : View). Matches x v f st.does) (sym e) m);
      fits = λ st is m. w.fits st (is_of_kept i x p p1 st k is) (subst (λ (v : View). Matches x v f st.does) (sym e) m);
      longer = λ n. w.longer n ∙ ap (λ (v : View). suc (length (since_of x.node v))) e;
      names = w.names;
      cursor = w.cursor;
      calls = w.calls;
      counts = λ none free st is m.
          subst (λ (v : View). IsCounting st (call_at x v) w.access.act note) e (w.counts none free st (is_of_kept i x p p1 st k is) (subst (λ (v : View). Matches x v f st.does) (sym e) m));
      alone = λ n under free h. w.alone n under free (subst (λ (ws : List ℕ). EndsIn o.setup.pool ws n x.node.caller.under x.room) (sym k.words) h);
    }

-- whether the next access is refused is nothing of the call
pub call_refusing : (x : ClientState) (b : Bool) (v : View) → call_at (record x { refusing = b }) v ≡ call_at x v
call_refusing x b v = go x.call
  where
    go : (o : Option Call) → call_or o (record x { refusing = b }) v ≡ call_or o x v
    go None = refl
    go (Some call) = refl

pub stands_refusing : (o : Opening) (p : Plain) (i : ℕ) (x : ClientState) (b : Bool) (f : Phase) → Stands o p i x f → Stands o p i (record x { refusing = b }) f
stands_refusing o p i x b f s = record {
  setup = s.setup;
  opened = s.opened;
  entered = s.entered;
  seat = s.seat;
  seats = s.seats;
  client = s.client;
  number = s.number;
  pool = s.pool;
  holds = subst (λ (call : Call). NodeHolds x.node call (view_at p i) x.room) (sym (call_refusing x b (view_at p i))) s.holds;
  phase = go f s.phase;
  call = s.call;
  linked = s.linked;
}
  where
    go : (g : Phase) → IsIn g x → IsIn g (record x { refusing = b })
    go Rests h = h
    go Wants h = h
    go Calls h = h
    go Ends h = h
