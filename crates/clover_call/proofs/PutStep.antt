-- What an access of a call that writes is by the definition of what a call does.
use Rattle.std.proofs.Common.{◌≡◌, ℕ, ◌==◌, List, [], ◌∷◌, ◌++◌, length, true, false, cond, refl, sym, ap, ◌∙◌, inl, inr, subst, eq-eqb}
use Rattle.std.specs.Prelude.{◌⊎◌, ◌<◌, ◌≤◌, Option, None, IsSome}
use Rattle.clover_words.specs.declared.bytes.ValueBuf.{ValueBuf}
use Rattle.clover_words.specs.declared.pool.Pool.{Pool}
use Rattle.clover_words.specs.Tag.{TagParts, tag_number}
use Rattle.clover_words.specs.Version.{unlinked}
use Rattle.clover_map.specs.declared.bytes.Value.{Value}
use Rattle.clover_map.specs.declared.call.Call.{Call}
use Rattle.clover_map.specs.declared.call.Reply.{Reply}
use Rattle.clover_rule.specs.Content.{InRange}
use Rattle.clover_rule.specs.Lists.{Within}
use Rattle.clover_rule.specs.Steps.{Step, DecideNext, act_of, reply_of}
use Rattle.clover_rule.specs.declared.view.View.{View}
use Rattle.clover_port.specs.Told.{Open, Made}
use Rattle.clover_cache.specs.Node.{Known, IsSet}
use Rattle.clover_walk.specs.Ending.{Ended}
use Rattle.clover_walk.specs.Walking.{OnTail, budget, most_accesses}
use Rattle.clover_walk.proofs.Endings.{stepped}
use Rattle.clover_put.specs.Answering.{Answers, IsBefore, IsBehind, Onward, Stores, Deletes}
use Rattle.clover_put.specs.Holding.{PutHolds, Fills, Looks}
use Rattle.clover_put.specs.Putting.{Putting, Stage, Storing, Flushing, Seeking, AtMeta, AtLink, Deciding, AtBad, AtRaise, AtShort, Over, call_of, call_at, put_step, put_on, staged}
use Rattle.clover_put.specs.declared.job.Job.{Job}
use Rattle.clover_put.specs.declared.job.Job.TheVariants.{Put, Delete, Swap}
use Rattle.clover_put.specs.declared.turn.PutTurn.TheVariants.{Decided as PutDecided, Behind as PutBehind}
use Rattle.clover_call.specs.Calling.{Calling, due, after}
use Rattle.clover_call.specs.Going.{IsDue, IsDueAt, ShowsLast, Turns, Went}
use Rattle.clover_call.specs.Mirroring.{PutMirrors, Writes, Mirrors}
use Rattle.clover_call.specs.Turning.{Tells, committed_as, reply_in, CommitsNothing, IsTagOf, IsFlagged}
use Rattle.clover_call.specs.declared.answer.Answer.{Answer}
use Rattle.clover_call.specs.declared.answer.Answer.TheVariants.{Stored, Deleted}
use Rattle.clover_call.specs.declared.answer.CallerRefusal.TheVariants.{Behind}
use Rattle.clover_call.specs.declared.answer.CallerTurn.{CallerTurn}
use Rattle.clover_call.specs.declared.answer.CallerTurn.TheVariants.{More, Decided, Done, Refused}
use Rattle.clover_call.specs.declared.under.Underway.{Underway}
use Rattle.clover_call.specs.declared.under.Underway.TheVariants.{Nothing, Write}
use Rattle.clover_put.proofs.Sides.{early, behind_at}
use Rattle.clover_call.proofs.PutCalls.{put_due, put_after, put_commits, put_over, put_short, before_short, last_load}
use Rattle.clover_call.proofs.PutGoes.{SameCall, same_call, Misses, before_misses, onward_before, behind_misses, linked_hit, last_hit}

-- before its exchange a call is not over, and behind it it is
before_open : (s : Stage) (w : Putting) (call : Call) (c : Calling) → IsBefore s → PutMirrors s w call c → c.over ≡ false
before_open (Storing j) w call c b at = ap (λ (k : Calling). k.over) at
before_open (Flushing j) w call c b at = ap (λ (k : Calling). k.over) at
before_open Seeking w call c b at = ap (λ (k : Calling). k.over) at
before_open (AtMeta u) w call c b at = ap (λ (k : Calling). k.over) at
before_open (AtLink u) w call c b (xs, at, does) = ap (λ (k : Calling). k.over) at
before_open (Deciding u y) w call c b (xs, at, does) = ap (λ (k : Calling). k.over) at
before_open (AtBad u) w call c b (xs, at, does) = ap (λ (k : Calling). k.over) at
before_open (AtRaise u) w call c b at = absurd b
before_open AtShort w call c b at = absurd b
before_open Over w call c b at = absurd b

-- a call that holds what it needs is before its exchange or behind it
pub side_of : (s : Stage) (c : Putting) (v : View) → Fills s c v → IsBefore s ⊎ IsBehind s
side_of (Storing j) c v f = inl tt
side_of (Flushing j) c v f = inl tt
side_of Seeking c v f = inl tt
side_of (AtMeta u) c v f = inl tt
side_of (AtLink u) c v f = inl tt
side_of (Deciding u y) c v f = inl tt
side_of (AtBad u) c v f = inl tt
side_of (AtRaise u) c v f = inr tt
side_of AtShort c v f = inr tt
side_of Over c v f = absurd f

-- and not both
pub both : (s : Stage) → IsBefore s → IsBehind s → ⊥
both s b h = (early s b).not_behind h

-- one that goes on behind its exchange has raised its link
pub raised_at : (s : Stage) (c n : Putting) → IsBehind s → Onward s c n → (u : ℕ) × (s ≡ AtRaise u) × (n ≡ staged c AtShort)
raised_at s c n b e = behind_at s b (λ u q. (u, q, subst (λ (t : Stage). Onward t c n) q e)) (λ q. absurd (subst (λ (t : Stage). Onward t c n) q e))

-- the answer to a job that committed its tag is the reply of its call
pub committed_reply : (j : Job) (t : TagParts) (own : ℕ) (key : List ℕ) (x : Value) (room : ValueBuf) → tag_number t ≡ own → reply_in (committed_as j t) room ≡ reply_of own (call_of j key x)
committed_reply Put t own key x room e = ap (λ (n : ℕ). reply_of n (call_of Put key x)) e
committed_reply Delete t own key x room e = ap (λ (n : ℕ). reply_of n (call_of Delete key x)) e
committed_reply (Swap s) t own key x room e = ap (λ (n : ℕ). reply_of n (call_of (Swap s) key x)) e

pub stored_reply : (j : Job) (t : TagParts) (own : ℕ) (key : List ℕ) (x : Value) (room : ValueBuf) → Stores j → tag_number t ≡ own → reply_in (Stored t) room ≡ reply_of own (call_of j key x)
stored_reply Put t own key x room s e = committed_reply Put t own key x room e
stored_reply Delete t own key x room s e = absurd s
stored_reply (Swap y) t own key x room s e = committed_reply (Swap y) t own key x room e

pub deleted_reply : (j : Job) (t : TagParts) (own : ℕ) (key : List ℕ) (x : Value) (room : ValueBuf) → Deletes j → tag_number t ≡ own → reply_in (Deleted t) room ≡ reply_of own (call_of j key x)
deleted_reply Put t own key x room s e = absurd s
deleted_reply Delete t own key x room s e = committed_reply Delete t own key x room e
deleted_reply (Swap y) t own key x room s e = absurd s

module _ (c n : Putting) (v : View) (x : ℕ) (holds : PutHolds c v) (on : n ≡ put_on c x) (room : ValueBuf) where
  same : SameCall c n
  same = subst (SameCall c) (sym on) (same_call c x)

  -- it is the same call still
  writes_on : (call : Call) → Writes c call → Writes n call
  writes_on call (key, is) = (key, is ∙ sym (λ i. call_of (same.job i) key (same.value i)))

  -- what is due of the caller's call, by what is said of the call of the definition
  due_so : (u : View) (y : Underway) (r : CallerTurn) → ((call : Call) (k : Calling) → Writes c call → PutMirrors c.stage c call k → Mirrors y room call c.own (after call c.own k x) × Tells call c.own k (after call c.own k x) r)
      → IsDue (Write c) room (put_step c u) x y room r
  due_so u y r tells call own k (is, mine, at) =
      let d = put_due c.stage c v u call k holds.fills holds.looks is at in
      let t = tells call k is at in
      subst (λ (z : ℕ). IsDueAt (Write c) (put_step c u) x y room r call z k) mine (record { step_due = d.0; due = d.1; acts = d.2; leads = t.0; tells = t.1 })

  -- where a call is that goes on
  next_at : (call : Call) (k : Calling) → Writes c call → PutMirrors c.stage c call k → Misses c.stage x → (c.stage ≡ AtShort → ⊥) → PutMirrors n.stage n call (after call c.own k x)
  next_at call k is at miss more = subst (λ (z : Putting). PutMirrors z.stage z call (after call c.own k x)) (sym on) (put_after c.stage c v call k x holds.fills holds.looks is at miss more)

  still_due : (u : View) (call : Call) (k : Calling) → PutHolds n u → Writes n call → PutMirrors n.stage n call k → IsSome (due call c.own k)
  still_due u call k more is at = subst (λ (o : ℕ). IsSome (due call o k)) same.own (subst (λ (o : Option Step). IsSome o) (sym (put_due n.stage n u u call k more.fills more.looks is at).1) refl)

  goes_before : (u : View) → IsBefore c.stage → IsBefore n.stage → PutHolds n u → IsDue (Write c) room (put_step c v) x (Write n) room More
  goes_before u before next more = due_so v (Write n) More (λ call k is at.
      let miss = before_misses c x (subst (λ (z : Putting). IsBefore z.stage) on next) in
      let there = next_at call k is at miss (before_short c.stage before) in (
        (writes_on call is, same.own, there),
        (still_due u call (after call c.own k x) more (writes_on call is) there, before_open n.stage n call (after call c.own k x) next there ∙ sym (before_open c.stage c call k before at)),
      ))

  goes_behind : (u : View) (t : ℕ) → c.stage ≡ AtRaise t → n ≡ staged c AtShort → PutHolds n u → IsDue (Write c) room (put_step c v) x (Write n) room More
  goes_behind u t at_raise at_short more = due_so v (Write n) More (λ call k is at.
      let there = next_at call k is at (subst (λ (s : Stage). Misses s x) (sym at_raise) tt) (λ e. let f : AtRaise t ≡ AtShort = sym at_raise ∙ e in cc) in
      let was = subst (λ (s : Stage). PutMirrors s c call k) at_raise at in
      let now = subst (λ (z : Putting). PutMirrors z.stage z call (after call c.own k x)) at_short there in (
        (writes_on call is, same.own, there),
        (still_due u call (after call c.own k x) more (writes_on call is) there, ap (λ (z : Calling). z.over) now.1 ∙ sym (ap (λ (z : Calling). z.over) was.1)),
      ))

  -- one that goes on
  pub put_more : (u : View) → Onward c.stage c n → PutHolds n u → IsDue (Write c) room (put_step c v) x (Write n) room More × Turns More (Write c) (Write n)
  put_more u onward more = go (side_of c.stage c v holds.fills)
    where
      go : IsBefore c.stage ⊎ IsBehind c.stage → IsDue (Write c) room (put_step c v) x (Write n) room More × Turns More (Write c) (Write n)
      go (inl before) = let next = onward_before c n before onward in (goes_before u before next more, inl (before, next))
      go (inr past) = let r = raised_at c.stage c n past onward in (goes_behind u r.0 r.1 r.2 more, inr (past, subst (λ (z : Putting). IsBehind z.stage) (sym r.2) tt))

  -- one that has committed
  pub put_decided : (u : View) (t : TagParts) (a : Answer) → Answers c n (PutDecided t) → PutHolds n u → IsDue (Write c) room (put_step c v) x (Write n) room (Decided a)
  put_decided u t a (tail, at_link, is_raise, mine) more = due_so v (Write n) (Decided a) (λ call k is at.
      let there = subst (λ (s : Stage). PutMirrors s c call k) at_link at in
      let on_tail = (subst (λ (s : Stage). Looks s c v) at_link holds.looks).0.0 in
      let hit = linked_hit c tail x at_link (sym is_raise ∙ on) in
      let now = put_commits c call tail x k on_tail there hit in
      let next = subst (λ (z : Putting). PutMirrors z.stage z call (after call c.own k x)) (sym is_raise) now in (
        (writes_on call is, same.own, next),
        (still_due u call (after call c.own k x) more (writes_on call is) next, ap (λ (z : Calling). z.over) there.1, ap (λ (z : Calling). z.over) now.1),
      ))

  -- one that has stored its shortcut
  pub put_closes : (a : Answer) → c.stage ≡ AtShort → IsDue (Write c) room (put_step c v) x Nothing room (Done a)
  put_closes a at_short = due_so v Nothing (Done a) (λ call k is at. (tt, put_short c call k x (subst (λ (s : Stage). PutMirrors s c call k) at_short at)))

  -- one whose turns have reached the budget
  pub put_behind : (turns : ℕ) → Answers c n (PutBehind turns) → IsDue (Write c) room (put_step c v) x Nothing room (Refused (Behind turns))
  put_behind turns (before, over, ended, all) = due_so v Nothing (Refused (Behind turns)) (λ call k is at.
      let miss = behind_misses c v x holds (ap (λ (z : Putting). z.stage) (sym on) ∙ over) (ap (λ (z : Putting). z.walk.stand) (sym on) ∙ ended) in
      let next = subst (λ (s : Stage). PutMirrors s n call (after call c.own k x)) over (next_at call k is at miss (before_short c.stage before)) in
      (tt, (ap (λ (z : Calling). z.steps) next.0, ap (λ (z : Calling). z.over) next.0, ap (λ (z : Calling). z.walk.stand) next.0 ∙ next.1)))

  -- one that is answered at its tail without a commit
  module _ (t : ℕ) (y : Reply) (deciding : c.stage ≡ Deciding t y) (over : n ≡ staged c Over) where
    on_tail : c.walk.stand ≡ OnTail t
    on_tail = (subst (λ (s : Stage). Looks s c v) deciding holds.looks).0.0

    pub found_tail : x ≡ unlinked t
    found_tail = last_hit c t x y deciding on_tail (sym over ∙ on)

    pub put_done : (a : Answer) → IsDue (Write c) room (put_step c v) x Nothing room (Done a)
    put_done a = due_so v Nothing (Done a) (λ call k is at.
        let hit : Misses c.stage x → ⊥ = λ m. (let z : (x == unlinked t) ≡ false = subst (λ (s : Stage). Misses s x) deciding m in let h : (x == unlinked t) ≡ true = eq-eqb x (unlinked t) found_tail in let no : true ≡ false = sym h ∙ z in cc) in
        (tt, put_over c.stage c v call k x holds.looks at (last_load c.stage c x hit (ap (λ (z : Putting). z.stage) (sym on ∙ over))) hit))

    -- its last load showed the tail unlinked
    pub put_shows : (p : Pool) (o : Option Open) (w : View) (o1 : Option Open) → Made p (put_step c v) c.walk.first v o x w o1 → ShowsLast t w.pass.since
    put_shows p o w o1 made =
        let e = (stepped p (put_step c v) c.walk.first v o x w o1 made).since in
        let act : act_of (put_step c v) x ≡ act_of (DecideNext c.walk.slot t (call_at c v) y) (unlinked t) = (λ i. act_of (put_step (record c { stage = deciding i }) v) (found_tail i)) in
        (cond c.walk.first [] v.pass.since, e ∙ ap (λ (z : _). cond c.walk.first [] v.pass.since ++ z ∷ []) act)

    -- what the turn of a call says that was answered at this tail
    pub put_went : (p : Pool) (o : Option Open) (w : View) (o1 : Option Open) (a : Answer) (tail : TagParts) (k k1 : Known) (s : ℕ) → p ≡ c.walk.pool → IsBefore c.stage → Made p (put_step c v) c.walk.first v o x w o1 → Ended p (call_at c v) (reply_in a room) v o w o1 → t ≡ tag_number tail → IsTagOf a tail → CommitsNothing a → IsFlagged a None
        → InRange c.walk.pool (tag_number tail) × Within (c.walk.slot, tag_number tail) w.pass.durable → s ≡ n.walk.slot → IsSet s tail k k1 → w.pass.turns < budget c.walk.pool → length w.pass.since ≤ most_accesses c.walk.pool w.pass.turns
        → Went c.walk.pool (Write c) Nothing k k1 room v o w o1 (Done a)
    put_went p o w o1 a tail k k1 s of before made e tag names nothing flags known slot set ahead bound =
        subst (λ (q : Pool). Went q (Write c) Nothing k k1 room v o w o1 (Done a)) of (record {
          turns = (inl before, refl);
          decided = tt;
          done = (
            tail,
            record {
              range = subst (λ (q : Pool). InRange q (tag_number tail)) (sym of) known.0;
              durable = known.1;
              tag = names;
              flags = flags;
              own = λ past. absurd (both c.stage before past);
              tail = λ h. (e, subst (λ (u : ℕ). ShowsLast u w.pass.since) tag (put_shows p o w o1 made), nothing);
            },
            subst (λ (z : ℕ). IsSet z tail k k1) (slot ∙ same.slot) set,
          );
          cursors = tt;
          behind = tt;
          ahead = subst (λ (q : Pool). w.pass.turns < budget q) (sym of) ahead;
          bound = subst (λ (q : Pool). length w.pass.since ≤ most_accesses q w.pass.turns) (sym of) bound;
          holds = tt;
        })

    pub deciding_before : IsBefore c.stage
    deciding_before = subst IsBefore (sym deciding) tt
