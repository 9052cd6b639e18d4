-- What an access of a get is by the definition of what a call does, and at which tag it ends the get.
use Prim.Native.Nat.{suc}
use Rattle.std.proofs.Common.{◌≡◌, ◌≢◌, ℕ, ◌==◌, List, [], ◌∷◌, ◌++◌, length, Bool, true, false, cond, refl, sym, ap, ◌∙◌, inl, subst, arith, eq-eqb}
use Rattle.std.specs.Prelude.{◌<◌, ◌≤◌, Option, IsSome}
use Rattle.clover_words.specs.declared.bytes.ValueBuf.{ValueBuf}
use Rattle.clover_words.specs.declared.pool.Pool.{Pool}
use Rattle.clover_words.specs.Tag.{TagParts, tag_number}
use Rattle.clover_words.specs.Version.{unlinked}
use Rattle.clover_map.specs.declared.call.Call.{Call}
use Rattle.clover_map.specs.declared.call.Call.TheVariants.{Get as GetOf}
use Rattle.clover_map.specs.declared.call.Reply.{Reply}
use Rattle.clover_rule.specs.Content.{InRange}
use Rattle.clover_rule.specs.Knowing.{link_entry}
use Rattle.clover_rule.specs.Learned.{decided, seen, turn_of}
use Rattle.clover_rule.specs.Lists.{Within}
use Rattle.clover_rule.specs.Steps.{Step, DecideNext, LoadNext, client}
use Rattle.clover_rule.specs.Words.{next_of}
use Rattle.clover_rule.specs.declared.view.View.{View}
use Rattle.clover_rule.proofs.Tools.{length_snoc}
use Rattle.clover_port.specs.Told.{Open, Made}
use Rattle.clover_cache.specs.Node.{Known, IsSet}
use Rattle.clover_walk.specs.Ending.{Ended}
use Rattle.clover_walk.specs.Walking.{Walking, Stand, AtShort, AtRoot, AtTag, AtLink, OnTail, Ended as StandEnded, step_at, budget, most_accesses}
use Rattle.clover_walk.proofs.Endings.{IsPlain, stepped, kept, copied_one}
use Rattle.clover_get.specs.Getting.{Getting, Stage, Seeking, AtMeta, AtValue, AtFound, AtDead, AtBad, Over, step_from, get_step, GoesFrom, GoesOn, FillsFrom}
use Rattle.clover_get.specs.Going.{key_of}
use Rattle.clover_get.specs.Holding.{GetHolds, StandsOn}
use Rattle.clover_call.specs.Calling.{Calling, after}
use Rattle.clover_call.specs.Going.{IsDue, IsDueAt, ShowsLast, Went}
use Rattle.clover_call.specs.Mirroring.{GetMirrors, Mirrors}
use Rattle.clover_call.specs.Caller.{flags_at}
use Rattle.clover_call.specs.Turning.{Tells, reply_in, CommitsNothing, IsTagOf, IsFlagged}
use Rattle.clover_call.specs.declared.answer.Answer.{Answer}
use Rattle.clover_call.specs.declared.answer.CallerRefusal.TheVariants.{Behind}
use Rattle.clover_call.specs.declared.answer.CallerTurn.{CallerTurn}
use Rattle.clover_call.specs.declared.answer.CallerTurn.TheVariants.{More, Done, Refused}
use Rattle.clover_call.specs.declared.under.Underway.{Underway}
use Rattle.clover_call.specs.declared.under.Underway.TheVariants.{Nothing, Get}
use Rattle.clover_call.proofs.GetCalls.{get_due, get_after, get_over}
use Rattle.clover_call.proofs.GetGoes.{Misses, goes, going_misses, turning_misses, holding_open}

-- a get that has not ended is not over
get_open : (s : Stage) (w : Walking) (room : ValueBuf) (c : Calling) → GetMirrors s w room c → c.over ≡ false
get_open Seeking w room c at = ap (λ (k : Calling). k.over) at
get_open (AtMeta t) w room c at = ap (λ (k : Calling). k.over) at
get_open (AtValue t f j) w room c (m, xs, at, count, size) = ap (λ (k : Calling). k.over) at
get_open (AtFound t f) w room c (xs, at, does) = ap (λ (k : Calling). k.over) at
get_open (AtDead t) w room c (xs, at, does) = ap (λ (k : Calling). k.over) at
get_open (AtBad t) w room c (xs, at, does) = ap (λ (k : Calling). k.over) at
get_open Over w room c (at, ended) = ap (λ (k : Calling). k.over) at

-- every step of a walk is plain
way_plain : (s : ℕ) (at : Stand) (x : ℕ) → IsPlain (step_at s at) x
way_plain s AtShort x = tt
way_plain s AtRoot x = tt
way_plain s (AtTag t) x = tt
way_plain s (AtLink t u) x = tt
way_plain s (OnTail t) x = tt
way_plain s StandEnded x = tt

-- a number that a test tells from another is not that
pub differs : (x u : ℕ) → (x == u) ≡ false → x ≢ u
differs x u e same = let hit : (x == u) ≡ true = eq-eqb x u same in let no : true ≡ false = sym hit ∙ e in cc

-- an access that does not end the get adds no call of the client's
missed_calls : (s : Stage) (w0 : Walking) (k : List ℕ) (room : ValueBuf) (p : Pool) (b : Bool) (v : View) (o : Option Open) (n : ℕ) (w : View) (o1 : Option Open) → Misses s n → Made p (step_from s w0 k room) b v o n w o1 → w.pass.calls ≡ v.pass.calls
missed_calls Seeking w0 k room p b v o n w o1 miss made = (kept p (step_at w0.slot w0.stand) b v o n w o1 made (way_plain w0.slot w0.stand n)).calls
missed_calls (AtMeta t) w0 k room p b v o n w o1 miss made = (copied_one p w0.slot t 0 b v o n w o1 made).calls
missed_calls (AtValue t f j) w0 k room p b v o n w o1 miss made = (copied_one p w0.slot t (suc j) b v o n w o1 made).calls
missed_calls (AtFound t f) w0 k room p b v o n w o1 miss made = (kept p (step_from (AtFound t f) w0 k room) b v o n w o1 made (differs n (unlinked t) miss)).calls
missed_calls (AtDead t) w0 k room p b v o n w o1 miss made = (kept p (step_from (AtDead t) w0 k room) b v o n w o1 made (differs n (unlinked t) miss)).calls
missed_calls (AtBad t) w0 k room p b v o n w o1 miss made = (kept p (LoadNext w0.slot t) b v o n w o1 made tt).calls
missed_calls Over w0 k room p b v o n w o1 miss made = (kept p (step_at w0.slot w0.stand) b v o n w o1 made (way_plain w0.slot w0.stand n)).calls

module _ (p : Pool) (c : Call) (r : Reply) (v : View) (o : Option Open) (w : View) (o1 : Option Open) (e : Ended p c r v o w o1) where
  -- the last load of a call that was decided by it showed the tag unlinked
  pub shows_last : ShowsLast e.tag w.pass.since
  shows_last = (v.pass.since, (stepped p (DecideNext e.slot e.tag c r) false v o (unlinked e.tag) w o1 e.made).since)

  -- and added the call to the client's
  pub ended_calls : w.pass.calls ≡ v.pass.calls ++ link_entry v (client v) c r ∷ []
  ended_calls =
      ap (λ (u : View). u.pass.calls) e.made.told.next
      ∙ ap (λ (b : Bool). (cond b (decided v e.made.now.history e.tag c r) (seen e.slot e.tag v (next_of (unlinked e.tag)))).pass.calls) (eq-eqb (unlinked e.tag) (unlinked e.tag) refl)

  one_more : w.pass.calls ≡ v.pass.calls → ⊥
  one_more same = let l = ap length (sym same ∙ ended_calls) ∙ length_snoc (link_entry v (client v) c r) v.pass.calls in absurd (omega arith)

module _ (g : Getting) (room room1 : ValueBuf) (k : List ℕ) (n : ℕ) (v : View) (on : StandsOn g.stage g.walk v room) where
  -- what is due of the caller's get, by what is said of the get of the definition
  due_so : (y : Underway) (r : CallerTurn) → ((key : List ℕ) (own : ℕ) (c : Calling) → GetMirrors g.stage g.walk room c → Mirrors y room1 (GetOf key) own (after (GetOf key) own c n) × Tells (GetOf key) own c (after (GetOf key) own c n) r)
      → IsDue (Get g) room (get_step g k room) n y room1 r
  due_so y r tells call own c ((key, is), at) =
      let d = get_due g.stage g.walk v room c key own on at in
      let t = tells key own c at in
      subst (λ (z : Call). IsDueAt (Get g) (get_step g k room) n y room1 r z own c) (sym is) (record { step_due = d.0; due = d.1; acts = d.2 k; leads = t.0; tells = t.1 })

  -- one that goes on
  due_more : (g1 : Getting) (w : View) → StandsOn g1.stage g1.walk w room1 → Misses g.stage n → GoesFrom g.stage g.walk room1.length n g1 → FillsFrom g.stage n room room1 → IsDue (Get g) room (get_step g k room) n (Get g1) room1 More
  due_more g1 w more miss go fill = due_so (Get g1) More (λ key own c at.
      let next = get_after g.stage g.walk v room room1 c key own n g1 on at miss go fill in
      let d = get_due g1.stage g1.walk w room1 (after (GetOf key) own c n) key own more next in (
        ((key, refl), next),
        (subst (λ (z : Option Step). IsSome z) (sym d.1) refl, get_open g1.stage g1.walk room1 (after (GetOf key) own c n) next ∙ sym (get_open g.stage g.walk room c at)),
      ))

  -- one whose turns have reached the budget
  due_behind : (g1 : Getting) (turns : ℕ) → g1.stage ≡ Over → Misses g.stage n → GoesFrom g.stage g.walk room1.length n g1 → FillsFrom g.stage n room room1 → IsDue (Get g) room (get_step g k room) n Nothing room1 (Refused (Behind turns))
  due_behind g1 turns over miss go fill = due_so Nothing (Refused (Behind turns)) (λ key own c at.
      let next = subst (λ (s : Stage). GetMirrors s g1.walk room1 (after (GetOf key) own c n)) over (get_after g.stage g.walk v room room1 c key own n g1 on at miss go fill) in
      (tt, (ap (λ (z : Calling). z.steps) next.0, ap (λ (z : Calling). z.over) next.0, ap (λ (z : Calling). z.walk.stand) next.0 ∙ next.1)))

  -- one that is answered
  due_done : (a : Answer) → (Misses g.stage n → ⊥) → IsDue (Get g) room (get_step g k room) n Nothing room1 (Done a)
  due_done a hit = due_so Nothing (Done a) (λ key own c at. (tt, get_over g.stage g.walk v room c key own n on at hit))

module _ (p : Pool) (g : Getting) (room : ValueBuf) (v : View) (o : Option Open) (n : ℕ) (w : View) (o1 : Option Open) (of : p ≡ g.walk.pool) (holds : GetHolds g v room) (made : Made p (get_step g (key_of g v) room) g.walk.first v o n w o1) (room1 : ValueBuf) where
  pub get_more : (g1 : Getting) → GoesOn g room1.length n g1 → FillsFrom g.stage n room room1 → GetHolds g1 w room1 → IsDue (Get g) room (get_step g (key_of g v) room) n (Get g1) room1 More
  get_more g1 go fill more = due_more g room room1 (key_of g v) n v holds.stage g1 w more.stage (going_misses g.stage g.walk room1.length n g1 go (holding_open g1.stage g1.walk w room1 more.stage)) go fill

  pub get_behind : (g1 : Getting) (turns : ℕ) → GoesOn g room1.length n g1 → FillsFrom g.stage n room room1 → g1.stage ≡ Over → w.pass.turns ≡ budget p → IsDue (Get g) room (get_step g (key_of g v) room) n Nothing room1 (Refused (Behind turns))
  get_behind g1 turns go fill over all =
      let t = (stepped p (get_step g (key_of g v) room) g.walk.first v o n w o1 made).turns in
      let same : budget p ≡ budget g.walk.pool = ap budget of in
      let few = holds.walk.below in
      let counted = holds.walk.turns in
      let turned : turn_of (get_step g (key_of g v) room) n ≢ 0 = λ z. omega arith in
      due_behind g room room1 (key_of g v) n v holds.stage g1 turns over (turning_misses g.stage g.walk (key_of g v) room n turned) go fill

  pub get_done : (a : Answer) (reply : Reply) → Ended p (GetOf (key_of g v)) reply v o w o1 → IsDue (Get g) room (get_step g (key_of g v) room) n Nothing room1 (Done a)
  get_done a reply e = due_done g room room1 (key_of g v) n v holds.stage a (λ miss. one_more p (GetOf (key_of g v)) reply v o w o1 e (missed_calls g.stage g.walk (key_of g v) room p g.walk.first v o n w o1 miss made))

  -- it is on its slot still
  pub get_slot : (g1 : Getting) → GoesOn g room1.length n g1 → g1.walk.slot ≡ g.walk.slot
  get_slot g1 go = (goes g.stage g.walk v room room1.length n g1 holds.stage go).slot

  -- what the turn of a get says that was answered at this tag
  pub get_went : (a : Answer) (t : TagParts) (g1 : Getting) (k k1 : Known) (s : ℕ) → GoesOn g room1.length n g1 → (e : Ended p (GetOf (key_of g v)) (reply_in a room1) v o w o1) → e.tag ≡ tag_number t → IsTagOf a t → CommitsNothing a → IsFlagged a (flags_at g.stage)
      → InRange g.walk.pool (tag_number t) × Within (g.walk.slot, tag_number t) w.pass.durable → s ≡ g1.walk.slot → IsSet s t k k1 → w.pass.turns < budget p → length w.pass.since ≤ most_accesses p w.pass.turns → Went g.walk.pool (Get g) Nothing k k1 room1 v o w o1 (Done a)
  get_went a t g1 k k1 s go e tag names nothing flags known slot set ahead bound =
      subst (λ (q : Pool). Went q (Get g) Nothing k k1 room1 v o w o1 (Done a)) of (record {
        turns = (inl tt, refl);
        decided = tt;
        done = (
          t,
          record {
            range = subst (λ (q : Pool). InRange q (tag_number t)) (sym of) known.0;
            durable = known.1;
            tag = names;
            flags = flags;
            own = λ h. absurd h;
            tail = λ h. (e, subst (λ (u : ℕ). ShowsLast u w.pass.since) tag (shows_last p (GetOf (key_of g v)) (reply_in a room1) v o w o1 e), nothing);
          },
          subst (λ (z : ℕ). IsSet z t k k1) (slot ∙ get_slot g1 go) set,
        );
        cursors = tt;
        behind = tt;
        ahead = ahead;
        bound = bound;
        holds = tt;
      })
