-- One access more of a call that is to end in so many accesses made alone.
use Prim.Native.Nat.{zero, suc}
use Rattle.std.proofs.Common.{◌≡◌, ◌≢◌, ℕ, List, refl, sym, ap, ◌∙◌, subst, arith}
use Rattle.clover_words.specs.declared.bytes.ValueBuf.{ValueBuf}
use Rattle.clover_words.specs.declared.pool.Pool.{Pool}
use Rattle.clover_map.specs.declared.call.Reply.{Reply}
use Rattle.clover_rule.specs.Learned.{found, turn_of, words_after_step}
use Rattle.clover_rule.specs.declared.view.View.{View}
use Rattle.clover_get.specs.Alone.{Moment, GoesAlone}
use Rattle.clover_get.specs.Getting.{Getting, IsOpen, Over, FillsFrom, GoesOn as GetGoesOn}
use Rattle.clover_get.specs.Holding.{GetHolds}
use Rattle.clover_put.specs.Alone.{IsOpen as IsPutOpen}
use Rattle.clover_put.specs.Holding.{PutHolds, Fills}
use Rattle.clover_put.specs.Putting.{Putting, Stage, Storing, Flushing, Seeking, AtMeta, AtLink, Deciding, AtBad, AtRaise, AtShort, Over as PutOver, put_step, put_on}
use Rattle.clover_call.specs.Going.{GoesOn}
use Rattle.clover_call.specs.Caller.{CallHolds, next_step}
use Rattle.clover_call.specs.Turning.{OnOver, left_by}
use Rattle.clover_call.specs.declared.answer.Answer.{Answer}
use Rattle.clover_call.specs.declared.answer.CallerRefusal.TheVariants.{Behind}
use Rattle.clover_call.specs.declared.answer.CallerTurn.{CallerTurn}
use Rattle.clover_call.specs.declared.answer.CallerTurn.TheVariants.{Done, Refused}
use Rattle.clover_call.specs.declared.under.Underway.{Underway}
use Rattle.clover_call.specs.declared.under.Underway.TheVariants.{Nothing, Get, Write}
use Rattle.clover_call.proofs.GetGoes.{holding_open}
use Rattle.clover_event.specs.declared.event.Note.TheVariants.{Quiet, Answered}
use Rattle.clover_event.specs.Alone.{GetEnds, PutEnds, EndsIn, NotesWith, Advances}

-- what a client knows at its next access, and at those behind it
abbrev first_then : View → (ℕ → View) → ℕ → View
first_then v f zero = v
first_then v f (suc i) = f i

-- a get
get_on : (p : Pool) (n : ℕ) (v : View) (a b : Moment) → GetEnds p n a → IsOpen a.call.stage → GoesAlone p v a b → (j : ℕ) × (n ≡ suc j) × GetEnds p j b
get_on p zero v a b h way goes = absurd (subst IsOpen (h.over (λ (i : ℕ). v) a refl) way)
get_on p (suc j) v a b h way goes = (
  j,
  refl,
  record {
    before = λ f k c l r. h.before (first_then v f) (suc k) c (omega arith) (b, goes, r);
    last = λ f k c w e r. h.last (first_then v f) (suc k) c w (ap suc e) (b, goes, r);
    over = λ f c r. h.over (first_then v f) c (b, goes, r);
  },
)

get_open : (p : Pool) (j : ℕ) (v : View) (b : Moment) → GetEnds p j b → IsOpen b.call.stage → (k : ℕ) × (j ≡ suc k)
get_open p zero v b h way = absurd (subst IsOpen (h.over (λ (i : ℕ). v) b refl) way)
get_open p (suc k) v b h way = (k, refl)

get_over : (p : Pool) (j : ℕ) (v : View) (b : Moment) → GetEnds p j b → b.call.stage ≡ Over → j ≡ 0
get_over p zero v b h e = refl
get_over p (suc k) v b h e = absurd (subst IsOpen e (h.before (λ (i : ℕ). v) 0 b (omega arith) refl))

notes_quiet : (c j k : ℕ) → j ≡ suc k → NotesWith c j Quiet
notes_quiet c j k e = subst (λ (n : ℕ). NotesWith c n Quiet) (sym e) refl

-- a call that writes
put_next : (p : Pool) (n : ℕ) (v : View) (ws : List ℕ) (c : Putting) → PutEnds p n ws c → IsPutOpen c.stage → (j : ℕ) × (n ≡ suc j) × PutEnds p j (words_after_step p (put_step c v) ws) (put_on c (found p (put_step c v) ws))
put_next p zero v ws c h way = absurd (subst IsPutOpen (h.over (λ (i : ℕ). v)) way)
put_next p (suc j) v ws c h way = (
  j,
  refl,
  record {
    before = λ f k l. h.before (first_then v f) (suc k) (omega arith);
    last = λ f k w e. h.last (first_then v f) (suc k) w (ap suc e);
    over = λ f. h.over (first_then v f);
  },
)

put_open : (p : Pool) (j : ℕ) (v : View) (ws : List ℕ) (c : Putting) → PutEnds p j ws c → IsPutOpen c.stage → (k : ℕ) × (j ≡ suc k)
put_open p zero v ws c h way = absurd (subst IsPutOpen (h.over (λ (i : ℕ). v)) way)
put_open p (suc k) v ws c h way = (k, refl)

put_over : (p : Pool) (j : ℕ) (v : View) (ws : List ℕ) (c : Putting) → PutEnds p j ws c → c.stage ≡ PutOver → j ≡ 0
put_over p zero v ws c h e = refl
put_over p (suc k) v ws c h e = absurd (subst IsPutOpen e (h.before (λ (i : ℕ). v) 0 (omega arith)))

-- one that holds what it needs has more accesses to make
fills_open : (s : Stage) (c : Putting) (v : View) → Fills s c v → IsPutOpen s
fills_open (Storing j) c v f = tt
fills_open (Flushing j) c v f = tt
fills_open Seeking c v f = tt
fills_open (AtMeta u) c v f = tt
fills_open (AtLink u) c v f = tt
fills_open (Deciding u y) c v f = tt
fills_open (AtBad u) c v f = tt
fills_open (AtRaise u) c v f = tt
fills_open AtShort c v f = tt
fills_open PutOver c v f = absurd f

-- The access of what is under way was made in these words and found this number.
module _ (c : ℕ) (p : Pool) (m : ℕ) (v : View) (ws ws1 : List ℕ) (room room1 : ValueBuf) (n : ℕ) where
  abbrev moment : List ℕ → Getting → ValueBuf → Moment
  moment w g into = record { words = w; call = g; room = into }

  abbrev pub IsMade : Underway → Type 0
  IsMade x = (ws1 ≡ words_after_step p (next_step x v room) ws) × (n ≡ found p (next_step x v room) ws)

  get_next : (g g1 : Getting) → IsMade (Get g) → GetHolds g v room → GetGoesOn g room1.length n g1 → FillsFrom g.stage n room room1 → GetEnds p m (moment ws g room) → (j : ℕ) × (m ≡ suc j) × GetEnds p j (moment ws1 g1 room1)
  get_next g g1 made held go fills h = get_on p m v (moment ws g room) (moment ws1 g1 room1) h (holding_open g.stage g.walk v room held.stage) (record {
    words = made.0;
    call = subst (λ (k : ℕ). GetGoesOn g room1.length k g1) made.1 go;
    room = subst (λ (k : ℕ). FillsFrom g.stage k room room1) made.1 fills;
  })

  put_one : (w : Putting) → IsMade (Write w) → PutHolds w v → PutEnds p m ws w → (j : ℕ) × (m ≡ suc j) × PutEnds p j ws1 (put_on w n)
  put_one w made held h =
      let g = put_next p m v ws w h (fills_open w.stage w v held.fills) in
      (g.0, g.1, subst (λ (l : List ℕ). PutEnds p g.0 l (put_on w n)) (sym made.0) (subst (λ (k : ℕ). PutEnds p g.0 (words_after_step p (put_step w v) ws) (put_on w k)) (sym made.1) g.2))

  -- it goes on
  pub goes_on : (x y : Underway) (r : CallerTurn) (w : View) → ((u : Underway) → left_by r u ≡ u) → IsMade x → CallHolds p x v room → CallHolds p y w room1 → GoesOn x room n r y room1 → EndsIn p ws m x room → Advances c p m ws1 y room1 Quiet
  goes_on Nothing y r w left made held kept go h = absurd go
  goes_on (Get g) y r w left made held kept go h =
      let is = go.3 ∙ left (Get go.0) in
      let on : CallHolds p (Get go.0) w room1 = subst (λ (u : Underway). CallHolds p u w room1) is kept in
      let j = get_next g go.0 made held.1 go.1 go.2 h in
      let k = get_open p j.0 v (moment ws1 go.0 room1) j.2 (holding_open go.0.stage go.0.walk w room1 on.1.stage) in
      subst (λ (u : Underway). Advances c p m ws1 u room1 Quiet) (sym is) (record { left = j.0; one = j.1; ends = j.2; notes = notes_quiet c j.0 k.0 k.1 })
  goes_on (Write d) y r w left made held kept go h =
      let is = go.0 ∙ left (Write (put_on d n)) in
      let on : CallHolds p (Write (put_on d n)) w room1 = subst (λ (u : Underway). CallHolds p u w room1) is kept in
      let j = put_one d made held.1 h in
      let k = put_open p j.0 v ws1 (put_on d n) j.2 (fills_open (put_on d n).stage (put_on d n) w on.1.fills) in
      subst (λ (u : Underway). Advances c p m ws1 u room1 Quiet) (sym is) (record { left = j.0; one = j.1; ends = j.2; notes = notes_quiet c j.0 k.0 k.1 })

  -- it is over behind its last access
  over_one : (x y : Underway) (r : CallerTurn) → ((A : Type 0) → OnOver r A → A) → IsMade x → CallHolds p x v room → GoesOn x room n r y room1 → EndsIn p ws m x room → m ≡ 1
  over_one Nothing y r over made held go h = absurd go
  over_one (Get g) y r over made held go h = let j = get_next g go.0 made held.1 go.1 go.2 h in j.1 ∙ ap suc (get_over p j.0 v (moment ws1 go.0 room1) j.2 (over _ go.4))
  over_one (Write d) y r over made held go h = let j = put_one d made held.1 h in j.1 ∙ ap suc (put_over p j.0 v ws1 (put_on d n) j.2 (over _ go.2))

  pub answers : (x y : Underway) (a : Answer) (ws2 : List ℕ) (reply : Reply) → IsMade x → CallHolds p x v room → GoesOn x room n (Done a) y room1 → EndsIn p ws m x room → Advances c p m ws2 Nothing room1 (Answered c reply)
  answers x y a ws2 reply made held go h = record { left = 0; one = over_one x y (Done a) (λ A e. e) made held go h; ends = refl; notes = refl }

  -- it does not end without an answer
  pub stays_ahead : (x y : Underway) (k : ℕ) → IsMade x → CallHolds p x v room → GoesOn x room n (Refused (Behind k)) y room1 → EndsIn p ws m x room → turn_of (next_step x v room) n ≢ 0 → ⊥
  stays_ahead Nothing y k made held go h turned = absurd go
  stays_ahead (Get g) y k made held go h turned =
      turned (subst (λ (j : ℕ). turn_of (next_step (Get g) v room) j ≡ 0) (sym made.1) (h.last (λ (i : ℕ). v) 0 (moment ws g room) v (sym (over_one (Get g) y (Refused (Behind k)) (λ A e. e) made held go h)) refl))
  stays_ahead (Write d) y k made held go h turned =
      turned (subst (λ (j : ℕ). turn_of (next_step (Write d) v room) j ≡ 0) (sym made.1) (h.last (λ (i : ℕ). v) 0 v (sym (over_one (Write d) y (Refused (Behind k)) (λ A e. e) made held go h))))
