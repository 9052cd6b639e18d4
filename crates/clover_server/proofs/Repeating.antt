-- Steps of a want that are repeated to their end: how many there are, what they leave of the port, and what the last one says.
use Rattle.std.proofs.Common.{◌≡◌, ℕ, ◌+◌, ◌<◌, ◌≤◌, List, Bool, true, false, refl, sym, ap, ◌∙◌, subst, arith}
use Rattle.std.specs.Prelude.{Option, Some, None, Result, Ok, Err, IfErr, OnOk}
use Rattle.std.specs.Option.{is_some}
use Prim.Native.Nat.{suc}
use Rattle.clover_words.specs.Tag.{TagParts}
use Rattle.clover_dir.specs.Names.{IsNew}
use Rattle.clover_recycle.specs.Recycling.{answer_to, made_task}
use Rattle.clover_recycle.specs.declared.turn.RecycleTurn.{RecycleTurn}
use Rattle.clover_recycle.specs.declared.turn.RecycleTurn.TheVariants.{More as MoreOf, Unlinked as UnlinkedOf, Recycled as RecycledOf, Unreached as UnreachedOf}
use Rattle.clover_rule.specs.Steps.{Step}
use Rattle.clover_server.specs.Going.{server_step, went, answer_of, recycle_outcome, taken_in}
use Rattle.clover_server.specs.Left.{work_left}
use Rattle.clover_server.specs.Looking.{IsSlotOf, IsLowestFree, room_of}
use Rattle.clover_server.specs.Server.{ServerState}
use Rattle.clover_server.specs.Steps.{Due, Finishes, Sweeps, Recycles, Binds, Answers, WantStep, OnAccess, or_finish, by_room, stock_due, named_due, ended, sweeping, recycling, swept, swept_on, swept_turn, ended_if, full_if, full_turn, all_swept}
use Rattle.clover_server.specs.Told.{IfFull, IfReached, IfUnreached}
use Rattle.clover_server.specs.Whole.{Moment, Making, Failing, Leads, Repeats, NamedStep, IsNamed, HasNoSlot, ByCause, want_turn_of}
use Rattle.clover_server.specs.declared.due.Room.{Room}
use Rattle.clover_server.specs.declared.due.Room.TheVariants.{Swept, Full as NoRoom, Free as HasRoom}
use Rattle.clover_server.specs.declared.turn.ServerRefusal.{ServerRefusal}
use Rattle.clover_server.specs.declared.turn.ServerRefusal.TheVariants.{Full as RefusedFull, NoSlot as RefusedNoSlot, Unreached as RefusedUnreached}
use Rattle.clover_server.specs.declared.turn.ServerTurn.{ServerTurn}
use Rattle.clover_server.specs.declared.turn.ServerTurn.TheVariants.{More, Ready, Unlinked, Recycled, Full, NoSlot, Unreached}
use Rattle.clover_server.specs.declared.work.Unfinished.{Unfinished}

-- steps that were repeated lead from the one moment to the other, each of which has lowered what is left
pub record Since {Q : Type 0} (step : Moment Q → Moment Q → ServerTurn → Type 0) (a b : Moment Q) : Type 0 where
  pub count : ℕ
  pub few : count + work_left b.server ≤ work_left a.server
  pub leads : Leads step count a b

module _ {Q : Type 0} (step : Moment Q → Moment Q → ServerTurn → Type 0) (a : Moment Q) where
  pub since_none : Since step a a
  since_none = record { count = 0; few = omega arith; leads = refl }

  module _ (m : Moment Q) (s : Since step a m) (b : Moment Q) where
    pub since_more : step m b More → work_left b.server < work_left m.server → Since step a b
    since_more t l = record { count = suc s.count; few = (let f = s.few in omega arith); leads = (m, s.leads, t) }

    pub since_ends : (r : ServerTurn) → step m b r → Repeats step (work_left a.server) a b r
    since_ends r t = record { count = s.count; few = (let f = s.few in omega arith); before = m; leads = s.leads; last = t }

-- what holds of each answer
if_reached : {A : Type 0} (r : ServerTurn) → A → IfReached r A
if_reached More a = a
if_reached Ready a = a
if_reached Unlinked a = a
if_reached (Recycled old) a = a
if_reached (Full bound worn out) a = a
if_reached NoSlot a = a
if_reached Unreached a = tt

-- what an access leaves, whether it was made or refused
pub access_leaves : {A : Type 0} (r : ServerTurn) (made : ℕ → Type 0) (failed : Type 0) → OnAccess r made failed → ((x : ℕ) → made x → A) → (failed → A) → A
access_leaves More made failed t f g = f t.0 t.1
access_leaves Ready made failed t f g = f t.0 t.1
access_leaves Unlinked made failed t f g = f t.0 t.1
access_leaves (Recycled old) made failed t f g = f t.0 t.1
access_leaves (Full bound worn out) made failed t f g = f t.0 t.1
access_leaves NoSlot made failed t f g = f t.0 t.1
access_leaves Unreached made failed t f g = g t

pub access_quiet : {A : Type 0} (r : ServerTurn) (made : ℕ → Type 0) (failed : Type 0) → OnAccess r made failed → ((x : ℕ) → made x → A) → IfReached r A
access_quiet More made failed t f = f t.0 t.1
access_quiet Ready made failed t f = f t.0 t.1
access_quiet Unlinked made failed t f = f t.0 t.1
access_quiet (Recycled old) made failed t f = f t.0 t.1
access_quiet (Full bound worn out) made failed t f = f t.0 t.1
access_quiet NoSlot made failed t f = f t.0 t.1
access_quiet Unreached made failed t f = tt

module _ (s n : ServerState) (r : ServerTurn) (made : Step → ℕ → Type 0) (failed still : Type 0) where
  -- what a want's step leaves
  pub want_leaves : {A : Type 0} (due : Due) → WantStep due s n r made failed still → ((b : ServerState) (x : ℕ) → made (server_step b) x → A) → (failed → A) → (still → A) → A
  want_leaves (Answers turn) t f g h = h t.0
  want_leaves Finishes t f g h = access_leaves r _ _ t.2 (λ x m. f t.0 x m.0) (λ m. g m.0)
  want_leaves (Sweeps slot) t f g h = access_leaves r _ _ t.2 (λ x m. f t.0 x m.0) (λ m. g m.0)
  want_leaves (Recycles slot) t f g h = access_leaves r _ _ t.2 (λ x m. f t.0 x m.0) (λ m. g m.0)
  want_leaves (Binds slot key) t f g h = access_leaves r _ _ t.2 (λ x m. f t.0 x m.0) (λ m. g m.0)

  pub want_quiet : {A : Type 0} (due : Due) → WantStep due s n r made failed still → ((b : ServerState) (x : ℕ) → made (server_step b) x → A) → (still → A) → IfReached r A
  want_quiet (Answers turn) t f h = if_reached r (h t.0)
  want_quiet Finishes t f h = access_quiet r _ _ t.2 (λ x m. f t.0 x m.0)
  want_quiet (Sweeps slot) t f h = access_quiet r _ _ t.2 (λ x m. f t.0 x m.0)
  want_quiet (Recycles slot) t f h = access_quiet r _ _ t.2 (λ x m. f t.0 x m.0)
  want_quiet (Binds slot key) t f h = access_quiet r _ _ t.2 (λ x m. f t.0 x m.0)

-- an answer that no access gives
abbrev pub IsIdle : ServerTurn → Type 0
IsIdle Ready = Unit {0}
IsIdle NoSlot = Unit {0}
IsIdle r = ⊥

-- no access that was made gives it
busy : (r : ServerTurn) → IsIdle r → (B : ℕ → Type 0) (C : Type 0) → OnAccess r B C → ((x : ℕ) → B x → ⊥) → ⊥
busy Ready i B C t f = f t.0 t.1
busy NoSlot i B C t f = f t.0 t.1
busy More i B C t f = i
busy Unlinked i B C t f = i
busy (Recycled old) i B C t f = i
busy (Full bound worn out) i B C t f = i
busy Unreached i B C t f = i

-- what the sweep answers is none of them
swept_busy : (m : ServerState) (t : ServerTurn) → IsIdle (swept_turn m t) → ⊥
swept_busy m More h = h
swept_busy m Ready h = h
swept_busy m Unlinked h = by (all_swept (swept_on m)) h
  where
    by : (full : Bool) → IsIdle (full_if full (swept_on m)) → ⊥
    by true h = h
    by false h = h
swept_busy m (Recycled old) h = h
swept_busy m (Full bound worn out) h = h
swept_busy m NoSlot h = h
swept_busy m Unreached h = h

-- a step that answers so makes no access: the answer was due, and the want has ended
pub idle_answers : (s n : ServerState) (r : ServerTurn) (made : Step → ℕ → Type 0) (failed still : Type 0) (due : Due) → IsIdle r → WantStep due s n r made failed still → (due ≡ Answers r) × (n ≡ ended s)
idle_answers s n r made failed still (Answers turn) idle t = (ap Answers (sym t.1), t.2)
idle_answers s n r made failed still Finishes idle t = absurd (busy r idle _ _ t.2 (λ x m. subst IsIdle m.2 idle))
idle_answers s n r made failed still (Sweeps slot) idle t = absurd (busy r idle _ _ t.2 (λ x m. swept_busy (went t.0 x) (answer_of t.0 x) (subst IsIdle m.2 idle)))
idle_answers s n r made failed still (Recycles slot) idle t = absurd (busy r idle _ _ t.2 (λ x m. subst IsIdle m.2 idle))
idle_answers s n r made failed still (Binds slot key) idle t = absurd (busy r idle _ _ t.2 (λ x m. subst IsIdle m.2 idle))

-- the answer that is due
abbrev answer_in : Due → ServerTurn
answer_in (Answers turn) = turn
answer_in due = More

-- a want of stock
module _ (s : ServerState) where
  abbrev IsFreeOf : Room → Type 0
  IsFreeOf HasRoom = Unit {0}
  IsFreeOf room = ⊥

  room_ready : (room : Room) → by_room s room (Answers Ready) ≡ Answers Ready → room ≡ HasRoom
  room_ready (Swept slot) e = absurd (let z : More ≡ Ready = ap answer_in e in cc)
  room_ready NoRoom e = absurd (let z : full_turn s ≡ Ready = ap answer_in e in cc)
  room_ready HasRoom e = refl

  stock_slot : (t : Option Unfinished) (room : Room) → or_finish t (by_room s room (Answers Ready)) ≡ Answers NoSlot → ⊥
  stock_slot None (Swept slot) e = let z : More ≡ NoSlot = ap answer_in e in cc
  stock_slot None NoRoom e = let z : full_turn s ≡ NoSlot = ap answer_in e in cc
  stock_slot None HasRoom e = let z : Ready ≡ NoSlot = ap answer_in e in cc
  stock_slot (Some u) room e = let z : More ≡ NoSlot = ap answer_in e in cc

module _ (s n : ServerState) (made : Step → ℕ → Type 0) (failed still : Type 0) where
  -- never tells of slots
  pub stock_has_slot : WantStep (stock_due s) s n NoSlot made failed still → ⊥
  stock_has_slot t = stock_slot s s.task (room_of s s.setup.batch) (idle_answers s n NoSlot made failed still (stock_due s) tt t).0

-- a want of a key's binding
module _ (s n : ServerState) (key : List ℕ) (made : Step → ℕ → Type 0) (failed still : Type 0) where
  room_idle : (slot : ℕ) (r : ServerTurn) (room : Room) → IsIdle r → by_room s room (Binds slot key) ≡ Answers r → ⊥
  room_idle slot r (Swept k) i e = subst IsIdle (let z : More ≡ r = ap answer_in e in sym z) i
  room_idle slot r NoRoom i e = subst IsIdle (let z : full_turn s ≡ r = ap answer_in e in sym z) i
  room_idle slot r HasRoom i e = subst IsIdle (let z : More ≡ r = ap answer_in e in sym z) i

  pub named_ready : (found free : Option ℕ) → s.task ≡ None → IsSlotOf key s.directory found → WantStep (named_due s key found free) s n Ready made failed still → IsNamed key n
  named_ready found free idle f t = by found free f (idle_answers s n Ready made failed still (named_due s key found free) tt t)
    where
      by : (found free : Option ℕ) → IsSlotOf key s.directory found → (named_due s key found free ≡ Answers Ready) × (n ≡ ended s) → IsNamed key n
      by (Some slot) free f q = subst (IsNamed key) (sym q.1) (record { idle = idle; ended = refl; slot = slot; bound = f.found })
      by None None f q = absurd (let z : NoSlot ≡ Ready = ap answer_in q.0 in cc)
      by None (Some slot) f q = absurd (room_idle slot Ready (room_of s 1) tt q.0)

  pub named_no_slot : (found free : Option ℕ) → IsSlotOf key s.directory found → IsLowestFree s.directory free → WantStep (named_due s key found free) s n NoSlot made failed still → HasNoSlot key n
  named_no_slot found free f l t = by found free f l (idle_answers s n NoSlot made failed still (named_due s key found free) tt t)
    where
      by : (found free : Option ℕ) → IsSlotOf key s.directory found → IsLowestFree s.directory free → (named_due s key found free ≡ Answers NoSlot) × (n ≡ ended s) → HasNoSlot key n
      by (Some slot) free f l q = absurd (let z : Ready ≡ NoSlot = ap answer_in q.0 in cc)
      by None None f l q = subst (HasNoSlot key) (sym q.1) (record { new = f.none.0 refl; all = l.none.0 refl })
      by None (Some slot) f l q = absurd (room_idle slot NoSlot (room_of s 1) tt q.0)

  -- a step that finishes a task tells of none of them
  pub finishes_idle : (r : ServerTurn) → IsIdle r → WantStep Finishes s n r made failed still → ⊥
  finishes_idle r i t = let z : More ≡ r = ap answer_in (idle_answers s n r made failed still Finishes i t).0 in subst IsIdle (sym z) i

-- what a whole call's refusal says, by its last step
pub unreached_so : {A B : Type 0} (r : ServerTurn) → (A → B) → IfUnreached r A → IfUnreached r B
unreached_so More f a = tt
unreached_so Ready f a = tt
unreached_so Unlinked f a = tt
unreached_so (Recycled old) f a = tt
unreached_so (Full bound worn out) f a = tt
unreached_so NoSlot f a = tt
unreached_so Unreached f a = f a

pub both_full : (r : ServerTurn) (F : ℕ → ℕ → ℕ → Type 0) (A : Type 0) → IfFull r F → ((bound worn out : ℕ) → r ≡ Full bound worn out → A) → IfFull r (λ bound worn out. F bound worn out × A)
both_full More F A f a = tt
both_full Ready F A f a = tt
both_full Unlinked F A f a = tt
both_full (Recycled old) F A f a = tt
both_full (Full bound worn out) F A f a = (f, a bound worn out refl)
both_full NoSlot F A f a = tt
both_full Unreached F A f a = tt

pub success : {U : Type 0} (end : Result U ServerRefusal) (r : ServerTurn) (A : Type 0) → r ≡ want_turn_of end → (r ≡ Ready → A) → OnOk end A
success (Ok u) r A e f = f e
success (Err x) r A e f = tt

pub refusal : {U : Type 0} (end : Result U ServerRefusal) (r : ServerTurn) (F : ℕ → ℕ → ℕ → Type 0) (N R : Type 0) → r ≡ want_turn_of end → IfFull r F → (r ≡ NoSlot → N) → IfUnreached r R → IfErr end (λ e. ByCause e F N R)
refusal (Ok u) r F N R e f n t = tt
refusal (Err (RefusedFull bound worn out)) r F N R e f n t = subst (λ (z : ServerTurn). IfFull z F) e f
refusal (Err RefusedNoSlot) r F N R e f n t = n e
refusal (Err RefusedUnreached) r F N R e f n t = subst (λ (z : ServerTurn). IfUnreached z R) e t

-- what the access of a sweep leaves of the bindings
swept_list : (s : ServerState) (slot : ℕ) (root : TagParts) (x : ℕ) → (went (sweeping (recycling s slot root)) x).directory.list ≡ s.directory.list
swept_list s slot root x = by _ (answer_to (made_task slot root) x) refl
  where
    by : (m : ServerState) (t : RecycleTurn) → m.directory.list ≡ s.directory.list → (taken_in m (recycle_outcome slot t)).directory.list ≡ s.directory.list
    by m MoreOf e = e
    by m UnlinkedOf e = e
    by m (RecycledOf old root) e = e
    by m UnreachedOf e = e

after_list : (m : ServerState) (t : ServerTurn) → (swept m t).directory.list ≡ m.directory.list
after_list m More = refl
after_list m Ready = refl
after_list m Unlinked = by (all_swept (swept_on m))
  where
    by : (full : Bool) → (ended_if full (swept_on m)).directory.list ≡ m.directory.list
    by true = refl
    by false = refl
after_list m (Recycled old) = refl
after_list m (Full bound worn out) = refl
after_list m NoSlot = refl
after_list m Unreached = refl

-- a step of a want of a key's binding
module _ {Q : Type 0} (key : List ℕ) (made : Making Q) (failed : Failing Q) (a b : Moment Q) where
  abbrev On : Due → ServerTurn → Type 0
  On due r = WantStep due a.server b.server r (λ s x. made a.port s false x b.port) (failed a.port b.port) (b.port ≡ a.port)

  abbrev Idle : ServerTurn → Type 0
  Idle r = (found free : Option ℕ) × IsSlotOf key a.server.directory found × IsLowestFree a.server.directory free × On (named_due a.server key found free) r

  -- it finishes a task, or nothing is unfinished
  either : {A : Type 0} (r : ServerTurn) → NamedStep key made failed a b r → (On Finishes r → A) → (a.server.task ≡ None → Idle r → A) → A
  either {A = A} r t f g = by a.server.task refl
    where
      by : (u : Option Unfinished) → a.server.task ≡ u → A
      by None e = g e (t.1 e)
      by (Some u) e = f (t.0 (ap is_some e))

  pub named_leaves : {A : Type 0} (r : ServerTurn) → NamedStep key made failed a b r → ((m : ServerState) (x : ℕ) → made a.port (server_step m) false x b.port → A) → (failed a.port b.port → A) → (b.port ≡ a.port → A) → A
  named_leaves r t f g h = either r t
      (λ w. want_leaves a.server b.server r (λ s x. made a.port s false x b.port) (failed a.port b.port) (b.port ≡ a.port) Finishes w f g h)
      (λ e w. want_leaves a.server b.server r (λ s x. made a.port s false x b.port) (failed a.port b.port) (b.port ≡ a.port) (named_due a.server key w.0 w.1) w.4 f g h)

  pub named_quiet : {A : Type 0} (r : ServerTurn) → NamedStep key made failed a b r → ((m : ServerState) (x : ℕ) → made a.port (server_step m) false x b.port → A) → (b.port ≡ a.port → A) → IfReached r A
  named_quiet r t f h = either r t
      (λ w. want_quiet a.server b.server r (λ s x. made a.port s false x b.port) (failed a.port b.port) (b.port ≡ a.port) Finishes w f h)
      (λ e w. want_quiet a.server b.server r (λ s x. made a.port s false x b.port) (failed a.port b.port) (b.port ≡ a.port) (named_due a.server key w.0 w.1) w.4 f h)

  pub names : NamedStep key made failed a b Ready → IsNamed key b.server
  names t = either Ready t
      (λ w. absurd (finishes_idle a.server b.server key (λ s x. made a.port s false x b.port) (failed a.port b.port) (b.port ≡ a.port) Ready tt w))
      (λ e w. named_ready a.server b.server key (λ s x. made a.port s false x b.port) (failed a.port b.port) (b.port ≡ a.port) w.0 w.1 e w.2 w.4)

  pub has_no_slot : NamedStep key made failed a b NoSlot → HasNoSlot key b.server
  has_no_slot t = either NoSlot t
      (λ w. absurd (finishes_idle a.server b.server key (λ s x. made a.port s false x b.port) (failed a.port b.port) (b.port ≡ a.port) NoSlot tt w))
      (λ e w. named_no_slot a.server b.server key (λ s x. made a.port s false x b.port) (failed a.port b.port) (b.port ≡ a.port) w.0 w.1 w.2 w.3 w.4)

  -- and is full only for a key that is not bound
  pub full_new : (bound worn out : ℕ) → NamedStep key made failed a b (Full bound worn out) → IsNew key b.server.directory.list
  full_new bound worn out t = either (Full bound worn out) t
      (λ w. absurd (let z : Full bound worn out ≡ More = w.2.1.2 in cc))
      (λ e w. by w.0 w.1 w.2 w.4)
    where
      room : (slot : ℕ) (m : Room) → IsNew key a.server.directory.list → On (by_room a.server m (Binds slot key)) (Full bound worn out) → IsNew key b.server.directory.list
      room slot (Swept k) f w = subst (IsNew key) (sym (ap (λ (z : ServerState). z.directory.list) w.2.1.1 ∙ after_list (went w.0 w.2.0) (answer_of w.0 w.2.0) ∙ ap (λ (z : ServerState). (went z w.2.0).directory.list) w.1.2 ∙ swept_list a.server k w.1.0 w.2.0)) f
      room slot NoRoom f w = subst (λ (z : ServerState). IsNew key z.directory.list) (sym w.2) f
      room slot HasRoom f w = absurd (let z : Full bound worn out ≡ More = w.2.1.2 in cc)

      by : (found free : Option ℕ) → IsSlotOf key a.server.directory found → On (named_due a.server key found free) (Full bound worn out) → IsNew key b.server.directory.list
      by (Some slot) free f w = absurd (let z : Full bound worn out ≡ Ready = w.1 in cc)
      by None None f w = absurd (let z : Full bound worn out ≡ NoSlot = w.1 in cc)
      by None (Some slot) f w = room slot (room_of a.server 1) (f.none.0 refl) w
