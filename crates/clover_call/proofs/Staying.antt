-- What an access leaves of the call under way: the same call where it goes on; and what its step was, by the turn.
use Rattle.std.proofs.Common.{◌≡◌, ◌≢◌, ℕ, ◌==◌, List, ◌∷◌, Bool, true, false, cond, refl, sym, ap, ◌∙◌, inl, inr, subst, arith, eq-eqb}
use Rattle.std.specs.Prelude.{◌⊎◌, Option, Some, None}
use Rattle.clover_words.specs.declared.bytes.ValueBuf.{ValueBuf}
use Rattle.clover_words.specs.declared.pool.Pool.{Pool}
use Rattle.clover_words.specs.Version.{unlinked}
use Rattle.clover_map.specs.declared.call.Call.TheVariants.{Get as GetOf}
use Rattle.clover_map.specs.declared.call.Entry.{Entry}
use Rattle.clover_rule.specs.Memory.{Next, word}
use Rattle.clover_rule.specs.Knowing.{link_view}
use Rattle.clover_rule.specs.Learned.{decided, learned, next_view, rest_of, seen, started, turn_of}
use Rattle.clover_rule.specs.Steps.{Step, LoadNext, DecideNext, RaiseNext, LinkNext, StoreContent, FlushContent, LoadContent, ReadRoot, ReadShort, StoreShort, client, reply_of}
use Rattle.clover_rule.specs.Words.{next_of, root_of}
use Rattle.clover_rule.specs.declared.view.View.{View}
use Rattle.clover_port.specs.Told.{Open, Made}
use Rattle.clover_cache.specs.Node.{Known}
use Rattle.clover_walk.specs.Ending.{Commits}
use Rattle.clover_walk.specs.Walking.{Walking, Stand, Holds, AtShort as ToShort, AtRoot, AtTag, AtLink as OnLink, OnTail, Ended, step_at, goes_on, budget, key_at}
use Rattle.clover_walk.proofs.Endings.{stepped}
use Rattle.clover_get.specs.Getting.{Getting, Stage as GetStage, Seeking as GetSeeking, AtMeta as GetMeta, AtValue, AtFound, AtDead, AtBad as GetBad, Over as GetOver, step_from, GoesOn as GetGoesOn}
use Rattle.clover_get.specs.Going.{key_of}
use Rattle.clover_get.specs.Holding.{GetHolds}
use Rattle.clover_put.specs.Answering.{IsBehind}
use Rattle.clover_put.specs.Holding.{PutHolds, Fills}
use Rattle.clover_put.specs.Putting.{Putting, Stage, Storing, Flushing, Seeking, AtMeta, AtLink, Deciding, AtBad, AtRaise, AtShort, Over, call_of, put_step, put_on, staged, walked, unless_left}
use Rattle.clover_call.specs.Going.{GoesOn, IsQuiet, IsSameCall, Stays, Turns, Went}
use Rattle.clover_call.specs.Caller.{CallHolds, HasCommitted, IsUncommitted, is_first, new_tag, next_step, slot_of, call_under}
use Rattle.clover_call.specs.Turning.{OnMade, left_by, reply_in}
use Rattle.clover_call.specs.declared.answer.Answer.{Answer}
use Rattle.clover_call.specs.declared.answer.CallerRefusal.TheVariants.{Unreached, Behind, Linked, TooLong}
use Rattle.clover_call.specs.declared.answer.CallerTurn.{CallerTurn}
use Rattle.clover_call.specs.declared.answer.CallerTurn.TheVariants.{More, Decided, Done, Refused}
use Rattle.clover_call.specs.declared.under.Underway.{Underway}
use Rattle.clover_call.specs.declared.under.Underway.TheVariants.{Nothing, Get, Write}
use Rattle.clover_put.proofs.Sides.{early, behind_at}
use Rattle.clover_call.proofs.GetGoes.{Misses as GetMisses, goes, going_misses, turn_misses, holding_open}
use Rattle.clover_call.proofs.PutCalls.{before_short}
use Rattle.clover_call.proofs.PutGoes.{Misses, same_call, before_misses}
use Rattle.clover_call.proofs.Walks.{on_walk}

-- each step of a walk is quiet
walk_quiet : (s : ℕ) (at : Stand) (x : ℕ) → IsQuiet (step_at s at) x
walk_quiet s ToShort x = tt
walk_quiet s AtRoot x = tt
walk_quiet s (AtTag t) x = tt
walk_quiet s (OnLink t u) x = tt
walk_quiet s (OnTail t) x = tt
walk_quiet s Ended x = tt

get_quiet : (s : GetStage) (w : Walking) (k : List ℕ) (into : ValueBuf) (x : ℕ) → GetMisses s x → IsQuiet (step_from s w k into) x
get_quiet GetSeeking w k into x m = walk_quiet w.slot w.stand x
get_quiet (GetMeta t) w k into x m = tt
get_quiet (AtValue t f j) w k into x m = tt
get_quiet (AtFound t f) w k into x m = m
get_quiet (AtDead t) w k into x m = m
get_quiet (GetBad t) w k into x m = tt
get_quiet GetOver w k into x m = walk_quiet w.slot w.stand x

put_quiet : (s : Stage) (c : Putting) (u : View) (x : ℕ) → Misses s x → (s ≡ AtShort → ⊥) → IsQuiet (put_step (record c { stage = s }) u) x
put_quiet (Storing j) c u x m on = tt
put_quiet (Flushing j) c u x m on = tt
put_quiet Seeking c u x m on = walk_quiet c.walk.slot c.walk.stand x
put_quiet (AtMeta t) c u x m on = tt
put_quiet (AtLink t) c u x m on = m
put_quiet (Deciding t y) c u x m on = m
put_quiet (AtBad t) c u x m on = tt
put_quiet (AtRaise t) c u x m on = tt
put_quiet AtShort c u x m on = absurd (on refl)
put_quiet Over c u x m on = walk_quiet c.walk.slot c.walk.stand x

-- and so is a step that made a turn
turn_quiet : (a : Step) (x : ℕ) → turn_of a x ≢ 0 → IsQuiet a x
turn_quiet (LoadNext s t) x h = tt
turn_quiet (DecideNext s t c r) x h = turn_misses (x == unlinked t) _ refl h
turn_quiet (LinkNext s t u c) x h = turn_misses (x == unlinked t) _ refl h
turn_quiet a x h = absurd (h refl)

stock_seen : (s t : ℕ) (v : View) (k : Next) → (seen s t v k).pass.stock ≡ v.pass.stock
stock_seen s t v (word a None) = refl
stock_seen s t v (word a (Some u)) = refl

stock_started : (s : ℕ) (v : View) (o : Option ℕ) → (started s v o).pass.stock ≡ v.pass.stock
stock_started s v None = refl
stock_started s v (Some t) = refl

-- it takes nothing from the stock
quiet_stock : (a : Step) (h : List Entry) (v : View) (x : ℕ) → IsQuiet a x → (learned a h v x).pass.stock ≡ v.pass.stock
quiet_stock (LoadNext s t) h v x q = stock_seen s t v (next_of x)
quiet_stock (ReadRoot s) h v x q = stock_started s v (root_of x)
quiet_stock (ReadShort s) h v x q = stock_started s v (root_of x)
quiet_stock (DecideNext s t c r) h v x q = ap (λ (k : Bool). (cond k (decided v h t c r) (seen s t v (next_of x))).pass.stock) q ∙ stock_seen s t v (next_of x)
quiet_stock (LinkNext s t u c) h v x q = ap (λ (k : Bool). (cond k (link_view v h (client v) s t u c (reply_of u c) (rest_of v.pass.stock)) (seen s t v (next_of x))).pass.stock) q ∙ stock_seen s t v (next_of x)
quiet_stock (RaiseNext l) h v x q = refl
quiet_stock (LoadContent s t j) h v x q = refl
quiet_stock (StoreContent t j y) h v x q = refl
quiet_stock (FlushContent t j y) h v x q = refl
quiet_stock a h v x q = absurd q

walked_later : (c : Putting) (x : ℕ) → c.walk.first ≡ false → (walked c (goes_on c.walk x)).walk.first ≡ false
walked_later c x e = (on_walk c.walk.stand c.walk x).first (λ q. e)

left_later : (c : Putting) (u : ℕ) (at : Stage) (x : ℕ) → c.walk.first ≡ false → (unless_left c u at x).walk.first ≡ false
left_later c u at x e = go (x == unlinked u)
  where
    go : (b : Bool) → (cond b (staged c at) (walked c (goes_on c.walk x))).walk.first ≡ false
    go true = e
    go false = walked_later c x e

-- a call that writes has made an access behind one
on_later : (s : Stage) (c : Putting) (v : View) (x : ℕ) → Fills s c v → (put_on (record c { stage = s }) x).walk.first ≡ false
on_later (Storing j) c v x f = refl
on_later (Flushing j) c v x f = refl
on_later Seeking c v x f = walked_later c x f.1
on_later (AtMeta u) c v x f = f.1
on_later (AtLink u) c v x f = left_later c u (AtRaise u) x f.1
on_later (Deciding u y) c v x f = left_later c u Over x f.1
on_later (AtBad u) c v x f = walked_later c x f.1
on_later (AtRaise u) c v x f = f
on_later AtShort c v x f = f
on_later Over c v x f = absurd f

-- one behind its exchange is to raise its link where it goes on
pub raises_at : (c : Putting) (n : ℕ) → IsBehind c.stage → IsBehind (put_on c n).stage → (u : ℕ) × (c.stage ≡ AtRaise u)
raises_at c n b on = behind_at c.stage b (λ u e. (u, e)) (λ e. absurd (subst (λ (s : Stage). IsBehind (put_on (record c { stage = s }) n).stage) e on))

-- and to store its shortcut where it ends
pub shortens_at : (c : Putting) (n : ℕ) → IsBehind c.stage → (put_on c n).stage ≡ Over → c.stage ≡ AtShort
shortens_at c n b over = behind_at c.stage b (λ u e. let z : AtShort ≡ Over = ap (λ (s : Stage). (put_on (record c { stage = s }) n).stage) (sym e) ∙ over in cc) (λ e. e)

module _ (p : Pool) (v : View) (o : Option Open) (n : ℕ) (w : View) (o1 : Option Open) (room room1 : ValueBuf) where
  same_get : (g g1 : Getting) → w.pass.names ≡ v.pass.names → GetHolds g v room → GetGoesOn g room1.length n g1 → IsSameCall (Get g) v (Get g1) w
  same_get g g1 names h go = let s = goes g.stage g.walk v room room1.length n g1 h.stage go in record { call = λ i. GetOf (key_at (names i) (s.slot i)); tag = refl; later = s.first }

  same_put : (c : Putting) → w.pass.names ≡ v.pass.names → PutHolds c v → IsSameCall (Write c) v (Write (put_on c n)) w
  same_put c names h = let s = same_call c n in record { call = λ i. call_of (s.job i) (key_at (names i) (s.slot i)) (s.value i); tag = s.own; later = on_later c.stage c v n h.fills }

  -- the call goes on as it was
  same_on : (r : CallerTurn) → ((u : Underway) → left_by r u ≡ u) → (x y : Underway) → w.pass.names ≡ v.pass.names → CallHolds p x v room → GoesOn x room n r y room1 → IsSameCall x v y w
  same_on r left Nothing y names held go = absurd go
  same_on r left (Get g) y names held go = subst (λ (u : Underway). IsSameCall (Get g) v u w) (sym (go.3 ∙ left (Get go.0))) (same_get g go.0 names held.1 go.1)
  same_on r left (Write c) y names held go = subst (λ (u : Underway). IsSameCall (Write c) v u w) (sym (go.0 ∙ left (Write (put_on c n)))) (same_put c names held.1)

  -- its step was quiet
  more_quiet : (x y : Underway) → CallHolds p y w room1 → GoesOn x room n More y room1 → Turns More x y → IsQuiet (next_step x v room) n
  more_quiet Nothing y kept go turns = absurd go
  more_quiet (Get g) y kept go turns =
      let on : CallHolds p (Get go.0) w room1 = subst (λ (u : Underway). CallHolds p u w room1) go.3 kept in
      get_quiet g.stage g.walk (key_of g v) room n (going_misses g.stage g.walk room1.length n go.0 go.1 (holding_open go.0.stage go.0.walk w room1 on.1.stage))
  more_quiet (Write c) y kept go (inl b) = put_quiet c.stage c v n (before_misses c n (subst IsUncommitted go.0 b.1)) (before_short c.stage b.0)
  more_quiet (Write c) y kept go (inr b) =
      let (u, e) = raises_at c n b.0 (subst HasCommitted go.0 b.1) in
      put_quiet c.stage c v n (subst (λ (s : Stage). Misses s n) (sym e) tt) (λ f. let z : AtRaise u ≡ AtShort = sym e ∙ f in cc)

  -- the turns of a call reach the budget by a turn
  walk_turns : (t : Walking) (a : Step) → t.pool ≡ p → Holds t v → Made p a t.first v o n w o1 → w.pass.turns ≡ budget p → turn_of a n ≢ 0
  walk_turns t a of h made all =
      let s = (stepped p a t.first v o n w o1 made).turns in
      let same : budget t.pool ≡ budget p = ap budget of in
      let few = h.below in
      let counted = h.turns in
      λ z. omega arith

  pub turned : (x : Underway) → x ≢ Nothing → CallHolds p x v room → Made p (next_step x v room) (is_first x) v o n w o1 → w.pass.turns ≡ budget p → turn_of (next_step x v room) n ≢ 0
  turned Nothing busy held made all = absurd (busy refl)
  turned (Get g) busy held made all = walk_turns g.walk (next_step (Get g) v room) held.0 held.1.walk made all
  turned (Write c) busy held made all = walk_turns c.walk (next_step (Write c) v room) held.0 held.1.walk made all

  -- the new tag leaves the stock where it is committed
  stock_goes : (x y : Underway) (c : _) → CallHolds p x v room → GoesOn x room n (Decided c) y room1 → IsUncommitted x → HasCommitted y → Commits p (call_under x v) (new_tag x) v o w o1 → v.pass.stock ≡ new_tag x ∷ w.pass.stock
  stock_goes Nothing y a held go b h e = absurd go
  stock_goes (Get g) y a held go b h e = absurd (subst HasCommitted go.3 h)
  stock_goes (Write c) y a held go b h e =
      let own = (early c.stage b).owns c v held.1.owns in
      let m = e.made in
      let left : w.pass.stock ≡ rest_of v.pass.stock = ap (λ (z : View). z.pass.stock) m.told.next
      ∙ ap (λ (k : Bool). (cond k (link_view v m.now.history (client v) e.slot e.tail c.own (call_under (Write c) v) (reply_of c.own (call_under (Write c) v)) (rest_of v.pass.stock)) (seen e.slot e.tail v (next_of (unlinked e.tail)))).pass.stock) (eq-eqb (unlinked e.tail) (unlinked e.tail) refl) in
      own.1 ∙ ap (λ (l : List ℕ). c.own ∷ l) (sym (left ∙ ap rest_of own.1))

  -- a call that has committed ends by the store of its shortcut
  done_short : (x y : Underway) (a : _) → GoesOn x room n (Done a) y room1 → HasCommitted x → next_step x v room ≡ StoreShort (slot_of x) (new_tag x)
  done_short Nothing y a go h = absurd go
  done_short (Get g) y a go h = absurd h
  done_short (Write c) y a go h = ap (λ (s : Stage). put_step (record c { stage = s }) v) (shortens_at c n h go.2)

  -- nor does the load that ends a call at its tail
  done_stock : (x y : Underway) (k k1 : Known) (a : Answer) → Made p (next_step x v room) (is_first x) v o n w o1 → GoesOn x room n (Done a) y room1 → Went p x y k k1 room1 v o w o1 (Done a) → IsUncommitted x ⊎ HasCommitted x → w.pass.stock ≡ v.pass.stock
  done_stock x y k k1 a made go g (inl before) =
      let e = (g.done.1.tail before).0 in
      ap (λ (z : View). z.pass.stock) e.made.told.next
      ∙ ap (λ (b : Bool). (cond b (decided v e.made.now.history e.tag (call_under x v) (reply_in a room1)) (seen e.slot e.tag v (next_of (unlinked e.tag)))).pass.stock) (eq-eqb (unlinked e.tag) (unlinked e.tag) refl)
  done_stock x y k k1 a made go g (inr behind) = ap (λ (z : View). z.pass.stock) made.told.next ∙ ap (λ (b : Step). (next_view (is_first x) b made.now.history v n).pass.stock) (done_short x y a go behind)

  quiet_so : (x : Underway) → Made p (next_step x v room) (is_first x) v o n w o1 → IsQuiet (next_step x v room) n → w.pass.stock ≡ v.pass.stock
  quiet_so x made quiet = ap (λ (z : View). z.pass.stock) made.told.next ∙ quiet_stock (next_step x v room) made.now.history v n quiet

  pub stays : (x y : Underway) (k k1 : Known) (r : CallerTurn) → CallHolds p x v room → Made p (next_step x v room) (is_first x) v o n w o1 → GoesOn x room n r y room1 → Went p x y k k1 room1 v o w o1 r → OnMade r (Stays x v (next_step x v room) n y w r)
  stays x y k k1 More held made go g =
      let quiet = more_quiet x y g.holds go g.turns in
      record { same = same_on More (λ u. refl) x y (stepped p _ _ v o n w o1 made).names held go; quiet = quiet; stock = quiet_so x made quiet; shortens = tt }
  stays x y k k1 (Decided a) held made go g = record { same = same_on (Decided a) (λ u. refl) x y (stepped p _ _ v o n w o1 made).names held go; quiet = tt; stock = stock_goes x y a held go g.turns.0 g.turns.1 g.decided.0; shortens = tt }
  stays x y k k1 (Done a) held made go g = record { same = tt; quiet = tt; stock = done_stock x y k k1 a made go g g.turns.0; shortens = done_short x y a go }
  stays x y k k1 (Refused Unreached) held made go g = tt
  stays x y k k1 (Refused (Behind turns)) held made go g =
      let quiet = turn_quiet (next_step x v room) n (turned x (λ e. subst IsUncommitted e g.turns.0) held made g.behind.1) in
      record { same = tt; quiet = quiet; stock = quiet_so x made quiet; shortens = tt }
  stays x y k k1 (Refused (Linked t)) held made go g = tt
  stays x y k k1 (Refused (TooLong length room)) held made go g = absurd g.turns

-- what is said where the access was made, with what it leaves
pub stays_too : {A B C : ℕ → Type 0} (r : CallerTurn) (D : ℕ → Type 0) → OnMade r ((x : ℕ) × A x × B x × C x) → ((m : (x : ℕ) × A x × B x × C x) → OnMade r (D m.0)) → OnMade r ((x : ℕ) × A x × B x × C x × D x)
stays_too More D m f = (m.0, m.1, m.2, m.3, f m)
stays_too (Decided t) D m f = (m.0, m.1, m.2, m.3, f m)
stays_too (Done t) D m f = (m.0, m.1, m.2, m.3, f m)
stays_too (Refused Unreached) D m f = tt
stays_too (Refused (Behind turns)) D m f = (m.0, m.1, m.2, m.3, f m)
stays_too (Refused (Linked t)) D m f = tt
stays_too (Refused (TooLong length room)) D m f = (m.0, m.1, m.2, m.3, f m)
