-- Stores of a restart: none, the next one, some behind others, and so many of a list.
use Rattle.std.proofs.Common.{◌≡◌, ◌≢◌, ℕ, zero, suc, ◌+◌, ◌≤◌, ◌<◌, ◌&&◌, List, [], ◌∷◌, ◌++◌, length, length-append, take, drop, Bool, true, false, cond, append-nil, refl, sym, ap, ◌∙◌, subst, arith}
use Rattle.std.specs.Prelude.{map, nat_lt, IfOk, Result, Ok, Err}
use Rattle.std.proofs.lemmas.Bool.{lt-ltb, le-ltb}
use Rattle.std.proofs.lemmas.List.{append_assoc, append_cancel_left, map-append, take-append-drop}
use Rattle.clover_list.specs.declared.memory.OutOfMemory.{OutOfMemory}
use Rattle.clover_words.specs.declared.pool.Pool.{Pool}
use Rattle.clover_words.specs.declared.setup.Setup.{Setup}
use Rattle.clover_rule.specs.Learned.{words_after_step}
use Rattle.clover_rule.specs.Restart.{words_after_stores}
use Rattle.clover_rule.specs.Steps.{Restart, act_of}
use Rattle.clover_rule.specs.declared.access.Access.{Access}
use Rattle.clover_rule.specs.declared.access.Actor.TheVariants.{Client, Server, Restart as RestartActor}
use Rattle.clover_rule.specs.declared.view.RestartStore.{RestartStore}
use Rattle.clover_rule.specs.declared.view.RestartStore.TheVariants.{ClearRoot, ClearFlushedRoot, Lift, LiftFlushed, SetCount}
use Rattle.clover_port.specs.declared.Failed.{Failed}
use Rattle.clover_plain.specs.Plain.{IsDown, Kept, Plain, Stepped, access, actor_at, counted, grown, history, restart_view, view_at}
use Rattle.clover_plain.specs.Ports.{MadeBy}
use Rattle.clover_plain.specs.declared.port.PlainPort.{PlainPort}
use Rattle.clover_plain.proofs.Resting.{down_history}
use Rattle.clover_restart.specs.Going.{OnEnd, OnStored, Stored}
use Rattle.clover_restart.specs.Restart.{RestartState}
use Rattle.clover_restart.specs.UnderWay.{IsRestarting, IsUnderWay}
use Rattle.clover_restart.proofs.UnderWaySteps.{way_goes_on}
use Rattle.clover_sched.specs.Outages.{store_access}
use Rattle.clover_sched.specs.Stores.{AreLeft, Stores}

-- words after some stores and more
pub words_behind : (p : Pool) (ws : List ℕ) (xs ys : List RestartStore) → words_after_stores p (words_after_stores p ws xs) ys ≡ words_after_stores p ws (xs ++ ys)
words_behind p ws [] ys = refl
words_behind p ws (x ∷ xs) ys = words_behind p (words_after_step p (Restart x) ws) xs ys

-- accesses that are listed, none, and some and more
listed_none : (b : Bool) (es : List Access) → es ≡ cond b (es ++ []) es
listed_none true es = sym (append-nil es)
listed_none false es = refl

listed_more : (b : Bool) (es bs ds : List Access) → cond b (cond b (es ++ bs) es ++ ds) (cond b (es ++ bs) es) ≡ cond b (es ++ (bs ++ ds)) es
listed_more true es bs ds = append_assoc es bs ds
listed_more false es bs ds = refl

listed_one : (b : Bool) (es : List Access) (x : Access) → grown (b && true) es x ≡ cond b (es ++ x ∷ []) es
listed_one true es x = refl
listed_one false es x = refl

-- a list with a condition that holds
and_true : (b : Bool) → (b && true) ≡ b
and_true true = refl
and_true false = refl

-- counts that stand still at their type's end
counted_none : (m n : ℕ) → m ≡ counted n → m ≡ counted (m + 0)
counted_none m n e = omega (arith, e)

counted_more : (n i j : ℕ) → counted (counted (n + i) + j) ≡ counted (n + (i + j))
counted_more n i j = omega arith

-- the access of a store, whatever number it found
store_is : (x : RestartStore) (y : ℕ) → act_of (Restart x) y ≡ act_of (Restart x) 0
store_is (ClearRoot s) y = refl
store_is (ClearFlushedRoot s) y = refl
store_is (Lift b g) y = refl
store_is (LiftFlushed b g) y = refl
store_is (SetCount n) y = refl

-- behind the clients and the server sits restart
restart_sits : (s : Setup) → actor_at s (suc s.clients) ≡ RestartActor
restart_sits s = (λ i. cond (le-ltb (suc s.clients) s.clients (omega arith) i) (Client (suc (suc s.clients))) (cond (nat_lt s.clients (suc s.clients)) RestartActor Server)) ∙ ap (λ (b : Bool). cond b RestartActor Server) (lt-ltb s.clients (suc s.clients) (omega arith))

access_is : (s : Setup) (seat : ℕ) (x : RestartStore) (y : ℕ) → seat ≡ suc s.clients → access s seat (act_of (Restart x) y) false ≡ store_access x
access_is s seat x y at = λ i. record { actor = (ap (actor_at s) at ∙ restart_sits s) i; act = store_is x y i; refused = false }

-- a pool that is down has entered each entry of its history, since there is none
pub entered : (p q : Plain) → IsDown p → Kept p q → q.entries ≡ history q
entered p q d k = k.entries ∙ d.entries ∙ sym (down_history p d) ∙ (λ i. history (record p { views = sym k.views i; absent = sym k.absent i }))

-- no store was made
pub none_made : (p q : Plain) (r : RestartState) → AreLeft p r → IsDown p → Kept p q → Stores p r [] q r
none_made p q r a d k = record {
  front = refl;
  restart = refl;
  left = record {
    down = k.opened ∙ a.down;
    pool = a.pool ∙ ap (λ (s : Setup). s.pool) (sym k.setup);
    plan = (λ i. (restart_view (record p { setup = k.setup i; views = k.views i })).plan) ∙ a.plan;
  };
  words = k.words;
  accesses = k.accesses ∙ listed_none p.traced p.accesses;
  count = k.made ∙ counted_none p.made _ d.story.2.count;
  whole = k.whole;
  setup = k.setup;
  first = k.first;
  used = k.used;
  start = k.start;
  absent = k.absent;
  entries = k.entries;
  traced = k.traced;
}

-- no store was made yet
pub at_first : (p : Plain) (r : RestartState) → AreLeft p r → IsDown p → Stores p r [] p r
at_first p r a d = none_made p p r a d (record { words = refl; views = refl; accesses = refl; made = refl; whole = refl; setup = refl; first = refl; used = refl; start = refl; absent = refl; entries = refl; traced = refl; opened = refl })

-- more stores were made behind some
pub more_made : (p q o : Plain) (r n m : RestartState) (xs ys : List RestartStore) → Stores p r xs q n → Stores q n ys o m → Stores p r (xs ++ ys) o m
more_made p q o r n m xs ys a b = record {
  front = a.front ∙ ap (λ (l : List RestartStore). xs ++ l) b.front ∙ sym (append_assoc xs ys m.rest);
  restart = b.restart ∙ ap (λ (z : RestartState). record z { rest = m.rest }) a.restart;
  left = b.left;
  words = b.words ∙ (λ i. words_after_stores (a.setup i).pool (a.words i) ys) ∙ words_behind p.setup.pool p.words xs ys;
  accesses = b.accesses ∙ (λ i. cond (a.traced i) (a.accesses i ++ map store_access ys) (a.accesses i)) ∙ listed_more p.traced p.accesses (map store_access xs) (map store_access ys)
      ∙ ap (λ (l : List Access). cond p.traced (p.accesses ++ l) p.accesses) (sym (map-append store_access xs ys));
  count = b.count ∙ ap (λ (z : ℕ). counted (z + length ys)) a.count ∙ counted_more p.made (length xs) (length ys) ∙ ap (λ (z : ℕ). counted (p.made + z)) (sym (length-append xs ys));
  whole = b.whole ∙ a.whole;
  setup = b.setup ∙ a.setup;
  first = b.first ∙ a.first;
  used = b.used ∙ a.used;
  start = b.start ∙ a.start;
  absent = b.absent ∙ a.absent;
  entries = b.entries ∙ a.entries;
  traced = b.traced ∙ a.traced;
}

-- the next store was made
one_made : (p q : Plain) (seat y : ℕ) (r n : RestartState) (x : RestartStore) (others : List RestartStore) → AreLeft p r → seat ≡ suc p.setup.clients → r.rest ≡ x ∷ others → Stepped (Restart x) false true seat y p q → n ≡ record r { rest = others } → (view_at q seat).plan ≡ n.rest → Stores p r (x ∷ []) q n
one_made p q seat y r n x others a at first st left plan = record {
  front = first ∙ ap (λ (z : RestartState). x ∷ z.rest) (sym left);
  restart = left ∙ ap (λ (z : RestartState). record r { rest = z.rest }) (sym left);
  left = record {
    down = st.same.opened ∙ a.down;
    pool = ap (λ (z : RestartState). z.pool) left ∙ a.pool ∙ ap (λ (s : Setup). s.pool) (sym st.same.setup);
    plan = ap (λ (i : ℕ). (view_at q i).plan) (ap (λ (s : Setup). suc s.clients) st.same.setup ∙ sym at) ∙ plan;
  };
  words = st.words;
  accesses = st.accesses ∙ ap (grown (p.traced && true) p.accesses) (access_is p.setup seat x y at) ∙ listed_one p.traced p.accesses (store_access x);
  count = st.made;
  whole = st.whole ∙ and_true p.whole;
  setup = st.same.setup;
  first = st.same.first;
  used = st.same.used;
  start = st.same.start;
  absent = st.same.absent;
  entries = st.same.entries;
  traced = st.same.traced;
}

-- restart was to make its next store, over a pool as this one, and made it or had none left
pub next_made : (o : Plain) (p q : PlainPort) (r n : RestartState) (b : Bool) → AreLeft o r → IsDown o → Kept o p.pool.now → p.seat ≡ suc p.pool.now.setup.clients → p.list ≡ true → OnStored {E = Failed} (Ok b) (Stored p.pool.now.setup.pool r (λ x. (y : ℕ) × MadeBy p (Restart x) false y q) n (view_at q.pool.now q.seat))
    → OnEnd {E = Failed} (Ok b) ((r.rest ≡ []) × (n ≡ r) × (q ≡ p)) → Stores o r (take 1 r.rest) q.pool.now n
next_made o p q r n true a d k at list s e =
    let made = s.made.1 in
    let none = none_made o p.pool.now r a d k in
    let stepped = subst (λ (l : Bool). Stepped (Restart s.store) false l p.seat s.made.0 p.pool.now q.pool.now) list made.0 in
    let one = one_made p.pool.now q.pool.now p.seat s.made.0 r n s.store s.others none.left at s.first stepped s.left (ap (λ (i : ℕ). (view_at q.pool.now i).plan) (sym made.2) ∙ s.holds.plan) in
    subst (λ (l : List RestartStore). Stores o r (take 1 l) q.pool.now n) (sym s.first) (more_made o p.pool.now q.pool.now r r n [] (s.store ∷ []) none one)
next_made o p q r n false a d k at list s e =
    subst (λ (l : List RestartStore). Stores o r (take 1 l) q.pool.now n) (sym e.0)
    (subst (λ (z : PlainPort × RestartState). Stores o r [] z.0.pool.now z.1) (λ i. (sym e.2 i, sym e.1 i)) (none_made o p.pool.now r a d k))

-- so many of a list and the next one, and so many where there are fewer
take_next : (xs : List RestartStore) (i : ℕ) → take i xs ++ take 1 (drop i xs) ≡ take (suc i) xs
take_next [] zero = refl
take_next [] (suc i) = refl
take_next (x ∷ xs) zero = refl
take_next (x ∷ xs) (suc i) = ap (λ (l : List RestartStore). x ∷ l) (take_next xs i)

take_over : (xs : List RestartStore) (i n : ℕ) → drop i xs ≡ [] → i ≤ n → take i xs ≡ take n xs
take_over [] zero zero e h = refl
take_over [] zero (suc n) e h = refl
take_over [] (suc i) zero e h = refl
take_over [] (suc i) (suc n) e h = refl
take_over (x ∷ xs) zero n e h = absurd cc
take_over (x ∷ xs) (suc i) zero e h = absurd (omega (arith, h))
take_over (x ∷ xs) (suc i) (suc n) e h = ap (λ (l : List RestartStore). x ∷ l) (take_over xs i n e (omega (arith, h)))

-- with no store behind them, some stores are those
pub none_more : (p q o : Plain) (r n : RestartState) (xs : List RestartStore) → Stores p r xs q n → Stores q n [] o n → Stores p r xs o n
none_more p q o r n xs a b = subst (λ (l : List RestartStore). Stores p r l o n) (append-nil xs) (more_made p q o r n n xs [] a b)

module _ (p q o : Plain) (r n m : RestartState) (i : ℕ) (a : Stores p r (take i r.rest) q n) (b : Stores q n (take 1 n.rest) o m) where
  others : n.rest ≡ drop i r.rest
  others = append_cancel_left (take i r.rest) n.rest (drop i r.rest) (sym a.front ∙ sym (take-append-drop i r.rest))

  -- so many stores and the next one
  pub one_more : Stores p r (take (i + 1) r.rest) o m
  one_more =
      let next : suc i ≡ i + 1 = omega arith in
      subst (λ (l : List RestartStore). Stores p r l o m) (ap (λ (l : List RestartStore). take i r.rest ++ take 1 l) others ∙ take_next r.rest i ∙ ap (λ (j : ℕ). take j r.rest) next) (more_made p q o r n m (take i r.rest) (take 1 n.rest) a b)

  -- so many stores, where there are fewer
  pub fewer_made : (count : ℕ) → i ≤ count → n.rest ≡ [] → Stores p r (take count r.rest) o m
  fewer_made count h none =
      let out = sym others ∙ none in
      subst (λ (l : List RestartStore). Stores p r l o m) (sym (take_over r.rest i (i + 1) out (omega arith)) ∙ take_over r.rest i count out h) one_more

-- a front of so many is no longer
pub front_length : (xs : List RestartStore) (i : ℕ) → length (take i xs) ≤ i
front_length [] zero = omega arith
front_length [] (suc i) = omega arith
front_length (x ∷ xs) zero = omega arith
front_length (x ∷ xs) (suc i) = let h = front_length xs i in omega (arith, h)

-- what a step of restart says where it made a store, and where none was left
pub where_stored : {A : Type 0} (b : Bool) → b ≡ true → OnStored {E = OutOfMemory} (Ok b) A → A
where_stored true e h = h
where_stored false e h = absurd cc

pub where_ended : {A : Type 0} (b : Bool) → b ≡ false → OnEnd {E = OutOfMemory} (Ok b) A → A
where_ended false e h = h
where_ended true e h = absurd cc

-- where none is left all were made
pub all_made : (p q : Plain) (r n : RestartState) (xs : List RestartStore) → Stores p r xs q n → n.rest ≡ [] → Stores p r r.rest q n
all_made p q r n xs a none = subst (λ (l : List RestartStore). Stores p r l q n) (sym (a.front ∙ ap (λ (l : List RestartStore). xs ++ l) none ∙ append-nil xs)) a

-- the next store leaves fewer, and none where none was left
pub fewer_left : (xs ys : List RestartStore) → xs ≢ [] → xs ≡ take 1 xs ++ ys → length ys < length xs
fewer_left [] ys some front = absurd (some refl)
fewer_left (x ∷ xs) ys some front = let e = ap (λ (l : List RestartStore). length l) front in omega (arith, e)

pub none_left : (xs ys : List RestartStore) → xs ≡ [] → xs ≡ take 1 xs ++ ys → ys ≡ []
none_left xs ys none front = sym (ap (λ (l : List RestartStore). take 1 l ++ ys) none) ∙ sym front ∙ none

-- the books and the directory are those of the words behind all stores still
way_by : (p : Pool) (ws : List ℕ) (r n : RestartState) (xs : List RestartStore) → r.rest ≡ xs ++ n.rest → n ≡ record r { rest = n.rest } → IsUnderWay p ws r → IsUnderWay p (words_after_stores p ws xs) n
way_by p ws r n [] front same u = subst (IsUnderWay p ws) (ap (λ (l : List RestartStore). record r { rest = l }) front ∙ sym same) u
way_by p ws r n (x ∷ xs) front same u = way_by p (words_after_step p (Restart x) ws) (record r { rest = xs ++ n.rest }) n xs refl same (way_goes_on p ws r x (xs ++ n.rest) front u)

-- a restart of a sound image has some stores left, and stores leave it under way
pub are_left : (p : Plain) (r : RestartState) → IsRestarting p r → AreLeft p r
are_left p r a = record { down = a.down; pool = a.pool; plan = a.rest }

pub if_left : {E : Type 0} (p : Plain) (x : Result RestartState E) → IfOk x (IsRestarting p) → IfOk x (AreLeft p)
if_left p (Ok r) a = are_left p r a
if_left p (Err e) a = tt

pub restarting_by : (p q : Plain) (r n : RestartState) (xs : List RestartStore) → IsRestarting p r → Stores p r xs q n → IsRestarting q n
restarting_by p q r n xs a s = record {
  down = s.left.down;
  pool = s.left.pool;
  rest = s.left.plan;
  way = subst (λ (z : Setup × List ℕ). IsUnderWay z.0.pool z.1 n) (λ i. (sym s.setup i, sym s.words i)) (way_by p.setup.pool p.words r n xs s.front s.restart a.way);
}
