-- What a step of a call leaves of what its actor knew, and that what an access at the tail showed is what the walk goes on by.
use Rattle.std.proofs.Common.{◌≡◌, ◌≢◌, ℕ, ◌+◌, ◌==◌, List, [], ◌∷◌, ◌++◌, Bool, true, false, cond, eqb, refl, sym, ap, ◌∙◌, inl, inr, subst, ne_eqb, eq-eqb}
use Rattle.std.specs.Prelude.{Option, Some, None}
use Rattle.clover_words.specs.declared.pool.Pool.{Pool}
use Rattle.clover_words.specs.declared.word.Word.TheVariants.{Next as NextOf}
use Rattle.clover_words.specs.Tag.{home, age}
use Rattle.clover_words.specs.Version.{unlinked, buffer_at}
use Rattle.clover_map.specs.declared.call.Call.{Call}
use Rattle.clover_map.specs.declared.call.Entry.{Entry}
use Rattle.clover_map.specs.declared.call.Reply.{Reply}
use Rattle.clover_rule.specs.Accesses.{AtTail, Committed, StoredBoth, SawFor}
use Rattle.clover_rule.specs.Knowing.{link_view}
use Rattle.clover_rule.specs.Lists.{Within}
use Rattle.clover_rule.specs.Memory.{Next, word}
use Rattle.clover_words.specs.declared.word.Word.{Word}
use Rattle.clover_rule.specs.Learned.{rest_of, decided, seen, started, turn_at, turn_of, learned, counted}
use Rattle.clover_rule.specs.Steps.{Step, number_of, LoadNext, DecideNext, RaiseNext, LinkNext, LoadContent, ReadRoot, ReadShort, act_of, word_of, value_of, reply_of, client}
use Rattle.clover_rule.specs.Told.{IsShown}
use Rattle.clover_rule.specs.Words.{next_of, root_of}
use Rattle.clover_rule.specs.declared.access.Act.{Act}
use Rattle.clover_rule.specs.declared.view.Link.{Link}
use Rattle.clover_rule.specs.declared.view.Role.{Role}
use Rattle.clover_rule.specs.declared.view.Role.TheVariants.{Client}
use Rattle.clover_rule.specs.declared.view.View.{View}
use Rattle.clover_rule.proofs.Acting.{learned_stays}
use Rattle.clover_port.specs.Told.{Open, Made}
use Rattle.clover_walk.specs.Walking.{Walking, Stand, OnTail, StandsOn, Holds, ShowsNext, key_at}

-- what every step says of the view after it
pub record Stepped (a : Step) (b : Bool) (x : ℕ) (v w : View) : Type 0 where
  pub pool : w.pass.pool ≡ v.pass.pool
  pub role : w.pass.role ≡ v.pass.role
  pub names : w.pass.names ≡ v.pass.names
  pub since : w.pass.since ≡ cond b [] v.pass.since ++ act_of a x ∷ []
  pub turns : w.pass.turns ≡ cond b 0 v.pass.turns + turn_of a x

-- the actor has what it had, and maybe knows more links and durable tags
pub record Keeps (v w : View) : Type 0 where
  pub stock : w.pass.stock ≡ v.pass.stock
  pub written : w.pass.written ≡ v.pass.written
  pub flushed : w.pass.flushed ≡ v.pass.flushed
  pub copied : w.pass.copied ≡ v.pass.copied
  pub calls : w.pass.calls ≡ v.pass.calls
  pub history : w.pass.history ≡ v.pass.history
  pub durable : (q : ℕ × ℕ) → Within q v.pass.durable → Within q w.pass.durable
  pub links : (l : Link) → Within l v.pass.links → Within l w.pass.links

-- the step was a walk's, or found another next word than the one by which it ends its call
abbrev pub IsPlain : Step → ℕ → Type 0
IsPlain (LoadNext s t) x = Unit {0}
IsPlain (RaiseNext l) x = Unit {0}
IsPlain (ReadShort s) x = Unit {0}
IsPlain (ReadRoot s) x = Unit {0}
IsPlain (DecideNext s t c r) x = x ≢ unlinked t
IsPlain (LinkNext s u t c) x = x ≢ unlinked u
IsPlain a x = ⊥

more_links : (b : Bool) (k : Link) (ls : List Link) (l : Link) → Within l ls → Within l (cond b (k ∷ ls) ls)
more_links true k ls l h = inr h
more_links false k ls l h = h

seen_keeps : (s t : ℕ) (v : View) (n : Next) → Keeps v (seen s t v n)
seen_keeps s t v (word a None) = record { stock = refl; written = refl; flushed = refl; copied = refl; calls = refl; history = refl; durable = λ q h. h; links = λ l h. h }
seen_keeps s t v (word a (Some u)) = record { stock = refl; written = refl; flushed = refl; copied = refl; calls = refl; history = refl; durable = λ q h. h; links = more_links (eqb a (age t)) (record { slot = s; from = t; to = u }) v.pass.links }

started_keeps : (s : ℕ) (v : View) (o : Option ℕ) → Keeps v (started s v o)
started_keeps s v None = record { stock = refl; written = refl; flushed = refl; copied = refl; calls = refl; history = refl; durable = λ q h. h; links = λ l h. h }
started_keeps s v (Some t) = record { stock = refl; written = refl; flushed = refl; copied = refl; calls = refl; history = refl; durable = λ q h. inr h; links = λ l h. h }

keeps_second : (b : Bool) (v w w1 : View) → b ≡ false → Keeps v w1 → Keeps v (cond b w w1)
keeps_second true v w w1 e k = absurd cc
keeps_second false v w w1 e k = k

learned_keeps : (a : Step) (h : List Entry) (v : View) (x : ℕ) → IsPlain a x → Keeps v (learned a h v x)
learned_keeps (LoadNext s t) h v x p = seen_keeps s t v (next_of x)
learned_keeps (RaiseNext l) h v x p = record { stock = refl; written = refl; flushed = refl; copied = refl; calls = refl; history = refl; durable = λ q i. inr i; links = λ k i. i }
learned_keeps (ReadRoot s) h v x p = started_keeps s v (root_of x)
learned_keeps (ReadShort s) h v x p = started_keeps s v (root_of x)
learned_keeps (DecideNext s t c r) h v x p = keeps_second (x == unlinked t) v _ _ (ne_eqb x (unlinked t) p) (seen_keeps s t v (next_of x))
learned_keeps (LinkNext s u t c) h v x p = keeps_second (x == unlinked u) v _ _ (ne_eqb x (unlinked u) p) (seen_keeps s u v (next_of x))
learned_keeps a h v x p = absurd p

module _ (p : Pool) (a : Step) (b : Bool) (v : View) (before : Option Open) (x : ℕ) (w : View) (after : Option Open) (made : Made p a b v before x w after) where
  -- each access adds its act to those of the call, and its turn
  pub stepped : Stepped a b x v w
  stepped =
      let h : List Entry = made.now.history in
      let s = learned_stays a h v x in
      record {
        pool = ap (λ (u : View). u.pass.pool) made.told.next ∙ s.pool;
        role = ap (λ (u : View). u.pass.role) made.told.next ∙ s.role;
        names = ap (λ (u : View). u.pass.names) made.told.next ∙ s.names;
        since = ap (λ (u : View). u.pass.since) made.told.next ∙ ap (λ (xs : List Act). cond b [] xs ++ act_of a x ∷ []) s.since;
        turns = ap (λ (u : View). u.pass.turns) made.told.next ∙ ap (λ (n : ℕ). cond b 0 n + turn_of a x) s.turns;
      }

  -- a step that ends no call, and copies and stores nothing, takes nothing away from what the actor knows
  pub kept : IsPlain a x → Keeps v w
  kept plain =
      let h : List Entry = made.now.history in
      let s = learned_keeps a h v x plain in
      subst (Keeps v) (sym made.told.next) (record { stock = s.stock; written = s.written; flushed = s.flushed; copied = s.copied; calls = s.calls; history = s.history; durable = s.durable; links = s.links })

-- a link that was loaded at the tag's generation is known
first_link : (b : Bool) (k : Link) (ls : List Link) → b ≡ true → Within k (cond b (k ∷ ls) ls)
first_link true k ls e = inl refl
first_link false k ls e = absurd cc

pub seen_link : (s t u : ℕ) (v : View) (n : Next) → n ≡ word (age t) (Some u) → Within (record { slot = s; from = t; to = u }) (seen s t v n).pass.links
seen_link s t u v n e =
    subst (λ (z : Next). Within (record { slot = s; from = t; to = u }) (seen s t v z).pass.links) (sym e) (first_link (eqb (age t) (age t)) (record { slot = s; from = t; to = u }) v.pass.links (eq-eqb (age t) (age t) refl))

module _ (w : Walking) (t : ℕ) (p : Pool) (a : Step) (v : View) (before : Option Open) (x : ℕ) (v1 : View) (after : Option Open) where
  -- a step at the tail that ended nothing showed what a load of its next word does
  shows_by : Holds w v → w.stand ≡ OnTail t → w.first ≡ false → p ≡ w.pool → (made : Made p a false v before x v1 after)
      → IsPlain a x → word_of a ≡ NextOf (buffer_at (home t)) → turn_of a x ≡ turn_at t x → learned a made.now.history v x ≡ seen w.slot t v (next_of x) → ShowsNext w v1 x
  shows_by holds at later of made plain on turn shown =
      let h : List Entry = made.now.history in
      let s = stepped p a false v before x v1 after made in
      let k = kept p a false v before x v1 after made plain in
      let next : v1 ≡ counted false (act_of a x) (turn_of a x) (seen w.slot t v (next_of x)) = made.told.next ∙ ap (counted false (act_of a x) (turn_of a x)) shown in
      let counted_so : v.pass.turns ≡ w.turns = subst (λ (b : Bool). cond b 0 v.pass.turns ≡ w.turns) later holds.turns in
      let here : Walking = record w { stand = OnTail t } in
      subst (λ (z : Walking). ShowsNext z v1 x) (sym (λ i. record w { stand = at i })) (record {
        pool = s.pool ∙ holds.pool;
        client = subst (λ (r : Role). r ≡ Client (number_of r)) (sym s.role) holds.client;
        named = subst (λ (ns : List (ℕ × List ℕ)). Within (w.slot, key_at ns w.slot) ns) (sym s.names) holds.named;
        tail = k.durable (w.slot, t) (subst (λ (z : Stand). StandsOn w.slot z v) at holds.stand);
        number = subst (λ (q : Pool). IsShown q (NextOf (buffer_at (home t))) x) of (subst (λ (y : Word). IsShown p y x) on made.told.number);
        link = λ u e. subst (λ (z : View). Within (record { slot = w.slot; from = t; to = u }) z.pass.links) (sym next) (seen_link w.slot t u v (next_of x) e);
        turns = s.turns ∙ ap (λ (n : ℕ). n + turn_of a x) counted_so ∙ ap (λ (n : ℕ). w.turns + n) turn;
        below = holds.below;
      })

module _ (w : Walking) (t : ℕ) (p : Pool) (v : View) (before : Option Open) (x : ℕ) (v1 : View) (after : Option Open) where
  pub shows_load : Holds w v → w.stand ≡ OnTail t → w.first ≡ false → p ≡ w.pool → Made p (LoadNext w.slot t) false v before x v1 after → ShowsNext w v1 x
  shows_load holds at later of made = shows_by w t p (LoadNext w.slot t) v before x v1 after holds at later of made tt refl refl refl

  pub shows_decide : (c : Call) (r : Reply) → Holds w v → w.stand ≡ OnTail t → w.first ≡ false → p ≡ w.pool → Made p (DecideNext w.slot t c r) false v before x v1 after → x ≢ unlinked t → ShowsNext w v1 x
  shows_decide c r holds at later of made d =
      shows_by w t p (DecideNext w.slot t c r) v before x v1 after holds at later of made d refl refl
      (ap (λ (b : Bool). cond b (decided v made.now.history t c r) (seen w.slot t v (next_of x))) (ne_eqb x (unlinked t) d))

  pub shows_link : (own : ℕ) (c : Call) → Holds w v → w.stand ≡ OnTail t → w.first ≡ false → p ≡ w.pool → Made p (LinkNext w.slot t own c) false v before x v1 after → x ≢ unlinked t → ShowsNext w v1 x
  shows_link own c holds at later of made d =
      shows_by w t p (LinkNext w.slot t own c) v before x v1 after holds at later of made d refl refl
      (ap (λ (b : Bool). cond b (link_view v made.now.history (client v) w.slot t own c (reply_of own c) (rest_of v.pass.stock)) (seen w.slot t v (next_of x))) (ne_eqb x (unlinked t) d))

-- a last load that found the tag unlinked found the tail of the call's key, behind what the call had seen
pub at_tail : (p : Pool) (s t : ℕ) (c : Call) (r : Reply) (seen_so : List Act → Type 0) (v : View) (before : Option Open) (w : View) (after : Option Open)
    → (made : Made p (DecideNext s t c r) false v before (unlinked t) w after) → seen_so v.pass.since → AtTail p made.now.words c t seen_so w.pass.since
at_tail p s t c r seen_so v before w after made saw = (v.pass.since, (stepped p (DecideNext s t c r) false v before (unlinked t) w after made).since, saw, (made.told.says refl).0)

-- an exchange that found the tag unlinked committed the call there
pub commits : (p : Pool) (s u t : ℕ) (c : Call) (v : View) (before : Option Open) (w : View) (after : Option Open)
    → (made : Made p (LinkNext s u t c) false v before (unlinked u) w after) → StoredBoth t (value_of c) v.pass.since → SawFor u c v.pass.since → Committed p made.now.words c t w.pass.since
commits p s u t c v before w after made stored saw =
    (u, v.pass.since, [], (stepped p (LinkNext s u t c) false v before (unlinked u) w after made).since, stored, saw, made.told.says refl)

-- the actor has what it had, and the copy of one content word more
pub record Copies (s t j x : ℕ) (v w : View) : Type 0 where
  pub stock : w.pass.stock ≡ v.pass.stock
  pub written : w.pass.written ≡ v.pass.written
  pub flushed : w.pass.flushed ≡ v.pass.flushed
  pub copied : w.pass.copied ≡ (s, record { tag = t; place = j; word = x }) ∷ v.pass.copied
  pub calls : w.pass.calls ≡ v.pass.calls
  pub history : w.pass.history ≡ v.pass.history
  pub durable : w.pass.durable ≡ v.pass.durable
  pub links : w.pass.links ≡ v.pass.links

pub copied_one : (p : Pool) (s t j : ℕ) (b : Bool) (v : View) (before : Option Open) (x : ℕ) (w : View) (after : Option Open) → Made p (LoadContent s t j) b v before x w after → Copies s t j x v w
copied_one p s t j b v before x w after made = subst (Copies s t j x v) (sym made.told.next) (record { stock = refl; written = refl; flushed = refl; copied = refl; calls = refl; history = refl; durable = refl; links = refl })
