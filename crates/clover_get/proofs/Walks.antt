-- What a step of a get says, by where the get stands and what the access found.
use Prim.Native.Nat.{suc}
use Rattle.std.proofs.Common.{◌≡◌, ◌≢◌, ℕ, ◌+◌, ◌*◌, ◌<◌, ◌≤◌, ◌==◌, List, length, Bool, false, cond, refl, sym, ap, ◌∙◌, subst, inl, inr, eq-eqb, ne_eqb, arith}
use Rattle.std.specs.Prelude.{Option, Some, None, IfSome}
use Rattle.clover_words.specs.declared.bytes.ValueBuf.{ValueBuf}
use Rattle.clover_words.specs.declared.pool.Pool.{Pool}
use Rattle.clover_words.specs.Meta.{MetaParts}
use Rattle.clover_words.specs.declared.word.Word.{Word}
use Rattle.clover_words.specs.Place.{IsWithin}
use Rattle.clover_words.specs.Tag.{TagParts, tag_number}
use Rattle.clover_words.specs.Version.{unlinked}
use Rattle.clover_port.specs.Told.{Open, Made}
use Rattle.clover_rule.specs.Content.{InRange}
use Rattle.clover_rule.specs.Lists.{Within}
use Rattle.clover_rule.specs.Asks.{Asks}
use Rattle.clover_rule.specs.Steps.{Step, LoadNext, word_of}
use Rattle.clover_rule.specs.Told.{Says, IsShown, IsMetaWord}
use Rattle.clover_rule.specs.Words.{next_of, next_code}
use Rattle.clover_rule.specs.declared.view.View.{View}
use Rattle.clover_walk.specs.Finding.{Walked}
use Rattle.clover_walk.specs.Turning.{Answers}
use Rattle.clover_walk.specs.Walking.{Walking, Stand, AtShort, AtRoot, AtTag, AtLink, OnTail, Ended, IsOnWay, Holds, ShowsNext, walk_step, step_at, goes_on, key_at, budget, most_accesses, since_turn}
use Rattle.clover_walk.specs.declared.turn.Turn.{Turn}
use Rattle.clover_walk.specs.declared.turn.Turn.TheVariants.{More as WalksOn, AtTail, Behind as WalkBehind, Unreached as Refused}
use Rattle.clover_walk.proofs.Calling.{by_way, since_few}
use Rattle.clover_walk.proofs.Endings.{shows_load, shows_decide}
use Rattle.clover_walk.proofs.Goes.{walk_asks, walk_finds, walk_goes, tail_finds, tail_goes}
use Rattle.clover_get.specs.declared.turn.GetTurn.{GetTurn}
use Rattle.clover_get.specs.declared.turn.GetTurn.TheVariants.{Found as IsFound, Absent as IsAbsent}
use Rattle.clover_get.specs.Finding.{FindsFrom, AnswersFrom, PacksFrom, Came}
use Rattle.clover_get.specs.Getting.{Getting, Stage, Seeking, AtMeta, AtValue, AtFound, AtDead, AtBad, Over, IsOpen, getting, sought, stage_at, step_from, GoesFrom, FillsFrom, Reads}
use Rattle.clover_get.specs.Going.{Went, answer_of, key_of}
use Rattle.clover_get.specs.Holding.{GetHolds, IsAt, most}
use Rattle.clover_get.proofs.Copies.{asks_found, asks_dead, asks_content, asks_next}
use Rattle.clover_get.proofs.Counting.{InTurns, HasRoot, goes, misses, bounded, one_more}
use Rattle.clover_get.proofs.Ends.{meta_went, value_went, found_went, dead_went}

on_way : (at : Stand) → IsOnWay at → stage_at at ≡ Seeking
on_way at h = by_way (λ s. stage_at s ≡ Seeking) at h refl refl (λ t. refl) (λ t u. refl)

-- a named slot has a root
root_says : (p : Pool) (ws : List ℕ) (s : ℕ) (k : List ℕ) (at : Stand) (v : View) (x : ℕ) → Within (s, k) v.pass.names → Says p ws (step_at s at) v x → HasRoot at x
root_says p ws s k AtShort v x n h = tt
root_says p ws s k AtRoot v x n h = h k n
root_says p ws s k (AtTag t) v x n h = tt
root_says p ws s k (AtLink t u) v x n h = tt
root_says p ws s k (OnTail t) v x n h = tt
root_says p ws s k Ended v x n h = tt

-- the rule allows the access
module _ (p : Pool) (w : Walking) (v : View) (into : ValueBuf) (of : p ≡ w.pool) where
  asks_from : (s : Stage) → IsOpen s → GetHolds (getting w s) v into → (s ≡ Seeking → IsWithin w.pool (word_of (walk_step w))) → Asks p (step_from s w (key_at v.pass.names w.slot) into) v
  asks_from Seeking is h within = walk_asks p w v of h.walk h.stage (within refl)
  asks_from (AtMeta t) is h within = asks_content p w t v of h.walk h.stage 0 (omega arith)
  asks_from (AtValue t f j) is h within =
      let less = h.stage.1 in let size = h.stage.2.size in let e : p.words ≡ w.pool.words = ap (λ (q : Pool). q.words) of in
      asks_content p w t v of h.walk h.stage.0 (suc j) (omega arith)
  asks_from (AtFound t f) is h within = asks_found p w t v of h.walk h.stage.0 f into h.stage.1
  asks_from (AtDead t) is h within = asks_dead p w t v of h.walk h.stage.0 h.stage.1
  asks_from (AtBad t) is h within = asks_next p w t v of h.walk h.stage.0
  asks_from Over is h within = absurd is

pub get_asks : (p : Pool) (g : Getting) (v : View) (into : ValueBuf) → p ≡ g.walk.pool → IsOpen g.stage → GetHolds g v into → (g.stage ≡ Seeking → IsWithin g.walk.pool (word_of (walk_step g.walk)))
    → Asks p (step_from g.stage g.walk (key_of g v) into) v
get_asks p g v into of is h within = asks_from p g.walk v into of g.stage is h within

module _ (p : Pool) (w : Walking) (into : ValueBuf) (v : View) (o : Option Open) (x : ℕ) (v1 : View) (o1 : Option Open) (of : p ≡ w.pool) where
  later : {a : Step} → w.first ≡ false → Made p a w.first v o x v1 o1 → Made p a false v o x v1 o1
  later {a} e made = subst (λ (b : Bool). Made p a b v o x v1 o1) e made

  shown_next : (b : Word) → IsShown p b x → IsShown w.pool b x
  shown_next b h = subst (λ (q : Pool). IsShown q b x) of h

  -- what the access may find
  pub finds_from : (s : Stage) → IsOpen s → GetHolds (getting w s) v into → Made p (step_from s w (key_at v.pass.names w.slot) into) w.first v o x v1 o1 → FindsFrom s w into x
  finds_from Seeking is h made = walk_finds p w v o x v1 o1 of h.walk h.stage made
  finds_from (AtMeta t) is h made = tt
  finds_from (AtValue t f j) is h made = h.stage.1
  finds_from (AtFound t f) is h made = tail_finds w t x h.stage.0.0 (shown_next (word_of (LoadNext w.slot t)) made.told.number)
  finds_from (AtDead t) is h made = tail_finds w t x h.stage.0.0 (shown_next (word_of (LoadNext w.slot t)) made.told.number)
  finds_from (AtBad t) is h made = tail_finds w t x h.stage.0.0 (shown_next (word_of (LoadNext w.slot t)) made.told.number)
  finds_from Over is h made = absurd is

  -- a get that goes on with its walk
  module _ (w1 : Walking) (pool : w1.pool ≡ p) (first : w1.first ≡ false) (count : InTurns w1 (length v1.pass.since)) where
    counted_so : Holds w1 v1 → w1.turns ≡ v1.pass.turns
    counted_so h = sym (subst (λ (b : Bool). cond b 0 v1.pass.turns ≡ w1.turns) first h.turns)

    allowed : w1.turns ≡ v1.pass.turns → length v1.pass.since ≤ most_accesses p v1.pass.turns
    allowed e =
        let a = since_few w1.stand in
        let b : length v1.pass.since ≤ most_accesses w1.pool w1.turns = bounded w1.turns w1.pool.words (since_turn w1.stand) (length v1.pass.since) (omega arith) count in
        subst (λ (n : ℕ). length v1.pass.since ≤ most_accesses p n) e (subst (λ (q : Pool). length v1.pass.since ≤ most_accesses q w1.turns) pool b)

    seeks : Holds w1 v1 → IsOnWay w1.stand → GetHolds (sought w1) v1 into
    seeks h way =
        subst (λ (s : Stage). GetHolds (getting w1 s) v1 into) (sym (on_way w1.stand way)) (record {
          walk = h;
          stage = way;
          bound = subst (λ (b : Bool). cond b 0 (length v1.pass.since) ≤ most (getting w1 Seeking)) (sym first) count;
        })

    arrives : (t : ℕ) → Holds w1 v1 → w1.stand ≡ OnTail t → InRange w1.pool t → GetHolds (sought w1) v1 into
    arrives t h e range =
        let c : length v1.pass.since ≤ w1.turns * (w1.pool.words + 5) + 3 = subst (λ (z : Stand). length v1.pass.since ≤ w1.turns * (w1.pool.words + 5) + since_turn z) e count in
        subst (λ (z : Stand). GetHolds (getting w1 (stage_at z)) v1 into) (sym e) (record {
          walk = h;
          stage = (e, first, range);
          bound = subst (λ (b : Bool). cond b 0 (length v1.pass.since) ≤ most (getting w1 (AtMeta t))) (sym first) c;
        })

    came_by : (s : Stage) (turn : Turn) → Walked w x v1 w1 turn → Went p (getting w s) (sought w1) into into v o v1 o1 (answer_of turn)
    came_by s WalksOn k = record { found = tt; at = tt; absent = tt; known = tt; behind = tt; ahead = budgets k.ahead; stands = seeks k.stands k.answers; ends = tt; bound = allowed (counted_so k.stands) }
      where
        budgets : v1.pass.turns < budget w.pool → v1.pass.turns < budget p
        budgets h = subst (λ (q : Pool). v1.pass.turns < budget q) (sym of) h
    came_by s (AtTail t) k = record { found = tt; at = tt; absent = tt; known = tt; behind = tt; ahead = budgets k.ahead; stands = arrives (tag_number t) k.stands k.answers (subst (λ (q : Pool). InRange q (tag_number t)) (sym (pool ∙ of)) k.tail.0); ends = tt; bound = allowed (counted_so k.stands) }
      where
        budgets : v1.pass.turns < budget w.pool → v1.pass.turns < budget p
        budgets h = subst (λ (q : Pool). v1.pass.turns < budget q) (sym of) h
    came_by s (WalkBehind n) k =
        let b = subst (λ (q : Pool). (n ≡ budget q) × (v1.pass.turns ≡ budget q)) (sym of) k.behind in
        record { found = tt; at = tt; absent = tt; known = tt; behind = b; ahead = tt; stands = tt; ends = ap stage_at k.answers.0; bound = allowed (sym k.answers.1 ∙ b.0 ∙ sym b.1) }
    came_by s Refused k = absurd k.answers

  came_went : (s : Stage) → (goes_on w x).pool ≡ p → (goes_on w x).first ≡ false → InTurns (goes_on w x) (length v1.pass.since) → ((turn : Turn) → Answers (goes_on w x) turn → Walked w x v1 (goes_on w x) turn)
      → (g1 : Getting) (r : GetTurn) → g1 ≡ sought (goes_on w x) → Came w x r → Went p (getting w s) g1 into into v o v1 o1 r
  came_went s pool first count walked g1 r value came =
      subst (λ (z : Getting). Went p (getting w s) z into into v o v1 o1 r) (sym value)
      (subst (λ (z : GetTurn). Went p (getting w s) (sought (goes_on w x)) into into v o v1 o1 z) (sym came.is) (came_by (goes_on w x) pool first count s came.turn (walked came.turn came.answers)))

  seek_went : GetHolds (getting w Seeking) v into → Made p (walk_step w) w.first v o x v1 o1 → (g1 : Getting) (r : GetTurn) → g1 ≡ sought (goes_on w x) → Came w x r → Went p (getting w Seeking) g1 into into v o v1 o1 r
  seek_went h made g1 r value came =
      let root = root_says p made.now.words w.slot (key_at v.pass.names w.slot) w.stand v x h.walk.named made.told.says in
      let go = goes w x (cond w.first 0 (length v.pass.since)) h.stage root h.bound in
      came_went Seeking (go.pool ∙ sym of) go.first (subst (InTurns (goes_on w x)) (sym (one_more p (walk_step w) w.first v o x v1 o1 made)) go.count)
      (λ turn a. walk_goes p w v o x v1 o1 of h.walk h.stage made (goes_on w x) turn refl a) g1 r value came

  -- a last load that showed the tag not unlinked
  missed : (s : Stage) (t : ℕ) (a : Step) → IsAt w t → cond w.first 0 (length v.pass.since) ≤ w.turns * (w.pool.words + 5) + (4 + w.pool.words) → Made p a false v o x v1 o1
      → next_code (next_of x) ≡ x → x ≢ unlinked t → ShowsNext w v1 x → (g1 : Getting) (r : GetTurn) → g1 ≡ sought (goes_on w x) → Came w x r → Went p (getting w s) g1 into into v o v1 o1 r
  missed s t a at bound made code d shows g1 r value came =
      let go = misses w t x (cond w.first 0 (length v.pass.since)) at.0 code d bound in
      let one = one_more p a false v o x v1 o1 made ∙ ap (λ (b : Bool). suc (cond b 0 (length v.pass.since))) (sym at.1) in
      came_went s (go.pool ∙ sym of) go.first (subst (InTurns (goes_on w x)) (sym one) go.count) (λ turn a. tail_goes w t v1 x at.0 shows at.2 (goes_on w x) turn refl a) g1 r value came

  hit : (u : TagParts) (t f : ℕ) → tag_number u ≡ t → (g1 : Getting) → GetHolds (getting w (AtFound t f)) v into → Made p (step_from (AtFound t f) w (key_at v.pass.names w.slot) into) false v o x v1 o1 → x ≡ unlinked t → g1 ≡ getting w Over
      → Went p (getting w (AtFound t f)) g1 into into v o v1 o1 (IsFound u f)
  hit u t f q = subst (λ (k : ℕ). (g1 : Getting) → GetHolds (getting w (AtFound k f)) v into → Made p (step_from (AtFound k f) w (key_at v.pass.names w.slot) into) false v o x v1 o1 → x ≡ unlinked k → g1 ≡ getting w Over → Went p (getting w (AtFound k f)) g1 into into v o v1 o1 (IsFound u f)) q
      (λ g1 h made e value. found_went p w u v o x v1 o1 of f g1 into h made e value)

  hit_dead : (u : TagParts) (t : ℕ) → tag_number u ≡ t → (g1 : Getting) → GetHolds (getting w (AtDead t)) v into → Made p (step_from (AtDead t) w (key_at v.pass.names w.slot) into) false v o x v1 o1 → x ≡ unlinked t → g1 ≡ getting w Over
      → Went p (getting w (AtDead t)) g1 into into v o v1 o1 (IsAbsent u)
  hit_dead u t q = subst (λ (k : ℕ). (g1 : Getting) → GetHolds (getting w (AtDead k)) v into → Made p (step_from (AtDead k) w (key_at v.pass.names w.slot) into) false v o x v1 o1 → x ≡ unlinked k → g1 ≡ getting w Over → Went p (getting w (AtDead k)) g1 into into v o v1 o1 (IsAbsent u)) q
      (λ g1 h made e value. dead_went p w u v o x v1 o1 of g1 into h made e value)

  ended : (t : ℕ) (g1 : Getting) → g1 ≡ cond (x == unlinked t) (getting w Over) (sought (goes_on w x)) → x ≡ unlinked t → g1 ≡ getting w Over
  ended t g1 value e = value ∙ ap (λ (b : Bool). cond b (getting w Over) (sought (goes_on w x))) (eq-eqb x (unlinked t) e)

  went_past : (t : ℕ) (g1 : Getting) → g1 ≡ cond (x == unlinked t) (getting w Over) (sought (goes_on w x)) → x ≢ unlinked t → g1 ≡ sought (goes_on w x)
  went_past t g1 value d = value ∙ ap (λ (b : Bool). cond b (getting w Over) (sought (goes_on w x))) (ne_eqb x (unlinked t) d)

  -- where the room stays as it is
  stayed : (s : Stage) → IsOpen s → GetHolds (getting w s) v into → Made p (step_from s w (key_at v.pass.names w.slot) into) w.first v o x v1 o1 → (g1 : Getting) (r : GetTurn) (into1 : ValueBuf)
      → GoesFrom s w into1.length x g1 → FillsFrom s x into into1 → PacksFrom s x into into1 → AnswersFrom s w x r → Went p (getting w s) g1 into into1 v o v1 o1 r
  stayed Seeking is h made g1 r into1 goes fills packs came = subst (λ (z : ValueBuf). Went p (getting w Seeking) g1 into z v o v1 o1 r) (sym fills) (seek_went h made g1 r goes came)
  stayed (AtMeta t) is h made g1 r into1 goes fills packs came =
      subst (λ (z : GetTurn). Went p (getting w (AtMeta t)) g1 into into1 v o v1 o1 z) (sym came)
      (meta_went p w t v o x v1 o1 of goes.0 g1 into into1 h (later h.stage.1 made) goes.1 goes.2 (sized goes.0 goes.1))
    where
      sized : (om : Option MetaParts) → Reads x om → IfSome om (λ m. into1.length ≡ m.length)
      sized None q = tt
      sized (Some m) q = fills.1 m q.found.0 q.found.1
  stayed (AtValue t f j) is h made g1 r into1 goes fills packs came =
      subst (λ (z : GetTurn). Went p (getting w (AtValue t f j)) g1 into into1 v o v1 o1 z) (sym came)
      (value_went p w t v o x v1 o1 of f j g1 into into1 h (later h.stage.0.1 made) goes fills.1 packs.0 packs.1)
  stayed (AtFound t f) is h made g1 r into1 goes fills packs (inl (e, u, q, z)) =
      subst (λ (y : ValueBuf). Went p (getting w (AtFound t f)) g1 into y v o v1 o1 r) (sym fills) (subst (λ (y : GetTurn). Went p (getting w (AtFound t f)) g1 into into v o v1 o1 y) (sym z) (hit u t f q g1 h (later h.stage.0.1 made) e (ended t g1 goes e)))
  stayed (AtFound t f) is h made g1 r into1 goes fills packs (inr (d, came)) =
      let m = later h.stage.0.1 made in
      subst (λ (y : ValueBuf). Went p (getting w (AtFound t f)) g1 into y v o v1 o1 r) (sym fills)
      (missed (AtFound t f) t _ h.stage.0 h.bound m made.told.number.0 d (shows_decide w t p v o x v1 o1 _ _ h.walk h.stage.0.0 h.stage.0.1 of m d) g1 r (went_past t g1 goes d) came)
  stayed (AtDead t) is h made g1 r into1 goes fills packs (inl (e, u, q, z)) =
      subst (λ (y : ValueBuf). Went p (getting w (AtDead t)) g1 into y v o v1 o1 r) (sym fills) (subst (λ (y : GetTurn). Went p (getting w (AtDead t)) g1 into into v o v1 o1 y) (sym z) (hit_dead u t q g1 h (later h.stage.0.1 made) e (ended t g1 goes e)))
  stayed (AtDead t) is h made g1 r into1 goes fills packs (inr (d, came)) =
      let m = later h.stage.0.1 made in let b = h.bound in
      subst (λ (y : ValueBuf). Went p (getting w (AtDead t)) g1 into y v o v1 o1 r) (sym fills)
      (missed (AtDead t) t _ h.stage.0 (omega arith) m made.told.number.0 d (shows_decide w t p v o x v1 o1 _ _ h.walk h.stage.0.0 h.stage.0.1 of m d) g1 r (went_past t g1 goes d) came)
  stayed (AtBad t) is h made g1 r into1 goes fills packs came =
      let m = later h.stage.0.1 made in let b = h.bound in
      let d : x ≢ unlinked t = λ e. (let c = h.stage.1 in c.bad (subst (λ (q : Pool). IsMetaWord q c.word) of (made.told.says e c.word c.meta))) in
      subst (λ (y : ValueBuf). Went p (getting w (AtBad t)) g1 into y v o v1 o1 r) (sym fills)
      (missed (AtBad t) t _ h.stage.0 (omega arith) m made.told.number.0 d (shows_load w t p v o x v1 o1 h.walk h.stage.0.0 h.stage.0.1 of m) g1 r goes came)
  stayed Over is h made g1 r into1 goes fills packs came = absurd is

module _ (p : Pool) (g : Getting) (into : ValueBuf) (v : View) (o : Option Open) (x : ℕ) (v1 : View) (o1 : Option Open) (of : p ≡ g.walk.pool) where
  pub get_went : IsOpen g.stage → GetHolds g v into → Made p (step_from g.stage g.walk (key_of g v) into) g.walk.first v o x v1 o1 → (g1 : Getting) (r : GetTurn) (into1 : ValueBuf)
      → GoesFrom g.stage g.walk into1.length x g1 → FillsFrom g.stage x into into1 → PacksFrom g.stage x into into1 → AnswersFrom g.stage g.walk x r → Went p g g1 into into1 v o v1 o1 r
  get_went is h made g1 r into1 goes fills packs came = stayed p g.walk into v o x v1 o1 of g.stage is h made g1 r into1 goes fills packs came
