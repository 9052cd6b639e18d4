-- That the rule allows the access of a put, what it may find, and what the put says where it has gone on by that.
use Prim.Native.Nat.{suc}
use Rattle.std.proofs.Common.{◌≡◌, ◌≢◌, ℕ, ◌+◌, ◌*◌, ◌<◌, ◌≤◌, List, ◌∷◌, length, Bool, false, cond, refl, sym, ap, ◌∙◌, inl, inr, ⊎_elim, arith, subst, ne_eqb, eq-eqb}
use Rattle.std.specs.Prelude.{Option, Some, None}
use Rattle.clover_words.specs.declared.pool.Pool.{Pool}
use Rattle.clover_words.specs.declared.meta.Kind.TheVariants.{Value as IsValue, Tombstone}
use Rattle.clover_words.specs.declared.word.Word.TheVariants.{Next as NextOf}
use Rattle.clover_words.specs.Place.{IsWithin}
use Rattle.clover_words.specs.Tag.{home}
use Rattle.clover_words.specs.Version.{unlinked, buffer_at, content_at}
use Rattle.clover_map.specs.declared.bytes.Value.{Value}
use Rattle.clover_map.specs.History.{key_of}
use Rattle.clover_port.specs.Told.{Open, Made}
use Rattle.clover_rule.specs.Content.{InRange, Fits, content}
use Rattle.clover_rule.specs.Lists.{Within, nth}
use Rattle.clover_rule.specs.Asks.{Asks}
use Rattle.clover_rule.specs.Steps.{Step, LinkNext, DecideNext, act_of, word_of}
use Rattle.clover_rule.specs.Told.{Says, IsMetaWord, IsShown}
use Rattle.clover_rule.specs.Words.{next_code, next_of, root_of}
use Rattle.clover_rule.specs.declared.view.View.{View}
use Rattle.clover_rule.proofs.Ties.{content_in, buffer_in}
use Rattle.clover_rule.proofs.Tools.{nth_within}
use Rattle.clover_walk.specs.Walking.{Walking, Stand, AtRoot, OnTail, StandsOn, Holds, IsOnWay, ShowsNext, walk_step, step_at, goes_on, key_at, since_turn}
use Rattle.clover_walk.proofs.Calling.{by_way}
use Rattle.clover_walk.proofs.Endings.{IsPlain, stepped, kept, shows_load, shows_decide, shows_link}
use Rattle.clover_walk.proofs.Goes.{walk_asks, walk_finds, walk_goes, tail_finds, tail_goes}
use Rattle.clover_put.specs.Answering.{IsBefore}
use Rattle.clover_put.specs.Finding.{OnFinding, FindsFrom, AnswersFrom, Came}
use Rattle.clover_put.specs.Going.{Went}
use Rattle.clover_put.specs.Holding.{Filled, IsAt, PutHolds, behind_it}
use Rattle.clover_put.specs.Putting.{Putting, Stage, Storing, Flushing, Seeking, AtMeta, AtLink, Deciding, AtBad, AtRaise, AtShort, Over, body, call_of, call_at, commits, kind_of, staged, unless_left, walked, put_step, put_on}
use Rattle.clover_put.specs.declared.job.Job.{Job}
use Rattle.clover_put.specs.declared.job.Job.TheVariants.{Put, Delete, Swap}
use Rattle.clover_put.specs.declared.turn.PutTurn.{PutTurn}
use Rattle.clover_put.specs.declared.turn.PutTurn.TheVariants.{Decided}
use Rattle.clover_put.proofs.Body.{body_fits, kind_meta, none_some}
use Rattle.clover_put.proofs.Done.{one_more, stored, flushed}
use Rattle.clover_put.proofs.Known.{filled_kept}
use Rattle.clover_put.proofs.Tail.{value_is, looked, linked, decided_by, raised, shortened}
use Rattle.clover_put.proofs.Walked.{Onward, Turned, Paid, walked_went, left_turns, step_paid}

-- the key that the call of a job names
named_is : (j : Job) (k : List ℕ) (x : Value) → key_of (call_of j k x) ≡ k
named_is Put k x = refl
named_is Delete k x = refl
named_is (Swap t) k x = refl

-- the rule allows the access
module _ (p : Pool) (c : Putting) (v : View) (of : p ≡ c.walk.pool) where
  owned : (rest : List ℕ) × (v.pass.stock ≡ c.own ∷ rest) → Within c.own v.pass.stock
  owned e = subst (Within c.own) (sym e.1) (inl refl)

  content_at_own : (j : ℕ) → InRange c.walk.pool c.own × Fits c.walk.pool (commits c.job c.value) → j < length (body c) → IsWithin c.walk.pool (content_at (home c.own) j)
  content_at_own j r l = let n = body_fits c.walk.pool c.job c.value r.1 in content_in c.walk.pool (home c.own) j r.0.0 (omega arith)

  -- at the tail
  module _ (u : ℕ) (h : Holds c.walk v) (at : (c.walk.stand ≡ OnTail u) × InRange c.walk.pool u) where
    word_in : IsWithin p (NextOf (buffer_at (home u)))
    word_in = subst (λ (q : Pool). IsWithin q (NextOf (buffer_at (home u)))) (sym of) (buffer_in c.walk.pool (home u) at.1.0)

    tail_in : Within (c.walk.slot, u) v.pass.durable
    tail_in = subst (λ (z : Stand). StandsOn c.walk.slot z v) at.0 h.stand

    name_in : Within (c.walk.slot, key_of (call_at c v)) v.pass.names
    name_in = subst (λ (k : List ℕ). Within (c.walk.slot, k) v.pass.names) (sym (named_is c.job (key_at v.pass.names c.walk.slot) c.value)) h.named

  asks_link : (u : ℕ) → PutHolds (staged c (AtLink u)) v → Fits c.walk.pool (commits c.job c.value) → Asks p (LinkNext c.walk.slot u c.own (call_at c v)) v
  asks_link u h f =
      let value = value_is c.job (key_at v.pass.names c.walk.slot) c.value in (
        word_in u h.walk h.looks.0,
        record {
          client = h.walk.client;
          rest = h.owns.0;
          stock = h.owns.1;
          tail = tail_in u h.walk h.looks.0;
          name = name_in u h.walk h.looks.0;
          stored = λ j x q. let e = ap (λ (o : Option Value). nth (content o) j) (sym value) ∙ q in let l = nth_within (body c) j x e in ((h.fills.0.written j x l e).0, (h.fills.0.flushed j x l e).0);
          fits = subst (Fits p) (sym value) (subst (λ (q : Pool). Fits q (commits c.job c.value)) (sym of) f);
          call = h.looks.1;
        },
      )

  asks_from : (s : Stage) → s ≢ Over → PutHolds (staged c s) v → InRange c.walk.pool c.own × Fits c.walk.pool (commits c.job c.value) → (s ≡ Seeking → IsWithin c.walk.pool (word_of (walk_step c.walk))) → Asks p (put_step (staged c s) v) v
  asks_from (Storing j) is h own within = (subst (λ (q : Pool). IsWithin q (content_at (home c.own) j)) (sym of) (content_at_own j own h.fills.1), (h.walk.client, owned h.owns))
  asks_from (Flushing j) is h own within = (subst (λ (q : Pool). IsWithin q (content_at (home c.own) j)) (sym of) (content_at_own j own h.fills.1), (h.walk.client, owned h.owns))
  asks_from Seeking is h own within = walk_asks p c.walk v of h.walk h.looks (within refl)
  asks_from (AtMeta u) is h own within = (subst (λ (q : Pool). IsWithin q (content_at (home u) 0)) (sym of) (content_in c.walk.pool (home u) 0 h.looks.0.1.0 (omega arith)), (h.walk.client, tail_in u h.walk h.looks.0))
  asks_from (AtLink u) is h own within = asks_link u h own.1
  asks_from (Deciding u r) is h own within = (word_in u h.walk h.looks.0, record { client = h.walk.client; tail = tail_in u h.walk h.looks.0; name = name_in u h.walk h.looks.0; reply = h.looks.1 })
  asks_from (AtBad u) is h own within = (word_in u h.walk h.looks.0, (h.walk.client, tail_in u h.walk h.looks.0))
  asks_from (AtRaise u) is h own within = (word_in u h.walk h.looks.0, (h.walk.client, h.looks.1))
  asks_from AtShort is h own within = (subst (λ (q : Pool). c.walk.slot < q.slots) (sym of) h.looks.0, (h.walk.client, h.looks.1))
  asks_from Over is h own within = absurd (is refl)

pub put_asks : (p : Pool) (c : Putting) (v : View) → p ≡ c.walk.pool → c.stage ≢ Over → PutHolds c v → InRange c.walk.pool c.own × Fits c.walk.pool (commits c.job c.value) → (c.stage ≡ Seeking → IsWithin c.walk.pool (word_of (walk_step c.walk))) → Asks p (put_step c v) v
put_asks p c v of is h own within = asks_from p c v of c.stage is h own within

-- a step of a walk ends no call
plain_walk : (s : ℕ) (at : Stand) (x : ℕ) → IsOnWay at → IsPlain (step_at s at) x
plain_walk s at x h = by_way (λ z. IsPlain (step_at s z) x) at h tt tt (λ t. tt) (λ t u. tt)

-- a meta word of no version is that of a tag that has been passed
meta_says : (p : Pool) (y : ℕ) → IsMetaWord p y → kind_of y ≡ None → ⊥
meta_says p y h e = ⊎_elim
    (λ q. none_some (kind_of y) Tombstone e (ap kind_of q ∙ kind_meta (record { kind = Tombstone; flags = 0; length = 0 }) (refl, refl)))
    (λ q. let b = p.words_fit in none_some (kind_of y) IsValue e (ap kind_of q.2 ∙ kind_meta (record { kind = IsValue; flags = q.0.flags; length = length q.0.bytes }) (q.1.0, omega (arith, q.1.1)))) h

later : (p : Pool) (c : Putting) (a : Step) (v : View) (o : Option Open) (x : ℕ) (w : View) (o1 : Option Open) → c.walk.first ≡ false → Made p a c.walk.first v o x w o1 → Made p a false v o x w o1
later p c a v o x w o1 e = subst (λ (b : Bool). Made p a b v o x w o1) e

module _ (p : Pool) (c : Putting) (v : View) (o : Option Open) (x : ℕ) (w : View) (o1 : Option Open) (of : p ≡ c.walk.pool) where
  -- what the access may find
  tail_shown : (u : ℕ) → IsAt c u → IsShown p (NextOf (buffer_at (home u))) x → FindsFrom (AtBad u) c x
  tail_shown u at n = tail_finds c.walk u x at.0 (subst (λ (q : Pool). IsShown q (NextOf (buffer_at (home u))) x) of n)

  finds_from : (s : Stage) → s ≢ Over → PutHolds (staged c s) v → Made p (put_step (staged c s) v) c.walk.first v o x w o1 → FindsFrom s c x
  finds_from (Storing j) is h made = h.fills.1
  finds_from (Flushing j) is h made = h.fills.1
  finds_from Seeking is h made = walk_finds p c.walk v o x w o1 of h.walk h.looks made
  finds_from (AtMeta u) is h made = tt
  finds_from (AtLink u) is h made = tail_shown u h.looks.0 made.told.number
  finds_from (Deciding u r) is h made = tail_shown u h.looks.0 made.told.number
  finds_from (AtBad u) is h made = tail_shown u h.looks.0 made.told.number
  finds_from (AtRaise u) is h made = tt
  finds_from AtShort is h made = tt
  finds_from Over is h made = absurd (is refl)

  -- what stays where the access ended no call
  module _ (a : Step) (made : Made p a false v o x w o1) (plain : IsPlain a x) where
    onward : (n : Walking) → n.pool ≡ c.walk.pool → n.first ≡ false → (rest : List ℕ) × (v.pass.stock ≡ c.own ∷ rest) → (s : Stage) → Filled (staged c s) (length (body c)) (length (body c)) v
        → suc (length v.pass.since) ≤ 2 * length (body c) + 5 * n.turns + since_turn n.stand → Onward c n w
    onward n ep ef own s fills cost =
        let k = kept p a false v o x w o1 made plain in let since = (stepped p a false v o x w o1 made).since in record {
          pool = ep;
          first = ef;
          own = (own.0, k.stock ∙ own.1);
          fills = λ e eo eb. filled_kept (staged c s) e (length (body c)) (length (body c)) v w (act_of a x) eo eb k.written k.flushed since fills;
          spent = let q = one_more false v w (act_of a x) (length v.pass.since) since (omega arith) in omega arith;
        }

  module _ (fit : length (body c) ≤ c.walk.pool.words + 1) where
    abbrev Leads : Stage → Walking → PutTurn → Type 0
    Leads s n r = Went p (staged c s) (walked c n) v o w o1 r

    -- a step of the walk
    seeks : PutHolds (staged c Seeking) v → Made p (walk_step c.walk) c.walk.first v o x w o1 → (r : PutTurn) → Came c.walk x r → Leads Seeking (goes_on c.walk x) r
    seeks h made r came =
        let n : Walking = goes_on c.walk x in
        let root : c.walk.stand ≡ AtRoot → (t : ℕ) × (root_of x ≡ Some t) = λ e. (subst (λ (z : Stand). Says p made.now.words (step_at c.walk.slot z) v x) e made.told.says) _ h.walk.named in
        let paid : Paid c.walk n = step_paid c.walk x h.looks root in
        let spent : length v.pass.since ≤ behind_it c + since_turn c.walk.stand = subst (λ (b : Bool). cond b 0 (length v.pass.since) ≤ behind_it c + since_turn c.walk.stand) h.fills.1 h.spent in
        let cost = paid.cost in
        let on = onward (walk_step c.walk) (later p c (walk_step c.walk) v o x w o1 h.fills.1 made) (plain_walk c.walk.slot c.walk.stand x h.looks) n paid.pool paid.first h.owns Seeking h.fills.0 (omega arith) in
        subst (Leads Seeking n) (sym came.is) (walked_went p c Seeking n v o x w o1 fit tt on came.turn (walk_goes p c.walk v o x w o1 of h.walk h.looks made n came.turn refl came.answers))

    -- an access at the tail that showed it not unlinked
    leaves : (s : Stage) (u : ℕ) (a : Step) → IsBefore s → IsAt c u → c.walk.first ≡ false → (rest : List ℕ) × (v.pass.stock ≡ c.own ∷ rest) → Filled (staged c s) (length (body c)) (length (body c)) v → cond c.walk.first 0 (length v.pass.since) ≤ behind_it c + 4
        → Made p a false v o x w o1 → IsPlain a x → next_code (next_of x) ≡ x → x ≢ unlinked u → ShowsNext c.walk w x → (r : PutTurn) → Came c.walk x r → Leads s (goes_on c.walk x) r
    leaves s u a before at first own fills most made plain code d shows r came =
        let n : Walking = goes_on c.walk x in
        let turned : Turned c.walk n = left_turns c.walk u x at.0 code d in
        let spent : length v.pass.since ≤ behind_it c + 4 = subst (λ (b : Bool). cond b 0 (length v.pass.since) ≤ behind_it c + 4) first most in
        let turns = turned.turns in
        let on = onward a made plain n turned.pool turned.first own s fills (omega arith) in
        subst (Leads s n) (sym came.is) (walked_went p c s n v o x w o1 fit before on came.turn (tail_goes c.walk u w x at.0 shows at.1 n came.turn refl came.answers))

    -- how the call goes on where the tail was found unlinked, and where it was left
    hit_on : (u : ℕ) (at : Stage) → x ≡ unlinked u → unless_left c u at x ≡ staged c at
    hit_on u at e = ap (λ (b : Bool). cond b (staged c at) (walked c (goes_on c.walk x))) (eq-eqb x (unlinked u) e)

    left_on : (u : ℕ) (at : Stage) → x ≢ unlinked u → unless_left c u at x ≡ walked c (goes_on c.walk x)
    left_on u at d = ap (λ (b : Bool). cond b (staged c at) (walked c (goes_on c.walk x))) (ne_eqb x (unlinked u) d)

    abbrev Ends : Stage → PutTurn → Type 0
    Ends s r = Went p (staged c s) (put_on (staged c s) x) v o w o1 r

    went_from : (s : Stage) → s ≢ Over → PutHolds (staged c s) v → Made p (put_step (staged c s) v) c.walk.first v o x w o1 → (r : PutTurn) → AnswersFrom s c x r → Ends s r
    went_from (Storing j) is h made r a = subst (Ends (Storing j)) (sym a) (stored p c v o x w o1 fit j h made)
    went_from (Flushing j) is h made r a = subst (Ends (Flushing j)) (sym a) (flushed p c v o x w o1 fit j h made)
    went_from Seeking is h made r a = seeks h made r a
    went_from (AtMeta u) is h made r a = subst (Ends (AtMeta u)) (sym a) (looked p c v o x w o1 fit u h made)
    went_from (AtLink u) is h made r (inl (e, t, own, q)) =
        let m = later p c _ v o x w o1 h.fills.1 made in
        subst (Ends (AtLink u)) (sym q) (subst (λ (z : Putting). Went p (staged c (AtLink u)) z v o w o1 (Decided t)) (sym (hit_on u (AtRaise u) e))
        (linked p c v o w o1 fit u h (subst (λ (y : ℕ). Made p (LinkNext c.walk.slot u c.own (call_at c v)) false v o y w o1) e m) t own))
    went_from (AtLink u) is h made r (inr (d, came)) =
        let m = later p c _ v o x w o1 h.fills.1 made in
        subst (λ (z : Putting). Went p (staged c (AtLink u)) z v o w o1 r) (sym (left_on u (AtRaise u) d))
        (leaves (AtLink u) u _ tt h.looks.0 h.fills.1 h.owns h.fills.0 h.spent m d made.told.number.0 d (shows_link c.walk u p v o x w o1 c.own (call_at c v) h.walk h.looks.0.0 h.fills.1 of m d) r came)
    went_from (Deciding u b) is h made r (inl (e, t, own, q)) =
        let m = later p c _ v o x w o1 h.fills.1 made in
        subst (λ (z : Putting). Went p (staged c (Deciding u b)) z v o w o1 r) (sym (hit_on u Over e))
        (decided_by p c v o w o1 fit u b t r h (subst (λ (y : ℕ). Made p (DecideNext c.walk.slot u (call_at c v) b) false v o y w o1) e m) own q)
    went_from (Deciding u b) is h made r (inr (d, came)) =
        let m = later p c _ v o x w o1 h.fills.1 made in
        subst (λ (z : Putting). Went p (staged c (Deciding u b)) z v o w o1 r) (sym (left_on u Over d))
        (leaves (Deciding u b) u _ tt h.looks.0 h.fills.1 h.owns h.fills.0 h.spent m d made.told.number.0 d (shows_decide c.walk u p v o x w o1 (call_at c v) b h.walk h.looks.0.0 h.fills.1 of m d) r came)
    went_from (AtBad u) is h made r came =
        let m = later p c _ v o x w o1 h.fills.1 made in
        let d : x ≢ unlinked u = λ e. meta_says p h.looks.1.0 (made.told.says e h.looks.1.0 h.looks.1.1) h.looks.1.2 in
        leaves (AtBad u) u _ tt h.looks.0 h.fills.1 h.owns h.fills.0 h.spent m tt made.told.number.0 d (shows_load c.walk u p v o x w o1 h.walk h.looks.0.0 h.fills.1 of m) r came
    went_from (AtRaise u) is h made r a = subst (Ends (AtRaise u)) (sym a) (raised p c v o x w o1 fit u of h made)
    went_from AtShort is h made r (t, own, a) = subst (Ends AtShort) (sym a) (shortened p c v o x w o1 fit of h (later p c _ v o x w o1 h.fills made) t own)
    went_from Over is h made r a = absurd (is refl)

-- the number that came back stands for the one that was found: a store goes on alike whatever was there
stands_for : (s : Stage) (c : Putting) (x y : ℕ) → OnFinding s (x ≡ y) → (FindsFrom s c y → FindsFrom s c x) × (put_on (staged c s) x ≡ put_on (staged c s) y) × ((r : PutTurn) → AnswersFrom s c x r → AnswersFrom s c y r)
stands_for s c x y = by s
  where
    same : (s : Stage) → x ≡ y → (FindsFrom s c y → FindsFrom s c x) × (put_on (staged c s) x ≡ put_on (staged c s) y) × ((r : PutTurn) → AnswersFrom s c x r → AnswersFrom s c y r)
    same s e = (subst (FindsFrom s c) (sym e), ap (put_on (staged c s)) e, λ r. subst (λ (z : ℕ). AnswersFrom s c z r) e)

    by : (s : Stage) → OnFinding s (x ≡ y) → (FindsFrom s c y → FindsFrom s c x) × (put_on (staged c s) x ≡ put_on (staged c s) y) × ((r : PutTurn) → AnswersFrom s c x r → AnswersFrom s c y r)
    by (Storing j) e = (λ h. h, refl, λ r h. h)
    by (Flushing j) e = (λ h. h, refl, λ r h. h)
    by AtShort e = (λ h. h, refl, λ r h. h)
    by Seeking e = same Seeking e
    by (AtMeta u) e = same (AtMeta u) e
    by (AtLink u) e = same (AtLink u) e
    by (Deciding u r) e = same (Deciding u r) e
    by (AtBad u) e = same (AtBad u) e
    by (AtRaise u) e = same (AtRaise u) e
    by Over e = same Over e

module _ (p : Pool) (c : Putting) (v : View) (o : Option Open) (x y : ℕ) (w : View) (o1 : Option Open) (of : p ≡ c.walk.pool) (is : c.stage ≢ Over) (h : PutHolds c v) (made : Made p (put_step c v) c.walk.first v o y w o1) (back : OnFinding c.stage (x ≡ y)) where
  pub put_finds : FindsFrom c.stage c x
  put_finds = (stands_for c.stage c x y back).0 (finds_from p c v o y w o1 of c.stage is h made)

  pub put_goes : (n : Putting) → n ≡ put_on c x → n ≡ put_on c y
  put_goes n e = e ∙ (stands_for c.stage c x y back).1

  pub put_went : length (body c) ≤ c.walk.pool.words + 1 → (n : Putting) (r : PutTurn) → n ≡ put_on c x → AnswersFrom c.stage c x r → Went p c n v o w o1 r
  put_went fit n r e a = subst (λ (z : Putting). Went p c z v o w o1 r) (sym (put_goes n e)) (went_from p c v o y w o1 of fit c.stage is h made r ((stands_for c.stage c x y back).2 r a))
