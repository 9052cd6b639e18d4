-- What a step of a put says at the tail: the meta word, the exchange, the load that decides, the raise and the store of the shortcut.
use Rattle.std.proofs.Common.{◌≡◌, ℕ, ◌+◌, ◌<◌, ◌≤◌, ◌==◌, List, [], ◌∷◌, ◌++◌, length, Bool, true, false, cond, eqb, refl, sym, ap, ◌∙◌, inl, inr, arith, subst, eqb-true, eq-eqb}
use Rattle.std.specs.Prelude.{◌≢◌, Option, Some, None}
use Rattle.clover_words.specs.declared.meta.Kind.{Kind}
use Rattle.clover_words.specs.declared.meta.Kind.TheVariants.{Value as IsValue, Tombstone}
use Rattle.clover_words.specs.declared.pool.Pool.{Pool}
use Rattle.clover_words.specs.declared.word.Word.TheVariants.{Meta}
use Rattle.clover_words.specs.Meta.{meta_word, tombstone}
use Rattle.clover_words.specs.Tag.{TagParts, tag_number, home}
use Rattle.clover_words.specs.Version.{unlinked, buffer_at}
use Rattle.clover_map.specs.declared.bytes.Value.{Value}
use Rattle.clover_map.specs.declared.call.Reply.{Reply}
use Rattle.clover_map.specs.declared.call.Reply.TheVariants.{Absent, Differs, Stored as IsStored, Found as IsFound, Deleted as IsDeleted}
use Rattle.clover_port.specs.Told.{Open, Made}
use Rattle.clover_rule.specs.Accesses.{SawLive, SawFor, StoredBoth, Decides, Committed, AtTail}
use Rattle.clover_rule.specs.Content.{InRange, content}
use Rattle.clover_rule.specs.Knowing.{SawTombstone, SawValue, link_view}
use Rattle.clover_rule.specs.Lists.{nth, Within}
use Rattle.clover_rule.specs.Asks.{MayCall, MayReply}
use Rattle.clover_rule.specs.Learned.{turn_at, turn_of, counted, rest_of, decided, seen}
use Rattle.clover_rule.specs.Steps.{Step, LoadContent, LinkNext, DecideNext, RaiseNext, StoreShort, value_of, reply_of, act_of, client}
use Rattle.clover_rule.specs.Words.{next_of}
use Rattle.clover_rule.specs.declared.access.Act.{Act}
use Rattle.clover_rule.specs.declared.access.Act.TheVariants.{Load}
use Rattle.clover_rule.specs.declared.view.View.{View}
use Rattle.clover_rule.proofs.Steps.{each_within, within_last}
use Rattle.clover_rule.proofs.Tools.{nth_within}
use Rattle.clover_walk.specs.Ending.{Ended}
use Rattle.clover_walk.specs.Walking.{Walking, Stand, StandsOn, Holds, begun, budget, key_at, most_accesses}
use Rattle.clover_walk.proofs.Endings.{Stepped, stepped, Copies, copied_one, at_tail, commits as committed_by}
use Rattle.clover_put.specs.Answering.{IsBefore, Stores, Deletes}
use Rattle.clover_put.specs.Finding.{Tells}
use Rattle.clover_put.specs.Going.{Went, done_with}
use Rattle.clover_put.specs.Holding.{Filled, Fills, Owns, Looks, Reads, SawReply, PutHolds, behind_it, most}
use Rattle.clover_put.specs.Putting.{Putting, Stage, AtMeta, AtLink, Deciding, AtBad, AtRaise, AtShort, Over, body, call_of, call_at, commits, kind_of, on_meta, on_value, staged}
use Rattle.clover_put.specs.declared.job.Job.{Job}
use Rattle.clover_put.specs.declared.job.Job.TheVariants.{Put, Delete, Swap}
use Rattle.clover_put.specs.declared.turn.PutTurn.{PutTurn}
use Rattle.clover_put.specs.declared.turn.PutTurn.TheVariants.{More, Decided, Stored, Deleted}
use Rattle.clover_put.proofs.Body.{kind_value, kind_dead}
use Rattle.clover_put.proofs.Known.{walk_kept, filled_kept}
use Rattle.clover_put.proofs.Done.{one_more, within_bound, ahead_on, bound_on, goes_more}

-- a walk of which the call has made an access already
holds_later : (w : Walking) (v : View) → w.first ≡ false → Holds (begun w) v → Holds w v
holds_later w v e h = subst (λ (b : Bool). Holds (record w { first = b }) v) (sym e) h

-- what the meta word tells of the tail
saw_value : (s u y : ℕ) (v w : View) → kind_of y ≡ Some IsValue → w.pass.copied ≡ (s, record { tag = u; place = 0; word = y }) ∷ v.pass.copied → SawValue w s u
saw_value s u y v w e ec = let k = kind_value y e in record { flags = k.0; size = k.1; flags_fit = k.2; size_fits = k.3; copied = subst (Within (s, record { tag = u; place = 0; word = meta_word (record { kind = IsValue; flags = k.0; length = k.1 }) })) (sym ec) (inl (ap (λ (n : ℕ). (s, record { tag = u; place = 0; word = n })) k.4)) }

saw_live : (u y : ℕ) (xs ys : List Act) → kind_of y ≡ Some IsValue → ys ≡ xs ++ Load (Meta (buffer_at (home u))) y ∷ [] → SawLive u ys
saw_live u y xs ys e es = let k = kind_value y e in (k.0, k.1, k.2, k.3, subst (λ (n : ℕ). Within (Load (Meta (buffer_at (home u))) n) ys) k.4 (subst (Within (Load (Meta (buffer_at (home u))) y)) (sym es) (within_last (Load (Meta (buffer_at (home u))) y) xs)))

may_miss : (j : Job) (k : List ℕ) (x : Value) (w : View) (s u : ℕ) → Reads j → SawTombstone w s u → MayReply w s u (call_of j k x) Absent
may_miss Put k x w s u r h = absurd r
may_miss Delete k x w s u r h = h
may_miss (Swap t) k x w s u r h = h

-- what a job commits
pub value_is : (j : Job) (k : List ℕ) (x : Value) → value_of (call_of j k x) ≡ commits j x
value_is Put k x = refl
value_is Delete k x = refl
value_is (Swap t) k x = refl

decides_link : (p : Pool) (ws : List ℕ) (names : List (ℕ × List ℕ)) (acts : List Act) (j : Job) (k : List ℕ) (x : Value) (t : ℕ) → Committed p ws (call_of j k x) t acts → Decides p ws names acts (call_of j k x) (reply_of t (call_of j k x))
decides_link p ws names acts Put k x t h = h
decides_link p ws names acts Delete k x t h = h
decides_link p ws names acts (Swap e) k x t h = h

-- a last load at the tail decides the reply that the call may give by what it has read there
decides_reply : (p : Pool) (ws : List ℕ) (names : List (ℕ × List ℕ)) (acts : List Act) (j : Job) (k : List ℕ) (x : Value) (v : View) (s u : ℕ) (a : Reply) → MayReply v s u (call_of j k x) a → AtTail p ws (call_of j k x) u (SawReply u a) acts → Decides p ws names acts (call_of j k x) a
decides_reply p ws names acts Put k x v s u a m h = absurd m
decides_reply p ws names acts Delete k x v s u Absent m h = inl (u, h)
decides_reply p ws names acts Delete k x v s u (IsStored t) m h = absurd m
decides_reply p ws names acts Delete k x v s u (IsFound t y) m h = absurd m
decides_reply p ws names acts Delete k x v s u (IsDeleted t) m h = absurd m
decides_reply p ws names acts Delete k x v s u (Differs t) m h = absurd m
decides_reply p ws names acts (Swap e) k x v s u Absent m h = inl (u, h)
decides_reply p ws names acts (Swap e) k x v s u (IsStored t) m h = absurd m
decides_reply p ws names acts (Swap e) k x v s u (IsFound t y) m h = absurd m
decides_reply p ws names acts (Swap e) k x v s u (IsDeleted t) m h = absurd m
decides_reply p ws names acts (Swap e) k x v s u (Differs t) m h = subst (λ (n : ℕ). (n ≢ tag_number e) × AtTail p ws (call_of (Swap e) k x) n (SawLive n) acts) (sym m.0) (m.1, h)

-- the tag of a tail that differs is the tail's
differs_is : (j : Job) (k : List ℕ) (x : Value) (v : View) (s u t : ℕ) → MayReply v s u (call_of j k x) (Differs t) → t ≡ u
differs_is Put k x v s u t m = absurd m
differs_is Delete k x v s u t m = absurd m
differs_is (Swap e) k x v s u t m = m.0

-- both copies of the whole version are stored
stored_both : (c : Putting) (v : View) (k : List ℕ) → Filled c (length (body c)) (length (body c)) v → StoredBoth c.own (value_of (call_of c.job k c.value)) v.pass.since
stored_both c v k f j x q =
    let e = ap (λ (o : Option Value). nth (content o) j) (sym (value_is c.job k c.value)) ∙ q in
    let l = nth_within (body c) j x e in
    ((f.written j x l e).1, (f.flushed j x l e).1)

module _ (p : Pool) (c : Putting) (v : View) (o : Option Open) (x : ℕ) (w : View) (o1 : Option Open) (fit : length (body c) ≤ c.walk.pool.words + 1) (u : ℕ) where
  -- the load of the tail's meta word
  module _ (h : PutHolds (staged c (AtMeta u)) v) (made : Made p (LoadContent c.walk.slot u 0) c.walk.first v o x w o1) where
    copies : Copies c.walk.slot u 0 x v w
    copies = copied_one p c.walk.slot u 0 c.walk.first v o x w o1 made

    s : Stepped (LoadContent c.walk.slot u 0) c.walk.first x v w
    s = stepped p (LoadContent c.walk.slot u 0) c.walk.first v o x w o1 made

    since : w.pass.since ≡ v.pass.since ++ Load (Meta (buffer_at (home u))) x ∷ []
    since = s.since ∙ ap (λ (b : Bool). cond b [] v.pass.since ++ Load (Meta (buffer_at (home u))) x ∷ []) h.fills.1

    held : Holds c.walk w
    held = holds_later c.walk w h.fills.1 (walk_kept c.walk v w _ x h.walk s refl (λ q i. subst (Within q) (sym copies.durable) i) (λ l i. subst (Within l) (sym copies.links) i))

    -- a stage behind it, of a call that has committed nothing
    behind : (at : Stage) → Owns at (staged c at) w → Fills at (staged c at) w → Looks at (staged c at) w → behind_it c + 4 ≤ most at (staged c at) → PutHolds (staged c at) w
    behind at owns fills looks least =
        let spent = one_more c.walk.first v w _ (behind_it c + 3) s.since h.spent in
        record { walk = held; owns = owns; fills = fills; looks = looks; spent = subst (λ (b : Bool). cond b 0 (length w.pass.since) ≤ most at (staged c at)) (sym h.fills.1) (omega arith) }

    own : (rest : List ℕ) × (w.pass.stock ≡ c.own ∷ rest)
    own = (h.owns.0, copies.stock ∙ h.owns.1)

    fills : (at : Stage) → Filled (staged c at) (length (body c)) (length (body c)) w × (c.walk.first ≡ false)
    fills at = (filled_kept (staged c (AtMeta u)) (staged c at) (length (body c)) (length (body c)) v w _ refl refl copies.written copies.flushed since h.fills.0, h.fills.1)

    -- a tail that has a value
    live : kind_of x ≡ Some IsValue → (j : Job) → c.job ≡ j → PutHolds (staged c (on_value j u)) w
    live e Put ej = absurd (subst Reads ej h.looks.1)
    live e Delete ej = behind (AtLink u) own (fills (AtLink u)) (
      h.looks.0,
      subst (λ (j : Job). MayCall w c.walk.slot u (call_of j (key_at w.pass.names c.walk.slot) c.value)) (sym ej) (saw_value c.walk.slot u x v w e copies.copied),
      subst (λ (j : Job). SawFor u (call_of j (key_at w.pass.names c.walk.slot) c.value) w.pass.since) (sym ej) (saw_live u x v.pass.since w.pass.since e since),
    ) (omega arith)
    live e (Swap t) ej = swap (eqb (tag_number t) u) refl
      where
        swap : (b : Bool) → eqb (tag_number t) u ≡ b → PutHolds (staged c (cond b (AtLink u) (Deciding u (Differs u)))) w
        swap true q = behind (AtLink u) own (fills (AtLink u)) (
          h.looks.0,
          subst (λ (j : Job). MayCall w c.walk.slot u (call_of j (key_at w.pass.names c.walk.slot) c.value)) (sym ej) (eqb-true (tag_number t) u q, saw_value c.walk.slot u x v w e copies.copied),
          subst (λ (j : Job). SawFor u (call_of j (key_at w.pass.names c.walk.slot) c.value) w.pass.since) (sym ej) (eqb-true (tag_number t) u q, saw_live u x v.pass.since w.pass.since e since),
        ) (omega arith)
        swap false q = behind (Deciding u (Differs u)) own (fills (Deciding u (Differs u))) (
          h.looks.0,
          subst (λ (j : Job). MayReply w c.walk.slot u (call_of j (key_at w.pass.names c.walk.slot) c.value) (Differs u)) (sym ej) (refl, (λ z. absurd (let y1 = eq-eqb (tag_number t) u (sym z) in cc)), saw_value c.walk.slot u x v w e copies.copied),
          saw_live u x v.pass.since w.pass.since e since,
        ) (omega arith)

    stands : (b : Option Kind) → kind_of x ≡ b → PutHolds (staged c (on_meta c.job u b)) w
    stands (Some IsValue) e = live e c.job refl
    stands (Some Tombstone) e = behind (Deciding u Absent) own (fills (Deciding u Absent)) (
      h.looks.0,
      may_miss c.job (key_at w.pass.names c.walk.slot) c.value w c.walk.slot u h.looks.1 (subst (Within (c.walk.slot, record { tag = u; place = 0; word = tombstone })) (sym copies.copied) (inl (ap (λ (n : ℕ). (c.walk.slot, record { tag = u; place = 0; word = n })) (kind_dead x e)))),
      subst (λ (n : ℕ). Within (Load (Meta (buffer_at (home u))) n) w.pass.since) (kind_dead x e) (subst (Within (Load (Meta (buffer_at (home u))) x)) (sym since) (within_last (Load (Meta (buffer_at (home u))) x) v.pass.since)),
    ) (omega arith)
    stands None e = behind (AtBad u) own (fills (AtBad u)) (h.looks.0, (x, subst (Within (c.walk.slot, record { tag = u; place = 0; word = x })) (sym copies.copied) (inl refl), e)) (omega arith)

    before_value : (j : Job) → IsBefore (on_value j u)
    before_value Put = tt
    before_value Delete = tt
    before_value (Swap t) = either (eqb (tag_number t) u)
      where
        either : (b : Bool) → IsBefore (cond b (AtLink u) (Deciding u (Differs u)))
        either true = tt
        either false = tt

    before : (b : Option Kind) → IsBefore (on_meta c.job u b)
    before (Some IsValue) = before_value c.job
    before (Some Tombstone) = tt
    before None = tt

    pub looked : Went p (staged c (AtMeta u)) (staged c (on_meta c.job u (kind_of x))) v o w o1 More
    looked = goes_more (staged c (AtMeta u)) (staged c (on_meta c.job u (kind_of x))) w (stands (kind_of x) refl) h.fills.1 refl refl fit p v o o1 (before (kind_of x))

  -- the raise of the link
  module _ (here : p ≡ c.walk.pool) (h : PutHolds (staged c (AtRaise u)) v) (made : Made p (RaiseNext (record { slot = c.walk.slot; from = u; to = c.own })) c.walk.first v o x w o1) where
    sr : Stepped (RaiseNext (record { slot = c.walk.slot; from = u; to = c.own })) c.walk.first x v w
    sr = stepped p (RaiseNext (record { slot = c.walk.slot; from = u; to = c.own })) c.walk.first v o x w o1 made

    durable : w.pass.durable ≡ (c.walk.slot, c.own) ∷ v.pass.durable
    durable = ap (λ (z : View). z.pass.durable) made.told.next

    known : Within (c.walk.slot, c.own) w.pass.durable
    known = subst (Within (c.walk.slot, c.own)) (sym durable) (inl refl)

    raised_holds : PutHolds (staged c AtShort) w
    raised_holds = record {
      walk = holds_later c.walk w h.fills (walk_kept c.walk v w _ x h.walk sr refl (λ q i. subst (Within q) (sym durable) (inr i)) (λ l i. subst (Within l) (sym (ap (λ (z : View). z.pass.links) made.told.next)) i));
      owns = tt;
      fills = h.fills;
      looks = (subst (λ (q : Pool). c.walk.slot < q.slots) here (each_within (λ (q : ℕ × ℕ). (q.0 < p.slots) × InRange p q.1) (c.walk.slot, c.own) w.pass.durable made.told.after.durable known).0, known);
      spent = let q = one_more c.walk.first v w _ (behind_it c + 5) sr.since h.spent in subst (λ (b : Bool). cond b 0 (length w.pass.since) ≤ behind_it c + 6) (sym h.fills) (omega arith);
    }

    pub raised : Went p (staged c (AtRaise u)) (staged c AtShort) v o w o1 More
    raised = goes_more (staged c (AtRaise u)) (staged c AtShort) w raised_holds h.fills refl refl fit p v o o1 refl

-- the last access of a call, which makes no turn
module _ (p : Pool) (c : Putting) (v : View) (o : Option Open) (x : ℕ) (w : View) (o1 : Option Open) (fit : length (body c) ≤ c.walk.pool.words + 1) (a : Step) (first : c.walk.first ≡ false) (on : Holds c.walk v) (made : Made p a false v o x w o1) (still : turn_of a x ≡ 0) where
  turns_last : w.pass.turns ≡ c.walk.turns
  turns_last =
      let b : v.pass.turns ≡ c.walk.turns = subst (λ (b : Bool). cond b 0 v.pass.turns ≡ c.walk.turns) first on.turns in
      let t = (stepped p a false v o x w o1 made).turns in omega arith

  ahead_last : w.pass.turns < budget c.walk.pool
  ahead_last = subst (λ (n : ℕ). n < budget c.walk.pool) (sym turns_last) on.below

  bound_last : cond c.walk.first 0 (length v.pass.since) ≤ behind_it c + 6 → length w.pass.since ≤ most_accesses c.walk.pool w.pass.turns
  bound_last spent =
      let q = one_more false v w _ (behind_it c + 6) (stepped p a false v o x w o1 made).since (subst (λ (b : Bool). cond b 0 (length v.pass.since) ≤ behind_it c + 6) first spent) in
      within_bound c (length w.pass.since) w.pass.turns (omega arith) turns_last fit

-- the tail's next word was found unlinked
module _ (p : Pool) (c : Putting) (v : View) (o : Option Open) (w : View) (o1 : Option Open) (fit : length (body c) ≤ c.walk.pool.words + 1) (u : ℕ) where
  abbrev key : List ℕ
  key = key_at v.pass.names c.walk.slot

  hit : (unlinked u == unlinked u) ≡ true
  hit = eq-eqb (unlinked u) (unlinked u) refl

  no_turn : turn_at u (unlinked u) ≡ 0
  no_turn = ap (λ (b : Bool). cond b 0 1) hit

  -- by the exchange
  module _ (h : PutHolds (staged c (AtLink u)) v) (made : Made p (LinkNext c.walk.slot u c.own (call_at c v)) false v o (unlinked u) w o1) where
    sl : Stepped (LinkNext c.walk.slot u c.own (call_at c v)) false (unlinked u) v w
    sl = stepped p (LinkNext c.walk.slot u c.own (call_at c v)) false v o (unlinked u) w o1 made

    next : w ≡ counted false (act_of (LinkNext c.walk.slot u c.own (call_at c v)) (unlinked u)) (turn_at u (unlinked u)) (link_view v made.now.history (client v) c.walk.slot u c.own (call_at c v) (reply_of c.own (call_at c v)) (rest_of v.pass.stock))
    next = made.told.next ∙ ap (λ (b : Bool). counted false (act_of (LinkNext c.walk.slot u c.own (call_at c v)) (unlinked u)) (turn_at u (unlinked u)) (cond b (link_view v made.now.history (client v) c.walk.slot u c.own (call_at c v) (reply_of c.own (call_at c v)) (rest_of v.pass.stock)) (seen c.walk.slot u v (next_of (unlinked u))))) hit

    linked_holds : PutHolds (staged c (AtRaise u)) w
    linked_holds = record {
      walk = holds_later c.walk w h.fills.1 (walk_kept c.walk v w _ (unlinked u) h.walk (subst (λ (b : Bool). Stepped (LinkNext c.walk.slot u c.own (call_at c v)) b (unlinked u) v w) (sym h.fills.1) sl) no_turn
          (λ q i. subst (Within q) (sym (ap (λ (z : View). z.pass.durable) next)) i) (λ l i. subst (Within l) (sym (ap (λ (z : View). z.pass.links) next)) (inr i)));
      owns = tt;
      fills = h.fills.1;
      looks = (h.looks.0, subst (Within (record { slot = c.walk.slot; from = u; to = c.own })) (sym (ap (λ (z : View). z.pass.links) next)) (inl refl));
      spent = let q = one_more false v w _ (behind_it c + 4) sl.since (subst (λ (b : Bool). cond b 0 (length v.pass.since) ≤ behind_it c + 4) h.fills.1 h.spent) in subst (λ (b : Bool). cond b 0 (length w.pass.since) ≤ behind_it c + 5) (sym h.fills.1) (omega arith);
    }

    pub linked : (t : TagParts) → tag_number t ≡ c.own → Went p (staged c (AtLink u)) (staged c (AtRaise u)) v o w o1 (Decided t)
    linked t own = record {
      answer = (u, refl, refl, own);
      decided = record { slot = c.walk.slot; tail = u; made = made; decides = decides_link p made.now.words v.pass.names w.pass.since c.job key c.value c.own (committed_by p c.walk.slot u c.own (call_at c v) v o w o1 made (stored_both (staged c (AtLink u)) v key h.fills.0) h.looks.2) };
      known = tt;
      absent = tt;
      differs = tt;
      behind = tt;
      ahead = ahead_on (staged c (AtLink u)) (staged c (AtRaise u)) w linked_holds h.fills.1 refl refl fit;
      stands = linked_holds;
      bound = bound_on (staged c (AtLink u)) (staged c (AtRaise u)) w linked_holds h.fills.1 refl refl fit;
    }

  -- by the load that decides the reply
  module _ (a : Reply) (h : PutHolds (staged c (Deciding u a)) v) (made : Made p (DecideNext c.walk.slot u (call_at c v) a) false v o (unlinked u) w o1) where
    abbrev decide : Step
    decide = DecideNext c.walk.slot u (call_at c v) a

    ended : Ended p (call_at c v) a v o w o1
    ended = record { slot = c.walk.slot; tag = u; made = made; decides = decides_reply p made.now.words v.pass.names w.pass.since c.job key c.value v c.walk.slot u a h.looks.1 (at_tail p c.walk.slot u (call_at c v) a (SawReply u a) v o w o1 made h.looks.2) }

    there : InRange c.walk.pool u × Within (c.walk.slot, u) w.pass.durable
    there =
        let kept : w.pass.durable ≡ v.pass.durable = ap (λ (z : View). z.pass.durable) made.told.next ∙ ap (λ (b : Bool). (cond b (decided v made.now.history u (call_at c v) a) (seen c.walk.slot u v (next_of (unlinked u)))).pass.durable) hit in
        (h.looks.0.1, subst (Within (c.walk.slot, u)) (sym kept) (subst (λ (z : Stand). StandsOn c.walk.slot z v) h.looks.0.0 h.walk.stand))

    ahead_decided : w.pass.turns < budget c.walk.pool
    ahead_decided = ahead_last p c v o (unlinked u) w o1 fit decide h.fills.1 h.walk made no_turn

    bound_decided : length w.pass.since ≤ most_accesses c.walk.pool w.pass.turns
    bound_decided = bound_last p c v o (unlinked u) w o1 fit decide h.fills.1 h.walk made no_turn (let s = h.spent in omega arith)

  pub decided_by : (a : Reply) (t : TagParts) (r : PutTurn) → PutHolds (staged c (Deciding u a)) v → Made p (DecideNext c.walk.slot u (call_at c v) a) false v o (unlinked u) w o1 → tag_number t ≡ u → Tells a t r → Went p (staged c (Deciding u a)) (staged c Over) v o w o1 r
  decided_by Absent t r h made e tells = subst (Went p (staged c (Deciding u Absent)) (staged c Over) v o w o1) (sym tells) (record {
    answer = (ap (λ (n : ℕ). Deciding n Absent) (sym e), refl);
    decided = tt;
    known = subst (λ (n : ℕ). InRange c.walk.pool n × Within (c.walk.slot, n) w.pass.durable) (sym e) (there Absent h made);
    absent = ended Absent h made;
    differs = tt;
    behind = tt;
    ahead = ahead_decided Absent h made;
    stands = tt;
    bound = bound_decided Absent h made;
  })
  decided_by (Differs d) t r h made e tells =
      let same : d ≡ tag_number t = differs_is c.job key c.value v c.walk.slot u d h.looks.1 ∙ sym e in
      subst (Went p (staged c (Deciding u (Differs d))) (staged c Over) v o w o1) (sym tells) (record {
        answer = ((λ i. Deciding (sym e i) (Differs (same i))), refl);
        decided = tt;
        known = subst (λ (n : ℕ). InRange c.walk.pool n × Within (c.walk.slot, n) w.pass.durable) (sym e) (there (Differs d) h made);
        absent = tt;
        differs = subst (λ (n : ℕ). Ended p (call_at c v) (Differs n) v o w o1) same (ended (Differs d) h made);
        behind = tt;
        ahead = ahead_decided (Differs d) h made;
        stands = tt;
        bound = bound_decided (Differs d) h made;
      })
  decided_by (IsStored d) t r h made e tells = absurd tells
  decided_by (IsFound d y) t r h made e tells = absurd tells
  decided_by (IsDeleted d) t r h made e tells = absurd tells

-- the store of the shortcut
module _ (p : Pool) (c : Putting) (v : View) (o : Option Open) (x : ℕ) (w : View) (o1 : Option Open) (fit : length (body c) ≤ c.walk.pool.words + 1) (here : p ≡ c.walk.pool) (h : PutHolds (staged c AtShort) v) (made : Made p (StoreShort c.walk.slot c.own) false v o x w o1) (t : TagParts) (own : tag_number t ≡ c.own) where
  abbrev store : Step
  store = StoreShort c.walk.slot c.own

  ahead_short : w.pass.turns < budget c.walk.pool
  ahead_short = ahead_last p c v o x w o1 fit store h.fills h.walk made refl

  bound_short : length w.pass.since ≤ most_accesses c.walk.pool w.pass.turns
  bound_short = bound_last p c v o x w o1 fit store h.fills h.walk made refl h.spent

  known_short : InRange c.walk.pool (tag_number t) × Within (c.walk.slot, tag_number t) w.pass.durable
  known_short =
      let d : Within (c.walk.slot, c.own) w.pass.durable = subst (Within (c.walk.slot, c.own)) (sym (ap (λ (z : View). z.pass.durable) made.told.next)) h.looks.1 in
      subst (λ (n : ℕ). InRange c.walk.pool n × Within (c.walk.slot, n) w.pass.durable) (sym own)
      (subst (λ (q : Pool). InRange q c.own) here (each_within (λ (q : ℕ × ℕ). (q.0 < p.slots) × InRange p q.1) (c.walk.slot, c.own) w.pass.durable made.told.after.durable d).1, d)

  stores : Stores c.job → Went p (staged c AtShort) (staged c Over) v o w o1 (Stored t)
  stores j = record { answer = (refl, refl, own, j); decided = tt; known = known_short; absent = tt; differs = tt; behind = tt; ahead = ahead_short; stands = tt; bound = bound_short }

  deletes : Deletes c.job → Went p (staged c AtShort) (staged c Over) v o w o1 (Deleted t)
  deletes j = record { answer = (refl, refl, own, j); decided = tt; known = known_short; absent = tt; differs = tt; behind = tt; ahead = ahead_short; stands = tt; bound = bound_short }

  by_job : (j : Job) → c.job ≡ j → Went p (staged c AtShort) (staged c Over) v o w o1 (done_with j t)
  by_job Put e = stores (subst Stores (sym e) tt)
  by_job Delete e = deletes (subst Deletes (sym e) tt)
  by_job (Swap d) e = stores (subst Stores (sym e) tt)

  pub shortened : Went p (staged c AtShort) (staged c Over) v o w o1 (done_with c.job t)
  shortened = by_job c.job refl
