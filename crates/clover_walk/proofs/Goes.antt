-- That the rule allows the access of a walk, what it may find, and what the walk holds where it has gone on by that.
use Rattle.std.proofs.Common.{◌≡◌, ℕ, ◌+◌, ◌<◌, List, refl, sym, ap, ◌∙◌, inl, subst, arith}
use Rattle.std.specs.Prelude.{◌↔◌, Option, Some, None}
use Rattle.clover_words.specs.declared.pool.Pool.{Pool}
use Rattle.clover_words.specs.declared.word.Word.TheVariants.{Next as NextOf}
use Rattle.clover_words.specs.Place.{IsWithin}
use Rattle.clover_words.specs.Tag.{tag_number, home}
use Rattle.clover_words.specs.Version.{unlinked, buffer_at}
use Rattle.clover_port.specs.Told.{Open, Made}
use Rattle.clover_rule.specs.Lists.{Within}
use Rattle.clover_rule.specs.Content.{InRange}
use Rattle.clover_rule.specs.Asks.{Asks}
use Rattle.clover_rule.specs.Learned.{turn_of, turn_at, seen, started, counted}
use Rattle.clover_rule.specs.Steps.{Step, LoadNext, act_of, word_of, number_of}
use Rattle.clover_rule.specs.Told.{IsShown}
use Rattle.clover_rule.specs.Words.{root_of, next_of}
use Rattle.clover_rule.specs.declared.access.Act.{Act}
use Rattle.clover_rule.specs.declared.view.Role.{Role}
use Rattle.clover_rule.specs.declared.view.Role.TheVariants.{Client}
use Rattle.clover_rule.specs.declared.view.View.{View}
use Rattle.clover_rule.proofs.Steps.{each_within}
use Rattle.clover_walk.specs.Finding.{MayFindAt, MayFind, IsAtTag, Walked}
use Rattle.clover_walk.specs.Turning.{Answers, OnReached, IsAtTail, ShowsTail, IfAtTail}
use Rattle.clover_walk.specs.Walking.{Walking, Stand, AtShort, AtRoot, AtTag, AtLink, OnTail, Ended, IsOnWay, AreTags, StandsOn, Holds, Shows, ShowsFrom, ShowsNext, placed, walk_step, step_at, goes_from, goes_on, shortened, rooted, followed, key_at}
use Rattle.clover_walk.specs.declared.start.Start.TheVariants.{FromRoot}
use Rattle.clover_walk.specs.declared.turn.Turn.{Turn}
use Rattle.clover_walk.specs.declared.turn.Turn.TheVariants.{More, AtTail, Behind, Unreached}
use Rattle.clover_walk.proofs.Endings.{stepped, kept, seen_link}
use Rattle.clover_walk.proofs.Promises.{Knows, Promises, placed_promises}
use Rattle.clover_walk.proofs.Shown.{followed_promises, followed_tail, tail_when}

-- the rule allows the access
module _ (p : Pool) (w : Walking) (v : View) (of : p ≡ w.pool) (h : Holds w v) where
  asks_at : (at : Stand) → StandsOn w.slot at v → IsOnWay at → IsWithin w.pool (word_of (step_at w.slot at)) → Asks p (step_at w.slot at) v
  asks_at AtShort s way i = (subst (λ (q : Pool). IsWithin q (word_of (step_at w.slot AtShort))) (sym of) i, h.client)
  asks_at AtRoot s way i = (subst (λ (q : Pool). IsWithin q (word_of (step_at w.slot AtRoot))) (sym of) i, h.client)
  asks_at (AtTag t) s way i = (subst (λ (q : Pool). IsWithin q (NextOf (buffer_at (home t)))) (sym of) i, (h.client, s))
  asks_at (AtLink t u) s way i = (subst (λ (q : Pool). IsWithin q (NextOf (buffer_at (home t)))) (sym of) i, (h.client, s))
  asks_at (OnTail t) s way i = absurd way
  asks_at Ended s way i = absurd way

  pub walk_asks : IsOnWay w.stand → IsWithin w.pool (word_of (walk_step w)) → Asks p (walk_step w) v
  walk_asks way i = asks_at w.stand h.stand way i

module _ (p : Pool) (w : Walking) (v : View) (o : Option Open) (x : ℕ) (v1 : View) (o1 : Option Open) (of : p ≡ w.pool) (h : Holds w v) where
  -- what the access may find
  finds_at : (at : Stand) → IsOnWay at → Made p (step_at w.slot at) w.first v o x v1 o1 → MayFindAt at w.pool w.slot x
  finds_at AtShort way m = subst (λ (q : Pool). MayFindAt AtShort q w.slot x) of m.told.number
  finds_at AtRoot way m = let r = m.told.says (key_at v.pass.names w.slot) h.named in (subst (λ (q : Pool). MayFindAt AtShort q w.slot x) of m.told.number, r.0, r.1)
  finds_at (AtTag t) way m = subst (λ (q : Pool). MayFindAt (AtTag t) q w.slot x) of m.told.number
  finds_at (AtLink t u) way m = tt
  finds_at (OnTail t) way m = absurd way
  finds_at Ended way m = absurd way

  pub walk_finds : IsOnWay w.stand → Made p (walk_step w) w.first v o x v1 o1 → MayFindAt w.stand w.pool w.slot x
  walk_finds way m = finds_at w.stand way m

  -- an access at a tag that ended nothing shows what a load of its next word does
  module _ (a : Step) (made : Made p a w.first v o x v1 o1) where
    knows : Knows w v1
    knows =
        let s = stepped p a w.first v o x v1 o1 made in
        record {
          pool = s.pool ∙ h.pool;
          client = subst (λ (r : Role). r ≡ Client (number_of r)) (sym s.role) h.client;
          named = subst (λ (ns : List (ℕ × List ℕ)). Within (w.slot, key_at ns w.slot) ns) (sym s.names) h.named;
          below = h.below;
        }

    turns_so : v1.pass.turns ≡ w.turns + turn_of a x
    turns_so = (stepped p a w.first v o x v1 o1 made).turns ∙ ap (λ (n : ℕ). n + turn_of a x) h.turns

    no_turn : turn_of a x ≡ 0 → v1.pass.turns ≡ w.turns
    no_turn e = let q = turns_so in omega arith

  shows_tag : (t : ℕ) → Within (w.slot, t) v.pass.durable → Made p (LoadNext w.slot t) w.first v o x v1 o1 → Shows w t v1 x
  shows_tag t d made =
      let k = knows (LoadNext w.slot t) made in
      let next : v1 ≡ counted w.first (act_of (LoadNext w.slot t) x) (turn_at t x) (seen w.slot t v (next_of x)) = made.told.next in
      record {
        pool = k.pool;
        client = k.client;
        named = k.named;
        tail = (kept p (LoadNext w.slot t) w.first v o x v1 o1 made tt).durable (w.slot, t) d;
        number = subst (λ (q : Pool). IsShown q (NextOf (buffer_at (home t))) x) of made.told.number;
        link = λ u e. subst (λ (z : View). Within (record { slot = w.slot; from = t; to = u }) z.pass.links) (sym next) (seen_link w.slot t u v (next_of x) e);
        turns = turns_so (LoadNext w.slot t) made;
        below = k.below;
      }

-- what holds where the walk has gone on from the tag t by its next word
abbrev TailAt : Walking → ℕ → ℕ → View → ℕ → Type 0
TailAt w t x v u = InRange w.pool u × Within (w.slot, u) v.pass.durable × (t ≡ u) × (x ≡ unlinked u)

shown_walked : (w : Walking) (t : ℕ) (v : View) (x : ℕ) (n : Walking) (r : Turn) → Shows w t v x → n ≡ followed w t (next_of x) → Answers n r → InRange w.pool t
    → Promises w v n r × (IsAtTail r ↔ (x ≡ unlinked t)) × IfAtTail r (λ tag. TailAt w t x v (tag_number tag))
shown_walked w t v x n r s e a i = (followed_promises w t v x n r s e a, (to r a, from), tail r a)
  where
    to : (r : Turn) → Answers n r → IsAtTail r → x ≡ unlinked t
    to More a h = absurd h
    to (AtTail u) a h = (followed_tail w t v x n (tag_number u) s e a).0
    to (Behind k) a h = absurd h
    to Unreached a h = absurd h

    from : x ≡ unlinked t → IsAtTail r
    from q = let y = tail_when w n t x r q e a in subst IsAtTail (sym y.1) tt

    tail : (r : Turn) → Answers n r → IfAtTail r (λ tag. TailAt w t x v (tag_number tag))
    tail More a = tt
    tail (AtTail u) a = let q = followed_tail w t v x n (tag_number u) s e a in subst (TailAt w t x v) q.1 (i, s.tail, refl, q.0)
    tail (Behind k) a = tt
    tail Unreached a = tt

-- the same where the walk stands at the stand
abbrev TailFrom : Walking → Stand → ℕ → View → ℕ → Type 0
TailFrom w at x v u = InRange w.pool u × Within (w.slot, u) v.pass.durable × IsAtTag at u × (x ≡ unlinked u)

-- an answer of a walk that stands before the tail is not that it is there
not_there : (n : Walking) (r : Turn) → IsOnWay n.stand → Answers n r → IsAtTail r → ⊥
not_there n (AtTail u) way a h = subst IsOnWay a way
not_there n More way a h = h
not_there n (Behind k) way a h = h
not_there n Unreached way a h = h

module _ (p : Pool) (w : Walking) (v : View) (o : Option Open) (x : ℕ) (v1 : View) (o1 : Option Open) (of : p ≡ w.pool) (h : Holds w v) where
  -- all but the value and the answer of what was walked
  abbrev Gone : Stand → Walking → Turn → Type 0
  Gone at n r = Promises w v1 n r × (IsAtTail r ↔ ShowsTail at x) × IfAtTail r (λ tag. TailFrom w at x v1 (tag_number tag))

  nowhere : (at : Stand) (n : Walking) (r : Turn) → IsOnWay n.stand → Answers n r → IfAtTail r (λ tag. TailFrom w at x v1 (tag_number tag))
  nowhere at n (AtTail u) way a = absurd (subst IsOnWay a way)
  nowhere at n More way a = tt
  nowhere at n (Behind k) way a = tt
  nowhere at n Unreached way a = tt

  -- to a place before the tail, without a turn
  placed_gone : (at to : Stand) (r : Turn) → Knows w v1 → v1.pass.turns ≡ w.turns → StandsOn w.slot to v1 → IsOnWay to → (ShowsTail at x → ⊥) → Answers (placed w to) r → Gone at (placed w to) r
  placed_gone at to r k e on way never a = (placed_promises w v1 to r k on e a, (λ q. absurd (not_there (placed w to) r way a q), λ q. absurd (never q)), nowhere at (placed w to) r way a)

  -- the tag that a shortcut or root shows is known to be durable
  started_at : (a : Act) (t : ℕ) → v1 ≡ counted w.first a 0 (started w.slot v (root_of x)) → root_of x ≡ Some t → Within (w.slot, t) v1.pass.durable
  started_at a t next f = subst (λ (z : View). Within (w.slot, t) z.pass.durable) (sym (next ∙ ap (λ (q : Option ℕ). counted w.first a 0 (started w.slot v q)) f)) (inl refl)

  gone_at : (at : Stand) → StandsOn w.slot at v → IsOnWay at → Made p (step_at w.slot at) w.first v o x v1 o1 → (r : Turn) → Answers (goes_from at w x) r → Gone at (goes_from at w x) r
  gone_at AtShort on way made r a = by_root (root_of x) refl a (knows p w v o x v1 o1 of h _ made) (no_turn p w v o x v1 o1 of h _ made refl)
    where
      by_root : (q : Option ℕ) → root_of x ≡ q → Answers (shortened w q) r → Knows w v1 → v1.pass.turns ≡ w.turns → Gone AtShort (shortened w q) r
      by_root None f b k e =
          let g = placed_promises (record w { start = FromRoot }) v1 AtRoot r (record { pool = k.pool; client = k.client; named = k.named; below = k.below }) tt e b in
          (record { stands = g.stands; behind = g.behind; ahead = g.ahead }, (λ q. absurd (not_there (shortened w None) r tt b q), λ q. absurd q), nowhere AtShort (shortened w None) r tt b)
      by_root (Some t) f b k e = placed_gone AtShort (AtTag t) r k e (started_at _ t made.told.next f) tt (λ q. q) b
  gone_at AtRoot on way made r a = by_root (root_of x) refl a (knows p w v o x v1 o1 of h _ made) (no_turn p w v o x v1 o1 of h _ made refl)
    where
      by_root : (q : Option ℕ) → root_of x ≡ q → Answers (rooted w q) r → Knows w v1 → v1.pass.turns ≡ w.turns → Gone AtRoot (rooted w q) r
      by_root None f b k e = placed_gone AtRoot AtRoot r k e tt tt (λ q. q) b
      by_root (Some t) f b k e = placed_gone AtRoot (AtTag t) r k e (started_at _ t made.told.next f) tt (λ q. q) b
  gone_at (AtTag t) on way made r a =
      let range : InRange w.pool t = subst (λ (q : Pool). InRange q t) of (each_within (λ (q : ℕ × ℕ). (q.0 < p.slots) × InRange p q.1) (w.slot, t) v.pass.durable made.told.before.durable on).1 in
      shown_walked w t v1 x (goes_from (AtTag t) w x) r (shows_tag p w v o x v1 o1 of h t on made) refl a range
  gone_at (AtLink t u) on way made r a =
      let b : Step = step_at w.slot (AtLink t u) in
      placed_gone (AtLink t u) (AtTag u) r (knows p w v o x v1 o1 of h b made) (no_turn p w v o x v1 o1 of h b made refl)
      (subst (λ (z : View). Within (w.slot, u) z.pass.durable) (sym made.told.next) (inl refl)) tt (λ q. q) a
  gone_at (OnTail t) on way made r a = absurd way
  gone_at Ended on way made r a = absurd way

  pub walk_goes : IsOnWay w.stand → Made p (walk_step w) w.first v o x v1 o1 → (n : Walking) (r : Turn) → n ≡ goes_on w x → Answers n r → Walked w x v1 n r
  walk_goes way made n r e a =
      let g = gone_at w.stand h.stand way made r (subst (λ (z : Walking). Answers z r) e a) in
      let q = subst (λ (z : Walking). Promises w v1 z r) (sym e) g.0 in
      record { value = e; answers = a; stands = q.stands; behind = q.behind; ahead = q.ahead; when = g.1; tail = g.2 }

pub reached : {A : Type 0} → (r : Turn) → A → OnReached r A
reached More a = a
reached (AtTail t) a = a
reached (Behind n) a = a
reached Unreached a = tt

-- the same, where the caller's own access was at the walk's tail
pub tail_finds : (w : Walking) (t x : ℕ) → w.stand ≡ OnTail t → IsShown w.pool (NextOf (buffer_at (home t))) x → MayFind w x
tail_finds w t x e h = subst (λ (at : Stand). MayFindAt at w.pool w.slot x) (sym e) h

tail_gone : (w : Walking) (t : ℕ) (v : View) (x : ℕ) (at : Stand) → at ≡ OnTail t → ShowsFrom at w v x → InRange w.pool t → (n : Walking) (r : Turn) → n ≡ goes_from at w x → Answers n r
    → Promises w v n r × (IsAtTail r ↔ ShowsTail at x) × IfAtTail r (λ tag. TailFrom w at x v (tag_number tag))
tail_gone w t v x (OnTail u) e s i n r q a = shown_walked w u v x n r s q a (subst (InRange w.pool) (let y : t ≡ u = cc in y) i)
tail_gone w t v x AtShort e s i n r q a = absurd s
tail_gone w t v x AtRoot e s i n r q a = absurd s
tail_gone w t v x (AtTag u) e s i n r q a = absurd s
tail_gone w t v x (AtLink u y) e s i n r q a = absurd s
tail_gone w t v x Ended e s i n r q a = absurd s

pub tail_goes : (w : Walking) (t : ℕ) (v : View) (x : ℕ) → w.stand ≡ OnTail t → ShowsNext w v x → InRange w.pool t → (n : Walking) (r : Turn) → n ≡ goes_on w x → Answers n r → Walked w x v n r
tail_goes w t v x e s i n r q a =
    let g = tail_gone w t v x w.stand e s i n r q a in
    record { value = q; answers = a; stands = g.0.stands; behind = g.0.behind; ahead = g.0.ahead; when = g.1; tail = g.2 }

pub seen_goes : (w : Walking) (v : View) (x : ℕ) → ShowsNext w v x → AreTags w.pool w.stand → (n : Walking) (r : Turn) → n ≡ goes_on w x → Answers n r → Walked w x v n r
seen_goes w v x s i n r q a = by_stand w.stand refl s i
  where
    by_stand : (at : Stand) → w.stand ≡ at → ShowsFrom at w v x → AreTags w.pool at → Walked w x v n r
    by_stand (OnTail t) e y j = tail_goes w t v x e s j n r q a
    by_stand AtShort e y j = absurd y
    by_stand AtRoot e y j = absurd y
    by_stand (AtTag t) e y j = absurd y
    by_stand (AtLink t u) e y j = absurd y
    by_stand Ended e y j = absurd y
