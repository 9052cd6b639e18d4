-- A put, delete or swap that is made alone: what each of its accesses finds, and how many bring it to its end.
use Prim.Native.Nat.{zero, suc}
use Rattle.std.proofs.Common.{◌≡◌, ◌≢◌, ℕ, ◌+◌, ◌-◌, ◌*◌, ◌<◌, ◌≤◌, List, [], ◌∷◌, ◌++◌, length, Bool, true, false, cond, eqb, ltb, refl, sym, ap, ◌∙◌, arith, subst, eq-eqb}
use Rattle.std.specs.Prelude.{Option, Some, None, IfSome, slice_set}
use Rattle.std.proofs.lemmas.Bool.{lt-ltb, le-ltb}
use Rattle.clover_words.specs.declared.meta.Kind.{Kind}
use Rattle.clover_words.specs.declared.meta.Kind.TheVariants.{Value as IsValue, Tombstone}
use Rattle.clover_words.specs.declared.pool.Pool.{Pool}
use Rattle.clover_words.specs.declared.word.Buffer.{Buffer}
use Rattle.clover_words.specs.declared.word.Word.{Word}
use Rattle.clover_words.specs.declared.word.Word.TheVariants.{Next as NextOf, Root, Short, Meta, Value as ValueOf}
use Rattle.clover_words.specs.declared.word.Side.{Side}
use Rattle.clover_words.specs.declared.word.Side.TheVariants.{Current, Flushed}
use Rattle.clover_words.specs.Place.{IsWithin, copy_in, address_of}
use Rattle.clover_words.specs.Tag.{tag_number, home, age}
use Rattle.clover_words.proofs.Places.{copy_kept, has_current}
use Rattle.clover_words.specs.Meta.{tombstone}
use Rattle.clover_words.specs.Version.{unlinked, buffer_at, content_at}
use Rattle.clover_map.specs.declared.bytes.Value.{Value}
use Rattle.clover_map.specs.declared.call.Reply.{Reply}
use Rattle.clover_map.specs.declared.call.Reply.TheVariants.{Absent, Differs}
use Rattle.clover_rule.specs.Content.{inside, InRange, content, value_meta}
use Rattle.clover_rule.specs.Lists.{Each}
use Rattle.clover_rule.specs.Memory.{Mem, word, gen}
use Rattle.clover_rule.specs.Learned.{found, words_after_step, turn_of, turn_at}
use Rattle.clover_rule.specs.Steps.{LoadContent}
use Rattle.clover_rule.specs.Words.{next_of, root_of, mem_of}
use Rattle.clover_rule.specs.declared.view.View.{View}
use Rattle.clover_rule.proofs.Spelling.{short_enough}
use Rattle.clover_rule.proofs.Ties.{kind_of as word_kind, content_kind, buffer_in, content_in, content_side, buffer_same, guard}
use Rattle.clover_rule.proofs.Keeping.{read_root, read_short}
use Rattle.clover_walk.specs.Alone.{Way, way_from, way_from_short, ComesBy, HasVersion, raised, version_words, alone as walk_alone}
use Rattle.clover_walk.specs.declared.start.Start.TheVariants.{FromCursor}
use Rattle.clover_walk.specs.Walking.{Walking, OnTail, IsOnWay, begun, walk_step, goes_on}
use Rattle.clover_walk.proofs.Calling.{by_way}
use Rattle.clover_walk.proofs.Alone.{load_leaves, walk_same, start_law, raised_version, last_range, content_within, content_words}
use Rattle.clover_put.specs.declared.job.Job.{Job}
use Rattle.clover_put.specs.declared.job.Job.TheVariants.{Put, Delete, Swap}
use Rattle.clover_put.specs.Alone.{alone, IsOpen, last_stage, tail_accesses, EndsAfter, PutLaw}
use Rattle.clover_put.specs.Putting.{Putting, Stage, Storing, Flushing, Seeking, AtMeta, AtLink, Deciding, AtRaise, AtShort, Over, body, body_word, commits, kind_of, at_tail, reached, staged, filled, walked, on_meta, unless_left, put_step, put_on}
use Rattle.clover_put.proofs.Body.{kind_meta, body_some}

-- one access more
ends_more : (p : Pool) (n : ℕ) (v : ℕ → View) (ws : List ℕ) (c : Putting) (at : Stage) (ws1 : List ℕ) (c1 : Putting) → 0 < n → IsOpen c.stage → words_after_step p (put_step c (v 0)) ws ≡ ws1 → put_on c (found p (put_step c (v 0)) ws) ≡ c1
    → EndsAfter p n (λ (i : ℕ). v (suc i)) ws1 c1 at → EndsAfter p (suc n) v ws c at
ends_more p n v ws c at ws1 c1 some way e f h = record {
  before = before;
  last = last;
  still = still;
  over = ap (λ (r : List ℕ × Putting). r.1.stage) (next n) ∙ h.over;
}
  where
    next : (k : ℕ) → alone p v (suc k) ws c ≡ alone p (λ (i : ℕ). v (suc i)) k ws1 c1
    next k = λ i. alone p (λ (j : ℕ). v (suc j)) k (e i) (f i)

    before : (k : ℕ) → k < suc n → IsOpen (alone p v k ws c).1.stage
    before zero l = way
    before (suc k) l = subst (λ (r : List ℕ × Putting). IsOpen r.1.stage) (sym (next k)) (h.before k (omega arith))

    last : (k : ℕ) → suc k ≡ suc n → (alone p v k ws c).1.stage ≡ at
    last zero l = absurd (omega arith)
    last (suc k) l = ap (λ (r : List ℕ × Putting). r.1.stage) (next k) ∙ h.last k (omega arith)

    still : (k : ℕ) (w : View) → suc k ≡ suc n → turn_of (put_step (alone p v k ws c).1 w) (found p (put_step (alone p v k ws c).1 w) (alone p v k ws c).0) ≡ 0
    still zero w l = absurd (omega arith)
    still (suc k) w l = ap (λ (r : List ℕ × Putting). turn_of (put_step r.1 w) (found p (put_step r.1 w) r.0)) (next k) ∙ h.still k w (omega arith)

-- the last access
ends_last : (p : Pool) (v : ℕ → View) (ws : List ℕ) (c : Putting) (at : Stage) → IsOpen c.stage → c.stage ≡ at → ((w : View) → turn_of (put_step c w) (found p (put_step c w) ws) ≡ 0) → (put_on c (found p (put_step c (v 0)) ws)).stage ≡ Over → EndsAfter p 1 v ws c at
ends_last p v ws c at way e s f = record { before = before; last = last; still = still; over = f }
  where
    before : (k : ℕ) → k < 1 → IsOpen (alone p v k ws c).1.stage
    before zero l = way
    before (suc k) l = absurd (omega arith)

    last : (k : ℕ) → suc k ≡ 1 → (alone p v k ws c).1.stage ≡ at
    last zero l = e
    last (suc k) l = absurd (omega arith)

    still : (k : ℕ) (w : View) → suc k ≡ 1 → turn_of (put_step (alone p v k ws c).1 w) (found p (put_step (alone p v k ws c).1 w) (alone p v k ws c).0) ≡ 0
    still zero w l = s w
    still (suc k) w l = absurd (omega arith)

-- at the tail
module _ (p : Pool) (v : ℕ → View) (ws : List ℕ) (c : Putting) (u : ℕ) where
  abbrev next : ℕ
  next = copy_in p ws (NextOf (buffer_at (home u))) Current

  found_unlinked : (at : Stage) → next ≡ unlinked u → unless_left c u at next ≡ staged c at
  found_unlinked at e = ap (λ (b : Bool). cond b (staged c at) (walked c (goes_on c.walk next))) (eq-eqb next (unlinked u) e)

  no_turn : next ≡ unlinked u → turn_at u next ≡ 0
  no_turn e = ap (λ (b : Bool). cond b 0 1) (eq-eqb next (unlinked u) e)

commit : (p : Pool) (v : ℕ → View) (ws : List ℕ) (c : Putting) (u : ℕ) → copy_in p ws (NextOf (buffer_at (home u))) Current ≡ unlinked u → EndsAfter p 3 v ws (staged c (AtLink u)) AtShort
commit p v ws c u e = ends_more p 2 v ws (staged c (AtLink u)) AtShort _ (staged c (AtRaise u)) (omega arith) tt refl (found_unlinked p v ws (staged c (AtLink u)) u (AtRaise u) e)
    (ends_more p 1 _ _ (staged c (AtRaise u)) AtShort _ (staged c AtShort) (omega arith) tt refl refl (ends_last p _ _ (staged c AtShort) AtShort tt refl (λ w. refl) refl))

decide : (p : Pool) (v : ℕ → View) (ws : List ℕ) (c : Putting) (u : ℕ) (r : Reply) → copy_in p ws (NextOf (buffer_at (home u))) Current ≡ unlinked u → EndsAfter p 1 v ws (staged c (Deciding u r)) (Deciding u r)
decide p v ws c u r e = ends_last p v ws (staged c (Deciding u r)) (Deciding u r) tt refl (λ w. no_turn p v ws c u e) (ap (λ (x : Putting). x.stage) (found_unlinked p v ws (staged c (Deciding u r)) u Over e))

-- the kind of a tail's version
abbrev kind_at : Option Value → Kind
kind_at None = Tombstone
kind_at (Some x) = IsValue

kind_found : (p : Pool) (ws : List ℕ) (u : ℕ) (o : Option Value) → HasVersion p ws u o → kind_of (copy_in p ws (content_at (home u) 0) Current) ≡ Some (kind_at o)
unfolding content
kind_found p ws u None h = ap kind_of (h.words 0 tombstone refl) ∙ kind_meta (record { kind = Tombstone; flags = 0; length = 0 }) (refl, refl)
kind_found p ws u (Some x) h = ap kind_of (h.words 0 (value_meta x) refl) ∙ kind_meta (record { kind = IsValue; flags = x.flags; length = length x.bytes }) (h.fits.0, short_enough p (length x.bytes) h.fits.1)

look : (p : Pool) (n : ℕ) (v : ℕ → View) (ws : List ℕ) (c : Putting) (u : ℕ) (o : Option Value) (at : Stage) → 0 < n → HasVersion p ws u o → ((y : ℕ → View) → EndsAfter p n y ws (staged c (on_meta c.job u (Some (kind_at o)))) at) → EndsAfter p (suc n) v ws (staged c (AtMeta u)) at
look p n v ws c u o at some h rest = ends_more p n v ws (staged c (AtMeta u)) at ws (staged c (on_meta c.job u (Some (kind_at o)))) some tt
    (load_leaves p (LoadContent c.walk.slot u 0) ws (λ x. refl)) (ap (λ (k : Option Kind). staged c (on_meta c.job u k)) (kind_found p ws u o h)) (rest (λ (i : ℕ). v (suc i)))

at_the_tail : (p : Pool) (j : Job) (v : ℕ → View) (ws : List ℕ) (c : Putting) (u : ℕ) (o : Option Value) → HasVersion p ws u o → EndsAfter p (tail_accesses j u o) v ws (record c { job = j; stage = at_tail j u }) (last_stage j u o)
at_the_tail p Put v ws c u o h = commit p v ws (record c { job = Put }) u h.next
at_the_tail p Delete v ws c u None h = look p 1 v ws (record c { job = Delete }) u None (Deciding u Absent) (omega arith) h (λ y. decide p y ws (record c { job = Delete }) u Absent h.next)
at_the_tail p Delete v ws c u (Some x) h = look p 3 v ws (record c { job = Delete }) u (Some x) AtShort (omega arith) h (λ y. commit p y ws (record c { job = Delete }) u h.next)
at_the_tail p (Swap e) v ws c u None h = look p 1 v ws (record c { job = Swap e }) u None (Deciding u Absent) (omega arith) h (λ y. decide p y ws (record c { job = Swap e }) u Absent h.next)
at_the_tail p (Swap e) v ws c u (Some x) h = go (eqb (tag_number e) u) refl
  where
    d : Putting
    d = record c { job = Swap e }

    go : (b : Bool) → eqb (tag_number e) u ≡ b → EndsAfter p (cond b 4 2) v ws (record c { job = Swap e; stage = AtMeta u }) (cond b AtShort (Deciding u (Differs u)))
    go true q = look p 3 v ws (record c { job = Swap e }) u (Some x) AtShort (omega arith) h (λ y. subst (λ (b : Bool). EndsAfter p 3 y ws (record c { job = Swap e; stage = cond b (AtLink u) (Deciding u (Differs u)) }) AtShort) (sym q) (commit p y ws (record c { job = Swap e }) u h.next))
    go false q = look p 1 v ws (record c { job = Swap e }) u (Some x) (Deciding u (Differs u)) (omega arith) h (λ y. subst (λ (b : Bool). EndsAfter p 1 y ws (record c { job = Swap e; stage = cond b (AtLink u) (Deciding u (Differs u)) }) (Deciding u (Differs u))) (sym q) (decide p y ws (record c { job = Swap e }) u (Differs u) h.next))

tail_some : (j : Job) (u : ℕ) (o : Option Value) → 0 < tail_accesses j u o
tail_some Put u o = omega arith
tail_some Delete u None = omega arith
tail_some Delete u (Some x) = omega arith
tail_some (Swap e) u None = omega arith
tail_some (Swap e) u (Some x) = go (eqb (tag_number e) u)
  where
    go : (b : Bool) → 0 < cond b 4 2
    go true = omega arith
    go false = omega arith

-- the walk
module _ (p : Pool) (c : Putting) (at : Stage) where
  seek_one : (w : Walking) → IsOnWay w.stand → record c { walk = w; stage = Seeking } ≡ walked c w
  seek_one w h = ap (λ (s : Stage). record c { walk = w; stage = s }) (by_way (λ s. Seeking ≡ reached c.job s) w.stand h refl refl (λ t. refl) (λ t u. refl))

  walking : (k n : ℕ) (ws : List ℕ) (w : Walking) → 0 < n → ((j : ℕ) → j < k → IsOnWay (walk_alone p j ws w).1.stand) → ((v : ℕ → View) → EndsAfter p n v (walk_alone p k ws w).0 (walked c (walk_alone p k ws w).1) at)
      → (v : ℕ → View) → EndsAfter p (k + n) v ws (walked c w) at
  walking zero n ws w some h rest v = subst (λ (j : ℕ). EndsAfter p j v ws (walked c w) at) (let e : n ≡ 0 + n = omega arith in e) (rest v)
  walking (suc k) n ws w some h rest v =
      subst (λ (j : ℕ). EndsAfter p j v ws (walked c w) at) (let e : suc (k + n) ≡ suc k + n = omega arith in e)
      (subst (λ (x : Putting). EndsAfter p (suc (k + n)) v ws x at) (seek_one w (h 0 (omega arith)))
      (ends_more p (k + n) v ws (record c { walk = w; stage = Seeking }) at (words_after_step p (walk_step w) ws) (walked c (goes_on w (found p (walk_step w) ws))) (omega arith) tt refl refl
      (walking k n (words_after_step p (walk_step w) ws) (goes_on w (found p (walk_step w) ws)) some (λ j l. h (suc j) (omega arith)) rest (λ (i : ℕ). v (suc i)))))

-- every current copy that is no content word of the own buffer is as it was
abbrev Kept : Pool → ℕ → List ℕ → List ℕ → Type 0
Kept p own ws ws1 = (w : Word) → IsWithin p w → ((j : ℕ) → w ≢ content_at (home own) j) → copy_in p ws1 w Current ≡ copy_in p ws w Current

kept_write : (p : Pool) (own : ℕ) (ws ws1 : List ℕ) (side : Side) (j y : ℕ) → InRange p own → j < 1 + p.words → Kept p own ws ws1 → Kept p own ws (slice_set ws1 (address_of p (content_at (home own) j) side) y)
kept_write p own ws ws1 side j y r l k w h d = copy_kept p ws1 (content_at (home own) j) side w Current y (content_in p (home own) j r.0 l) (content_side (home own) j side) h (has_current w) (λ e z. d j e) ∙ k w h d

not_content : (w : Word) (b j : ℕ) → word_kind w ≢ 1 → w ≢ content_at b j
not_content w b j h e = h (ap word_kind e ∙ content_kind b j)

content_home : (b j c k : ℕ) → content_at b j ≡ content_at c k → b ≡ c
content_home b zero c zero e = let q : buffer_at b ≡ buffer_at c = (let z : Meta (buffer_at b) ≡ Meta (buffer_at c) = e in cc) in buffer_same b c (ap (λ (x : Buffer). x.node) q) (ap (λ (x : Buffer). x.index) q)
content_home b zero c (suc k) e = absurd (let z : Meta (buffer_at b) ≡ ValueOf (buffer_at c) k = e in cc)
content_home b (suc j) c zero e = absurd (let z : ValueOf (buffer_at b) j ≡ Meta (buffer_at c) = e in cc)
content_home b (suc j) c (suc k) e = let q : buffer_at b ≡ buffer_at c = (let z : ValueOf (buffer_at b) j ≡ ValueOf (buffer_at c) k = e in cc) in buffer_same b c (ap (λ (x : Buffer). x.node) q) (ap (λ (x : Buffer). x.index) q)

-- the way to a live tag reads the next words, the slot's shortcut and its root alone
module _ (m n : Mem) (s : ℕ) (next : (b : ℕ) → n.next b ≡ m.next b) (root : n.root s ≡ m.root s) (short : n.short s ≡ m.short s) where
  short_same : way_from_short n s ≡ way_from_short m s
  short_same = go (m.short s) refl
    where
      go : (x : Option ℕ) → m.short s ≡ x → way_from_short n s ≡ way_from_short m s
      go None e = rw (short, e, root) refl
      go (Some t) e = rw (short, e, root, next (home t)) refl

  way_same : (known : Option ℕ) → way_from n s known ≡ way_from m s known
  way_same None = short_same
  way_same (Some t) = λ i. cond (eqb (gen (next (home t) i)) (age t)) (record { loads = 0; stale = 0; start = FromCursor; from = Some t }) (record { loads = suc (short_same i).loads; stale = suc (short_same i).stale; start = (short_same i).start; from = (short_same i).from })

module _ (p : Pool) (own : ℕ) (ws ws1 : List ℕ) (k : Kept p own ws ws1) where
  kept_next : (b : ℕ) → (mem_of p ws1).next b ≡ (mem_of p ws).next b
  kept_next b = guard (inside p b) _ _ (word 0 None) (λ h. ap next_of (k (NextOf (buffer_at b)) (buffer_in p b h) (λ j. not_content (NextOf (buffer_at b)) (home own) j (λ e. omega arith))))

  kept_root : (s : ℕ) → s < p.slots → (mem_of p ws1).root s ≡ (mem_of p ws).root s
  kept_root s l = read_root p ws1 s l ∙ ap root_of (k (Root s) l (λ j. not_content (Root s) (home own) j (λ e. omega arith))) ∙ sym (read_root p ws s l)

  kept_short : (s : ℕ) → s < p.slots → (mem_of p ws1).short s ≡ (mem_of p ws).short s
  kept_short s l = read_short p ws1 s l ∙ ap root_of (k (Short s) l (λ j. not_content (Short s) (home own) j (λ e. omega arith))) ∙ sym (read_short p ws s l)

  kept_version : (u : ℕ) (o : Option Value) → InRange p u → home u ≢ home own → HasVersion p ws u o → HasVersion p ws1 u o
  kept_version u o r d h = record {
    next = k (NextOf (buffer_at (home u))) (buffer_in p (home u) r.0) (λ j. not_content (NextOf (buffer_at (home u))) (home own) j (λ e. omega arith)) ∙ h.next;
    fits = h.fits;
    words = λ j x e. k (content_at (home u) j) (content_within p (home u) o j x r.0 h.fits e) (λ i q. d (content_home (home u) j (home own) i q)) ∙ h.words j x e;
  }

-- and a walk comes by the same way
kept_way : (w : Walking) (ws ws1 : List ℕ) (own : ℕ) → Kept w.pool own ws ws1 → (known : Option ℕ) (y : Way) (ts : List ℕ) (u : ℕ) → ComesBy ws w known y ts u → ComesBy ws1 (begun w) known y ts u
kept_way w ws ws1 own k known y ts u h =
    let p : Pool = w.pool in
    let next = kept_next p own ws ws1 k in
    let short = kept_short p own ws ws1 k w.slot h.slot in
    record {
      start = h.start;
      stand = h.stand;
      slot = h.slot;
      cursor = h.cursor;
      short = subst (λ (x : Option ℕ). IfSome x (InRange p)) (sym short) h.short;
      way = h.way ∙ sym (way_same (mem_of p ws) (mem_of p ws1) w.slot next (kept_root p own ws ws1 k w.slot h.slot) short known);
      leads = record { walk = walk_same (mem_of p ws) (mem_of p ws1) next y.from (ts ++ u ∷ []) h.leads.walk; range = h.leads.range };
      below = h.below;
    }

-- the stores and the flushes
module _ (p : Pool) (c : Putting) (ws : List ℕ) (at : Stage) (own : InRange p c.own) (fits : length (body c) ≤ 1 + p.words) where
  abbrev Rest : ℕ → Stage → Type 0
  Rest n s = (v : ℕ → View) (ws1 : List ℕ) → Kept p c.own ws ws1 → EndsAfter p n v ws1 (filled c s) at

  abbrev at_flush : ℕ → Stage
  at_flush j = cond (ltb j (length (body c))) (Flushing j) Seeking

  abbrev at_store : ℕ → Stage
  at_store j = cond (ltb j (length (body c))) (Storing j) (Flushing 0)

  flushes : (r n j : ℕ) → 0 < n → j + r ≡ length (body c) → Rest n Seeking → Rest (r + n) (at_flush j)
  flushes zero n j some e rest v ws1 k =
      subst (λ (i : ℕ). EndsAfter p i v ws1 (filled c (at_flush j)) at) (let z : n ≡ 0 + n = omega arith in z)
      (subst (λ (b : Bool). EndsAfter p n v ws1 (filled c (cond b (Flushing j) Seeking)) at) (sym (le-ltb j (length (body c)) (omega arith))) (rest v ws1 k))
  flushes (suc r) n j some e rest v ws1 k =
      subst (λ (i : ℕ). EndsAfter p i v ws1 (filled c (at_flush j)) at) (let z : suc (r + n) ≡ suc r + n = omega arith in z)
      (subst (λ (b : Bool). EndsAfter p (suc (r + n)) v ws1 (filled c (cond b (Flushing j) Seeking)) at) (sym (lt-ltb j (length (body c)) (omega arith)))
      (ends_more p (r + n) v ws1 (filled c (Flushing j)) at (slice_set ws1 (address_of p (content_at (home c.own) j) Flushed) (body_word c.job c.value j)) (filled c (at_flush (suc j))) (omega arith) tt refl refl
      (flushes r n (suc j) some (omega arith) rest (λ (i : ℕ). v (suc i)) _ (kept_write p c.own ws ws1 Flushed j (body_word c.job c.value j) own (omega arith) k))))

  stores : (r n j : ℕ) → 0 < n → j + r ≡ length (body c) → Rest n (Flushing 0) → Rest (r + n) (at_store j)
  stores zero n j some e rest v ws1 k =
      subst (λ (i : ℕ). EndsAfter p i v ws1 (filled c (at_store j)) at) (let z : n ≡ 0 + n = omega arith in z)
      (subst (λ (b : Bool). EndsAfter p n v ws1 (filled c (cond b (Storing j) (Flushing 0))) at) (sym (le-ltb j (length (body c)) (omega arith))) (rest v ws1 k))
  stores (suc r) n j some e rest v ws1 k =
      subst (λ (i : ℕ). EndsAfter p i v ws1 (filled c (at_store j)) at) (let z : suc (r + n) ≡ suc r + n = omega arith in z)
      (subst (λ (b : Bool). EndsAfter p (suc (r + n)) v ws1 (filled c (cond b (Storing j) (Flushing 0))) at) (sym (lt-ltb j (length (body c)) (omega arith)))
      (ends_more p (r + n) v ws1 (filled c (Storing j)) at (slice_set ws1 (address_of p (content_at (home c.own) j) Current) (body_word c.job c.value j)) (filled c (at_store (suc j))) (omega arith) tt refl refl
      (stores r n (suc j) some (omega arith) rest (λ (i : ℕ). v (suc i)) _ (kept_write p c.own ws ws1 Current j (body_word c.job c.value j) own (omega arith) k))))

  -- the first store is the first access of the call
  begins : (n : ℕ) → 0 < n → 0 < length (body c) → Rest n Seeking → (v : ℕ → View) → EndsAfter p (2 * length (body c) + n) v ws (staged c (Storing 0)) at
  begins n some size rest v =
      let l : ℕ = length (body c) in
      let r : ℕ = l - 1 in
      let flushed : Rest (l + n) (Flushing 0) = (λ y ws1 k. subst (λ (b : Bool). EndsAfter p (l + n) y ws1 (filled c (cond b (Flushing 0) Seeking)) at) (lt-ltb 0 l size) (flushes l n 0 some (omega arith) rest y ws1 k)) in
      subst (λ (i : ℕ). EndsAfter p i v ws (staged c (Storing 0)) at) (let z : suc (r + (l + n)) ≡ 2 * l + n = omega arith in z)
      (ends_more p (r + (l + n)) v ws (staged c (Storing 0)) at (slice_set ws (address_of p (content_at (home c.own) 0) Current) (body_word c.job c.value 0)) (filled c (at_store 1)) (omega arith) tt refl refl
      (stores r (l + n) 1 (omega arith) (omega arith) flushed (λ (i : ℕ). v (suc i)) _ (kept_write p c.own ws ws Current 0 (body_word c.job c.value 0) own (omega arith) (λ w h d. refl))))

last_apart : (b : ℕ) (ts : List ℕ) (u : ℕ) → Each (λ (t : ℕ). home t ≢ b) (ts ++ u ∷ []) → home u ≢ b
last_apart b [] u r = r.0
last_apart b (t ∷ ts) u r = last_apart b ts u r.1

-- the walk and what it leads to
module _ (c : Putting) (ws : List ℕ) (known : Option ℕ) (y : Way) (ts : List ℕ) (u : ℕ) (o : Option Value) (come : ComesBy ws (begun c.walk) known y ts u) (h : HasVersion c.walk.pool ws u o) where
  seeks : (v : ℕ → View) → EndsAfter c.walk.pool (y.loads + 2 * length ts + 1 + tail_accesses c.job u o) v ws (filled c Seeking) (last_stage c.job u o)
  seeks v =
      let w : Walking = begun c.walk in
      let n : ℕ = y.loads + 2 * length ts + 1 in
      let r = start_law ws w known y ts u come in
      let end : Walking = record w { turns = w.turns + (y.stale + length ts); first = false; start = y.start; stand = OnTail u } in
      let after : List ℕ = raised w.pool w.slot (ts ++ u ∷ []) ws in
      let tail : (z : ℕ → View) → EndsAfter c.walk.pool (tail_accesses c.job u o) z after (walked c end) (last_stage c.job u o) =
      (λ z. at_the_tail c.walk.pool c.job z after (record c { walk = end }) u o (raised_version w.pool w.slot (ts ++ u ∷ []) ws u o come.leads.range (last_range w.pool ts u come.leads.range) h)) in
      subst (λ (x : Putting). EndsAfter c.walk.pool (n + tail_accesses c.job u o) v ws x (last_stage c.job u o)) (sym (seek_one c.walk.pool c (last_stage c.job u o) w (r.before 0 (omega arith))))
      (walking c.walk.pool c (last_stage c.job u o) n (tail_accesses c.job u o) ws w (tail_some c.job u o) r.before
      (λ z. subst (λ (x : List ℕ × Putting). EndsAfter c.walk.pool (tail_accesses c.job u o) z x.0 x.1 (last_stage c.job u o)) (λ i. (sym r.words i, walked c (sym r.there i))) (tail z)) v)

pub put_law : PutLaw
put_law v ws c known y ts u o st come h own apart fits =
    let p : Pool = c.walk.pool in
    let n : ℕ = y.loads + 2 * length ts + 1 + tail_accesses c.job u o in
    let b = body_some (commits c.job c.value) in
    let r = last_range p ts u come.leads.range in
    let d = last_apart (home c.own) ts u apart in
    let more = tail_some c.job u o in
    let size : length (body c) ≡ version_words (commits c.job c.value) = content_words (commits c.job c.value) in
    subst (λ (i : ℕ). EndsAfter p i v ws c (last_stage c.job u o)) (let z : 2 * length (body c) + n ≡ 2 * version_words (commits c.job c.value) + y.loads + 2 * length ts + 1 + tail_accesses c.job u o = omega arith in z)
    (subst (λ (s : Stage). EndsAfter p (2 * length (body c) + n) v ws (staged c s) (last_stage c.job u o)) (sym st)
    (begins p c ws (last_stage c.job u o) own (omega arith) n (omega arith) b
    (λ z ws1 k. seeks c ws1 known y ts u o (kept_way c.walk ws ws1 c.own k known y ts u come) (kept_version p c.own ws ws1 k u o r d h) z) v))
