-- A walk that is made alone: what each of its accesses finds, and how many bring it to the tail.
use Prim.Native.Nat.{zero, suc}
use Rattle.std.proofs.Common.{◌≡◌, ℕ, ◌+◌, ◌*◌, ◌<◌, List, [], ◌∷◌, ◌++◌, length, Bool, true, false, cond, eqb, refl, sym, ap, ◌∙◌, arith, subst, eq-eqb}
use Rattle.std.specs.Prelude.{Option, Some, None, IfSome, slice_set}
use Rattle.std.proofs.lemmas.Bool.{lt-ltb}
use Rattle.std.proofs.lemmas.List.{set-get_or}
use Rattle.clover_words.specs.declared.pool.Pool.{Pool}
use Rattle.clover_words.specs.declared.word.Word.{Word}
use Rattle.clover_words.specs.declared.word.Word.TheVariants.{Next as NextOf}
use Rattle.clover_words.specs.declared.word.Side.TheVariants.{Current, Flushed}
use Rattle.clover_words.specs.Place.{IsWithin, address_of, copy_in}
use Rattle.clover_words.proofs.Places.{copy_kept, has_current}
use Rattle.clover_words.specs.Tag.{home, age}
use Rattle.clover_words.specs.Version.{buffer_at, content_at}
use Rattle.clover_map.specs.declared.bytes.Value.{Value}
use Rattle.clover_rule.specs.Content.{content, inside, words_from, Fits, InRange}
use Rattle.clover_rule.specs.Lists.{Each, nth}
use Rattle.clover_rule.specs.Memory.{Mem, Next, word, gen, link}
use Rattle.clover_rule.specs.Chains.{Walk}
use Rattle.clover_rule.specs.Learned.{found, words_after_step}
use Rattle.clover_rule.specs.Steps.{Step, LoadNext, RaiseNext, ReadRoot, ReadShort, word_of, side_of, becomes}
use Rattle.clover_rule.specs.Words.{next_of, mem_of}
use Rattle.clover_rule.proofs.Keeping.{read_next, read_root, read_short}
use Rattle.clover_rule.proofs.Spelling.{length_words}
use Rattle.clover_rule.proofs.Standings.{word_is}
use Rattle.clover_rule.proofs.Ties.{buffer_in, content_in, guard}
use Rattle.clover_words.specs.Pack.{words_of}
use Rattle.clover_walk.specs.Alone.{after_alone, alone, LeadsOver, HasVersion, raised_from, raised, version_words, Way, way_from_short, way_from, is_live, ReachesAfter, TagLaw, StartLaw, RaisedLaw}
use Rattle.clover_walk.specs.Walking.{Walking, Stand, AtShort, AtRoot, AtTag, AtLink, OnTail, Ended, IsOnWay, budget, made_walk, turned, hops, followed, shortened, rooted, next_start, begins, step_at, walk_step, goes_on}
use Rattle.clover_walk.specs.declared.start.Start.{Start}
use Rattle.clover_walk.specs.declared.start.Start.TheVariants.{FromCursor, FromShort, FromRoot}

-- one access of a call that runs alone
pub one_alone : {S : Type 0} (p : Pool) (step : ℕ → S → Step) (on : S → ℕ → S) (n : ℕ) (ws : List ℕ) (c : S) (ws1 : List ℕ) (c1 : S) → words_after_step p (step 0 c) ws ≡ ws1 → on c (found p (step 0 c) ws) ≡ c1
    → after_alone p step on (suc n) ws c ≡ after_alone p (λ (i : ℕ). step (suc i)) on n ws1 c1
one_alone p step on n ws c ws1 c1 e f = λ i. after_alone p (λ (j : ℕ). step (suc j)) on n (e i) (f i)

-- an access that leaves each number as it is leaves the words
pub load_leaves : (p : Pool) (a : Step) (ws : List ℕ) → ((x : ℕ) → becomes a x ≡ x) → words_after_step p a ws ≡ ws
load_leaves p a ws h = ap (λ (y : ℕ). slice_set ws (address_of p (word_of a) (side_of a)) y) (h (found p a ws)) ∙ set-get_or ws (address_of p (word_of a) (side_of a)) 0

-- the last of these tags
abbrev pub last_tag : ℕ → List ℕ → ℕ
last_tag t [] = t
last_tag t (u ∷ us) = last_tag u us

-- a list that ends has a first tag
pub split_first : (ts : List ℕ) (u : ℕ) → (t : ℕ) × (us : List ℕ) × (ts ++ u ∷ [] ≡ t ∷ us) × (length us ≡ length ts) × (last_tag t us ≡ u)
split_first [] u = (u, [], refl, refl, refl)
split_first (v ∷ ts) u = let q = split_first ts u in (v, ts ++ u ∷ [], refl, ap length q.2 ∙ ap suc q.3, ap (last_tag v) q.2 ∙ q.4)

-- a walk reads the next words alone
pub walk_same : (m n : Mem) → ((b : ℕ) → n.next b ≡ m.next b) → (x : Option ℕ) (ts : List ℕ) → Walk m x ts → Walk n x ts
walk_same m n h x [] e = e
walk_same m n h x (t ∷ ts) (a, b, c) = (a, ap gen (h (home t)) ∙ b, walk_same m n h (link (n.next (home t))) ts (subst (λ (y : Next). Walk m (link y) ts) (sym (h (home t))) c))

module _ (p : Pool) (s : ℕ) where
  -- a raise leaves every current copy
  pub raise_leaves : (t u : ℕ) (ws : List ℕ) → InRange p t → (v : Word) → IsWithin p v → copy_in p (words_after_step p (RaiseNext (record { slot = s; from = t; to = u })) ws) v Current ≡ copy_in p ws v Current
  raise_leaves t u ws r v h = copy_kept p ws (NextOf (buffer_at (home t))) Flushed v Current _ (buffer_in p (home t) r.0) tt h (has_current v) (λ e z. absurd cc)

  raise_next : (t u : ℕ) (ws : List ℕ) → InRange p t → (b : ℕ) → (mem_of p (words_after_step p (RaiseNext (record { slot = s; from = t; to = u })) ws)).next b ≡ (mem_of p ws).next b
  raise_next t u ws r b = guard (inside p b) _ _ (word 0 None) (λ h. ap next_of (raise_leaves t u ws r (NextOf (buffer_at b)) (buffer_in p b h)))

  -- what a load of a tag's next word finds
  pub next_found : (t : ℕ) (l : Option ℕ) (ws : List ℕ) → InRange p t → gen ((mem_of p ws).next (home t)) ≡ age t → link ((mem_of p ws).next (home t)) ≡ l → next_of (copy_in p ws (NextOf (buffer_at (home t))) Current) ≡ word (age t) l
  next_found t l ws r e f = sym (read_next p ws (home t) r.0) ∙ word_is ((mem_of p ws).next (home t)) (age t) l e f

  abbrev pub here : ℕ → Bool → Start → Stand → Walking
  here n b f at = record { pool = p; slot = s; turns = n; first = b; start = f; stand = at }

  follow_own : (w : Walking) (t : ℕ) (l : Option ℕ) → followed w t (word (age t) l) ≡ hops w t l
  follow_own w t l = ap (λ (b : Bool). cond b (hops w t l) (turned w (next_start w.start) (begins (next_start w.start)))) (eq-eqb (age t) (age t) refl)

  turn_below : (n : ℕ) (b : Bool) (f g : Start) (at to : Stand) → suc n < budget p → turned (here n b f at) g to ≡ here (suc n) false g to
  turn_below n b f g at to h = ap (λ (c : Bool). here (suc n) false g (cond c to Ended)) (lt-ltb (suc n) (budget p) h)

  walk_one : (k : ℕ) (ws : List ℕ) (w : Walking) (ws1 : List ℕ) (w1 : Walking) → words_after_step p (walk_step w) ws ≡ ws1 → goes_on w (found p (walk_step w) ws) ≡ w1 → alone p (suc k) ws w ≡ alone p k ws1 w1
  walk_one k ws w ws1 w1 e h = one_alone p (λ (i : ℕ) (x : Walking). walk_step x) (λ (x : Walking) (y : ℕ). goes_on x y) k ws w ws1 w1 e h

  module _ (ws : List ℕ) (n : ℕ) (b : Bool) (f : Start) where
    goes_tail : (t : ℕ) → InRange p t → Walk (mem_of p ws) (Some t) (t ∷ []) → goes_on (here n b f (AtTag t)) (found p (LoadNext s t) ws) ≡ here n false f (OnTail t)
    goes_tail t r w = ap (followed (here n b f (AtTag t)) t) (next_found t None ws r w.1 w.2) ∙ follow_own (here n b f (AtTag t)) t None

    goes_link : (t u : ℕ) (us : List ℕ) → InRange p t → Walk (mem_of p ws) (Some t) (t ∷ u ∷ us) → suc n < budget p → goes_on (here n b f (AtTag t)) (found p (LoadNext s t) ws) ≡ here (suc n) false f (AtLink t u)
    goes_link t u us r w h = ap (followed (here n b f (AtTag t)) t) (next_found t (Some u) ws r w.1 w.2.0) ∙ follow_own (here n b f (AtTag t)) t (Some u) ∙ turn_below n b f f (AtTag t) (AtLink t u) h

    goes_root : (t : ℕ) → s < p.slots → (mem_of p ws).root s ≡ Some t → goes_on (here n b f AtRoot) (found p (ReadRoot s) ws) ≡ here n false f (AtTag t)
    goes_root t h e = ap (rooted (here n b f AtRoot)) (sym (read_root p ws s h) ∙ e)

    goes_short : (t : ℕ) → s < p.slots → (mem_of p ws).short s ≡ Some t → goes_on (here n b f AtShort) (found p (ReadShort s) ws) ≡ here n false f (AtTag t)
    goes_short t h e = ap (shortened (here n b f AtShort)) (sym (read_short p ws s h) ∙ e)

    goes_empty : s < p.slots → (mem_of p ws).short s ≡ None → goes_on (here n b f AtShort) (found p (ReadShort s) ws) ≡ here n false FromRoot AtRoot
    goes_empty h e = ap (shortened (here n b f AtShort)) (sym (read_short p ws s h) ∙ e)

    goes_stale : (t : ℕ) → InRange p t → is_live (mem_of p ws) t ≡ false → suc n < budget p → goes_on (here n b f (AtTag t)) (found p (LoadNext s t) ws) ≡ here (suc n) false (next_start f) (begins (next_start f))
    goes_stale t r e h =
        let x : ℕ = copy_in p ws (NextOf (buffer_at (home t))) Current in
        let q : eqb (gen (next_of x)) (age t) ≡ false = subst (λ (y : Next). eqb (gen y) (age t) ≡ false) (read_next p ws (home t) r.0) e in
        ap (λ (c : Bool). cond c (hops (here n b f (AtTag t)) t (link (next_of x))) (turned (here n b f (AtTag t)) (next_start f) (begins (next_start f)))) q
        ∙ turn_below n b f (next_start f) (AtTag t) (begins (next_start f)) h

    one_link : (k t u : ℕ) (us : List ℕ) → InRange p t → Walk (mem_of p ws) (Some t) (t ∷ u ∷ us) → suc n < budget p
        → alone p (suc (suc k)) ws (here n b f (AtTag t)) ≡ alone p k (words_after_step p (RaiseNext (record { slot = s; from = t; to = u })) ws) (here (suc n) false f (AtTag u))
    one_link k t u us r w h = walk_one (suc k) ws (here n b f (AtTag t)) ws (here (suc n) false f (AtLink t u)) (load_leaves p (LoadNext s t) ws (λ x. refl)) (goes_link t u us r w h)

  next_walk : (t u : ℕ) (us ws : List ℕ) → InRange p t → Walk (mem_of p ws) (Some t) (t ∷ u ∷ us) → Walk (mem_of p (words_after_step p (RaiseNext (record { slot = s; from = t; to = u })) ws)) (Some u) (u ∷ us)
  next_walk t u us ws r w = walk_same (mem_of p ws) (mem_of p (words_after_step p (RaiseNext (record { slot = s; from = t; to = u })) ws)) (raise_next t u ws r) (Some u) (u ∷ us) (refl, w.2.1, w.2.2)

  -- from a tag to the last one behind it
  to_tail : (t : ℕ) (us ws : List ℕ) (n : ℕ) (b : Bool) (f : Start) → Walk (mem_of p ws) (Some t) (t ∷ us) → Each (InRange p) (t ∷ us) → n + length us < budget p
      → alone p (2 * length us + 1) ws (here n b f (AtTag t)) ≡ (raised_from p s t us ws, here (n + length us) false f (OnTail (last_tag t us)))
  to_tail t [] ws n b f w r h = λ i. (load_leaves p (LoadNext s t) ws (λ x. refl) i, (goes_tail ws n b f t r.0 w ∙ ap (λ (k : ℕ). here k false f (OnTail t)) (let q : n ≡ n + 0 = omega arith in q)) i)
  to_tail t (u ∷ us) ws n b f w r h =
      ap (λ (k : ℕ). alone p k ws (here n b f (AtTag t))) (let q : 2 * suc (length us) + 1 ≡ suc (suc (2 * length us + 1)) = omega arith in q)
      ∙ one_link ws n b f (2 * length us + 1) t u us r.0 w (omega arith)
      ∙ to_tail u us _ (suc n) false f (next_walk t u us ws r.0 w) r.1 (omega arith)
      ∙ ap (λ (k : ℕ). (raised_from p s t (u ∷ us) ws, here k false f (OnTail (last_tag u us)))) (let q : suc n + length us ≡ n + suc (length us) = omega arith in q)

  -- and on the way before
  on_way : (t : ℕ) (us ws : List ℕ) (n : ℕ) (b : Bool) (f : Start) → Walk (mem_of p ws) (Some t) (t ∷ us) → Each (InRange p) (t ∷ us) → n + length us < budget p
      → (k : ℕ) → k < 2 * length us + 1 → IsOnWay (alone p k ws (here n b f (AtTag t))).1.stand
  on_way t us ws n b f w r h zero l = tt
  on_way t [] ws n b f w r h (suc k) l = absurd (omega arith)
  on_way t (u ∷ us) ws n b f w r h (suc zero) l = subst (λ (x : Walking). IsOnWay x.stand) (sym (goes_link ws n b f t u us r.0 w (omega arith))) tt
  on_way t (u ∷ us) ws n b f w r h (suc (suc k)) l =
      subst (λ (x : List ℕ × Walking). IsOnWay x.1.stand) (sym (one_link ws n b f k t u us r.0 w (omega arith)))
      (on_way u us _ (suc n) false f (next_walk t u us ws r.0 w) r.1 (omega arith) k (omega arith))

  raised_leaves : (t : ℕ) (us ws : List ℕ) → Each (InRange p) (t ∷ us) → (v : Word) → IsWithin p v → copy_in p (raised_from p s t us ws) v Current ≡ copy_in p ws v Current
  raised_leaves t [] ws r v h = refl
  raised_leaves t (u ∷ us) ws r v h = raised_leaves u us _ r.1 v h ∙ raise_leaves t u ws r.0 v h

  from_tag : (ws : List ℕ) (n : ℕ) (b : Bool) (f : Start) (t : ℕ) (ts : List ℕ) (u : ℕ) → LeadsOver p ws (Some t) ts u → n + length ts < budget p → ReachesAfter (2 * length ts + 1) ws (here n b f (AtTag t)) (length ts) f ts u
  from_tag ws n b f t ts u l h =
      let q = split_first ts u in
      let w = subst (Walk (mem_of p ws) (Some t)) q.2 l.walk in
      let r = subst (Each (InRange p)) q.2 l.range in
      let e : t ≡ q.0 = (let z : Some t ≡ Some q.0 = w.0 in cc) in
      let w1 = subst (λ (o : ℕ). Walk (mem_of p ws) (Some o) (q.0 ∷ q.1)) e w in
      let same = q.3 in
      let k : n + length q.1 < budget p = omega arith in
      let end = to_tail q.0 q.1 ws n b f w1 r k in
      let path = ap (λ (y : ℕ). alone p (2 * y + 1) ws (here n b f (AtTag t))) (sym same) ∙ ap (λ (y : ℕ). alone p (2 * length q.1 + 1) ws (here n b f (AtTag y))) e ∙ end in
      record {
        before = λ j lt. subst (λ (y : ℕ). IsOnWay (alone p j ws (here n b f (AtTag y))).1.stand) (sym e) (on_way q.0 q.1 ws n b f w1 r k j (omega arith));
        there = ap (λ (x : List ℕ × Walking). x.1) path ∙ (λ i. here (n + same i) false f (OnTail (q.4 i)));
        words = ap (λ (x : List ℕ × Walking). x.0) path ∙ ap (λ (x : List ℕ). raised p s x ws) (sym q.2);
      }

  -- an access before the others that leaves the words
  one_more : (ws : List ℕ) (n n1 : ℕ) (b : Bool) (f f1 f2 : Start) (at at1 : Stand) (k d d1 : ℕ) (ts : List ℕ) (u : ℕ) → IsOnWay at → words_after_step p (step_at s at) ws ≡ ws → goes_on (here n b f at) (found p (step_at s at) ws) ≡ here n1 false f1 at1 → n1 + d1 ≡ n + d
      → ReachesAfter k ws (here n1 false f1 at1) d1 f2 ts u → ReachesAfter (suc k) ws (here n b f at) d f2 ts u
  one_more ws n n1 b f f1 f2 at at1 k d d1 ts u on same goes count r =
      let first : (j : ℕ) → alone p (suc j) ws (here n b f at) ≡ alone p j ws (here n1 false f1 at1) = (λ j. walk_one j ws (here n b f at) ws (here n1 false f1 at1) same goes) in
      record {
        before = early first;
        there = ap (λ (x : List ℕ × Walking). x.1) (first k) ∙ r.there ∙ ap (λ (j : ℕ). here j false f2 (OnTail u)) count;
        words = ap (λ (x : List ℕ × Walking). x.0) (first k) ∙ r.words;
      }
    where
      early : ((j : ℕ) → alone p (suc j) ws (here n b f at) ≡ alone p j ws (here n1 false f1 at1)) → (j : ℕ) → j < suc k → IsOnWay (alone p j ws (here n b f at)).1.stand
      early first zero lt = on
      early first (suc j) lt = subst (λ (x : List ℕ × Walking). IsOnWay x.1.stand) (sym (first j)) (r.before j (omega arith))

  -- from the root
  from_root : (ws : List ℕ) (n : ℕ) (b : Bool) (f : Start) (ts : List ℕ) (u : ℕ) → s < p.slots → LeadsOver p ws ((mem_of p ws).root s) ts u → n + length ts < budget p → ReachesAfter (suc (2 * length ts + 1)) ws (here n b f AtRoot) (length ts) f ts u
  from_root ws n b f ts u low l h =
      let q = split_first ts u in
      let e : (mem_of p ws).root s ≡ Some q.0 = (subst (Walk (mem_of p ws) ((mem_of p ws).root s)) q.2 l.walk).0 in
      let a = from_tag ws n false f q.0 ts u (record { walk = subst (λ (o : Option ℕ). Walk (mem_of p ws) o (ts ++ u ∷ [])) e l.walk; range = l.range }) h in
      one_more ws n n b f f f AtRoot (AtTag q.0) (2 * length ts + 1) (length ts) (length ts) ts u tt (load_leaves p (ReadRoot s) ws (λ x. refl)) (goes_root ws n b f q.0 low e) refl a

  -- from a tag that is stale, by the start that comes after it
  from_stale : (ws : List ℕ) (n : ℕ) (b : Bool) (f f2 : Start) (t k d : ℕ) (ts : List ℕ) (u : ℕ) → InRange p t → is_live (mem_of p ws) t ≡ false → suc n < budget p
      → ReachesAfter k ws (here (suc n) false (next_start f) (begins (next_start f))) d f2 ts u → ReachesAfter (suc k) ws (here n b f (AtTag t)) (suc d) f2 ts u
  from_stale ws n b f f2 t k d ts u r e h a =
      one_more ws n (suc n) b f (next_start f) f2 (AtTag t) (begins (next_start f)) k (suc d) d ts u tt (load_leaves p (LoadNext s t) ws (λ x. refl)) (goes_stale ws n b f t r e h) (let q : suc n + d ≡ n + suc d = omega arith in q) a

  -- the way from a shortcut that is empty, live or stale
  way_empty : (m : Mem) → m.short s ≡ None → way_from_short m s ≡ record { loads = 2; stale = 0; start = FromRoot; from = m.root s }
  way_empty m e = rw e refl

  way_live : (m : Mem) (t : ℕ) → m.short s ≡ Some t → is_live m t ≡ true → way_from_short m s ≡ record { loads = 1; stale = 0; start = FromShort; from = Some t }
  way_live m t e h = rw (e, h) refl

  way_stale : (m : Mem) (t : ℕ) → m.short s ≡ Some t → is_live m t ≡ false → way_from_short m s ≡ record { loads = 3; stale = 1; start = FromRoot; from = m.root s }
  way_stale m t e h = rw (e, h) refl

  -- a walk that begins there makes the loads and the turns of the way y besides those from its tag
  abbrev Comes : List ℕ → ℕ → Bool → Start → Stand → List ℕ → ℕ → Way → Type 0
  Comes ws n b f at ts u y = LeadsOver p ws y.from ts u → n + y.stale + length ts < budget p → ReachesAfter (y.loads + (2 * length ts + 1)) ws (here n b f at) (y.stale + length ts) y.start ts u

  -- from the shortcut
  from_short : (ws : List ℕ) (n : ℕ) (b : Bool) (ts : List ℕ) (u : ℕ) → s < p.slots → IfSome ((mem_of p ws).short s) (InRange p) → Comes ws n b FromShort AtShort ts u (way_from_short (mem_of p ws) s)
  from_short ws n b ts u low r = at ((mem_of p ws).short s) refl r
    where
      same : words_after_step p (ReadShort s) ws ≡ ws
      same = load_leaves p (ReadShort s) ws (λ x. refl)

      of_tag : (t : ℕ) → (mem_of p ws).short s ≡ Some t → InRange p t → (c : Bool) → is_live (mem_of p ws) t ≡ c → Comes ws n b FromShort AtShort ts u (way_from_short (mem_of p ws) s)
      of_tag t e r true live = subst (Comes ws n b FromShort AtShort ts u) (sym (way_live (mem_of p ws) t e live)) (λ l h.
          let k : n + length ts < budget p = omega arith in
          subst (λ (j : ℕ). ReachesAfter j ws (here n b FromShort AtShort) (0 + length ts) FromShort ts u) (let q : suc (2 * length ts + 1) ≡ 1 + (2 * length ts + 1) = omega arith in q)
          (one_more ws n n b FromShort FromShort FromShort AtShort (AtTag t) (2 * length ts + 1) (0 + length ts) (length ts) ts u tt same (goes_short ws n b FromShort t low e) (let q : n + length ts ≡ n + (0 + length ts) = omega arith in q) (from_tag ws n false FromShort t ts u l k)))
      of_tag t e r false live = subst (Comes ws n b FromShort AtShort ts u) (sym (way_stale (mem_of p ws) t e live)) (λ l h.
          let k : suc n + length ts < budget p = omega arith in
          let root = from_root ws (suc n) false FromRoot ts u low l k in
          let stale = from_stale ws n false FromShort FromRoot t (suc (2 * length ts + 1)) (length ts) ts u r live (omega arith) root in
          subst (λ (j : ℕ). ReachesAfter j ws (here n b FromShort AtShort) (1 + length ts) FromRoot ts u) (let q : suc (suc (suc (2 * length ts + 1))) ≡ 3 + (2 * length ts + 1) = omega arith in q)
          (one_more ws n n b FromShort FromShort FromRoot AtShort (AtTag t) (suc (suc (2 * length ts + 1))) (1 + length ts) (suc (length ts)) ts u tt same (goes_short ws n b FromShort t low e) (let q : n + suc (length ts) ≡ n + (1 + length ts) = omega arith in q) stale))

      at : (o : Option ℕ) → (mem_of p ws).short s ≡ o → IfSome o (InRange p) → Comes ws n b FromShort AtShort ts u (way_from_short (mem_of p ws) s)
      at None e r = subst (Comes ws n b FromShort AtShort ts u) (sym (way_empty (mem_of p ws) e)) (λ l h.
          let k : n + length ts < budget p = omega arith in
          let root = from_root ws n false FromRoot ts u low l k in
          subst (λ (j : ℕ). ReachesAfter j ws (here n b FromShort AtShort) (0 + length ts) FromRoot ts u) (let q : suc (suc (2 * length ts + 1)) ≡ 2 + (2 * length ts + 1) = omega arith in q)
          (one_more ws n n b FromShort FromRoot FromRoot AtShort AtRoot (suc (2 * length ts + 1)) (0 + length ts) (length ts) ts u tt same (goes_empty ws n b FromShort low e) (let q : n + length ts ≡ n + (0 + length ts) = omega arith in q) root))
      at (Some t) e r = of_tag t e r (is_live (mem_of p ws) t) refl

  -- from a cursor, or without one
  from_start : (ws : List ℕ) (n : ℕ) (b : Bool) (ts : List ℕ) (u : ℕ) → s < p.slots → IfSome ((mem_of p ws).short s) (InRange p) → (known : Option ℕ) → IfSome known (InRange p) → Comes ws n b (made_walk p s known).start (made_walk p s known).stand ts u (way_from (mem_of p ws) s known)
  from_start ws n b ts u low r None i = from_short ws n b ts u low r
  from_start ws n b ts u low r (Some t) i = at (is_live (mem_of p ws) t) refl
    where
      short : Way
      short = way_from_short (mem_of p ws) s

      straight : Way
      straight = record { loads = 0; stale = 0; start = FromCursor; from = Some t }

      round : Way
      round = record { loads = suc short.loads; stale = suc short.stale; start = short.start; from = short.from }

      at : (c : Bool) → is_live (mem_of p ws) t ≡ c → Comes ws n b FromCursor (AtTag t) ts u (way_from (mem_of p ws) s (Some t))
      at true live = subst (Comes ws n b FromCursor (AtTag t) ts u) (sym (ap (λ (c : Bool). cond c straight round) live)) (λ l h.
          let a = from_tag ws n b FromCursor t ts u l (omega arith) in
          subst (λ (j : ℕ). ReachesAfter j ws (here n b FromCursor (AtTag t)) (0 + length ts) FromCursor ts u) (let q : 2 * length ts + 1 ≡ 0 + (2 * length ts + 1) = omega arith in q)
          (subst (λ (j : ℕ). ReachesAfter (2 * length ts + 1) ws (here n b FromCursor (AtTag t)) j FromCursor ts u) (let q : length ts ≡ 0 + length ts = omega arith in q) a))
      at false live = subst (Comes ws n b FromCursor (AtTag t) ts u) (sym (ap (λ (c : Bool). cond c straight round) live)) (λ l h.
          let a = from_short ws (suc n) false ts u low r l (omega arith) in
          let z = from_stale ws n b FromCursor short.start t (short.loads + (2 * length ts + 1)) (short.stale + length ts) ts u i live (omega arith) a in
          subst (λ (j : ℕ). ReachesAfter j ws (here n b FromCursor (AtTag t)) (suc short.stale + length ts) short.start ts u) (let q : suc (short.loads + (2 * length ts + 1)) ≡ suc short.loads + (2 * length ts + 1) = omega arith in q)
          (subst (λ (j : ℕ). ReachesAfter (suc (short.loads + (2 * length ts + 1))) ws (here n b FromCursor (AtTag t)) j short.start ts u) (let q : suc (short.stale + length ts) ≡ suc short.stale + length ts = omega arith in q) z))

pub tag_law : TagLaw
tag_law ws w t ts u e l h = subst (λ (x : Walking). ReachesAfter (2 * length ts + 1) ws x (length ts) w.start ts u) (sym (ap (λ (at : Stand). record w { stand = at }) e)) (from_tag w.pool w.slot ws w.turns w.first w.start t ts u l h)

pub start_law : StartLaw
start_law ws w known y ts u h =
    let p : Pool = w.pool in
    let comes = subst (Comes p w.slot ws w.turns w.first (made_walk p w.slot known).start (made_walk p w.slot known).stand ts u) (sym h.way) (from_start p w.slot ws w.turns w.first ts u h.slot h.short known h.cursor) in
    subst (λ (x : Walking). ReachesAfter (y.loads + 2 * length ts + 1) ws x (y.stale + length ts) y.start ts u) (λ i. record w { start = sym h.start i; stand = sym h.stand i })
    (subst (λ (j : ℕ). ReachesAfter j ws (record w { start = (made_walk p w.slot known).start; stand = (made_walk p w.slot known).stand }) (y.stale + length ts) y.start ts u) (let q : y.loads + (2 * length ts + 1) ≡ y.loads + 2 * length ts + 1 = omega arith in q) (comes h.leads h.below))

pub raised_law : RaisedLaw
raised_law p s [] ws r v h = refl
raised_law p s (t ∷ us) ws r v h = raised_leaves p s t us ws r v h

-- what a version's words hold after the raises
pub content_within : (p : Pool) (b : ℕ) (o : Option Value) (j x : ℕ) → inside p b ≡ true → Fits p o → nth (content o) j ≡ Some x → IsWithin p (content_at b j)
unfolding content
content_within p b o zero x i f e = buffer_in p b i
content_within p b None (suc k) x i f e = absurd cc
content_within p b (Some y) (suc k) x i f e = let q = words_within (length y.bytes) 0 k x y.bytes e in content_in p b (suc k) i (let z = f.1 in omega arith)
  where
    words_count : (bytes : List ℕ) (k n j x : ℕ) → nth (words_from bytes k n) j ≡ Some x → j < n
    words_count bytes k zero j x e = absurd cc
    words_count bytes k (suc n) zero x e = omega arith
    words_count bytes k (suc n) (suc j) x e = let z = words_count bytes (suc k) n j x e in omega arith

    words_within : (n k j x : ℕ) (bytes : List ℕ) → nth (words_from bytes k (words_of n)) j ≡ Some x → j < words_of n
    words_within n k j x bytes e = words_count bytes k (words_of n) j x e

pub raised_version : (p : Pool) (s : ℕ) (ts ws : List ℕ) (t : ℕ) (o : Option Value) → Each (InRange p) ts → InRange p t → HasVersion p ws t o → HasVersion p (raised p s ts ws) t o
raised_version p s ts ws t o r i h = record {
  next = raised_law p s ts ws r (NextOf (buffer_at (home t))) (buffer_in p (home t) i.0) ∙ h.next;
  fits = h.fits;
  words = λ j x e. raised_law p s ts ws r (content_at (home t) j) (content_within p (home t) o j x i.0 h.fits e) ∙ h.words j x e;
}

pub last_range : (p : Pool) (ts : List ℕ) (u : ℕ) → Each (InRange p) (ts ++ u ∷ []) → InRange p u
last_range p [] u r = r.0
last_range p (t ∷ ts) u r = last_range p ts u r.1

pub content_words : (o : Option Value) → length (content o) ≡ version_words o
unfolding content
content_words None = refl
content_words (Some x) = let e = length_words x.bytes 0 (words_of (length x.bytes)) in omega arith
