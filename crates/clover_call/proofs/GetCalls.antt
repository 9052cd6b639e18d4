-- A get of the caller is the get of the definition: the same step is due of both, and both go on alike.
use Prim.Native.Nat.{suc}
use Rattle.std.proofs.Common.{◌≡◌, ℕ, ◌*◌, ◌%◌, ◌^◌, ◌<◌, ◌==◌, List, [], ◌∷◌, ◌++◌, length, Bool, true, false, cond, ltb, if◌then◌else◌, refl, sym, ap, ◌∙◌, subst, arith}
use Rattle.std.specs.Prelude.{Option, Some, None}
use Rattle.std.proofs.lemmas.Bool.{lt-ltb, le-ltb, ltb-false}
use Rattle.clover_words.specs.declared.bytes.ValueBuf.{ValueBuf}
use Rattle.clover_words.specs.declared.meta.Kind.{Kind}
use Rattle.clover_words.specs.declared.meta.Kind.TheVariants.{Value as IsValue, Tombstone}
use Rattle.clover_words.specs.declared.pool.Pool.{Pool}
use Rattle.clover_words.specs.Meta.{MetaParts, IsMeta, meta_word}
use Rattle.clover_words.specs.Pack.{words_of}
use Rattle.clover_words.specs.Version.{unlinked}
use Rattle.clover_map.specs.declared.call.Call.TheVariants.{Get as GetOf}
use Rattle.clover_rule.specs.Steps.{Step, LoadNext, LoadContent, act_of}
use Rattle.clover_rule.specs.declared.view.View.{View}
use Rattle.clover_rule.proofs.Tools.{length_snoc}
use Rattle.clover_walk.specs.Walking.{Walking, Stand, AtShort, AtRoot, AtTag, AtLink, OnTail, Ended, begun, goes_on, step_at}
use Rattle.clover_get.specs.Getting.{Getting, Stage, Seeking, AtMeta, AtValue, AtFound, AtDead, AtBad, Over, getting, sought, stage_at, step_from, valued, read_kind, read_stage, Reads, GoesFrom, FillsFrom}
use Rattle.clover_get.specs.Holding.{StandsOn}
use Rattle.clover_put.specs.Putting.{kind_of}
use Rattle.clover_put.proofs.Body.{kind_meta, kind_none}
use Rattle.clover_call.specs.Calling.{Calling, Reads as ReadsWord, Ends, Leaves, by_kind, looks, copies, due, after}
use Rattle.clover_call.specs.Mirroring.{reads, IsValueWord, GetMirrors}
use Rattle.clover_call.proofs.GetGoes.{Misses}
use Rattle.clover_call.proofs.Calling.{walk_due, walk_after, tail_due, tail_after, left_after, leaves_after}

-- what a get does behind its meta word
value_does : (p : Pool) (m : ℕ) (xs : List ℕ) (size : ℕ) (b : Bool) → IsValueWord p m size → ltb (length xs) (words_of size) ≡ b → looks (copies p (m ∷ xs)) (m ∷ xs) ≡ (if b then ReadsWord (suc (length xs)) else Ends)
value_does p m xs size b v few =
    let fits : ltb (8 * p.words) (m % 2 ^ 16) ≡ false = (let e = v.size_is in let r = v.room in le-ltb (8 * p.words) (m % 2 ^ 16) (omega arith)) in
    let count : ltb (length xs) (words_of (m % 2 ^ 16)) ≡ b = ap (λ (n : ℕ). ltb (length xs) (words_of n)) v.size_is ∙ few in
    ap (by_kind (copies p (m ∷ xs))) v.kind ∙ (λ i. if fits i then Leaves else if count i then ReadsWord (suc (length xs)) else Ends)

-- the meta word of a version is one by its kind
reads_kind : (t x : ℕ) (w : Walking) (into : ValueBuf) (k : Kind) (f n : ℕ) (c : Calling) → IsMeta (record { kind = k; flags = f; length = n }) → meta_word (record { kind = k; flags = f; length = n }) ≡ x → into.length ≡ n
    → c ≡ reads w (x ∷ []) → GetMirrors (read_kind w.pool t k f n) w into c
reads_kind t x w into IsValue f n c meta is filled at =
    let kind : kind_of x ≡ Some IsValue = ap kind_of (sym is) ∙ kind_meta (record { kind = IsValue; flags = f; length = n }) meta in
    let low : x % 2 ^ 16 ≡ n = (let a = meta.0 in let b = meta.1 in omega (arith, is)) in
    fits (ltb (8 * w.pool.words) n) refl kind low
  where
    values : (b : Bool) → ltb 0 (words_of n) ≡ b → IsValueWord w.pool x n → GetMirrors (cond b (AtValue t f 0) (AtFound t f)) w into c
    values true few v = (x, [], at, refl, subst (IsValueWord w.pool x) (sym filled) v)
    values false few v = (x ∷ [], at, value_does w.pool x [] n false v few)

    fits : (b : Bool) → ltb (8 * w.pool.words) n ≡ b → kind_of x ≡ Some IsValue → x % 2 ^ 16 ≡ n → GetMirrors (cond b (AtBad t) (valued t f n 0)) w into c
    fits true much kind low = (x ∷ [], at, ap (by_kind (copies w.pool (x ∷ []))) kind ∙ (λ i. if (ap (ltb (8 * w.pool.words)) low ∙ much) i then Leaves else if ltb 0 (words_of (x % 2 ^ 16)) then ReadsWord 1 else Ends))
    fits false room kind low = values (ltb 0 (words_of n)) refl (record { kind = kind; size_is = low; room = ltb-false (8 * w.pool.words) n room })
reads_kind t x w into Tombstone f n c meta is filled at =
    (x ∷ [], at, ap (by_kind (copies w.pool (x ∷ []))) (ap kind_of (sym is) ∙ kind_meta (record { kind = Tombstone; flags = f; length = n }) meta))

reads_meta : (t x : ℕ) (w : Walking) (into : ValueBuf) (c : Calling) (o : Option MetaParts) → Reads x o → ((m : MetaParts) → IsMeta m → meta_word m ≡ x → into.length ≡ m.length) → c ≡ reads w (x ∷ []) → GetMirrors (read_stage w.pool t o) w into c
reads_meta t x w into c None r filled at = (x ∷ [], at, ap (by_kind (copies w.pool (x ∷ []))) (kind_none x (λ m meta is. absurd (let e : None ≡ Some m = r.only m meta is in cc))))
reads_meta t x w into c (Some m) r filled at = reads_kind t x w into m.kind m.flags m.length c r.found.0 r.found.1 (filled m r.found.0 r.found.1) at

-- where a walk leaves its get
sought_stands : (w : Walking) (into : ValueBuf) (c : Calling) → c ≡ reads w [] → GetMirrors (stage_at w.stand) w into c
sought_stands w into c is = go w.stand refl
  where
    go : (at : Stand) → w.stand ≡ at → GetMirrors (stage_at at) w into c
    go AtShort e = is
    go AtRoot e = is
    go (AtTag t) e = is
    go (AtLink t u) e = is
    go (OnTail t) e = is
    go Ended e = (is, e)

-- the step that is due of the definition's get is that of the machine's
pub get_due : (s : Stage) (w : Walking) (v : View) (into : ValueBuf) (c : Calling) (key : List ℕ) (own : ℕ) → StandsOn s w v into → GetMirrors s w into c
    → (a : Step) × (due (GetOf key) own c ≡ Some a) × ((k : List ℕ) (x : ℕ) → act_of (step_from s w k into) x ≡ act_of a x)
get_due Seeking w v into c key own on is = (step_at w.slot w.stand, ap (due (GetOf key) own) is ∙ walk_due (GetOf key) own w [] on, λ k x. refl)
get_due (AtMeta t) w v into c key own on is = (LoadContent w.slot t 0, ap (due (GetOf key) own) is ∙ tail_due (GetOf key) own w t [] (ReadsWord 0) on.0 refl, λ k x. refl)
get_due (AtValue t f j) w v into c key own on (m, xs, is, count, v2) =
    let few : ltb (length xs) (words_of into.length) ≡ true = lt-ltb (length xs) (words_of into.length) (subst (λ (n : ℕ). n < words_of into.length) (sym count) on.1) in
    (LoadContent w.slot t (suc j), ap (due (GetOf key) own) is ∙ tail_due (GetOf key) own w t (m ∷ xs) (ReadsWord (suc j)) on.0.0 (value_does w.pool m xs into.length true v2 few ∙ ap (λ (n : ℕ). ReadsWord (suc n)) count), λ k x. refl)
get_due (AtFound t f) w v into c key own on (xs, is, does) = (LoadNext w.slot t, ap (due (GetOf key) own) is ∙ tail_due (GetOf key) own w t xs Ends on.0.0 does, λ k x. refl)
get_due (AtDead t) w v into c key own on (xs, is, does) = (LoadNext w.slot t, ap (due (GetOf key) own) is ∙ tail_due (GetOf key) own w t xs Ends on.0.0 does, λ k x. refl)
get_due (AtBad t) w v into c key own on (xs, is, does) = (LoadNext w.slot t, ap (due (GetOf key) own) is ∙ tail_due (GetOf key) own w t xs Leaves on.0.0 does, λ k x. refl)
get_due Over w v into c key own on is = absurd on

-- a last load that missed left the tail
last_left : (b : Bool) (w : Walking) (t x own : ℕ) (key xs : List ℕ) (into : ValueBuf) (c : Calling) (g1 : Getting) → (x == unlinked t) ≡ b → b ≡ false → w.stand ≡ OnTail t → c ≡ reads w xs → looks (copies w.pool xs) xs ≡ Ends → g1 ≡ cond b (getting w Over) (sought (goes_on w x)) → GetMirrors g1.stage g1.walk into (after (GetOf key) own c x)
last_left true w t x own key xs into c g1 hit miss at is does go = absurd cc
last_left false w t x own key xs into c g1 hit miss at is does go =
    subst (λ (g : Getting). GetMirrors g.stage g.walk into (after (GetOf key) own c x)) (sym go)
    (sought_stands (goes_on w x) into (after (GetOf key) own c x) (ap (λ (k : Calling). after (GetOf key) own k x) is ∙ tail_after (GetOf key) own w t xs Ends x at does ∙ left_after w t own xs Ends x hit (λ j e. cc)))

-- both go on alike where the access did not end the get
pub get_after : (s : Stage) (w : Walking) (v : View) (into into1 : ValueBuf) (c : Calling) (key : List ℕ) (own x : ℕ) (g1 : Getting) → StandsOn s w v into → GetMirrors s w into c → Misses s x → GoesFrom s w into1.length x g1 → FillsFrom s x into into1
    → GetMirrors g1.stage g1.walk into1 (after (GetOf key) own c x)
get_after Seeking w v into into1 c key own x g1 on is miss go fill =
    subst (λ (g : Getting). GetMirrors g.stage g.walk into1 (after (GetOf key) own c x)) (sym go) (sought_stands (goes_on w x) into1 (after (GetOf key) own c x) (ap (λ (k : Calling). after (GetOf key) own k x) is ∙ walk_after (GetOf key) own w [] x on))
get_after (AtMeta t) w v into into1 c key own x g1 on is miss (o, read, go) fill =
    subst (λ (g : Getting). GetMirrors g.stage g.walk into1 (after (GetOf key) own c x)) (sym go)
    (reads_meta t x w into1 (after (GetOf key) own c x) o read fill.1 (ap (λ (k : Calling). after (GetOf key) own k x) is ∙ tail_after (GetOf key) own w t [] (ReadsWord 0) x on.0 refl))
get_after (AtValue t f j) w v into into1 c key own x g1 on (m, xs, is, count, v2) miss go fill =
    let few : ltb (length xs) (words_of into.length) ≡ true = lt-ltb (length xs) (words_of into.length) (subst (λ (n : ℕ). n < words_of into.length) (sym count) on.1) in
    let does = value_does w.pool m xs into.length true v2 few in
    let now : after (GetOf key) own c x ≡ reads w (m ∷ (xs ++ x ∷ [])) = ap (λ (k : Calling). after (GetOf key) own k x) is ∙ tail_after (GetOf key) own w t (m ∷ xs) (ReadsWord (suc (length xs))) x on.0.0 does in
    let size : IsValueWord w.pool m into1.length = subst (IsValueWord w.pool m) (sym fill.1) v2 in
    let more : length (xs ++ x ∷ []) ≡ suc j = length_snoc x xs ∙ ap suc count in
    subst (λ (g : Getting). GetMirrors g.stage g.walk into1 (after (GetOf key) own c x)) (sym go) (next (ltb (suc j) (words_of into1.length)) refl now size more)
  where
    next : (b : Bool) → ltb (suc j) (words_of into1.length) ≡ b → after (GetOf key) own c x ≡ reads w (m ∷ (xs ++ x ∷ [])) → IsValueWord w.pool m into1.length → length (xs ++ x ∷ []) ≡ suc j
        → GetMirrors (cond b (AtValue t f (suc j)) (AtFound t f)) w into1 (after (GetOf key) own c x)
    next true e now size more = (m, xs ++ x ∷ [], now, more, size)
    next false e now size more = (m ∷ (xs ++ x ∷ []), now, value_does w.pool m (xs ++ x ∷ []) into1.length false size (ap (λ (n : ℕ). ltb n (words_of into1.length)) more ∙ e))
get_after (AtFound t f) w v into into1 c key own x g1 on (xs, is, does) miss go fill = last_left (x == unlinked t) w t x own key xs into1 c g1 refl miss on.0.0 is does go
get_after (AtDead t) w v into into1 c key own x g1 on (xs, is, does) miss go fill = last_left (x == unlinked t) w t x own key xs into1 c g1 refl miss on.0.0 is does go
get_after (AtBad t) w v into into1 c key own x g1 on (xs, is, does) miss go fill =
    subst (λ (g : Getting). GetMirrors g.stage g.walk into1 (after (GetOf key) own c x)) (sym go)
    (sought_stands (goes_on w x) into1 (after (GetOf key) own c x) (ap (λ (k : Calling). after (GetOf key) own k x) is ∙ tail_after (GetOf key) own w t xs Leaves x on.0.0 does ∙ leaves_after w t own xs x))
get_after Over w v into into1 c key own x g1 on is miss go fill = absurd on

-- a call is over
abbrev pub IsOver : Calling → Type 0
IsOver c = (c.steps ≡ []) × (c.over ≡ true)

last_hit : (b : Bool) (w : Walking) (t x own : ℕ) (key xs : List ℕ) (c : Calling) → (x == unlinked t) ≡ b → (b ≡ false → ⊥) → w.stand ≡ OnTail t → c ≡ reads w xs → looks (copies w.pool xs) xs ≡ Ends → IsOver (after (GetOf key) own c x)
last_hit false w t x own key xs c e hit at is does = absurd (hit refl)
last_hit true w t x own key xs c e hit at is does =
    let now : after (GetOf key) own c x ≡ record (reads w xs) { over = true } = ap (λ (k : Calling). after (GetOf key) own k x) is ∙ tail_after (GetOf key) own w t xs Ends x at does ∙ (λ i. if e i then record (reads w xs) { over = true } else record { steps = []; walk = goes_on (begun w) x; seen = []; over = false }) in
    (ap (λ (k : Calling). k.steps) now, ap (λ (k : Calling). k.over) now)

-- and the definition's get is over where the access ended the machine's
pub get_over : (s : Stage) (w : Walking) (v : View) (into : ValueBuf) (c : Calling) (key : List ℕ) (own x : ℕ) → StandsOn s w v into → GetMirrors s w into c → (Misses s x → ⊥) → IsOver (after (GetOf key) own c x)
get_over Seeking w v into c key own x on is hit = absurd (hit tt)
get_over (AtMeta t) w v into c key own x on is hit = absurd (hit tt)
get_over (AtValue t f j) w v into c key own x on is hit = absurd (hit tt)
get_over (AtFound t f) w v into c key own x on (xs, is, does) hit = last_hit (x == unlinked t) w t x own key xs c refl hit on.0.0 is does
get_over (AtDead t) w v into c key own x on (xs, is, does) hit = last_hit (x == unlinked t) w t x own key xs c refl hit on.0.0 is does
get_over (AtBad t) w v into c key own x on is hit = absurd (hit tt)
get_over Over w v into c key own x on is hit = absurd on
