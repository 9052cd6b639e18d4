-- A call of the caller that writes is the one of the definition: the same step is due of both, and both go on alike.
use Prim.Native.Nat.{zero, suc}
use Rattle.std.proofs.Common.{◌≡◌, ℕ, ◌<◌, ◌==◌, List, [], ◌∷◌, ◌++◌, length, drop, get_or, Bool, true, false, cond, eqb, ltb, if◌then◌else◌, refl, ap, ◌∙◌, subst, arith, eq-eqb}
use Rattle.std.specs.Prelude.{Option, Some, None}
use Rattle.std.proofs.Math.Seq.{drop-cons, drop-length}
use Rattle.std.proofs.lemmas.Bool.{ltb-false}
use Rattle.clover_words.specs.declared.meta.Kind.{Kind}
use Rattle.clover_words.specs.declared.meta.Kind.TheVariants.{Value as IsValue, Tombstone}
use Rattle.clover_words.specs.Tag.{tag_number}
use Rattle.clover_words.specs.Version.{unlinked}
use Rattle.clover_map.specs.declared.call.Call.{Call}
use Rattle.clover_map.specs.declared.call.Reply.TheVariants.{Differs}
use Rattle.clover_rule.specs.Lists.{nth}
use Rattle.clover_rule.specs.Steps.{Step, LoadNext, LinkNext, RaiseNext, StoreContent, FlushContent, LoadContent, StoreShort, act_of}
use Rattle.clover_rule.specs.declared.view.View.{View}
use Rattle.clover_walk.specs.Walking.{Walking, Stand, AtShort as ToShort, AtRoot, AtTag, AtLink as OnLink, OnTail, Ended, begun, goes_on, step_at}
use Rattle.clover_put.specs.Answering.{IsBefore}
use Rattle.clover_put.specs.Holding.{Fills, Looks, Reads as ReadsMeta}
use Rattle.clover_put.specs.Putting.{Putting, Stage, Storing, Flushing, Seeking, AtMeta, AtLink, Deciding, AtBad, AtRaise, AtShort, Over, body, body_word, call_of, kind_of, put_step, put_on, staged, walked, filled, reached, at_tail, on_meta}
use Rattle.clover_put.specs.declared.job.Job.{Job}
use Rattle.clover_put.specs.declared.job.Job.TheVariants.{Put, Delete, Swap}
use Rattle.clover_put.proofs.Body.{body_nth}
use Rattle.clover_call.specs.Calling.{Calling, Deed, Reads, Links, Ends, Leaves, word_steps, by_kind, deed, due, after}
use Rattle.clover_call.specs.Mirroring.{reads, fills, PutDoes, PutMirrors, Writes}
use Rattle.clover_call.proofs.Calling.{walk_due, walk_after, tail_due, tail_after, left_after, leaves_after}
use Rattle.clover_call.proofs.GetCalls.{IsOver}
use Rattle.clover_call.proofs.PutGoes.{Misses}

-- the next word of a version, and those behind it
body_drop : (w : Putting) (j : ℕ) → j < length (body w) → drop j (body w) ≡ body_word w.job w.value j ∷ drop (suc j) (body w)
body_drop w j less =
    let here : get_or (body w) j 0 ≡ body_word w.job w.value j = nth_or (body w) j 0 (body_word w.job w.value j) (body_nth w.job w.value j less) in
    drop-cons (body w) j 0 less ∙ ap (λ (x : ℕ). x ∷ drop (suc j) (body w)) here
  where
    nth_or : (xs : List ℕ) (i d x : ℕ) → nth xs i ≡ Some x → get_or xs i d ≡ x
    nth_or [] i d x e = absurd cc
    nth_or (y ∷ ys) zero d x e = cc
    nth_or (y ∷ ys) (suc i) d x e = nth_or ys i d x e

-- behind the last one there is none
body_none : (w : Putting) (j : ℕ) → (ltb (suc j) (length (body w))) ≡ false → j < length (body w) → drop (suc j) (body w) ≡ []
body_none w j past less =
    let last : suc j ≡ length (body w) = (let l = ltb-false (suc j) (length (body w)) past in omega arith) in
    ap (λ (n : ℕ). drop n (body w)) last ∙ drop-length (body w)

-- the step that is due of one that still fills its version
fills_due : (call : Call) (own : ℕ) (w : Walking) (a : Step) (steps rest : List Step) → steps ≡ a ∷ rest → due call own (fills w steps) ≡ Some a
fills_due call own w a steps rest e = ap (λ (s : List Step). due call own (fills w s)) e

fills_after : (call : Call) (own x : ℕ) (w : Walking) (a : Step) (steps rest : List Step) → steps ≡ a ∷ rest → after call own (fills w steps) x ≡ fills w rest
fills_after call own x w a steps rest e = ap (λ (s : List Step). after call own (fills w s) x) e

-- a job that looks at the meta word does so first
looks_first : (w : Putting) (call : Call) (u : ℕ) → Writes w call → ReadsMeta w.job → deed w.walk.pool call u [] ≡ Reads 0
looks_first w call u (key, is) reads_meta = ap (λ (k : Call). deed w.walk.pool k u []) is ∙ by w.job reads_meta
  where
    by : (j : Job) → ReadsMeta j → deed w.walk.pool (call_of j key w.value) u [] ≡ Reads 0
    by Put h = absurd h
    by Delete h = refl
    by (Swap t) h = refl

-- the step that is due of the definition's call is that of the machine's
pub put_due : (s : Stage) (w : Putting) (v u : View) (call : Call) (c : Calling) → Fills s w v → Looks s w v → Writes w call → PutMirrors s w call c
    → (a : Step) × (due call w.own c ≡ Some a) × ((x : ℕ) → act_of (put_step (record w { stage = s }) u) x ≡ act_of a x)
put_due (Storing j) w v u call c f l is at = (
  StoreContent w.own j (body_word w.job w.value j),
  ap (due call w.own) at ∙ fills_due call w.own w.walk _ _ _ (ap (λ (xs : List ℕ). word_steps (StoreContent w.own) j xs ++ word_steps (FlushContent w.own) 0 (body w)) (body_drop w j f.1)),
  λ x. refl,
)
put_due (Flushing j) w v u call c f l is at =
    (FlushContent w.own j (body_word w.job w.value j), ap (due call w.own) at ∙ fills_due call w.own w.walk _ _ _ (ap (word_steps (FlushContent w.own) j) (body_drop w j f.1)), λ x. refl)
put_due Seeking w v u call c f l is at = (step_at w.walk.slot w.walk.stand, ap (due call w.own) at ∙ walk_due call w.own w.walk [] l, λ x. refl)
put_due (AtMeta t) w v u call c f l is at = (LoadContent w.walk.slot t 0, ap (due call w.own) at ∙ tail_due call w.own w.walk t [] (Reads 0) l.0.0 (looks_first w call t is l.1), λ x. refl)
put_due (AtLink t) w v u call c f l is (xs, at, does) = (LinkNext w.walk.slot t w.own call, ap (due call w.own) at ∙ tail_due call w.own w.walk t xs Links l.0.0 does, λ x. refl)
put_due (Deciding t y) w v u call c f l is (xs, at, does) = (LoadNext w.walk.slot t, ap (due call w.own) at ∙ tail_due call w.own w.walk t xs Ends l.0.0 does, λ x. refl)
put_due (AtBad t) w v u call c f l is (xs, at, does) = (LoadNext w.walk.slot t, ap (due call w.own) at ∙ tail_due call w.own w.walk t xs Leaves l.0.0 does, λ x. refl)
put_due (AtRaise t) w v u call c f l is (xs, at) = (RaiseNext (record { slot = w.walk.slot; from = t; to = w.own }), ap (due call w.own) at, λ x. refl)
put_due AtShort w v u call c f l is (xs, at) = (StoreShort w.walk.slot w.own, ap (due call w.own) at, λ x. refl)
put_due Over w v u call c f l is at = absurd l

-- where a walk leaves its call
walked_stands : (w : Putting) (n : Walking) (call : Call) (c : Calling) → Writes w call → c ≡ reads n [] → PutMirrors (reached w.job n.stand) (walked w n) call c
walked_stands w n call c (key, is) at = go n.stand refl
  where
    tail : (j : Job) (t : ℕ) → call ≡ call_of j key w.value → PutMirrors (at_tail j t) (walked w n) call c
    tail Put t e = ([], at, ap (λ (k : Call). deed n.pool k t []) e)
    tail Delete t e = at
    tail (Swap x) t e = at

    go : (s : Stand) → n.stand ≡ s → PutMirrors (reached w.job s) (walked w n) call c
    go ToShort e = at
    go AtRoot e = at
    go (AtTag t) e = at
    go (OnLink t u) e = at
    go (OnTail t) e = tail w.job t is
    go Ended e = (at, e)

-- what the tail's meta word says of what is to be done there
meta_stands : (w : Putting) (call : Call) (u x : ℕ) (c : Calling) → Writes w call → ReadsMeta w.job → c ≡ reads w.walk (x ∷ []) → PutMirrors (on_meta w.job u (kind_of x)) (staged w (on_meta w.job u (kind_of x))) call c
meta_stands w call u x c (key, is) looks_there at = go w.job (kind_of x) refl looks_there is
  where
    does : (k : Option Kind) (live : Deed) → kind_of x ≡ k → by_kind live (kind_of x) ≡ by_kind live k
    does k live e = ap (by_kind live) e

    other : (t : _) (b : Bool) → eqb (tag_number t) u ≡ b → call ≡ call_of (Swap t) key w.value → kind_of x ≡ Some IsValue → PutMirrors (cond b (AtLink u) (Deciding u (Differs u))) (staged w (cond b (AtLink u) (Deciding u (Differs u)))) call c
    other t true same e kind = (x ∷ [], at, ap (λ (k : Call). deed w.walk.pool k u (x ∷ [])) e ∙ does (Some IsValue) _ kind ∙ (λ i. if same i then Links else Ends))
    other t false same e kind = (x ∷ [], at, ap (λ (k : Call). deed w.walk.pool k u (x ∷ [])) e ∙ does (Some IsValue) _ kind ∙ (λ i. if same i then Links else Ends))

    go : (j : Job) (k : Option Kind) → kind_of x ≡ k → ReadsMeta j → call ≡ call_of j key w.value → PutMirrors (on_meta j u k) (staged w (on_meta j u k)) call c
    go Put k kind looks_there e = absurd looks_there
    go Delete (Some IsValue) kind looks_there e = (x ∷ [], at, ap (λ (k : Call). deed w.walk.pool k u (x ∷ [])) e ∙ does (Some IsValue) Links kind)
    go Delete (Some Tombstone) kind looks_there e = (x ∷ [], at, ap (λ (k : Call). deed w.walk.pool k u (x ∷ [])) e ∙ does (Some Tombstone) Links kind)
    go Delete None kind looks_there e = (x ∷ [], at, ap (λ (k : Call). deed w.walk.pool k u (x ∷ [])) e ∙ does None Links kind)
    go (Swap t) (Some IsValue) kind looks_there e = other t (eqb (tag_number t) u) refl e kind
    go (Swap t) (Some Tombstone) kind looks_there e = (x ∷ [], at, ap (λ (k : Call). deed w.walk.pool k u (x ∷ [])) e ∙ does (Some Tombstone) _ kind)
    go (Swap t) None kind looks_there e = (x ∷ [], at, ap (λ (k : Call). deed w.walk.pool k u (x ∷ [])) e ∙ does None _ kind)

-- an access that found the tail left
left_stands : (w : Putting) (call : Call) (u x : ℕ) (at : Stage) (what : Deed) (b : Bool) (c : Calling) → Writes w call → PutDoes w call u what c → w.walk.stand ≡ OnTail u → ((j : ℕ) → what ≡ Reads j → ⊥) → (x == unlinked u) ≡ b → b ≡ false
    → PutMirrors (cond b (staged w at) (walked w (goes_on w.walk x))).stage (cond b (staged w at) (walked w (goes_on w.walk x))) call (after call w.own c x)
left_stands w call u x at what true c is (xs, there, does) on apart e miss = absurd cc
left_stands w call u x at what false c is (xs, there, does) on apart e miss =
    walked_stands w (goes_on w.walk x) call (after call w.own c x) is (ap (λ (k : Calling). after call w.own k x) there ∙ tail_after call w.own w.walk u xs what x on does ∙ left_after w.walk u w.own xs what x e apart)

-- both go on alike where the access neither committed nor ended the call
pub put_after : (s : Stage) (w : Putting) (v : View) (call : Call) (c : Calling) (x : ℕ) → Fills s w v → Looks s w v → Writes w call → PutMirrors s w call c → Misses s x → (s ≡ AtShort → ⊥)
    → PutMirrors (put_on (record w { stage = s }) x).stage (put_on (record w { stage = s }) x) call (after call w.own c x)
put_after (Storing j) w v call c x f l is at miss more = go (ltb (suc j) (length (body w))) refl
  where
    now : after call w.own c x ≡ fills w.walk (word_steps (StoreContent w.own) (suc j) (drop (suc j) (body w)) ++ word_steps (FlushContent w.own) 0 (body w))
    now = ap (λ (k : Calling). after call w.own k x) at ∙ fills_after call w.own x w.walk _ _ _ (ap (λ (xs : List ℕ). word_steps (StoreContent w.own) j xs ++ word_steps (FlushContent w.own) 0 (body w)) (body_drop w j f.1))

    go : (b : Bool) → ltb (suc j) (length (body w)) ≡ b → PutMirrors (cond b (Storing (suc j)) (Flushing 0)) (filled w (cond b (Storing (suc j)) (Flushing 0))) call (after call w.own c x)
    go true e = now
    go false e = now ∙ ap (λ (xs : List ℕ). fills w.walk (word_steps (StoreContent w.own) (suc j) xs ++ word_steps (FlushContent w.own) 0 (body w))) (body_none w j e f.1)
put_after (Flushing j) w v call c x f l is at miss more = go (ltb (suc j) (length (body w))) refl
  where
    now : after call w.own c x ≡ fills w.walk (word_steps (FlushContent w.own) (suc j) (drop (suc j) (body w)))
    now = ap (λ (k : Calling). after call w.own k x) at ∙ fills_after call w.own x w.walk _ _ _ (ap (word_steps (FlushContent w.own) j) (body_drop w j f.1))

    go : (b : Bool) → ltb (suc j) (length (body w)) ≡ b → PutMirrors (cond b (Flushing (suc j)) Seeking) (filled w (cond b (Flushing (suc j)) Seeking)) call (after call w.own c x)
    go true e = now
    go false e = now ∙ ap (λ (xs : List ℕ). fills w.walk (word_steps (FlushContent w.own) (suc j) xs)) (body_none w j e f.1)
put_after Seeking w v call c x f l is at miss more = walked_stands w (goes_on w.walk x) call (after call w.own c x) is (ap (λ (k : Calling). after call w.own k x) at ∙ walk_after call w.own w.walk [] x l)
put_after (AtMeta u) w v call c x f l is at miss more = meta_stands w call u x (after call w.own c x) is l.1 (ap (λ (k : Calling). after call w.own k x) at ∙ tail_after call w.own w.walk u [] (Reads 0) x l.0.0 (looks_first w call u is l.1))
put_after (AtLink u) w v call c x f l is at miss more = left_stands w call u x (AtRaise u) Links (x == unlinked u) c is at l.0.0 (λ j e. cc) refl miss
put_after (Deciding u y) w v call c x f l is at miss more = left_stands w call u x Over Ends (x == unlinked u) c is at l.0.0 (λ j e. cc) refl miss
put_after (AtBad u) w v call c x f l is (xs, at, does) miss more =
    walked_stands w (goes_on w.walk x) call (after call w.own c x) is (ap (λ (k : Calling). after call w.own k x) at ∙ tail_after call w.own w.walk u xs Leaves x l.0.0 does ∙ leaves_after w.walk u w.own xs x)
put_after (AtRaise u) w v call c x f l is (xs, at) miss more = (xs, ap (λ (k : Calling). after call w.own k x) at)
put_after AtShort w v call c x f l is at miss more = absurd (more refl)
put_after Over w v call c x f l is at miss more = absurd l

-- the exchange that found the tail commits
pub put_commits : (w : Putting) (call : Call) (u x : ℕ) (c : Calling) → w.walk.stand ≡ OnTail u → PutDoes w call u Links c → x ≡ unlinked u → PutMirrors (AtRaise u) (staged w (AtRaise u)) call (after call w.own c x)
put_commits w call u x c on (xs, at, does) hit =
    (xs, ap (λ (k : Calling). after call w.own k x) at ∙ tail_after call w.own w.walk u xs Links x on does ∙ (λ i. if eq-eqb x (unlinked u) hit i then record (reads w.walk xs) { steps = RaiseNext (record { slot = w.walk.slot; from = u; to = w.own }) ∷ StoreShort w.walk.slot w.own ∷ []; over = true } else record { steps = []; walk = goes_on (begun w.walk) x; seen = []; over = false }))

ended_over : (w : Putting) (call : Call) (u x : ℕ) (b : Bool) (c : Calling) → w.walk.stand ≡ OnTail u → PutDoes w call u Ends c → (x == unlinked u) ≡ b → (b ≡ false → ⊥) → IsOver (after call w.own c x)
ended_over w call u x false c on at e hit = absurd (hit refl)
ended_over w call u x true c on (xs, at, does) e hit =
    let now : after call w.own c x ≡ record (reads w.walk xs) { over = true } = ap (λ (k : Calling). after call w.own k x) at ∙ tail_after call w.own w.walk u xs Ends x on does ∙ (λ i. if e i then record (reads w.walk xs) { over = true } else record { steps = []; walk = goes_on (begun w.walk) x; seen = []; over = false }) in
    (ap (λ (k : Calling). k.steps) now, ap (λ (k : Calling). k.over) now)

-- the stage is one of a last load
abbrev pub IsLastLoad : Stage → Type 0
IsLastLoad (Deciding u y) = Unit {0}
IsLastLoad s = ⊥

-- a last load that found the tail ends the call
pub put_over : (s : Stage) (w : Putting) (v : View) (call : Call) (c : Calling) (x : ℕ) → Looks s w v → PutMirrors s w call c → IsLastLoad s → (Misses s x → ⊥) → IsOver (after call w.own c x)
put_over (Storing j) w v call c x l at last hit = absurd last
put_over (Flushing j) w v call c x l at last hit = absurd last
put_over Seeking w v call c x l at last hit = absurd last
put_over (AtMeta u) w v call c x l at last hit = absurd last
put_over (AtLink u) w v call c x l at last hit = absurd last
put_over (Deciding u y) w v call c x l at last hit = ended_over w call u x (x == unlinked u) c l.0.0 at refl hit
put_over (AtBad u) w v call c x l at last hit = absurd last
put_over (AtRaise u) w v call c x l at last hit = absurd last
put_over AtShort w v call c x l at last hit = absurd last
put_over Over w v call c x l at last hit = absurd last

-- and so does the store of the shortcut
pub put_short : (w : Putting) (call : Call) (c : Calling) (x : ℕ) → PutMirrors AtShort w call c → IsOver (after call w.own c x)
put_short w call c x (xs, at) = let now = ap (λ (k : Calling). after call w.own k x) at in (ap (λ (k : Calling). k.steps) now, ap (λ (k : Calling). k.over) now)

-- a last load is the only stage that ends a call before its exchange where it did not miss
pub last_load : (s : Stage) (w : Putting) (x : ℕ) → (Misses s x → ⊥) → (put_on (record w { stage = s }) x).stage ≡ Over → IsLastLoad s
last_load (Storing j) w x hit over = absurd (hit tt)
last_load (Flushing j) w x hit over = absurd (hit tt)
last_load Seeking w x hit over = absurd (hit tt)
last_load (AtMeta u) w x hit over = absurd (hit tt)
last_load (AtLink u) w x hit over = absurd (go (x == unlinked u) hit over)
  where
    go : (b : Bool) → (b ≡ false → ⊥) → (cond b (staged w (AtRaise u)) (walked w (goes_on w.walk x))).stage ≡ Over → ⊥
    go true hit over = cc
    go false hit over = hit refl
last_load (Deciding u y) w x hit over = tt
last_load (AtBad u) w x hit over = absurd (hit tt)
last_load (AtRaise u) w x hit over = absurd (hit tt)
last_load AtShort w x hit over = absurd (hit tt)
last_load Over w x hit over = absurd (hit tt)

-- it is before the exchange, so it stores no shortcut
pub before_short : (s : Stage) → IsBefore s → s ≡ AtShort → ⊥
before_short s before is = subst IsBefore is before
