-- Each access of a client is the one that is due of its call: where the call stands as it begins and behind each access, and how many it makes for its turns.
use Prim.Native.Nat.{suc}
use Rattle.std.proofs.Common.{◌≡◌, ◌≢◌, ℕ, ◌+◌, ◌*◌, ◌≤◌, ◌<◌, ◌==◌, List, [], ◌∷◌, ◌++◌, length, Bool, true, false, cond, eqb, if◌then◌else◌, refl, sym, ap, ◌∙◌, subst, arith}
use Rattle.std.specs.Prelude.{Option, Some, None}
use Rattle.std.proofs.Math.Nat.{mul-le-mul_left}
use Rattle.clover_words.specs.declared.bytes.ValueBuf.{ValueBuf}
use Rattle.clover_words.specs.declared.pool.Pool.{Pool}
use Rattle.clover_words.specs.declared.setup.Setup.{Setup}
use Rattle.clover_words.specs.Tag.{age}
use Rattle.clover_words.specs.Version.{unlinked}
use Rattle.clover_map.specs.History.{key_of}
use Rattle.clover_map.specs.declared.call.Call.{Call}
use Rattle.clover_map.specs.declared.call.Call.TheVariants.{Get as GetOf, Put as PutOf, Delete as DeleteOf, Swap as SwapOf}
use Rattle.clover_script.specs.declared.line.Task.{Task}
use Rattle.clover_script.specs.declared.line.Task.TheVariants.{Client as ClientTask}
use Rattle.clover_rule.specs.Content.{content}
use Rattle.clover_rule.specs.Memory.{Next, word}
use Rattle.clover_rule.specs.Steps.{Step, act_of}
use Rattle.clover_rule.specs.Words.{next_of, root_of}
use Rattle.clover_rule.specs.declared.access.Access.{Access}
use Rattle.clover_rule.specs.declared.access.Act.{Act}
use Rattle.clover_rule.specs.declared.view.View.{View}
use Rattle.clover_cache.specs.Node.{Known, cursor_at}
use Rattle.clover_walk.specs.Standing.{number_of}
use Rattle.clover_walk.specs.Walking.{Walking, Stand, AtShort as ToShort, AtRoot, AtTag, AtLink as OnLink, OnTail, Ended, goes_from, goes_on, followed, hops, turned, shortened, rooted, next_start, begins, most_accesses}
use Rattle.clover_walk.proofs.Alone.{content_words}
use Rattle.clover_walk.proofs.Calling.{since_few as walk_few}
use Rattle.clover_get.specs.Getting.{Getting, Stage as GetStage, Seeking as GetSeeking, AtMeta as GetMeta, AtValue, AtFound, AtDead as GetDead, AtBad as GetBad, Over as GetOver}
use Rattle.clover_get.specs.Holding.{GetHolds}
use Rattle.clover_get.proofs.Counting.{length_first}
use Rattle.clover_put.specs.Holding.{PutHolds, Fills, most}
use Rattle.clover_put.specs.Putting.{Putting, Stage, Storing, Flushing, Seeking, AtMeta, AtLink, Deciding, AtBad, AtRaise, AtShort, Over, body, call_of, commits}
use Rattle.clover_put.specs.declared.job.Job.{Job}
use Rattle.clover_put.specs.declared.job.Job.TheVariants.{Put, Delete, Swap}
use Rattle.clover_put.proofs.Known.{bounded}
use Rattle.clover_call.specs.Calling.{Calling, Deed, Reads, Links, Ends, Leaves, own_words, begun_call, deed, done, due, after, walks, LeadsTo}
use Rattle.clover_call.specs.Mirroring.{reads, GetMirrors, PutMirrors, Mirrors, Writes}
use Rattle.clover_call.specs.Beginning.{size_of}
use Rattle.clover_event.specs.Client.{since_of}
use Rattle.clover_event.specs.Run.{room}
use Rattle.clover_call.specs.declared.under.Underway.{Underway}
use Rattle.clover_call.specs.declared.under.Underway.TheVariants.{Nothing, Get, Write}
use Rattle.clover_call.specs.Caller.{CallHolds}
use Rattle.clover_call.proofs.Begins.{mirrors}
use Rattle.clover_call.proofs.Calling.{leads_more}
use Rattle.clover_event.proofs.Lefts.{copied_few}
use Rattle.clover_event.proofs.Starting.{value_fits}

-- the turns of what is under way
abbrev turns_of : Underway → ℕ
turns_of Nothing = 0
turns_of (Get g) = g.walk.turns
turns_of (Write c) = c.walk.turns

same_turns : (w : Walking) (xs : List ℕ) (c : Calling) → c ≡ reads w xs → c.walk.turns ≡ w.turns
same_turns w xs c e = ap (λ (z : Calling). z.walk.turns) e

get_turns : (s : GetStage) (w : Walking) (into : ValueBuf) (c : Calling) → GetMirrors s w into c → c.walk.turns ≡ w.turns
get_turns GetSeeking w into c h = same_turns w [] c h
get_turns (GetMeta t) w into c h = same_turns w [] c h
get_turns (AtValue t f j) w into c h = same_turns w (h.0 ∷ h.1) c h.2
get_turns (AtFound t f) w into c h = same_turns w h.0 c h.1
get_turns (GetDead t) w into c h = same_turns w h.0 c h.1
get_turns (GetBad t) w into c h = same_turns w h.0 c h.1
get_turns GetOver w into c h = same_turns w [] c h.0

put_turns : (s : Stage) (w : Putting) (call : Call) (c : Calling) → PutMirrors s w call c → c.walk.turns ≡ w.walk.turns
put_turns (Storing j) w call c h = ap (λ (z : Calling). z.walk.turns) h
put_turns (Flushing j) w call c h = ap (λ (z : Calling). z.walk.turns) h
put_turns Seeking w call c h = ap (λ (z : Calling). z.walk.turns) h
put_turns (AtMeta u) w call c h = ap (λ (z : Calling). z.walk.turns) h
put_turns (AtLink u) w call c h = ap (λ (z : Calling). z.walk.turns) h.1
put_turns (Deciding u y) w call c h = ap (λ (z : Calling). z.walk.turns) h.1
put_turns (AtBad u) w call c h = ap (λ (z : Calling). z.walk.turns) h.1
put_turns (AtRaise u) w call c h = ap (λ (z : Calling). z.walk.turns) h.1
put_turns AtShort w call c h = ap (λ (z : Calling). z.walk.turns) h.1
put_turns Over w call c h = ap (λ (z : Calling). z.walk.turns) h.0

pub stands_turns : (u : Underway) (room : ValueBuf) (call : Call) (own : ℕ) (c : Calling) → u ≢ Nothing → Mirrors u room call own c → c.walk.turns ≡ turns_of u
stands_turns Nothing room call own c busy h = absurd (busy refl)
stands_turns (Get g) room call own c busy h = get_turns g.stage g.walk room c h.1
stands_turns (Write w) room call own c busy h = put_turns w.stage w call c h.2

-- the turns of a walk never fall
hops_turns : (w : Walking) (t : ℕ) (l : Option ℕ) → w.turns ≤ (hops w t l).turns
hops_turns w t None = omega arith
hops_turns w t (Some u) = omega arith

followed_turns : (w : Walking) (t : ℕ) (n : Next) → w.turns ≤ (followed w t n).turns
followed_turns w t (word a l) = go (eqb a (age t))
  where
    go : (b : Bool) → w.turns ≤ (cond b (hops w t l) (turned w (next_start w.start) (begins (next_start w.start)))).turns
    go true = hops_turns w t l
    go false = omega arith

shortened_turns : (w : Walking) (o : Option ℕ) → w.turns ≤ (shortened w o).turns
shortened_turns w None = omega arith
shortened_turns w (Some t) = omega arith

rooted_turns : (w : Walking) (o : Option ℕ) → w.turns ≤ (rooted w o).turns
rooted_turns w None = omega arith
rooted_turns w (Some t) = omega arith

goes_turns : (at : Stand) (w : Walking) (x : ℕ) → w.turns ≤ (goes_from at w x).turns
goes_turns ToShort w x = shortened_turns w (root_of x)
goes_turns AtRoot w x = rooted_turns w (root_of x)
goes_turns (AtTag t) w x = followed_turns w t (next_of x)
goes_turns (OnLink t u) w x = omega arith
goes_turns (OnTail t) w x = followed_turns w t (next_of x)
goes_turns Ended w x = omega arith

either_turns : (b : Bool) (k : ℕ) (m n : Calling) → k ≤ m.walk.turns → k ≤ n.walk.turns → k ≤ (if b then m else n).walk.turns
either_turns true k m n first second = first
either_turns false k m n first second = second

done_turns : (c : Calling) (t own : ℕ) (what : Deed) (x : ℕ) → c.walk.turns ≤ (done c t own what x).walk.turns
done_turns c t own (Reads j) x = omega arith
done_turns c t own Links x = either_turns (x == unlinked t) c.walk.turns _ (walks (goes_on c.walk x)) (omega arith) (goes_turns c.walk.stand c.walk x)
done_turns c t own Ends x = either_turns (x == unlinked t) c.walk.turns (record c { over = true }) (walks (goes_on c.walk x)) (omega arith) (goes_turns c.walk.stand c.walk x)
done_turns c t own Leaves x = goes_turns c.walk.stand c.walk x

-- nor do those of a call
pub after_turns : (call : Call) (own : ℕ) (c : Calling) (x : ℕ) → c.walk.turns ≤ (after call own c x).walk.turns
after_turns call own c x = on c.steps
  where
    at : (s : Stand) → c.walk.stand ≡ s → c.walk.turns ≤ (after call own (record { steps = []; walk = record { pool = c.walk.pool; slot = c.walk.slot; turns = c.walk.turns; first = c.walk.first; start = c.walk.start; stand = s }; seen = c.seen; over = c.over }) x).walk.turns
    at ToShort e = goes_turns ToShort c.walk x
    at AtRoot e = goes_turns AtRoot c.walk x
    at (AtTag t) e = goes_turns (AtTag t) c.walk x
    at (OnLink t u) e = goes_turns (OnLink t u) c.walk x
    at (OnTail t) e = done_turns (record { steps = []; walk = record { pool = c.walk.pool; slot = c.walk.slot; turns = c.walk.turns; first = c.walk.first; start = c.walk.start; stand = OnTail t }; seen = c.seen; over = c.over }) t own (deed c.walk.pool call t c.seen) x
    at Ended e = goes_turns Ended c.walk x

    on : (steps : List Step) → c.walk.turns ≤ (after call own (record { steps = steps; walk = c.walk; seen = c.seen; over = c.over }) x).walk.turns
    on [] = at c.walk.stand refl
    on (a ∷ steps) = omega arith

-- a get has made fewer accesses than its turns allow
get_within : (g : Getting) (v : View) (into : ValueBuf) → GetHolds g v into → length (cond g.walk.first [] v.pass.since) < most_accesses g.walk.pool g.walk.turns
get_within g v into h =
    let few = copied_few g.stage g.walk v into h.stage in
    let bound = h.bound in
    let count = length_first g.walk.first v.pass.since in
    omega arith

-- what a call that writes has made, and one access more
most_within : (s : Stage) (c : Putting) (v : View) → Fills s c v → suc (most s c) ≤ 2 * length (body c) + 5 * c.walk.turns + 7
most_within (Storing j) c v h = let l = h.1 in omega arith
most_within (Flushing j) c v h = let l = h.1 in omega arith
most_within Seeking c v h = let l = walk_few c.walk.stand in omega arith
most_within (AtMeta u) c v h = omega arith
most_within (AtLink u) c v h = omega arith
most_within (Deciding u y) c v h = omega arith
most_within (AtBad u) c v h = omega arith
most_within (AtRaise u) c v h = omega arith
most_within AtShort c v h = omega arith
most_within Over c v h = absurd h

put_within : (c : Putting) (v : View) → PutHolds c v → length (body c) ≤ c.walk.pool.words + 1 → length (cond c.walk.first [] v.pass.since) < most_accesses c.walk.pool c.walk.turns
put_within c v h fits =
    let few = most_within c.stage c v h.fills in
    let spent = h.spent in
    let count = length_first c.walk.first v.pass.since in
    let all : suc (length (cond c.walk.first [] v.pass.since)) ≤ most_accesses c.walk.pool c.walk.turns = bounded c.walk.pool _ (length (body c)) c.walk.turns (omega arith) (omega arith) in
    omega arith

-- the words of the version that a call commits are those of the machine's
own_body : (w : Putting) (call : Call) → Writes w call → own_words call ≡ body w
own_body w call (key, is) = ap own_words is ∙ go w.job
  where
    go : (j : Job) → own_words (call_of j key w.value) ≡ content (commits j w.value)
    go Put = refl
    go Delete = refl
    go (Swap t) = refl

-- what is under way has made fewer accesses than its turns allow
pub under_within : (p : Pool) (u : Underway) (v : View) (room : ValueBuf) (call : Call) (own : ℕ) (c : Calling) → u ≢ Nothing → CallHolds p u v room → Mirrors u room call own c → length (own_words call) ≤ p.words + 1 → length (since_of u v) < most_accesses p (turns_of u)
under_within p Nothing v room call own c busy is at fits = absurd (busy refl)
under_within p (Get g) v room call own c busy is at fits = subst (λ (q : Pool). length (cond g.walk.first [] v.pass.since) < most_accesses q g.walk.turns) is.0 (get_within g v room is.1)
under_within p (Write w) v room call own c busy is at fits =
    let n : length (own_words call) ≡ length (body w) = ap length (own_body w call at.0) in
    let q : w.walk.pool.words ≡ p.words = ap (λ (z : Pool). z.words) is.0 in
    subst (λ (q : Pool). length (cond w.walk.first [] v.pass.since) < most_accesses q w.walk.turns) is.0 (put_within w v is.1 (omega arith))

pub more_allow : (a b w : ℕ) → a ≤ b → (a + 1) * (w + 5) + 2 * w + 4 ≤ (b + 1) * (w + 5) + 2 * w + 4
more_allow a b w less = let one : (w + 5) * a ≤ (w + 5) * b = mul-le-mul_left (w + 5) less in omega arith

-- a buffer has room for its version
pub words_fit : (s : Setup) (call : Call) → size_of call ≤ room s → length (own_words call) ≤ s.pool.words + 1
words_fit s (GetOf key) fits = omega arith
words_fit s (PutOf key value) fits = let e = content_words (Some value) in let k = value_fits s.pool value fits in omega arith
words_fit s (DeleteOf key) fits = let e = content_words None in omega arith
words_fit s (SwapOf key expected value) fits = let e = content_words (Some value) in let k = value_fits s.pool value fits in omega arith
