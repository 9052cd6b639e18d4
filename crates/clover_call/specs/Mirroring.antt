-- Where what a caller has under way is, by the definition of what a call does.
use Rattle.std.specs.Prelude.{◌≡◌, ℕ, ◌*◌, ◌%◌, ◌^◌, ◌≤◌, List, [], ◌∷◌, ◌++◌, length, drop, true, false, Some}
use Rattle.clover_words.specs.declared.bytes.ValueBuf.{ValueBuf}
use Rattle.clover_words.specs.declared.meta.Kind.TheVariants.{Value as IsValue}
use Rattle.clover_words.specs.declared.pool.Pool.{Pool}
use Rattle.clover_map.specs.declared.call.Call.{Call}
use Rattle.clover_map.specs.declared.call.Call.TheVariants.{Get as GetOf}
use Rattle.clover_rule.specs.Steps.{Step, StoreContent, FlushContent, RaiseNext, StoreShort}
use Rattle.clover_walk.specs.Walking.{Walking, Ended, begun}
use Rattle.clover_get.specs.Getting.{Stage as GetStage, Seeking as GetSeeking, AtMeta as GetMeta, AtValue, AtFound, AtDead as GetDead, AtBad as GetBad, Over as GetOver}
use Rattle.clover_put.specs.Putting.{Putting, Stage, Storing, Flushing, Seeking, AtMeta, AtLink, Deciding, AtBad, AtRaise, AtShort, Over, body, call_of, kind_of}
use Rattle.clover_call.specs.declared.under.Underway.{Underway}
use Rattle.clover_call.specs.declared.under.Underway.TheVariants.{Nothing, Get, Write}
use Rattle.clover_call.specs.Calling.{Calling, Deed, Links, Ends, Leaves, word_steps, looks, copies, deed}

-- a call that walks, or is at its tail and has loaded these words there
abbrev pub reads : Walking → List ℕ → Calling
reads w xs = record { steps = []; walk = begun w; seen = xs; over = false }

-- the meta word is that of a value of so many bytes, for which a buffer has room
pub record IsValueWord (p : Pool) (m size : ℕ) : Type 0 where
  pub kind : kind_of m ≡ Some IsValue
  pub size_is : m % 2 ^ 16 ≡ size
  pub room : size ≤ 8 * p.words

-- a get does this at its tail next, behind the words that it has loaded there
abbrev pub GetDoes : Walking → Deed → Calling → Type 0
GetDoes w what c = (xs : List ℕ) × (c ≡ reads w xs) × (looks (copies w.pool xs) xs ≡ what)

-- the get is where the call of the definition is, with so much of the value in the room
abbrev pub GetMirrors : GetStage → Walking → ValueBuf → Calling → Type 0
GetMirrors GetSeeking w room c = c ≡ reads w []
GetMirrors (GetMeta t) w room c = c ≡ reads w []
GetMirrors (AtValue t f j) w room c = (m : ℕ) × (xs : List ℕ) × (c ≡ reads w (m ∷ xs)) × (length xs ≡ j) × IsValueWord w.pool m room.length
GetMirrors (AtFound t f) w room c = GetDoes w Ends c
GetMirrors (GetDead t) w room c = GetDoes w Ends c
GetMirrors (GetBad t) w room c = GetDoes w Leaves c
GetMirrors GetOver w room c = (c ≡ reads w []) × (w.stand ≡ Ended)

-- a call that writes stores and flushes so much of its version yet
abbrev pub fills : Walking → List Step → Calling
fills w steps = record { steps = steps; walk = begun w; seen = []; over = false }

-- a call that writes has committed, and makes these steps yet
abbrev pub Closes : Walking → List Step → Calling → Type 0
Closes w steps c = (xs : List ℕ) × (c ≡ record { steps = steps; walk = begun w; seen = xs; over = true })

-- a call that writes does this at its tail u next
abbrev pub PutDoes : Putting → Call → ℕ → Deed → Calling → Type 0
PutDoes w call u what c = (xs : List ℕ) × (c ≡ reads w.walk xs) × (deed w.walk.pool call u xs ≡ what)

-- the call that writes is where that of the definition is
abbrev pub PutMirrors : Stage → Putting → Call → Calling → Type 0
PutMirrors (Storing j) w call c = c ≡ fills w.walk (word_steps (StoreContent w.own) j (drop j (body w)) ++ word_steps (FlushContent w.own) 0 (body w))
PutMirrors (Flushing j) w call c = c ≡ fills w.walk (word_steps (FlushContent w.own) j (drop j (body w)))
PutMirrors Seeking w call c = c ≡ reads w.walk []
PutMirrors (AtMeta u) w call c = c ≡ reads w.walk []
PutMirrors (AtLink u) w call c = PutDoes w call u Links c
PutMirrors (Deciding u y) w call c = PutDoes w call u Ends c
PutMirrors (AtBad u) w call c = PutDoes w call u Leaves c
PutMirrors (AtRaise u) w call c = Closes w.walk (RaiseNext (record { slot = w.walk.slot; from = u; to = w.own }) ∷ StoreShort w.walk.slot w.own ∷ []) c
PutMirrors AtShort w call c = Closes w.walk (StoreShort w.walk.slot w.own ∷ []) c
PutMirrors Over w call c = (c ≡ reads w.walk []) × (w.walk.stand ≡ Ended)

-- the call that writes is this one, on some key
abbrev pub Writes : Putting → Call → Type 0
Writes w call = (key : List ℕ) × (call ≡ call_of w.job key w.value)

-- what is under way is this call with this new tag, where that is by the definition
abbrev pub Mirrors : Underway → ValueBuf → Call → ℕ → Calling → Type 0
Mirrors Nothing room call own c = Unit {0}
Mirrors (Get g) room call own c = ((key : List ℕ) × (call ≡ GetOf key)) × GetMirrors g.stage g.walk room c
Mirrors (Write w) room call own c = Writes w call × (w.own ≡ own) × PutMirrors w.stage w call c
