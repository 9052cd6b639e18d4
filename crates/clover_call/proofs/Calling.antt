-- How a call goes on, by the definition of what a call does: along its walk and at its tail.
use Rattle.std.proofs.Common.{◌≡◌, ℕ, ◌==◌, List, [], ◌∷◌, ◌++◌, Bool, true, false, cond, eqb, if◌then◌else◌, refl, sym, ap, ◌∙◌, subst}
use Rattle.std.specs.Prelude.{Option, Some, None}
use Rattle.clover_words.specs.Tag.{age}
use Rattle.clover_words.specs.Version.{unlinked}
use Rattle.clover_map.specs.declared.call.Call.{Call}
use Rattle.clover_rule.specs.Memory.{Next, word}
use Rattle.clover_rule.specs.Steps.{Step, RaiseNext, StoreShort, act_of}
use Rattle.clover_rule.specs.Words.{next_of, root_of}
use Rattle.clover_rule.specs.declared.access.Act.{Act}
use Rattle.clover_walk.specs.Walking.{Walking, Stand, AtShort, AtRoot, AtTag, AtLink, OnTail, Ended, IsOnWay, begun, goes_from, goes_on, followed, hops, turned, shortened, rooted, next_start, begins, step_at}
use Rattle.clover_call.specs.Calling.{Calling, Deed, Reads, Links, Ends, Leaves, deed, deed_step, done, due, after, LeadsTo}
use Rattle.clover_call.specs.Mirroring.{reads}

begun_hops : (w : Walking) (t : ℕ) (l : Option ℕ) → hops (begun w) t l ≡ begun (hops w t l)
begun_hops w t None = refl
begun_hops w t (Some u) = refl

begun_followed : (w : Walking) (t : ℕ) (n : Next) → followed (begun w) t n ≡ begun (followed w t n)
begun_followed w t (word a l) = go (eqb a (age t))
  where
    go : (b : Bool) → cond b (hops (begun w) t l) (turned (begun w) (next_start w.start) (begins (next_start w.start))) ≡ begun (cond b (hops w t l) (turned w (next_start w.start) (begins (next_start w.start))))
    go true = begun_hops w t l
    go false = refl

begun_shortened : (w : Walking) (o : Option ℕ) → shortened (begun w) o ≡ begun (shortened w o)
begun_shortened w None = refl
begun_shortened w (Some t) = refl

begun_rooted : (w : Walking) (o : Option ℕ) → rooted (begun w) o ≡ begun (rooted w o)
begun_rooted w None = refl
begun_rooted w (Some t) = refl

begun_from : (at : Stand) (w : Walking) (x : ℕ) → goes_from at (begun w) x ≡ begun (goes_from at w x)
begun_from AtShort w x = begun_shortened w (root_of x)
begun_from AtRoot w x = begun_rooted w (root_of x)
begun_from (AtTag t) w x = begun_followed w t (next_of x)
begun_from (AtLink t u) w x = refl
begun_from (OnTail t) w x = begun_followed w t (next_of x)
begun_from Ended w x = refl

-- a walk goes on alike whether or not its next access is its call's first
pub begun_on : (w : Walking) (x : ℕ) → goes_on (begun w) x ≡ begun (goes_on w x)
begun_on w x = begun_from w.stand w x

-- the same walk at a place
abbrev placed_at : Walking → Stand → Walking
placed_at w at = record { pool = w.pool; slot = w.slot; turns = w.turns; first = w.first; start = w.start; stand = at }

way_due : (call : Call) (own : ℕ) (w : Walking) (xs : List ℕ) (at : Stand) → IsOnWay at → due call own (reads (placed_at w at) xs) ≡ Some (step_at w.slot at)
way_due call own w xs AtShort on = refl
way_due call own w xs AtRoot on = refl
way_due call own w xs (AtTag t) on = refl
way_due call own w xs (AtLink t u) on = refl
way_due call own w xs (OnTail t) on = absurd on
way_due call own w xs Ended on = absurd on

-- the step that is due on the way is the walk's
pub walk_due : (call : Call) (own : ℕ) (w : Walking) (xs : List ℕ) → IsOnWay w.stand → due call own (reads w xs) ≡ Some (step_at w.slot w.stand)
walk_due call own w xs on = way_due call own w xs w.stand on

way_after : (call : Call) (own : ℕ) (w : Walking) (xs : List ℕ) (x : ℕ) (at : Stand) → IsOnWay at → after call own (reads (placed_at w at) xs) x ≡ reads (goes_from at w x) []
way_after call own w xs x AtShort on = ap (λ (n : Walking). record { steps = []; walk = n; seen = []; over = false }) (begun_from AtShort w x)
way_after call own w xs x AtRoot on = ap (λ (n : Walking). record { steps = []; walk = n; seen = []; over = false }) (begun_from AtRoot w x)
way_after call own w xs x (AtTag t) on = ap (λ (n : Walking). record { steps = []; walk = n; seen = []; over = false }) (begun_from (AtTag t) w x)
way_after call own w xs x (AtLink t u) on = ap (λ (n : Walking). record { steps = []; walk = n; seen = []; over = false }) (begun_from (AtLink t u) w x)
way_after call own w xs x (OnTail t) on = absurd on
way_after call own w xs x Ended on = absurd on

-- and it goes on as the walk does
pub walk_after : (call : Call) (own : ℕ) (w : Walking) (xs : List ℕ) (x : ℕ) → IsOnWay w.stand → after call own (reads w xs) x ≡ reads (goes_on w x) []
walk_after call own w xs x on = way_after call own w xs x w.stand on

-- at the tail the step that is due is what the call does there
pub tail_due : (call : Call) (own : ℕ) (w : Walking) (t : ℕ) (xs : List ℕ) (what : Deed) → w.stand ≡ OnTail t → deed w.pool call t xs ≡ what → due call own (reads w xs) ≡ Some (deed_step w.slot t own call what)
tail_due call own w t xs what at is =
    subst (λ (s : Stand). due call own (reads (placed_at w s) xs) ≡ Some (deed_step w.slot t own call what)) (sym at) (ap (λ (d : Deed). Some (deed_step w.slot t own call d)) is)

pub tail_after : (call : Call) (own : ℕ) (w : Walking) (t : ℕ) (xs : List ℕ) (what : Deed) (x : ℕ) → w.stand ≡ OnTail t → deed w.pool call t xs ≡ what → after call own (reads w xs) x ≡ done (reads w xs) t own what x
tail_after call own w t xs what x at is =
    subst (λ (s : Stand). after call own (reads (placed_at w s) xs) x ≡ done (reads (placed_at w s) xs) t own what x) (sym at) (ap (λ (d : Deed). done (reads (placed_at w (OnTail t)) xs) t own d x) is)

-- a deed that left its tail walks on
pub left_after : (w : Walking) (t own : ℕ) (xs : List ℕ) (what : Deed) (x : ℕ) → (x == unlinked t) ≡ false → ((j : ℕ) → what ≡ Reads j → ⊥) → done (reads w xs) t own what x ≡ reads (goes_on w x) []
left_after w t own xs (Reads j) x left apart = absurd (apart j refl)
left_after w t own xs Links x left apart = (λ i. if left i then record (reads w xs) { steps = RaiseNext (record { slot = w.slot; from = t; to = own }) ∷ StoreShort w.slot own ∷ []; over = true } else record { steps = []; walk = goes_on (begun w) x; seen = []; over = false }) ∙ ap (λ (n : Walking). record { steps = []; walk = n; seen = []; over = false }) (begun_on w x)
left_after w t own xs Ends x left apart = (λ i. if left i then record (reads w xs) { over = true } else record { steps = []; walk = goes_on (begun w) x; seen = []; over = false }) ∙ ap (λ (n : Walking). record { steps = []; walk = n; seen = []; over = false }) (begun_on w x)
left_after w t own xs Leaves x left apart = ap (λ (n : Walking). record { steps = []; walk = n; seen = []; over = false }) (begun_on w x)

-- one that read the tail's content again walks on whatever it found
pub leaves_after : (w : Walking) (t own : ℕ) (xs : List ℕ) (x : ℕ) → done (reads w xs) t own Leaves x ≡ reads (goes_on w x) []
leaves_after w t own xs x = ap (λ (n : Walking). record { steps = []; walk = n; seen = []; over = false }) (begun_on w x)

-- one act more
pub leads_more : (call : Call) (own : ℕ) (c n : Calling) (acts : List Act) (act : Act) (a : Step) (x : ℕ) → LeadsTo call own c acts n → due call own n ≡ Some a → act ≡ act_of a x → LeadsTo call own c (acts ++ act ∷ []) (after call own n x)
leads_more call own c n [] act a x at next is = (a, x, ap (due call own) (sym at) ∙ next, is, ap (λ (k : Calling). after call own k x) at)
leads_more call own c n (b ∷ acts) act a x (s, y, d, e, more) next is = (s, y, d, e, leads_more call own (after call own c y) n acts act a x more next is)
