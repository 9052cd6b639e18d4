-- How a call that writes goes on: what stays of it, and which accesses neither commit nor end it.
use Rattle.std.proofs.Common.{◌≡◌, ℕ, ◌==◌, Bool, true, false, cond, refl, sym, ap, ◌∙◌, subst, eqb-true}
use Rattle.clover_words.specs.Version.{unlinked}
use Rattle.clover_map.specs.declared.call.Reply.{Reply}
use Rattle.clover_rule.specs.declared.view.View.{View}
use Rattle.clover_walk.specs.Walking.{Stand, AtShort as ToShort, AtRoot, AtTag, AtLink as OnLink, OnTail, Ended, goes_on}
use Rattle.clover_put.specs.Answering.{IsBefore, Onward}
use Rattle.clover_put.specs.Holding.{PutHolds, Looks}
use Rattle.clover_put.specs.Putting.{Putting, Stage, Storing, Flushing, Seeking, AtMeta, AtLink, Deciding, AtBad, AtRaise, AtShort, Over, put_on, staged, walked, unless_left, reached, at_tail}
use Rattle.clover_put.specs.declared.job.Job.{Job}
use Rattle.clover_put.specs.declared.job.Job.TheVariants.{Put, Delete, Swap}
use Rattle.clover_put.proofs.Sides.{early}
use Rattle.clover_call.proofs.Walks.{on_walk}

-- what stays of a call over an access
pub record SameCall (c n : Putting) : Type 0 where
  pub pool : n.walk.pool ≡ c.walk.pool
  pub slot : n.walk.slot ≡ c.walk.slot
  pub job : n.job ≡ c.job
  pub own : n.own ≡ c.own
  pub value : n.value ≡ c.value

walked_keep : (c : Putting) (x : ℕ) → SameCall c (walked c (goes_on c.walk x))
walked_keep c x = let k = on_walk c.walk.stand c.walk x in record { pool = k.pool; slot = k.slot; job = refl; own = refl; value = refl }

left_keep : (c : Putting) (u : ℕ) (at : Stage) (x : ℕ) → SameCall c (unless_left c u at x)
left_keep c u at x = go (x == unlinked u)
  where
    go : (b : Bool) → SameCall c (cond b (staged c at) (walked c (goes_on c.walk x)))
    go true = record { pool = refl; slot = refl; job = refl; own = refl; value = refl }
    go false = walked_keep c x

on_keep : (s : Stage) (c : Putting) (x : ℕ) → SameCall c (put_on (record c { stage = s }) x)
on_keep (Storing j) c x = record { pool = refl; slot = refl; job = refl; own = refl; value = refl }
on_keep (Flushing j) c x = record { pool = refl; slot = refl; job = refl; own = refl; value = refl }
on_keep Seeking c x = walked_keep c x
on_keep (AtMeta u) c x = record { pool = refl; slot = refl; job = refl; own = refl; value = refl }
on_keep (AtLink u) c x = left_keep c u (AtRaise u) x
on_keep (Deciding u y) c x = left_keep c u Over x
on_keep (AtBad u) c x = walked_keep c x
on_keep (AtRaise u) c x = record { pool = refl; slot = refl; job = refl; own = refl; value = refl }
on_keep AtShort c x = record { pool = refl; slot = refl; job = refl; own = refl; value = refl }
on_keep Over c x = record { pool = refl; slot = refl; job = refl; own = refl; value = refl }

pub same_call : (c : Putting) (x : ℕ) → SameCall c (put_on c x)
same_call c x = on_keep c.stage c x

-- the number that an access found neither commits nor ends the call
abbrev pub Misses : Stage → ℕ → Type 0
Misses (AtLink u) x = (x == unlinked u) ≡ false
Misses (Deciding u y) x = (x == unlinked u) ≡ false
Misses _ x = Unit {0}

left_before : (k : Bool) (c : Putting) (x : ℕ) (at : Stage) → (IsBefore at → ⊥) → IsBefore (cond k (staged c at) (walked c (goes_on c.walk x))).stage → k ≡ false
left_before true c x at past h = absurd (past h)
left_before false c x at past h = refl

on_before : (s : Stage) (c : Putting) (x : ℕ) → IsBefore (put_on (record c { stage = s }) x).stage → Misses s x
on_before (Storing j) c x b = tt
on_before (Flushing j) c x b = tt
on_before Seeking c x b = tt
on_before (AtMeta u) c x b = tt
on_before (AtLink u) c x b = left_before (x == unlinked u) c x (AtRaise u) (λ h. h) b
on_before (Deciding u y) c x b = left_before (x == unlinked u) c x Over (λ h. h) b
on_before (AtBad u) c x b = tt
on_before (AtRaise u) c x b = tt
on_before AtShort c x b = tt
on_before Over c x b = tt

-- a call that goes on has found no tail unlinked
pub before_misses : (c : Putting) (x : ℕ) → IsBefore (put_on c x).stage → Misses c.stage x
before_misses c x b = on_before c.stage c x b

-- a call that has committed nothing has not where it goes on
pub onward_before : (c n : Putting) → IsBefore c.stage → Onward c.stage c n → IsBefore n.stage
onward_before c n b e = (early c.stage b).from c n e

abbrev IsTailOf : Stand → Type 0
IsTailOf (OnTail t) = Unit {0}
IsTailOf _ = ⊥

no_end : (at : Stand) (u : ℕ) → at ≡ OnTail u → at ≡ Ended → ⊥
no_end at u e f = subst IsTailOf (sym e ∙ f) tt

left_behind : (k : Bool) (c : Putting) (x u : ℕ) (at : Stage) → c.walk.stand ≡ OnTail u → (cond k (staged c at) (walked c (goes_on c.walk x))).walk.stand ≡ Ended → k ≡ false
left_behind true c x u at on h = absurd (no_end c.walk.stand u on h)
left_behind false c x u at on h = refl

on_behind : (s : Stage) (c : Putting) (v : View) (x : ℕ) → Looks s c v → (put_on (record c { stage = s }) x).stage ≡ Over → (put_on (record c { stage = s }) x).walk.stand ≡ Ended → Misses s x
on_behind (Storing j) c v x l o e = tt
on_behind (Flushing j) c v x l o e = tt
on_behind Seeking c v x l o e = tt
on_behind (AtMeta u) c v x l o e = tt
on_behind (AtLink u) c v x l o e = left_behind (x == unlinked u) c x u (AtRaise u) l.0.0 e
on_behind (Deciding u y) c v x l o e = left_behind (x == unlinked u) c x u Over l.0.0 e
on_behind (AtBad u) c v x l o e = tt
on_behind (AtRaise u) c v x l o e = tt
on_behind AtShort c v x l o e = tt
on_behind Over c v x l o e = tt

-- nor has one that has fallen behind
pub behind_misses : (c : Putting) (v : View) (x : ℕ) → PutHolds c v → (put_on c x).stage ≡ Over → (put_on c x).walk.stand ≡ Ended → Misses c.stage x
behind_misses c v x h o e = on_behind c.stage c v x h.looks o e

abbrev IsRaiseOf : Stage → Type 0
IsRaiseOf (AtRaise u) = Unit {0}
IsRaiseOf _ = ⊥

tail_raises : (j : Job) (t : ℕ) → IsRaiseOf (at_tail j t) → ⊥
tail_raises Put t h = h
tail_raises Delete t h = h
tail_raises (Swap e) t h = h

reached_raises : (j : Job) (at : Stand) → IsRaiseOf (reached j at) → ⊥
reached_raises j ToShort h = h
reached_raises j AtRoot h = h
reached_raises j (AtTag t) h = h
reached_raises j (OnLink t s) h = h
reached_raises j (OnTail t) h = tail_raises j t h
reached_raises j Ended h = h

no_raise : (j : Job) (at : Stand) (u : ℕ) → reached j at ≡ AtRaise u → ⊥
no_raise j at u e = reached_raises j at (subst IsRaiseOf (sym e) tt)

-- the exchange of a call that is to raise found the tail unlinked
pub linked_hit : (c : Putting) (u x : ℕ) → c.stage ≡ AtLink u → staged c (AtRaise u) ≡ put_on c x → x ≡ unlinked u
linked_hit c u x at e = go (x == unlinked u) refl (ap (λ (z : Putting). z.stage) (e ∙ ap (λ (s : Stage). put_on (record c { stage = s }) x) at))
  where
    go : (b : Bool) → (x == unlinked u) ≡ b → AtRaise u ≡ (cond b (staged c (AtRaise u)) (walked c (goes_on c.walk x))).stage → x ≡ unlinked u
    go true q h = eqb-true x (unlinked u) q
    go false q h = absurd (no_raise c.job (goes_on c.walk x).stand u (sym h))

abbrev IsOver : Stage → Type 0
IsOver Over = Unit {0}
IsOver _ = ⊥

tail_over : (j : Job) (t : ℕ) → IsOver (at_tail j t) → ⊥
tail_over Put t h = h
tail_over Delete t h = h
tail_over (Swap e) t h = h

-- a call that is over at its tail found that unlinked
pub last_hit : (c : Putting) (u x : ℕ) (y : Reply) → c.stage ≡ Deciding u y → c.walk.stand ≡ OnTail u → staged c Over ≡ put_on c x → x ≡ unlinked u
last_hit c u x y at on e = go (x == unlinked u) refl (e ∙ ap (λ (s : Stage). put_on (record c { stage = s }) x) at)
  where
    go : (b : Bool) → (x == unlinked u) ≡ b → staged c Over ≡ cond b (staged c Over) (walked c (goes_on c.walk x)) → x ≡ unlinked u
    go true q h = eqb-true x (unlinked u) q
    go false q h =
        let stand : (goes_on c.walk x).stand ≡ OnTail u = ap (λ (z : Putting). z.walk.stand) (sym h) ∙ on in
        absurd (tail_over c.job u (subst IsOver (ap (λ (z : Putting). z.stage) h ∙ ap (reached c.job) stand) tt))
