-- What the access of a walk may find, and what the walk holds where it has gone on by that.
use Rattle.std.specs.Prelude.{◌≡◌, ◌↔◌, ℕ, ◌<◌, Some}
use Rattle.clover_words.specs.Tag.{tag_number, home}
use Rattle.clover_words.specs.declared.pool.Pool.{Pool}
use Rattle.clover_words.specs.declared.word.Word.TheVariants.{Next as NextOf, Root, Short}
use Rattle.clover_words.specs.Version.{buffer_at, unlinked}
use Rattle.clover_rule.specs.Content.{InRange}
use Rattle.clover_rule.specs.Lists.{Within}
use Rattle.clover_rule.specs.Told.{IsShown}
use Rattle.clover_rule.specs.Words.{root_of}
use Rattle.clover_rule.specs.declared.view.View.{View}
use Rattle.clover_walk.specs.Turning.{Answers, OnAhead, OnGoing, IfAtTail, IfBehind, IsAtTail, ShowsTail}
use Rattle.clover_walk.specs.Walking.{Walking, Stand, AtShort, AtRoot, AtTag, AtLink, OnTail, Ended, Holds, goes_on, budget}
use Rattle.clover_walk.specs.declared.turn.Turn.{Turn}

-- a number that the word may have; a bound slot's root leads to a tag
abbrev pub MayFindAt : Stand → Pool → ℕ → ℕ → Type 0
MayFindAt AtShort p s x = IsShown p (Short s) x
MayFindAt AtRoot p s x = IsShown p (Root s) x × (t : ℕ) × (root_of x ≡ Some t)
MayFindAt (AtTag t) p s x = IsShown p (NextOf (buffer_at (home t))) x
MayFindAt (AtLink t u) p s x = Unit {0}
MayFindAt (OnTail t) p s x = IsShown p (NextOf (buffer_at (home t))) x
MayFindAt Ended p s x = ⊥

-- a number that the next access of the walk may find
abbrev pub MayFind : Walking → ℕ → Type 0
MayFind w x = MayFindAt w.stand w.pool w.slot x

-- the tag whose next word the walk asks for where it stands
abbrev pub IsAtTag : Stand → ℕ → Type 0
IsAtTag (AtTag t) u = t ≡ u
IsAtTag (OnTail t) u = t ≡ u
IsAtTag at u = ⊥

-- the number x showed the walk w that the tag at which it stands is the tail: it is of the pool, and the actor knows it to be durable in the slot
abbrev pub IsTail : Walking → ℕ → View → ℕ → Type 0
IsTail w x v t = InRange w.pool t × Within (w.slot, t) v.pass.durable × IsAtTag w.stand t × (x ≡ unlinked t)

-- the walk w has gone on by the number x to n, with this answer, where the actor's view is v then
pub record Walked (w : Walking) (x : ℕ) (v : View) (n : Walking) (r : Turn) : Type 0 where
  pub value : n ≡ goes_on w x
  pub answers : Answers n r
  pub stands : OnGoing r (Holds n v)
  pub behind : IfBehind r (λ k. (k ≡ budget w.pool) × (v.pass.turns ≡ budget w.pool))
  pub ahead : OnAhead r (v.pass.turns < budget w.pool)
  pub when : IsAtTail r ↔ ShowsTail w.stand x
  pub tail : IfAtTail r (λ tag. IsTail w x v (tag_number tag))
