-- What the answer of a walk's step says.
use Rattle.std.specs.Prelude.{◌≡◌, ℕ}
use Rattle.clover_words.specs.Tag.{TagParts, tag_number}
use Rattle.clover_words.specs.Version.{unlinked}
use Rattle.clover_walk.specs.declared.turn.Turn.{Turn}
use Rattle.clover_walk.specs.declared.turn.Turn.TheVariants.{More, AtTail, Behind, Unreached}
use Rattle.clover_walk.specs.Walking.{Walking, Stand, AtTag, OnTail, Ended, IsOnWay}

-- the answer tells how the walk stands afterwards
abbrev pub Answers : Walking → Turn → Type 0
Answers w More = IsOnWay w.stand
Answers w (AtTail t) = w.stand ≡ OnTail (tag_number t)
Answers w (Behind n) = (w.stand ≡ Ended) × (n ≡ w.turns)
Answers w Unreached = ⊥

-- where the access was made
abbrev pub OnReached : Turn → Type 0 → Type 0
OnReached Unreached A = Unit {0}
OnReached r A = A

-- where the access was refused
abbrev pub OnUnreached : Turn → Type 0 → Type 0
OnUnreached Unreached A = A
OnUnreached r A = Unit {0}

-- where the turns of the call are below the budget after an access
abbrev pub OnAhead : Turn → Type 0 → Type 0
OnAhead More A = A
OnAhead (AtTail t) A = A
OnAhead r A = Unit {0}

-- where the walk has not ended
abbrev pub OnGoing : Turn → Type 0 → Type 0
OnGoing (Behind n) A = Unit {0}
OnGoing r A = A

-- where the walk came to a tail
abbrev pub IfAtTail : Turn → (TagParts → Type 0) → Type 0
IfAtTail (AtTail t) P = P t
IfAtTail r P = Unit {0}

-- where the call fell behind
abbrev pub IfBehind : Turn → (ℕ → Type 0) → Type 0
IfBehind (Behind n) P = P n
IfBehind r P = Unit {0}

-- the answer is that the walk is at the tail
abbrev pub IsAtTail : Turn → Type 0
IsAtTail (AtTail t) = Unit {0}
IsAtTail r = ⊥

-- the number shows a walk that stands there the tail: it is that of the tag's next word, unlinked at the tag's generation
abbrev pub ShowsTail : Stand → ℕ → Type 0
ShowsTail (AtTag t) x = x ≡ unlinked t
ShowsTail (OnTail t) x = x ≡ unlinked t
ShowsTail at x = ⊥
