-- What the answer of a get's step says.
use Rattle.std.specs.Prelude.{ℕ, Bool, true, false, Option, Some, None}
use Rattle.clover_words.specs.Tag.{TagParts}
use Rattle.clover_get.specs.declared.turn.GetTurn.{GetTurn}
use Rattle.clover_get.specs.declared.turn.GetTurn.TheVariants.{More, Found, Absent, Behind, Unreached}

-- where the access was made
abbrev pub OnReached : GetTurn → Type 0 → Type 0
OnReached Unreached A = Unit {0}
OnReached r A = A

-- where the access was refused
abbrev pub OnUnreached : GetTurn → Type 0 → Type 0
OnUnreached Unreached A = A
OnUnreached r A = Unit {0}

-- where the call goes on
abbrev pub OnGoing : GetTurn → Type 0 → Type 0
OnGoing More A = A
OnGoing Unreached A = A
OnGoing r A = Unit {0}

-- where the call is over
abbrev pub OnOver : GetTurn → Type 0 → Type 0
OnOver More A = Unit {0}
OnOver Unreached A = Unit {0}
OnOver r A = A

-- where the turns of the call are below the budget after an access
abbrev pub OnAhead : GetTurn → Type 0 → Type 0
OnAhead Unreached A = Unit {0}
OnAhead (Behind n) A = Unit {0}
OnAhead r A = A

-- where the get found a value
abbrev pub IfFound : GetTurn → (TagParts → ℕ → Type 0) → Type 0
IfFound (Found t f) P = P t f
IfFound r P = Unit {0}

-- where the get found a tombstone
abbrev pub IfAbsent : GetTurn → (TagParts → Type 0) → Type 0
IfAbsent (Absent t) P = P t
IfAbsent r P = Unit {0}

-- the get was answered, at this tail
abbrev pub IfAnswered : GetTurn → (TagParts → Type 0) → Type 0
IfAnswered (Found t f) P = P t
IfAnswered (Absent t) P = P t
IfAnswered r P = Unit {0}

-- where the call fell behind
abbrev pub IfBehind : GetTurn → (ℕ → Type 0) → Type 0
IfBehind (Behind n) P = P n
IfBehind r P = Unit {0}

-- where it was known how the access ends, it is refused exactly where that was known
abbrev pub ExactGet : Option Bool → GetTurn → Type 0
ExactGet None r = Unit {0}
ExactGet (Some true) r = OnReached r ⊥
ExactGet (Some false) r = OnUnreached r ⊥
