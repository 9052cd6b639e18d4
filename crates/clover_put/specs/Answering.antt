-- What the answer of a put's step says.
use Rattle.std.specs.Prelude.{◌≡◌, ℕ, Bool, true, false, Option, Some, None}
use Rattle.clover_words.specs.Tag.{TagParts, tag_number}
use Rattle.clover_walk.specs.Walking.{Ended}
use Rattle.clover_map.specs.declared.call.Reply.TheVariants.{Absent as IsAbsent, Differs as IsOther}
use Rattle.clover_put.specs.declared.job.Job.{Job}
use Rattle.clover_put.specs.declared.job.Job.TheVariants.{Put, Delete, Swap}
use Rattle.clover_put.specs.declared.turn.PutTurn.{PutTurn}
use Rattle.clover_put.specs.declared.turn.PutTurn.TheVariants.{More, Decided, Stored, Deleted, Absent, Differs, Behind, Unreached, Linked}
use Rattle.clover_put.specs.Putting.{Putting, Stage, AtLink, Deciding, AtRaise, AtShort, Over, staged}

-- it has committed nothing yet and is not over
abbrev pub IsBefore : Stage → Type 0
IsBefore (AtRaise u) = ⊥
IsBefore AtShort = ⊥
IsBefore Over = ⊥
IsBefore _ = Unit {0}

-- it has committed and is not over
abbrev pub IsBehind : Stage → Type 0
IsBehind (AtRaise u) = Unit {0}
IsBehind AtShort = Unit {0}
IsBehind _ = ⊥

-- it goes on: behind the raise of its link it is to store the shortcut, and otherwise it has committed nothing yet
abbrev pub Onward : Stage → Putting → Putting → Type 0
Onward (AtRaise u) c n = n ≡ staged c AtShort
Onward AtShort c n = ⊥
Onward Over c n = ⊥
Onward _ c n = IsBefore n.stage

-- the call stores a value
abbrev pub Stores : Job → Type 0
Stores Put = Unit {0}
Stores Delete = ⊥
Stores (Swap t) = Unit {0}

-- the call is a delete
abbrev pub Deletes : Job → Type 0
Deletes Put = ⊥
Deletes Delete = Unit {0}
Deletes (Swap t) = ⊥

-- the answer of a step tells where the call stood before, and where it stands afterwards
abbrev pub Answers : Putting → Putting → PutTurn → Type 0
Answers c n More = Onward c.stage c n
Answers c n (Decided t) = (u : ℕ) × (c.stage ≡ AtLink u) × (n ≡ staged c (AtRaise u)) × (tag_number t ≡ c.own)
Answers c n (Stored t) = (c.stage ≡ AtShort) × (n ≡ staged c Over) × (tag_number t ≡ c.own) × Stores c.job
Answers c n (Deleted t) = (c.stage ≡ AtShort) × (n ≡ staged c Over) × (tag_number t ≡ c.own) × Deletes c.job
Answers c n (Absent t) = (c.stage ≡ Deciding (tag_number t) IsAbsent) × (n ≡ staged c Over)
Answers c n (Differs t) = (c.stage ≡ Deciding (tag_number t) (IsOther (tag_number t))) × (n ≡ staged c Over)
Answers c n (Behind k) = IsBefore c.stage × (n.stage ≡ Over) × (n.walk.stand ≡ Ended) × (k ≡ n.walk.turns)
Answers c n Unreached = IsBefore c.stage × (n ≡ c)
Answers c n (Linked t) = IsBehind c.stage × (n ≡ staged c Over) × (tag_number t ≡ c.own)

-- where the access was made
abbrev pub OnReached : PutTurn → Type 0 → Type 0
OnReached Unreached A = Unit {0}
OnReached (Linked t) A = Unit {0}
OnReached r A = A

-- where the access was refused
abbrev pub OnRefused : PutTurn → Type 0 → Type 0
OnRefused Unreached A = A
OnRefused (Linked t) A = A
OnRefused r A = Unit {0}

-- where the call goes on
abbrev pub OnGoing : PutTurn → Type 0 → Type 0
OnGoing More A = A
OnGoing (Decided t) A = A
OnGoing Unreached A = A
OnGoing r A = Unit {0}

-- where the call has not fallen behind
abbrev pub OnAhead : PutTurn → Type 0 → Type 0
OnAhead (Behind n) A = Unit {0}
OnAhead Unreached A = Unit {0}
OnAhead (Linked t) A = Unit {0}
OnAhead r A = A

-- where the call has committed
abbrev pub IfDecided : PutTurn → (TagParts → Type 0) → Type 0
IfDecided (Decided t) P = P t
IfDecided r P = Unit {0}

-- the call has ended with its own version or at a tail, with that tag
abbrev pub IfEnded : PutTurn → (TagParts → Type 0) → Type 0
IfEnded (Stored t) P = P t
IfEnded (Deleted t) P = P t
IfEnded (Absent t) P = P t
IfEnded (Differs t) P = P t
IfEnded r P = Unit {0}

-- where the key was absent
abbrev pub IfAbsent : PutTurn → (TagParts → Type 0) → Type 0
IfAbsent (Absent t) P = P t
IfAbsent r P = Unit {0}

-- where the tag differed
abbrev pub IfDiffers : PutTurn → (TagParts → Type 0) → Type 0
IfDiffers (Differs t) P = P t
IfDiffers r P = Unit {0}

-- where the call fell behind
abbrev pub IfBehind : PutTurn → (ℕ → Type 0) → Type 0
IfBehind (Behind n) P = P n
IfBehind r P = Unit {0}

-- where it was known how the access ends, it is refused exactly where that was known
abbrev pub ExactPut : Option Bool → PutTurn → Type 0
ExactPut None r = Unit {0}
ExactPut (Some true) r = OnReached r ⊥
ExactPut (Some false) r = OnRefused r ⊥
