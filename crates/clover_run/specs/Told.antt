-- What answered calls told: the tags that stand in their replies, and that what was told is known to be durable.
use Rattle.std.specs.Prelude.{◌≡◌, ℕ, ◌||◌, nat_eq, List, [], ◌∷◌, ◌++◌, Bool, true, false}
use Rattle.clover_map.specs.declared.call.Reply.{Reply}
use Rattle.clover_map.specs.declared.call.Reply.TheVariants.{Stored, Found, Absent, Deleted, Differs}
use Rattle.clover_rule.specs.Cut.{IsKnownDurable}
use Rattle.clover_plain.specs.Plain.{Plain}
use Rattle.clover_run.specs.Record.{Record}
use Rattle.clover_run.specs.declared.event.Note.{Note}
use Rattle.clover_run.specs.declared.event.Note.TheVariants.{Answered}

-- the tag stands in the reply
abbrev pub has_tag : Reply → ℕ → Bool
has_tag (Stored u) t = nat_eq u t
has_tag (Found u v) t = nat_eq u t
has_tag Absent t = false
has_tag (Deleted u) t = nat_eq u t
has_tag (Differs u) t = nat_eq u t

-- the note is an answer in which the tag stands
abbrev pub tells : Note → ℕ → Bool
tells (Answered client reply) t = has_tag reply t
tells note t = false

-- some answer of these records told the tag
abbrev pub told : List Record → ℕ → Bool
told [] t = false
told (r ∷ rs) t = tells r.note t || told rs t

-- each tag that an answer told is known to be durable by some view of the pool, so that no cut takes it
abbrev pub AllTold : Plain → List Record → Type 0
AllTold p rs = (t : ℕ) → told rs t ≡ true → IsKnownDurable (p.views ++ p.absent) t
