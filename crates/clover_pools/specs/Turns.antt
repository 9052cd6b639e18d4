-- What the tests tell apart of a node's turns.
use Rattle.std.specs.Prelude.{◌≡◌}
use Rattle.clover_words.specs.Tag.{TagParts, tag_number}
use Rattle.clover_call.specs.declared.answer.Answer.TheVariants.{Stored as StoredAnswer, Found as FoundAnswer, Absent as AbsentAnswer}
use Rattle.clover_node.specs.declared.answer.NodeRefusal.TheVariants.{NeedsStock as LacksStock, NeedsNames as LacksNames}
use Rattle.clover_node.specs.declared.answer.NodeTurn.{NodeTurn}
use Rattle.clover_node.specs.declared.answer.NodeTurn.TheVariants.{More as GoesOn, Decided, Done, Refused}
use Rattle.clover_pools.specs.declared.turns.Outcome.{Outcome}
use Rattle.clover_pools.specs.declared.turns.Outcome.TheVariants.{More, Committed, Stored, Found, Absent, NeedsStock, NeedsNames, Other}

-- the turn came to this, with the number of its tag
abbrev pub IsOutcome : NodeTurn → Outcome → Type 0
IsOutcome t More = t ≡ GoesOn
IsOutcome t (Committed n) = (u : TagParts) × (n ≡ tag_number u) × (t ≡ Decided (StoredAnswer u))
IsOutcome t (Stored n) = (u : TagParts) × (n ≡ tag_number u) × (t ≡ Done (StoredAnswer u))
IsOutcome t (Found n f) = (u : TagParts) × (n ≡ tag_number u) × (t ≡ Done (FoundAnswer u f))
IsOutcome t Absent = t ≡ Done AbsentAnswer
IsOutcome t NeedsStock = t ≡ Refused LacksStock
IsOutcome t (NeedsNames known bound) = t ≡ Refused (LacksNames known bound)
IsOutcome t Other = Unit {0}
