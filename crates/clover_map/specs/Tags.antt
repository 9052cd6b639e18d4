-- Tags: those that a reply hands out, and those that are used.
use Rattle.std.specs.Prelude.{ℕ, List, [], ◌∷◌, ◌↔◌, Contains}
use Rattle.clover_map.specs.declared.call.Reply.{Reply}
use Rattle.clover_map.specs.declared.call.Reply.TheVariants.{Stored, Deleted}

-- The tag t is not among those used.
abbrev pub IsFresh : List ℕ → ℕ → Type 0
IsFresh used t = Contains used t → ⊥

-- the tag that a reply hands out, as a list: a write and a delete hand out one, nothing else does
abbrev pub new_tags : Reply → List ℕ
new_tags (Stored t) = t ∷ []
new_tags (Deleted t) = t ∷ []
new_tags reply = []

-- Both lists have the same tags, in whatever order and however often.
abbrev pub HasSameTags : List ℕ → List ℕ → Type 0
HasSameTags ts us = (t : ℕ) → Contains ts t ↔ Contains us t
