-- How a grant of the server changes a plain pool.
use Rattle.std.specs.Prelude.{◌≡◌, ℕ, ◌-◌, List, map, slice_set}
use Rattle.clover_words.specs.Tag.{tag_number}
use Rattle.clover_alloc.specs.Batch.{tags_of}
use Rattle.clover_alloc.specs.declared.batch.Batch.{Batch}
use Rattle.clover_rule.specs.Moves.{given, giving}
use Rattle.clover_plain.specs.Plain.{Plain, view_at}

-- the numbers of a batch's tags, as a view has them
abbrev pub numbers_of : Batch → List ℕ
numbers_of batch = map tag_number (tags_of batch)

-- The server has given this client a batch and names: two views are new, and nothing else.
pub record Handed (client : ℕ) (batch : List ℕ) (names : List (ℕ × List ℕ)) (p q : Plain) : Type 0 where
  pub views : q.views ≡ slice_set (slice_set p.views p.setup.clients (giving batch (view_at p p.setup.clients))) (client - 1) (given batch names (view_at p (client - 1)))
  pub setup : q.setup ≡ p.setup
  pub first : q.first ≡ p.first
  pub used : q.used ≡ p.used
  pub start : q.start ≡ p.start
  pub words : q.words ≡ p.words
  pub absent : q.absent ≡ p.absent
  pub entries : q.entries ≡ p.entries
  pub traced : q.traced ≡ p.traced
  pub accesses : q.accesses ≡ p.accesses
  pub made : q.made ≡ p.made
  pub opened : q.opened ≡ p.opened
  pub whole : q.whole ≡ p.whole
  pub access_room : q.access_room ≡ p.access_room
  pub entry_room : q.entry_room ≡ p.entry_room
