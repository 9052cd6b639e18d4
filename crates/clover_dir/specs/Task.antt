-- The binding of a key: which step its next access is, and how it goes on.
use Rattle.std.specs.Prelude.{ℕ, ◌+◌, ◌-◌, ◌*◌, ◌/◌, ◌<◌, nat_lt, if◌then◌else◌, List, ◌∷◌, length}
use Rattle.clover_words.specs.Pack.{packed}
use Rattle.clover_words.specs.Tag.{TagParts, tag_number}
use Rattle.clover_map.specs.Key.{IsKey}
use Rattle.clover_rule.specs.Steps.{Step, StoreTombstone, FlushTombstone, StoreKey, FlushKey, BindRoot, FlushBoundRoot, StoreCount}
use Rattle.clover_rule.specs.declared.view.NewBinding.{NewBinding}
use Rattle.clover_dir.specs.Directory.{Bindings}
use Rattle.clover_dir.specs.declared.stage.Stage.{Stage}
use Rattle.clover_dir.specs.declared.stage.Stage.TheVariants.{Tombstone, FlushedTombstone, Key, FlushedKey, Root, FlushedRoot, Count, Over}

-- a binding under way: its slot, its key, the tag of its tombstone, and where it stands
pub record UnderWay : Type 0 where
  pub slot : ℕ
  pub key : List ℕ
  pub own : TagParts
  pub stage : Stage

-- the binding, as the rule speaks of it
abbrev pub binding_of : UnderWay → NewBinding
binding_of c = record { slot = c.slot; key = c.key; tag = tag_number c.own }

-- the binding as it is made, and one that stands there
abbrev pub made_bind : ℕ → List ℕ → TagParts → UnderWay
made_bind slot key own = record { slot = slot; key = key; own = own; stage = Tombstone }

abbrev pub staged : UnderWay → Stage → UnderWay
staged c at = record c { stage = at }

-- how many words spell a key, and the one at a place
abbrev pub key_length : List ℕ → ℕ
key_length key = (length key + 8) / 8

abbrev pub word_at : List ℕ → ℕ → ℕ
word_at key j = packed (length key ∷ key) j

-- a word of the key is one of those that spell it
abbrev pub IsPlaced : ℕ → Stage → Type 0
IsPlaced n (Key j) = j < n
IsPlaced n (FlushedKey j) = j < n
IsPlaced n at = Unit {0}

-- the key is one, and the binding stands at one of its words
pub record IsUnderWay (c : UnderWay) : Type 0 where
  pub key : IsKey c.key
  pub place : IsPlaced (key_length c.key) c.stage

-- the step that the next access is: the count becomes the number of bindings with this one
abbrev pub bind_step : UnderWay → Bindings → Step
bind_step c d = from c.stage
  where
    from : Stage → Step
    from Tombstone = StoreTombstone (binding_of c)
    from FlushedTombstone = FlushTombstone (binding_of c)
    from (Key j) = StoreKey (binding_of c) j (word_at c.key j)
    from (FlushedKey j) = FlushKey (binding_of c) j (word_at c.key j)
    from Root = BindRoot (binding_of c)
    from FlushedRoot = FlushBoundRoot (binding_of c)
    from Count = StoreCount (binding_of c) (length d.list + 1)
    from Over = StoreCount (binding_of c) (length d.list + 1)

-- where a binding whose key has n words stands once its access was made
abbrev pub after : ℕ → Stage → Stage
after n Tombstone = FlushedTombstone
after n FlushedTombstone = Key 0
after n (Key j) = if nat_lt (j + 1) n then Key (j + 1) else FlushedKey 0
after n (FlushedKey j) = if nat_lt (j + 1) n then FlushedKey (j + 1) else Root
after n Root = FlushedRoot
after n FlushedRoot = Count
after n Count = Over
after n Over = Over

abbrev pub bind_on : UnderWay → UnderWay
bind_on c = staged c (after (key_length c.key) c.stage)

-- how many accesses are left of it
abbrev pub left : ℕ → Stage → ℕ
left n Tombstone = 2 * n + 5
left n FlushedTombstone = 2 * n + 4
left n (Key j) = n + 3 + (n - j)
left n (FlushedKey j) = 3 + (n - j)
left n Root = 3
left n FlushedRoot = 2
left n Count = 1
left n Over = 0
