-- What a call does: which step its next access is, and how it goes on by what that found.
use Prim.Native.Nat.{suc}
use Rattle.std.specs.Prelude.{◌≡◌, ℕ, ◌*◌, ◌%◌, ◌^◌, ◌==◌, List, [], ◌∷◌, ◌++◌, length, Bool, true, false, eqb, ltb, if◌then◌else◌, Option, Some, None}
use Rattle.clover_words.specs.declared.meta.Kind.{Kind}
use Rattle.clover_words.specs.declared.meta.Kind.TheVariants.{Value as IsValue, Tombstone}
use Rattle.clover_words.specs.declared.pool.Pool.{Pool}
use Rattle.clover_words.specs.Pack.{words_of}
use Rattle.clover_words.specs.Version.{unlinked}
use Rattle.clover_map.specs.declared.call.Call.{Call}
use Rattle.clover_map.specs.declared.call.Call.TheVariants.{Get, Put, Delete, Swap}
use Rattle.clover_rule.specs.Content.{content}
use Rattle.clover_rule.specs.Steps.{Step, LoadNext, RaiseNext, LinkNext, StoreContent, FlushContent, LoadContent, StoreShort, act_of}
use Rattle.clover_rule.specs.declared.access.Act.{Act}
use Rattle.clover_walk.specs.Walking.{Walking, Stand, OnTail, Ended, made_walk, begun, step_at, goes_on}
use Rattle.clover_put.specs.Putting.{kind_of}

-- where a call stands: the steps that it makes whatever they find; behind them its walk, with the content words that it has loaded at the tail, unless it is over then
pub record Calling : Type 0 where
  pub steps : List Step
  pub walk : Walking
  pub seen : List ℕ
  pub over : Bool

-- the content words of the version that a call commits; a get has none
abbrev pub own_words : Call → List ℕ
own_words (Get key) = []
own_words (Put key value) = content (Some value)
own_words (Delete key) = content None
own_words (Swap key expected value) = content (Some value)

-- one step for each of some words, from a place on
abbrev pub word_steps : (ℕ → ℕ → Step) → ℕ → List ℕ → List Step
word_steps step j [] = []
word_steps step j (x ∷ xs) = step j x ∷ word_steps step (suc j) xs

-- a version is stored under the tag, and then flushed
abbrev pub own_steps : ℕ → List ℕ → List Step
own_steps own xs = word_steps (StoreContent own) 0 xs ++ word_steps (FlushContent own) 0 xs

-- a call that begins on a slot, at a cursor or without one, with a tag for its own version
abbrev pub begun_call : Pool → ℕ → Option ℕ → ℕ → Call → Calling
begun_call p slot cursor own call = record { steps = own_steps own (own_words call); walk = begun (made_walk p slot cursor); seen = []; over = false }

-- what a call does at a tail: it loads a content word, links its own version behind the tail, or loads the tail's link again, to end there or because the words were no version's
pub data Deed : Type 0 where
  Reads : ℕ → Deed
  Links : Deed
  Ends : Deed
  Leaves : Deed

-- by what the tail's meta word says: this at a value, and at a tombstone it ends
abbrev pub by_kind : Deed → Option Kind → Deed
by_kind live (Some IsValue) = live
by_kind live (Some Tombstone) = Ends
by_kind live None = Leaves

-- it loads the meta word first
abbrev pub looks : Deed → List ℕ → Deed
looks live [] = Reads 0
looks live (m ∷ xs) = by_kind live (kind_of m)

-- a get loads each word of a value, if a buffer has room for it
abbrev pub copies : Pool → List ℕ → Deed
copies p [] = Leaves
copies p (m ∷ xs) = if ltb (8 * p.words) (m % 2 ^ 16) then Leaves else if ltb (length xs) (words_of (m % 2 ^ 16)) then Reads (suc (length xs)) else Ends

-- what the call does at the tail t behind the words that it has seen there
abbrev pub deed : Pool → Call → ℕ → List ℕ → Deed
deed p (Get key) t xs = looks (copies p xs) xs
deed p (Put key value) t xs = Links
deed p (Delete key) t xs = looks Links xs
deed p (Swap key expected value) t xs = looks (if eqb expected t then Links else Ends) xs

abbrev pub deed_step : ℕ → ℕ → ℕ → Call → Deed → Step
deed_step slot t own call (Reads j) = LoadContent slot t j
deed_step slot t own call Links = LinkNext slot t own call
deed_step slot t own call Ends = LoadNext slot t
deed_step slot t own call Leaves = LoadNext slot t

-- the step that is due; none of a call that is over, or whose turns have reached the budget
abbrev pub due : Call → ℕ → Calling → Option Step
due call own c = first c.steps
  where
    at : Stand → Option Step
    at (OnTail t) = Some (deed_step c.walk.slot t own call (deed c.walk.pool call t c.seen))
    at Ended = None
    at s = Some (step_at c.walk.slot s)

    first : List Step → Option Step
    first [] = if c.over then None else at c.walk.stand
    first (a ∷ steps) = Some a

-- the call walks on
abbrev pub walks : Walking → Calling
walks w = record { steps = []; walk = w; seen = []; over = false }

-- how a call at the tail t goes on: where that is the tail still it has ended, or has linked its own version, of which it raises the link and stores the slot's shortcut
abbrev pub done : Calling → ℕ → ℕ → Deed → ℕ → Calling
done c t own (Reads j) x = record c { seen = c.seen ++ x ∷ [] }
done c t own Links x = if x == unlinked t then record c { steps = RaiseNext (record { slot = c.walk.slot; from = t; to = own }) ∷ StoreShort c.walk.slot own ∷ []; over = true } else walks (goes_on c.walk x)
done c t own Ends x = if x == unlinked t then record c { over = true } else walks (goes_on c.walk x)
done c t own Leaves x = walks (goes_on c.walk x)

-- how the call goes on where the access of the step that was due found this number
abbrev pub after : Call → ℕ → Calling → ℕ → Calling
after call own c x = on c.steps
  where
    at : Stand → Calling
    at (OnTail t) = done c t own (deed c.walk.pool call t c.seen) x
    at s = walks (goes_on c.walk x)

    on : List Step → Calling
    on [] = at c.walk.stand
    on (a ∷ steps) = record c { steps = steps }

-- the acts are, in order, those of the call from there on, and lead it there
abbrev pub LeadsTo : Call → ℕ → Calling → List Act → Calling → Type 0
LeadsTo call own c [] n = n ≡ c
LeadsTo call own c (act ∷ acts) n = (a : Step) × (x : ℕ) × (due call own c ≡ Some a) × (act ≡ act_of a x) × LeadsTo call own (after call own c x) acts n
