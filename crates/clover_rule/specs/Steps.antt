-- The steps of all actors: on which word each is, what it does there, and what the number there becomes.
use Prim.Native.Nat.{suc}
use prog.Atomic.{either}
use Rattle.std.specs.Prelude.{◌≡◌, ℕ, ◌==◌, max, Option, Some, None}
use Rattle.clover_words.specs.declared.word.Word.{Word}
use Rattle.clover_words.specs.declared.word.Word.TheVariants.{Next as NextOf, Root, Key, Short, Count}
use Rattle.clover_words.specs.declared.word.Side.{Side}
use Rattle.clover_words.specs.declared.word.Side.TheVariants.{Current, Flushed}
use Rattle.clover_words.specs.Meta.{tombstone}
use Rattle.clover_words.specs.Tag.{home, age}
use Rattle.clover_words.specs.Next.{root_code}
use Rattle.clover_words.specs.Version.{buffer_at, content_at, unlinked, linked}
use Rattle.clover_map.specs.declared.bytes.Value.{Value}
use Rattle.clover_map.specs.declared.call.Call.{Call}
use Rattle.clover_map.specs.declared.call.Call.TheVariants.{Put, Delete, Swap}
use Rattle.clover_map.specs.declared.call.Reply.{Reply}
use Rattle.clover_map.specs.declared.call.Reply.TheVariants.{Stored, Deleted}
use Rattle.clover_rule.specs.Memory.{word}
use Rattle.clover_rule.specs.Words.{next_code}
use Rattle.clover_rule.specs.declared.access.Act.{Act}
use Rattle.clover_rule.specs.declared.access.Act.TheVariants.{Load, Store, Exchange, Raise}
use Rattle.clover_rule.specs.declared.view.Link.{Link}
use Rattle.clover_rule.specs.declared.view.NewBinding.{NewBinding}
use Rattle.clover_rule.specs.declared.view.Recycling.{Recycling}
use Rattle.clover_rule.specs.declared.view.RestartStore.{RestartStore}
use Rattle.clover_rule.specs.declared.view.RestartStore.TheVariants.{ClearRoot, ClearFlushedRoot, Lift, LiftFlushed, SetCount}
use Rattle.clover_rule.specs.declared.view.Role.{Role}
use Rattle.clover_rule.specs.declared.view.Role.TheVariants.{Client}
use Rattle.clover_rule.specs.declared.view.View.{View}

-- the steps of clients, of the server and of a restart, each with its operands
pub data Step : Type 0 where
  -- a client's load of the next word of a tag of a slot, on a walk; and one that decides the call with the reply where it shows the tail
  LoadNext : (slot tag : ℕ) → Step
  DecideNext : (slot tag : ℕ) (call : Call) (reply : Reply) → Step
  -- its raise of a flushed next word to a link
  RaiseNext : (link : Link) → Step
  -- its exchange that links the own tag behind the tail of a slot
  LinkNext : (slot tail own : ℕ) (call : Call) → Step
  -- its store of a content word of an own tag, and of the flushed copy
  StoreContent : (own place word : ℕ) → Step
  FlushContent : (own place word : ℕ) → Step
  -- its load of a content word of a tag of a slot
  LoadContent : (slot tag place : ℕ) → Step
  -- its load of the root and of the shortcut of a slot, and its store of a shortcut
  ReadRoot : (slot : ℕ) → Step
  ReadShort : (slot : ℕ) → Step
  StoreShort : (slot tag : ℕ) → Step
  -- its load of the count, and one that decides that the call's key is absent where it shows no binding that is not known
  ReadCount : Step
  AbsentCount : (call : Call) → Step
  -- the server's load of the next word of a slot's root version: it shows that no version stands behind it, or begins a recycling
  ReadVersion : (slot root : ℕ) → Step
  -- a recycling: the raise of the link, the stores of the root and of its flushed copy, the exchange to the next generation, and the raise to it
  FlushLink : (task : Recycling) → Step
  StoreRoot : (task : Recycling) → Step
  FlushRoot : (task : Recycling) → Step
  PassRoot : (task : Recycling) → Step
  FreeRoot : (task : Recycling) → Step
  -- a binding: the stores of the tombstone's meta word, of the key's words and of the root, each in both copies, and of the count
  StoreTombstone : (task : NewBinding) → Step
  FlushTombstone : (task : NewBinding) → Step
  StoreKey : (task : NewBinding) (place word : ℕ) → Step
  FlushKey : (task : NewBinding) (place word : ℕ) → Step
  BindRoot : (task : NewBinding) → Step
  FlushBoundRoot : (task : NewBinding) → Step
  StoreCount : (task : NewBinding) (count : ℕ) → Step
  -- a store of a restart
  Restart : (store : RestartStore) → Step

-- what an access does at its word: it reads the current copy, stores a number to a copy, exchanges one number of the current copy for another, or raises the flushed copy to a number
pub data Operation : Type 0 where
  loads : Operation
  stores : (side : Side) (value : ℕ) → Operation
  exchanges : (expected new : ℕ) → Operation
  raises : (value : ℕ) → Operation

-- a tag's next word
abbrev pub next_word_of : ℕ → Word
next_word_of t = NextOf (buffer_at (home t))

-- the number of a tag's next word once its buffer went on to the next generation
abbrev pub moved_on : ℕ → ℕ
moved_on t = next_code (word (suc (age t)) None)

-- the word of a restart's store
abbrev pub restart_word : RestartStore → Word
restart_word (ClearRoot s) = Root s
restart_word (ClearFlushedRoot s) = Root s
restart_word (Lift b g) = NextOf (buffer_at b)
restart_word (LiftFlushed b g) = NextOf (buffer_at b)
restart_word (SetCount n) = Count

-- what a restart's store does at its word
abbrev pub restart_operation : RestartStore → Operation
restart_operation (ClearRoot s) = stores Current (root_code None)
restart_operation (ClearFlushedRoot s) = stores Flushed (root_code None)
restart_operation (Lift b g) = stores Current (next_code (word g None))
restart_operation (LiftFlushed b g) = stores Flushed (next_code (word g None))
restart_operation (SetCount n) = stores Current n

-- the word that a step is on
abbrev pub word_of : Step → Word
word_of (LoadNext s t) = next_word_of t
word_of (DecideNext s t c r) = next_word_of t
word_of (RaiseNext l) = next_word_of l.from
word_of (LinkNext s u t c) = next_word_of u
word_of (StoreContent t j x) = content_at (home t) j
word_of (FlushContent t j x) = content_at (home t) j
word_of (LoadContent s t j) = content_at (home t) j
word_of (ReadRoot s) = Root s
word_of (ReadShort s) = Short s
word_of (StoreShort s t) = Short s
word_of ReadCount = Count
word_of (AbsentCount c) = Count
word_of (ReadVersion s r) = next_word_of r
word_of (FlushLink c) = next_word_of c.root
word_of (StoreRoot c) = Root c.slot
word_of (FlushRoot c) = Root c.slot
word_of (PassRoot c) = next_word_of c.root
word_of (FreeRoot c) = next_word_of c.root
word_of (StoreTombstone b) = content_at (home b.tag) 0
word_of (FlushTombstone b) = content_at (home b.tag) 0
word_of (StoreKey b j x) = Key b.slot j
word_of (FlushKey b j x) = Key b.slot j
word_of (BindRoot b) = Root b.slot
word_of (FlushBoundRoot b) = Root b.slot
word_of (StoreCount b n) = Count
word_of (Restart x) = restart_word x

-- and what it does there
abbrev pub operation_of : Step → Operation
operation_of (LoadNext s t) = loads
operation_of (DecideNext s t c r) = loads
operation_of (RaiseNext l) = raises (linked l.from l.to)
operation_of (LinkNext s u t c) = exchanges (unlinked u) (linked u t)
operation_of (StoreContent t j x) = stores Current x
operation_of (FlushContent t j x) = stores Flushed x
operation_of (LoadContent s t j) = loads
operation_of (ReadRoot s) = loads
operation_of (ReadShort s) = loads
operation_of (StoreShort s t) = stores Current (root_code (Some t))
operation_of ReadCount = loads
operation_of (AbsentCount c) = loads
operation_of (ReadVersion s r) = loads
operation_of (FlushLink c) = raises (linked c.root c.next)
operation_of (StoreRoot c) = stores Current (root_code (Some c.next))
operation_of (FlushRoot c) = stores Flushed (root_code (Some c.next))
operation_of (PassRoot c) = exchanges (linked c.root c.next) (moved_on c.root)
operation_of (FreeRoot c) = raises (moved_on c.root)
operation_of (StoreTombstone b) = stores Current tombstone
operation_of (FlushTombstone b) = stores Flushed tombstone
operation_of (StoreKey b j x) = stores Current x
operation_of (FlushKey b j x) = stores Flushed x
operation_of (BindRoot b) = stores Current (root_code (Some b.tag))
operation_of (FlushBoundRoot b) = stores Flushed (root_code (Some b.tag))
operation_of (StoreCount b n) = stores Current n
operation_of (Restart x) = restart_operation x

-- the copy that an operation is on
abbrev pub side_in : Operation → Side
side_in loads = Current
side_in (stores s y) = s
side_in (exchanges e n) = Current
side_in (raises y) = Flushed

-- what the number at the word of an operation becomes
abbrev pub result : Operation → ℕ → ℕ
result loads x = x
result (stores s y) x = y
result (exchanges e n) x = either (x == e) n x
result (raises y) x = max x y

-- the access that an operation is on this word, where it found this number
abbrev pub act_on : Operation → Word → ℕ → Act
act_on loads w x = Load w x
act_on (stores s y) w x = Store w s y
act_on (exchanges e n) w x = Exchange w e n x
act_on (raises y) w x = Raise w y x

-- the copy that a step is on
abbrev pub side_of : Step → Side
side_of a = side_in (operation_of a)

-- what the number at the word of a step becomes
abbrev pub becomes : Step → ℕ → ℕ
becomes a x = result (operation_of a) x

-- the access that a step is where it found this number
abbrev pub act_of : Step → ℕ → Act
act_of a x = act_on (operation_of a) (word_of a) x

-- the value that a call commits, nothing for a delete
abbrev pub value_of : Call → Option Value
value_of (Put k x) = Some x
value_of (Swap k e x) = Some x
value_of _ = None

-- the reply to a call that committed this tag
abbrev pub reply_of : ℕ → Call → Reply
reply_of t (Delete k) = Deleted t
reply_of t _ = Stored t

-- the number in a client's role
abbrev pub number_of : Role → ℕ
number_of (Client n) = n
number_of _ = 0

-- the client's number
abbrev pub client : View → ℕ
client v = number_of v.pass.role

-- the view is a client's
abbrev pub IsClient : View → Type 0
IsClient v = v.pass.role ≡ Client (client v)
