-- What a step asks: what its actor must be and know, by its own view alone.
use Rattle.std.specs.Prelude.{◌≡◌, ◌≢◌, ℕ, ◌+◌, ◌<◌, length, List, ◌∷◌, true, Some}
use Rattle.clover_words.specs.declared.pool.Pool.{Pool}
use Rattle.clover_words.specs.Place.{IsWithin}
use Rattle.clover_words.specs.Tag.{home, age}
use Rattle.clover_map.specs.declared.call.Call.{Call}
use Rattle.clover_map.specs.declared.call.Call.TheVariants.{Get, Put, Delete, Swap}
use Rattle.clover_map.specs.declared.call.Reply.{Reply}
use Rattle.clover_map.specs.declared.call.Reply.TheVariants.{Found, Absent, Differs}
use Rattle.clover_map.specs.History.{key_of}
use Rattle.clover_map.specs.Key.{IsKey}
use Rattle.clover_rule.specs.Content.{content, spelling, inside, Fits}
use Rattle.clover_rule.specs.Knowing.{CopiedValue, SawValue, SawTombstone}
use Rattle.clover_rule.specs.Lists.{Within, nth}
use Rattle.clover_rule.specs.Steps.{Step, LoadNext, DecideNext, RaiseNext, LinkNext, StoreContent, FlushContent, LoadContent, ReadRoot, ReadShort, StoreShort, ReadCount, AbsentCount, ReadVersion, FlushLink, StoreRoot, FlushRoot, PassRoot, FreeRoot, StoreTombstone, FlushTombstone, StoreKey, FlushKey, BindRoot, FlushBoundRoot, StoreCount, Restart, word_of, value_of, IsClient}
use Rattle.clover_rule.specs.Views.{book, book_at, root_at}
use Rattle.clover_rule.specs.declared.view.BufferState.TheVariants.{Free}
use Rattle.clover_rule.specs.declared.view.NewBinding.{NewBinding}
use Rattle.clover_rule.specs.declared.view.RestartStore.{RestartStore}
use Rattle.clover_rule.specs.declared.view.Role.TheVariants.{Serving, Restarting}
use Rattle.clover_rule.specs.declared.view.ServerTask.{ServerTask}
use Rattle.clover_rule.specs.declared.view.ServerTask.TheVariants.{Idle, Storing, Rooted, Waiting, Loaded, Raised, Led, Both, Exchanged}
use Rattle.clover_rule.specs.declared.view.View.{View}

-- what a client must have read to give this reply at the tail t of a slot
abbrev pub MayReply : View → ℕ → ℕ → Call → Reply → Type 0
MayReply v s t (Get k) (Found u x) = (u ≡ t) × CopiedValue v s t x
MayReply v s t (Get k) Absent = SawTombstone v s t
MayReply v s t (Delete k) Absent = SawTombstone v s t
MayReply v s t (Swap k e x) Absent = SawTombstone v s t
MayReply v s t (Swap k e x) (Differs u) = (u ≡ t) × (t ≢ e) × SawValue v s t
MayReply v s t c r = ⊥

-- a client that knows the tail to be durable, the slot's name, and what the reply says
pub record MayDecide (v : View) (s t : ℕ) (c : Call) (r : Reply) : Type 0 where
  pub client : IsClient v
  pub tail : Within (s, t) v.pass.durable
  pub name : Within (s, key_of c) v.pass.names
  pub reply : MayReply v s t c r

-- what a client must have read to commit the call behind the tail u of a slot
abbrev pub MayCall : View → ℕ → ℕ → Call → Type 0
MayCall v s u (Put k x) = Unit {0}
MayCall v s u (Delete k) = SawValue v s u
MayCall v s u (Swap k e x) = (e ≡ u) × SawValue v s u
MayCall v s u (Get k) = ⊥

-- both copies of each word of the content are stored in the buffer of the own tag, which is first in the stock
pub record MayCommit (p : Pool) (v : View) (s u t : ℕ) (c : Call) : Type 0 where
  pub client : IsClient v
  pub rest : List ℕ
  pub stock : v.pass.stock ≡ t ∷ rest
  pub tail : Within (s, u) v.pass.durable
  pub name : Within (s, key_of c) v.pass.names
  pub stored : (j x : ℕ) → nth (content (value_of c)) j ≡ Some x → Within (record { tag = t; place = j; word = x }) v.pass.written × Within (record { tag = t; place = j; word = x }) v.pass.flushed
  pub fits : Fits p (value_of c)
  pub call : MayCall v s u c

-- a call that may be answered absent
abbrev pub MayMiss : Call → Type 0
MayMiss (Put k x) = ⊥
MayMiss _ = Unit {0}

-- the server, which has got so far
pub record IsAt (v : View) (task : ServerTask) : Type 0 where
  pub server : v.pass.role ≡ Serving
  pub task_is : v.server.task ≡ task

-- a binding that the server may begin: its buffer is free, and neither its slot nor its key is bound
pub record MayBegin (p : Pool) (v : View) (b : NewBinding) : Type 0 where
  pub idle : IsAt v Idle
  pub free : book_at v.server (home b.tag) ≡ book (age b.tag) Free
  pub buffer : inside p (home b.tag) ≡ true
  pub slot : b.slot < p.slots
  pub key : IsKey b.key
  pub unbound : (k : List ℕ) → Within (b.slot, k) v.server.directory → ⊥
  pub unnamed : (s : ℕ) → Within (s, b.key) v.server.directory → ⊥

-- the words of a binding's key
abbrev pub key_words : NewBinding → ℕ
key_words b = length (spelling b.key)

-- a restart whose next store is this one
pub record IsNext (v : View) (x : RestartStore) : Type 0 where
  pub restart : v.pass.role ≡ Restarting
  pub rest : List RestartStore
  pub plan : v.plan ≡ x ∷ rest

-- what a step asks of its actor's view alone
abbrev pub May : Pool → Step → View → Type 0
May p (LoadNext s t) v = IsClient v × Within (s, t) v.pass.durable
May p (DecideNext s t c r) v = MayDecide v s t c r
May p (RaiseNext l) v = IsClient v × Within l v.pass.links
May p (LinkNext s u t c) v = MayCommit p v s u t c
May p (StoreContent t j x) v = IsClient v × Within t v.pass.stock
May p (FlushContent t j x) v = IsClient v × Within t v.pass.stock
May p (LoadContent s t j) v = IsClient v × Within (s, t) v.pass.durable
May p (ReadRoot s) v = IsClient v
May p (ReadShort s) v = IsClient v
May p (StoreShort s t) v = IsClient v × Within (s, t) v.pass.durable
May p ReadCount v = IsClient v
May p (AbsentCount c) v = IsClient v × MayMiss c × ((s : ℕ) → Within (s, key_of c) v.pass.names → ⊥)
May p (ReadVersion s r) v = IsAt v Idle × (root_at v.server s ≡ Some r)
May p (FlushLink c) v = IsAt v (Loaded c)
May p (StoreRoot c) v = IsAt v (Raised c)
May p (FlushRoot c) v = IsAt v (Led c)
May p (PassRoot c) v = IsAt v (Both c)
May p (FreeRoot c) v = IsAt v (Exchanged c)
May p (StoreTombstone b) v = MayBegin p v b
May p (FlushTombstone b) v = IsAt v (Storing b 1)
May p (StoreKey b j x) v = IsAt v (Storing b (2 + j)) × (nth (spelling b.key) j ≡ Some x)
May p (FlushKey b j x) v = IsAt v (Storing b (2 + j + key_words b)) × (nth (spelling b.key) j ≡ Some x)
May p (BindRoot b) v = IsAt v (Storing b (2 + key_words b + key_words b))
May p (FlushBoundRoot b) v = IsAt v (Rooted b)
May p (StoreCount b n) v = IsAt v (Waiting b) × (n ≡ length v.server.directory)
May p (Restart x) v = IsNext v x

-- and that its word is one of the pool
abbrev pub Asks : Pool → Step → View → Type 0
Asks p a v = IsWithin p (word_of a) × May p a v
