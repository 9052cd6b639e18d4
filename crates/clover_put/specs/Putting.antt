-- A put, delete or swap of one slot's key: which step its next access is, and how it goes on by what that access found.
use Prim.Native.Nat.{zero, suc}
use Rattle.std.specs.Prelude.{ℕ, ◌/◌, ◌%◌, ◌^◌, ◌==◌, List, length, leb, ltb, ◌&&◌, Option, Some, None, if◌then◌else◌}
use Rattle.clover_words.specs.declared.meta.Kind.{Kind}
use Rattle.clover_words.specs.declared.meta.Kind.TheVariants.{Value as IsValue, Tombstone}
use Rattle.clover_words.specs.Pack.{packed}
use Rattle.clover_words.specs.Tag.{tag_number}
use Rattle.clover_words.specs.Meta.{tombstone}
use Rattle.clover_words.specs.Version.{unlinked}
use Rattle.clover_map.specs.declared.bytes.Value.{Value}
use Rattle.clover_map.specs.declared.call.Call.{Call}
use Rattle.clover_map.specs.declared.call.Call.TheVariants.{Put as PutCall, Delete as DeleteCall, Swap as SwapCall}
use Rattle.clover_map.specs.declared.call.Reply.{Reply}
use Rattle.clover_map.specs.declared.call.Reply.TheVariants.{Absent, Differs}
use Rattle.clover_rule.specs.Content.{content, value_meta}
use Rattle.clover_rule.specs.Steps.{Step, StoreShort, LoadNext, DecideNext, LinkNext, RaiseNext, StoreContent, FlushContent, LoadContent}
use Rattle.clover_rule.specs.declared.view.View.{View}
use Rattle.clover_walk.specs.Walking.{Walking, Stand, AtShort as ToShort, AtRoot, AtTag, AtLink as OnLink, OnTail, Ended, begun, walk_step, goes_on, key_at}
use Rattle.clover_put.specs.declared.job.Job.{Job}
use Rattle.clover_put.specs.declared.job.Job.TheVariants.{Put, Delete, Swap}

-- where a put stands: which content word of its own version it stores or flushes, that it walks, or what it does at the tail: load its meta word, commit behind it, load its next word again to decide the reply that commits nothing, or because its meta word was of a passed buffer, raise the committed link, or store the slot's shortcut; or it is over
pub data Stage : Type 0 where
  Storing : ℕ → Stage
  Flushing : ℕ → Stage
  Seeking : Stage
  AtMeta : ℕ → Stage
  AtLink : ℕ → Stage
  Deciding : ℕ → Reply → Stage
  AtBad : ℕ → Stage
  AtRaise : ℕ → Stage
  AtShort : Stage
  Over : Stage

-- a call that writes: its walk, its job, the tag that it commits, the value that it stores (a delete stores none), and where it stands
pub record Putting : Type 0 where
  pub walk : Walking
  pub job : Job
  pub own : ℕ
  pub value : Value
  pub stage : Stage

-- what the job commits: a delete commits a tombstone
abbrev pub commits : Job → Value → Option Value
commits Put x = Some x
commits Delete x = None
commits (Swap t) x = Some x

-- the call of the job on a key
abbrev pub call_of : Job → List ℕ → Value → Call
call_of Put k x = PutCall k x
call_of Delete k x = DeleteCall k
call_of (Swap t) k x = SwapCall k (tag_number t) x

-- the call, on the key that the client knows the slot to have
abbrev pub call_at : Putting → View → Call
call_at c v = call_of c.job (key_at v.pass.names c.walk.slot) c.value

-- the words of the version that is committed
abbrev pub body : Putting → List ℕ
body c = content (commits c.job c.value)

-- the content word of the own version at a place
abbrev pub body_word : Job → Value → ℕ → ℕ
body_word Delete x j = tombstone
body_word Put x zero = value_meta x
body_word Put x (suc k) = packed x.bytes k
body_word (Swap t) x zero = value_meta x
body_word (Swap t) x (suc k) = packed x.bytes k

-- what a version is by its meta word, where that is one
abbrev pub kind_of : ℕ → Option Kind
kind_of x = if (x / 2 ^ 48) == 1 && leb (x % 2 ^ 16) 1024 then Some IsValue else if x == tombstone then Some Tombstone else None

-- the step that the next access is
abbrev pub put_step : Putting → View → Step
put_step c v = from c.stage
  where
    from : Stage → Step
    from (Storing j) = StoreContent c.own j (body_word c.job c.value j)
    from (Flushing j) = FlushContent c.own j (body_word c.job c.value j)
    from Seeking = walk_step c.walk
    from (AtMeta u) = LoadContent c.walk.slot u 0
    from (AtLink u) = LinkNext c.walk.slot u c.own (call_at c v)
    from (Deciding u r) = DecideNext c.walk.slot u (call_at c v) r
    from (AtBad u) = LoadNext c.walk.slot u
    from (AtRaise u) = RaiseNext (record { slot = c.walk.slot; from = u; to = c.own })
    from AtShort = StoreShort c.walk.slot c.own
    from Over = walk_step c.walk

-- the call as it is made
abbrev pub made_put : Walking → Job → ℕ → Value → Putting
made_put w j t x = record { walk = w; job = j; own = t; value = x; stage = Storing 0 }

-- it stands there
abbrev pub staged : Putting → Stage → Putting
staged c at = record c { stage = at }

-- the stage after a content word more was stored
abbrev pub after_store : ℕ → ℕ → Stage
after_store n j = if ltb (suc j) n then Storing (suc j) else Flushing 0

-- the stage after a content word more was flushed
abbrev pub after_flush : ℕ → ℕ → Stage
after_flush n j = if ltb (suc j) n then Flushing (suc j) else Seeking

-- a put that has stored or flushed a content word more
abbrev pub filled : Putting → Stage → Putting
filled c at = record c { walk = begun c.walk; stage = at }

-- what a job does at a tail: a put commits at once, the others look at the tail's meta word first
abbrev pub at_tail : Job → ℕ → Stage
at_tail Put t = AtLink t
at_tail Delete t = AtMeta t
at_tail (Swap e) t = AtMeta t

-- the stage of a put whose walk stands there
abbrev pub reached : Job → Stand → Stage
reached j ToShort = Seeking
reached j AtRoot = Seeking
reached j (AtTag t) = Seeking
reached j (OnLink t u) = Seeking
reached j (OnTail t) = at_tail j t
reached j Ended = Over

-- the walk has gone on so
abbrev pub walked : Putting → Walking → Putting
walked c w = record c { walk = w; stage = reached c.job w.stand }

-- what a job does behind a tail whose meta word says this: a swap whose tag is not the tail's commits nothing
abbrev pub on_value : Job → ℕ → Stage
on_value Put t = AtLink t
on_value Delete t = AtLink t
on_value (Swap e) t = if tag_number e == t then AtLink t else Deciding t (Differs t)

-- the stage behind the load of the meta word
abbrev pub on_meta : Job → ℕ → Option Kind → Stage
on_meta j t (Some IsValue) = on_value j t
on_meta j t (Some Tombstone) = Deciding t Absent
on_meta j t None = AtBad t

-- it stands there where the tail u was found unlinked; otherwise the tail is left as by a load of the walk
abbrev pub unless_left : Putting → ℕ → Stage → ℕ → Putting
unless_left c u at x = if x == unlinked u then staged c at else walked c (goes_on c.walk x)

-- how the call goes on where its access found this number
abbrev pub put_on : Putting → ℕ → Putting
put_on c x = from c.stage
  where
    from : Stage → Putting
    from (Storing j) = filled c (after_store (length (body c)) j)
    from (Flushing j) = filled c (after_flush (length (body c)) j)
    from Seeking = walked c (goes_on c.walk x)
    from (AtMeta u) = staged c (on_meta c.job u (kind_of x))
    from (AtLink u) = unless_left c u (AtRaise u) x
    from (Deciding u r) = unless_left c u Over x
    from (AtBad u) = walked c (goes_on c.walk x)
    from (AtRaise u) = staged c AtShort
    from AtShort = staged c Over
    from Over = c
