-- What the client must know where a put stands, and how many accesses the call has made at most.
use Rattle.std.specs.Prelude.{◌≡◌, ℕ, ◌+◌, ◌*◌, ◌<◌, ◌≤◌, List, ◌∷◌, length, false, Some, None, if◌then◌else◌, ◌==◌}
use Rattle.clover_words.specs.Tag.{home}
use Rattle.clover_words.specs.Version.{content_at}
use Rattle.clover_map.specs.declared.call.Reply.{Reply}
use Rattle.clover_map.specs.declared.call.Reply.TheVariants.{Absent, Differs}
use Rattle.clover_words.specs.declared.word.Side.TheVariants.{Current, Flushed}
use Rattle.clover_rule.specs.Accesses.{SawDead, SawFor, SawLive}
use Rattle.clover_rule.specs.Content.{InRange}
use Rattle.clover_rule.specs.Lists.{nth, Within}
use Rattle.clover_rule.specs.Asks.{MayCall, MayReply}
use Rattle.clover_rule.specs.declared.access.Act.{Act}
use Rattle.clover_rule.specs.declared.access.Act.TheVariants.{Store}
use Rattle.clover_rule.specs.declared.view.View.{View}
use Rattle.clover_walk.specs.Walking.{OnTail, IsOnWay, Holds, since_turn}
use Rattle.clover_put.specs.declared.job.Job.{Job}
use Rattle.clover_put.specs.declared.job.Job.TheVariants.{Put, Delete, Swap}
use Rattle.clover_put.specs.Putting.{Putting, Stage, Storing, Flushing, Seeking, AtMeta, AtLink, Deciding, AtBad, AtRaise, AtShort, Over, body, call_at, kind_of}

-- the first words of the version are stored, and of these the first ones flushed
pub record Filled (c : Putting) (m n : ℕ) (v : View) : Type 0 where
  pub written : (j x : ℕ) → j < m → nth (body c) j ≡ Some x → Within (record { tag = c.own; place = j; word = x }) v.pass.written × Within (Store (content_at (home c.own) j) Current x) v.pass.since
  pub flushed : (j x : ℕ) → j < n → nth (body c) j ≡ Some x → Within (record { tag = c.own; place = j; word = x }) v.pass.flushed × Within (Store (content_at (home c.own) j) Flushed x) v.pass.since

-- how much of the own version is stored and flushed, and that the first store is the first access of the call
abbrev pub Fills : Stage → Putting → View → Type 0
Fills (Storing j) c v = Filled c j 0 v × (j < length (body c)) × (c.walk.first ≡ (j == 0))
Fills (Flushing j) c v = Filled c (length (body c)) j v × (j < length (body c)) × (c.walk.first ≡ false)
Fills (AtRaise u) c v = c.walk.first ≡ false
Fills AtShort c v = c.walk.first ≡ false
Fills Over c v = ⊥
Fills _ c v = Filled c (length (body c)) (length (body c)) v × (c.walk.first ≡ false)

-- the own tag is the next one of the stock, until it is committed
abbrev pub Owns : Stage → Putting → View → Type 0
Owns (AtRaise u) c v = Unit {0}
Owns AtShort c v = Unit {0}
Owns Over c v = ⊥
Owns _ c v = (rest : List ℕ) × (v.pass.stock ≡ c.own ∷ rest)

-- the put is at this tail
abbrev pub IsAt : Putting → ℕ → Type 0
IsAt c u = (c.walk.stand ≡ OnTail u) × InRange c.walk.pool u

-- the job looks at the tail's meta word
abbrev pub Reads : Job → Type 0
Reads Put = ⊥
Reads Delete = Unit {0}
Reads (Swap t) = Unit {0}

-- the call has read what the reply says of the tail
abbrev pub SawReply : ℕ → Reply → List Act → Type 0
SawReply u Absent acts = SawDead u acts
SawReply u (Differs t) acts = SawLive u acts
SawReply u r acts = ⊥

-- what the call has seen where it stands
abbrev pub Looks : Stage → Putting → View → Type 0
Looks (AtMeta u) c v = IsAt c u × Reads c.job
Looks (AtLink u) c v = IsAt c u × MayCall v c.walk.slot u (call_at c v) × SawFor u (call_at c v) v.pass.since
Looks (Deciding u r) c v = IsAt c u × MayReply v c.walk.slot u (call_at c v) r × SawReply u r v.pass.since
Looks (AtBad u) c v = IsAt c u × ((y : ℕ) × Within (c.walk.slot, record { tag = u; place = 0; word = y }) v.pass.copied × (kind_of y ≡ None))
Looks (AtRaise u) c v = IsAt c u × Within (record { slot = c.walk.slot; from = u; to = c.own }) v.pass.links
Looks AtShort c v = (c.walk.slot < c.walk.pool.slots) × Within (c.walk.slot, c.own) v.pass.durable
Looks Over c v = ⊥
Looks _ c v = IsOnWay c.walk.stand

-- the accesses of the call at most: the stores and flushes, five for each turn, and those of the present turn
abbrev pub behind_it : Putting → ℕ
behind_it c = 2 * length (body c) + 5 * c.walk.turns

-- the accesses of the call at most
abbrev pub most : Stage → Putting → ℕ
most (Storing j) c = j
most (Flushing j) c = length (body c) + j
most Seeking c = behind_it c + since_turn c.walk.stand
most (AtMeta u) c = behind_it c + 3
most (AtLink u) c = behind_it c + 4
most (Deciding u r) c = behind_it c + 4
most (AtBad u) c = behind_it c + 4
most (AtRaise u) c = behind_it c + 5
most AtShort c = behind_it c + 6
most Over c = behind_it c + 7

-- what the client knows where the call stands
pub record PutHolds (c : Putting) (v : View) : Type 0 where
  pub walk : Holds c.walk v
  pub owns : Owns c.stage c v
  pub fills : Fills c.stage c v
  pub looks : Looks c.stage c v
  pub spent : (if c.walk.first then 0 else length v.pass.since) ≤ most c.stage c
