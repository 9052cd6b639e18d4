-- What a run is: a list of records of which each follows those before it.
use Prim.Native.Nat.{suc}
use Rattle.std.specs.Prelude.{◌≡◌, ℕ, ◌*◌, ◌<◌, ltb, List, [], ◌∷◌, ◌++◌, length, true, false, if◌then◌else◌, Option, Some, None, IfSome, IsSome}
use Rattle.clover_words.specs.declared.pool.Pool.{Pool}
use Rattle.clover_words.specs.declared.setup.Setup.{Setup}
use Rattle.clover_words.specs.declared.word.Word.TheVariants.{Next as NextOf, Short}
use Rattle.clover_words.specs.declared.word.Side.TheVariants.{Current}
use Rattle.clover_words.specs.Next.{root_code}
use Rattle.clover_words.specs.Preset.{dealt_number}
use Rattle.clover_words.specs.Tag.{home}
use Rattle.clover_words.specs.Version.{linked, buffer_at}
use Rattle.clover_map.specs.History.{own, key_of, is_commit}
use Rattle.clover_map.specs.Tagged.{Tagged}
use Rattle.clover_map.specs.declared.call.Call.{Call}
use Rattle.clover_map.specs.declared.call.Entry.{Entry}
use Rattle.clover_map.specs.declared.call.Reply.{Reply}
use Rattle.clover_map.specs.declared.call.Reply.TheVariants.{Stored, Deleted}
use Rattle.clover_script.specs.declared.line.Task.{Task}
use Rattle.clover_script.specs.declared.line.Task.TheVariants.{Client as ClientTask}
use Rattle.clover_rule.specs.Accesses.{CameBack, Decides, wrote_link}
use Rattle.clover_rule.specs.Lists.{Within}
use Rattle.clover_rule.specs.declared.access.Access.{Access}
use Rattle.clover_rule.specs.declared.access.Act.{Act}
use Rattle.clover_rule.specs.declared.access.Act.TheVariants.{Load, Store, Exchange, Raise}
use Rattle.clover_rule.specs.declared.access.Actor.TheVariants.{Client}
use Rattle.clover_plain.specs.Preset.{tag_at}
use Rattle.clover_walk.specs.Walking.{Ended, budget, most_accesses}
use Rattle.clover_event.specs.declared.event.CallRefusal.{CallRefusal}
use Rattle.clover_event.specs.declared.event.CallRefusal.TheVariants.{Unreached, Linked}
use Rattle.clover_call.specs.Calling.{Calling, begun_call, due, LeadsTo}

-- how many bytes of a value a buffer has room for
abbrev pub room : Setup → ℕ
room s = 8 * s.pool.words

-- nothing came back
abbrev pub IsBlank : Act → Type 0
IsBlank (Load w got) = got ≡ 0
IsBlank (Store w side value) = Unit {0}
IsBlank (Exchange w expected new old) = old ≡ 0
IsBlank (Raise w value old) = old ≡ 0

-- an exchange that wrote
abbrev pub Wrote : Act → Type 0
Wrote (Exchange w expected new old) = old ≡ expected
Wrote act = ⊥

-- the last of these acts is the raise of the flushed copy of the link to t, behind the exchange by which the call wrote that link
pub record Flushes (t : ℕ) (acts : List Act) : Type 0 where
  pub from : ℕ
  pub old : ℕ
  pub before : List Act
  pub all : acts ≡ before ++ Raise (NextOf (buffer_at (home from))) (linked from t) old ∷ []
  pub wrote : Within (wrote_link from t) before

-- the act stores a slot's shortcut
abbrev pub Shortens : Act → Type 0
Shortens (Store (Short s) side x) = Unit {0}
Shortens act = ⊥

-- what a call whose access was refused is answered: it had changed nothing, or its link stands
abbrev pub lost : Option Reply → CallRefusal
lost (Some (Stored t)) = Linked t
lost (Some (Deleted t)) = Linked t
lost o = Unreached
