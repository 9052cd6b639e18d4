-- A client of the machine: what it has under way and what it knows, that this is what the records say of it, and what one step of it does.
use Prim.Native.Nat.{suc}
use Rattle.std.specs.Prelude.{◌≡◌, ◌≢◌, ℕ, ◌+◌, ◌-◌, ◌≤◌, min, List, [], ◌∷◌, ◌++◌, length, Bool, true, false, cond, if◌then◌else◌, Option, Some, None, option_to_list}
use Rattle.clover_words.specs.declared.pool.Pool.{Pool}
use Rattle.clover_words.specs.declared.setup.Setup.{Setup}
use Rattle.clover_words.specs.Preset.{buffers_total}
use Rattle.clover_words.specs.Tag.{TagParts, tag_number}
use Rattle.clover_map.specs.History.{own, key_of}
use Rattle.clover_map.specs.declared.call.Call.{Call}
use Rattle.clover_map.specs.declared.call.Entry.{Entry}
use Rattle.clover_script.specs.declared.line.Task.{Task}
use Rattle.clover_script.specs.declared.line.Task.TheVariants.{Client as ClientTask}
use Rattle.clover_rule.specs.Accesses.{wrote_link}
use Rattle.clover_rule.specs.Lists.{Within}
use Rattle.clover_rule.specs.Steps.{Step as Due, act_of, reply_of}
use Rattle.clover_rule.specs.declared.access.Access.{Access}
use Rattle.clover_rule.specs.declared.access.Act.{Act}
use Rattle.clover_rule.specs.declared.access.Actor.TheVariants.{Client}
use Rattle.clover_rule.specs.declared.view.Role.TheVariants.{Client as ClientRole}
use Rattle.clover_rule.specs.declared.view.View.{View}
use Rattle.clover_plain.specs.Plain.{Plain, view_at, history}
use Rattle.clover_plain.specs.Preset.{dealt_from}
use Rattle.clover_cache.specs.Node.{Known, cursor_at, asked, IsSet}
use Rattle.clover_walk.specs.Standing.{number_of}
use Rattle.clover_walk.specs.Walking.{made_walk}
use Rattle.clover_put.specs.Putting.{Stage, AtRaise, AtShort}
use Rattle.clover_call.specs.declared.under.Underway.{Underway}
use Rattle.clover_call.specs.declared.under.Underway.TheVariants.{Nothing, Write}
use Rattle.clover_call.specs.Beginning.{IsBegun, size_of, ExpectsTag}
use Rattle.clover_call.specs.Caller.{CallerHolds, HasCommitted, IsUncommitted, call_under, first_caller, is_first, new_tag, slot_of}
use Rattle.clover_call.specs.Calling.{Calling, due, after}
use Rattle.clover_call.specs.Mirroring.{Mirrors}
use Rattle.clover_event.specs.Run.{Flushes}

-- the acts of the call under way since its start, as the client's view holds them
abbrev pub since_of : Underway → View → List Act
since_of Nothing v = []
since_of u v = cond (is_first u) [] v.pass.since

-- behind its exchange a call has written its link, and once it has raised that it is to store its shortcut
abbrev pub LinkedAt : Stage → ℕ → List Act → Type 0
LinkedAt (AtRaise u) t acts = Within (wrote_link u t) acts
LinkedAt AtShort t acts = Flushes t acts
LinkedAt at t acts = Unit {0}

abbrev pub HasLinked : Underway → List Act → Type 0
HasLinked (Write c) acts = LinkedAt c.stage c.own acts
HasLinked u acts = Unit {0}

-- the act is the last of these
abbrev pub IsLast : Act → List Act → Type 0
IsLast act acts = (before : List Act) × (acts ≡ before ++ act ∷ [])

-- an access of the client of a seat
abbrev pub access : ℕ → Act → Bool → Access
access seat act refused = record { actor = Client (suc seat); act = act; refused = refused }

-- the call keeps the first bytes of the value as it was written, at most 1,024
abbrev pub IsCallTask : Call → ℕ → Type 0
IsCallTask call written = (size_of call ≡ min written 1024) × ExpectsTag call
