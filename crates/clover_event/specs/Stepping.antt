-- One step of a client: what the access of its node told, what the run makes of the turn, and the entry that it enters.
use Prim.Native.Nat.{suc}
use Rattle.std.specs.Prelude.{◌≡◌, ℕ, [], ◌∷◌, ◌++◌, false, true, Option, Some, None}
use Rattle.clover_words.specs.declared.bytes.ValueBuf.{ValueBuf}
use Rattle.clover_words.specs.Tag.{tag_number}
use Rattle.clover_map.specs.declared.bytes.Value.{Value}
use Rattle.clover_map.specs.declared.call.Call.{Call}
use Rattle.clover_map.specs.declared.call.Entry.{Entry}
use Rattle.clover_map.specs.declared.call.Reply.{Reply}
use Rattle.clover_rule.specs.Steps.{Step, act_of}
use Rattle.clover_port.specs.Told.{Made}
use Rattle.clover_plain.specs.Plain.{Plain, KeptButEntries, Refused as RefusedAt, Same, Stepped, open_of, view_at}
use Rattle.clover_get.specs.Getting.{value_in}
use Rattle.clover_call.specs.declared.answer.Answer.{Answer}
use Rattle.clover_call.specs.declared.answer.Answer.TheVariants.{Found}
use Rattle.clover_call.specs.declared.answer.CallerRefusal.{CallerRefusal}
use Rattle.clover_call.specs.declared.answer.CallerRefusal.TheVariants as node
use Rattle.clover_call.specs.declared.answer.CallerTurn.{CallerTurn}
use Rattle.clover_call.specs.declared.answer.CallerTurn.TheVariants.{More, Decided, Done, Refused}
use Rattle.clover_call.specs.Going.{GoesOn, IsDue, Stays, Went}
use Rattle.clover_call.specs.Caller.{CallerHolds, copied_flags, is_first, next_step}
use Rattle.clover_call.specs.Turning.{OnMade, OnRefused, reply_in}

-- where a value was found this is it
abbrev pub IsValueOf : Answer → Option Value → ValueBuf → Type 0
IsValueOf (Found t f) o room = o ≡ Some (value_in f room)
IsValueOf a o room = Unit {0}

-- the entry of a client's call behind so many of its entries
abbrev pub next_entry : ℕ → ℕ → Call → Reply → Entry
next_entry c n call reply = record { client = c; number = suc n; call = call; reply = reply }
