-- what a text spells, with a key, a value and names that are not decoded: what its parts say where these stand for certain bytes and words, and which parts a text has
use Rattle.std.specs.Prelude.{◌≡◌, ℕ, List, ◌∷◌, ◌++◌, length, decimal}
use Rattle.clover_map.specs.Key.{IsKey}
use Rattle.clover_map.specs.declared.bytes.Value.{Value}
use Rattle.clover_map.specs.declared.call.Call.{Call}
use Rattle.clover_map.specs.declared.call.Call.TheVariants.{Get, Put, Delete, Swap}
use Rattle.clover_script.specs.declared.spelled.KeyText.{KeyText}
use Rattle.clover_script.specs.declared.spelled.ValueText.{ValueText}
use Rattle.clover_script.specs.declared.spelled.CallText.{CallText}
use Rattle.clover_script.specs.declared.spelled.CallText.TheVariants as spelled
use Rattle.clover_script.specs.declared.spelled.TaskText.{TaskText}
use Rattle.clover_script.specs.declared.spelled.TaskText.TheVariants.{Client, Recycle, Sweep}
use Rattle.clover_script.specs.declared.spelled.LineText.{LineText}
use Rattle.clover_script.specs.declared.choice.Choice.{Choice}
use Rattle.clover_script.specs.declared.spelled.LineText.TheVariants.{Begin, Step, Finish, Call as Calls, Refuse, Cut, Image}
use Rattle.clover_script.specs.Choice.{HasChoice, HasCuts}
use Rattle.clover_script.specs.Coded.{coded}
use Rattle.clover_script.specs.Text.{call_text}
use Rattle.clover_script.specs.Line.{IsWritten, IsClientCall, Asked, client, recycle, sweep, IsAsked, asked_text, Spoken, says_begin, says_step, says_finish, says_call, says_refuse, says_cut, says_image, IsSpoken, IsOfCuts, line_text}

-- the text spells a key of these bytes, and their number stands beside it
abbrev pub IsKeyText : KeyText → List ℕ → Type 0
IsKeyText k key = IsKey key × (k.text.now ≡ coded key) × (k.length ≡ length key)

-- the value of these bytes
abbrev pub value_with : List ℕ → Value
value_with bytes = record { flags = 0; bytes = bytes }

-- the text spells a value of these bytes, and their number stands beside it
abbrev pub IsValueText : ValueText → List ℕ → Type 0
IsValueText v bytes = IsWritten (value_with bytes) × (v.text.now ≡ coded bytes) × (v.written ≡ length bytes)

-- the call of these parts, where its key and its value have these bytes
abbrev pub call_said : CallText → List ℕ → List ℕ → Call
call_said (spelled.Get k) key value = Get key
call_said (spelled.Put k v) key value = Put key (value_with value)
call_said (spelled.Delete k) key value = Delete key
call_said (spelled.Swap k e v) key value = Swap key e (value_with value)

-- the key of the call and its value, if it has one, are spelled so
abbrev pub HasBytes : CallText → List ℕ → List ℕ → Type 0
HasBytes (spelled.Get k) key value = IsKeyText k key
HasBytes (spelled.Put k v) key value = IsKeyText k key × IsValueText v value
HasBytes (spelled.Delete k) key value = IsKeyText k key
HasBytes (spelled.Swap k e v) key value = IsKeyText k key × IsValueText v value

-- the task of these parts, where the key and the value in it have these bytes
abbrev pub asked_said : TaskText → List ℕ → List ℕ → Asked
asked_said (Client call) key value = client (call_said call key value)
asked_said (Recycle slot) key value = recycle slot
asked_said Sweep key value = sweep

-- the key and the value in the task, if there are any, are spelled so
abbrev pub HasTaskBytes : TaskText → List ℕ → List ℕ → Type 0
HasTaskBytes (Client call) key value = HasBytes call key value
HasTaskBytes (Recycle slot) key value = Unit {0}
HasTaskBytes Sweep key value = Unit {0}

-- the task of these parts, with some key and some value that are spelled so
abbrev pub SaysTask : TaskText → Asked → Type 0
SaysTask task asked = (key : List ℕ) × (value : List ℕ) × HasTaskBytes task key value × (asked ≡ asked_said task key value)

-- the line has these parts
abbrev pub Says : LineText → Spoken → Type 0
Says (Begin a task) spoken = (asked : Asked) × SaysTask task asked × (spoken ≡ says_begin a asked)
Says (Step a n) spoken = spoken ≡ says_step a n
Says (Finish a) spoken = spoken ≡ says_finish a
Says (Calls a task) spoken = (asked : Asked) × SaysTask task asked × (spoken ≡ says_call a asked)
Says (Refuse a) spoken = spoken ≡ says_refuse a
Says (Cut parts) spoken = (choice : Choice) × (more : List (ℕ × Choice)) × HasCuts parts choice more × (spoken ≡ says_cut choice more)
Says (Image parts) spoken = (choice : Choice) × HasChoice parts choice × (spoken ≡ says_image choice)

-- the text spells a call, and has these parts
abbrev pub SpellsCall : List ℕ → CallText → Type 0
SpellsCall text parts = (key : List ℕ) × (value : List ℕ) × HasBytes parts key value × IsClientCall (call_said parts key value) × (text ≡ call_text (call_said parts key value))

-- the text spells no call
abbrev pub SpellsNoCall : List ℕ → Type 0
SpellsNoCall text = (call : Call) → IsClientCall call → text ≡ call_text call → ⊥

-- the text spells something that the actor is asked for, and has these parts
abbrev pub SpellsTask : ℕ → List ℕ → TaskText → Type 0
SpellsTask a text parts = (key : List ℕ) × (value : List ℕ) × HasTaskBytes parts key value × IsAsked a (asked_said parts key value) × (text ≡ asked_text (asked_said parts key value))

-- the text spells nothing that the actor is asked for
abbrev pub SpellsNoTask : ℕ → List ℕ → Type 0
SpellsNoTask a text = (asked : Asked) → IsAsked a asked → text ≡ asked_text asked → ⊥

-- the text spells an actor and something that it is asked for, which has these parts
abbrev pub SpellsAsked : List ℕ → ℕ → TaskText → Type 0
SpellsAsked text a parts =
    (key : List ℕ) × (value : List ℕ) × HasTaskBytes parts key value × IsAsked a (asked_said parts key value) × (text ≡ decimal a ++ 32 ∷ asked_text (asked_said parts key value))

-- the text spells no actor with something that it is asked for
abbrev pub SpellsNothingAsked : List ℕ → Type 0
SpellsNothingAsked text = (a : ℕ) (asked : Asked) → IsAsked a asked → text ≡ decimal a ++ 32 ∷ asked_text asked → ⊥

-- the text is a line behind the pool line, and has these parts
abbrev pub SpellsLine : List ℕ → LineText → Type 0
SpellsLine text parts = (spoken : Spoken) × IsSpoken spoken × Says parts spoken × (text ≡ line_text spoken)

-- a line that asks for no task
abbrev pub IsTaskless : Spoken → Type 0
IsTaskless (says_begin a asked) = ⊥
IsTaskless (says_call a asked) = ⊥
IsTaskless spoken = Unit {0}

-- the text is no line without a task
abbrev pub IsNoTasklessLine : List ℕ → Type 0
IsNoTasklessLine text = (spoken : Spoken) → IsTaskless spoken → IsSpoken spoken → text ≡ line_text spoken → ⊥

-- the text is a line of power cuts, and has these parts
abbrev pub SpellsLineOfCuts : List ℕ → LineText → Type 0
SpellsLineOfCuts text parts = (spoken : Spoken) × IsOfCuts spoken × IsSpoken spoken × Says parts spoken × (text ≡ line_text spoken)

-- the text is no line of power cuts
abbrev pub IsNoLineOfCuts : List ℕ → Type 0
IsNoLineOfCuts text = (spoken : Spoken) → IsOfCuts spoken → IsSpoken spoken → text ≡ line_text spoken → ⊥
