-- the lines of a script: the pool line, and those behind it
use Rattle.std.specs.Prelude.{◌≡◌, ℕ, ◌^◌, ◌<◌, ◌≤◌, ◌==◌, ◌⊎◌, if◌then◌else◌, List, [], ◌∷◌, ◌++◌, length, take, decimal, codes, All, IsSome}
use Rattle.clover_words.specs.declared.setup.Setup.{Setup}
use Rattle.clover_words.specs.Pack.{AreBytes}
use Rattle.clover_words.specs.Range.{first_fault, first_setup_fault}
use Rattle.clover_map.specs.Key.{IsKey}
use Rattle.clover_map.specs.declared.bytes.Value.{Value}
use Rattle.clover_map.specs.declared.call.Call.{Call}
use Rattle.clover_map.specs.declared.call.Call.TheVariants.{Get, Put, Delete, Swap}
use Rattle.clover_script.specs.declared.line.PoolLine.{PoolLine}
use Rattle.clover_script.specs.declared.line.Task.{Task}
use Rattle.clover_script.specs.declared.line.Task.TheVariants.{Client, Recycle, Sweep}
use Rattle.clover_script.specs.declared.line.Line.{Line}
use Rattle.clover_script.specs.declared.line.Line.TheVariants as kept
use Rattle.clover_script.specs.declared.choice.Choice.{Choice}
use Rattle.clover_script.specs.Choice.{IsChoice, choice_text, IsFurtherCut, cut_text}
use Rattle.clover_script.specs.Text.{call_text}

-- the first element put in front of the first list
abbrev pub with_front : ℕ → List (List ℕ) → List (List ℕ)
with_front b [] = (b ∷ []) ∷ []
with_front b (l ∷ ls) = (b ∷ l) ∷ ls

-- the lines of a text, each ended by LF, which the last may lack
abbrev pub lines_of : List ℕ → List (List ℕ)
lines_of [] = []
lines_of (b ∷ bs) = if b == 10 then [] ∷ lines_of bs else with_front b (lines_of bs)

-- each number is one that a script can write
pub record AreNumbers (n : PoolLine) : Type 0 where
  pub nodes : n.nodes < 2 ^ 64
  pub buffers : n.buffers < 2 ^ 64
  pub slots : n.slots < 2 ^ 64
  pub words : n.words < 2 ^ 64
  pub wear : n.wear < 2 ^ 64
  pub clients : n.clients < 2 ^ 64
  pub batch : n.batch < 2 ^ 64

-- the pool line of these numbers
abbrev pub pool_line : PoolLine → List ℕ
pool_line n =
    codes "pool nodes=" ++ decimal n.nodes ++ codes " buffers=" ++ decimal n.buffers ++ codes " slots=" ++ decimal n.slots
    ++ codes " words=" ++ decimal n.words ++ codes " wear=" ++ decimal n.wear ++ codes " clients=" ++ decimal n.clients ++ codes " batch=" ++ decimal n.batch

-- the numbers of a setup
abbrev pub numbers_of : Setup → PoolLine
numbers_of s = record {
  nodes = s.pool.nodes;
  buffers = s.pool.buffers;
  slots = s.pool.slots;
  words = s.pool.words;
  wear = s.pool.wear;
  clients = s.clients;
  batch = s.batch;
}

-- the text is a pool line, whether or not its numbers are in their ranges
abbrev pub IsPoolLine : List ℕ → Type 0
IsPoolLine line = (n : PoolLine) × AreNumbers n × (line ≡ pool_line n)

-- a number of the pool line is out of range
abbrev pub HasBadNumbers : PoolLine → Type 0
HasBadNumbers n =
    IsSome (first_fault n.nodes n.buffers n.slots n.words n.wear) ⊎ IsSome (first_setup_fault n.clients n.batch)

-- the text is a pool line that opens no script
abbrev pub IsBadPool : List ℕ → Type 0
IsBadPool line = (n : PoolLine) × AreNumbers n × (line ≡ pool_line n) × HasBadNumbers n

-- a value as a script may have it: flags 0, and up to 65,535 bytes
abbrev pub IsWritten : Value → Type 0
IsWritten v = (v.flags ≡ 0) × (length v.bytes ≤ 65535) × AreBytes v.bytes

-- a call that a client may be asked for, with its value as it is written
abbrev pub IsClientCall : Call → Type 0
IsClientCall (Get k) = IsKey k
IsClientCall (Put k v) = IsKey k × IsWritten v
IsClientCall (Delete k) = IsKey k
IsClientCall (Swap k e v) = IsKey k × (e < 2 ^ 42) × IsWritten v

-- the length of the value that a call writes
abbrev pub written : Call → ℕ
written (Get k) = 0
written (Put k v) = length v.bytes
written (Delete k) = 0
written (Swap k e v) = length v.bytes

-- a value without the bytes behind the first 1,024
abbrev pub cut_value : Value → Value
cut_value v = record { flags = v.flags; bytes = take 1024 v.bytes }

-- a call whose value is cut so
abbrev pub cut_call : Call → Call
cut_call (Get k) = Get k
cut_call (Put k v) = Put k (cut_value v)
cut_call (Delete k) = Delete k
cut_call (Swap k e v) = Swap k e (cut_value v)

-- a call as the reader keeps it: its value cut, and the whole length beside it
abbrev pub task_of : Call → Task
task_of call = Client (cut_call call) (written call)

-- an actor as a line may name it: a client's number, or 0, the recycler's
abbrev pub IsActor : ℕ → Type 0
IsActor a = a ≤ 16

-- a slot as a line may name it
abbrev pub IsSlot : ℕ → Type 0
IsSlot slot = slot ≤ 16383

-- how many steps a line may ask for
abbrev pub AreTimes : ℕ → Type 0
AreTimes n = (1 ≤ n) × (n ≤ 1000000)

-- a task as it is written, with its value whole
pub data Asked : Type 0 where
  client : Call → Asked
  recycle : ℕ → Asked
  sweep : Asked

-- the actor may be asked for the task: a client for a call, and the recycler for the others
abbrev pub IsAsked : ℕ → Asked → Type 0
IsAsked a (client call) = (1 ≤ a) × (a ≤ 16) × IsClientCall call
IsAsked a (recycle slot) = (a ≡ 0) × IsSlot slot
IsAsked a sweep = a ≡ 0

-- the text of a task
abbrev pub asked_text : Asked → List ℕ
asked_text (client call) = call_text call
asked_text (recycle slot) = codes "recycle " ++ decimal slot
asked_text sweep = codes "sweep"

-- a task as the reader keeps it
abbrev pub kept_task : Asked → Task
kept_task (client call) = task_of call
kept_task (recycle slot) = Recycle slot
kept_task sweep = Sweep

-- a line behind the pool line as it is written: an actor and what is asked of it, a power cut, or an image that is shown
pub data Spoken : Type 0 where
  says_begin : ℕ → Asked → Spoken
  says_step : ℕ → ℕ → Spoken
  says_finish : ℕ → Spoken
  says_call : ℕ → Asked → Spoken
  says_refuse : ℕ → Spoken
  says_cut : Choice → List (ℕ × Choice) → Spoken
  says_image : Choice → Spoken

-- each part is in its range
abbrev pub IsSpoken : Spoken → Type 0
IsSpoken (says_begin a asked) = IsAsked a asked
IsSpoken (says_step a n) = IsActor a × AreTimes n
IsSpoken (says_finish a) = IsActor a
IsSpoken (says_call a asked) = IsAsked a asked
IsSpoken (says_refuse a) = IsActor a
IsSpoken (says_cut choice more) = IsChoice choice × All IsFurtherCut more
IsSpoken (says_image choice) = IsChoice choice

-- the text of a line, without the LF that ends it
abbrev pub line_text : Spoken → List ℕ
line_text (says_begin a asked) = codes "begin " ++ (decimal a ++ (codes " " ++ asked_text asked))
line_text (says_step a n) = codes "step " ++ (decimal a ++ (codes " " ++ decimal n))
line_text (says_finish a) = codes "finish " ++ decimal a
line_text (says_call a asked) = codes "call " ++ (decimal a ++ (codes " " ++ asked_text asked))
line_text (says_refuse a) = codes "refuse " ++ decimal a
line_text (says_cut choice more) = codes "cut " ++ cut_text choice more
line_text (says_image choice) = codes "image " ++ choice_text choice

-- a line that asks for a power cut, or for the image that one would leave
abbrev pub IsOfCuts : Spoken → Type 0
IsOfCuts (says_cut choice more) = Unit {0}
IsOfCuts (says_image choice) = Unit {0}
IsOfCuts spoken = ⊥

-- the text is such a line
abbrev pub IsLineOfCuts : List ℕ → Type 0
IsLineOfCuts text = (spoken : Spoken) × IsOfCuts spoken × IsSpoken spoken × (text ≡ line_text spoken)

-- a line as the reader keeps it
abbrev pub kept_line : Spoken → Line
kept_line (says_begin a asked) = kept.Begin a (kept_task asked)
kept_line (says_step a n) = kept.Step a n
kept_line (says_finish a) = kept.Finish a
kept_line (says_call a asked) = kept.Call a (kept_task asked)
kept_line (says_refuse a) = kept.Refuse a
kept_line (says_cut choice more) = kept.Cut choice more
kept_line (says_image choice) = kept.Image choice

-- the text is a line behind the pool line, which is kept so
abbrev pub IsLineOf : List ℕ → Line → Type 0
IsLineOf text line = (spoken : Spoken) × IsSpoken spoken × (text ≡ line_text spoken) × (line ≡ kept_line spoken)

-- the text is no line behind the pool line
abbrev pub IsNoLine : List ℕ → Type 0
IsNoLine text = (spoken : Spoken) → IsSpoken spoken → text ≡ line_text spoken → ⊥

-- a line that is passed over: it is empty, or begins with the byte of a hash
abbrev pub IsIgnored : List ℕ → Type 0
IsIgnored line = (line ≡ []) ⊎ ((rest : List ℕ) × (line ≡ 35 ∷ rest))
