-- the printed texts of numbers, tags, words, calls, replies, entries and what else an actor is told
use Rattle.std.specs.Prelude.{ℕ, ◌/◌, ◌%◌, ◌^◌, ◌<◌, List, [], ◌++◌, Bool, true, false, decimal, codes, flat_map}
use Rattle.std.specs.Int.{w64, to_be_bytes}
use Rattle.clover_words.specs.declared.word.Buffer.{Buffer}
use Rattle.clover_words.specs.declared.word.Word.{Word}
use Rattle.clover_words.specs.declared.word.Word.TheVariants as word
use Rattle.clover_words.specs.declared.word.Side.{Side}
use Rattle.clover_words.specs.declared.word.Side.TheVariants.{Current, Flushed}
use Rattle.clover_map.specs.declared.bytes.Value.{Value}
use Rattle.clover_map.specs.declared.call.Call.{Call}
use Rattle.clover_map.specs.declared.call.Call.TheVariants.{Get, Put, Delete, Swap}
use Rattle.clover_map.specs.declared.call.Reply.{Reply}
use Rattle.clover_map.specs.declared.call.Reply.TheVariants.{Stored, Found, Absent, Deleted, Differs}
use Rattle.clover_map.specs.declared.call.Entry.{Entry}
use Rattle.clover_script.specs.Coded.{coded, hex_byte}
use Rattle.clover_script.specs.declared.run_entry.RunEntry.{RunEntry}

-- node, index and generation of a tag's number
abbrev pub tag_text : ℕ → List ℕ
tag_text t = decimal (t / 2 ^ 36) ++ codes "." ++ decimal (t / 2 ^ 20 % 2 ^ 16) ++ codes "." ++ decimal (t % 2 ^ 20)

-- a word's number as sixteen digits of four bits, the highest first
abbrev pub hex_text : ℕ → List ℕ
hex_text n = flat_map hex_byte (to_be_bytes w64 n)

-- node and index of a buffer
abbrev pub buffer_text : Buffer → List ℕ
buffer_text b = decimal b.node ++ (codes "." ++ decimal b.index)

-- a buffer whose numbers are any that a name may have
abbrev pub IsNumberedBuffer : Buffer → Type 0
IsNumberedBuffer b = (b.node < 2 ^ 32) × (b.index < 2 ^ 32)

-- a word whose numbers are any that a name may have, whether or not a pool has it
abbrev pub IsNumbered : Word → Type 0
IsNumbered (word.Next b) = IsNumberedBuffer b
IsNumbered (word.Meta b) = IsNumberedBuffer b
IsNumbered (word.Value b k) = IsNumberedBuffer b × (k < 2 ^ 32)
IsNumbered (word.Root s) = s < 2 ^ 32
IsNumbered (word.Key s k) = (s < 2 ^ 32) × (k < 2 ^ 32)
IsNumbered (word.Short s) = s < 2 ^ 32
IsNumbered word.Count = Unit {0}

-- the name of a word's current copy
abbrev pub word_text : Word → List ℕ
word_text (word.Next b) = codes "N" ++ buffer_text b
word_text (word.Meta b) = codes "M" ++ buffer_text b
word_text (word.Value b k) = codes "V" ++ (buffer_text b ++ (codes "." ++ decimal k))
word_text (word.Root s) = codes "R" ++ decimal s
word_text (word.Key s k) = codes "K" ++ (decimal s ++ (codes "." ++ decimal k))
word_text (word.Short s) = codes "S" ++ decimal s
word_text word.Count = codes "C"

-- what stands before the name of a copy
abbrev pub side_text : Side → List ℕ
side_text Current = []
side_text Flushed = codes "f"

-- the name of a copy of a word
abbrev pub copy_text : Word → Side → List ℕ
copy_text w side = side_text side ++ word_text w

-- a value: an equals sign, and its bytes as a coded text
abbrev pub value_text : Value → List ℕ
value_text v = codes "=" ++ coded v.bytes

-- a reply: what it is, its tag, and the value that was found
abbrev pub reply_text : Reply → List ℕ
reply_text (Stored t) = codes "stored " ++ tag_text t
reply_text (Found t v) = codes "found " ++ tag_text t ++ codes " " ++ value_text v
reply_text Absent = codes "absent"
reply_text (Deleted t) = codes "deleted " ++ tag_text t
reply_text (Differs t) = codes "differs " ++ tag_text t

-- a call: what it is, its key, the tag that it expects, and its value
abbrev pub call_text : Call → List ℕ
call_text (Get k) = codes "get " ++ coded k
call_text (Put k v) = codes "put " ++ coded k ++ codes " " ++ value_text v
call_text (Delete k) = codes "delete " ++ coded k
call_text (Swap k e v) = codes "swap " ++ coded k ++ codes " " ++ tag_text e ++ codes " " ++ value_text v

-- an entry that a power cut took has a mark of its own
abbrev pub mark_text : Bool → List ℕ
mark_text true = codes "h "
mark_text false = codes "x "

-- the line of an entry of this run, which stands or does not
abbrev pub entry_line : ℕ → Bool → Entry → List ℕ
entry_line run stands e = mark_text stands ++ decimal run ++ codes " " ++ decimal e.client ++ codes " " ++ decimal e.number ++ codes " " ++ call_text e.call ++ codes " " ++ reply_text e.reply ++ codes "\n"

abbrev pub run_entry_line : RunEntry → List ℕ
run_entry_line x = entry_line x.run x.stands x.entry

-- the line of what an actor is told in place of an answer
abbrev pub told_line : ℕ → List ℕ → List ℕ
told_line actor text = decimal actor ++ (codes " " ++ (text ++ codes "\n"))

-- an access was refused
abbrev pub unreached_text : List ℕ
unreached_text = codes "unreached"

-- an access was refused after the write was made, under this tag
abbrev pub linked_text : ℕ → List ℕ
linked_text t = codes "linked " ++ tag_text t

-- after so many turns the call was still behind
abbrev pub behind_text : ℕ → List ℕ
behind_text turns = codes "behind " ++ decimal turns

-- the value has so many bytes, and a buffer has room for so many
abbrev pub too_long_text : ℕ → ℕ → List ℕ
too_long_text length room = codes "toolong " ++ (decimal length ++ (codes " " ++ decimal room))

-- the actor has a task
abbrev pub busy_text : List ℕ
busy_text = codes "busy"

-- there is no such actor
abbrev pub none_text : List ℕ
none_text = codes "none"
