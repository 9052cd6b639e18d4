-- The printed text of a run: the lines of each record, and at the end the history and the number of accesses.
use Rattle.std.specs.Prelude.{ℕ, List, [], ◌++◌, Bool, true, false, decimal, codes, flat_map, Option, Some}
use Rattle.clover_words.specs.declared.word.Word.{Word}
use Rattle.clover_words.specs.declared.word.Side.TheVariants.{Current, Flushed}
use Rattle.clover_map.specs.declared.call.Entry.{Entry}
use Rattle.clover_script.specs.Text.{hex_text, copy_text, reply_text, entry_line, told_line, unreached_text, linked_text, behind_text, too_long_text, busy_text, none_text}
use Rattle.clover_rule.specs.declared.access.Access.{Access}
use Rattle.clover_rule.specs.declared.access.Act.{Act}
use Rattle.clover_rule.specs.declared.access.Act.TheVariants.{Load, Store, Exchange, Raise}
use Rattle.clover_rule.specs.declared.access.Actor.{Actor}
use Rattle.clover_rule.specs.declared.access.Actor.TheVariants.{Client, Server, Restart}
use Rattle.clover_event.specs.declared.event.CallRefusal.{CallRefusal}
use Rattle.clover_event.specs.declared.event.CallRefusal.TheVariants.{Unreached, Linked, Behind, TooLong}
use Rattle.clover_event.specs.declared.event.Note.{Note}
use Rattle.clover_event.specs.declared.event.Note.TheVariants.{Quiet, Answered, Refused, Busy, Missing}

abbrev pub actor_text : Actor → List ℕ
actor_text (Client n) = decimal n
actor_text Server = codes "s"
actor_text Restart = codes "r"

-- a number that an access was given
abbrev pub operand_text : ℕ → List ℕ
operand_text x = codes " " ++ hex_text x

abbrev pub exchange_text : Word → ℕ → ℕ → List ℕ
exchange_text w expected new = codes "exchange " ++ (copy_text w Current ++ (operand_text expected ++ operand_text new))

-- what an access did, and to which word
abbrev pub act_text : Act → List ℕ
act_text (Load w got) = codes "load " ++ copy_text w Current
act_text (Store w side value) = codes "store " ++ (copy_text w side ++ operand_text value)
act_text (Exchange w expected new old) = exchange_text w expected new
act_text (Raise w value old) = codes "raise " ++ (copy_text w Flushed ++ operand_text value)

-- a number that came back
abbrev pub back_text : ℕ → List ℕ
back_text x = codes " = " ++ hex_text x

-- what came back; of a refused access nothing did
abbrev pub came_text : Bool → Act → List ℕ
came_text true act = codes " refused"
came_text false (Load w got) = back_text got
came_text false (Store w side value) = []
came_text false (Exchange w expected new old) = back_text old
came_text false (Raise w value old) = back_text old

abbrev pub access_line : Access → List ℕ
access_line x = codes "a " ++ (actor_text x.actor ++ (codes " " ++ (act_text x.act ++ (came_text x.refused x.act ++ codes "\n"))))

abbrev pub refusal_text : CallRefusal → List ℕ
refusal_text Unreached = unreached_text
refusal_text (Linked t) = linked_text t
refusal_text (Behind n) = behind_text n
refusal_text (TooLong length room) = too_long_text length room

-- the line of what an event came to, where it has one
abbrev pub note_line : Note → List ℕ
note_line Quiet = []
note_line (Answered c r) = told_line c (reply_text r)
note_line (Refused c y) = told_line c (refusal_text y)
note_line (Busy a) = told_line a busy_text
note_line (Missing a) = told_line a none_text

-- with the trace, the line of the access stands before
abbrev pub traced : Bool → Option Access → List ℕ
traced true (Some x) = access_line x
traced trace o = []

-- what stands behind the last record's lines
abbrev pub ending : List Entry → ℕ → List ℕ
ending h n = codes "history\n" ++ (flat_map (entry_line 1 true) h ++ (codes "accesses " ++ (decimal n ++ codes "\nend\n")))
