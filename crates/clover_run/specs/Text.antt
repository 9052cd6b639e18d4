-- The printed text of a run: the lines of each record, and at the end the history and the number of accesses.
use Rattle.std.specs.Prelude.{ℕ, List, [], ◌++◌, Bool, true, decimal, codes, flat_map}
use Rattle.clover_words.specs.Tag.{TagParts, tag_number}
use Rattle.clover_alloc.specs.Batch.{tags_of}
use Rattle.clover_script.specs.Text.{tag_text, reply_text, told_line, unreached_text, busy_text, none_text}
use Rattle.clover_event.specs.Text.{ending, refusal_text, traced}
use Rattle.clover_run.specs.Folds.{entries_in, made_after}
use Rattle.clover_run.specs.Record.{Record}
use Rattle.clover_run.specs.declared.event.Note.{Note}
use Rattle.clover_run.specs.declared.event.Note.TheVariants.{Quiet, Waits, Answered, Refused, Full, NoSlot, Granted, Recycled, Unlinked, Unbound, Swept, Unreached, Busy, Missing}

-- no buffer is free: so many are bound, worn, and handed out
abbrev pub full_text : ℕ → ℕ → ℕ → List ℕ
full_text bound worn out = codes "full " ++ (decimal bound ++ (codes " " ++ (decimal worn ++ (codes " " ++ decimal out))))

-- the recycler has recycled the version of this tag, and its sweep has ended with so many
abbrev pub recycled_text : ℕ → List ℕ
recycled_text t = codes "recycled " ++ tag_text t

abbrev pub swept_text : ℕ → List ℕ
swept_text n = codes "swept " ++ decimal n

-- the line of what an event came to, where it has one; the recycler is actor 0
abbrev pub note_line : Note → List ℕ
note_line Quiet = []
note_line Waits = []
note_line (Answered c r) = told_line c (reply_text r)
note_line (Refused c y) = told_line c (refusal_text y)
note_line (Full c bound worn out) = told_line c (full_text bound worn out)
note_line (NoSlot c) = told_line c (codes "noslot")
note_line (Granted c names) = []
note_line (Recycled old) = told_line 0 (recycled_text (tag_number old))
note_line Unlinked = told_line 0 (codes "unlinked")
note_line Unbound = told_line 0 (codes "unbound")
note_line (Swept count) = told_line 0 (swept_text count)
note_line Unreached = told_line 0 unreached_text
note_line (Busy a) = told_line a busy_text
note_line (Missing a) = told_line a none_text

-- the tags of a batch, each behind a space
abbrev pub spaced_tag : TagParts → List ℕ
spaced_tag t = codes " " ++ tag_text (tag_number t)

-- the line of a grant: the number of new names, and the batch's tags
abbrev pub grant_line : ℕ → List TagParts → ℕ → List ℕ
grant_line c tags names = codes "g " ++ (decimal c ++ (codes " " ++ (decimal names ++ (flat_map spaced_tag tags ++ codes "\n"))))

-- with the trace, a grant has its line; the tags are those that were handed out last
abbrev pub granted : Bool → List TagParts → Note → List ℕ
granted true tags (Granted c names) = grant_line c tags names
granted trace tags note = []

abbrev pub noted : Bool → List TagParts → Note → List ℕ
noted trace tags note = granted trace tags note ++ note_line note

-- with the trace, the line of the access stands before
abbrev pub said : Bool → Record → List ℕ
said trace r = traced trace r.access ++ noted trace (tags_of r.served.batch) r.note

-- the text of some records, behind so many accesses before them
abbrev pub text : Bool → ℕ → List Record → List ℕ
text trace made rs = flat_map (said trace) rs ++ ending (entries_in rs) (made_after made rs)
