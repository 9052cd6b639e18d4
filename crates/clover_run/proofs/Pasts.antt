-- One record behind some others: what each fold makes of it, and that a run goes on.
use Rattle.std.proofs.Common.{◌≡◌, ◌≢◌, ℕ, List, [], ◌∷◌, ◌++◌, Bool, refl, sym, ap, ◌∙◌, subst, eq-eqb, ne_eqb, append_assoc, append-nil, option_to_list, fold}
use Rattle.std.specs.Prelude.{if◌then◌else◌, Option, Some, None}
use Rattle.std.proofs.lemmas.List.Sums.{fold-append}
use Rattle.clover_words.specs.declared.pool.Pool.{Pool}
use Rattle.clover_map.specs.History.{key_of}
use Rattle.clover_map.specs.declared.call.Entry.{Entry}
use Rattle.clover_map.specs.declared.call.Reply.{Reply}
use Rattle.clover_script.specs.declared.line.Task.{Task}
use Rattle.clover_script.specs.declared.line.Task.TheVariants.{Client as ClientTask, Recycle, Sweep}
use Rattle.clover_rule.specs.declared.access.Access.{Access}
use Rattle.clover_event.specs.Folds.{words_by, made_by, actor_of}
use Rattle.clover_run.specs.Ends.{with_end, end_tags, ended_by, ended_from, ended}
use Rattle.clover_run.specs.Folds.{Doing, nothing, accesses_in, entries_in, words_after, made_after, served_after, does, does_of, doing}
use Rattle.clover_run.specs.Record.{Record}
use Rattle.clover_run.specs.Run.{Opening, Follows, GoesOn}
use Rattle.clover_run.specs.declared.served.Served.{Served}
use Rattle.clover_run.specs.declared.event.Note.{Note}
use Rattle.clover_run.specs.declared.event.Note.TheVariants.{Quiet, Waits, Answered, Refused, Full, NoSlot, Granted, Recycled, Unlinked, Unbound, Swept, Unreached, Busy, Missing}

pub accesses_more : (rs : List Record) (r : Record) → accesses_in (rs ++ r ∷ []) ≡ accesses_in rs ++ option_to_list r.access
accesses_more [] r = append-nil (option_to_list r.access)
accesses_more (x ∷ xs) r = ap (λ (l : List Access). option_to_list x.access ++ l) (accesses_more xs r) ∙ sym (append_assoc (option_to_list x.access) (accesses_in xs) (option_to_list r.access))

pub entries_more : (rs : List Record) (r : Record) → entries_in (rs ++ r ∷ []) ≡ entries_in rs ++ option_to_list r.entry
entries_more [] r = append-nil (option_to_list r.entry)
entries_more (x ∷ xs) r = ap (λ (l : List Entry). option_to_list x.entry ++ l) (entries_more xs r) ∙ sym (append_assoc (option_to_list x.entry) (entries_in xs) (option_to_list r.entry))

pub words_more : (p : Pool) (ws : List ℕ) (rs : List Record) (r : Record) → words_after p ws (rs ++ r ∷ []) ≡ words_by p (words_after p ws rs) r.access
words_more p ws rs r = fold-append (λ (w : List ℕ) (x : Record). words_by p w x.access) ws rs (r ∷ [])

pub made_more : (n : ℕ) (rs : List Record) (r : Record) → made_after n (rs ++ r ∷ []) ≡ made_by (made_after n rs) r.access
made_more n rs r = fold-append (λ (m : ℕ) (x : Record). made_by m x.access) n rs (r ∷ [])

pub served_more : (v : Served) (rs : List Record) (r : Record) → served_after v (rs ++ r ∷ []) ≡ r.served
served_more v rs r = fold-append (λ (w : Served) (x : Record). x.served) v rs (r ∷ [])

pub goes_more : (o : Opening) (before rs : List Record) (r : Record) → GoesOn o before rs → Follows o (before ++ rs) r → GoesOn o before (rs ++ r ∷ [])
goes_more o before [] r g f = (subst (λ (l : List Record). Follows o l r) (append-nil before) f, tt)
goes_more o before (x ∷ xs) r g f = (g.0, goes_more o (before ++ x ∷ []) xs r g.1 (subst (λ (l : List Record). Follows o l r) (sym (append_assoc before (x ∷ []) xs)) f))

-- the actor of the record does what it says, and any other one nothing
pub doing_own : (a : ℕ) (rs : List Record) (r : Record) → actor_of r.event ≡ a → doing a (rs ++ r ∷ []) ≡ does (doing a rs) r r.event
doing_own a rs r e = fold-append (does_of a) _ rs (r ∷ []) ∙ ap (λ (b : Bool). if b then does (doing a rs) r r.event else doing a rs) (eq-eqb (actor_of r.event) a e)

pub doing_other : (a : ℕ) (rs : List Record) (r : Record) → actor_of r.event ≢ a → doing a (rs ++ r ∷ []) ≡ doing a rs
doing_other a rs r e = fold-append (does_of a) _ rs (r ∷ []) ∙ ap (λ (b : Bool). if b then does (doing a rs) r r.event else doing a rs) (ne_eqb (actor_of r.event) a e)

-- a client's answered calls: one more where the record answers its call
ended_from_more : (c : ℕ) (d : Doing) (h : List (List ℕ × ℕ)) (rs : List Record) (r : Record) → ended_from c d h (rs ++ r ∷ []) ≡ ended_by c (fold (does_of c) d rs).task r.note r.access (ended_from c d h rs)
ended_from_more c d h [] r = refl
ended_from_more c d h (x ∷ xs) r = ended_from_more c (does_of c d x) (ended_by c d.task x.note x.access h) xs r

pub ended_more : (c : ℕ) (rs : List Record) (r : Record) → ended c (rs ++ r ∷ []) ≡ ended_by c (doing c rs).task r.note r.access (ended c rs)
ended_more c rs r = ended_from_more c nothing [] rs r

-- a note that answers nothing ends no call
pub ended_unanswered : (c : ℕ) (task : Option Task) (note : Note) (x : Option Access) (h : List (List ℕ × ℕ)) → ((b : ℕ) (reply : Reply) → note ≡ Answered b reply → ⊥) → ended_by c task note x h ≡ h
ended_unanswered c None note x h none = refl
ended_unanswered c (Some (Recycle slot)) note x h none = refl
ended_unanswered c (Some Sweep) note x h none = refl
ended_unanswered c (Some (ClientTask call n)) Quiet x h none = refl
ended_unanswered c (Some (ClientTask call n)) Waits x h none = refl
ended_unanswered c (Some (ClientTask call n)) (Answered b reply) x h none = absurd (none b reply refl)
ended_unanswered c (Some (ClientTask call n)) (Refused b why) x h none = refl
ended_unanswered c (Some (ClientTask call n)) (Full b bound worn out) x h none = refl
ended_unanswered c (Some (ClientTask call n)) (NoSlot b) x h none = refl
ended_unanswered c (Some (ClientTask call n)) (Granted b names) x h none = refl
ended_unanswered c (Some (ClientTask call n)) (Recycled old) x h none = refl
ended_unanswered c (Some (ClientTask call n)) Unlinked x h none = refl
ended_unanswered c (Some (ClientTask call n)) Unbound x h none = refl
ended_unanswered c (Some (ClientTask call n)) (Swept count) x h none = refl
ended_unanswered c (Some (ClientTask call n)) Unreached x h none = refl
ended_unanswered c (Some (ClientTask call n)) (Busy b) x h none = refl
ended_unanswered c (Some (ClientTask call n)) (Missing b) x h none = refl

-- where no access was made no call ended
pub ended_still : (c : ℕ) (task : Option Task) (note : Note) (h : List (List ℕ × ℕ)) → ended_by c task note None h ≡ h
ended_still c None note h = refl
ended_still c (Some (Recycle slot)) note h = refl
ended_still c (Some Sweep) note h = refl
ended_still c (Some (ClientTask call n)) Quiet h = refl
ended_still c (Some (ClientTask call n)) Waits h = refl
ended_still c (Some (ClientTask call n)) (Answered b reply) h = refl
ended_still c (Some (ClientTask call n)) (Refused b why) h = refl
ended_still c (Some (ClientTask call n)) (Full b bound worn out) h = refl
ended_still c (Some (ClientTask call n)) (NoSlot b) h = refl
ended_still c (Some (ClientTask call n)) (Granted b names) h = refl
ended_still c (Some (ClientTask call n)) (Recycled old) h = refl
ended_still c (Some (ClientTask call n)) Unlinked h = refl
ended_still c (Some (ClientTask call n)) Unbound h = refl
ended_still c (Some (ClientTask call n)) (Swept count) h = refl
ended_still c (Some (ClientTask call n)) Unreached h = refl
ended_still c (Some (ClientTask call n)) (Busy b) h = refl
ended_still c (Some (ClientTask call n)) (Missing b) h = refl

-- who is answered by the note is this client
abbrev pub AnswersOnly : ℕ → Note → Type 0
AnswersOnly a note = (b : ℕ) (reply : Reply) → note ≡ Answered b reply → b ≡ a

-- an answer to one client ends no other one's call
pub ended_other : (c a : ℕ) (task : Option Task) (note : Note) (x : Option Access) (h : List (List ℕ × ℕ)) → AnswersOnly a note → a ≢ c → ended_by c task note x h ≡ h
ended_other c a task note x h only apart = go task note x only
  where
    go : (t : Option Task) (n : Note) (y : Option Access) → AnswersOnly a n → ended_by c t n y h ≡ h
    go None n y only = refl
    go (Some (Recycle slot)) n y only = refl
    go (Some Sweep) n y only = refl
    go (Some (ClientTask call k)) n None only = ended_still c (Some (ClientTask call k)) n h
    go (Some (ClientTask call k)) (Answered b reply) (Some y) only = ap (λ (z : Bool). if z then with_end (key_of call) (end_tags reply y.act) h else h) (ne_eqb b c (λ e. apart (sym (only b reply refl) ∙ e)))
    go (Some (ClientTask call k)) Quiet (Some y) only = refl
    go (Some (ClientTask call k)) Waits (Some y) only = refl
    go (Some (ClientTask call k)) (Refused b why) (Some y) only = refl
    go (Some (ClientTask call k)) (Full b bound worn out) (Some y) only = refl
    go (Some (ClientTask call k)) (NoSlot b) (Some y) only = refl
    go (Some (ClientTask call k)) (Granted b names) (Some y) only = refl
    go (Some (ClientTask call k)) (Recycled old) (Some y) only = refl
    go (Some (ClientTask call k)) Unlinked (Some y) only = refl
    go (Some (ClientTask call k)) Unbound (Some y) only = refl
    go (Some (ClientTask call k)) (Swept count) (Some y) only = refl
    go (Some (ClientTask call k)) Unreached (Some y) only = refl
    go (Some (ClientTask call k)) (Busy b) (Some y) only = refl
    go (Some (ClientTask call k)) (Missing b) (Some y) only = refl
