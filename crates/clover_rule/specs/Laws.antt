-- The laws that the crate's functions promise.
use Rattle.std.specs.FinMap.{get}
use Rattle.std.specs.Prelude.{◌≡◌, ◌≢◌, ℕ, ◌<◌, ◌⊎◌, List, Contains, [], ◌∷◌, ◌++◌, length, slice_set, Bool, true, false, Some, None}
use Rattle.clover_words.specs.declared.pool.Pool.{Pool}
use Rattle.clover_words.specs.declared.word.Word.{Word}
use Rattle.clover_words.specs.declared.word.Side.{Side}
use Rattle.clover_words.specs.Place.{address_of, copy_in, durable_words, pool_words}
use Rattle.clover_map.specs.declared.bytes.Held.{Held}
use Rattle.clover_map.specs.declared.call.Entry.{Entry}
use Rattle.clover_map.specs.Legal.{Leads, Legal, used_by}
use Rattle.clover_map.specs.Tagged.{Tagged}
use Rattle.atomic_table.specs.Table.{Me, Allows}
use Rattle.clover_rule.specs.Accesses.{CameBack, words_after_act}
use Rattle.clover_rule.specs.Cut.{IsCut, IsSound, Rests, image_of}
use Rattle.clover_rule.specs.History.{Version, commit_of, commits_at, entry_key, kept, Last, pair_of}
use Rattle.clover_rule.specs.Image.{Image}
use Rattle.clover_rule.specs.Lists.{nth}
use Rattle.clover_rule.specs.Meets.{Meets}
use Rattle.clover_rule.specs.Memory.{Next, order}
use Rattle.clover_rule.specs.Moves.{MayAccept, MayGrant, MayHand, MayMake, MayNote, accepted, client_of, given, giving, grant, joined, making, note_of, noted, spent, split}
use Rattle.clover_rule.specs.Opening.{BlankOpening, FirstViews, Opening}
use Rattle.clover_rule.specs.Restart.{AreBindings, IsRestarted, Reopens, plan, rested_words, restarted_words, words_after_stores}
use Rattle.clover_rule.specs.Rule.{Rule, longest}
use Rattle.clover_rule.specs.Sound.{Sound}
use Rattle.clover_rule.specs.Asks.{Asks}
use Rattle.clover_rule.specs.Learned.{found, words_after_step, next_view, next_history}
use Rattle.clover_rule.specs.Steps.{Operation, Step, act_of, act_on, becomes, result, side_in, side_of, word_of}
use Rattle.clover_rule.specs.Story.{Story}
use Rattle.clover_rule.specs.Told.{Told, TableHolds}
use Rattle.clover_rule.specs.Words.{mem_of}
use Rattle.clover_rule.specs.declared.view.RestartStore.{RestartStore}
use Rattle.clover_rule.specs.declared.view.Role.TheVariants.{Client}
use Rattle.clover_rule.specs.declared.view.View.{View}

-- The twelve parts follow from the helping facts.
abbrev pub PartsLaw : Type 0
PartsLaw = (p : Pool) (first : Tagged) (used ws : List ℕ) (vs : List View) (st : Story) (h : List Entry) → Meets p first used ws vs st h → Rule p first used ws vs h

-- The history is the longest that a view holds.
abbrev pub LongestLaw : Type 0
LongestLaw = (p : Pool) (first : Tagged) (used ws : List ℕ) (vs : List View) (h : List Entry) → Rule p first used ws vs h → longest vs ≡ h

-- Whatever the words, the views and the history are, a step that its actor may make keeps the rule.
abbrev pub StepLaw : Type 0
StepLaw = (p : Pool) (first : Tagged) (used ws : List ℕ) (vs : List View) (h : List Entry) (id : ℕ) (v : View) (a : Step) (b : Bool) → Rule p first used ws vs h → nth vs id ≡ Some v → Asks p a v
    → Rule p first used (words_after_step p a ws) (slice_set vs id (next_view b a h v (found p a ws))) (next_history a h v (found p a ws))

-- And it tells its actor facts on its own view.
abbrev pub ToldLaw : Type 0
ToldLaw = (p : Pool) (first : Tagged) (used ws : List ℕ) (vs : List View) (h : List Entry) (id : ℕ) (v : View) (a : Step) (b : Bool) → Rule p first used ws vs h → nth vs id ≡ Some v → Asks p a v
    → Told p a b v (found p a ws) (next_view b a h v (found p a ws))

-- The same over a table whose words are the pool's and whose seats are the actors.
abbrev pub TableStepLaw : Type 0
TableStepLaw = (p : Pool) (first : Tagged) (used : List ℕ) (slots id : ℕ) (me : Me (Unit {0}) View) (a : Step) (b : Bool) → Asks p a me.0
    → Allows {S = Unit {0}} (TableHolds p first used) slots id me (address_of p (word_of a) (side_of a)) (becomes a) (λ x you. Told p a b me.0 x you.0 × (you.1 ≡ me.1))

-- a next word stays as it is or rises
abbrev pub Rises : Next → Next → Type 0
Rises n n' = (n' ≡ n) ⊎ (order n < order n')

-- No step lets a copy of a next word fall.
abbrev pub RiseLaw : Type 0
RiseLaw = (p : Pool) (first : Tagged) (used ws : List ℕ) (vs : List View) (h : List Entry) (id : ℕ) (v : View) (a : Step) → Rule p first used ws vs h → nth vs id ≡ Some v → Asks p a v
    → (b : ℕ) → Rises ((mem_of p ws).next b) ((mem_of p (words_after_step p a ws)).next b) × Rises ((mem_of p ws).fnext b) ((mem_of p (words_after_step p a ws)).fnext b)

-- The access of a step comes back with what the words give, and leaves what the step leaves.
abbrev pub AccessLaw : Type 0
AccessLaw = (p : Pool) (ws : List ℕ) (a : Step) → CameBack p ws (act_of a (found p a ws)) × (words_after_act p ws (act_of a (found p a ws)) ≡ words_after_step p a ws)

-- Each operation of a port that is meant as a step is one that a table allows.
abbrev pub OperationLaw : Type 0
OperationLaw = (p : Pool) (first : Tagged) (used : List ℕ) (slots id : ℕ) (me : Me (Unit {0}) View) (a : Step) (b : Bool) (o : Operation) (w : Word) → Asks p a me.0 → ((x : ℕ) → act_of a x ≡ act_on o w x)
    → Allows {S = Unit {0}} (TableHolds p first used) slots id me (address_of p w (side_in o)) (result o) (λ x you. Told p a b me.0 x you.0 × (you.1 ≡ me.1))

-- From words whose copies are one sound image a run begins, over views that begin.
abbrev pub OpeningLaw : Type 0
OpeningLaw = (p : Pool) (first : Tagged) (used ws : List ℕ) (vs : List View) (o : Opening p first used ws) → FirstViews p first used ws o vs → Rule p first used ws vs []

-- words of 0
abbrev pub IsBlank : Pool → List ℕ → Type 0
IsBlank p ws = (length ws ≡ pool_words p) × ((w : Word) (s : Side) → copy_in p ws w s ≡ 0)

-- Words of 0 are such words, for a map with nothing and no used tag.
abbrev pub BlankLaw : Type 0
BlankLaw = (p : Pool) (first : Tagged) (ws : List ℕ) → IsBlank p ws → ((k : List ℕ) → get first k ≡ None) → BlankOpening p first ws

-- The server makes a client.
abbrev pub ClientLaw : Type 0
ClientLaw = (p : Pool) (first : Tagged) (used ws : List ℕ) (vs : List View) (h : List Entry) (id : ℕ) (v : View) (n : ℕ) → Rule p first used ws vs h → nth vs id ≡ Some v → MayMake v n
    → Rule p first used ws (split vs id (making n v) (client_of n v)) h

-- The server splits off a grant.
abbrev pub GrantLaw : Type 0
GrantLaw = (p : Pool) (first : Tagged) (used ws : List ℕ) (vs : List View) (h : List Entry) (id : ℕ) (v : View) (batch : List ℕ) (position : ℕ) (names : List (ℕ × List ℕ)) → Rule p first used ws vs h → nth vs id ≡ Some v → MayGrant p v batch position names
    → Rule p first used ws (split vs id (giving batch v) (grant batch position names v)) h

-- A client takes a grant in.
abbrev pub AcceptLaw : Type 0
AcceptLaw = (p : Pool) (first : Tagged) (used ws : List ℕ) (vs : List View) (h : List Entry) (id j : ℕ) (v g : View) → Rule p first used ws vs h → nth vs id ≡ Some v → nth vs j ≡ Some g → j ≢ id → MayAccept v g
    → Rule p first used ws (joined vs id (accepted v g) j (spent v)) h

-- The server hands a client a batch and names in one event.
abbrev pub HandOverLaw : Type 0
HandOverLaw = (p : Pool) (first : Tagged) (used ws : List ℕ) (vs : List View) (h : List Entry) (i j : ℕ) (sv cv : View) (batch : List ℕ) (names : List (ℕ × List ℕ)) → Rule p first used ws vs h → nth vs i ≡ Some sv → nth vs j ≡ Some cv → MayHand p sv cv batch names
    → Rule p first used ws (slice_set (slice_set vs i (giving batch sv)) j (given batch names cv)) h

-- A note is split off a client.
abbrev pub NoteLaw : Type 0
NoteLaw = (p : Pool) (first : Tagged) (used ws : List ℕ) (vs : List View) (h : List Entry) (id : ℕ) (v : View) (n : ℕ) → Rule p first used ws vs h → nth vs id ≡ Some v → v.pass.role ≡ Client n
    → Rule p first used ws (split vs id v (note_of v)) h

-- The server takes a note in.
abbrev pub JoinNoteLaw : Type 0
JoinNoteLaw = (p : Pool) (first : Tagged) (used ws : List ℕ) (vs : List View) (h : List Entry) (id j : ℕ) (v n : View) → Rule p first used ws vs h → nth vs id ≡ Some v → nth vs j ≡ Some n → j ≢ id → MayNote v n
    → Rule p first used ws (joined vs id (noted v n) j (spent v)) h

-- What is left of a view that another one took in may go.
abbrev pub SpentLaw : Type 0
SpentLaw = (p : Pool) (first : Tagged) (used ws : List ℕ) (vs : List View) (h : List Entry) (i : ℕ) (v w : View) → Rule p first used ws (vs ++ spent w ∷ []) h → nth vs i ≡ Some v → Rule p first used ws vs h

-- an image has one chain for each slot, and one value at each place of it, however it was found sound
pub record OneReading (im : Image) (p : Pool) (one other : Sound p im) : Type 0 where
  pub chains : (s : ℕ) → other.chain s ≡ one.chain s
  pub values : (s i t : ℕ) → nth (one.chain s) i ≡ Some t → other.value s i ≡ one.value s i

abbrev pub OneReadingLaw : Type 0
OneReadingLaw = (p : Pool) (im : Image) (one other : Sound p im) → OneReading im p one other

-- Whatever front of a restart's stores was made, each image of the words then rests as the first one did, with the same map and used tags.
abbrev pub RestartLaw : Type 0
RestartLaw = (p : Pool) (n : Tagged) (used im im2 : List ℕ) (a : Rests p im n used) (made rest : List RestartStore) → length im ≡ durable_words p → plan p (image_of p im) a.sound.reads ≡ made ++ rest → IsCut p (words_after_stores p (rested_words p im) made) im2 → Rests p im2 n used

-- All of them leave of a sound image what a restart is to leave, in the words too.
abbrev pub RestartedLaw : Type 0
RestartedLaw = (p : Pool) (im : List ℕ) (a : IsSound p im) → length im ≡ durable_words p → IsRestarted p (image_of p im) a.reads (image_of p (restarted_words p im a.reads))

-- Behind all of them a run may begin, with that map and those used tags.
abbrev pub ReopenLaw : Type 0
ReopenLaw = (p : Pool) (n : Tagged) (used im : List ℕ) (list : List (ℕ × List ℕ)) (a : Rests p im n used) → length im ≡ durable_words p → AreBindings (image_of p (restarted_words p im a.sound.reads)) 0 p.slots list → Reopens p n used (restarted_words p im a.sound.reads) list

-- each tag of the map is used
abbrev pub AreUsed : Tagged → List ℕ → Type 0
AreUsed n used = (k : List ℕ) (x : Held) → get n k ≡ Some x → Contains used x.tag

-- They are behind a cut too: what is left of a run has no tag in its map that the run had not used.
abbrev pub UsedLaw : Type 0
UsedLaw = (lost : ℕ → Bool) (first n : Tagged) (used : List ℕ) (h : List Entry) → AreUsed first used → Leads first used (kept lost h) n → AreUsed n (used_by used h)

-- the key has what the version stands for exactly where the version is not lost
pub record IsMarked (lost : ℕ → Bool) (n : Tagged) (k : List ℕ) (w : Version) : Type 0 where
  pub stands : lost w.tag ≡ false → get n k ≡ pair_of w
  pub gone : lost w.tag ≡ true → get n k ≢ pair_of w

-- Which commits a cut took is seen at the map that is left: of each key's last commit.
abbrev pub MarkLaw : Type 0
MarkLaw = (lost : ℕ → Bool) (first n : Tagged) (used : List ℕ) (front back : List Entry) (e : Entry) (w : Version) → Legal first used (front ++ e ∷ back) → AreUsed first used → Last lost (front ++ e ∷ back) → Leads first used (kept lost (front ++ e ∷ back)) n → commit_of e ≡ Some w → commits_at (entry_key e) back ≡ []
    → IsMarked lost n (entry_key e) w
