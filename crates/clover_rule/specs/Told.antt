-- What a step tells its actor: facts on its own view and the history, before and after.
use Prim.Native.Nat.{suc}
use Rattle.std.specs.Prelude.{◌≡◌, ◌≢◌, ℕ, ◌<◌, ◌≤◌, ◌⊎◌, List, length, Bool, true, Option, Some, None}
use Rattle.clover_words.specs.declared.pool.Pool.{Pool}
use Rattle.clover_words.specs.declared.word.Word.{Word}
use Rattle.clover_words.specs.declared.word.Word.TheVariants.{Next as NextOf, Root, Short}
use Rattle.clover_words.specs.Place.{address_of}
use Rattle.clover_words.specs.Meta.{tombstone}
use Rattle.clover_words.specs.Tag.{age, home}
use Rattle.clover_words.specs.Version.{unlinked, linked}
use Rattle.clover_map.specs.declared.bytes.Value.{Value}
use Rattle.clover_map.specs.declared.call.Entry.{Entry}
use Rattle.clover_map.specs.History.{key_of}
use Rattle.clover_map.specs.Key.{IsKey}
use Rattle.clover_map.specs.Tagged.{Tagged}
use Rattle.clover_map.specs.Legal.{Legal}
use Rattle.atomic_table.specs.Table.{State, Me, Allows}
use Rattle.clover_rule.specs.Accesses.{IsTail}
use Rattle.clover_rule.specs.Asks.{Asks}
use Rattle.clover_rule.specs.Content.{Spells, inside, InRange, Fits, content, value_meta}
use Rattle.clover_rule.specs.Cut.{IsCut, image_of}
use Rattle.clover_rule.specs.Image.{Chain}
use Rattle.clover_rule.specs.Learned.{found, next_view, next_history, words_after_step}
use Rattle.clover_rule.specs.Lists.{Each, IsPrefix, Within, nth}
use Rattle.clover_rule.specs.Meets.{IsCode, IsMet}
use Rattle.clover_rule.specs.Memory.{Mem, gen, link, word}
use Rattle.clover_rule.specs.Steps.{Step, LoadNext, ReadRoot, DecideNext, LinkNext, ReadCount, AbsentCount, ReadVersion, PassRoot, FreeRoot, StoreCount, word_of, side_of, becomes}
use Rattle.clover_rule.specs.Views.{OwnCalls, Apart, root_at, book_at, book}
use Rattle.clover_rule.specs.Words.{next_of, root_of, mem_of}
use Rattle.clover_rule.specs.declared.view.BufferState.TheVariants.{Free as IsFree, Bound as IsBound, Out as IsOut}
use Rattle.clover_rule.specs.declared.view.Link.{Link}
use Rattle.clover_rule.specs.declared.view.NewBinding.{NewBinding}
use Rattle.clover_rule.specs.declared.view.Role.TheVariants.{Serving}
use Rattle.clover_rule.specs.declared.view.Server.{Server}
use Rattle.clover_rule.specs.declared.view.ServerTask.{ServerTask}
use Rattle.clover_rule.specs.declared.view.ServerTask.TheVariants.{Loaded, Raised, Led, Both, Exchanged}
use Rattle.clover_rule.specs.declared.view.View.{View}

-- the version behind the root of the slot whose recycling is under way
abbrev pub behind_root : ServerTask → Option ℕ
behind_root (Loaded c) = Some c.next
behind_root (Raised c) = Some c.next
behind_root (Led c) = Some c.next
behind_root (Both c) = Some c.next
behind_root (Exchanged c) = Some c.next
behind_root _ = None

-- what the server holds is in the pool, a free buffer has a generation to serve, each root version is bound, and the version behind the root of a recycling is out
pub record ServerFacts (p : Pool) (sv : Server) : Type 0 where
  pub directory : Each (λ (q : ℕ × List ℕ). (q.0 < p.slots) × IsKey q.1) sv.directory
  pub roots : (s t : ℕ) → root_at sv s ≡ Some t → (s < p.slots) × InRange p t
  pub free : (b g : ℕ) → inside p b ≡ true → book_at sv b ≡ book g IsFree → g < p.wear
  pub bound : (s t : ℕ) → root_at sv s ≡ Some t → book_at sv (home t) ≡ book (age t) IsBound
  pub behind : (t : ℕ) → behind_root sv.task ≡ Some t → InRange p t × (book_at sv (home t) ≡ book (age t) IsOut)

-- what the rule says of one actor
pub record Facts (p : Pool) (v : View) (h : List Entry) : Type 0 where
  pub of_pool : v.pass.pool ≡ p
  -- its history begins the history, which is legal, and its calls are its entries there
  pub begins : IsPrefix v.pass.history h
  pub legal : Legal v.pass.map v.pass.used h
  pub calls : OwnCalls v.pass.role v.pass.calls h
  -- what it knows is in the pool
  pub stock : Each (InRange p) v.pass.stock
  pub apart : Apart v.pass.stock
  pub durable : Each (λ (q : ℕ × ℕ). (q.0 < p.slots) × InRange p q.1) v.pass.durable
  pub links : Each (λ (l : Link). (l.slot < p.slots) × InRange p l.from × InRange p l.to) v.pass.links
  pub names : Each (λ (q : ℕ × List ℕ). (q.0 < p.slots) × IsKey q.1) v.pass.names
  pub server : v.pass.role ≡ Serving → ServerFacts p v.server

-- a number that the word may have: it decodes, and names a tag of the pool or none
abbrev pub IsShown : Pool → Word → ℕ → Type 0
IsShown p (NextOf b) x = IsCode (NextOf b) x × ((gen (next_of x) ≤ p.wear) × ((t : ℕ) → link (next_of x) ≡ Some t → InRange p t))
IsShown p (Root s) x = IsCode (Root s) x × ((t : ℕ) → root_of x ≡ Some t → InRange p t)
IsShown p (Short s) x = IsCode (Short s) x × ((t : ℕ) → root_of x ≡ Some t → InRange p t)
IsShown p w x = Unit {0}

-- the meta word of a version: a tombstone's, or that of a value that a buffer has room for
abbrev pub IsMetaWord : Pool → ℕ → Type 0
IsMetaWord p y = (y ≡ tombstone) ⊎ ((u : Value) × Fits p (Some u) × (y ≡ value_meta u))

-- the words that were copied of a tag are those of one content that a buffer has room for
pub record AreOneVersion (p : Pool) (s t : ℕ) (v : View) : Type 0 where
  pub value : Option Value
  pub fits : Fits p value
  pub words : (j y z : ℕ) → Within (s, record { tag = t; place = j; word = y }) v.pass.copied → nth (content value) j ≡ Some z → z ≡ y

-- the buffer stands on no chain of any image of these words
abbrev pub OnNoChain : Pool → List ℕ → ℕ → Type 0
OnNoChain p ws b = (im : List ℕ) → IsCut p ws im → (s : ℕ) (ts : List ℕ) → Chain (image_of p im) ((image_of p im).root s) ts → (t : ℕ) → Within t ts → home t ≢ b

-- a recycled tag: its buffer is flushed at the next generation, unlinked, and stands on no chain of any image
pub record IsGivenBack (p : Pool) (ws : List ℕ) (t : ℕ) : Type 0 where
  pub flushed : (mem_of p ws).fnext (home t) ≡ word (suc (age t)) None
  pub gone : OnNoChain p ws (home t)

-- a binding whose key words, root and tombstone are flushed
pub record IsDurableBinding (m : Mem) (b : NewBinding) : Type 0 where
  pub key : Spells (m.fkey b.slot) b.key
  pub root : m.froot b.slot ≡ Some b.tag
  pub tombstone : m.fbody (home b.tag) 0 ≡ tombstone

-- What else a step says. A named slot has a root. A meta word that was copied of a tag is a version's where the tag is found unlinked. A tag that a deciding step finds unlinked is the tail of its call's key in the words of that moment, and what was copied of it is one version's. A count is at least the actor's names and at most the slots. A root version shows its own generation, and a recycling's exchange finds its link. After a recycling's last raise its old version is given back, and after a binding's last store the binding is durable.
abbrev pub Says : Pool → List ℕ → Step → View → ℕ → Type 0
Says p ws (LoadNext s t) v x = x ≡ unlinked t → (y : ℕ) → Within (s, record { tag = t; place = 0; word = y }) v.pass.copied → IsMetaWord p y
Says p ws (ReadRoot s) v x = (k : List ℕ) → Within (s, k) v.pass.names → (t : ℕ) × (root_of x ≡ Some t)
Says p ws (DecideNext s t c r) v x = x ≡ unlinked t → IsTail (mem_of p ws) (key_of c) t × AreOneVersion p s t v
Says p ws (LinkNext s u t c) v x = x ≡ unlinked u → IsTail (mem_of p ws) (key_of c) u
Says p ws ReadCount v x = (length v.pass.names ≤ x) × (x ≤ p.slots)
Says p ws (AbsentCount c) v x = (length v.pass.names ≤ x) × (x ≤ p.slots)
Says p ws (ReadVersion s r) v x = gen (next_of x) ≡ age r
Says p ws (PassRoot c) v x = x ≡ linked c.root c.next
Says p ws (FreeRoot c) v x = IsGivenBack p (words_after_step p (FreeRoot c) ws) c.root
Says p ws (StoreCount b n) v x = IsDurableBinding (mem_of p (words_after_step p (StoreCount b n) ws)) b
Says p ws a v x = Unit {0}

-- where these are the words and the history, a step of the actor v found the number x and left the view w, the first of its call or a later one
pub record ToldAt (p : Pool) (ws : List ℕ) (h : List Entry) (a : Step) (b : Bool) (v : View) (x : ℕ) (w : View) : Type 0 where
  pub here : x ≡ found p a ws
  pub before : Facts p v h
  pub number : IsShown p (word_of a) x
  pub says : Says p ws a v x
  pub next : w ≡ next_view b a h v x
  pub after : Facts p w (next_history a h v x)

-- there are such words and such a history
abbrev pub Told : Pool → Step → Bool → View → ℕ → View → Type 0
Told p a b v x w = (ws : List ℕ) × (h : List Entry) × ToldAt p ws h a b v x w

-- the rule of a table whose words are the pool's and whose seats are the actors
abbrev pub TableHolds : {S : Type 0} → Pool → Tagged → List ℕ → State S View → Type 0
TableHolds p first used s = (h : List Entry) × IsMet p first used s.words s.views h

-- The law over a table: any step that the actor may make is allowed, and tells what the rule says of it.
abbrev pub TableLaw : Type 1
TableLaw = (S : Type 0) (p : Pool) (first : Tagged) (used : List ℕ) (slots id : ℕ) (me : Me S View) (a : Step) (b : Bool) (then : ℕ → Me S View → Type 0) → Asks p a me.0
    → ((x : ℕ) (w : View) → Told p a b me.0 x w → then x (w, me.1))
    → Allows {S = S} (TableHolds p first used) slots id me (address_of p (word_of a) (side_of a)) (becomes a) then
