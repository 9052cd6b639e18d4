-- How a run begins: what restart leaves, or a preset pool has, and the first views.
use Rattle.clover_words.specs.Tag.{home, age}
use Rattle.clover_words.specs.Place.{pool_words}
use Rattle.std.specs.FinMap.{get}
use Rattle.clover_map.specs.Key.{IsKey}
use Rattle.clover_map.specs.Tagged.{Tagged}
use Rattle.clover_rule.specs.Content.{inside, Spells}
use Rattle.clover_rule.specs.History.{ends}
use Rattle.clover_rule.specs.Image.{Image}
use Rattle.clover_rule.specs.Lists.{IsPrefix, Each, nth, Within}
use Rattle.clover_rule.specs.Meets.{Decodes, OfRun}
use Rattle.clover_rule.specs.Memory.{Mem, gen, link}
use Rattle.clover_rule.specs.Sound.{Sound, versions_of}
use Rattle.clover_rule.specs.Views.{Apart, SlotsOnce, Numbered, Book, book, book_at, root_at, free_or_worn}
use Rattle.clover_rule.specs.Words.{mem_of}
use Rattle.clover_rule.specs.declared.view.BufferState.TheVariants.{Free, Bound, Out}
use Rattle.clover_rule.specs.declared.view.Role.TheVariants.{Client, Serving}
use Rattle.clover_rule.specs.declared.view.Server.{Server}
use Rattle.clover_rule.specs.declared.view.ServerTask.TheVariants.{Idle}
use Rattle.clover_rule.specs.declared.view.View.{View}
use Rattle.std.specs.Prelude.{◌≡◌, ℕ, ◌<◌, ◌≤◌, ◌≢◌, ◌⊎◌, List, [], length, true, Option, Some, None, if◌then◌else◌, ◌==◌}
use Rattle.clover_words.specs.declared.pool.Pool.{Pool}

-- what restart leaves: both copies are the image's, and what its books and directory say of it
pub record Opens (l : Pool) (im : Image) (sound : Sound l im) (m0 : Tagged) (used : List ℕ) (m : Mem) : Type 0 where
  pub next : (b : ℕ) → (m.next b ≡ im.next b) × (m.fnext b ≡ im.next b)
  pub root : (s : ℕ) → (m.root s ≡ im.root s) × (m.froot s ≡ im.root s)
  pub body : (b j : ℕ) → (m.body b j ≡ im.body b j) × (m.fbody b j ≡ im.body b j)
  pub key : (s j : ℕ) → (m.key s j ≡ im.key s j) × (m.fkey s j ≡ im.key s j)
  pub short : (s : ℕ) → m.short s ≡ None
  -- where each buffer stands on a chain
  pub spot : ℕ → Option (ℕ × ℕ)
  pub on : (s i t : ℕ) → nth (sound.chain s) i ≡ Some t → spot (home t) ≡ Some (s, i)
  pub from : (b s i : ℕ) → spot b ≡ Some (s, i) → (t : ℕ) × (nth (sound.chain s) i ≡ Some t) × (home t ≡ b)
  -- every other buffer is unlinked
  pub off : (b : ℕ) → spot b ≡ None → link (im.next b) ≡ None
  -- the directory
  pub keys : ℕ → Option (List ℕ)
  pub keyed : (s t : ℕ) → im.root s ≡ Some t → (k : List ℕ) × (keys s ≡ Some k) × Spells (im.key s) k
  pub valid : (s : ℕ) (k : List ℕ) → keys s ≡ Some k → IsKey k
  pub bare : (s : ℕ) → im.root s ≡ None → keys s ≡ None
  pub bindings : List (ℕ × List ℕ)
  pub listed : (s : ℕ) (k : List ℕ) → keys s ≡ Some k → Within (s, k) bindings
  pub bound : (s : ℕ) (k : List ℕ) → Within (s, k) bindings → keys s ≡ Some k
  pub once : SlotsOnce bindings
  pub count : m.count ≡ length bindings
  pub slot_named : List ℕ → ℕ
  pub found : (s : ℕ) (k : List ℕ) → keys s ≡ Some k → slot_named k ≡ s
  -- the map, and the used tags
  pub map_is : (s : ℕ) (k : List ℕ) → keys s ≡ Some k → ends None (versions_of (sound.chain s) (sound.value s)) ≡ get m0 k
  pub map_else : (k : List ℕ) → ((s : ℕ) → keys s ≢ Some k) → get m0 k ≡ None
  pub used_is : Each (λ (t : ℕ). (age t < l.wear) × ((age t < gen (im.next (home t))) ⊎ ((s : ℕ) × (i : ℕ) × (spot (home t) ≡ Some (s, i)) × (age t ≡ gen (im.next (home t)))))) used

-- which seat has each buffer in its stock as a run begins: none of them is on a chain or worn
pub record Owners (l : Pool) (im : Image) (spot : ℕ → Option (ℕ × ℕ)) (owner : ℕ → Option ℕ) : Type 0 where
  pub off : (b i : ℕ) → owner b ≡ Some i → spot b ≡ None
  pub in_pool : (b i : ℕ) → owner b ≡ Some i → inside l b ≡ true
  pub young : (b i : ℕ) → owner b ≡ Some i → gen (im.next b) < l.wear

-- the view where its actor has learned and done nothing
abbrev pub unlearned : View → View
unlearned v = record v { pass = record v.pass { durable = []; links = []; words = []; written = []; flushed = []; copied = []; added = []; calls = []; history = [] }; plan = [] }

-- the view of seat i as a run begins: it has a stock and names, and knows nothing else
pub record Starts (m : Mem) (bindings : List (ℕ × List ℕ)) (owner : ℕ → Option ℕ) (i : ℕ) (v : View) : Type 0 where
  pub stock : Each (λ (t : ℕ). (owner (home t) ≡ Some i) × (gen (m.next (home t)) ≡ age t)) v.pass.stock
  pub apart : Apart v.pass.stock
  pub names : IsPrefix v.pass.names bindings
  pub most : v.pass.most ≤ m.count
  pub nothing : unlearned v ≡ v

-- the words from which a run begins with this map and these used tags: both copies are one sound image
pub record Opening (p : Pool) (first : Tagged) (used ws : List ℕ) : Type 0 where
  pub sized : length ws ≡ pool_words p
  pub decodes : Decodes p ws
  pub image : Image
  pub sound : Sound p image
  pub opens : Opens p image sound first used (mem_of p ws)

-- an actor that knows how the run began, and maybe some of the bindings, and nothing else
pub record Begins (p : Pool) (first : Tagged) (used ws : List ℕ) (o : Opening p first used ws) (v : View) : Type 0 where
  pub run : OfRun p first used v
  pub names : IsPrefix v.pass.names o.opens.bindings
  pub most : v.pass.most ≤ (mem_of p ws).count
  pub stock : v.pass.stock ≡ []
  pub nothing : unlearned v ≡ v

-- what the books say of a buffer as a run begins, by where it stands: bound as a root, out behind one, and off the chains free, or worn at the wear
abbrev pub opened_book : Pool → Image → Option (ℕ × ℕ) → ℕ → Book
opened_book p im (Some q) b = book (gen (im.next b)) (if q.1 == 0 then Bound else Out)
opened_book p im None b = book (gen (im.next b)) (free_or_worn p.wear (gen (im.next b)))

-- the server's part as a run begins: no task, the bindings, the roots, and books that say where each buffer is
pub record FirstServer (p : Pool) (first : Tagged) (used ws : List ℕ) (o : Opening p first used ws) (sv : Server) : Type 0 where
  pub task : sv.task ≡ Idle
  pub directory : sv.directory ≡ o.opens.bindings
  pub roots : (s : ℕ) → root_at sv s ≡ o.image.root s
  pub books : (b : ℕ) → inside p b ≡ true → book_at sv b ≡ opened_book p o.image (o.opens.spot b) b

-- the views as a run begins: clients have different numbers, and one view at most is the server's, which has made them all
pub record FirstViews (p : Pool) (first : Tagged) (used ws : List ℕ) (o : Opening p first used ws) (vs : List View) : Type 0 where
  pub begins : (i : ℕ) (v : View) → nth vs i ≡ Some v → Begins p first used ws o v
  pub some : (i : ℕ) × (v : View) × (nth vs i ≡ Some v)
  pub numbered : Numbered vs
  pub serves : (i : ℕ) (v : View) → nth vs i ≡ Some v → v.pass.role ≡ Serving → FirstServer p first used ws o v.server
  pub one : (i j : ℕ) (v w : View) → nth vs i ≡ Some v → nth vs j ≡ Some w → v.pass.role ≡ Serving → w.pass.role ≡ Serving → i ≡ j
  pub made : (i j n : ℕ) (v w : View) → nth vs i ≡ Some v → nth vs j ≡ Some w → v.pass.role ≡ Serving → w.pass.role ≡ Client n → Within n v.server.clients

-- an opening with nothing bound and every buffer free at generation 0
pub record BlankOpening (p : Pool) (first : Tagged) (ws : List ℕ) : Type 0 where
  pub opening : Opening p first [] ws
  pub unbound : opening.opens.bindings ≡ []
  pub unrooted : (s : ℕ) → opening.image.root s ≡ None
  pub free : (b : ℕ) → inside p b ≡ true → opened_book p opening.image (opening.opens.spot b) b ≡ book 0 Free
