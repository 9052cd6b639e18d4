-- A restart of an image: its stores in their order, and the words after some of them.
use Prim.Native.Nat.{zero, suc}
use Rattle.std.specs.Prelude.{◌≡◌, ◌≢◌, ◌⊎◌, ℕ, ◌+◌, ◌*◌, ◌/◌, ◌%◌, ◌&&◌, ◌||◌, not, nat_lt, nat_eq, List, [], ◌∷◌, ◌++◌, replicate, Bool, true, false, Option, Some, None, is_some, if◌then◌else◌}
use Rattle.clover_words.specs.declared.pool.Pool.{Pool}
use Rattle.clover_words.specs.Tag.{home}
use Rattle.clover_map.specs.Key.{IsKey}
use Rattle.clover_map.specs.Tagged.{Tagged}
use Rattle.clover_rule.specs.Content.{inside, Spells}
use Rattle.clover_rule.specs.Cut.{StandsFor, image_of}
use Rattle.clover_rule.specs.History.{ends}
use Rattle.clover_rule.specs.Image.{Image}
use Rattle.clover_rule.specs.Learned.{words_after_step}
use Rattle.clover_rule.specs.Memory.{gen, word}
use Rattle.clover_rule.specs.Sound.{Sound, versions_of}
use Rattle.clover_rule.specs.Opening.{Opening, opened_book}
use Rattle.clover_rule.specs.Steps.{Restart}
use Rattle.clover_rule.specs.Views.{Book, book, free_or_worn}
use Rattle.clover_rule.specs.declared.view.BufferState.TheVariants.{Bound, Out}
use Rattle.clover_rule.specs.declared.view.RestartStore.{RestartStore}
use Rattle.clover_rule.specs.declared.view.RestartStore.TheVariants.{ClearRoot, ClearFlushedRoot, Lift, LiftFlushed, SetCount}

-- the buffer stands on the chain
abbrev pub stands_on : List ℕ → ℕ → Bool
stands_on [] b = false
stands_on (t ∷ ts) b = nat_eq (home t) b || stands_on ts b

-- how many of the numbers below n are such
abbrev pub how_many : (ℕ → Bool) → ℕ → ℕ
how_many f zero = 0
how_many f (suc n) = if f n then suc (how_many f n) else how_many f n

-- some number below n is such
abbrev pub some_below : (ℕ → Bool) → ℕ → Bool
some_below f zero = false
some_below f (suc n) = f n || some_below f n

-- both copies of the root of each such slot are cleared, of n slots from s on
abbrev pub clears : (ℕ → Bool) → ℕ → ℕ → List RestartStore
clears f s zero = []
clears f s (suc n) = if f s then ClearRoot s ∷ ClearFlushedRoot s ∷ clears f (suc s) n else clears f (suc s) n

-- both copies of the next word of each such buffer go on to the next generation, unlinked
abbrev pub lifts : (ℕ → Bool) → (ℕ → ℕ) → List ℕ → List RestartStore
lifts f g [] = []
lifts f g (b ∷ bs) = if f b then Lift b (suc (g b)) ∷ LiftFlushed b (suc (g b)) ∷ lifts f g bs else lifts f g bs

-- n of the pool's buffers in ascending order, from the q-th on
abbrev pub buffers_from : Pool → ℕ → ℕ → List ℕ
buffers_from p q zero = []
buffers_from p q (suc n) = (q / p.buffers * 65536 + q % p.buffers) ∷ buffers_from p (suc q) n

-- the pool's buffers in ascending order
abbrev pub buffers_of : Pool → List ℕ
buffers_of p = buffers_from p 0 (p.nodes * p.buffers)

module _ (p : Pool) (im : Image) (sound : Sound p im) where
  -- the slot has a root, and its chain ends in a tombstone
  abbrev pub is_dead : ℕ → Bool
  is_dead s = is_some (im.root s) && not (is_some (ends None (versions_of (sound.chain s) (sound.value s))))

  -- the slot has a root and keeps it
  abbrev pub is_kept : ℕ → Bool
  is_kept s = is_some (im.root s) && not (is_dead s)

  -- the buffer stands on a chain that is kept
  abbrev pub remains : ℕ → Bool
  remains b = some_below (λ (s : ℕ). not (is_dead s) && stands_on (sound.chain s) b) p.slots

  -- the buffer goes on to its next generation
  abbrev pub moves : ℕ → Bool
  moves b = not (remains b) && nat_lt (gen (im.next b)) p.wear

  -- the stores of a restart: dead slots lose their roots, then buffers on no chain that is kept go on, and last stands the count of the slots that are kept
  abbrev pub plan : List RestartStore
  plan = clears is_dead 0 p.slots ++ lifts moves (λ (b : ℕ). gen (im.next b)) (buffers_of p) ++ SetCount (how_many is_kept p.slots) ∷ []

-- the words right behind a power cut that left this image: both copies are the image's, and shortcuts and count are 0
abbrev pub rested_words : Pool → List ℕ → List ℕ
rested_words p im = im ++ im ++ replicate (suc p.slots) 0

-- the words after these stores of a restart
abbrev pub words_after_stores : Pool → List ℕ → List RestartStore → List ℕ
words_after_stores p ws [] = ws
words_after_stores p ws (x ∷ xs) = words_after_stores p (words_after_step p (Restart x) ws) xs

-- the words after all stores of a restart of the image
abbrev pub restarted_words : (p : Pool) (im : List ℕ) → Sound p (image_of p im) → List ℕ
restarted_words p im sound = words_after_stores p (rested_words p im) (plan p (image_of p im) sound)

-- the list is of the slots that have a root, in ascending order, each with the key that it spells; of so many slots from s on
abbrev pub AreBindings : Image → ℕ → ℕ → List (ℕ × List ℕ) → Type 0
AreBindings im s zero list = list ≡ []
AreBindings im s (suc n) [] = (im.root s ≡ None) × AreBindings im (suc s) n []
AreBindings im s (suc n) (x ∷ xs) = ((im.root s ≡ None) × AreBindings im (suc s) n (x ∷ xs)) ⊎ ((im.root s ≢ None) × (x.0 ≡ s) × IsKey x.1 × Spells (im.key s) x.1 × AreBindings im (suc s) n xs)

-- the tag of a root is the buffer's
abbrev pub is_of : Option ℕ → ℕ → Bool
is_of None b = false
is_of (Some t) b = nat_eq (home t) b

-- what the books of a new run say of a buffer, by an image: it is bound where it is a root version, out where it stands on a chain behind one, and else free, or worn at the wear
abbrev pub book_in : (p : Pool) (im : Image) → Sound p im → ℕ → Book
book_in p im sound b = book (gen (im.next b)) (if some_below (λ (s : ℕ). is_of (im.root s) b) p.slots then Bound else if some_below (λ (s : ℕ). stands_on (sound.chain s) b) p.slots then Out else free_or_worn p.wear (gen (im.next b)))

-- a run may begin from the words, with this map, these used tags and these bindings; its books are those of the words
pub record Reopens (p : Pool) (n : Tagged) (used ws : List ℕ) (list : List (ℕ × List ℕ)) : Type 0 where
  pub opening : Opening p n used ws
  pub bindings : opening.opens.bindings ≡ list
  pub roots : (s : ℕ) → opening.image.root s ≡ (image_of p ws).root s
  pub books : (sound : Sound p (image_of p ws)) (b : ℕ) → inside p b ≡ true → opened_book p opening.image (opening.opens.spot b) b ≡ book_in p (image_of p ws) sound b

-- what all stores of a restart leave of an image: dead slots have no root, buffers that go on are at their next generation, all else is as it was, and it is sound again and stands for the same maps
pub record IsRestarted (p : Pool) (im : Image) (read : Sound p im) (left : Image) : Type 0 where
  pub root : (s : ℕ) → left.root s ≡ (if is_dead p im read s then None else im.root s)
  pub next : (b : ℕ) → inside p b ≡ true → left.next b ≡ (if moves p im read b then word (suc (gen (im.next b))) None else im.next b)
  pub body : (b j : ℕ) → left.body b j ≡ im.body b j
  pub key : (s j : ℕ) → left.key s j ≡ im.key s j
  pub sound : Sound p left
  pub chain : (s : ℕ) → sound.chain s ≡ (if is_dead p im read s then [] else read.chain s)
  pub stands : (n : Tagged) → StandsFor p im read n → StandsFor p left sound n
