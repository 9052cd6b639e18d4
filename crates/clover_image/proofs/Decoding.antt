-- What a sound image says of roots and next words decodes.
use Rattle.std.proofs.Common.{◌≡◌, ℕ, ◌/◌, ◌%◌, ◌<◌, ◌≤◌, Bool, true, refl, sym, ap, ◌∙◌, subst, arith}
use Rattle.std.specs.Prelude.{Option, Some, None, slice_index, nat_lt}
use Rattle.std.specs.Option.{option_map}
use Rattle.clover_words.specs.declared.pool.Pool.{Pool}
use Rattle.clover_words.specs.declared.word.Buffer.{Buffer}
use Rattle.clover_words.specs.declared.word.Word.TheVariants.{Next as NextOf, Root, Key}
use Rattle.clover_words.specs.Next.{NextParts, IsNext, IsLink, next_word, root_word}
use Rattle.clover_words.specs.Place.{IsBuffer, place}
use Rattle.clover_words.specs.Tag.{TagParts, tag_number}
use Rattle.clover_words.specs.Version.{buffer_at}
use Rattle.clover_rule.specs.Content.{inside}
use Rattle.clover_rule.specs.Cut.{IsSound}
use Rattle.clover_rule.specs.Memory.{Next, word, gen, link}
use Rattle.clover_rule.specs.Told.{IsShown}
use Rattle.clover_rule.specs.Words.{next_of, root_of, guarded}
use Rattle.clover_rule.proofs.Codecs.{shown_next, shown_root, next_of_word, tag_option}
use Rattle.clover_rule.proofs.Keeping.{inside_of}
use Rattle.clover_rule.proofs.Ties.{and_true, test_below}
use Rattle.clover_image.specs.Image.{PoolImage}
use Rattle.clover_image.specs.Reading.{decoded, number_of}

-- a buffer of the pool is that of its number
pub buffer_back : (p : Pool) (b : Buffer) → IsBuffer p b → buffer_at (number_of b) ≡ b
buffer_back p b h =
    let f = p.total_fits in let n = p.some_node in let l = h.index in
    let small : p.buffers ≤ 65536 = grind arith in
    let q : number_of b / 65536 ≡ b.node = omega arith in
    let r : number_of b % 65536 ≡ b.index = omega arith in
    λ i. record { node = q i; index = r i }

pub buffer_inside : (p : Pool) (b : Buffer) → IsBuffer p b → inside p (number_of b) ≡ true
buffer_inside p b h = inside_of p (number_of b) (subst (IsBuffer p) (sym (buffer_back p b h)) h)

pub tag_options : (x : Option TagParts) → tag_option x ≡ option_map tag_number x
tag_options None = refl
tag_options (Some t) = refl

-- the number of a key word
pub key_is : (m : PoolImage) (s j : ℕ) → s < m.pool.slots → j < 32 → (decoded m).key s j ≡ slice_index m.words (place m.pool (Key s j))
key_is m s j h k = ap (λ (x : Bool). guarded x (slice_index m.words (place m.pool (Key s j))) 0) (and_true (nat_lt s m.pool.slots) (nat_lt j 32) (test_below s m.pool.slots h) (test_below j 32 k))

module _ (m : PoolImage) where
  -- the number of the word
  abbrev root_number : ℕ → ℕ
  root_number s = slice_index m.words (place m.pool (Root s))

  abbrev next_number : Buffer → ℕ
  next_number b = slice_index m.words (place m.pool (NextOf b))

  -- a root of the pool is that of its number
  pub root_is : (s : ℕ) → s < m.pool.slots → (decoded m).root s ≡ root_of (root_number s)
  root_is s h = ap (λ (x : Bool). guarded x (root_of (root_number s)) None) (test_below s m.pool.slots h)

  -- where the buffer is in the pool, its next word is that of its number
  pub next_is : (b : Buffer) → IsBuffer m.pool b → (decoded m).next (number_of b) ≡ next_of (next_number b)
  next_is b h =
      ap (λ (x : Bool). guarded x (next_of (next_number (buffer_at (number_of b)))) (word 0 None)) (buffer_inside m.pool b h)
      ∙ ap (λ (x : Buffer). next_of (next_number x)) (buffer_back m.pool b h)

  pub next_tells : (b : Buffer) (n : NextParts) → IsBuffer m.pool b → IsNext n → next_word n ≡ next_number b → word n.own (option_map tag_number n.link) ≡ (decoded m).next (number_of b)
  next_tells b n h is e = ap (word n.own) (sym (tag_options n.link)) ∙ sym (next_of_word n is) ∙ ap next_of e ∙ sym (next_is b h)

  -- the same, as a caller with a sound image cites it
  pub next_read : IsSound m.pool m.words → (b : Buffer) (n : NextParts) → IsBuffer m.pool b → IsNext n → next_word n ≡ next_number b → word n.own (option_map tag_number n.link) ≡ (decoded m).next (number_of b)
  next_read sound = next_tells

  -- a sound image may show each of its next words, and each of its roots
  pub sound_next : IsSound m.pool m.words → (b : Buffer) → IsBuffer m.pool b → IsShown m.pool (NextOf b) (next_number b)
  sound_next sound b h = (
    sound.decodes (NextOf b) h tt,
    (
      subst (λ (x : Next). gen x ≤ m.pool.wear) (next_is b h) (sound.reads.own (number_of b)),
      λ t e. sound.reads.target (number_of b) t (ap link (next_is b h) ∙ e),
    ),
  )

  pub sound_root : IsSound m.pool m.words → (s : ℕ) → s < m.pool.slots → IsShown m.pool (Root s) (root_number s)
  sound_root sound s h = (sound.decodes (Root s) h tt, λ t e. sound.reads.root s t (root_is s h ∙ e))

  pub root_decodes : IsSound m.pool m.words → (s : ℕ) → s < m.pool.slots → (o : Option TagParts) × IsLink o × (root_word o ≡ root_number s)
  root_decodes sound s h = shown_root m.pool s (root_number s) (sound_root sound s h)

  pub next_decodes : IsSound m.pool m.words → (b : Buffer) → IsBuffer m.pool b → (n : NextParts) × IsNext n × (next_word n ≡ next_number b)
  next_decodes sound b h = shown_next m.pool b (next_number b) (sound_next sound b h)
