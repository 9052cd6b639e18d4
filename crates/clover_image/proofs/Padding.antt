-- What the value words of a buffer say, where zeros stand behind the value's end, is a value's content.
use Rattle.std.proofs.Common.{◌≡◌, ◌⊎◌, ℕ, zero, suc, ◌+◌, ◌-◌, ◌*◌, ◌/◌, ◌%◌, ◌^◌, ◌<◌, ◌≤◌, List, [], ◌++◌, length, take, get_or, true, false, refl, sym, ap, ◌∙◌, subst, inl, inr, arith}
use Rattle.std.specs.Prelude.{Option, Some, None}
use Rattle.std.specs.Int.{w64, to_be_bytes}
use Rattle.std.proofs.lemmas.Bool.{cases_lt}
use Rattle.std.proofs.lemmas.List.{get_or-take, get_or_append_left, get_or-append_right, get_or_past, length-append, length-take-le}
use Rattle.std.proofs.lemmas.Nat.{from_be_bytes-to_be_bytes_8}
use Rattle.clover_words.specs.declared.meta.Kind.{Kind}
use Rattle.clover_words.specs.declared.meta.Kind.TheVariants.{Value as ValueKind, Tombstone}
use Rattle.clover_words.specs.declared.word.Word.TheVariants.{Value as ValueOf}
use Rattle.clover_words.specs.Meta.{MetaParts, IsMeta, meta_word, tombstone}
use Rattle.clover_words.specs.Pack.{AreBytes, eight_at, packed, words_of}
use Rattle.clover_words.specs.Tag.{home}
use Rattle.clover_words.specs.Version.{buffer_at}
use Rattle.clover_words.proofs.Packing.{eight_byte, packed_spells}
use Rattle.clover_map.specs.declared.bytes.Value.{Value}
use Rattle.clover_rule.specs.Content.{all_words, content, inside, value_meta}
use Rattle.clover_rule.specs.Lists.{nth}
use Rattle.clover_rule.proofs.Tools.{nth_within}
use Rattle.clover_rule.proofs.Spelling.{dead_word, length_words, nth_all}
use Rattle.clover_image.specs.Contents.{HasVersion}
use Rattle.clover_image.specs.Damage.{IsPadded, SaysMeta}
use Rattle.clover_image.specs.Image.{PoolImage}
use Rattle.clover_image.specs.Reading.{decoded, number_in, of_value}
use Rattle.clover_image.proofs.KeyBytes.{are_take, same_word}
use Rattle.clover_image.proofs.Contents.{value_at}
use Rattle.clover_image.proofs.Tails.{meta_at}

-- a word packed from its own bytes is that word
packed_own : (word : ℕ) → word < 2 ^ 64 → packed (to_be_bytes w64 word) 0 ≡ word
unfolding packed
packed_own word small = from_be_bytes-to_be_bytes_8 word small

eight_bytes : (word i : ℕ) → get_or (to_be_bytes w64 word) i 0 < 256
eight_bytes word zero = omega arith
eight_bytes word (suc zero) = omega arith
eight_bytes word (suc (suc zero)) = omega arith
eight_bytes word (suc (suc (suc zero))) = omega arith
eight_bytes word (suc (suc (suc (suc zero)))) = omega arith
eight_bytes word (suc (suc (suc (suc (suc zero))))) = omega arith
eight_bytes word (suc (suc (suc (suc (suc (suc zero)))))) = omega arith
eight_bytes word (suc (suc (suc (suc (suc (suc (suc zero))))))) = omega arith
eight_bytes word (suc (suc (suc (suc (suc (suc (suc (suc i)))))))) = omega arith

module _ (f : ℕ → ℕ) where
  -- the bytes of n words, from word k on
  bytes_from : ℕ → ℕ → List ℕ
  bytes_from k zero = []
  bytes_from k (suc n) = to_be_bytes w64 (f k) ++ bytes_from (suc k) n

  length_from : (k n : ℕ) → length (bytes_from k n) ≡ 8 * n
  unfolding bytes_from
  length_from k zero = refl
  length_from k (suc n) = let l = length-append (to_be_bytes w64 (f k)) (bytes_from (suc k) n) in let r = length_from (suc k) n in omega arith

  byte_from : (k n j i : ℕ) → j < n → i < 8 → get_or (bytes_from k n) (8 * j + i) 0 ≡ get_or (to_be_bytes w64 (f (k + j))) i 0
  unfolding bytes_from
  byte_from k zero j i h l = absurd (omega arith)
  byte_from k (suc n) zero i h l =
      let at : 8 * 0 + i ≡ i = omega arith in let here : k ≡ k + 0 = omega arith in
      ap (λ (x : ℕ). get_or (bytes_from k (suc n)) x 0) at ∙ get_or_append_left (to_be_bytes w64 (f k)) (bytes_from (suc k) n) 0 i l ∙ ap (λ (x : ℕ). get_or (to_be_bytes w64 (f x)) i 0) here
  byte_from k (suc n) (suc j) i h l =
      let at : 8 * suc j + i - 8 ≡ 8 * j + i = omega arith in let there : suc k + j ≡ k + suc j = omega arith in
      get_or-append_right (to_be_bytes w64 (f k)) (bytes_from (suc k) n) 8 (8 * suc j + i) 0 refl (omega arith)
      ∙ ap (λ (x : ℕ). get_or (bytes_from (suc k) n) x 0) at ∙ byte_from (suc k) n j i (omega arith) l ∙ ap (λ (x : ℕ). get_or (to_be_bytes w64 (f x)) i 0) there

  are_from : (k n : ℕ) → AreBytes (bytes_from k n)
  unfolding bytes_from
  are_from k zero i = omega arith
  are_from k (suc n) i = go (cases_lt i 8) (are_from (suc k) n)
    where
      go : (i < 8) ⊎ (8 ≤ i) → AreBytes (bytes_from (suc k) n) → get_or (to_be_bytes w64 (f k) ++ bytes_from (suc k) n) i 0 < 256
      go (inl l) more = subst (λ (x : ℕ). x < 256) (sym (get_or_append_left (to_be_bytes w64 (f k)) (bytes_from (suc k) n) 0 i l)) (eight_bytes (f k) i)
      go (inr l) more = subst (λ (x : ℕ). x < 256) (sym (get_or-append_right (to_be_bytes w64 (f k)) (bytes_from (suc k) n) 8 i 0 refl l)) (more (i - 8))

  -- the first bytes of these words, so many of them
  spelled : ℕ → List ℕ
  spelled count = take count (bytes_from 0 (words_of count))

  length_spelled : (count : ℕ) → length (spelled count) ≡ count
  unfolding spelled
  length_spelled count = let l = length_from 0 (words_of count) in length-take-le count (bytes_from 0 (words_of count)) (omega arith)

  are_spelled : (count : ℕ) → AreBytes (spelled count)
  unfolding spelled
  are_spelled count = are_take (bytes_from 0 (words_of count)) count (are_from 0 (words_of count))

  byte_here : (count j i : ℕ) → i < 8 → 8 * j + i < count → get_or (spelled count) (8 * j + i) 0 ≡ get_or (to_be_bytes w64 (f j)) i 0
  unfolding spelled
  byte_here count j i l h = get_or-take count (bytes_from 0 (words_of count)) (8 * j + i) 0 h ∙ byte_from 0 (words_of count) j i (omega arith) l ∙ ap (λ (x : ℕ). get_or (to_be_bytes w64 (f x)) i 0) (let z : 0 + j ≡ j = omega arith in z)

  -- each of their words is the one that they are of: where all its bytes are among them, and where zeros stand behind them
  whole_word : (count j : ℕ) → f j < 2 ^ 64 → 8 * j + 8 ≤ count → packed (spelled count) j ≡ f j
  whole_word count j small h =
      same_word (spelled count) (to_be_bytes w64 (f j)) j 0 (λ i l. byte_here count j i l (omega arith) ∙ ap (λ (x : ℕ). get_or (to_be_bytes w64 (f j)) x 0) (let z : i ≡ 8 * 0 + i = omega arith in z)) ∙ packed_own (f j) small

  last_word : (count j : ℕ) → j ≡ count / 8 → IsPadded (f j) (count % 8) → packed (spelled count) j ≡ f j
  last_word count j at padded = same_word (spelled count) (take (count % 8) (to_be_bytes w64 (f j))) j 0 (λ i l. go i l (cases_lt i (count % 8))) ∙ padded
    where
      go : (i : ℕ) → i < 8 → (i < count % 8) ⊎ (count % 8 ≤ i) → get_or (spelled count) (8 * j + i) 0 ≡ get_or (take (count % 8) (to_be_bytes w64 (f j))) (8 * 0 + i) 0
      go i l (inl h) =
          let z : 8 * 0 + i ≡ i = omega arith in
          byte_here count j i l (omega arith) ∙ sym (ap (λ (x : ℕ). get_or (take (count % 8) (to_be_bytes w64 (f j))) x 0) z ∙ get_or-take (count % 8) (to_be_bytes w64 (f j)) i 0 h)
      go i l (inr h) =
          let size = length_spelled count in
          let short : length (take (count % 8) (to_be_bytes w64 (f j))) ≡ count % 8 = length-take-le (count % 8) (to_be_bytes w64 (f j)) (omega arith) in
          get_or_past (spelled count) (8 * j + i) 0 (omega arith) ∙ sym (get_or_past (take (count % 8) (to_be_bytes w64 (f j))) (8 * 0 + i) 0 (omega arith))

  spelled_word : (count j : ℕ) → f j < 2 ^ 64 → (1 ≤ count % 8 → IsPadded (f (count / 8)) (count % 8)) → j < words_of count → packed (spelled count) j ≡ f j
  spelled_word count j small padded h = go (cases_lt (8 * j + 7) count)
    where
      go : (8 * j + 7 < count) ⊎ (count ≤ 8 * j + 7) → packed (spelled count) j ≡ f j
      go (inl l) = whole_word count j small (omega arith)
      go (inr l) = let at : j ≡ count / 8 = omega arith in last_word count j at (subst (λ (x : ℕ). IsPadded (f x) (count % 8)) (sym at) (padded (omega arith)))

module _ (m : PoolImage) (t : ℕ) (n : MetaParts) (in_pool : inside m.pool (home t) ≡ true) (says : SaysMeta m (buffer_at (home t)) n) where
  -- a tombstone has no more than its meta word
  pub dead_content : of_value n.kind ≡ false → (x : Option Value) × HasVersion m t x
  dead_content dead = (None, record { fits = tt; words = λ j y e. word j y e (dead_word j y e) })
    where
      parts : (k : Kind) (flags size : ℕ) → of_value k ≡ false → IsMeta (record { kind = k; flags = flags; length = size }) → meta_word (record { kind = k; flags = flags; length = size }) ≡ tombstone
      parts Tombstone flags size e is = let a = is.0 in let b = is.1 in omega arith
      parts ValueKind flags size e is = absurd (cc)

      word : (j y : ℕ) → nth (content None) j ≡ Some y → (j ≡ 0) × (y ≡ tombstone) → (decoded m).body (home t) j ≡ y
      word j y e (at, is) = ap ((decoded m).body (home t)) at ∙ meta_at m (home t) in_pool ∙ sym says.1 ∙ parts n.kind n.flags n.length dead says.0 ∙ sym is

  -- a value of so many bytes whose last word has only zeros behind them
  pub live_content : ((i : ℕ) → number_in m (ValueOf (buffer_at (home t)) i) < 2 ^ 64) → of_value n.kind ≡ true
      → (1 ≤ n.length % 8 → IsPadded (number_in m (ValueOf (buffer_at (home t)) (n.length / 8))) (n.length % 8)) → (x : Option Value) × HasVersion m t x
  unfolding content
  live_content small live padded = (Some v, record { fits = (flags n.kind live says.0, fit, are_spelled f n.length); words = word })
    where
      f : ℕ → ℕ
      f j = number_in m (ValueOf (buffer_at (home t)) j)

      v : Value
      v = record { flags = n.flags; bytes = spelled f n.length }

      flags : (k : Kind) → of_value k ≡ true → IsMeta (record { kind = k; flags = n.flags; length = n.length }) → n.flags < 2 ^ 32
      flags ValueKind e is = is.0
      flags Tombstone e is = absurd (cc)

      fit : length (spelled f n.length) ≤ 8 * m.pool.words
      fit = let l = length_spelled f n.length in let s = says.2 in omega arith

      spell : (j y : ℕ) → nth (all_words v.bytes) j ≡ Some y → j < words_of n.length → f j ≡ y
      spell j y e h =
          let l = length_spelled f n.length in
          let q : Some (packed v.bytes j) ≡ Some y = sym (nth_all v.bytes j (omega arith)) ∙ e in
          sym (spelled_word f n.length j (small j) padded h) ∙ (let z : packed v.bytes j ≡ y = cc in z)

      meta : (k : Kind) → of_value k ≡ true → meta_word (record { kind = k; flags = n.flags; length = n.length }) ≡ value_meta v
      meta ValueKind e = ap (λ (x : ℕ). meta_word (record { kind = ValueKind; flags = n.flags; length = x })) (sym (length_spelled f n.length))
      meta Tombstone e = absurd (cc)

      word : (j y : ℕ) → nth (content (Some v)) j ≡ Some y → (decoded m).body (home t) j ≡ y
      word zero y e = meta_at m (home t) in_pool ∙ sym says.1 ∙ meta n.kind live ∙ (let q : Some (value_meta v) ≡ Some y = e in cc)
      word (suc j) y e =
          let l = length_spelled f n.length in
          let few = nth_within (all_words v.bytes) j y e in
          let long = length_words v.bytes 0 (words_of (length v.bytes)) in
          let h : j < words_of n.length = omega arith in
          let s = says.2 in
          value_at m (home t) j in_pool (omega arith) ∙ spell j y e h

pub padded_along : (x y u v : ℕ) → x ≡ y → u ≡ v → IsPadded x u → IsPadded y v
padded_along x y u v e f h = subst (IsPadded y) f (subst (λ (z : ℕ). IsPadded z u) e h)

-- the last word of a value's bytes has only zeros behind them
pub padded_bytes : (bytes : List ℕ) → AreBytes bytes → IsPadded (packed bytes (length bytes / 8)) (length bytes % 8)
padded_bytes bytes are =
    let k = length bytes / 8 in let u = length bytes % 8 in
    ap (λ (l : List ℕ). packed (take u l) 0) (packed_spells bytes k are) ∙ same_word (take u (eight_at bytes k)) bytes 0 k (λ i l. go i l (cases_lt i u))
  where
    go : (i : ℕ) → i < 8 → (i < length bytes % 8) ⊎ (length bytes % 8 ≤ i) → get_or (take (length bytes % 8) (eight_at bytes (length bytes / 8))) (8 * 0 + i) 0 ≡ get_or bytes (8 * (length bytes / 8) + i) 0
    go i l (inl h) =
        let z : 8 * 0 + i ≡ i = omega arith in
        ap (λ (x : ℕ). get_or (take (length bytes % 8) (eight_at bytes (length bytes / 8))) x 0) z ∙ get_or-take (length bytes % 8) (eight_at bytes (length bytes / 8)) i 0 h ∙ eight_byte bytes (length bytes / 8) i l
    go i l (inr h) =
        let short : length (take (length bytes % 8) (eight_at bytes (length bytes / 8))) ≡ length bytes % 8 = length-take-le (length bytes % 8) (eight_at bytes (length bytes / 8)) (omega arith) in
        get_or_past (take (length bytes % 8) (eight_at bytes (length bytes / 8))) (8 * 0 + i) 0 (omega arith) ∙ sym (get_or_past bytes (8 * (length bytes / 8) + i) 0 (omega arith))
