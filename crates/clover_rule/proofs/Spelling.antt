-- A content is spelled by its words alone, and so is a key.
use Rattle.std.proofs.Common.{◌≡◌, ℕ, zero, suc, ◌+◌, ◌*◌, ◌/◌, ◌%◌, ◌^◌, ◌<◌, ◌≤◌, ◌≢◌, List, ◌∷◌, length, refl, sym, ap, ◌∙◌, arith, subst, unwrap_or}
use Rattle.std.specs.Prelude.{Option, Some, None, slice_index}
use Rattle.std.proofs.lemmas.Option.{same_Some}
use Rattle.std.proofs.lemmas.List.{ext_get_or}
use Rattle.clover_words.specs.Pack.{AreBytes, words_of, packed}
use Rattle.std.specs.Int.{w64, to_be_bytes}
use Rattle.clover_words.specs.Meta.{meta_word, tombstone}
use Rattle.clover_words.proofs.Packing.{one_byte, packed_spells, eight_byte}
use Rattle.clover_words.specs.declared.pool.Pool.{Pool}
use Rattle.clover_words.specs.declared.meta.Kind.TheVariants.{Value as IsValue}
use Rattle.clover_map.specs.declared.bytes.Value.{Value}
use Rattle.clover_map.specs.Key.{IsKey}
use Rattle.clover_rule.specs.Content.{content, value_meta, all_words, words_from, Fits, spelling, Spells, Unpacks}
use Rattle.clover_rule.specs.Lists.{nth}

pub length_words : (bytes : List ℕ) (k n : ℕ) → length (words_from bytes k n) ≡ n
length_words bytes k zero = refl
length_words bytes k (suc n) = ap suc (length_words bytes (suc k) n)

pub nth_words : (bytes : List ℕ) (k n i : ℕ) → i < n → nth (words_from bytes k n) i ≡ Some (packed bytes (k + i))
nth_words bytes k zero i h = absurd (omega arith)
nth_words bytes k (suc n) zero h = ap (λ (q : ℕ). Some (packed bytes q)) (let e : k ≡ k + 0 = omega arith in e)
nth_words bytes k (suc n) (suc i) h = nth_words bytes (suc k) n i (omega arith) ∙ ap (λ (q : ℕ). Some (packed bytes q)) (let e : suc k + i ≡ k + suc i = omega arith in e)

pub nth_all : (bytes : List ℕ) (i : ℕ) → i < words_of (length bytes) → nth (all_words bytes) i ≡ Some (packed bytes i)
nth_all bytes i h = nth_words bytes 0 (words_of (length bytes)) i h ∙ ap (λ (q : ℕ). Some (packed bytes q)) (let e : 0 + i ≡ i = omega arith in e)

-- two lists of bytes of one length with the same words
pub same_bytes : (a b : List ℕ) → AreBytes a → AreBytes b → length a ≡ length b → ((k : ℕ) → k < words_of (length a) → packed a k ≡ packed b k) → a ≡ b
same_bytes a b ha hb e same = ext_get_or 0 a b e (λ i h. one_byte a b i ha hb (same (i / 8) (omega arith)))

pub meta_apart : (flags size : ℕ) → flags < 2 ^ 32 → size ≤ 1024 → meta_word (record { kind = IsValue; flags = flags; length = size }) ≢ tombstone
meta_apart flags size f n e = omega arith

pub meta_parts : (a b c d : ℕ) → a < 2 ^ 32 → b ≤ 1024 → c < 2 ^ 32 → d ≤ 1024 → meta_word (record { kind = IsValue; flags = a; length = b }) ≡ meta_word (record { kind = IsValue; flags = c; length = d }) → (a ≡ c) × (b ≡ d)
meta_parts a b c d ha hb hc hd e = (omega arith, omega arith)

pub short_enough : (p : Pool) (n : ℕ) → n ≤ 8 * p.words → n ≤ 1024
short_enough p n h = let w = p.words_fit in omega arith

-- each content has a meta word
pub first_word : (o : Option Value) → (y : ℕ) × (nth (content o) 0 ≡ Some y)
unfolding content
first_word None = (tombstone, refl)
first_word (Some x) = (value_meta x, refl)

-- a tombstone's one word
pub dead_word : (j x : ℕ) → nth (content None) j ≡ Some x → (j ≡ 0) × (x ≡ tombstone)
unfolding content
dead_word zero x e = (refl, cc)
dead_word (suc j) x e = absurd cc

-- the meta word of a tombstone is no value's
pub meta_dead : (p : Pool) (o : Option Value) → Fits p o → nth (content o) 0 ≡ Some tombstone → o ≡ None
unfolding content
meta_dead p None f e = refl
meta_dead p (Some x) f e = absurd (meta_apart x.flags (length x.bytes) f.0 (short_enough p (length x.bytes) f.1) (same_Some (value_meta x) tombstone e))

-- a meta word of kind value is no tombstone's
pub meta_live : (o : Option Value) (flags size : ℕ) → flags < 2 ^ 32 → size ≤ 1024 → nth (content o) 0 ≡ Some (meta_word (record { kind = IsValue; flags = flags; length = size })) → (x : Value) × (o ≡ Some x)
unfolding content
meta_live None flags size f n e = absurd (meta_apart flags size f n (sym (same_Some tombstone (meta_word (record { kind = IsValue; flags = flags; length = size })) e)))
meta_live (Some x) flags size f n e = (x, refl)

-- the function has the words of the content
abbrev pub HasContent : (ℕ → ℕ) → Option Value → Type 0
HasContent f o = (j y : ℕ) → nth (content o) j ≡ Some y → f j ≡ y

value_same : (x y : Value) → x.flags ≡ y.flags → x.bytes ≡ y.bytes → x ≡ y
value_same x y f b = λ i. record { flags = f i; bytes = b i }

-- two contents that one function has all words of are one
pub one_value : (p : Pool) (f : ℕ → ℕ) (a b : Option Value) → Fits p a → Fits p b → HasContent f a → HasContent f b → a ≡ b
unfolding content
one_value p f None None ha hb a b = refl
one_value p f None (Some y) ha hb a b = absurd (meta_apart y.flags (length y.bytes) hb.0 (short_enough p (length y.bytes) hb.1) (sym (b 0 (value_meta y) refl) ∙ a 0 tombstone refl))
one_value p f (Some x) None ha hb a b = absurd (meta_apart x.flags (length x.bytes) ha.0 (short_enough p (length x.bytes) ha.1) (sym (a 0 (value_meta x) refl) ∙ b 0 tombstone refl))
one_value p f (Some x) (Some y) ha hb a b =
    let e : (x.flags ≡ y.flags) × (length x.bytes ≡ length y.bytes) = meta_parts x.flags (length x.bytes) y.flags (length y.bytes) ha.0 (short_enough p (length x.bytes) ha.1) hb.0 (short_enough p (length y.bytes) hb.1) (sym (a 0 (value_meta x) refl) ∙ b 0 (value_meta y) refl) in
    let same : (k : ℕ) → k < words_of (length x.bytes) → packed x.bytes k ≡ packed y.bytes k = λ k h. sym (a (suc k) (packed x.bytes k) (nth_all x.bytes k h)) ∙ b (suc k) (packed y.bytes k) (nth_all y.bytes k (subst (λ (n : ℕ). k < words_of n) e.1 h)) in
    ap Some (value_same x y e.0 (same_bytes x.bytes y.bytes ha.2 hb.2 e.1 same))

-- what has all words of a value's content is that value
pub one_content : (p : Pool) (o : Option Value) (x : Value) → Fits p o → Fits p (Some x) → ((j y : ℕ) → nth (content (Some x)) j ≡ Some y → nth (content o) j ≡ Some y) → o ≡ Some x
one_content p o x f g h = one_value p (λ (j : ℕ). unwrap_or (nth (content o) j) 0) o (Some x) f g (λ j y e. ap (λ (a : Option ℕ). unwrap_or a 0) e) (λ j y e. ap (λ (a : Option ℕ). unwrap_or a 0) (h j y e))

key_bytes : (k : List ℕ) → IsKey k → AreBytes (length k ∷ k)
key_bytes k h zero = let a = h.1 in omega arith
key_bytes k h (suc i) = h.2 i

tail_same : (a b : ℕ) (j k : List ℕ) → a ∷ j ≡ b ∷ k → j ≡ k
tail_same a b j k e = cc

-- two keys that are spelled by the same words are one
pub one_key : (f : ℕ → ℕ) (j k : List ℕ) → IsKey j → IsKey k → Spells f j → Spells f k → j ≡ k
unfolding spelling
one_key f j k hj hk sj sk =
    let word_j : (i : ℕ) → i < words_of (suc (length j)) → f i ≡ packed (length j ∷ j) i = λ i b. sj i (packed (length j ∷ j) i) (nth_all (length j ∷ j) i b) in
    let word_k : (i : ℕ) → i < words_of (suc (length k)) → f i ≡ packed (length k ∷ k) i = λ i b. sk i (packed (length k ∷ k) i) (nth_all (length k ∷ k) i b) in
    let lens : length j ≡ length k = one_byte (length j ∷ j) (length k ∷ k) 0 (key_bytes j hj) (key_bytes k hk) (sym (word_j 0 (omega arith)) ∙ word_k 0 (omega arith)) in
    tail_same (length j) (length k) j k (same_bytes (length j ∷ j) (length k ∷ k) (key_bytes j hj) (key_bytes k hk) (ap suc lens)
    (λ i b. sym (word_j i b) ∙ word_k i (subst (λ (n : ℕ). i < words_of (suc n)) lens b)))

-- a content whose words were read is the value that they unpack to
pub read_content : (p : Pool) (o : Option Value) (x : Value) → Fits p o → x.flags < 2 ^ 32 → length x.bytes ≤ 1024 → ((y : ℕ) → nth (content o) 0 ≡ Some y → y ≡ value_meta x)
    → ((k : ℕ) → k < words_of (length x.bytes) → (y : ℕ) × ((z : ℕ) → nth (content o) (suc k) ≡ Some z → z ≡ y) × Unpacks y x k) → o ≡ Some x
unfolding content
read_content p None x f g n h ws = absurd (meta_apart x.flags (length x.bytes) g n (sym (h tombstone refl)))
read_content p (Some z) x f g n h ws =
    let e : (z.flags ≡ x.flags) × (length z.bytes ≡ length x.bytes) = meta_parts z.flags (length z.bytes) x.flags (length x.bytes) f.0 (short_enough p (length z.bytes) f.1) g n (h (value_meta z) refl) in
    ap Some (value_same z x e.0 (ext_get_or 0 z.bytes x.bytes e.1 (λ i lt.
    let k : ℕ = i / 8 in let r : ℕ = i % 8 in
    let kl : k < words_of (length x.bytes) = let q = e.1 in omega arith in
    let w = ws k kl in
    let is : packed z.bytes k ≡ w.0 = w.1 (packed z.bytes k) (nth_all z.bytes k (let q = e.1 in omega arith)) in
    let place : i ≡ 8 * k + r = omega arith in
    let lr : r < 8 = omega arith in
    ap (slice_index z.bytes) place ∙ sym (eight_byte z.bytes k r lr) ∙ ap (λ (l : List ℕ). slice_index l r) (sym (packed_spells z.bytes k f.2) ∙ ap (to_be_bytes w64) is) ∙ w.2 r lr (let q = e.1 in omega arith) ∙ ap (slice_index x.bytes) (sym place))))
