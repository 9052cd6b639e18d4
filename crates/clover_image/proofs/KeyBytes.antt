-- Bytes that begin with a key, and the words that spell it.
use Rattle.std.proofs.Common.{◌≡◌, ℕ, zero, suc, ◌+◌, ◌*◌, ◌/◌, ◌<◌, ◌≤◌, List, [], ◌∷◌, length, Bool, true, false, nat_lt, take, drop, get_or, refl, sym, ap, ◌∙◌, subst, arith}
use Rattle.std.specs.Prelude.{Option, Some, None, Result, Ok, Err, IfOk, IfSome, IfNone}
use Rattle.std.specs.Result.{result_ok}
use Rattle.std.specs.Int.{w64, from_be_bytes}
use Rattle.std.proofs.lemmas.Bool.Decides.{nat_tests}
use Rattle.std.proofs.lemmas.List.{ext_get_or, get_or-take, length-drop, length-take-le}
use Rattle.clover_words.specs.Pack.{AreBytes, IsRoom, eight_at, packed, words_of}
use Rattle.clover_words.proofs.Packing.{eight_byte, one_byte}
use Rattle.clover_map.specs.Key.{IsKey}
use Rattle.clover_rule.specs.Content.{Spells, spelling}
use Rattle.clover_rule.specs.Lists.{nth}
use Rattle.clover_rule.proofs.Spelling.{length_words, nth_all}

-- words whose bytes are the same
pub same_word : (a b : List ℕ) (j k : ℕ) → ((i : ℕ) → i < 8 → get_or a (8 * j + i) 0 ≡ get_or b (8 * k + i) 0) → packed a j ≡ packed b k
unfolding packed
same_word a b j k same =
    let zeroth : get_or a (8 * j) 0 ≡ get_or b (8 * k) 0 = eight_byte a j 0 (omega arith) ∙ same 0 (omega arith) ∙ sym (eight_byte b k 0 (omega arith)) in
    let e1 = same 1 (omega arith) in let e2 = same 2 (omega arith) in let e3 = same 3 (omega arith) in let e4 = same 4 (omega arith) in
    let e5 = same 5 (omega arith) in let e6 = same 6 (omega arith) in let e7 = same 7 (omega arith) in
    let e : eight_at a j ≡ eight_at b k = cc in
    ap (from_be_bytes w64) e

-- the front of some bytes has their words, as far as it goes
front_word : (bytes : List ℕ) (n k : ℕ) → 8 * k + 8 ≤ n → packed (take n bytes) k ≡ packed bytes k
front_word bytes n k h = same_word (take n bytes) bytes k k (λ i l. get_or-take n bytes (8 * k + i) 0 (omega arith))

key_bytes : (k : List ℕ) → IsKey k → AreBytes (length k ∷ k)
key_bytes k h zero = let a = h.1 in omega arith
key_bytes k h (suc i) = h.2 i

-- a function that has all words of a key spells it
spells_words : (f : ℕ → ℕ) (k : List ℕ) → ((j : ℕ) → j < words_of (suc (length k)) → f j ≡ packed (length k ∷ k) j) → Spells f k
unfolding spelling
spells_words f k words j x e = go (nth_below _ j x e)
  where
    nth_below : (xs : List ℕ) (j x : ℕ) → nth xs j ≡ Some x → j < length xs
    nth_below [] j x e = absurd (let z : None ≡ Some x = e in cc)
    nth_below (y ∷ ys) zero x e = omega arith
    nth_below (y ∷ ys) (suc j) x e = let h = nth_below ys j x e in omega arith

    go : j < length (spelling k) → f j ≡ x
    go lt = let l : j < words_of (suc (length k)) = subst (λ (n : ℕ). j < n) (length_words (length k ∷ k) 0 (words_of (suc (length k)))) lt in
        let q : Some (packed (length k ∷ k) j) ≡ Some x = sym (nth_all (length k ∷ k) j l) ∙ e in
        words j l ∙ (let z : packed (length k ∷ k) j ≡ x = cc in z)

words_spelled : (f : ℕ → ℕ) (k : List ℕ) → Spells f k → (j : ℕ) → j < words_of (suc (length k)) → f j ≡ packed (length k ∷ k) j
unfolding spelling
words_spelled f k s j h = s j (packed (length k ∷ k) j) (nth_all (length k ∷ k) j h)

pub are_take : (b : List ℕ) (n : ℕ) → AreBytes b → AreBytes (take n b)
are_take b zero h i = omega arith
are_take [] (suc n) h i = h i
are_take (x ∷ xs) (suc n) h zero = h zero
are_take (x ∷ xs) (suc n) h (suc i) = are_take xs n (λ j. h (suc j)) i

are_drop : (b : List ℕ) → AreBytes b → AreBytes (drop 1 b)
are_drop [] h = h
are_drop (x ∷ xs) h = λ i. h (suc i)

front_is : (b : List ℕ) (n : ℕ) → n < length b → take (suc n) b ≡ get_or b 0 0 ∷ take n (drop 1 b)
front_is [] n h = absurd (omega arith)
front_is (x ∷ xs) n h = refl

module _ (bytes : List ℕ) (room : IsRoom bytes) where
  -- the bytes of a key of this length behind it
  abbrev pub key_at : ℕ → List ℕ
  key_at n = take n (drop 1 bytes)

  key_long : (n : ℕ) → n ≤ 250 → length (key_at n) ≡ n
  key_long n h = let size = room.size in let d = length-drop 1 bytes in length-take-le n (drop 1 bytes) (omega arith)

  -- where its last word has no byte behind it, the words spell the key
  pub key_spelled : (n : ℕ) → get_or bytes 0 0 ≡ n → 1 ≤ n → n ≤ 250 → packed (take (n + 1) bytes) (n / 8) ≡ packed bytes (n / 8) → IsKey (key_at n) × Spells (packed bytes) (key_at n)
  key_spelled n first some most last =
      let size = room.size in let long = key_long n most in
      let all : take (n + 1) bytes ≡ length (key_at n) ∷ key_at n = ap (λ (i : ℕ). take i bytes) (let z : n + 1 ≡ suc n = omega arith in z) ∙ front_is bytes n (omega arith) ∙ ap (λ (x : ℕ). x ∷ key_at n) (first ∙ sym long) in (
        (omega arith, omega arith, are_take (drop 1 bytes) n (are_drop bytes room.bytes)),
        spells_words (packed bytes) (key_at n) (λ j lt. word_is j (omega arith) (nat_lt (8 * j + 7) (n + 1)) refl ∙ ap (λ (b : List ℕ). packed b j) all),
      )
    where
      word_is : (j : ℕ) → j ≤ n / 8 → (b : Bool) → nat_lt (8 * j + 7) (n + 1) ≡ b → packed bytes j ≡ packed (take (n + 1) bytes) j
      word_is j le true e = let l : 8 * j + 7 < n + 1 = grind (arith, nat_tests) in sym (front_word bytes (n + 1) j (omega arith))
      word_is j le false e = let l : n + 1 ≤ 8 * j + 7 = grind (arith, nat_tests) in let q : n / 8 ≡ j = omega arith in
          subst (λ (i : ℕ). packed bytes i ≡ packed (take (n + 1) bytes) i) q (sym last)

  same_byte : (k : List ℕ) → IsKey k → Spells (packed bytes) k → (i : ℕ) → i < suc (length k) → get_or bytes i 0 ≡ get_or (length k ∷ k) i 0
  same_byte k is sp i h = one_byte bytes (length k ∷ k) i room.bytes (key_bytes k is) (words_spelled (packed bytes) k sp (i / 8) (omega arith))

  -- and no other bytes begin with a key
  pub key_first : (k : List ℕ) → IsKey k → Spells (packed bytes) k → get_or bytes 0 0 ≡ length k
  key_first k is sp = same_byte k is sp 0 (omega arith)

  pub key_front : (k : List ℕ) → IsKey k → Spells (packed bytes) k → take (length k + 1) bytes ≡ length k ∷ k
  key_front k is sp =
      let size = room.size in let most = is.1 in
      let long : length (take (length k + 1) bytes) ≡ length k + 1 = length-take-le (length k + 1) bytes (omega arith) in
      ext_get_or 0 (take (length k + 1) bytes) (length k ∷ k) (omega arith) (λ i h. get_or-take (length k + 1) bytes i 0 (omega arith) ∙ same_byte k is sp i (omega arith))

  pub key_last : (k : List ℕ) → IsKey k → Spells (packed bytes) k → (n : ℕ) → n ≡ length k → packed (take (n + 1) bytes) (n / 8) ≡ packed bytes (n / 8)
  key_last k is sp n e =
      subst (λ (m : ℕ). packed (take (m + 1) bytes) (m / 8) ≡ packed bytes (m / 8)) (sym e)
      (ap (λ (b : List ℕ). packed b (length k / 8)) (key_front k is sp) ∙ sym (words_spelled (packed bytes) k sp (length k / 8) (omega arith)))

-- what an answer is that is x where it is Ok
pub ok_some : {A E : Type 0} (r : Result A E) (x : A) (P : A → Type 0) → IfOk r (λ (a : A). a ≡ x) → P x → IfSome (result_ok r) P
ok_some (Ok a) x P e h = subst P (sym e) h
ok_some (Err e) x P q h = tt

-- a key has at most 32 words, so what has the same ones spells the same keys
pub spells_along : (f g : ℕ → ℕ) (k : List ℕ) → IsKey k → ((j : ℕ) → j < 32 → f j ≡ g j) → Spells f k → Spells g k
spells_along f g k is same s = spells_words g k (λ j h. let most = is.1 in sym (same j (omega arith)) ∙ words_spelled f k s j h)

pub some_along : {A : Type 0} (o : Option A) (P Q : A → Type 0) → IfSome o P → ((a : A) → P a → Q a) → IfSome o Q
some_along None P Q h f = tt
some_along (Some a) P Q h f = f a h

pub none_along : {A : Type 0} (o : Option A) (P Q : Type 0) → IfNone o P → (P → Q) → IfNone o Q
none_along None P Q h f = f h
none_along (Some a) P Q h f = tt
