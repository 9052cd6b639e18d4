-- the lines of an image's words, one behind the other, and which word stands at an address
use Rattle.std.proofs.Common.{◌≡◌, ℕ, zero, suc, ◌+◌, ◌-◌, ◌/◌, ◌%◌, ◌<◌, Bool, true, false, nat_eq, nat_lt, List, [], ◌∷◌, ◌++◌, length, codes, get_or, take, drop, refl, ap, sym, ◌∙◌, append-nil, append_assoc, if◌then◌else◌, arith, rules, tests}
use Rattle.std.proofs.lemmas.List.{take-append-drop, take_more, length-take}
use Rattle.clover_words.specs.declared.pool.Pool.{Pool}
use Rattle.clover_words.specs.declared.word.Buffer.{Buffer}
use Rattle.clover_words.specs.declared.word.Word.{Word}
use Rattle.clover_words.specs.declared.word.Word.TheVariants.{Value, Key}
use Rattle.clover_words.specs.declared.word.Side.{Side}
use Rattle.clover_words.specs.declared.word.Side.TheVariants.{Current, Flushed}
use Rattle.clover_words.specs.Place.{buffer_of, buffer_words, slots_from, durable_words, IsWithin, place, address_of}
use Rattle.clover_words.proofs.Places.{buffer_only, slot_only}
use Rattle.clover_script.specs.Text.{word_text, hex_text}
use Rattle.clover_image.specs.Text.{word_of_buffer, word_of_slot, word_there, word_line, word_lines}

-- a word that is not 0 has a line
pub line_is : (w : Word) (n : ℕ) → 0 < n → word_line w n ≡ word_text w ++ (codes " " ++ (hex_text n ++ codes "\n"))
line_is w n h =
    let is_some : nat_eq n 0 ≡ false = search (rules, tests) in
    ap (λ (b : Bool). if b then [] else word_text w ++ (codes " " ++ (hex_text n ++ codes "\n"))) is_some

pub lines_append : (p : Pool) (a : ℕ) (xs ys : List ℕ) → word_lines p a (xs ++ ys) ≡ word_lines p a xs ++ word_lines p (a + length xs) ys
lines_append p a [] ys = let e : a ≡ a + 0 = omega arith in ap (λ n. word_lines p n ys) e
lines_append p a (x ∷ xs) ys =
    let e : suc a + length xs ≡ a + suc (length xs) = omega arith in
    let line = word_line (word_there p a) x in
    ap (λ l. line ++ l) (lines_append p (suc a) xs ys ∙ ap (λ n. word_lines p (suc a) xs ++ word_lines p n ys) e)
    ∙ sym (append_assoc line (word_lines p (suc a) xs) (word_lines p (a + suc (length xs)) ys))

-- the lines before an address, and the one at it
pub lines_more : (p : Pool) (ws : List ℕ) (i : ℕ) → i < length ws → word_lines p 0 (take (i + 1) ws) ≡ word_lines p 0 (take i ws) ++ word_line (word_there p i) (get_or ws i 0)
lines_more p ws i inside =
    let n : 0 + length (take i ws) ≡ i = omega (arith, length-take i ws) in
    let line : word_lines p (0 + length (take i ws)) (get_or ws i 0 ∷ []) ≡ word_line (word_there p i) (get_or ws i 0) = append-nil _ ∙ ap (λ k. word_line (word_there p k) (get_or ws i 0)) n in
    ap (word_lines p 0) (take_more ws i 0 inside) ∙ lines_append p 0 (take i ws) (get_or ws i 0 ∷ []) ∙ ap (λ l. word_lines p 0 (take i ws) ++ l) line

-- and those behind it
pub lines_around : (p : Pool) (ws : List ℕ) (i : ℕ) → i < length ws
    → word_lines p 0 ws ≡ (word_lines p 0 (take i ws) ++ word_line (word_there p i) (get_or ws i 0)) ++ word_lines p (0 + length (take (i + 1) ws)) (drop (i + 1) ws)
lines_around p ws i inside =
    ap (word_lines p 0) (sym (take-append-drop (i + 1) ws)) ∙ lines_append p 0 (take (i + 1) ws) (drop (i + 1) ws)
    ∙ ap (λ l. l ++ word_lines p (0 + length (take (i + 1) ws)) (drop (i + 1) ws)) (lines_more p ws i inside)

-- a slot's words behind its root are its key words
key_behind : (s r : ℕ) → 0 < r → word_of_slot s r ≡ Key s (r - 1)
key_behind s zero h = absurd (omega arith)
key_behind s (suc k) h = let e : k ≡ suc k - 1 = omega arith in ap (Key s) e

value_behind : (b : Buffer) (r k : ℕ) → r ≡ 2 + k → word_of_buffer b r ≡ Value b k
value_behind b r k e = let two : r ≡ suc (suc k) = omega (arith, e) in ap (word_of_buffer b) two

module _ (p : Pool) (at : ℕ) where
  -- a word of the pool whose current copy stands there is that word
  pub there_only : at < durable_words p → (w : Word) → IsWithin p w → place p w ≡ at → word_there p at ≡ w
  there_only lt w h e =
      elim (nat_lt at (slots_from p)) as (λ b. b ≡ nat_lt at (slots_from p) → (if b then word_of_buffer (buffer_of p (at / buffer_words p)) (at % buffer_words p) else word_of_slot ((at - slots_from p) / 33) ((at - slots_from p) % 33)) ≡ w) [
        | true ↦ (λ q. buffer_only p at (word_of_buffer (buffer_of p (at / buffer_words p)) (at % buffer_words p)) (search rules)
            (λ z. ap (word_of_buffer (buffer_of p (at / buffer_words p))) z)
            (λ z. ap (word_of_buffer (buffer_of p (at / buffer_words p))) z)
            (λ k z. value_behind (buffer_of p (at / buffer_words p)) (at % buffer_words p) k z)
            w h e)
        | false ↦ (λ q. slot_only p at (word_of_slot ((at - slots_from p) / 33) ((at - slots_from p) % 33)) (search rules) lt
            (λ z. ap (word_of_slot ((at - slots_from p) / 33)) z)
            (λ z. key_behind ((at - slots_from p) / 33) ((at - slots_from p) % 33) z)
            w h e)
      ]
      refl

  -- a copy that stands below all flushed ones is a current one
  pub there_is : at < durable_words p → (w : Word) (side : Side) → IsWithin p w → address_of p w side ≡ at → w ≡ word_there p at
  there_is lt w Current h e = sym (there_only lt w h e)
  there_is lt w Flushed h e = absurd (omega arith)
