-- A bit in words of 64 once one word is another.
use Rattle.std.proofs.Common.{◌≡◌, ◌≢◌, ◌∙◌, ℕ, ◌*◌, ◌/◌, ◌%◌, ◌<◌, List, length, set, get_or, get_or-set_same, get_or-set_other, refl, sym, ap, ⊎_elim, arith}
use Rattle.std.proofs.lemmas.Bool.{cases_eq}
use Rattle.std.proofs.lemmas.Nat.{mod_below}
use Rattle.std.specs.Int.{bit_at}
use Rattle.clover_alloc.specs.Kept.{bit_in}

module _ (words : List ℕ) (at : ℕ) (within : at < 64 * length words) (word : ℕ) where
  word_within : at / 64 < length words
  word_within = omega arith

  -- the bits of the word that is set are the new word's
  at_word : (k : ℕ) → k / 64 ≡ at / 64 → bit_in (set words (at / 64) word) k ≡ bit_at word (k % 64)
  at_word k same = rw same (ap (λ w. bit_at w (k % 64)) (get_or-set_same words (at / 64) word 0 word_within))

  -- the bit that the new word has there
  pub bit_in-set_same : bit_in (set words (at / 64) word) at ≡ bit_at word (at % 64)
  bit_in-set_same = at_word at refl

  -- where the new word has the old one's bits but one, so do the words
  pub bit_in-set_other : ((i : ℕ) → i < 64 → i ≢ at % 64 → bit_at word i ≡ bit_at (get_or words (at / 64) 0) i) → (k : ℕ) → k ≢ at → bit_in (set words (at / 64) word) k ≡ bit_in words k
  bit_in-set_other bits k apart = ⊎_elim
      (λ same.
      let within' : k % 64 < 64 = mod_below k 64 (omega arith) in
      let other : k % 64 ≢ at % 64 = λ one. apart (omega arith) in
      at_word k same ∙ bits (k % 64) within' other ∙ ap (λ n. bit_at (get_or words n 0) (k % 64)) (sym same))
      (λ elsewhere. ap (λ w. bit_at w (k % 64)) (get_or-set_other words (at / 64) (k / 64) word 0 elsewhere))
      (cases_eq (k / 64) (at / 64))
