-- An image of words, decoded: each value is that of a copy, and each number is one that its word may have.
use Rattle.std.proofs.Common.{◌≡◌, ℕ, ◌+◌, ◌⊎◌, ◌&&◌, List, Bool, true, false, nat_lt, refl, sym, ap, inl, inr, ⊎_elim, subst}
use Rattle.std.specs.Prelude.{slice_index, None}
use Rattle.clover_words.specs.declared.pool.Pool.{Pool}
use Rattle.clover_words.specs.declared.word.Word.{Word}
use Rattle.clover_words.specs.declared.word.Word.TheVariants.{Next as NextOf, Root, Key}
use Rattle.clover_words.specs.declared.word.Side.TheVariants.{Current, Flushed}
use Rattle.clover_words.specs.Place.{IsWithin, HasSide, place}
use Rattle.clover_words.proofs.Places.{has_current}
use Rattle.clover_words.specs.Version.{buffer_at, content_at}
use Rattle.clover_rule.specs.Content.{inside}
use Rattle.clover_rule.specs.Cut.{IsCut, image_of}
use Rattle.clover_rule.specs.Image.{IsImage}
use Rattle.clover_rule.specs.Meets.{IsCode, Decodes}
use Rattle.clover_rule.specs.Memory.{Next, word}
use Rattle.clover_rule.specs.Words.{guarded, mem_of, next_of, root_of}
use Rattle.clover_rule.proofs.Ties.{both, below, buffer_in, content_in, content_side}

either_guard : {A B : Type 0} (b : Bool) (f : A → B) (x y z : A) (d : B) → (b ≡ true → (x ≡ y) ⊎ (x ≡ z)) → (guarded b (f x) d ≡ guarded b (f y) d) ⊎ (guarded b (f x) d ≡ guarded b (f z) d)
either_guard true f x y z d h = ⊎_elim (λ e. inl (ap f e)) (λ e. inr (ap f e)) (h refl)
either_guard false f x y z d h = inl refl

module _ (p : Pool) (ws im : List ℕ) (cut : IsCut p ws im) where
  pub decoded_image : IsImage (mem_of p ws) (image_of p im)
  decoded_image = record {
    next = λ b. either_guard (inside p b) next_of _ _ _ (word 0 None) (λ e. cut.copies (NextOf (buffer_at b)) (buffer_in p b e) tt);
    root = λ s. either_guard (nat_lt s p.slots) root_of _ _ _ None (λ e. cut.copies (Root s) (below s p.slots e) tt);
    body = λ b k. either_guard (inside p b && nat_lt k (1 + p.words)) (λ (n : ℕ). n) _ _ _ 0 (λ e. let q = both (inside p b) (nat_lt k (1 + p.words)) e in cut.copies (content_at b k) (content_in p b k q.0 (below k (1 + p.words) q.1)) (content_side b k Flushed));
    key = λ s k. either_guard (nat_lt s p.slots && nat_lt k 32) (λ (n : ℕ). n) _ _ _ 0 (λ e. let q = both (nat_lt s p.slots) (nat_lt k 32) e in cut.copies (Key s k) (below s p.slots q.0, below k 32 q.1) tt);
  }

  pub cut_decodes : Decodes p ws → (w : Word) → IsWithin p w → HasSide w Flushed → IsCode w (slice_index im (place p w))
  cut_decodes d w hw hs = ⊎_elim (λ e. subst (IsCode w) (sym e) (d w Current hw (has_current w))) (λ e. subst (IsCode w) (sym e) (d w Flushed hw hs)) (cut.copies w hw hs)

guarded_out : (t : Bool) (x y : Next) → t ≡ false → guarded t x y ≡ y
guarded_out true x y e = absurd cc
guarded_out false x y e = refl

-- a buffer outside of the pool reads as unlinked at generation 0, in words and in images
pub outside_words : (p : Pool) (ws : List ℕ) (b : ℕ) → inside p b ≡ false → (mem_of p ws).next b ≡ word 0 None
outside_words p ws b e = guarded_out (inside p b) _ (word 0 None) e

pub outside_image : (p : Pool) (im : List ℕ) (b : ℕ) → inside p b ≡ false → (image_of p im).next b ≡ word 0 None
outside_image p im b e = guarded_out (inside p b) _ (word 0 None) e
