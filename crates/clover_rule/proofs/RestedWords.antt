-- The words right behind a cut: both copies of each durable word are the image's, shortcuts are none, and all of them decode.
use Rattle.std.proofs.Common.{◌≡◌, ℕ, suc, ◌+◌, ◌*◌, ◌<◌, ◌&&◌, List, ◌++◌, length, replicate, get_or, nat_lt, Bool, true, false, refl, sym, ap, ◌∙◌, arith, subst}
use Rattle.std.specs.Prelude.{slice_index, None}
use Rattle.std.proofs.lemmas.List.{get_or_append_left, get_or-append-add, get_or-replicate, length-append, length-replicate}
use Rattle.clover_words.specs.declared.pool.Pool.{Pool}
use Rattle.clover_words.specs.declared.word.Word.{Word}
use Rattle.clover_words.specs.declared.word.Word.TheVariants.{Next as NextOf, Meta, Value, Root, Key, Short, Count}
use Rattle.clover_words.specs.declared.word.Side.{Side}
use Rattle.clover_words.specs.declared.word.Side.TheVariants.{Current, Flushed}
use Rattle.clover_words.specs.Place.{IsWithin, HasSide, place, copy_in, durable_words, pool_words}
use Rattle.clover_words.proofs.Places.{durable_below}
use Rattle.clover_words.specs.Version.{buffer_at, content_at}
use Rattle.clover_rule.specs.Content.{inside}
use Rattle.clover_rule.specs.Cut.{image_of}
use Rattle.clover_rule.specs.Meets.{IsCode, Decodes}
use Rattle.clover_rule.specs.Memory.{word}
use Rattle.clover_rule.specs.Restart.{rested_words}
use Rattle.clover_rule.specs.Words.{guarded, mem_of, next_of, root_of}
use Rattle.clover_rule.proofs.Stopped.{BothCopies}
use Rattle.clover_rule.proofs.Ties.{guard, both, below, buffer_in, content_in, content_side}

module _ (p : Pool) (im : List ℕ) (sized : length im ≡ durable_words p) where
  abbrev ws : List ℕ
  ws = rested_words p im

  twice : length (im ++ im) ≡ 2 * durable_words p
  twice = let e = length-append im im in omega arith

  pub rested_length : length ws ≡ pool_words p
  rested_length = let e = length-append (im ++ im) (replicate (suc p.slots) 0) in let f : length (replicate {A = ℕ} p.slots 0) ≡ p.slots = length-replicate p.slots 0 in let t = twice in omega arith

  first_copy : (i : ℕ) → i < durable_words p → slice_index ws i ≡ slice_index im i
  first_copy i h = let t = twice in get_or_append_left (im ++ im) (replicate (suc p.slots) 0) 0 i (omega arith) ∙ get_or_append_left im im 0 i (omega arith)

  second_copy : (i : ℕ) → i < durable_words p → slice_index ws (i + durable_words p) ≡ slice_index im i
  second_copy i h = let t = twice in get_or_append_left (im ++ im) (replicate (suc p.slots) 0) 0 (i + durable_words p) (omega arith)
      ∙ ap (λ (k : ℕ). get_or (im ++ im) k 0) (let e : i + durable_words p ≡ length im + i = omega arith in e) ∙ get_or-append-add im im i 0

  behind : (i : ℕ) → i < suc p.slots → slice_index ws (2 * durable_words p + i) ≡ 0
  behind i h = ap (λ (k : ℕ). get_or ws (k + i) 0) (sym twice) ∙ get_or-append-add (im ++ im) (replicate (suc p.slots) 0) i 0 ∙ get_or-replicate (suc p.slots) i 0 0 h

  -- each copy of a durable word is the image's
  pub rested_copy : (w : Word) (s : Side) → IsWithin p w → HasSide w Flushed → copy_in p ws w s ≡ slice_index im (place p w)
  rested_copy w Current hw hs = first_copy (place p w) (durable_below p w hw hs)
  rested_copy w Flushed hw hs = second_copy (place p w) (durable_below p w hw hs)

  pub rested_copies : BothCopies (mem_of p ws) (image_of p im)
  rested_copies = record {
    next = λ b. (next_copy b Current, next_copy b Flushed);
    root = λ s. (root_copy s Current, root_copy s Flushed);
    body = λ b k. (body_copy b k Current, body_copy b k Flushed);
    key = λ s k. (key_copy s k Current, key_copy s k Flushed);
  }
    where
      next_copy : (b : ℕ) (s : Side) → guarded (inside p b) (next_of (copy_in p ws (NextOf (buffer_at b)) s)) (word 0 None) ≡ (image_of p im).next b
      next_copy b s = guard (inside p b) _ _ (word 0 None) (λ e. ap next_of (rested_copy (NextOf (buffer_at b)) s (buffer_in p b e) tt))

      root_copy : (t : ℕ) (s : Side) → guarded (nat_lt t p.slots) (root_of (copy_in p ws (Root t) s)) None ≡ (image_of p im).root t
      root_copy t s = guard (nat_lt t p.slots) _ _ None (λ e. ap root_of (rested_copy (Root t) s (below t p.slots e) tt))

      body_copy : (b k : ℕ) (s : Side) → guarded (inside p b && nat_lt k (1 + p.words)) (copy_in p ws (content_at b k) s) 0 ≡ (image_of p im).body b k
      body_copy b k s = guard (inside p b && nat_lt k (1 + p.words)) _ _ 0 (λ e. let q = both (inside p b) (nat_lt k (1 + p.words)) e in rested_copy (content_at b k) s (content_in p b k q.0 (below k (1 + p.words) q.1)) (content_side b k Flushed))

      key_copy : (t k : ℕ) (s : Side) → guarded (nat_lt t p.slots && nat_lt k 32) (copy_in p ws (Key t k) s) 0 ≡ (image_of p im).key t k
      key_copy t k s = guard (nat_lt t p.slots && nat_lt k 32) _ _ 0 (λ e. let q = both (nat_lt t p.slots) (nat_lt k 32) e in rested_copy (Key t k) s (below t p.slots q.0, below k 32 q.1) tt)

  -- no slot has a shortcut
  pub rested_short : (s : ℕ) → (mem_of p ws).short s ≡ None
  rested_short s = none_in s (nat_lt s p.slots) refl
    where
      none_in : (s : ℕ) (b : Bool) → nat_lt s p.slots ≡ b → guarded b (root_of (copy_in p ws (Short s) Current)) None ≡ None
      none_in s true e = ap root_of (behind s (let h = below s p.slots e in omega arith))
      none_in s false e = refl

  -- all words decode where the image does
  pub rested_decodes : ((w : Word) → IsWithin p w → HasSide w Flushed → IsCode w (slice_index im (place p w))) → Decodes p ws
  rested_decodes d (NextOf b) s hw hs = subst (IsCode (NextOf b)) (sym (rested_copy (NextOf b) s hw tt)) (d (NextOf b) hw tt)
  rested_decodes d (Root t) s hw hs = subst (IsCode (Root t)) (sym (rested_copy (Root t) s hw tt)) (d (Root t) hw tt)
  rested_decodes d (Short t) Current hw hs = subst (IsCode (Short t)) (sym (behind t (omega arith))) refl
  rested_decodes d (Short t) Flushed hw hs = absurd hs
  rested_decodes d (Meta b) s hw hs = tt
  rested_decodes d (Value b k) s hw hs = tt
  rested_decodes d (Key t k) s hw hs = tt
  rested_decodes d Count s hw hs = tt
