-- While the pool is down, each copy of a root and of a next word is a number that its word may have: the copies of one side are an image that rests.
use Rattle.std.proofs.Common.{◌≡◌, ◌⊎◌, ℕ, ◌+◌, ◌<◌, ◌≤◌, List, Bool, true, length, refl, sym, ap, ◌∙◌, inl, inr, subst, arith}
use Rattle.std.specs.Prelude.{Option, Some, None, map, slice_index}
use Rattle.std.specs.List.{range_with_len}
use Rattle.std.proofs.lemmas.List.FromFn.{length-map-range_with_len, get_or-map-range_with_len}
use Rattle.clover_words.specs.declared.pool.Pool.{Pool}
use Rattle.clover_words.specs.declared.word.Buffer.{Buffer}
use Rattle.clover_words.specs.declared.word.Side.{Side}
use Rattle.clover_words.specs.declared.word.Side.TheVariants.{Current, Flushed}
use Rattle.clover_words.specs.declared.word.Word.{Word}
use Rattle.clover_words.specs.declared.word.Word.TheVariants.{Next as NextOf, Meta, Value, Root, Key, Short, Count}
use Rattle.clover_words.specs.Place.{IsBuffer, IsWithin, HasSide, address_of, copy_in, durable_words, place}
use Rattle.clover_words.specs.Version.{buffer_at}
use Rattle.clover_words.proofs.Places.{durable_below}
use Rattle.clover_rule.specs.Content.{InRange, inside}
use Rattle.clover_rule.specs.Cut.{IsCut, Rests, image_of}
use Rattle.clover_rule.specs.Learned.{found}
use Rattle.clover_rule.specs.Meets.{IsCode}
use Rattle.clover_rule.specs.Restart.{words_after_stores}
use Rattle.clover_rule.specs.Memory.{Next, gen, link, word}
use Rattle.clover_rule.specs.Steps.{Step, Restart, restart_word, side_of, word_of}
use Rattle.clover_rule.specs.Told.{IsShown}
use Rattle.clover_rule.specs.Words.{guarded, next_of, root_of}
use Rattle.clover_rule.specs.declared.view.RestartStore.{RestartStore}
use Rattle.clover_rule.specs.declared.view.RestartStore.TheVariants.{ClearRoot, ClearFlushedRoot, Lift, LiftFlushed, SetCount}
use Rattle.clover_rule.proofs.Keeping.{inside_of}
use Rattle.clover_rule.proofs.RestartLaw.{restart_law}
use Rattle.clover_rule.proofs.Ties.{test_below}
use Rattle.clover_plain.specs.Plain.{Plain, IsDown, restart_view}

-- where the copies of a side begin
abbrev from : Pool → Side → ℕ
from p Current = 0
from p Flushed = durable_words p

-- the copies of a side, as an image
abbrev side_image : Pool → List ℕ → Side → List ℕ
side_image p ws side = map (λ (i : ℕ). slice_index ws (i + from p side)) (range_with_len 0 (durable_words p))

module _ (p : Pool) (ws : List ℕ) (side : Side) where
  -- a durable word of that image is the word's copy
  pub side_copy : (w : Word) → IsWithin p w → HasSide w Flushed → slice_index (side_image p ws side) (place p w) ≡ copy_in p ws w side
  side_copy w within has = get_or-map-range_with_len (λ (i : ℕ). slice_index ws (i + from p side)) 0 (durable_words p) (place p w) (place p w) 0 (durable_below p w within has) (omega arith) ∙ at side
    where
      at : (s : Side) → slice_index ws (place p w + from p s) ≡ slice_index ws (address_of p w s)
      at Current = ap (slice_index ws) (omega arith)
      at Flushed = refl

  -- and the image is one that a cut of these words may leave
  pub side_cut : IsCut p ws (side_image p ws side)
  side_cut = record {
    sized = length-map-range_with_len (λ (i : ℕ). slice_index ws (i + from p side)) 0 (durable_words p);
    copies = λ w within has. either side _ w (side_copy w within has);
  }
    where
      either : (s : Side) (x : ℕ) (w : Word) → x ≡ copy_in p ws w s → (x ≡ copy_in p ws w Current) ⊎ (x ≡ copy_in p ws w Flushed)
      either Current x w e = inl e
      either Flushed x w e = inr e

module _ (p : Plain) (d : IsDown p) (side : Side) where
  abbrev l : Pool
  l = p.setup.pool

  abbrev im : List ℕ
  im = side_image l p.words side

  -- the image of one side rests, as the cut's did
  pub side_rests : Rests l im p.first p.used
  side_rests = restart_law l p.first p.used d.image im d.rests d.stored (restart_view p).plan d.sized d.plan (subst (λ (ws : List ℕ). IsCut l ws im) (d.words ∙ ap (λ (ws : List ℕ). words_after_stores l ws d.stored) d.start) (side_cut l p.words side))

  shown_root : (s : ℕ) → s < l.slots → IsShown l (Root s) (copy_in l p.words (Root s) side)
  shown_root s h =
      let copy = side_copy l p.words side (Root s) h tt in
      let root : (image_of l im).root s ≡ root_of (copy_in l p.words (Root s) side) = ap (λ (b : Bool). guarded b (root_of (slice_index im (place l (Root s)))) None) (test_below s l.slots h) ∙ ap root_of copy in
      (subst (IsCode (Root s)) copy (side_rests.sound.decodes (Root s) h tt), λ t e. side_rests.sound.reads.root s t (root ∙ e))

  shown_next : (b : ℕ) → IsBuffer l (buffer_at b) → IsShown l (NextOf (buffer_at b)) (copy_in l p.words (NextOf (buffer_at b)) side)
  shown_next b h =
      let copy = side_copy l p.words side (NextOf (buffer_at b)) h tt in
      let next : (image_of l im).next b ≡ next_of (copy_in l p.words (NextOf (buffer_at b)) side) = ap (λ (t : Bool). guarded t (next_of (slice_index im (place l (NextOf (buffer_at b))))) (word 0 None)) (inside_of l b h) ∙ ap next_of copy in (
        subst (IsCode (NextOf (buffer_at b))) copy (side_rests.sound.decodes (NextOf (buffer_at b)) h tt),
        (subst (λ (n : Next). gen n ≤ l.wear) next (side_rests.sound.reads.own b), λ t e. side_rests.sound.reads.target b t (ap link next ∙ e)),
      )

-- what a store of restart finds at its word
pub restart_shown : (p : Plain) → IsDown p → (y : RestartStore) → IsWithin p.setup.pool (restart_word y) → IsShown p.setup.pool (restart_word y) (found p.setup.pool (Restart y) p.words)
restart_shown p d (ClearRoot s) h = shown_root p d Current s h
restart_shown p d (ClearFlushedRoot s) h = shown_root p d Flushed s h
restart_shown p d (Lift b g) h = shown_next p d Current b h
restart_shown p d (LiftFlushed b g) h = shown_next p d Flushed b h
restart_shown p d (SetCount n) h = tt
