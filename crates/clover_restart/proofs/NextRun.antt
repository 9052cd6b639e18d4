-- The books and the directory of a restart are those of the words that its stores leave.
use Rattle.std.proofs.Common.{◌≡◌, ℕ, zero, suc, List, [], ◌∷◌, length, Bool, true, false, cond, eqb, ◌&&◌, not, nat_lt, refl, sym, ap, ◌∙◌, inl, inr, ⊎_elim, subst}
use mathlib.Core.Path.{fun_ext}
use Rattle.std.specs.Prelude.{Option, Some, None}
use Rattle.clover_words.specs.declared.pool.Pool.{Pool}
use Rattle.clover_words.specs.Place.{durable_words}
use Rattle.clover_words.specs.Version.{buffer_at}
use Rattle.clover_words.proofs.Places.{buffer_again}
use Rattle.clover_rule.specs.Content.{Spells, inside}
use Rattle.clover_rule.specs.Cut.{IsSound, image_of}
use Rattle.clover_rule.specs.Image.{Image}
use Rattle.clover_rule.specs.Laws.{OneReading}
use Rattle.clover_rule.specs.Memory.{Next, gen, word}
use Rattle.clover_rule.specs.Restart.{AreBindings, IsRestarted, book_in, is_dead, is_of, moves, restarted_words, some_below, stands_on}
use Rattle.clover_rule.specs.Sound.{Sound}
use Rattle.clover_rule.specs.Views.{book, free_or_worn}
use Rattle.clover_rule.specs.declared.view.BufferState.TheVariants.{Free as ViewFree, Worn as ViewWorn, Bound as ViewBound, Out as ViewOut}
use Rattle.clover_rule.proofs.OneReading.{one_reading_law}
use Rattle.clover_rule.proofs.RestartedLaw.{restarted_law}
use Rattle.clover_rule.proofs.Ties.{buffer_in, test_below}
use Rattle.clover_alloc.specs.Ledger.{book as line_at}
use Rattle.clover_alloc.specs.declared.line.Place.TheVariants.{Free, Worn, Bound, Out}
use Rattle.clover_plain.specs.Reopening.{AreOfWords, seen_line, state_of}
use Rattle.clover_restart.specs.Begun.{IsRestartOf}
use Rattle.clover_restart.specs.Laws.{NextRunLaw}
use Rattle.clover_restart.specs.Lifting.{next_gen, next_line, next_place}
use Rattle.clover_restart.specs.Reading.{place_at}
use Rattle.clover_restart.specs.Restart.{RestartState}
use Rattle.clover_restart.specs.Slots.{is_chained, is_root, kept_image, kept_root, mark_at}
use Rattle.clover_restart.proofs.ChainMarks.{moves_is}
use Rattle.clover_restart.proofs.Marking.{number_place, place_below}

-- bindings are read off roots and keys alone
same_bindings : (im left : Image) → ((s : ℕ) → left.root s ≡ im.root s) → ((s : ℕ) → left.key s ≡ im.key s) → (s n : ℕ) (list : List (ℕ × List ℕ)) → AreBindings im s n list → AreBindings left s n list
same_bindings im left root key s zero list a = a
same_bindings im left root key s (suc n) [] a = (root s ∙ a.0, same_bindings im left root key (suc s) n [] a.1)
same_bindings im left root key s (suc n) (x ∷ xs) a = ⊎_elim {C = AreBindings left s (suc n) (x ∷ xs)}
    (λ b. inl (root s ∙ b.0, same_bindings im left root key (suc s) n (x ∷ xs) b.1))
    (λ b. inr ((λ e. b.0 (sym (root s) ∙ e)), b.1, b.2, subst (λ (f : ℕ → ℕ). Spells f x.1) (sym (key s)) b.3, same_bindings im left root key (suc s) n xs b.4)) a

-- two tests that agree everywhere agree below n
same_below : (f g : ℕ → Bool) (n : ℕ) → ((s : ℕ) → f s ≡ g s) → some_below f n ≡ some_below g n
same_below f g n h = ap (λ (t : ℕ → Bool). some_below t n) (fun_ext h)

-- the generation of a buffer that may go on
next_of_gen : (y : Bool) (n : Next) → gen (cond y (word (suc (gen n)) None) n) ≡ cond y (suc (gen n)) (gen n)
next_of_gen true n = refl
next_of_gen false n = refl

-- a line's place as the view has it, by the two tests of a buffer
same_state : (wear g : ℕ) (x y : Bool) → state_of (next_place wear (cond x Bound (cond y Out Free)) g) ≡ cond x ViewBound (cond y ViewOut (free_or_worn wear g))
same_state wear g true y = refl
same_state wear g false true = refl
same_state wear g false false = go (eqb g wear)
  where
    go : (t : Bool) → state_of (cond t Worn Free) ≡ cond t ViewWorn ViewFree
    go true = refl
    go false = refl

module _ (p : Pool) (im left : Image) (sound : Sound p im) (is : IsRestarted p im sound left) (other : Sound p left) where
  abbrev dead : ℕ → Bool
  dead s = is_dead p im sound s

  root_of_kept : (d : Bool) (x : Option ℕ) (b : ℕ) → is_of (cond d None x) b ≡ not d && is_of x b
  root_of_kept true x b = refl
  root_of_kept false x b = refl

  chain_of_kept : (d : Bool) (us : List ℕ) (b : ℕ) → stands_on (cond d [] us) b ≡ not d && stands_on us b
  chain_of_kept true us b = refl
  chain_of_kept false us b = refl

  -- the buffer is a root of what is left where it is one that is kept, and so with chains
  roots_left : (b : ℕ) → some_below (λ (s : ℕ). is_of (left.root s) b) p.slots ≡ is_root p im sound p.slots b
  roots_left b = same_below (λ (s : ℕ). is_of (left.root s) b) (λ (s : ℕ). not (dead s) && is_of (im.root s) b) p.slots (λ s. ap (λ (x : Option ℕ). is_of x b) (is.root s) ∙ root_of_kept (dead s) (im.root s) b)

  chains_left : (b : ℕ) → some_below (λ (s : ℕ). stands_on (other.chain s) b) p.slots ≡ is_chained p im sound p.slots b
  chains_left b = same_below (λ (s : ℕ). stands_on (other.chain s) b) (λ (s : ℕ). not (dead s) && stands_on (sound.chain s) b) p.slots
      (λ s. ap (λ (us : List ℕ). stands_on us b) (one.chains s ∙ is.chain s) ∙ chain_of_kept (dead s) (sound.chain s) b)
    where
      one : OneReading left p is.sound other
      one = one_reading_law p left is.sound other

  -- its generation there
  gen_left : (b : ℕ) → inside p b ≡ true → gen (left.next b) ≡ next_gen p.wear (mark_at p im sound p.slots b) (gen (im.next b))
  gen_left b e = ap gen (is.next b e) ∙ next_of_gen (moves p im sound b) (im.next b) ∙ ap (λ (y : Bool). cond y (suc (gen (im.next b))) (gen (im.next b))) (moves_is p im sound b)

  -- its line is what the books of what is left say
  line_left : (b : ℕ) → inside p b ≡ true → seen_line (next_line p.wear (mark_at p im sound p.slots b) (gen (im.next b))) ≡ book_in p left other b
  line_left b e =
      let g = next_gen p.wear (mark_at p im sound p.slots b) (gen (im.next b)) in
      ap (book g) (same_state p.wear g (is_root p im sound p.slots b) (is_chained p im sound p.slots b))
      ∙ (λ i. book (sym (gen_left b e) i) (cond (sym (roots_left b) i) ViewBound (cond (sym (chains_left b) i) ViewOut (free_or_worn p.wear (sym (gen_left b e) i)))))

-- a slot of an image that is none of the pool's has no root
no_root : (p : Pool) (im : Image) (sound : Sound p im) (s : ℕ) → cond (nat_lt s p.slots) (kept_root p im sound s) None ≡ kept_root p im sound s
no_root p im sound s = go (nat_lt s p.slots) (im.root s) refl refl
  where
    bare : (d : Bool) → ◌≡◌ {A = Option ℕ} None (cond d None None)
    bare true = refl
    bare false = refl

    go : (t : Bool) (x : Option ℕ) → nat_lt s p.slots ≡ t → im.root s ≡ x → cond t (cond (is_dead p im sound s) None x) None ≡ cond (is_dead p im sound s) None x
    go true x e q = refl
    go false None e q = bare (is_dead p im sound s)
    go false (Some t) e q = absurd (let l = sound.inside s t q in let z : nat_lt s p.slots ≡ true = test_below s p.slots l in let y : false ≡ true = sym e ∙ z in cc)

module _ (p : Pool) (image : List ℕ) (a : IsSound p image) (r : RestartState) (sized : length image ≡ durable_words p) (is : IsRestartOf p (image_of p image) a.reads r) where
  abbrev im : Image
  im = image_of p image

  abbrev left : Image
  left = image_of p (restarted_words p image a.reads)

  done : IsRestarted p im a.reads left
  done = restarted_law p image a sized

  line_here : (b : ℕ) → inside p b ≡ true → line_at r.books (buffer_at b) ≡ next_line p.wear (mark_at p im a.reads p.slots b) (gen (im.next b))
  line_here b e =
      let n = number_place p b e in
      ap (line_at r.books) (sym (buffer_again p (buffer_at b) (place_at p b) (buffer_in p b e) refl)) ∙ is.lines (place_at p b) (place_below p b e) ∙ ap (λ (k : ℕ). next_line p.wear (mark_at p im a.reads p.slots k) (gen (im.next k))) n

  pub of_words : AreOfWords p (restarted_words p image a.reads) r.books r.directory
  of_words = record {
    bindings = same_bindings (kept_image p im a.reads) left done.root (λ s. fun_ext (done.key s)) 0 p.slots r.directory.list is.list;
    roots = λ s. is.roots s ∙ no_root p im a.reads s ∙ sym (done.root s);
    lines = λ other b e. ap seen_line (line_here b e) ∙ line_left p im left a.reads done other b e;
  }

pub next_run_law : NextRunLaw
next_run_law p image a r sized is = of_words p image a r sized is
