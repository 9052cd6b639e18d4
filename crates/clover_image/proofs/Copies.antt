-- Each word of a chosen image is one of its two copies.
use Rattle.std.proofs.Common.{◌≡◌, ◌⊎◌, ℕ, zero, suc, ◌+◌, ◌-◌, ◌<◌, ◌≤◌, ◌%◌, List, [], ◌∷◌, ◌++◌, length, get_or, take, Bool, true, false, ◌&&◌, ◌||◌, nat_eq, refl, ap, sym, ◌∙◌, inl, inr, subst, append_assoc, arith, if◌then◌else◌}
use Rattle.std.proofs.lemmas.List.{ext_get_or, take_more, take_all}
use Rattle.clover_words.specs.declared.pool.Pool.{Pool}
use Rattle.clover_words.specs.declared.word.Word.{Word}
use Rattle.clover_words.specs.Place.{place, durable_words}
use Rattle.clover_words.proofs.Places.{durable_below}
use Rattle.rand_pcg.specs.Lcg.{Lcg}
use Rattle.rand_pcg.specs.Pcg.{pcg32}
use Rattle.clover_script.specs.declared.choice.Choice.TheVariants.{Old, New, Mix, Pick}
use Rattle.clover_rule.specs.Cut.{IsCut}
use Rattle.clover_image.specs.Choosing.{copy_at, flushed_at, taken, mixed, seeded, is_picked, is_durable}
use Rattle.clover_image.specs.Image.{PoolImage}
use Rattle.clover_image.specs.Laws.{ChosenLaw}

pub length-taken : (f : ℕ → Bool) (p : Pool) (ws : List ℕ) (a n : ℕ) → length (taken f p ws a n) ≡ n
length-taken f p ws a zero = refl
length-taken f p ws a (suc n) = ap suc (length-taken f p ws (suc a) n)

pub taken-at : (f : ℕ → Bool) (p : Pool) (ws : List ℕ) (a n i : ℕ) → i < n → get_or (taken f p ws a n) i 0 ≡ copy_at (f (a + i)) p ws (a + i)
taken-at f p ws a zero i h = absurd (omega arith)
taken-at f p ws a (suc n) zero h = let e : a ≡ a + 0 = omega arith in ap (λ x. copy_at (f x) p ws x) e
taken-at f p ws a (suc n) (suc i) h = let e : suc a + i ≡ a + suc i = omega arith in taken-at f p ws (suc a) n i (omega arith) ∙ ap (λ x. copy_at (f x) p ws x) e

-- the same from the first word on
pub taken-from_first : (f : ℕ → Bool) (p : Pool) (ws : List ℕ) (n i : ℕ) → i < n → get_or (taken f p ws 0 n) i 0 ≡ copy_at (f i) p ws i
taken-from_first f p ws n i h = let e : 0 + i ≡ i = omega arith in taken-at f p ws 0 n i h ∙ ap (λ x. copy_at (f x) p ws x) e

-- a list of such copies is what is taken
pub is_taken : (f : ℕ → Bool) (p : Pool) (ws im : List ℕ) (n : ℕ) → length im ≡ n → ((i : ℕ) → i < n → get_or im i 0 ≡ copy_at (f i) p ws i) → im ≡ taken f p ws 0 n
is_taken f p ws im n sized at =
    ext_get_or 0 im (taken f p ws 0 n) (sized ∙ sym (length-taken f p ws 0 n))
    (λ i h. let lt : i < n = omega (arith, sized) in at i lt ∙ sym (taken-from_first f p ws n i lt))

pub length-mixed : (g : Lcg) (p : Pool) (ws : List ℕ) (a n : ℕ) → length (mixed g p ws a n) ≡ n
length-mixed g p ws a zero = refl
length-mixed g p ws a (suc n) =
    elim (nat_eq (get_or ws a 0) (flushed_at p ws a)) as (λ b. length (if b then get_or ws a 0 ∷ mixed g p ws (suc a) n else copy_at (nat_eq ((pcg32 g).0 % 2) 1) p ws a ∷ mixed (pcg32 g).1 p ws (suc a) n) ≡ suc n)
    [ true ↦ ap suc (length-mixed g p ws (suc a) n) | false ↦ ap suc (length-mixed (pcg32 g).1 p ws (suc a) n) ]

-- it is one of the two copies
abbrev pub IsCopy : Pool → List ℕ → ℕ → ℕ → Type 0
IsCopy p ws a x = (x ≡ get_or ws a 0) ⊎ (x ≡ flushed_at p ws a)

pub is_copy : (b : Bool) (p : Pool) (ws : List ℕ) (a : ℕ) → IsCopy p ws a (copy_at b p ws a)
is_copy true p ws a = inl refl
is_copy false p ws a = inr refl

pub mixed-at : (g : Lcg) (p : Pool) (ws : List ℕ) (a n i : ℕ) → i < n → IsCopy p ws (a + i) (get_or (mixed g p ws a n) i 0)
mixed-at g p ws a zero i h = absurd (omega arith)
mixed-at g p ws a (suc n) zero h =
    let e : a ≡ a + 0 = omega arith in
    let P : ℕ → Type 0 = λ x. IsCopy p ws x (get_or (mixed g p ws a (suc n)) zero 0) in
    subst P e
    (elim (nat_eq (get_or ws a 0) (flushed_at p ws a)) as (λ b. IsCopy p ws a (get_or (if b then get_or ws a 0 ∷ mixed g p ws (suc a) n else copy_at (nat_eq ((pcg32 g).0 % 2) 1) p ws a ∷ mixed (pcg32 g).1 p ws (suc a) n) zero 0))
    [ true ↦ inl refl | false ↦ is_copy (nat_eq ((pcg32 g).0 % 2) 1) p ws a ])
mixed-at g p ws a (suc n) (suc i) h =
    let e : suc a + i ≡ a + suc i = omega arith in
    let P : ℕ → Type 0 = λ x. IsCopy p ws x (get_or (mixed g p ws a (suc n)) (suc i) 0) in
    subst P e
    (elim (nat_eq (get_or ws a 0) (flushed_at p ws a)) as (λ b. IsCopy p ws (suc a + i) (get_or (if b then get_or ws a 0 ∷ mixed g p ws (suc a) n else copy_at (nat_eq ((pcg32 g).0 % 2) 1) p ws a ∷ mixed (pcg32 g).1 p ws (suc a) n) (suc i) 0))
    [ true ↦ mixed-at g p ws (suc a) n i (omega arith) | false ↦ mixed-at (pcg32 g).1 p ws (suc a) n i (omega arith) ])

-- a list of copies is an image of a cut
are_copies : (p : Pool) (ws im : List ℕ) → length im ≡ durable_words p → ((i : ℕ) → i < durable_words p → IsCopy p ws i (get_or im i 0)) → IsCut p ws im
are_copies p ws im sized each = record {
  sized = sized;
  copies = λ w within side.
      let e : durable_words p + place p w ≡ place p w + durable_words p = omega arith in
      let P : ℕ → Type 0 = λ a. (get_or im (place p w) 0 ≡ get_or ws (place p w) 0) ⊎ (get_or im (place p w) 0 ≡ get_or ws a 0) in
      subst P e (each (place p w) (durable_below p w within side));
}

taken_cut : (f : ℕ → Bool) (p : Pool) (ws : List ℕ) → IsCut p ws (taken f p ws 0 (durable_words p))
taken_cut f p ws = are_copies p ws _ (length-taken f p ws 0 (durable_words p))
    (λ i h. let P : ℕ → Type 0 = IsCopy p ws i in subst P (sym (taken-from_first f p ws (durable_words p) i h)) (is_copy (f i) p ws i))

pub chosen_is : ChosenLaw
chosen_is p Old ws = taken_cut (λ _. false) p ws
chosen_is p New ws = taken_cut (λ _. true) p ws
chosen_is p (Mix seed) ws = are_copies p ws _ (length-mixed (seeded seed) p ws 0 (durable_words p)) (λ i h.
    let e : 0 + i ≡ i = omega arith in
    let P : ℕ → Type 0 = λ a. IsCopy p ws a (get_or (mixed (seeded seed) p ws 0 (durable_words p)) i 0) in
    subst P e (mixed-at (seeded seed) p ws 0 (durable_words p) i h))
chosen_is p (Pick names) ws = taken_cut (is_picked p names) p ws

-- one more word stands behind those that were kept, and the others are still to come
pub one_more : (F G : ℕ → ℕ → List ℕ) (a count x : ℕ) (kept items all : List ℕ) → a < count → ((n : ℕ) → x ∷ G (suc a) n ≡ F a (suc n)) → items ≡ kept ++ x ∷ [] → kept ++ F a (count - a) ≡ all → items ++ G (a + 1) (count - (a + 1)) ≡ all
one_more F G a count x kept items all lt step pushed before =
    let n = count - (a + 1) in
    let e : count - a ≡ suc n = omega arith in
    let here : a + 1 ≡ suc a = omega arith in
    let Left : List ℕ → Type 0 = λ l. kept ++ l ≡ all in
    let left : kept ++ (x ∷ G (suc a) n) ≡ all = subst Left (sym (step n)) (ap (λ m. kept ++ F a m) (sym e) ∙ before) in
    ap (λ b. items ++ G b n) here ∙ ap (λ l. l ++ G (suc a) n) pushed ∙ append_assoc kept (x ∷ []) (G (suc a) n) ∙ left

-- one more name is picked
pub is_picked-more : (p : Pool) (names : List Word) (w : Word) (a : ℕ) → is_picked p (names ++ w ∷ []) a ≡ is_picked p names a || is_picked p (w ∷ []) a
is_picked-more p [] w a = refl
is_picked-more p (v ∷ names) w a =
    elim (is_durable p v && nat_eq (place p v) a) as (λ b. b || is_picked p (names ++ w ∷ []) a ≡ (b || is_picked p names a) || is_picked p (w ∷ []) a)
    [ true ↦ refl | false ↦ is_picked-more p names w a ]

-- what was taken of some names, and then of one more
pub taken_more : (p : Pool) (ws : List ℕ) (before more : Bool) (a x y : ℕ) → x ≡ copy_at before p ws a → y ≡ (if more then get_or ws a 0 else x) → y ≡ copy_at (before || more) p ws a
taken_more p ws true true a x y e h = h
taken_more p ws true false a x y e h = h ∙ e
taken_more p ws false true a x y e h = h
taken_more p ws false false a x y e h = h ∙ e

-- an image by its parts
pub image_is : (m : PoolImage) (p : Pool) (words : List ℕ) → m.pool ≡ p → m.words ≡ words → m ≡ record { pool = p; words = words }
image_is m p words of_pool of_words =
    let P : Pool → Type 0 = λ q. m ≡ record { pool = q; words = words } in
    let Q : List ℕ → Type 0 = λ l. m ≡ record { pool = m.pool; words = l } in
    subst P of_pool (subst Q of_words refl)

-- each word of the image is the copy that the names take
abbrev pub TakenSoFar : Pool → List Word → List ℕ → PoolImage → Type 0
TakenSoFar p names ws m = (m.pool ≡ p) × (length m.words ≡ durable_words p) × ((i : ℕ) → i < durable_words p → get_or m.words i 0 ≡ copy_at (is_picked p names i) p ws i)

-- the same once the current copy of one more name was taken
pub taken_so_far-more : (p : Pool) (names : List Word) (k : ℕ) (d : Word) (ws : List ℕ) (before after : PoolImage) → k < length names
    → TakenSoFar p (take k names) ws before → after.pool ≡ before.pool → length after.words ≡ length before.words
    → ((i : ℕ) → i < length before.words → get_or after.words i 0 ≡ (if is_picked before.pool (get_or names k d ∷ []) i then get_or ws i 0 else get_or before.words i 0))
    → TakenSoFar p (take (k + 1) names) ws after
taken_so_far-more p names k d ws before after lt so_far pool sized picked = (
  pool ∙ so_far.0,
  sized ∙ so_far.1,
  λ i h.
      let w = get_or names k d in
      let step : get_or after.words i 0 ≡ (if is_picked before.pool (w ∷ []) i then get_or ws i 0 else get_or before.words i 0) = picked i (omega (arith, so_far.1)) in
      let here : get_or after.words i 0 ≡ (if is_picked p (w ∷ []) i then get_or ws i 0 else get_or before.words i 0) = step ∙ ap (λ q. if is_picked q (w ∷ []) i then get_or ws i 0 else get_or before.words i 0) so_far.0 in
      let joined : is_picked p (take (k + 1) names) i ≡ is_picked p (take k names) i || is_picked p (w ∷ []) i = ap (λ l. is_picked p l i) (take_more names k d lt) ∙ is_picked-more p (take k names) w i in
      taken_more p ws (is_picked p (take k names) i) (is_picked p (w ∷ []) i) i (get_or before.words i 0) (get_or after.words i 0) (so_far.2 i h) here ∙ ap (λ b. copy_at b p ws i) (sym joined),
)

-- all names were gone through
pub taken_so_far-all : (p : Pool) (names : List Word) (k : ℕ) (ws : List ℕ) (m : PoolImage) → length names ≤ k → TakenSoFar p (take k names) ws m → m ≡ record { pool = p; words = taken (is_picked p names) p ws 0 (durable_words p) }
taken_so_far-all p names k ws m le so_far =
    image_is m p (taken (is_picked p names) p ws 0 (durable_words p)) so_far.0
    (is_taken (is_picked p names) p ws m.words (durable_words p) so_far.1 (λ i h. so_far.2 i h ∙ ap (λ l. copy_at (is_picked p l i) p ws i) (take_all k names le)))
