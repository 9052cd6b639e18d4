-- The marks of a chain's buffers: one tag more, and the root version at last.
use Rattle.std.proofs.Common.{◌≡◌, ℕ, zero, suc, ◌+◌, ◌*◌, ◌/◌, ◌%◌, ◌<◌, ◌≤◌, List, [], ◌∷◌, ◌++◌, length, take, set, get_or, Bool, true, false, cond, eqb, ◌||◌, refl, sym, ap, ◌∙◌, subst, arith, eq-eqb, ne_eqb, get_or-set_same, get_or-set_other}
use native.Mathlib.Decide.{ℕ_discrete}
use mathlib.Core.Logic.{dite}
use Rattle.std.specs.Prelude.{map}
use Rattle.std.proofs.Math.Seq.{take-suc, take-length}
use Rattle.std.proofs.lemmas.List.{map-append}
use Rattle.std.proofs.lemmas.Nat.{mul-add-lt}
use Rattle.clover_words.specs.declared.pool.Pool.{Pool}
use Rattle.clover_words.specs.Tag.{TagParts, tag_number, home}
use Rattle.clover_words.proofs.Places.{split}
use Rattle.clover_rule.specs.Content.{InRange, inside}
use Rattle.clover_rule.specs.Lists.{Each}
use Rattle.clover_rule.specs.Restart.{stands_on}
use Rattle.clover_rule.proofs.Ties.{buffer_in}
use Rattle.clover_alloc.specs.declared.line.Place.{Place}
use Rattle.clover_alloc.specs.declared.line.Place.TheVariants.{Free, Bound, Out}
use Rattle.clover_restart.specs.Reading.{number_at, place_at}

-- what holds of each of a mapped list holds at each place
pub each_at : {A B : Type 0} (P : B → Type 0) (f : A → B) (xs : List A) (i : ℕ) (d : A) → Each P (map f xs) → i < length xs → P (f (get_or xs i d))
each_at P f [] i d e h = absurd (omega arith)
each_at P f (x ∷ xs) zero d e h = e.0
each_at P f (x ∷ xs) (suc i) d e h = each_at P f xs i d e.1 (omega arith)

-- a buffer stands on two lists where it stands on one of them
pub stands_both : (xs ys : List ℕ) (b : ℕ) → stands_on (xs ++ ys) b ≡ stands_on xs b || stands_on ys b
stands_both [] ys b = refl
stands_both (x ∷ xs) ys b = or_assoc (eqb (home x) b) (stands_on (xs ++ ys) b) (stands_on xs b) (stands_on ys b) (stands_both xs ys b)
  where
    or_assoc : (x y z w : Bool) → y ≡ z || w → x || y ≡ (x || z) || w
    or_assoc true y z w e = refl
    or_assoc false y z w e = e

module _ (p : Pool) where
  small : p.buffers ≤ 65536
  small = let f = p.total_fits in let n = p.some_node in grind arith

  -- the place of a buffer of the pool, and back
  pub place_below : (b : ℕ) → inside p b ≡ true → place_at p b < p.nodes * p.buffers
  place_below b e = let h = buffer_in p b e in let l = mul-add-lt (b / 65536) p.buffers (b % 65536) p.nodes h.node h.index in omega arith

  pub number_place : (b : ℕ) → inside p b ≡ true → number_at p (place_at p b) ≡ b
  number_place b e =
      let h = buffer_in p b e in let s = split (b / 65536) p.buffers (b % 65536) (place_at p b) h.index refl in
      ap (λ (z : ℕ). z * 65536 + place_at p b % p.buffers) s.0 ∙ ap (λ (z : ℕ). b / 65536 * 65536 + z) s.1 ∙ (let z : b / 65536 * 65536 + b % 65536 ≡ b = omega arith in z)

  pub place_number : (q : ℕ) → place_at p (number_at p q) ≡ q
  place_number q =
      let some = p.some_buffer in let fit = small in
      let m : q % p.buffers < p.buffers = omega arith in
      let s = split (q / p.buffers) 65536 (q % p.buffers) (number_at p q) (omega arith) refl in
      ap (λ (z : ℕ). z * p.buffers + number_at p q % 65536) s.0 ∙ ap (λ (z : ℕ). q / p.buffers * p.buffers + z) s.1 ∙ (let z : q / p.buffers * p.buffers + q % p.buffers ≡ q = grind arith in z)

  -- a mark at the place of a buffer is that of the buffer, and the other marks stay
  pub marked : (marks : List Place) (x : Place) (b : ℕ) → inside p b ≡ true → length marks ≡ p.nodes * p.buffers → (q : ℕ) → get_or (set marks (place_at p b) x) q Free ≡ cond (eqb b (number_at p q)) x (get_or marks q Free)
  marked marks x b e long q = dite (ℕ_discrete q (place_at p b))
      (λ same. let lt = place_below b e in let at : place_at p b < length marks = omega arith in
      ap (λ (z : ℕ). get_or (set marks (place_at p b) x) z Free) same ∙ get_or-set_same marks (place_at p b) x Free at ∙ ap (λ (y : Bool). cond y x (get_or marks q Free)) (sym (eq-eqb b (number_at p q) (sym (ap (number_at p) same ∙ number_place b e)))))
      (λ ne. get_or-set_other marks (place_at p b) q x Free ne ∙ ap (λ (y : Bool). cond y x (get_or marks q Free)) (sym (ne_eqb b (number_at p q) (λ same. ne (sym (place_number q) ∙ ap (place_at p) (sym same))))))

  -- the marks where some of a chain's buffers are out
  abbrev pub outs : List ℕ → List Place → ℕ → Place
  outs ts marks q = cond (stands_on ts (number_at p q)) Out (get_or marks q Free)

  either : (x y : Bool) (m : Place) → cond y Out (cond x Out m) ≡ cond (x || (y || false)) Out m
  either true true m = refl
  either true false m = refl
  either false true m = refl
  either false false m = refl

  -- one tag more
  pub mark_more : (before now : List Place) (ts : List TagParts) (i : ℕ) (t : TagParts) → i < length ts → t ≡ get_or ts i t → inside p (home (tag_number t)) ≡ true → length now ≡ p.nodes * p.buffers
      → ((q : ℕ) → q < p.nodes * p.buffers → get_or now q Free ≡ outs (map tag_number (take i ts)) before q)
      → (q : ℕ) → q < p.nodes * p.buffers → get_or (set now (place_at p (home (tag_number t))) Out) q Free ≡ outs (map tag_number (take (i + 1) ts)) before q
  mark_more before now ts i t lt is at long so q h =
      let b : ℕ = number_at p q in
      let front = map tag_number (take i ts) in
      marked now Out (home (tag_number t)) at long q
      ∙ ap (cond (eqb (home (tag_number t)) b) Out) (so q h)
      ∙ either (stands_on front b) (eqb (home (tag_number t)) b) (get_or before q Free)
      ∙ ap (λ (y : Bool). cond y Out (get_or before q Free)) (sym (stands_both front (tag_number t ∷ []) b))
      ∙ ap (λ (us : List ℕ). outs us before q) (sym (map-append tag_number (take i ts) (t ∷ [])) ∙ ap (map tag_number) (ap (λ (u : TagParts). take i ts ++ u ∷ []) is ∙ sym (take-suc ts i t lt) ∙ ap (λ (n : ℕ). take n ts) (let e : suc i ≡ i + 1 = omega arith in e)))

  -- all tags of the chain, and the root version besides
  pub mark_root : (before now : List Place) (ts : List TagParts) (i : ℕ) (root : ℕ) → length ts ≤ i → i ≤ length ts → inside p (home root) ≡ true → length now ≡ p.nodes * p.buffers
      → ((q : ℕ) → q < p.nodes * p.buffers → get_or now q Free ≡ outs (map tag_number (take i ts)) before q)
      → (q : ℕ) → q < p.nodes * p.buffers → get_or (set now (place_at p (home root)) Bound) q Free ≡ cond (eqb (home root) (number_at p q)) Bound (outs (map tag_number ts) before q)
  mark_root before now ts i root lo hi at long so q h =
      let all : i ≡ length ts = omega arith in
      marked now Bound (home root) at long q ∙ ap (cond (eqb (home root) (number_at p q)) Bound) (so q h ∙ ap (λ (us : List TagParts). outs (map tag_number us) before q) (ap (λ (n : ℕ). take n ts) all ∙ take-length ts))

  -- a tag of the list is of a buffer of the pool
  pub item_inside : (ts : List TagParts) (i : ℕ) (t : TagParts) → Each (InRange p) (map tag_number ts) → i < length ts → t ≡ get_or ts i t → inside p (home (tag_number t)) ≡ true
  item_inside ts i t r lt is = subst (λ (u : TagParts). inside p (home (tag_number u)) ≡ true) (sym is) (each_at (InRange p) tag_number ts i t r lt).0
