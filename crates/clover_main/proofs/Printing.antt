-- texts that are put piece by piece through a chunk, and where a write fails
use Rattle.std.proofs.Common.{◌≡◌, ℕ, ◌+◌, ◌<◌, List, [], ◌∷◌, ◌++◌, length, get_or, take, drop, flat_map, Option, Result, OnOk, OnErr, refl, ap, sym, subst, ◌∙◌, append-nil, append_assoc}
use Rattle.std.proofs.KnownBytes.{Appends-trans}
use Rattle.std.proofs.lemmas.List.{take-append-drop, take_more}
use Rattle.std.proofs.lemmas.Grind.{flat_map-append}
use Rattle.std.proofs.lemmas.Result.{on_ok_weaker, on_err_weaker}
use Rattle.std.specs.Io.KnownBytes.{Appends}
use Rattle.clover_main.specs.Causes.{AppendsFront}
use Rattle.clover_main.specs.Running.{Says}
use Rattle.clover_main.proofs.Pieces.{says_then, front_then}
use Rattle.clover_main.proofs.Puts.{front_of_first}

-- what waited went to the sink, and the text waits
pub said_waiting : (a b : Option (List ℕ)) (w x : List ℕ) → Appends a b w → Says a b w x x
said_waiting a b w x put = record { piece = w; put = put; all = refl }

-- what waited and the text went to the sink
pub said_through : (a b c : Option (List ℕ)) (w x : List ℕ) → Appends a b w → Appends b c x → Says a c w [] x
said_through a b c w x put more = record { piece = w ++ x; put = Appends-trans a b c w x put more; all = sym (append-nil (w ++ x)) }

-- one text behind another
pub both_said : (a b c : Option (List ℕ)) (w v u x y t : List ℕ) → t ≡ x ++ y → Says a b w v x → Says b c v u y → Says a c w u t
both_said a b c w v u x y t e first second = subst (λ l. Says a c w u l) (sym e) (says_then a b c w v u x y first second)

-- a write failed in the first of two texts
pub first_fails : (a b : Option (List ℕ)) (w x y t : List ℕ) → t ≡ x ++ y → AppendsFront a b (w ++ x) → AppendsFront a b (w ++ t)
first_fails a b w x y t e front =
    subst (λ l. AppendsFront a b l) (append_assoc w x y ∙ ap (λ l. w ++ l) (sym e)) (front_of_first a b (w ++ x) y front)

-- a write failed in the second
pub second_fails : (a b c : Option (List ℕ)) (w v x y t : List ℕ) → t ≡ x ++ y → Says a b w v x → AppendsFront b c (v ++ y) → AppendsFront a c (w ++ t)
second_fails a b c w v x y t e first front = subst (λ l. AppendsFront a c (w ++ l)) (sym e) (front_then a b c w v x y first front)

-- a write failed in the second of three
pub between_fails : (a b c : Option (List ℕ)) (w v x y z t : List ℕ) → t ≡ (x ++ y) ++ z → Says a b w v x → AppendsFront b c (v ++ y) → AppendsFront a c (w ++ t)
between_fails a b c w v x y z t e first front = first_fails a c w (x ++ y) z t e (front_then a b c w v x y first front)

-- the text of all before an index, and the one at it
pub flat_map-more : {X : Type 0} (f : X → List ℕ) (xs : List X) (i : ℕ) (d : X) → i < length xs → flat_map f (take (i + 1) xs) ≡ flat_map f (take i xs) ++ f (get_or xs i d)
flat_map-more f xs i d inside =
    ap (flat_map f) (take_more xs i d inside) ∙ flat_map-append f (take i xs) (get_or xs i d ∷ []) ∙ ap (λ l. flat_map f (take i xs) ++ l) (append-nil (f (get_or xs i d)))

-- the text of all before an index, the one at it, and of all behind
pub flat_map-around : {X : Type 0} (f : X → List ℕ) (xs : List X) (i : ℕ) (d : X) → i < length xs → flat_map f xs ≡ (flat_map f (take i xs) ++ f (get_or xs i d)) ++ flat_map f (drop (i + 1) xs)
flat_map-around f xs i d inside =
    ap (flat_map f) (sym (take-append-drop (i + 1) xs)) ∙ flat_map-append f (take (i + 1) xs) (drop (i + 1) xs) ∙ ap (λ l. l ++ flat_map f (drop (i + 1) xs)) (flat_map-more f xs i d inside)

-- the same under a result, where the second text is said or fails last
module _ {T E : Type 0} (r : Result T E) where
  pub same_said : (a b : Option (List ℕ)) (w v x y : List ℕ) → x ≡ y → OnOk r (Says a b w v x) → OnOk r (Says a b w v y)
  same_said a b w v x y e = on_ok_weaker r (λ s. subst (λ l. Says a b w v l) e s)

  pub same_fails : (a b : Option (List ℕ)) (w x y : List ℕ) → x ≡ y → OnErr r (AppendsFront a b (w ++ x)) → OnErr r (AppendsFront a b (w ++ y))
  same_fails a b w x y e = on_err_weaker r (λ f. subst (λ l. AppendsFront a b (w ++ l)) e f)

  pub then_said : (a b c : Option (List ℕ)) (w v u x y t : List ℕ) → t ≡ x ++ y → Says a b w v x → OnOk r (Says b c v u y) → OnOk r (Says a c w u t)
  then_said a b c w v u x y t e first = on_ok_weaker r (both_said a b c w v u x y t e first)

  pub then_fails : (a b c : Option (List ℕ)) (w v x y t : List ℕ) → t ≡ x ++ y → Says a b w v x → OnErr r (AppendsFront b c (v ++ y)) → OnErr r (AppendsFront a c (w ++ t))
  then_fails a b c w v x y t e first = on_err_weaker r (second_fails a b c w v x y t e first)

-- where nothing waited first, and all that waits goes to the sink
pub whole_said : (a b c : Option (List ℕ)) (w v t : List ℕ) → w ≡ [] → Says a b w v t → Appends b c v → Appends a c t
whole_said a b c w v t none s put =
    subst (λ l. Appends a c l) (sym s.all ∙ ap (λ l. l ++ t) none) (Appends-trans a b c s.piece v s.put put)

pub whole_fails : (a b c : Option (List ℕ)) (w v t : List ℕ) → w ≡ [] → Says a b w v t → AppendsFront b c v → AppendsFront a c t
whole_fails a b c w v t none s (front, rest, e, put) = (
  s.piece ++ front,
  rest,
  sym (ap (λ l. l ++ t) none) ∙ s.all ∙ ap (λ l. s.piece ++ l) e ∙ sym (append_assoc s.piece front rest),
  Appends-trans a b c s.piece front s.put put,
)
