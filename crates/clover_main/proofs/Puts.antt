-- what a sink took, one piece behind another
use Rattle.std.proofs.Common.{◌≡◌, ℕ, List, ◌++◌, Option, Some, None, Result, Ok, Err, ap, sym, ◌∙◌, append_assoc, drop, take}
use Rattle.std.proofs.KnownBytes.{Appends-trans}
use Rattle.std.proofs.lemmas.List.{take-append-drop}
use Rattle.std.specs.Io.KnownBytes.{Appends, Keeps, WriteAppends}
use Rattle.clover_main.specs.Causes.{AppendsFront}

-- a front of the first piece is a front of both
pub front_of_first : (a b : Option (List ℕ)) (x y : List ℕ) → AppendsFront a b x → AppendsFront a b (x ++ y)
front_of_first a b x y h = (h.0, h.1 ++ y, ap (λ l. l ++ y) h.2 ∙ append_assoc h.0 h.1 y, h.3)

-- the first piece and a front of the second
pub front_of_second : (a b c : Option (List ℕ)) (x y : List ℕ) → Appends a b x → AppendsFront b c y → AppendsFront a c (x ++ y)
front_of_second a b c x y p h =
    (x ++ h.0, h.1, ap (λ l. x ++ l) h.2 ∙ sym (append_assoc x h.0 h.1), Appends-trans a b c x h.0 p h.3)

-- what is known stays known where nothing was taken
kept_known : (a b c : Option (List ℕ)) (front : List ℕ) → Appends a b front → Keeps b c → Appends a c front
kept_known None b c front p q = tt
kept_known (Some x) None c front p q = absurd p
kept_known (Some x) (Some y) None front p q = absurd q
kept_known (Some x) (Some y) (Some z) front p q = q ∙ p

-- a write of what is left of a piece leaves a front of the piece taken, however it ended
pub write_front : {E : Type 0} (a b c : Option (List ℕ)) (result : Result ℕ E) (front rest piece : List ℕ) → piece ≡ front ++ rest → Appends a b front → WriteAppends b c result rest → AppendsFront a c piece
write_front a b c (Ok count) front rest piece all taken wrote =
    (front ++ take count rest, drop count rest, all ∙ ap (λ l. front ++ l) (sym (take-append-drop count rest)) ∙ sym (append_assoc front (take count rest) (drop count rest)), Appends-trans a b c front (take count rest) taken wrote)
write_front a b c (Err error) front rest piece all taken wrote = (front, rest, all, kept_known a b c front taken wrote)
