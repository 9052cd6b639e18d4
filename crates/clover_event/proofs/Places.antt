-- The element at a place of a list, a list with an element put where it stands, and the last of a list.
use Rattle.std.proofs.Common.{◌≡◌, ℕ, zero, suc, ◌<◌, List, [], ◌∷◌, ◌++◌, length, set, get_or, reverse, refl, sym, ap, ◌∙◌, arith}
use Rattle.std.specs.Prelude.{Some, slice_get}
use Rattle.std.proofs.lemmas.List.{reverse-append, reverse-reverse}
use Rattle.clover_rule.specs.Lists.{nth}

pub nth_here : {A : Type 0} (xs : List A) (i : ℕ) (x : A) → i < length xs → x ≡ get_or xs i x → nth xs i ≡ Some x
nth_here [] i x below is = absurd (omega arith)
nth_here (y ∷ ys) zero x below is = ap Some (sym is)
nth_here (y ∷ ys) (suc i) x below is = nth_here ys i x (omega arith) is

pub set_same : {A : Type 0} (xs : List A) (i : ℕ) (x : A) → nth xs i ≡ Some x → set xs i x ≡ xs
set_same [] i x e = absurd cc
set_same (y ∷ ys) zero x e = let same : y ≡ x = cc in ap (λ z. z ∷ ys) (sym same)
set_same (y ∷ ys) (suc i) x e = ap (λ zs. y ∷ zs) (set_same ys i x e)

-- two lists that are one have the same elements before the last, and the same last
pub same_snoc : {A : Type 0} (xs ys : List A) (a b : A) → xs ++ a ∷ [] ≡ ys ++ b ∷ [] → (xs ≡ ys) × (a ≡ b)
same_snoc xs ys a b e =
    let back : a ∷ reverse xs ≡ b ∷ reverse ys = sym (reverse-append xs (a ∷ [])) ∙ ap reverse e ∙ reverse-append ys (b ∷ []) in
    let rest : reverse xs ≡ reverse ys = cc in
    (sym (reverse-reverse xs) ∙ ap reverse rest ∙ reverse-reverse ys, cc)
