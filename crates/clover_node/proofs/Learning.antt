-- Names that come behind those that are known: each is of a new key.
use Prim.Native.Nat.{zero, suc}
use Rattle.std.proofs.Common.{◌≡◌, ℕ, ◌<◌, List, [], ◌∷◌, ◌++◌, length, take, get_or, refl, sym, ap, ◌∙◌, subst, arith}
use Rattle.std.specs.Prelude.{Some}
use Rattle.std.proofs.lemmas.List.{append_assoc}
use Rattle.clover_rule.specs.Lists.{nth}
use Rattle.clover_rule.specs.Names.{KeysOnce}
use Rattle.clover_rule.proofs.Snocs.{within_nth}
use Rattle.clover_rule.proofs.Tools.{nth_within}
use Rattle.clover_dir.specs.Bindings.{pair_of, pairs_of}
use Rattle.clover_dir.specs.Names.{IsNew}
use Rattle.clover_dir.specs.declared.binding.Binding.{Binding}

nth_left : {A : Type 0} (xs ys : List A) (i : ℕ) (a : A) → nth xs i ≡ Some a → nth (xs ++ ys) i ≡ Some a
nth_left [] ys i a e = absurd cc
nth_left (x ∷ xs) ys zero a e = e
nth_left (x ∷ xs) ys (suc i) a e = nth_left xs ys i a e

nth_mid : {A : Type 0} (xs : List A) (a : A) (ys : List A) → nth (xs ++ a ∷ ys) (length xs) ≡ Some a
nth_mid [] a ys = refl
nth_mid (x ∷ xs) a ys = nth_mid xs a ys

-- where no key stands twice, a pair's is none of those in front
new_behind : (xs : List (ℕ × List ℕ)) (q : ℕ × List ℕ) (ys : List (ℕ × List ℕ)) → KeysOnce (xs ++ q ∷ ys) → IsNew q.1 xs
new_behind xs q ys once slot w =
    let i = within_nth (slot, q.1) xs w in
    let same = once i.0 (length xs) slot q.0 q.1 (nth_left xs (q ∷ ys) i.0 (slot, q.1) i.1) (nth_mid xs q ys) in
    let less = nth_within xs i.0 (slot, q.1) i.1 in
    absurd (omega arith)

-- a list of bindings at one of them
split : (bs : List Binding) (i : ℕ) (b : Binding) → i < length bs → b ≡ get_or bs i b → (rest : List (ℕ × List ℕ)) × (pairs_of bs ≡ pairs_of (take i bs) ++ pair_of b ∷ rest)
split [] i b less is = absurd (omega arith)
split (x ∷ bs) zero b less is = (pairs_of bs, ap (λ (z : Binding). pair_of z ∷ pairs_of bs) (sym is))
split (x ∷ bs) (suc i) b less is = let s = split bs i b (omega arith) is in (s.0, ap (λ (l : List (ℕ × List ℕ)). pair_of x ∷ l) s.1)

-- the next binding's key is none of the known ones
pub next_new : (xs : List (ℕ × List ℕ)) (bs : List Binding) (i : ℕ) (b : Binding) → KeysOnce (xs ++ pairs_of bs) → i < length bs → b ≡ get_or bs i b → IsNew b.key (xs ++ pairs_of (take i bs))
next_new xs bs i b once less is =
    let s = split bs i b less is in
    let e = ap (λ (l : List (ℕ × List ℕ)). xs ++ l) s.1 ∙ sym (append_assoc xs (pairs_of (take i bs)) (pair_of b ∷ s.0)) in
    new_behind (xs ++ pairs_of (take i bs)) (pair_of b) s.0 (subst KeysOnce e once)
