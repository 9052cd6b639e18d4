-- Lists read by place, and functions with another value at one place.
use Prim.Native.Nat.{zero, suc}
use Rattle.std.specs.Prelude.{◌≡◌, ℕ, ◌⊎◌, List, [], ◌∷◌, ◌++◌, length, Option, Some, None, if◌then◌else◌, ◌==◌}

-- P holds of each element
abbrev pub Each : {A : Type 0} → (A → Type 0) → List A → Type 0
Each P [] = Unit {0}
Each P (x ∷ xs) = P x × Each P xs

-- the element at a place
abbrev pub nth : {A : Type 0} → List A → ℕ → Option A
nth [] i = None
nth (x ∷ xs) zero = Some x
nth (x ∷ xs) (suc i) = nth xs i

-- a function with another value at one place
abbrev pub upd : {A : Type 0} → (ℕ → A) → ℕ → A → ℕ → A
upd f i a = λ (j : ℕ). if i == j then a else f j

-- the element stands in the list
abbrev pub Within : {A : Type 0} → A → List A → Type 0
Within x [] = ⊥
Within x (y ∷ ys) = (y ≡ x) ⊎ Within x ys

-- the second list begins with the first
abbrev pub IsPrefix : {A : Type 0} → List A → List A → Type 0
IsPrefix {A} xs ys = (zs : List A) × (ys ≡ xs ++ zs)

-- the second list has the first from a position on
abbrev pub IsPart : {A : Type 0} → ℕ → List A → List A → Type 0
IsPart {A} n xs ys = (front : List A) × (back : List A) × (ys ≡ front ++ (xs ++ back)) × (length front ≡ n)
