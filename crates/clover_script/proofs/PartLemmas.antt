-- the small words of a line: actors, times and tags
use Rattle.std.proofs.Common.{◌≡◌, ◌<◌, ◌/◌, ◌%◌, ◌^◌, ℕ, List, [], ◌∷◌, ◌++◌, sym, ◌∙◌, arith, append_assoc, append-nil}
use Rattle.std.specs.Prelude.{decimal, codes}
use Rattle.std.proofs.lemmas.Fmt.{decimal_injective}
use Rattle.clover_script.specs.Split.{Lacks, AreDigits, EndsNumber}
use Rattle.clover_script.specs.Text.{tag_text}
use Rattle.clover_script.proofs.LineLemmas.{one_split}
use Rattle.clover_script.proofs.NumberLemmas.{decimal_digits, one_number}

-- no space stands in a number
digits_lack : (ds : List ℕ) → AreDigits ds → Lacks 32 ds
digits_lack [] are = tt
digits_lack (d ∷ ds) are = (λ e. omega (arith, are.0, e), digits_lack ds are.1)

pub number_lacks : (n : ℕ) → n < 2 ^ 64 → Lacks 32 (decimal n)
number_lacks n lt = digits_lack (decimal n) (decimal_digits n lt)

pub lacks_append : (b : ℕ) (xs ys : List ℕ) → Lacks b xs → Lacks b ys → Lacks b (xs ++ ys)
lacks_append b [] ys h k = k
lacks_append b (x ∷ xs) ys h k = (h.0, lacks_append b xs ys h.1 k)

-- a number and what stands behind the space after it
pub number_split : (a b : ℕ) (x y : List ℕ) → a < 2 ^ 64 → b < 2 ^ 64 → decimal a ++ 32 ∷ x ≡ decimal b ++ 32 ∷ y → (a ≡ b) × (x ≡ y)
number_split a b x y p q e =
    let r = one_split 32 (decimal a) (decimal b) x y (number_lacks a p) (number_lacks b q) e in
    (decimal_injective a b p q r.0, r.1)

-- the parts of a tag
abbrev pub generation_on : ℕ → List ℕ
generation_on t = codes "." ++ (decimal (t % 2 ^ 20) ++ [])

abbrev pub index_on : ℕ → List ℕ
index_on t = codes "." ++ (decimal (t / 2 ^ 20 % 2 ^ 16) ++ generation_on t)

pub tag_parts : (t : ℕ) → tag_text t ≡ decimal (t / 2 ^ 36) ++ index_on t
tag_parts t = simp (append_assoc, append-nil)

pub index_ends : (t : ℕ) → EndsNumber (index_on t)
index_ends t = λ h. omega (arith, h.0)

pub generation_ends : (t : ℕ) → EndsNumber (generation_on t)
generation_ends t = λ h. omega (arith, h.0)

pub tag_lacks : (t : ℕ) → t < 2 ^ 42 → Lacks 32 (tag_text t)
tag_lacks t lt =
    let node = number_lacks (t / 2 ^ 36) (omega arith) in
    let index = number_lacks (t / 2 ^ 20 % 2 ^ 16) (omega arith) in
    let generation = number_lacks (t % 2 ^ 20) (omega arith) in
    let dot : Lacks 32 (codes ".") = (λ e. omega (arith, e), tt) in
    let a = lacks_append 32 (decimal (t / 2 ^ 36)) (codes ".") node dot in
    let b = lacks_append 32 (decimal (t / 2 ^ 36) ++ codes ".") (decimal (t / 2 ^ 20 % 2 ^ 16)) a index in
    let d = lacks_append 32 (decimal (t / 2 ^ 36) ++ codes "." ++ decimal (t / 2 ^ 20 % 2 ^ 16)) (codes ".") b dot in
    lacks_append 32 (decimal (t / 2 ^ 36) ++ codes "." ++ decimal (t / 2 ^ 20 % 2 ^ 16) ++ codes ".") (decimal (t % 2 ^ 20)) d generation

same_rest : (b : ℕ) (x y : List ℕ) → b ∷ x ≡ b ∷ y → x ≡ y
same_rest b x y e = cc

-- a text is one tag's
pub one_tag : (t u : ℕ) → t < 2 ^ 42 → u < 2 ^ 42 → tag_text t ≡ tag_text u → t ≡ u
one_tag t u p q e =
    let node = one_number (t / 2 ^ 36) (u / 2 ^ 36) (index_on t) (index_on u) (omega arith) (omega arith) (index_ends t) (index_ends u) (sym (tag_parts t) ∙ e ∙ tag_parts u) in
    let index = one_number (t / 2 ^ 20 % 2 ^ 16) (u / 2 ^ 20 % 2 ^ 16) (generation_on t) (generation_on u) (omega arith) (omega arith) (generation_ends t) (generation_ends u) (same_rest 46 _ _ node.1) in
    let generation = one_number (t % 2 ^ 20) (u % 2 ^ 20) [] [] (omega arith) (omega arith) tt tt (same_rest 46 _ _ index.1) in
    omega (arith, node.0, index.0, generation.0)

-- a tag and what stands behind the space after it
pub tag_split : (t u : ℕ) (x y : List ℕ) → t < 2 ^ 42 → u < 2 ^ 42 → tag_text t ++ 32 ∷ x ≡ tag_text u ++ 32 ∷ y → (t ≡ u) × (x ≡ y)
tag_split t u x y p q e =
    let r = one_split 32 (tag_text t) (tag_text u) x y (tag_lacks t p) (tag_lacks u q) e in
    (one_tag t u p q r.0, r.1)
