-- texts that are cut, and their lines
use Rattle.std.proofs.Common.{sym, zero, suc, ◌≡◌, ◌≢◌, ◌==◌, ◌<◌, ℕ, Option, Some, None, List, [], ◌∷◌, ◌++◌, length, get_or, take, refl, ap, ◌∙◌, arith}
use Rattle.std.specs.Prelude.{if◌then◌else◌, IfNone}
use Rattle.std.proofs.lemmas.Bool.Decides.{nat_tests}
use Rattle.clover_script.specs.Line.{lines_of, with_front}
use Rattle.clover_script.specs.Split.{Lacks, EndsWord}

no_break : (b : ℕ) (x y : List (List ℕ)) → b ≢ 10 → (if b == 10 then x else y) ≡ y
no_break b x y h = grind (arith, nat_tests)

-- a line that LF ends
pub ended_line : (line rest : List ℕ) → Lacks 10 line → lines_of (line ++ 10 ∷ rest) ≡ line ∷ lines_of rest
ended_line [] rest none = refl
ended_line (b ∷ bs) rest none = no_break b _ _ none.0 ∙ ap (with_front b) (ended_line bs rest none.1)

-- a last line that nothing ends
pub last_line : (text : List ℕ) → 0 < length text → Lacks 10 text → lines_of text ≡ text ∷ []
last_line [] some none = absurd (omega arith)
last_line (b ∷ []) some none = no_break b _ _ none.0
last_line (b ∷ c ∷ cs) some none = no_break b _ _ none.0 ∙ ap (with_front b) (last_line (c ∷ cs) (omega arith) none.1)

-- a text up to the first place of a byte lacks it
pub lacks_front : (b : ℕ) (text : List ℕ) (at : ℕ) → ((k : ℕ) → k < at → get_or text k 0 ≢ b) → Lacks b (take at text)
lacks_front b text zero none = tt
lacks_front b [] (suc n) none = tt
lacks_front b (x ∷ xs) (suc n) none = (none 0 (omega arith), lacks_front b xs n (λ k l. none (suc k) (omega arith)))

pub lacks_all : (b : ℕ) (text : List ℕ) → ((k : ℕ) → k < length text → get_or text k 0 ≢ b) → Lacks b text
lacks_all b [] none = tt
lacks_all b (x ∷ xs) none = (none 0 (omega arith), lacks_all b xs (λ k l. none (suc k) (omega arith)))

-- a fact that holds anyway holds where there is nothing
pub if_none : {A P : Type 0} (o : Option A) → P → IfNone o P
if_none None p = p
if_none (Some a) p = tt

-- what stands before the first place of a byte, and behind it, is one thing
pub one_split : (b : ℕ) (v w x y : List ℕ) → Lacks b v → Lacks b w → v ++ b ∷ x ≡ w ++ b ∷ y → (v ≡ w) × (x ≡ y)
one_split b [] [] x y p q e = let s : x ≡ y = cc in (refl, s)
one_split b [] (d ∷ w) x y p q e = let s : d ≡ b = cc in absurd (q.0 s)
one_split b (c ∷ v) [] x y p q e = let s : c ≡ b = cc in absurd (p.0 s)
one_split b (c ∷ v) (d ∷ w) x y p q e =
    let s : c ≡ d = cc in
    let t : v ++ b ∷ x ≡ w ++ b ∷ y = cc in
    let r = one_split b v w x y p.1 q.1 t in
    let u : v ≡ w = r.0 in
    (cc, r.1)

-- and a word and what stands behind it are one thing
pub one_word : (v w x y : List ℕ) → Lacks 32 v → Lacks 32 w → EndsWord x → EndsWord y → v ++ x ≡ w ++ y → (v ≡ w) × (x ≡ y)
one_word [] [] x y p q ex ey e = (refl, e)
one_word [] (d ∷ w) [] y p q ex ey e = absurd (cc)
one_word [] (d ∷ w) (a ∷ x) y p q ex ey e = let s : a ≡ d = cc in absurd (q.0 (sym s ∙ ex))
one_word (c ∷ v) [] x [] p q ex ey e = absurd (cc)
one_word (c ∷ v) [] x (a ∷ y) p q ex ey e = let s : c ≡ a = cc in absurd (p.0 (s ∙ ey))
one_word (c ∷ v) (d ∷ w) x y p q ex ey e =
    let s : c ≡ d = cc in
    let t : v ++ x ≡ w ++ y = cc in
    let r = one_word v w x y p.1 q.1 ex ey t in
    let u : v ≡ w = r.0 in
    (cc, r.1)

-- a text that lacks a byte is not cut there
pub no_split : (b : ℕ) (text v x : List ℕ) → Lacks b text → text ≡ v ++ b ∷ x → ⊥
no_split b [] [] x h e = cc
no_split b [] (c ∷ v) x h e = cc
no_split b (a ∷ s) [] x h e = let same : a ≡ b = cc in h.0 same
no_split b (a ∷ s) (c ∷ v) x h e = let rest : s ≡ v ++ b ∷ x = cc in no_split b s v x h.1 rest
