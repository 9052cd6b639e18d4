-- scripts are read in one way
use Rattle.std.proofs.Common.{◌≡◌, ◌<◌, ◌⊎◌, ℕ, List, [], ◌∷◌, ◌++◌, length, refl, sym, ap, subst, ◌∙◌, inl, inr, arith, append_assoc}
use Rattle.std.proofs.lemmas.List.Elements.{All-head, All-tail}
use Rattle.std.proofs.lemmas.Bool.Decides.{leb_tells}
use Rattle.std.specs.Prelude.{All}
use Rattle.clover_words.specs.declared.setup.Setup.{Setup}
use Rattle.clover_script.specs.Line.{pool_line, numbers_of, IsPoolLine, HasBadNumbers, IsIgnored, Spoken, IsSpoken, line_text}
use Rattle.clover_script.specs.Lines.{Say, Opens, Before, unopened, begun, IsBefore, IsLinesOf, IsSaidLine, IsUnbuiltLine, without_shape, too_early, bad_opening, second_opening, IsFirstUnbuiltLine, IsRefusedLine}
use Rattle.clover_script.proofs.SpokenLemmas.{one_spoken, no_pool, not_ignored, pool_stays}
use Rattle.clover_script.proofs.PoolLineLemmas.{one_pool, are_numbers, none_bad}

not_over : (line : List ℕ) → IsSaidLine line → IsIgnored line → ⊥
not_over line (s, is, e) over = not_ignored s (subst IsIgnored e over)

not_pool : (line : List ℕ) → IsSaidLine line → IsPoolLine line → ⊥
not_pool line (s, is, e) (n, fits, f) = no_pool s n (sym e ∙ f)

pool_not_over : (line : List ℕ) → IsPoolLine line → IsIgnored line → ⊥
pool_not_over line (n, fits, e) over = pool_stays n (subst IsIgnored e over)

its_pool : (s : Setup) → IsPoolLine (pool_line (numbers_of s))
its_pool s = (numbers_of s, are_numbers s, refl)

-- lines say one thing
one_say : (lines : List (List ℕ)) (a b : List Spoken) → Say lines a → Say lines b → a ≡ b
one_say [] a b p q = p ∙ sym q
one_say (l ∷ ls) a b (inl p) (inl q) = one_say ls a b p.1 q.1
one_say (l ∷ ls) a b (inl p) (inr (t, rest, is, e, f, more)) = absurd (not_over l (t, is, e) p.0)
one_say (l ∷ ls) a b (inr (t, rest, is, e, f, more)) (inl q) = absurd (not_over l (t, is, e) q.0)
one_say (l ∷ ls) a b (inr (t, x, is, e, f, p)) (inr (u, y, is', e', f', q)) =
    let same = one_spoken t u is is' (sym e ∙ e') in
    let rest = one_say ls x y p q in
    f ∙ ap (λ (h : Spoken). h ∷ x) same ∙ ap (λ (r : List Spoken). u ∷ r) rest ∙ sym f'

-- and part of them a part of it
say_split : (xs ys : List (List ℕ)) (said : List Spoken) → Say (xs ++ ys) said → (a : List Spoken) × (b : List Spoken) × (said ≡ a ++ b) × Say xs a × Say ys b
say_split [] ys said h = ([], said, refl, refl, h)
say_split (l ∷ xs) ys said (inl h) = let r = say_split xs ys said h.1 in (r.0, r.1, r.2, inl (h.0, r.3), r.4)
say_split (l ∷ xs) ys said (inr (s, rest, is, e, f, h)) =
    let r = say_split xs ys rest h in
    (s ∷ r.0, r.1, f ∙ ap (λ (m : List Spoken). s ∷ m) r.2, inr (s, r.0, is, e, refl, r.3), r.4)

-- lists that are equal have equal parts
same_parts : {A : Type 0} (x y : A) (xs ys : List A) → x ∷ xs ≡ y ∷ ys → (x ≡ y) × (xs ≡ ys)
same_parts x y xs ys e = let a : x ≡ y = cc in let b : xs ≡ ys = cc in (a, b)

-- what holds of all holds of one
all_at : {A : Type 0} (P : A → Type 0) (xs : List A) (x : A) (ys : List A) → All P (xs ++ x ∷ ys) → P x
all_at P [] x ys h = All-head P x ys h
all_at P (z ∷ zs) x ys h = all_at P zs x ys (All-tail P z (zs ++ x ∷ ys) h)

-- the first pool line behind lines that are passed over stands at one place
same_opening : (a b : List (List ℕ)) (p q : List ℕ) (x y : List (List ℕ)) → All IsIgnored a → All IsIgnored b → IsPoolLine p → IsPoolLine q
    → a ++ p ∷ x ≡ b ++ q ∷ y → (p ≡ q) × (x ≡ y)
same_opening [] [] p q x y f g is is' e = same_parts p q x y e
same_opening [] (m ∷ ms) p q x y f g is is' e =
    absurd (pool_not_over p is (subst IsIgnored (sym (same_parts p m x (ms ++ q ∷ y) e).0) (All-head IsIgnored m ms g)))
same_opening (l ∷ ls) [] p q x y f g is is' e =
    absurd (pool_not_over q is' (subst IsIgnored (same_parts l q (ls ++ p ∷ x) y e).0 (All-head IsIgnored l ls f)))
same_opening (l ∷ ls) (m ∷ ms) p q x y f g is is' e =
    same_opening ls ms p q x y (All-tail IsIgnored l ls f) (All-tail IsIgnored m ms g) is is' (same_parts l m (ls ++ p ∷ x) (ms ++ q ∷ y) e).1

-- a line behind lines that are passed over is passed over too, or is the first pool line
over_or_opening : (xs over : List (List ℕ)) (line p : List ℕ) (more rest : List (List ℕ)) → All IsIgnored xs → All IsIgnored over → IsPoolLine p
    → xs ++ line ∷ more ≡ over ++ p ∷ rest → IsIgnored line ⊎ (line ≡ p)
over_or_opening [] [] line p more rest f g is e = inr (same_parts line p more rest e).0
over_or_opening [] (m ∷ ms) line p more rest f g is e = inl (subst IsIgnored (sym (same_parts line m more (ms ++ p ∷ rest) e).0) (All-head IsIgnored m ms g))
over_or_opening (x ∷ xs) [] line p more rest f g is e =
    absurd (pool_not_over p is (subst IsIgnored (same_parts x p (xs ++ line ∷ more) rest e).0 (All-head IsIgnored x xs f)))
over_or_opening (x ∷ xs) (m ∷ ms) line p more rest f g is e =
    over_or_opening xs ms line p more rest (All-tail IsIgnored x xs f) (All-tail IsIgnored m ms g) is (same_parts x m (xs ++ line ∷ more) (ms ++ p ∷ rest) e).1

-- a line that is passed over is never unbuilt
over_built : (before : Before) (line : List ℕ) → IsIgnored line → IsUnbuiltLine before line → ⊥
over_built before line over (without_shape h) = h.over over
over_built unopened line over (too_early h) = not_over line h over
over_built unopened line over (bad_opening h) = pool_not_over line (h.0, h.1, h.2) over
over_built unopened line over (second_opening h) = h
over_built (begun s said) line over (too_early h) = h
over_built (begun s said) line over (bad_opening h) = h
over_built (begun s said) line over (second_opening h) = pool_not_over line h over

-- nor is the pool line that opens a script
opening_built : (s : Setup) (line : List ℕ) → line ≡ pool_line (numbers_of s) → IsUnbuiltLine unopened line → ⊥
opening_built s line e (without_shape h) = h.pool (numbers_of s, are_numbers s, e)
opening_built s line e (too_early h) = not_pool line h (numbers_of s, are_numbers s, e)
opening_built s line e (bad_opening (n, fits, f, bad)) = none_bad s (subst HasBadNumbers (one_pool n (numbers_of s) fits (are_numbers s) (sym f ∙ e)) bad)
opening_built s line e (second_opening h) = h

-- nor a line behind it that says something
said_built : (t : Setup) (other : List Spoken) (line : List ℕ) (u : Spoken) → IsSpoken u → line ≡ line_text u → IsUnbuiltLine (begun t other) line → ⊥
said_built t other line u is e (without_shape h) = h.said (u, is, e)
said_built t other line u is e (too_early h) = h
said_built t other line u is e (bad_opening h) = h
said_built t other line u is e (second_opening h) = not_pool line (u, is, e) h

-- what stands behind the opening
opened_rest : (s t : Setup) (said other : List Spoken) (xs : List (List ℕ)) (line : List ℕ) (more : List (List ℕ)) (o : Opens (xs ++ line ∷ more) s said) (r : Opens xs t other)
    → (numbers_of s ≡ numbers_of t) × (o.rest ≡ r.rest ++ line ∷ more)
opened_rest s t said other xs line more o r =
    let e : r.over ++ (pool_line (numbers_of t) ∷ (r.rest ++ line ∷ more)) ≡ o.over ++ pool_line (numbers_of s) ∷ o.rest =
    sym (append_assoc r.over (pool_line (numbers_of t) ∷ r.rest) (line ∷ more)) ∙ ap (λ (l : List (List ℕ)). l ++ line ∷ more) (sym r.parts) ∙ o.parts in
    let same = same_opening r.over o.over (pool_line (numbers_of t)) (pool_line (numbers_of s)) (r.rest ++ line ∷ more) o.rest r.ignored o.ignored (its_pool t) (its_pool s) e in
    (one_pool (numbers_of s) (numbers_of t) (are_numbers s) (are_numbers t) (sym same.0), sym same.1)

goes_on : (t : Setup) (other last : List Spoken) (line : List ℕ) (more : List (List ℕ)) → Say (line ∷ more) last → IsUnbuiltLine (begun t other) line → ⊥
goes_on t other last line more (inl (over, _)) bad = over_built (begun t other) line over bad
goes_on t other last line more (inr (u, rest, is, e, f, _)) bad = said_built t other line u is e bad

-- a line behind which a beginning goes on is not unbuilt there
built_line : (xs : List (List ℕ)) (line : List ℕ) (more : List (List ℕ)) (longer before : Before) → IsBefore (xs ++ line ∷ more) longer → IsBefore xs before
    → IsUnbuiltLine before line → ⊥
built_line xs line more unopened before h g bad = over_built before line (all_at IsIgnored xs line more h) bad
built_line xs line more (begun s said) unopened h g bad =
    elim (over_or_opening xs h.over line (pool_line (numbers_of s)) more h.rest g h.ignored (its_pool s) h.parts) [
      | inl over ↦ over_built unopened line over bad
      | inr is ↦ opening_built s line is bad
    ]
built_line xs line more (begun s said) (begun t other) h g bad =
    let on = opened_rest s t said other xs line more h g in
    let split = say_split g.rest (line ∷ more) said (subst (λ (l : List (List ℕ)). Say l said) on.1 h.say) in
    goes_on t other split.1 line more split.4 bad

-- one list ends where another goes on
longer_front : {A : Type 0} (xs ys : List A) (x y : A) (ms ns : List A) → xs ++ x ∷ ms ≡ ys ++ y ∷ ns → length xs < length ys → (zs : List A) × (ys ≡ xs ++ x ∷ zs)
longer_front xs [] x y ms ns e lt = absurd (omega arith)
longer_front [] (b ∷ ys) x y ms ns e lt = (ys, ap (λ z. z ∷ ys) (sym (same_parts x b ms (ys ++ y ∷ ns) e).0))
longer_front (a ∷ xs) (b ∷ ys) x y ms ns e lt =
    let parts = same_parts a b (xs ++ x ∷ ms) (ys ++ y ∷ ns) e in
    let r = longer_front xs ys x y ms ns parts.1 (omega arith) in
    (r.0, ap (λ z. z ∷ ys) (sym parts.0) ∙ ap (λ l. a ∷ l) r.1)

later : (text : List ℕ) (n m : ℕ) → IsFirstUnbuiltLine text n → IsFirstUnbuiltLine text m → n < m → ⊥
later text n m a b lt =
    let r = longer_front a.lines b.lines a.line b.line a.more b.more (sym a.parts ∙ b.parts) (omega (arith, a.number, b.number)) in
    built_line a.lines a.line r.0 b.before a.before (subst (λ (l : List (List ℕ)). IsBefore l b.before) r.1 b.so_far) a.so_far a.bad

-- a text is refused at one line
pub one_refused_line : (text : List ℕ) (n m : ℕ) → IsRefusedLine text n → IsRefusedLine text m → n ≡ m
one_refused_line text n m (inl a) (inl b) = elim (leb_tells n m) [
  | inl below ↦ elim (leb_tells m n) [
    | inl above ↦ omega arith
    | inr earlier ↦ absurd (later text n m a b (omega arith))
  ]
  | inr earlier ↦ absurd (later text m n b a (omega arith))
]
one_refused_line text n m (inl a) (inr b) = absurd (built_line a.lines a.line a.more unopened a.before (subst (All IsIgnored) a.parts b.0) a.so_far a.bad)
one_refused_line text n m (inr a) (inl b) = absurd (built_line b.lines b.line b.more unopened b.before (subst (All IsIgnored) b.parts a.0) b.so_far b.bad)
one_refused_line text n m (inr a) (inr b) = a.1 ∙ sym b.1

-- and then it is no script
pub lines_not_refused : (text : List ℕ) (s : Setup) (said : List Spoken) (n : ℕ) → IsLinesOf text s said → IsRefusedLine text n → ⊥
lines_not_refused text s said n script (inl a) =
    built_line a.lines a.line a.more (begun s said) a.before (subst (λ (l : List (List ℕ)). IsBefore l (begun s said)) a.parts script) a.so_far a.bad
lines_not_refused text s said n script (inr none) =
    let over = all_at IsIgnored script.over (pool_line (numbers_of s)) script.rest (subst (All IsIgnored) script.parts none.0) in
    pool_not_over (pool_line (numbers_of s)) (its_pool s) over

-- a script is read in one way
pub one_saying : (text : List ℕ) (s t : Setup) (said other : List Spoken) → IsLinesOf text s said → IsLinesOf text t other → (numbers_of s ≡ numbers_of t) × (said ≡ other)
one_saying text s t said other a b =
    let same = same_opening a.over b.over (pool_line (numbers_of s)) (pool_line (numbers_of t)) a.rest b.rest a.ignored b.ignored (its_pool s) (its_pool t) (sym a.parts ∙ b.parts) in
    let told = one_say b.rest said other (subst (λ (l : List (List ℕ)). Say l said) same.1 a.say) b.say in
    (one_pool (numbers_of s) (numbers_of t) (are_numbers s) (are_numbers t) same.0, told)
