-- the first line of a text that asks for a power cut or the image of one
use Rattle.std.proofs.Common.{◌≡◌, ◌≤◌, ◌+◌, ℕ, List, [], ◌∷◌, ◌++◌, length, refl, sym, ap, subst, ◌∙◌, inl, inr, arith, append_assoc, append-nil}
use Rattle.std.proofs.Math.Nat.{min-eq_left, min-eq_right}
use Rattle.std.proofs.lemmas.Bool.{cases_lt}
use Rattle.std.proofs.lemmas.List.{length-append}
use Rattle.std.proofs.lemmas.List.Elements.{All-nil, All-head, All-tail, All-push}
use Rattle.std.specs.Prelude.{◌⊎◌, min, All}
use Rattle.clover_words.specs.declared.setup.Setup.{Setup}
use Rattle.clover_script.specs.Line.{lines_of, IsLineOfCuts, Spoken}
use Rattle.clover_script.specs.Lines.{IsLinesOf, IsRefusedLine}
use Rattle.clover_script.proofs.LinesLaws.{lines_not_refused, one_refused_line}
use Rattle.clover_main.specs.Cuts.{IsUncut, HasNoCuts, CutsAt, StandsAgainst, IsTurnedDown}

-- Of the text so many lines were passed, none of which asks for a cut, and the rest is left.
pub record Passes (text rest : List ℕ) (lines : ℕ) : Type 0 where
  pub front : List (List ℕ)
  pub parts : lines_of text ≡ front ++ lines_of rest
  pub uncut : All IsUncut front
  pub number : lines ≡ length front

pub passes_none : (text : List ℕ) → Passes text text 0
passes_none text = record { front = []; parts = refl; uncut = All-nil IsUncut; number = refl }

pub passes_one : (text line rest after : List ℕ) (n : ℕ) → Passes text rest n → lines_of rest ≡ line ∷ lines_of after → IsUncut line → Passes text after (n + 1)
passes_one text line rest after n h next is = record {
  front = h.front ++ line ∷ [];
  parts = h.parts ∙ ap (λ (ls : List (List ℕ)). h.front ++ ls) next ∙ sym (append_assoc h.front (line ∷ []) (lines_of after));
  uncut = All-push IsUncut h.front line h.uncut is;
  number = simp length-append (omega (arith, h.number));
}

-- such a line stands behind those that are none
behind : (front rest before : List (List ℕ)) (line : List ℕ) (more : List (List ℕ)) → All IsUncut front → IsLineOfCuts line → front ++ rest ≡ before ++ line ∷ more → length front ≤ length before
behind [] rest before line more all cuts e = omega arith
behind (x ∷ xs) rest [] line more all cuts e = let same : line ≡ x = cc in absurd (All-head IsUncut x xs all (subst IsLineOfCuts same cuts))
behind (x ∷ xs) rest (y ∷ ys) line more all cuts e =
    let tail : xs ++ rest ≡ ys ++ line ∷ more = cc in
    omega (arith, behind xs rest ys line more (All-tail IsUncut x xs all) cuts tail)

pub first_cut : (text line rest after : List ℕ) (n : ℕ) → Passes text rest n → lines_of rest ≡ line ∷ lines_of after → IsLineOfCuts line → CutsAt text (n + 1) × ((m : ℕ) → CutsAt text m → n + 1 ≤ m)
first_cut text line rest after n h next is = (
  record {
    before = h.front;
    line = line;
    more = lines_of after;
    parts = h.parts ∙ ap (λ (ls : List (List ℕ)). h.front ++ ls) next;
    cuts = is;
    number = omega (arith, h.number);
  },
  λ m at. omega (arith, h.number, at.number, behind h.front (lines_of rest) at.before at.line at.more h.uncut at.cuts (sym h.parts ∙ at.parts)),
)

no_lines : (text : List ℕ) → length text ≡ 0 → lines_of text ≡ []
no_lines [] none = refl
no_lines (b ∷ bs) none = absurd (omega (arith, none))

pub passes_all : (text rest : List ℕ) (n : ℕ) → Passes text rest n → length rest ≡ 0 → HasNoCuts text
passes_all text rest n h none = subst (All IsUncut) (sym (h.parts ∙ ap (λ (ls : List (List ℕ)). h.front ++ ls) (no_lines rest none) ∙ append-nil h.front)) h.uncut

-- a text without such a line has it nowhere
pub cuts_nowhere : (text : List ℕ) (n : ℕ) → HasNoCuts text → CutsAt text n → ⊥
cuts_nowhere text n none at =
    omega (
      arith,
      behind (lines_of text) [] at.before at.line at.more none at.cuts (append-nil (lines_of text) ∙ at.parts),
      ap length at.parts,
      length-append at.before (at.line ∷ at.more),
    )

-- where a script is refused for such a line alone
pub down_at_cut : (text : List ℕ) (s : Setup) (said : List Spoken) (n : ℕ) → IsLinesOf text s said → CutsAt text n → ((m : ℕ) → CutsAt text m → n ≤ m) → IsTurnedDown text n
down_at_cut text s said n script at least = (inr at, λ m against. elim against as (λ _. n ≤ m) [ inl bad ↦ absurd (lines_not_refused text s said m script bad) | inr cut ↦ least m cut ])

-- a text without one is refused as its lines are
pub down_at_line : (text : List ℕ) (n : ℕ) → IsRefusedLine text n → HasNoCuts text → IsTurnedDown text n
down_at_line text n bad none = (
  inl bad,
  λ m against. elim against as (λ _. n ≤ m) [ inl other ↦ omega (arith, one_refused_line text n m bad other) | inr cut ↦ absurd (cuts_nowhere text m none cut) ],
)

least_of : (k n l : ℕ) → l ≡ min k n → ((l ≡ n) × (n ≤ k)) ⊎ ((l ≡ k) × (k ≤ n))
least_of k n l is = elim (cases_lt k n) [ inl lt ↦ inr (is ∙ min-eq_left (omega (arith, lt)), omega (arith, lt)) | inr ge ↦ inl (is ∙ min-eq_right ge, ge) ]

down_at_either : (text : List ℕ) (n k l : ℕ) → IsRefusedLine text n → CutsAt text k → ((m : ℕ) → CutsAt text m → k ≤ m) → ((l ≡ n) × (n ≤ k)) ⊎ ((l ≡ k) × (k ≤ n)) → IsTurnedDown text l
down_at_either text n k l bad at least (inl (is, le)) = (
  inl (subst (IsRefusedLine text) (sym is) bad),
  λ m against. elim against as (λ _. l ≤ m) [ inl other ↦ omega (arith, is, one_refused_line text n m bad other) | inr cut ↦ omega (arith, is, le, least m cut) ],
)
down_at_either text n k l bad at least (inr (is, le)) = (
  inr (subst (CutsAt text) (sym is) at),
  λ m against. elim against as (λ _. l ≤ m) [ inl other ↦ omega (arith, is, le, one_refused_line text n m bad other) | inr cut ↦ omega (arith, is, least m cut) ],
)

-- and a text that is refused for both at the first of the two lines
pub down_at_first : (text : List ℕ) (n k l : ℕ) → IsRefusedLine text n → CutsAt text k → ((m : ℕ) → CutsAt text m → k ≤ m) → l ≡ min k n → IsTurnedDown text l
down_at_first text n k l bad at least is = down_at_either text n k l bad at least (least_of k n l is)
