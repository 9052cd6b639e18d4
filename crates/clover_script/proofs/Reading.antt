-- how far the lines of a text are checked
use Rattle.std.proofs.Common.{◌≡◌, ◌+◌, ℕ, Option, Some, None, List, [], ◌∷◌, ◌++◌, length, refl, sym, ap, subst, ◌∙◌, inl, inr, arith, append_assoc, append-nil}
use Rattle.std.proofs.lemmas.List.{length-append}
use Rattle.std.specs.Prelude.{All, IfNone}
use Rattle.clover_words.specs.declared.setup.Setup.{Setup}
use Rattle.clover_script.specs.declared.check.BadLine.{BadLine}
use Rattle.clover_script.specs.declared.line.LineFault.TheVariants.{Unbuilt}
use Rattle.clover_script.specs.declared.line.PoolLine.{PoolLine}
use Rattle.clover_script.specs.Line.{AreNumbers, lines_of, pool_line, numbers_of, HasBadNumbers, IsIgnored, Spoken}
use Rattle.clover_script.specs.Lines.{begun, unopened, IsBefore, IsBuilt, IsLinesOf, IsRefusedLine, IsUnbuiltLine, bad_opening}
use Rattle.clover_script.proofs.LinesSteps.{before_over, unopened_over, before_first, before_said}

-- a pool line whose numbers are bad opens nothing
pub bad_pool : (line : List ℕ) (n : PoolLine) (o : Option Setup) → AreNumbers n → line ≡ pool_line n → IfNone o (HasBadNumbers n) → IfNone o (IsUnbuiltLine unopened line)
bad_pool line n None fits e bad = bad_opening (n, fits, e, bad)
bad_pool line n (Some s) fits e bad = tt

-- Of the text so many lines are read, which open a script of this setup, and the rest is left.
pub record IsReadTo (text : List ℕ) (s : Setup) (rest : List ℕ) (lines : ℕ) : Type 0 where
  pub front : List (List ℕ)
  pub said : List Spoken
  pub parts : lines_of text ≡ front ++ lines_of rest
  pub so_far : IsBefore front (begun s said)
  pub number : lines ≡ length front

one_further : (text line rest after : List ℕ) (front : List (List ℕ)) → lines_of text ≡ front ++ lines_of rest → lines_of rest ≡ line ∷ lines_of after
    → lines_of text ≡ (front ++ line ∷ []) ++ lines_of after
one_further text line rest after front read next =
    read ∙ ap (λ (ls : List (List ℕ)). front ++ ls) next ∙ sym (append_assoc front (line ∷ []) (lines_of after))

-- a line that is passed over
pub over_next : (text line rest after : List ℕ) (n : ℕ) → ((over : List (List ℕ)) × All IsIgnored over × (lines_of text ≡ over ++ lines_of rest) × (n ≡ length over))
    → lines_of rest ≡ line ∷ lines_of after → IsIgnored line → (over : List (List ℕ)) × All IsIgnored over × (lines_of text ≡ over ++ lines_of after) × (n + 1 ≡ length over)
over_next text line rest after n (over, all, read, number) next is =
    (over ++ line ∷ [], unopened_over over line is all, one_further text line rest after over read next, simp length-append (omega (arith, number)))

-- the pool line behind lines that are passed over
pub read_first : (text line rest after : List ℕ) (n : ℕ) (s : Setup) → ((over : List (List ℕ)) × All IsIgnored over × (lines_of text ≡ over ++ lines_of rest) × (n ≡ length over))
    → lines_of rest ≡ line ∷ lines_of after → line ≡ pool_line (numbers_of s) → IsReadTo text s after (n + 1)
read_first text line rest after n s (over, all, read, number) next opens = record {
  front = over ++ line ∷ [];
  said = [];
  parts = one_further text line rest after over read next;
  so_far = before_first over s line all opens;
  number = simp length-append (omega (arith, number));
}

-- one line more
pub read_next : (text line rest after : List ℕ) (s : Setup) (lines : ℕ) → IsReadTo text s rest lines → lines_of rest ≡ line ∷ lines_of after → IsBuilt line → IsReadTo text s after (lines + 1)
read_next text line rest after s lines h next (inl over) = record {
  front = h.front ++ line ∷ [];
  said = h.said;
  parts = one_further text line rest after h.front h.parts next;
  so_far = before_over h.front s h.said line over h.so_far;
  number = simp length-append (omega (arith, h.number));
}
read_next text line rest after s lines h next (inr (u, is, e)) = record {
  front = h.front ++ line ∷ [];
  said = h.said ++ u ∷ [];
  parts = one_further text line rest after h.front h.parts next;
  so_far = before_said h.front s h.said line u h.so_far is e;
  number = simp length-append (omega (arith, h.number));
}

-- or one that is not built
pub read_bad : (text line rest after : List ℕ) (s : Setup) (lines : ℕ) (bad : BadLine) → IsReadTo text s rest lines → lines_of rest ≡ line ∷ lines_of after → ((t : Setup) (said : List Spoken) → IsUnbuiltLine (begun t said) line)
    → (bad.line ≡ lines + 1) × (bad.fault ≡ Unbuilt) → (bad.fault ≡ Unbuilt) × IsRefusedLine text bad.line
read_bad text line rest after s lines bad h next unbuilt (at, fault) =
    (fault, inl (record { before = begun s h.said; lines = h.front; line = line; more = lines_of after; parts = h.parts ∙ ap (λ (ls : List (List ℕ)). h.front ++ ls) next; so_far = h.so_far; bad = unbuilt s h.said; number = omega (arith, at, h.number) }))

no_text : (text : List ℕ) → length text ≡ 0 → lines_of text ≡ []
no_text [] none = refl
no_text (b ∷ bs) none = absurd (omega (arith, none))

-- and no line more
pub read_all : (text rest : List ℕ) (s : Setup) (lines : ℕ) → IsReadTo text s rest lines → length rest ≡ 0 → (said : List Spoken) × IsLinesOf text s said
read_all text rest s lines h none =
    let all : lines_of text ≡ h.front = h.parts ∙ ap (λ (ls : List (List ℕ)). h.front ++ ls) (no_text rest none) ∙ append-nil h.front in
    (h.said, subst (λ (ls : List (List ℕ)). IsBefore ls (begun s h.said)) (sym all) h.so_far)
