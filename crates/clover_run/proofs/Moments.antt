-- What holds between any two records: it holds before the first, and where it holds behind one record more.
use Rattle.std.proofs.Common.{◌≡◌, List, [], ◌∷◌, ◌++◌, refl, sym, ap, ◌∙◌, subst, inl, inr, ◌⊎◌, append_assoc, append-nil}
use Rattle.clover_event.proofs.Places.{same_snoc}
use Rattle.clover_run.specs.Record.{Record}
use Rattle.clover_run.proofs.Stretch.{ending}

-- nothing is before no records
pub no_front : (xs ys : List Record) → [] ≡ xs ++ ys → [] ≡ xs
no_front [] ys e = refl
no_front (x ∷ xs) ys e = absurd cc

pub at_first : (P : List Record → Type 0) → P [] → (before after : List Record) → [] ≡ before ++ after → P before
at_first P first before after whole = subst P (no_front before after whole) first

pub at_more : (P : List Record → Type 0) (rs : List Record) (r : Record) → ((before after : List Record) → rs ≡ before ++ after → P before) → P (rs ++ r ∷ []) → (before after : List Record) → rs ++ r ∷ [] ≡ before ++ after → P before
at_more P rs r all now before after whole = go (ending after)
  where
    go : (after ≡ []) ⊎ ((ys : List Record) × (y : Record) × (after ≡ ys ++ y ∷ [])) → P before
    go (inl e) = subst P (whole ∙ ap (λ (l : List Record). before ++ l) e ∙ append-nil before) now
    go (inr (ys, y, e)) =
        let there : rs ++ r ∷ [] ≡ (before ++ ys) ++ y ∷ [] = whole ∙ ap (λ (l : List Record). before ++ l) e ∙ sym (append_assoc before ys (y ∷ [])) in
        all before ys (same_snoc rs (before ++ ys) r y there).0
