-- what a source in memory gives
use Rattle.std.proofs.Common.{◌≡◌, ◌+◌, ◌<◌, ℕ, List, [], ◌++◌, length, min, take, drop, ap, subst, sym, ◌∙◌, arith, length-append, length-drop}
use Rattle.std.proofs.lemmas.List.{take-append-drop, length-take-le, drop_all, drop-drop}
use Rattle.std.proofs.Math.Seq.{take-append_seam}

-- as many bytes from place `at` on as there were and as there was room for
pub moved : (bs into new : List ℕ) (at n : ℕ) → n ≡ min (length (drop at bs)) (length into) → new ≡ take n (drop at bs) ++ drop n into
    → (drop at bs ≡ take n new ++ drop (at + n) bs) × (n ≡ 0 → 0 < length new → drop (at + n) bs ≡ [])
moved bs into new at n is e =
    let copied : List ℕ = take n (drop at bs) in
    let l : length copied ≡ n = length-take-le n (drop at bs) (omega arith) in
    let front : take n (copied ++ drop n into) ≡ copied = subst (λ (k : ℕ). take k (copied ++ drop n into) ≡ copied) l (take-append_seam copied (drop n into)) in (
      sym (take-append-drop n (drop at bs)) ∙ ap (λ r. take n (drop at bs) ++ r) (drop-drop n at bs)
          ∙ ap (λ r. r ++ drop (at + n) bs) (sym (ap (take n) e ∙ front)),
      λ z some.
          let lt : 0 < length into = omega (arith, ap length e, length-append copied (drop n into), length-drop n into, l) in
          drop_all (at + n) bs (omega (arith, length-drop at bs)),
    )
