-- What binding and giving back make of whole books.
use Rattle.std.proofs.Common.{◌≡◌, ◌≢◌, ℕ, ◌+◌, ◌<◌, Bool, true, false, refl, sym, ap, subst, ⊎_elim, arith, nat_eq}
use Rattle.std.proofs.lemmas.Bool.{cases_lt, eqb-true, eqb-false}
use Rattle.std.specs.Prelude.{if◌then◌else◌}
use Rattle.clover_words.specs.declared.word.Buffer.{Buffer}
use Rattle.clover_words.specs.Place.{IsBuffer}
use Rattle.clover_alloc.specs.declared.line.Place.{Place}
use Rattle.clover_alloc.specs.declared.line.Place.TheVariants.{Free, Worn}
use Rattle.clover_alloc.specs.declared.line.Line.{Line}
use Rattle.clover_alloc.specs.Lines.{line}
use Rattle.clover_alloc.specs.Ledger.{Ledger, book, with_line, KeepsSpent, IsLedger, MayHave}
use Rattle.clover_alloc.specs.Calls.{next_line}
use Rattle.clover_alloc.proofs.LedgerLemmas.{is_within, IsLedger-with_line, KeepsSpent-with_line}

-- a line that is not worn is below the wear, and any such line may be had
pub serves : (wear g : ℕ) (p : Place) → p ≢ Worn → MayHave wear (line g p) → g < wear
serves wear g p serving may = ⊎_elim (λ below. below) (λ above. absurd (serving (may.worn.1 (omega (arith, may.most, above))))) (cases_lt g wear)

pub may_serve : (wear g : ℕ) (p : Place) → p ≢ Worn → g < wear → MayHave wear (line g p)
may_serve wear g p serving below = record { most = omega arith; worn = (λ worn. absurd (serving worn), λ at. absurd (omega arith)) }

pub may_be_next : (wear g : ℕ) → g < wear → MayHave wear (next_line wear g)
may_be_next wear g below = either (nat_eq (g + 1) wear) refl
  where
    either : (b : Bool) → nat_eq (g + 1) wear ≡ b → MayHave wear (line (g + 1) (if b then Worn else Free))
    either true at = record { most = omega arith; worn = (λ _. eqb-true (g + 1) wear at, λ _. refl) }
    either false apart = record { most = omega arith; worn = (λ free. cc, λ at. absurd (eqb-false (g + 1) wear apart at)) }

pub may_be_worn : (wear g : ℕ) (p : Place) → p ≡ Worn → g ≡ wear → MayHave wear (line g p)
may_be_worn wear g p worn at = record { most = omega arith; worn = (λ _. at, λ _. worn) }

module _ (books : Ledger) (whole : IsLedger books) (b : Buffer) (g : ℕ) (p : Place) (serving : p ≢ Worn) (is : book books b ≡ line g p) where
  -- a buffer of such a line is in the pool, and below the wear
  pub line_within : IsBuffer books.pool b
  line_within = is_within books b whole.lines (subst (λ (m : Line). m.place ≢ Worn) (sym is) serving)

  pub line_serves : g < books.pool.wear
  line_serves = serves books.pool.wear g p serving (subst (MayHave books.pool.wear) is (whole.each b line_within))

  generation_is : (book books b).generation ≡ g
  generation_is = ap (λ (m : Line). m.generation) is

  -- at the same generation it may go to another place, though not back to the free ones
  pub moved_whole : (q : Place) → q ≢ Worn → IsLedger (with_line books b (line g q))
  moved_whole q q_serving = IsLedger-with_line books b (line g q) whole line_within (may_serve books.pool.wear g q q_serving line_serves)

  pub moved_keeps : (q : Place) → q ≢ Free → KeepsSpent books (with_line books b (line g q))
  moved_keeps q taken = KeepsSpent-with_line books b (line g q) whole.lines line_within (omega (arith, generation_is)) (λ _. taken)

  -- it may come back at the next generation
  pub back_whole : IsLedger (with_line books b (next_line books.pool.wear g))
  back_whole = IsLedger-with_line books b (next_line books.pool.wear g) whole line_within (may_be_next books.pool.wear g line_serves)

  pub back_keeps : (q : Place) → KeepsSpent books (with_line books b (line (g + 1) q))
  back_keeps q = KeepsSpent-with_line books b (line (g + 1) q) whole.lines line_within (omega (arith, generation_is)) (λ at. absurd (omega (arith, generation_is, at)))
