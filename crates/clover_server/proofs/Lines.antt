-- The books beside those of a view: what a line of the one says of the other, and what stays where both get a new line.
use Rattle.std.proofs.Common.{◌≡◌, ◌≢◌, ℕ, List, ◌∷◌, Bool, cond, refl, sym, ap, ◌∙◌, subst, eq-eqb, ne_eqb}
use native.Mathlib.Decide.{ℕ_discrete}
use mathlib.Core.Logic.{dite}
use Rattle.std.specs.Prelude.{true}
use Rattle.clover_words.specs.declared.pool.Pool.{Pool}
use Rattle.clover_words.specs.declared.word.Buffer.{Buffer}
use Rattle.clover_words.specs.Place.{IsBuffer}
use Rattle.clover_words.specs.Tag.{TagParts, IsTag, tag_number, home, age}
use Rattle.clover_words.specs.Version.{buffer_at}
use Rattle.clover_words.proofs.Versions.{buffer_tag, age_tag}
use Rattle.clover_rule.specs.Content.{inside}
use Rattle.clover_rule.specs.Views.{Book, book, find_book, line as view_line}
use Rattle.clover_rule.specs.declared.view.BookLine.{BookLine}
use Rattle.clover_rule.specs.declared.view.BufferState.{BufferState}
use Rattle.clover_rule.specs.declared.view.BufferState.TheVariants.{Free as ViewFree, Worn as ViewWorn, Bound as ViewBound, Out as ViewOut}
use Rattle.clover_rule.proofs.Ties.{buffer_same, buffer_in}
use Rattle.clover_alloc.specs.Ledger.{Ledger, HasLines, buffer_of_tag, with_line, book as line_of}
use Rattle.clover_alloc.specs.Lines.{line}
use Rattle.clover_alloc.specs.declared.line.Line.{Line}
use Rattle.clover_alloc.specs.declared.line.Place.{Place}
use Rattle.clover_alloc.specs.declared.line.Place.TheVariants.{Free, Worn, Bound, Out}
use Rattle.clover_alloc.proofs.LedgerLemmas.{book-with_line_same, book-with_line_other}
use Rattle.clover_server.specs.Holding.{state_of, seen_book}

abbrev place_of : BufferState → Place
place_of ViewFree = Free
place_of ViewWorn = Worn
place_of ViewBound = Bound
place_of ViewOut = Out

place_again : (q : Place) → place_of (state_of q) ≡ q
place_again Free = refl
place_again Worn = refl
place_again Bound = refl
place_again Out = refl

abbrev generation_in : Book → ℕ
generation_in (book g q) = g

abbrev state_in : Book → BufferState
state_in (book g q) = q

-- the line that a view's book says
pub seen_line : (l : Line) (g : ℕ) (q : Place) → seen_book l ≡ book g (state_of q) → l ≡ line g q
seen_line l g q e = ap (line l.generation) (sym (place_again l.place)) ∙ (λ i. line (generation_in (e i)) (place_of (state_in (e i)))) ∙ ap (line g) (place_again q)

-- the books are those lines
abbrev pub SameBooks : Pool → List BookLine → Ledger → Type 0
SameBooks p bs books = (b : ℕ) → inside p b ≡ true → find_book bs b ≡ seen_book (line_of books (buffer_at b))

-- and so at each buffer but one
abbrev pub SameBut : Pool → ℕ → List BookLine → Ledger → Type 0
SameBut p n bs books = (b : ℕ) → inside p b ≡ true → n ≢ b → find_book bs b ≡ seen_book (line_of books (buffer_at b))

-- what the books say of a tag's buffer
pub tag_line : (p : Pool) (bs : List BookLine) (books : Ledger) (t : TagParts) (q : Place) → SameBooks p bs books → IsTag t → inside p (home (tag_number t)) ≡ true → find_book bs (home (tag_number t)) ≡ book (age (tag_number t)) (state_of q) → line_of books (buffer_of_tag t) ≡ line t.generation q
tag_line p bs books t q same h i e = seen_line (line_of books (buffer_of_tag t)) t.generation q
    (ap (λ (b : Buffer). seen_book (line_of books b)) (sym (buffer_tag t h)) ∙ sym (same (home (tag_number t)) i) ∙ e ∙ ap (λ (g : ℕ). book g (state_of q)) (age_tag t h))

-- a view that gets the line that the books have already
pub same_with_view : (p : Pool) (bs : List BookLine) (books : Ledger) (n g : ℕ) (s : BufferState) → SameBut p n bs books → seen_book (line_of books (buffer_at n)) ≡ book g s → SameBooks p (view_line n g s ∷ bs) books
same_with_view p bs books n g s same e b i = dite (ℕ_discrete n b)
    (λ d. ap (λ (t : Bool). cond t (book g s) (find_book bs b)) (eq-eqb n b d) ∙ sym e ∙ ap (λ (m : ℕ). seen_book (line_of books (buffer_at m))) d)
    (λ d. ap (λ (t : Bool). cond t (book g s) (find_book bs b)) (ne_eqb n b d) ∙ same b i d)

module _ (p : Pool) (bs : List BookLine) (books : Ledger) (whole : HasLines books) (of_pool : books.pool ≡ p) (n : ℕ) (i : inside p n ≡ true) (l : Line) where
  within : IsBuffer books.pool (buffer_at n)
  within = subst (λ (q : Pool). IsBuffer q (buffer_at n)) (sym of_pool) (buffer_in p n i)

  differs : (b : ℕ) → n ≢ b → buffer_at b ≢ buffer_at n
  differs b other e = other (sym (buffer_same b n (ap (λ (q : Buffer). q.node) e) (ap (λ (q : Buffer). q.index) e)))

  -- both get the same line
  pub same_with_line : (g : ℕ) (s : BufferState) → seen_book l ≡ book g s → SameBooks p bs books → SameBooks p (view_line n g s ∷ bs) (with_line books (buffer_at n) l)
  same_with_line g s e same b j = dite (ℕ_discrete n b)
      (λ d. ap (λ (t : Bool). cond t (book g s) (find_book bs b)) (eq-eqb n b d) ∙ sym e ∙ ap seen_book (sym (book-with_line_same books (buffer_at n) l whole within)) ∙ ap (λ (m : ℕ). seen_book (line_of (with_line books (buffer_at n) l) (buffer_at m))) d)
      (λ d. ap (λ (t : Bool). cond t (book g s) (find_book bs b)) (ne_eqb n b d) ∙ same b j ∙ ap seen_book (sym (book-with_line_other books (buffer_at n) l whole within (buffer_at b) (differs b d))))
