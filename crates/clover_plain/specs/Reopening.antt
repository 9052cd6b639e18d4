-- How the next run of a pool begins: what books and directory say of its words, and what the server then knows.
use Prim.Native.Nat.{suc}
use Rattle.std.specs.Prelude.{◌≡◌, ℕ, List, [], ◌∷◌, map, true, Option, Some, None}
use Rattle.std.specs.Option.{option_map}
use Rattle.clover_words.specs.declared.pool.Pool.{Pool}
use Rattle.clover_words.specs.declared.setup.Setup.{Setup}
use Rattle.clover_words.specs.Tag.{TagParts, tag_number}
use Rattle.clover_words.specs.Version.{buffer_at}
use Rattle.clover_alloc.specs.Ledger.{Ledger, book as line_at}
use Rattle.clover_alloc.specs.declared.line.Line.{Line}
use Rattle.clover_alloc.specs.declared.line.Place.{Place}
use Rattle.clover_alloc.specs.declared.line.Place.TheVariants.{Free, Worn, Bound, Out}
use Rattle.clover_dir.specs.Directory.{Bindings, root_of}
use Rattle.clover_rule.specs.Content.{inside}
use Rattle.clover_rule.specs.Cut.{image_of}
use Rattle.clover_rule.specs.Restart.{AreBindings, book_in, buffers_of}
use Rattle.clover_rule.specs.Sound.{Sound}
use Rattle.clover_rule.specs.Views.{Book, book, line, no_server}
use Rattle.clover_rule.specs.declared.view.BookLine.{BookLine}
use Rattle.clover_rule.specs.declared.view.BufferState.{BufferState}
use Rattle.clover_rule.specs.declared.view.BufferState.TheVariants.{Free as ViewFree, Worn as ViewWorn, Bound as ViewBound, Out as ViewOut}
use Rattle.clover_rule.specs.declared.view.View.{View}
use Rattle.clover_plain.specs.Plain.{Plain, numbers, resting_view}

-- a place of the books as a view has it, and a line
abbrev pub state_of : Place → BufferState
state_of Free = ViewFree
state_of Worn = ViewWorn
state_of Bound = ViewBound
state_of Out = ViewOut

abbrev pub seen_line : Line → Book
seen_line l = book l.generation (state_of l.place)

-- Books and directory are those of the words: the directory lists the slots that have a root, each with its key, and has their roots; and the books say of each buffer what the words do.
pub record AreOfWords (p : Pool) (ws : List ℕ) (books : Ledger) (d : Bindings) : Type 0 where
  pub bindings : AreBindings (image_of p ws) 0 p.slots d.list
  pub roots : (s : ℕ) → option_map tag_number (root_of d s) ≡ (image_of p ws).root s
  pub lines : (sound : Sound p (image_of p ws)) (b : ℕ) → inside p b ≡ true → seen_line (line_at books (buffer_at b)) ≡ book_in p (image_of p ws) sound b

-- what the books say of a buffer, as a line of a view
abbrev pub view_line : Ledger → ℕ → BookLine
view_line books b = line b (line_at books (buffer_at b)).generation (state_of (line_at books (buffer_at b)).place)

-- the roots of the slots from one on
abbrev pub roots_from : ℕ → List (Option TagParts) → List (ℕ × ℕ)
roots_from s [] = []
roots_from s (None ∷ xs) = roots_from (suc s) xs
roots_from s (Some t ∷ xs) = (s, tag_number t) ∷ roots_from (suc s) xs

-- the view with the server's part of a run that begins with these books and this directory: nothing is unfinished, and all clients are made
abbrev pub with_server : Setup → Ledger → Bindings → View → View
with_server s books d v = record v { server = record no_server { books = map (view_line books) (buffers_of s.pool); directory = d.list; roots = roots_from 0 d.roots; clients = numbers s.clients } }

-- what the server knows as the next run begins
abbrev pub serving_view : Plain → Ledger → Bindings → View
serving_view p books d = with_server p.setup books d (resting_view p p.setup.clients)
