-- What the moves of seats make of the views, and what a move asks of the views that it changes.
use Rattle.std.specs.Prelude.{◌≡◌, ℕ, List, [], ◌∷◌, ◌++◌, length, slice_set, true}
use Rattle.clover_rule.specs.History.{longer}
use Rattle.std.specs.FinMap as finite
use Rattle.std.proofs.Common.{refl, ◌*◌}
use Rattle.std.proofs.lemmas.Bool.{leb-true}
use Rattle.clover_words.specs.declared.pool.Pool.{Pool}
use Rattle.clover_words.specs.Tag.{home, age}
use Rattle.clover_rule.specs.Content.{inside}
use Rattle.clover_rule.specs.Lists.{Each, IsPart, Within}
use Rattle.clover_rule.specs.Server.{waiting_name}
use Rattle.clover_rule.specs.Views.{Apart, alone, book, book_at, empty_pass, line, start_pass}
use Rattle.clover_rule.specs.declared.view.BookLine.{BookLine}
use Rattle.clover_rule.specs.declared.view.BufferState.TheVariants.{Free, Out}
use Rattle.clover_rule.specs.declared.view.Role.TheVariants.{Client, Serving, Granting, Noting, Joined}
use Rattle.clover_rule.specs.declared.view.View.{View}

-- a split renews a view and puts another one behind the list
abbrev pub split : List View → ℕ → View → View → List View
split vs i left right = slice_set vs i left ++ right ∷ []

-- a join renews two views
abbrev pub joined : List View → ℕ → View → ℕ → View → List View
joined vs i both j spent = slice_set (slice_set vs i both) j spent

-- the server has made a client
abbrev pub making : ℕ → View → View
making n v = record v { server = record v.server { clients = n ∷ v.server.clients; unlinked = [] } }

-- the view of a client that was just made
abbrev pub client_of : ℕ → View → View
client_of n v = alone (empty_pass v.pass (Client n))

-- books in which the tags of a batch are out
abbrev pub lines_out : List BookLine → List ℕ → List BookLine
lines_out xs [] = xs
lines_out xs (t ∷ ts) = lines_out (line (home t) (age t) Out ∷ xs) ts

-- the server has handed a batch out
abbrev pub giving : List ℕ → View → View
giving batch v = record v { server = record v.server { books = lines_out v.server.books batch; unlinked = [] } }

-- the grant that has the batch, with names from a position on
abbrev pub grant : List ℕ → ℕ → List (ℕ × List ℕ) → View → View
grant batch position names v = alone (record (empty_pass v.pass Granting) { stock = batch; from = position; added = names })

-- a client has taken a grant in
abbrev pub accepted : View → View → View
accepted v g = record v { pass = record v.pass { stock = v.pass.stock ++ g.pass.stock; names = v.pass.names ++ g.pass.added; refusals = v.pass.refusals ++ g.pass.refusals } }

-- what is left of a view that another one took in
abbrev pub spent : View → View
spent v = alone (empty_pass v.pass Joined)

-- a client has got a batch and names at once
abbrev pub given : List ℕ → List (ℕ × List ℕ) → View → View
given batch names v = record v { pass = record v.pass { stock = v.pass.stock ++ batch; names = v.pass.names ++ names } }

-- a note of a client's names, count and history
abbrev pub note_of : View → View
note_of v = alone (record (empty_pass v.pass Noting) { names = v.pass.names; most = v.pass.most; history = v.pass.history })

-- the server's view with the longer of its own and a note's history
abbrev pub noted : View → View → View
noted v n = record v { pass = record v.pass { history = longer v.pass.history n.pass.history } }

-- the server may make a client with a new number
pub record MayMake (v : View) (n : ℕ) : Type 0 where
  pub server : v.pass.role ≡ Serving
  pub fresh : Within n v.server.clients → ⊥

-- tags of different buffers, which are free in the server's books
pub record IsFreeBatch (p : Pool) (v : View) (batch : List ℕ) : Type 0 where
  pub server : v.pass.role ≡ Serving
  pub free : Each (λ (t : ℕ). (inside p (home t) ≡ true) × (book_at v.server (home t) ≡ book (age t) Free)) batch
  pub apart : Apart batch

-- the server may split off a grant of free tags and of bindings from a position on; one that waits does not count
pub record MayGrant (p : Pool) (v : View) (batch : List ℕ) (position : ℕ) (names : List (ℕ × List ℕ)) : Type 0 where
  pub tags : IsFreeBatch p v batch
  pub bindings : List (ℕ × List ℕ)
  pub directory : v.server.directory ≡ bindings ++ waiting_name v.server.task
  pub part : IsPart position names bindings

-- a client may take in a grant whose names go on behind its own
pub record MayAccept (v g : View) : Type 0 where
  pub number : ℕ
  pub client : v.pass.role ≡ Client number
  pub granting : g.pass.role ≡ Granting
  pub fits : length v.pass.names ≡ g.pass.from
  pub bare : g.pass.history ≡ []

-- the server may hand a client free tags, and names with which the client has all bindings but one that waits
pub record MayHand (p : Pool) (sv cv : View) (batch : List ℕ) (names : List (ℕ × List ℕ)) : Type 0 where
  pub tags : IsFreeBatch p sv batch
  pub number : ℕ
  pub client : cv.pass.role ≡ Client number
  pub names_are : sv.server.directory ≡ (cv.pass.names ++ names) ++ waiting_name sv.server.task

-- the server may take in a note
pub record MayNote (v n : View) : Type 0 where
  pub server : v.pass.role ≡ Serving
  pub noting : n.pass.role ≡ Noting
  pub stock : n.pass.stock ≡ []

-- the least pool, for a name that nothing was picked for
abbrev pub least_pool : Pool
least_pool = record { nodes = 1; buffers = 1; slots = 1; words = 1; wear = 1; some_node = leb-true 1 1 refl; nodes_fit = leb-true 1 16 refl; some_buffer = leb-true 1 1 refl; total_fits = leb-true (1 * 1) 65536 refl; some_slot = leb-true 1 1 refl; slots_fit = leb-true 1 16384 refl; some_word = leb-true 1 1 refl; words_fit = leb-true 1 128 refl; some_wear = leb-true 1 1 refl; wear_fits = leb-true 1 1048575 refl }

-- a view of no run
abbrev pub nobody : View
nobody = alone (start_pass least_pool finite.empty [] Joined)
