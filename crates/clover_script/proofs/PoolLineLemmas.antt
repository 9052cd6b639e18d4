-- pool lines, and the setups that they make
use Rattle.std.proofs.Common.{◌≡◌, ◌<◌, ◌≤◌, ◌*◌, ◌^◌, ℕ, true, None, List, [], ◌++◌, sym, ap, subst, ◌∙◌, inl, inr, arith, append_assoc, append-nil}
use Rattle.std.proofs.lemmas.Bool.{false≢true}
use Rattle.std.proofs.lemmas.Bool.Decides.{nat_tests}
use Rattle.std.proofs.lemmas.Nat.{mul-le}
use Rattle.std.specs.Prelude.{decimal, codes, IsSome, nat_le}
use Rattle.clover_words.specs.declared.setup.Setup.{Setup}
use Rattle.clover_words.specs.Range.{first_fault, first_setup_fault, from_one}
use Rattle.clover_script.specs.declared.line.PoolLine.{PoolLine}
use Rattle.clover_script.specs.Line.{pool_line, numbers_of, AreNumbers, HasBadNumbers}
use Rattle.clover_script.specs.Split.{EndsNumber}
use Rattle.clover_script.proofs.NumberLemmas.{one_number}
use Rattle.clover_script.proofs.SpellingLemmas.{after_same}

-- what stands behind each number of a pool line
abbrev pub batch_on : PoolLine → List ℕ
batch_on n = codes " batch=" ++ (decimal n.batch ++ [])

abbrev pub clients_on : PoolLine → List ℕ
clients_on n = codes " clients=" ++ (decimal n.clients ++ batch_on n)

abbrev pub wear_on : PoolLine → List ℕ
wear_on n = codes " wear=" ++ (decimal n.wear ++ clients_on n)

abbrev pub words_on : PoolLine → List ℕ
words_on n = codes " words=" ++ (decimal n.words ++ wear_on n)

abbrev pub slots_on : PoolLine → List ℕ
slots_on n = codes " slots=" ++ (decimal n.slots ++ words_on n)

abbrev pub buffers_on : PoolLine → List ℕ
buffers_on n = codes " buffers=" ++ (decimal n.buffers ++ slots_on n)

abbrev pub nodes_on : PoolLine → List ℕ
nodes_on n = codes "pool nodes=" ++ (decimal n.nodes ++ buffers_on n)

-- and none of it begins with a digit
pub buffers_ends : (n : PoolLine) → EndsNumber (buffers_on n)
buffers_ends n = λ h. omega (arith, h.0)

pub slots_ends : (n : PoolLine) → EndsNumber (slots_on n)
slots_ends n = λ h. omega (arith, h.0)

pub words_ends : (n : PoolLine) → EndsNumber (words_on n)
words_ends n = λ h. omega (arith, h.0)

pub wear_ends : (n : PoolLine) → EndsNumber (wear_on n)
wear_ends n = λ h. omega (arith, h.0)

pub clients_ends : (n : PoolLine) → EndsNumber (clients_on n)
clients_ends n = λ h. omega (arith, h.0)

pub batch_ends : (n : PoolLine) → EndsNumber (batch_on n)
batch_ends n = λ h. omega (arith, h.0)

pub pool_parts : (n : PoolLine) → pool_line n ≡ nodes_on n
pool_parts n = simp (append_assoc, append-nil)

-- the text has this number behind this name, and this text behind it, however it is taken apart
abbrev Reads : List ℕ → List ℕ → ℕ → List ℕ → Type 0
Reads text name value behind = (n : ℕ) (rest : List ℕ) → n < 2 ^ 64 → EndsNumber rest → text ≡ name ++ (decimal n ++ rest) → (value ≡ n) × (behind ≡ rest)

-- what was read of a pool line leaves the line's other numbers
module _ (n : PoolLine) (fit : AreNumbers n) {v : ℕ} {text rest : List ℕ} where
  pub after_nodes : text ≡ pool_line n → Reads text (codes "pool nodes=") v rest → rest ≡ buffers_on n
  after_nodes e only = (only n.nodes (buffers_on n) fit.nodes (buffers_ends n) (e ∙ pool_parts n)).1

  pub after_buffers : text ≡ buffers_on n → Reads text (codes " buffers=") v rest → rest ≡ slots_on n
  after_buffers e only = (only n.buffers (slots_on n) fit.buffers (slots_ends n) e).1

  pub after_slots : text ≡ slots_on n → Reads text (codes " slots=") v rest → rest ≡ words_on n
  after_slots e only = (only n.slots (words_on n) fit.slots (words_ends n) e).1

  pub after_words : text ≡ words_on n → Reads text (codes " words=") v rest → rest ≡ wear_on n
  after_words e only = (only n.words (wear_on n) fit.words (wear_ends n) e).1

  pub after_wear : text ≡ wear_on n → Reads text (codes " wear=") v rest → rest ≡ clients_on n
  after_wear e only = (only n.wear (clients_on n) fit.wear (clients_ends n) e).1

  pub after_clients : text ≡ clients_on n → Reads text (codes " clients=") v rest → rest ≡ batch_on n
  after_clients e only = (only n.clients (batch_on n) fit.clients (batch_ends n) e).1

-- the numbers that were read one behind the other are those of the line
pub pool_found : (n : PoolLine) (line r1 r2 r3 r4 r5 r6 r7 : List ℕ)
    → line ≡ codes "pool nodes=" ++ (decimal n.nodes ++ r1)
    → r1 ≡ codes " buffers=" ++ (decimal n.buffers ++ r2)
    → r2 ≡ codes " slots=" ++ (decimal n.slots ++ r3)
    → r3 ≡ codes " words=" ++ (decimal n.words ++ r4)
    → r4 ≡ codes " wear=" ++ (decimal n.wear ++ r5)
    → r5 ≡ codes " clients=" ++ (decimal n.clients ++ r6)
    → r6 ≡ codes " batch=" ++ (decimal n.batch ++ r7)
    → r7 ≡ [] → line ≡ pool_line n
pool_found n line r1 r2 r3 r4 r5 r6 r7 e1 e2 e3 e4 e5 e6 e7 e8 =
    e1 ∙ ap (λ (r : List ℕ). codes "pool nodes=" ++ (decimal n.nodes ++ r))
    (e2 ∙ ap (λ (r : List ℕ). codes " buffers=" ++ (decimal n.buffers ++ r))
    (e3 ∙ ap (λ (r : List ℕ). codes " slots=" ++ (decimal n.slots ++ r))
    (e4 ∙ ap (λ (r : List ℕ). codes " words=" ++ (decimal n.words ++ r))
    (e5 ∙ ap (λ (r : List ℕ). codes " wear=" ++ (decimal n.wear ++ r))
    (e6 ∙ ap (λ (r : List ℕ). codes " clients=" ++ (decimal n.clients ++ r))
    (e7 ∙ ap (λ (r : List ℕ). codes " batch=" ++ (decimal n.batch ++ r))
    (e8)))))))
    ∙ sym (pool_parts n)

-- a pool line has one list of numbers
pub one_pool : (n m : PoolLine) → AreNumbers n → AreNumbers m → pool_line n ≡ pool_line m → n ≡ m
one_pool n m p q e =
    let nodes = one_number n.nodes m.nodes (buffers_on n) (buffers_on m) p.nodes q.nodes (buffers_ends n) (buffers_ends m) (after_same (codes "pool nodes=") (decimal n.nodes ++ buffers_on n) (decimal m.nodes ++ buffers_on m) (sym (pool_parts n) ∙ e ∙ pool_parts m)) in
    let buffers = one_number n.buffers m.buffers (slots_on n) (slots_on m) p.buffers q.buffers (slots_ends n) (slots_ends m) (after_same (codes " buffers=") (decimal n.buffers ++ slots_on n) (decimal m.buffers ++ slots_on m) (nodes.1)) in
    let slots = one_number n.slots m.slots (words_on n) (words_on m) p.slots q.slots (words_ends n) (words_ends m) (after_same (codes " slots=") (decimal n.slots ++ words_on n) (decimal m.slots ++ words_on m) (buffers.1)) in
    let words = one_number n.words m.words (wear_on n) (wear_on m) p.words q.words (wear_ends n) (wear_ends m) (after_same (codes " words=") (decimal n.words ++ wear_on n) (decimal m.words ++ wear_on m) (slots.1)) in
    let wear = one_number n.wear m.wear (clients_on n) (clients_on m) p.wear q.wear (clients_ends n) (clients_ends m) (after_same (codes " wear=") (decimal n.wear ++ clients_on n) (decimal m.wear ++ clients_on m) (words.1)) in
    let clients = one_number n.clients m.clients (batch_on n) (batch_on m) p.clients q.clients (batch_ends n) (batch_ends m) (after_same (codes " clients=") (decimal n.clients ++ batch_on n) (decimal m.clients ++ batch_on m) (wear.1)) in
    let batch = one_number n.batch m.batch [] [] p.batch q.batch tt tt (after_same (codes " batch=") (decimal n.batch ++ []) (decimal m.batch ++ []) (clients.1)) in
    λ i. record { nodes = nodes.0 i; buffers = buffers.0 i; slots = slots.0 i; words = words.0 i; wear = wear.0 i; clients = clients.0 i; batch = batch.0 i }

least_product : (n b : ℕ) → 1 ≤ n → b ≤ n * b
least_product n b h = omega (arith, mul-le 1 b n b h (omega arith))

-- the numbers of a setup can be written
pub are_numbers : (s : Setup) → AreNumbers (numbers_of s)
are_numbers s =
    let buffers = least_product s.pool.nodes s.pool.buffers s.pool.some_node in
    record {
      nodes = omega (arith, s.pool.nodes_fit);
      buffers = omega (arith, s.pool.total_fits, buffers);
      slots = omega (arith, s.pool.slots_fit);
      words = omega (arith, s.pool.words_fit);
      wear = omega (arith, s.pool.wear_fits);
      clients = omega (arith, s.clients_fit);
      batch = omega (arith, s.batch_fits);
    }

within : (most n : ℕ) → 1 ≤ n → n ≤ most → from_one most n ≡ true
within most n h k = grind (arith, nat_tests)

no_pool_fault : (s : Setup) → IsSome (first_fault s.pool.nodes s.pool.buffers s.pool.slots s.pool.words s.pool.wear) → ⊥
no_pool_fault s bad =
    let p = s.pool in
    let product = least_product p.nodes p.buffers p.some_node in
    let nodes = within 16 p.nodes p.some_node p.nodes_fit in
    let buffers = within 65536 p.buffers p.some_buffer (omega (arith, p.total_fits, product)) in
    let total : nat_le (p.nodes * p.buffers) 65536 ≡ true = grind (arith, nat_tests, p.total_fits) in
    let slots = within 16384 p.slots p.some_slot p.slots_fit in
    let words = within 128 p.words p.some_word p.words_fit in
    let wear = within 1048575 p.wear p.some_wear p.wear_fits in
    let none : first_fault p.nodes p.buffers p.slots p.words p.wear ≡ None = cc in
    absurd (false≢true (subst IsSome none bad))

no_setup_fault : (s : Setup) → IsSome (first_setup_fault s.clients s.batch) → ⊥
no_setup_fault s bad =
    let clients = within 16 s.clients s.some_client s.clients_fit in
    let batch = within 64 s.batch s.some_batch s.batch_fits in
    let none : first_setup_fault s.clients s.batch ≡ None = cc in
    absurd (false≢true (subst IsSome none bad))

-- and none of them is bad
pub none_bad : (s : Setup) → HasBadNumbers (numbers_of s) → ⊥
none_bad s (inl bad) = no_pool_fault s bad
none_bad s (inr bad) = no_setup_fault s bad
