-- What a small pool's server and client may do as its run begins: one node of two buffers, one slot, one client.
use Rattle.std.proofs.Common.{◌≡◌, ℕ, zero, suc, List, [], ◌∷◌, length, map, set, get_or, refl, sym, ap, ◌∙◌, inl, subst, arith}
use Rattle.std.proofs.lemmas.List.{get_or-set_same, length-set}
use Rattle.clover_words.specs.declared.setup.Setup.{Setup}
use Rattle.clover_words.specs.Pack.{AreBytes}
use Rattle.clover_words.specs.Place.{IsBuffer}
use Rattle.clover_words.specs.Tag.{home, age, tag_number}
use Rattle.clover_words.specs.Version.{buffer_at}
use Rattle.clover_rule.specs.Asks.{MayBegin}
use Rattle.clover_rule.specs.Lists.{Within}
use Rattle.clover_rule.specs.Moves.{MayHand, given, giving, nobody}
use Rattle.clover_rule.specs.Steps.{IsClient, number_of}
use Rattle.clover_rule.specs.Views.{book}
use Rattle.clover_rule.specs.declared.view.BufferState.TheVariants.{Free}
use Rattle.clover_rule.specs.declared.view.NewBinding.{NewBinding}
use Rattle.clover_rule.specs.declared.view.Role.{Role}
use Rattle.clover_rule.specs.declared.view.Role.TheVariants.{Client}
use Rattle.clover_rule.specs.declared.view.View.{View}
use Rattle.clover_rule.proofs.Keeping.{inside_of}
use Rattle.clover_alloc.specs.Batch.{tags_of}
use Rattle.clover_alloc.specs.Ledger.{Ledger, IsLedger, new_ledger}
use Rattle.clover_alloc.specs.Taking.{Takes}
use Rattle.clover_alloc.specs.declared.batch.Batch.{Batch}
use Rattle.clover_plain.specs.Handing.{Handed, numbers_of}
use Rattle.clover_plain.specs.Plain.{Kept, Plain, first_view, view_at}
use Rattle.clover_plain.proofs.Books.{left_new, takes_next}
use Rattle.clover_plain.proofs.Opening.{client_role, server_role}

pub home_next : home 1048576 ≡ 1
unfolding home
home_next = refl

pub home_first : home 0 ≡ 0
unfolding home
home_first = refl

pub age_next : age 1048576 ≡ 0
unfolding age
age_next = refl

pub age_first : age 0 ≡ 0
unfolding age
age_first = refl

abbrev pub IsSmall : Setup → Type 0
IsSmall s = (s.clients ≡ 1) × (s.pool.nodes ≡ 1) × (s.pool.buffers ≡ 2) × (s.pool.slots ≡ 1)

-- the binding of `a` to slot 0, whose tombstone takes buffer 1
abbrev pub binding : NewBinding
binding = record { slot = 0; key = 97 ∷ []; tag = 1048576 }

letter : AreBytes (97 ∷ [])
letter zero = omega arith
letter (suc i) = omega arith

module _ (s : Setup) (small : IsSmall s) where
  buffer_next : IsBuffer s.pool (buffer_at (home 1048576))
  buffer_next = let a = small.1 in let b = small.2 in subst (λ (n : ℕ). IsBuffer s.pool (buffer_at n)) (sym home_next) (record { node = omega arith; index = omega arith })

  buffer_first : IsBuffer s.pool (buffer_at (home 0))
  buffer_first = let a = small.1 in let b = small.2 in subst (λ (n : ℕ). IsBuffer s.pool (buffer_at n)) (sym home_first) (record { node = omega arith; index = omega arith })

  may_begin : MayBegin s.pool (first_view s 1) binding
  may_begin = let a = small.0 in let b = small.3 in record {
    idle = record { server = server_role s 1 (omega arith); task_is = refl };
    free = ap (λ (n : ℕ). book n Free) (sym age_next);
    buffer = inside_of s.pool (home 1048576) buffer_next;
    slot = omega arith;
    key = (omega arith, omega arith, letter);
    unbound = λ k w. w;
    unnamed = λ n w. w;
  }

  may_hand : MayHand s.pool (first_view s 1) (first_view s 0) (0 ∷ []) []
  may_hand = let a = small.0 in record {
    tags = record {
      server = server_role s 1 (omega arith);
      free = ((inside_of s.pool (home 0) buffer_first, ap (λ (n : ℕ). book n Free) (sym age_first)), tt);
      apart = (tt, tt);
    };
    number = 1;
    client = client_role s 0 (omega arith);
    names_are = refl;
  }

-- making room changes no view
pub kept_first : (p q : Plain) (i : ℕ) → Kept p q → view_at p i ≡ first_view p.setup i → view_at q i ≡ first_view q.setup i
kept_first p q i k e = ap (λ (l : List View). get_or l i nobody) k.views ∙ e ∙ ap (λ (s : Setup). first_view s i) (sym k.setup)

-- the server begins the binding through its port
pub server_begins : (p q : Plain) (seat : ℕ) → q ≡ p → seat ≡ p.setup.clients → IsSmall p.setup → view_at p 1 ≡ first_view p.setup 1 → IsBuffer q.setup.pool (buffer_at (home 1048576)) × MayBegin q.setup.pool (view_at q seat) binding
server_begins p q seat same at small view =
    subst (λ (z : Plain). IsBuffer z.setup.pool (buffer_at (home 1048576)) × MayBegin z.setup.pool (view_at z seat) binding) (sym same)
    (buffer_next p.setup small, subst (λ (v : View). MayBegin p.setup.pool v binding) (sym (ap (view_at p) (at ∙ small.0) ∙ view)) (may_begin p.setup small))

-- the first batch of one that its new books give
pub first_batch : (s : Setup) (books after : Ledger) (batch : Batch) → IsSmall s → (books ≡ new_ledger s.pool) × IsLedger books → Takes books 1 (tags_of batch) after → numbers_of batch ≡ 0 ∷ []
first_batch s books after batch small new takes =
    let left = left_new s.pool small.1 (subst IsLedger new.0 new.1) in
    let b = small.2 in
    ap (map tag_number) (takes_next s.pool.buffers 1 0 (new_ledger s.pool) (tags_of batch) after left (omega arith) (subst (λ (l : Ledger). Takes l 1 (tags_of batch) after) new.0 takes)).0

-- the server hands buffer 0 over
pub server_hands : (p : Plain) (batch : List ℕ) → batch ≡ 0 ∷ [] → IsSmall p.setup → view_at p 0 ≡ first_view p.setup 0 → view_at p 1 ≡ first_view p.setup 1 → MayHand p.setup.pool (view_at p p.setup.clients) (view_at p 0) batch []
server_hands p batch is small client server =
    subst (λ (l : List ℕ). MayHand p.setup.pool (view_at p p.setup.clients) (view_at p 0) l []) (sym is)
    (subst (λ (v : View). MayHand p.setup.pool v (view_at p 0) (0 ∷ []) []) (sym (ap (view_at p) small.0 ∙ server))
    (subst (λ (v : View). MayHand p.setup.pool (first_view p.setup 1) v (0 ∷ []) []) (sym client) (may_hand p.setup small)))

is_client : (v : View) (n : ℕ) → v.pass.role ≡ Client n → IsClient v
is_client v n e = subst (λ (r : Role). r ≡ Client (number_of r)) (sym e) refl

-- the client writes there
pub client_writes : (p q r : Plain) (seat : ℕ) → Handed 1 (0 ∷ []) [] p q → r ≡ q → seat ≡ 0 → length p.views ≡ 2 → IsSmall p.setup → view_at p 0 ≡ first_view p.setup 0
    → IsBuffer r.setup.pool (buffer_at (home 0)) × (IsClient (view_at r seat) × Within 0 (view_at r seat).pass.stock)
client_writes p q r seat h same at long small view =
    let new : view_at q 0 ≡ given (0 ∷ []) [] (first_view p.setup 0) = ap (λ (l : List View). get_or l 0 nobody) h.views ∙ get_or-set_same (set p.views p.setup.clients (giving (0 ∷ []) (view_at p p.setup.clients))) 0 _ nobody (let z = length-set p.views p.setup.clients (giving (0 ∷ []) (view_at p p.setup.clients)) in omega arith) ∙ ap (given (0 ∷ []) []) view in
    let there : view_at r seat ≡ given (0 ∷ []) [] (first_view p.setup 0) = (λ i. view_at (same i) (at i)) ∙ new in (
      subst (λ (s : Setup). IsBuffer s.pool (buffer_at (home 0))) (sym (ap (λ (z : Plain). z.setup) same ∙ h.setup)) (buffer_first p.setup small),
      (is_client (view_at r seat) 1 (ap (λ (v : View). v.pass.role) there ∙ client_role p.setup 0 (let a = small.0 in omega arith)), subst (λ (v : View). Within 0 v.pass.stock) (sym there) (inl refl)),
    )
