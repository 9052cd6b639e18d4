-- What one access of an actor does to the pool: it was made, and is the step that was named, or it was refused; and what an event without an access does.
use Rattle.std.proofs.Common.{◌≡◌, ℕ, suc, ◌-◌, ◌^◌, ◌<◌, List, [], ◌∷◌, ◌++◌, length, get_or, Bool, true, false, ◌&&◌, cond, if◌then◌else◌, refl, sym, ap, ◌∙◌, subst, arith, append-nil, option_to_list}
use Rattle.std.specs.Prelude.{Option, Some, None, nat_lt}
use Rattle.std.proofs.lemmas.Bool.Decides.{nat_tests}
use Rattle.std.proofs.lemmas.List.{get_or-set_other, length-set}
use Rattle.std.proofs.lemmas.Option.{same_Some}
use Rattle.clover_map.specs.declared.call.Entry.{Entry}
use Rattle.clover_rule.specs.Accesses.{CameBack, words_after_act}
use Rattle.clover_rule.specs.Learned.{next_history}
use Rattle.clover_rule.specs.Moves.{nobody}
use Rattle.clover_rule.specs.Rule.{longest}
use Rattle.clover_rule.specs.Steps.{Step, Operation, loads, stores, exchanges, raises, operation_of, act_on, act_of, word_of}
use Rattle.clover_rule.specs.declared.access.Access.{Access}
use Rattle.clover_rule.specs.declared.access.Act.{Act}
use Rattle.clover_rule.specs.declared.access.Actor.TheVariants.{Client, Restart, Server}
use Rattle.clover_rule.specs.declared.view.View.{View}
use Rattle.clover_rule.proofs.Acting.{access_law}
use Rattle.clover_rule.proofs.Ties.{test_below}
use Rattle.clover_words.specs.declared.setup.Setup.{Setup}
use Rattle.clover_words.specs.declared.word.Word.{Word}
use Rattle.clover_port.specs.Told.{Open, Made}
use Rattle.clover_plain.specs.Plain.{Plain, Kept, KeptButEntries, Refused as RefusedAt, Stepped, access as listed_access, grown, history, open_of, view_at}
use Rattle.clover_event.specs.Client.{access}
use Rattle.clover_event.specs.Folds.{made_by, words_by}
use Rattle.clover_event.specs.Run.{IsBlank}
use Rattle.clover_run.specs.Client.{KeepsOthers, Moved}
use Rattle.clover_run.proofs.Lasting.{known_same, known_stepped}

-- whose the access of a seat is: a client's, or behind all clients the server's
pub client_access : (s : Setup) (i : ℕ) (act : Act) (refused : Bool) → i < s.clients → listed_access s i act refused ≡ access i act refused
client_access s i act refused h = ap (λ (b : Bool). record { actor = cond b (Client (suc i)) (cond (nat_lt s.clients i) Restart Server); act = act; refused = refused }) (test_below i s.clients h)

abbrev pub servers_access : Act → Bool → Access
servers_access act refused = record { actor = Server; act = act; refused = refused }

test_same : (n : ℕ) → nat_lt n n ≡ false
test_same n = grind (arith, nat_tests)

pub server_access : (s : Setup) (act : Act) (refused : Bool) → listed_access s s.clients act refused ≡ servers_access act refused
server_access s act refused = ap (λ (b : Bool). record { actor = cond b (Client (suc s.clients)) (cond b Restart Server); act = act; refused = refused }) (test_same s.clients)

-- a list that grows by an access, where accesses are listed
grown_listed : (t : Bool) (xs : List Access) (x : Access) → grown (t && true) xs x ≡ (if t then xs ++ x ∷ [] else xs)
grown_listed true xs x = refl
grown_listed false xs x = refl

grown_refused : (t : Bool) (xs : List Access) (x : Access) → grown t xs x ≡ (if t then xs ++ x ∷ [] else xs)
grown_refused true xs x = refl
grown_refused false xs x = refl

grown_none : (t : Bool) (xs : List Access) → xs ≡ (if t then xs ++ [] else xs)
grown_none true xs = sym (append-nil xs)
grown_none false xs = refl

whole_listed : (w : Bool) → (w && true) ≡ w
whole_listed true = refl
whole_listed false = refl

-- an access that was made came back with what the words give, and they are then as after its act
pub came_back : (i : ℕ) (p q : Plain) (a : Step) (b l : Bool) (x : ℕ) → Stepped a b l i x p q → CameBack p.setup.pool p.words (act_of a x)
came_back i p q a b l x s = subst (λ (n : ℕ). CameBack p.setup.pool p.words (act_of a n)) (sym s.found) (access_law p.setup.pool p.words a).0

pub words_made : (i : ℕ) (p q : Plain) (a : Step) (b l : Bool) (x : ℕ) → Stepped a b l i x p q → q.words ≡ words_after_act p.setup.pool p.words (act_of a x)
words_made i p q a b l x s = s.words ∙ sym (access_law p.setup.pool p.words a).1 ∙ ap (λ (n : ℕ). words_after_act p.setup.pool p.words (act_of a n)) (sym s.found)

-- a refused step has no number
pub blank_act : (a : Step) → IsBlank (act_of a 0)
blank_act a = by (operation_of a) (word_of a)
  where
    by : (o : Operation) (w : Word) → IsBlank (act_on o w 0)
    by loads w = refl
    by (stores side y) w = tt
    by (exchanges expected new) w = refl
    by (raises y) w = refl

-- the history behind an access that was made, by what the port told; a refused one leaves it
pub history_made : (i : ℕ) (p q : Plain) (a : Step) (b : Bool) (x : ℕ) → Made p.setup.pool a b (view_at p i) (Some (open_of p)) x (view_at q i) (Some (open_of q)) → history q ≡ next_history a (history p) (view_at p i) x
history_made i p q a b x m = ap (λ (o : Open). o.history) (same_Some (open_of q) _ m.tells.1) ∙ ap (λ (o : Open). next_history a o.history (view_at p i) x) (sym m.tells.0)

pub history_refused : (i : ℕ) (p q : Plain) (a : Act) → RefusedAt a i p q → history q ≡ history p
history_refused i p q a r = λ k. longest (r.views k ++ r.same.absent k)

pub history_entered : (p q : Plain) → KeptButEntries p q → history q ≡ history p
history_entered p q k = λ j. longest (k.views j ++ k.absent j)

pub history_kept : (p q : Plain) → Kept p q → history q ≡ history p
history_kept p q k = λ j. longest (k.views j ++ k.absent j)

-- every other view is as it was
pub others_made : (i : ℕ) (p q : Plain) (a : Step) (b l : Bool) (x : ℕ) → Stepped a b l i x p q → KeepsOthers i p q
others_made i p q a b l x s = λ j ne. ap (λ (vs : List View). get_or vs j nobody) s.views ∙ get_or-set_other p.views i j _ _ ne

pub others_refused : (i : ℕ) (p q : Plain) (a : Act) → RefusedAt a i p q → KeepsOthers i p q
others_refused i p q a r = λ j ne. λ z. get_or (r.views z) j nobody

pub others_entered : (i : ℕ) (p q r : Plain) → KeptButEntries q r → KeepsOthers i p q → KeepsOthers i p r
others_entered i p q r k others = λ j ne. (λ z. get_or (k.views z) j nobody) ∙ others j ne

pub others_kept : (i : ℕ) (p q r : Plain) → Kept p q → KeepsOthers i q r → KeepsOthers i p r
others_kept i p q r k others = λ j ne. others j ne ∙ (λ z. get_or (k.views z) j nobody)

pub others_none : (i : ℕ) (p q : Plain) → Kept p q → KeepsOthers i p q
others_none i p q k = λ j ne. λ z. get_or (k.views z) j nobody

-- An access of any seat that was made, and added no entry.
pub moved_by : (i : ℕ) (p q : Plain) (a : Step) (b : Bool) (x : ℕ) → Stepped a b true i x p q → p.made < 2 ^ 64 - 1 → p.entries ≡ history p → history q ≡ history p
    → Moved (Some (listed_access p.setup i (act_of a x) false)) None p q
moved_by i p q a b x s few entered quiet = record {
  words = words_made i p q a b true x s;
  seats = ap length s.views ∙ length-set p.views i _;
  entries = s.same.entries ∙ sym (append-nil p.entries);
  entered = s.same.entries ∙ entered ∙ sym quiet;
  accesses = s.accesses ∙ grown_listed p.traced p.accesses (listed_access p.setup i (act_of a x) false);
  made = s.made ∙ (let n = few in omega arith);
  whole = s.whole ∙ whole_listed p.whole;
  setup = s.same.setup;
  start = s.same.start;
  first = s.same.first;
  used = s.same.used;
  traced = s.same.traced;
  opened = s.same.opened;
  knows = known_stepped i p q a b true x s;
}

-- One that decided a call, whose entry was then entered.
pub moved_entered_by : (i : ℕ) (p q r : Plain) (a : Step) (b : Bool) (x : ℕ) (e : Entry) → Stepped a b true i x p q → p.made < 2 ^ 64 - 1 → p.entries ≡ history p → history q ≡ history p ++ e ∷ []
    → r.entries ≡ q.entries ++ e ∷ [] → KeptButEntries q r → Moved (Some (listed_access p.setup i (act_of a x) false)) (Some e) p r
moved_entered_by i p q r a b x e s few entered n more k = record {
  words = k.words ∙ words_made i p q a b true x s;
  seats = ap length k.views ∙ ap length s.views ∙ length-set p.views i _;
  entries = more ∙ ap (λ (l : List Entry). l ++ e ∷ []) s.same.entries;
  entered = more ∙ ap (λ (l : List Entry). l ++ e ∷ []) (s.same.entries ∙ entered) ∙ sym n ∙ sym (history_entered q r k);
  accesses = k.accesses ∙ s.accesses ∙ grown_listed p.traced p.accesses (listed_access p.setup i (act_of a x) false);
  made = k.made ∙ s.made ∙ (let n = few in omega arith);
  whole = k.whole ∙ s.whole ∙ whole_listed p.whole;
  setup = k.setup ∙ s.same.setup;
  start = k.start ∙ s.same.start;
  first = k.first ∙ s.same.first;
  used = k.used ∙ s.same.used;
  traced = k.traced ∙ s.same.traced;
  opened = k.opened ∙ s.same.opened;
  knows = λ t h. known_same q r k.views k.absent t (known_stepped i p q a b true x s t h);
}

-- One that was refused.
pub moved_refused_by : (i : ℕ) (p q : Plain) (a : Act) → RefusedAt a i p q → p.entries ≡ history p → Moved (Some (listed_access p.setup i a true)) None p q
moved_refused_by i p q a r entered = record {
  words = r.words;
  seats = ap length r.views;
  entries = r.same.entries ∙ sym (append-nil p.entries);
  entered = r.same.entries ∙ entered ∙ sym (history_refused i p q a r);
  accesses = r.accesses ∙ grown_refused p.traced p.accesses (listed_access p.setup i a true);
  made = r.made;
  whole = r.whole;
  setup = r.same.setup;
  start = r.same.start;
  first = r.same.first;
  used = r.same.used;
  traced = r.same.traced;
  opened = r.same.opened;
  knows = known_same p q r.views r.same.absent;
}

-- The same of a client's access.
pub moved_made : (i : ℕ) (p q : Plain) (a : Step) (b : Bool) (x : ℕ) → Stepped a b true i x p q → i < p.setup.clients → p.made < 2 ^ 64 - 1 → p.entries ≡ history p → history q ≡ history p
    → Moved (Some (access i (act_of a x) false)) None p q
moved_made i p q a b x s seat few entered quiet = subst (λ (y : Access). Moved (Some y) None p q) (client_access p.setup i (act_of a x) false seat) (moved_by i p q a b x s few entered quiet)

pub moved_entered : (i : ℕ) (p q r : Plain) (a : Step) (b : Bool) (x : ℕ) (e : Entry) → Stepped a b true i x p q → i < p.setup.clients → p.made < 2 ^ 64 - 1 → p.entries ≡ history p → history q ≡ history p ++ e ∷ []
    → r.entries ≡ q.entries ++ e ∷ [] → KeptButEntries q r → Moved (Some (access i (act_of a x) false)) (Some e) p r
moved_entered i p q r a b x e s seat few entered n more k =
    subst (λ (y : Access). Moved (Some y) (Some e) p r) (client_access p.setup i (act_of a x) false seat) (moved_entered_by i p q r a b x e s few entered n more k)

pub moved_refused : (i : ℕ) (p q : Plain) (a : Act) → RefusedAt a i p q → i < p.setup.clients → p.entries ≡ history p → Moved (Some (access i a true)) None p q
moved_refused i p q a r seat entered = subst (λ (y : Access). Moved (Some y) None p q) (client_access p.setup i a true seat) (moved_refused_by i p q a r entered)

-- And of the server's, behind all clients.
pub moved_served : (i : ℕ) (p q : Plain) (a : Step) (b : Bool) (x : ℕ) → Stepped a b true i x p q → i ≡ p.setup.clients → p.made < 2 ^ 64 - 1 → p.entries ≡ history p → history q ≡ history p
    → Moved (Some (servers_access (act_of a x) false)) None p q
moved_served i p q a b x s seat few entered quiet =
    subst (λ (y : Access). Moved (Some y) None p q) (ap (λ (n : ℕ). listed_access p.setup n (act_of a x) false) seat ∙ server_access p.setup (act_of a x) false) (moved_by i p q a b x s few entered quiet)

pub moved_unserved : (i : ℕ) (p q : Plain) (a : Act) → RefusedAt a i p q → i ≡ p.setup.clients → p.entries ≡ history p → Moved (Some (servers_access a true)) None p q
moved_unserved i p q a r seat entered =
    subst (λ (y : Access). Moved (Some y) None p q) (ap (λ (n : ℕ). listed_access p.setup n a true) seat ∙ server_access p.setup a true) (moved_refused_by i p q a r entered)

-- An event without an access, which left the pool as it was.
pub moved_none : (p q : Plain) → Kept p q → p.entries ≡ history p → Moved None None p q
moved_none p q k entered = record {
  words = k.words;
  seats = ap length k.views;
  entries = k.entries ∙ sym (append-nil p.entries);
  entered = k.entries ∙ entered ∙ sym (history_kept p q k);
  accesses = k.accesses ∙ grown_none p.traced p.accesses;
  made = k.made;
  whole = k.whole;
  setup = k.setup;
  start = k.start;
  first = k.first;
  used = k.used;
  traced = k.traced;
  opened = k.opened;
  knows = known_same p q k.views k.absent;
}

-- Room that was made before it changes nothing.
pub moved_kept : (x : Option Access) (e : Option Entry) (p p1 q : Plain) → Kept p p1 → Moved x e p1 q → Moved x e p q
moved_kept x e p p1 q k m = record {
  words = m.words ∙ (λ z. words_by (k.setup z).pool (k.words z) x);
  seats = m.seats ∙ ap length k.views;
  entries = m.entries ∙ ap (λ (l : List Entry). l ++ option_to_list e) k.entries;
  entered = m.entered;
  accesses = m.accesses ∙ (λ z. if k.traced z then k.accesses z ++ option_to_list x else k.accesses z);
  made = m.made ∙ ap (λ (n : ℕ). made_by n x) k.made;
  whole = m.whole ∙ k.whole;
  setup = m.setup ∙ k.setup;
  start = m.start ∙ k.start;
  first = m.first ∙ k.first;
  used = m.used ∙ k.used;
  traced = m.traced ∙ k.traced;
  opened = m.opened ∙ k.opened;
  knows = λ t h. m.knows t (known_same p p1 k.views k.absent t h);
}
