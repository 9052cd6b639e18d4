-- The machine stands behind one record more: what that owes, and what a client that the record is not of keeps.
use Rattle.std.proofs.Common.{◌≡◌, ◌≢◌, ℕ, ◌≤◌, ◌<◌, suc, length, set, take, List, [], ◌∷◌, ◌++◌, Bool, true, false, refl, sym, ap, ◌∙◌, subst, arith, append-nil, append_assoc, ne_eqb, ⊎_elim, option_to_list}
use Rattle.std.specs.Prelude.{Option, Some, None, ◌==◌, if◌then◌else◌, IfSome}
use Rattle.std.proofs.lemmas.List.{length-take, take-append-le}
use Rattle.std.proofs.lemmas.List.Elements.{filter-append}
use native.Mathlib.Decide.{ℕ_discrete}
use mathlib.Core.Logic.{dite}
use Rattle.clover_words.specs.declared.pool.Pool.{Pool}
use Rattle.clover_words.specs.declared.setup.Setup.{Setup}
use Rattle.clover_map.specs.History.{own, key_of}
use Rattle.clover_map.specs.Legal.{Legal}
use Rattle.clover_map.specs.declared.call.Call.{Call}
use Rattle.clover_map.specs.declared.call.Entry.{Entry}
use Rattle.clover_map.specs.declared.call.Reply.{Reply}
use Rattle.clover_map.specs.declared.call.Reply.TheVariants.{Stored, Deleted, Found, Absent, Differs}
use Rattle.clover_rule.specs.Lists.{nth, IsPrefix}
use Rattle.clover_rule.specs.declared.access.Access.{Access}
use Rattle.clover_rule.specs.declared.access.Act.{Act}
use Rattle.clover_rule.specs.declared.view.View.{View}
use Rattle.clover_rule.proofs.Steps.{nth_set}
use Rattle.clover_plain.specs.Plain.{Plain, history, view_at}
use Rattle.clover_call.specs.Calling.{begun_call, LeadsTo}
use Rattle.clover_call.specs.Mirroring.{Mirrors}
use Rattle.clover_call.specs.declared.under.Underway.TheVariants.{Nothing as NoCall}
use Rattle.clover_node.specs.Node.{NodeHolds}
use Rattle.clover_event.specs.Client.{HasLinked}
use Rattle.clover_event.specs.Ends.{MayBegin}
use Rattle.clover_event.specs.Folds.{words_by, made_by, actor_of}
use Rattle.clover_run.specs.Alone.{AllFound}
use Rattle.clover_run.specs.Client.{LacksNames, Phase, Stands, Matches, Moved, IsOf, GoesSoFar, Remembers, call_at}
use Rattle.clover_run.specs.Ends.{ended}
use Rattle.clover_run.specs.Folds.{Doing, accesses_in, entries_in, listed_in, served_after, doing, does, names_of}
use Rattle.clover_run.specs.Machine.{Parts, IsAt, IsPoolAt, IsClientAt}
use Rattle.clover_run.specs.Record.{Record}
use Rattle.clover_run.specs.Recycling.{IsRecyclerAt}
use Rattle.clover_run.specs.Run.{Opening, Standing, Follows, standing, own_tag, first_of}
use Rattle.clover_run.specs.SoFar.{AloneSoFar}
use Rattle.clover_run.specs.Told.{AllTold}
use Rattle.clover_run.specs.Wanting.{slot_for}
use Rattle.clover_run.specs.Working.{HasServer}
use Rattle.clover_run.specs.declared.client.ClientState.{ClientState}
use Rattle.clover_run.specs.declared.served.Served.{Served}
use Rattle.clover_run.proofs.Freed.{RunsOrStays, free_behind, counted_behind}
use Rattle.clover_run.proofs.Pasts.{accesses_more, entries_more, words_more, made_more, served_more, goes_more, doing_own, doing_other}

-- one record more, from what it owes
pub pushed : (o : Opening) (m n : Parts) (rs : List Record) (r : Record) → IsAt o m rs → Follows o rs r → n.setup ≡ m.setup → IsPoolAt o n.pool (rs ++ r ∷ []) → n.served ≡ r.served → HasServer n.pool n.served.server → IsRecyclerAt n.pool n.served n.recycler (doing 0 (rs ++ r ∷ [])) → length n.clients ≡ length m.clients
    → ((i : ℕ) (x : ClientState) → nth n.clients i ≡ Some x → IsClientAt o n.pool i x (rs ++ r ∷ []))
    → ((d : Doing) → o.setup.clients < actor_of r.event → d.task ≡ None → (does d r r.event).task ≡ None)
    → Legal o.first o.used (entries_in (rs ++ r ∷ [])) → AllFound o (rs ++ r ∷ []) → RunsOrStays m n → AloneSoFar o n.pool.words n.clients (rs ++ r ∷ []) → AllTold n.pool (rs ++ r ∷ []) → IsAt o n (rs ++ r ∷ [])
pushed o m n rs r at follows setup pool served server recycler clients each far legal found runs alone told = record {
  run = goes_more o [] rs r at.run follows;
  setup = setup ∙ at.setup;
  pool = pool;
  served = served ∙ sym (served_more o.served rs r);
  server = server;
  recycler = recycler;
  clients = clients ∙ at.clients;
  each = each;
  far = λ a above. dite (ℕ_discrete (actor_of r.event) a)
      (λ e. ap (λ (d : Doing). d.task) (doing_own a rs r e) ∙ far (doing a rs) (subst (λ (b : ℕ). o.setup.clients < b) (sym e) above) (at.far a above))
      (λ e. ap (λ (d : Doing). d.task) (doing_other a rs r e) ∙ at.far a above);
  legal = legal;
  begins = at.begins;
  found = found;
  counted = counted_behind o m n rs r at pool server (served ∙ sym (served_more o.served rs r)) runs;
  free = free_behind o m n rs r at pool server (served ∙ sym (served_more o.served rs r)) (clients ∙ at.clients) each runs;
  alone = alone;
  told = told;
}

-- the tag that a call may commit goes by what its actor has under way alone
abbrev tag_by : Option Reply → List ℕ → ℕ
tag_by (Some (Stored t)) l = t
tag_by (Some (Deleted t)) l = t
tag_by o l = first_of l

own_tag_is : (s : Standing) (o : Option Reply) → s.does.decided ≡ o → own_tag s ≡ tag_by o s.does.stock
own_tag_is s None e = ap (λ (z : Option Reply). own_tag (record s { does = record s.does { decided = z } })) e
own_tag_is s (Some (Stored t)) e = ap (λ (z : Option Reply). own_tag (record s { does = record s.does { decided = z } })) e
own_tag_is s (Some (Deleted t)) e = ap (λ (z : Option Reply). own_tag (record s { does = record s.does { decided = z } })) e
own_tag_is s (Some (Found t v)) e = ap (λ (z : Option Reply). own_tag (record s { does = record s.does { decided = z } })) e
own_tag_is s (Some Absent) e = ap (λ (z : Option Reply). own_tag (record s { does = record s.does { decided = z } })) e
own_tag_is s (Some (Differs t)) e = ap (λ (z : Option Reply). own_tag (record s { does = record s.does { decided = z } })) e

pub own_tag_as : (s t : Standing) → t.does.decided ≡ s.does.decided → t.does.stock ≡ s.does.stock → own_tag t ≡ own_tag s
own_tag_as s t decided stock = own_tag_is t t.does.decided refl ∙ (λ j. tag_by (decided j) (stock j)) ∙ sym (own_tag_is s s.does.decided refl)

-- and so is where a call stands: what else a step finds says nothing of it
pub goes_as : (p : Pool) (s t : Standing) (x : ClientState) (call : Call) → t.names ≡ s.names → t.does.decided ≡ s.does.decided → t.does.since ≡ s.does.since → t.does.stock ≡ s.does.stock → t.ended ≡ s.ended → GoesSoFar p s x call → GoesSoFar p t x call
goes_as p s t x call names decided since stock ended g =
    let tag : own_tag t ≡ own_tag s = own_tag_as s t decided stock in
    record {
      slot = g.slot;
      known = subst (λ (l : List (ℕ × List ℕ)). slot_for (key_of call) l ≡ Some g.slot) (sym names) g.known;
      stands = g.stands;
      calling = record {
        cursor = g.calling.cursor;
        may = subst (λ (h : List (List ℕ × ℕ)). MayBegin h (key_of call) g.calling.cursor) (sym ended) g.calling.may;
        leads = subst (λ (n : ℕ). LeadsTo call n (begun_call p g.slot g.calling.cursor n call) t.does.since g.stands) (sym tag)
            (subst (λ (acts : List Act). LeadsTo call (own_tag s) (begun_call p g.slot g.calling.cursor (own_tag s) call) acts g.stands) (sym since) g.calling.leads);
      };
      under = subst (λ (n : ℕ). Mirrors x.node.caller.under x.room call n g.stands) (sym tag) g.under;
      fits = g.fits;
    }

-- where all that it has under way is the same
pub goes_same : (p : Pool) (s t : Standing) (x : ClientState) (call : Call) → t.names ≡ s.names → t.does ≡ s.does → t.ended ≡ s.ended → GoesSoFar p s x call → GoesSoFar p t x call
goes_same p s t x call names does ended = goes_as p s t x call names (ap (λ (d : Doing). d.decided) does) (ap (λ (d : Doing). d.since) does) (ap (λ (d : Doing). d.stock) does) ended

-- the first names of a list that has grown
pub known_kept : (n : ℕ) (xs ys : List (ℕ × List ℕ)) → n ≤ length xs → IsPrefix xs ys → take n ys ≡ take n xs
known_kept n xs ys few (zs, e) = ap (take n) e ∙ take-append-le n xs zs few

-- a client's names are the first ones of the directory
pub known_few : (o : Opening) (p : Plain) (i : ℕ) (x : ClientState) (rs : List Record) → IsClientAt o p i x rs → (doing (suc i) rs).known ≤ length (served_after o.served rs).server.directory.list
known_few o p i x rs at =
    let l = length-take (doing (suc i) rs).known (served_after o.served rs).server.directory.list in
    let n = ap length at.names in
    let k = at.matches.known in
    omega arith

-- what a step of a client finds is what the client has
pub is_of : (o : Opening) (p : Plain) (i : ℕ) (x : ClientState) (rs : List Record) → IsPoolAt o p rs → IsClientAt o p i x rs → IsOf i x p (standing o (suc i) rs)
is_of o p i x rs pool at = record {
  actor = refl;
  names = at.names;
  entries = sym (at.stands.number ∙ ap (λ (l : List Entry). length (own l (suc i))) pool.entries);
  words = sym pool.words;
}

-- a client of which the record is not, where the bindings are the same ones or more
pub other_client : (o : Opening) (p q : Plain) (i : ℕ) (x : ClientState) (rs : List Record) (r : Record) → IsClientAt o p i x rs → actor_of r.event ≢ suc i → ((f : Phase) → Stands o p i x f → Stands o q i x f) → view_at q i ≡ view_at p i → ended (suc i) (rs ++ r ∷ []) ≡ ended (suc i) rs
    → IsPrefix (served_after o.served rs).server.directory.list r.served.server.directory.list → IsClientAt o q i x (rs ++ r ∷ [])
other_client o p q i x rs r at apart stands same stays grows =
    let does = doing_other (suc i) rs r apart in
    let names : (standing o (suc i) (rs ++ r ∷ [])).names ≡ (standing o (suc i) rs).names = (λ j. names_of (served_more o.served rs r j) (does j)) ∙ known_kept (doing (suc i) rs).known (served_after o.served rs).server.directory.list r.served.server.directory.list (known_few o p i x rs at) grows in
    record {
      phase = at.phase;
      stands = stands at.phase at.stands;
      matches = subst (λ (v : View). Matches x v at.phase (doing (suc i) (rs ++ r ∷ []))) (sym same) (subst (λ (d : Doing). Matches x (view_at p i) at.phase d) (sym does) at.matches);
      names = names ∙ at.names;
      cursors = subst (Remembers x.node.names x.node.caller.cursors) (sym stays) at.cursors;
      goes = λ busy. subst (λ (v : View). GoesSoFar o.setup.pool (standing o (suc i) (rs ++ r ∷ [])) x (call_at x v)) (sym same)
          (goes_same o.setup.pool (standing o (suc i) rs) (standing o (suc i) (rs ++ r ∷ [])) x (call_at x (view_at p i)) names does stays (at.goes busy));
      lacks = subst (LacksNames x) (sym same) at.lacks;
    }

-- what a step of the client of the record finds behind it
abbrev pub standing_behind : Opening → ℕ → List Record → Record → Standing
standing_behind o a rs r = record (standing o a (rs ++ r ∷ [])) { does = does (doing a rs) r r.event; names = names_of r.served (does (doing a rs) r r.event) }

pub standing_own : (o : Opening) (a : ℕ) (rs : List Record) (r : Record) → actor_of r.event ≡ a → standing o a (rs ++ r ∷ []) ≡ standing_behind o a rs r
standing_own o a rs r e = (λ j. record (standing o a (rs ++ r ∷ [])) { does = doing_own a rs r e j; names = names_of (served_more o.served rs r j) (doing_own a rs r e j) })

-- the client of which it is
pub own_client : (o : Opening) (q : Plain) (i : ℕ) (y : ClientState) (f : Phase) (rs : List Record) (r : Record) → actor_of r.event ≡ suc i → Stands o q i y f → Matches y (view_at q i) f (does (doing (suc i) rs) r r.event)
    → names_of r.served (does (doing (suc i) rs) r r.event) ≡ y.node.names → Remembers y.node.names y.node.caller.cursors (ended (suc i) (rs ++ r ∷ []))
    → (y.node.caller.under ≢ NoCall → GoesSoFar o.setup.pool (standing_behind o (suc i) rs r) y (call_at y (view_at q i))) → LacksNames y (view_at q i) → IsClientAt o q i y (rs ++ r ∷ [])
own_client o q i y f rs r e stands matches names cursors goes lacks = record {
  phase = f;
  stands = stands;
  matches = subst (λ (d : Doing). Matches y (view_at q i) f d) (sym (doing_own (suc i) rs r e)) matches;
  names = ap (λ (s : Standing). s.names) (standing_own o (suc i) rs r e) ∙ names;
  cursors = cursors;
  goes = λ busy. subst (λ (s : Standing). GoesSoFar o.setup.pool s y (call_at y (view_at q i))) (sym (standing_own o (suc i) rs r e)) (goes busy);
  lacks = lacks;
}

-- the clients where that of one place is another
pub each_set : (P : ℕ → ClientState → Type 0) (xs : List ClientState) (i : ℕ) (y : ClientState) → P i y → ((j : ℕ) (z : ClientState) → j ≢ i → nth xs j ≡ Some z → P j z) → (j : ℕ) (z : ClientState) → nth (set xs i y) j ≡ Some z → P j z
each_set P xs i y here others j z e = ⊎_elim
    (λ (h : (j ≡ i) × (y ≡ z)). subst (λ (k : ℕ). P k z) (sym h.0) (subst (P i) h.1 here))
    (λ (h : (j ≢ i) × (nth xs j ≡ Some z)). others j z h.0 h.1)
    (nth_set xs i j y z e)

abbrev pub with_client : Parts → ℕ → ClientState → Parts
with_client m i y = record m { clients = set m.clients i y }

-- the machine with another client, another side of the server and another pool
abbrev pub with_step : Parts → ℕ → ClientState → Served → Plain → Parts
with_step m i y w q = record m { clients = set m.clients i y; served = w; pool = q }

-- the entries of a client are the same where the entry is another client's
own_kept : (h : List Entry) (e : Option Entry) (c n : ℕ) → IfSome e (λ (x : Entry). x.client ≡ n) → n ≢ c → own (h ++ option_to_list e) c ≡ own h c
own_kept h None c n is apart = ap (λ (l : List Entry). own l c) (append-nil h)
own_kept h (Some e) c n is apart = filter-append (λ (x : Entry). x.client == c) h (e ∷ []) ∙ ap (λ (l : List Entry). own h c ++ l) (ap (λ (b : Bool). if b then e ∷ [] else []) (ne_eqb e.client c (λ s. apart (sym is ∙ s)))) ∙ append-nil (own h c)

-- a client stands where it stood, in a pool where its view and its entries are the same
pub stands_in : (o : Opening) (p q : Plain) (i : ℕ) (x : ClientState) (f : Phase) → q.setup ≡ p.setup → q.opened ≡ p.opened → q.entries ≡ history q → length q.views ≡ length p.views → length (own q.entries (suc i)) ≡ length (own p.entries (suc i)) → view_at q i ≡ view_at p i → Stands o p i x f → Stands o q i x f
stands_in o p q i x f setup opened entered seats number view s = record {
  setup = setup ∙ s.setup;
  opened = opened ∙ s.opened;
  entered = entered;
  seat = s.seat;
  seats = seats ∙ s.seats;
  client = s.client;
  number = s.number ∙ sym number;
  pool = s.pool;
  holds = subst (λ (v : View). NodeHolds x.node (call_at x v) v x.room) (sym view) s.holds;
  phase = s.phase;
  call = s.call;
  linked = subst (λ (v : View). HasLinked x.node.caller.under v.pass.since) (sym view) s.linked;
}

-- another client stands where it stood
pub stands_on : (o : Opening) (i j : ℕ) (z : ClientState) (f : Phase) (x : Option Access) (e : Option Entry) (p q : Plain) → j ≢ i → IfSome e (λ (y : Entry). y.client ≡ suc i) → Moved x e p q → view_at q j ≡ view_at p j → Stands o p j z f → Stands o q j z f
stands_on o i j z f x e p q apart is moved view s =
    stands_in o p q j z f moved.setup moved.opened moved.entered moved.seats (ap (λ (l : List Entry). length (own l (suc j))) moved.entries ∙ ap length (own_kept p.entries e (suc j) (suc i) is (λ (h : suc i ≡ suc j). apart (omega arith)))) view s

-- the pool behind a record of the access and the entry, or of none
pub moved_pool : (o : Opening) (p q : Plain) (rs : List Record) (r : Record) → IsPoolAt o p rs → Moved r.access r.entry p q → IsPoolAt o q (rs ++ r ∷ [])
moved_pool o p q rs r at moved = record {
  setup = moved.setup ∙ at.setup;
  first = moved.first ∙ at.first;
  used = moved.used ∙ at.used;
  opened = moved.opened ∙ at.opened;
  whole = moved.whole ∙ at.whole;
  words = moved.words ∙ ap (λ (s : Setup). words_by s.pool p.words r.access) at.setup ∙ ap (λ (w : List ℕ). words_by o.setup.pool w r.access) at.words ∙ sym (words_more o.setup.pool o.words rs r);
  entries = moved.entries ∙ ap (λ (l : List Entry). l ++ option_to_list r.entry) at.entries ∙ sym (entries_more rs r);
  entered = moved.entered;
  accesses = moved.accesses ∙ grown p.traced at.accesses ∙ ap (λ (b : Bool). if b then (o.listed ++ accesses_in rs) ++ option_to_list r.access else []) (sym moved.traced) ∙ ap (λ (l : List Access). if q.traced then l else []) (append_assoc o.listed (accesses_in rs) (option_to_list r.access) ∙ ap (λ (l : List Access). o.listed ++ l) (sym (accesses_more rs r)));
  made = moved.made ∙ ap (λ (n : ℕ). made_by n r.access) at.made ∙ sym (made_more o.made rs r);
  seats = moved.seats ∙ at.seats;
}
  where
    grown : (b : Bool) → p.accesses ≡ listed_in o.listed b rs → (if b then p.accesses ++ option_to_list r.access else p.accesses) ≡ (if b then (o.listed ++ accesses_in rs) ++ option_to_list r.access else [])
    grown true h = ap (λ (l : List Access). l ++ option_to_list r.access) h
    grown false h = h
