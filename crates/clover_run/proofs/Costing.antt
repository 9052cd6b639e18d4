-- A call that runs alone, followed from its begin: before it starts for the last time its own accesses are at most one load of the count, and the sum is what it costs from there on and the server's part.
use Prim.Native.Nat.{suc}
use Rattle.std.proofs.Common.{◌≡◌, ◌≢◌, ◌⊎◌, inl, inr, ℕ, ◌+◌, ◌<◌, ◌≤◌, eq-eqb, length, length-append, List, [], ◌∷◌, ◌++◌, Bool, true, false, refl, sym, ap, ◌∙◌, subst, arith, append_assoc, append-nil, option_to_list}
use Rattle.std.specs.Prelude.{if◌then◌else◌, Option, Some, None, IfSome, IsSome}
use native.Mathlib.Decide.{ℕ_discrete}
use mathlib.Core.Logic.{dite}
use Rattle.clover_words.specs.declared.pool.Pool.{Pool}
use Rattle.clover_words.specs.declared.word.Word.TheVariants.{Count}
use Rattle.clover_map.specs.declared.call.Call.{Call}
use Rattle.clover_map.specs.declared.call.Call.TheVariants.{Get, Put, Delete, Swap}
use Rattle.clover_map.specs.declared.call.Reply.{Reply}
use Rattle.clover_map.specs.declared.call.Reply.TheVariants.{Absent}
use Rattle.clover_script.specs.declared.line.Task.{Task}
use Rattle.clover_script.specs.declared.line.Task.TheVariants.{Client as ClientTask}
use Rattle.clover_node.specs.Node.{IsPut}
use Rattle.clover_rule.specs.Accesses.{CameBack}
use Rattle.clover_rule.specs.Lists.{Each, nth}
use Rattle.clover_rule.specs.declared.access.Access.{Access}
use Rattle.clover_rule.specs.declared.access.Act.{Act}
use Rattle.clover_rule.specs.declared.access.Act.TheVariants.{Load}
use Rattle.clover_rule.specs.declared.access.Actor.{Actor}
use Rattle.clover_rule.specs.declared.access.Actor.TheVariants.{Client, Server}
use Rattle.clover_event.specs.Folds.{actor_of}
use Rattle.clover_event.specs.declared.event.Event.{Event}
use Rattle.clover_event.specs.declared.event.Event.TheVariants.{Begin, Step}
use Rattle.clover_event.proofs.Places.{same_snoc}
use Rattle.clover_run.specs.Alone.{AllCounted, EndsAlone, IsAnswered, IsOwnStep, Starts}
use Rattle.clover_run.specs.Costs.{AloneCall, CostLaw, IsAnsweredBy, IsMade, count_load, counts_in, if_count, own_cost, tasks_cost}
use Rattle.clover_run.specs.Folds.{Doing, accesses_in, begun, does, doing, ends, served_after, stepped}
use Rattle.clover_run.specs.Lawful.{IsLawful}
use Rattle.clover_run.specs.Owed.{IsPaid, if_there, rest_behind, rest_of, served_in, server_act, servers_act}
use Rattle.clover_run.specs.Record.{Record}
use Rattle.clover_run.specs.Rounds.{CostsRound, IsRoundStep, IsServers, Round}
use Rattle.clover_run.specs.Run.{Opening, Standing, Fits, Follows, GoesOn, IsDueOn, IsRun, IsStep, IsStepFor, IsStepOf, counted, standing, want_in, known_slot}
use Rattle.clover_run.specs.Serving.{IsServed}
use Rattle.clover_run.specs.Wanting.{unless_stocked, wants}
use Rattle.clover_run.specs.declared.event.Note.{Note}
use Rattle.clover_run.specs.declared.event.Note.TheVariants.{Quiet, Answered, Granted}
use Rattle.clover_run.specs.declared.served.Served.{Served}
use Rattle.clover_run.specs.declared.want.Want.{Want}
use Rattle.clover_run.specs.declared.want.Want.TheVariants.{Nothing, Stock, Names}
use Rattle.clover_run.proofs.Stretch.{ending, no_snoc}
use Rattle.clover_run.proofs.Attended.{served_unanswered}
use Rattle.clover_run.proofs.Pasts.{doing_own, goes_more, served_more}
use Rattle.clover_run.proofs.Paying.{goes_behind}
use Rattle.clover_run.proofs.Rounding.{is_nothing}
use Rattle.clover_run.proofs.Singly.{IsUnder, Went, Over, Kept, Grants, Owns, anew, behind, bound_at, gone, granted_idle, kept_task, owns_served, slot_at, want_at, wants_none, wants_some, went}

-- what holds of each of two lists one behind the other
each_front : (P : Record → Type 0) (xs ys : List Record) → Each P (xs ++ ys) → Each P xs
each_front P [] ys h = tt
each_front P (x ∷ xs) ys h = (h.0, each_front P xs ys h.1)

each_back : (P : Record → Type 0) (xs ys : List Record) → Each P (xs ++ ys) → Each P ys
each_back P [] ys h = h
each_back P (x ∷ xs) ys h = each_back P xs ys h.1

-- the accesses of some records behind others
made_both : (xs ys : List Record) → length (accesses_in (xs ++ ys)) ≡ length (accesses_in xs) + length (accesses_in ys)
made_both [] ys = omega arith
made_both (r ∷ rs) ys =
    let e = made_both rs ys in
    let a = length-append (option_to_list r.access) (accesses_in (rs ++ ys)) in
    let b = length-append (option_to_list r.access) (accesses_in rs) in
    omega arith

served_both : (xs ys : List Record) → served_in (xs ++ ys) ≡ served_in xs + served_in ys
served_both [] ys = omega arith
served_both (r ∷ rs) ys = let e = served_both rs ys in omega arith

counts_both : (xs ys : List Record) → counts_in (xs ++ ys) ≡ counts_in xs + counts_in ys
counts_both [] ys = omega arith
counts_both (r ∷ rs) ys = let e = counts_both rs ys in omega arith

-- an access of the server, or none
servers_access : (o : Option Access) → IfSome o (λ (x : Access). x.actor ≡ Server) → IfSome o (λ (x : Access). x.refused ≡ false) → (length (option_to_list o) ≡ if_there (server_act o)) × (count_load o ≡ 0)
servers_access None a b = (refl, refl)
servers_access (Some x) a b = ((λ k. if_there (servers_act (sym a k) (sym b k) x.act)), (λ k. if_count (a k) x.act))

-- one of a client's own
own_access : (o : Option Access) (x : Access) (c : ℕ) → o ≡ Some x → x.actor ≡ Client c → (length (option_to_list o) ≡ 1) × (if_there (server_act o) ≡ 0)
own_access o x c e a = (ap (λ (z : Option Access). length (option_to_list z)) e, ap (λ (z : Option Access). if_there (server_act z)) e ∙ ap (λ (b : Actor). if_there (servers_act b x.refused x.act)) a)

count_access : (o : Option Access) (x : Access) (c n : ℕ) → o ≡ Some x → x.actor ≡ Client c → x.act ≡ Load Count n → count_load o ≡ 1
count_access o x c n e a t = ap count_load e ∙ (λ k. if_count (a k) (t k))

-- the own accesses of a round, and the server's behind them
all_own : (c : ℕ) (rs : List Record) → Each (IsOwnStep c) rs → (length (accesses_in rs) ≡ length rs) × (served_in rs ≡ 0)
all_own c [] h = (refl, refl)
all_own c (r ∷ rs) h =
    let k = all_own c rs h.1 in
    let m = own_access r.access h.0.access c h.0.is h.0.actor in
    let a = length-append (option_to_list r.access) (accesses_in rs) in
    let k0 = k.0 in let k1 = k.1 in let m0 = m.0 in let m1 = m.1 in
    (omega arith, omega arith)

all_servers : (c : ℕ) (rs : List Record) → Each IsServers rs → Each (IsMade c) rs → length (accesses_in rs) ≡ served_in rs
all_servers c [] h is = refl
all_servers c (r ∷ rs) h is =
    let k = all_servers c rs h.1 is.1 in
    let m = (servers_access r.access h.0 is.0.made).0 in
    let a = length-append (option_to_list r.access) (accesses_in rs) in
    omega arith

-- a step starts the call anew, or not
starts_or : (c : ℕ) (e : Event) (note : Note) → e ≡ Step c → ((b names : ℕ) × (note ≡ Granted b names) × Starts c e note) ⊎ (Starts c e note → ⊥)
starts_or c e note is = by note
  where
    there : (n : Note) → Starts c e n → Starts c (Step c) n
    there n s = subst (λ (v : Event). Starts c v n) is s

    by : (n : Note) → ((b names : ℕ) × (n ≡ Granted b names) × Starts c e n) ⊎ (Starts c e n → ⊥)
    by (Granted b names) = inl (b, names, refl, subst (λ (v : Event). Starts c v (Granted b names)) (sym is) refl)
    by n = inr (there n)

-- the steps from the last start on
record LastStart (c : ℕ) (steps : List Record) : Type 0 where
  pub earlier : List Record
  pub last : List Record
  pub split : steps ≡ earlier ++ last
  pub own : Each (IsRoundStep c) last
  pub start : (earlier ≡ []) ⊎ ((front : List Record) × (r : Record) × (b names : ℕ) × (earlier ≡ front ++ r ∷ []) × (r.note ≡ Granted b names) × Starts c r.event r.note)

-- with one step more before them
more_first : (c : ℕ) (r : Record) (rs : List Record) → IsMade c r → LastStart c rs → LastStart c (r ∷ rs)
more_first c r rs is k = by k.start
  where
    here : k.earlier ≡ [] → ((b names : ℕ) × (r.note ≡ Granted b names) × Starts c r.event r.note) ⊎ (Starts c r.event r.note → ⊥) → LastStart c (r ∷ rs)
    here e (inl s) = record {
      earlier = r ∷ [];
      last = k.last;
      split = ap (λ (l : List Record). r ∷ l) (k.split ∙ ap (λ (l : List Record). l ++ k.last) e);
      own = k.own;
      start = inr ([], r, s.0, s.1, refl, s.2, s.3);
    }
    here e (inr s) = record {
      earlier = [];
      last = r ∷ k.last;
      split = ap (λ (l : List Record). r ∷ l) (k.split ∙ ap (λ (l : List Record). l ++ k.last) e);
      own = (record { event = is.event; made = is.made; goes_on = s }, k.own);
      start = inl refl;
    }

    by : (k.earlier ≡ []) ⊎ ((front : List Record) × (z : Record) × (b names : ℕ) × (k.earlier ≡ front ++ z ∷ []) × (z.note ≡ Granted b names) × Starts c z.event z.note) → LastStart c (r ∷ rs)
    by (inl e) = here e (starts_or c r.event r.note is.event)
    by (inr s) = record {
      earlier = r ∷ k.earlier;
      last = k.last;
      split = ap (λ (l : List Record). r ∷ l) k.split;
      own = k.own;
      start = inr (r ∷ s.0, s.1, s.2, s.3, ap (λ (l : List Record). r ∷ l) s.4, s.5, s.6);
    }

last_start : (c : ℕ) (steps : List Record) → Each (IsMade c) steps → LastStart c steps
last_start c [] is = record { earlier = []; last = []; split = refl; own = tt; start = inl refl }
last_start c (r ∷ rs) is = more_first c r rs is.0 (last_start c rs is.1)

-- a put or none
is_put : (call : Call) → IsPut call ⊎ (IsPut call → ⊥)
is_put (Put key value) = inl tt
is_put (Get key) = inr (λ e. e)
is_put (Delete key) = inr (λ e. e)
is_put (Swap key expected value) = inr (λ e. e)

-- a call that is no put wants nothing where it starts on unput slot
unput_free : (call : Call) (stock : List ℕ) → (IsPut call → ⊥) → wants call None stock [] ≡ Nothing
unput_free (Put key value) stock unput = absurd (unput tt)
unput_free (Get key) stock unput = refl
unput_free (Delete key) stock unput = refl
unput_free (Swap key expected value) stock unput = refl

-- and is answered by a count of the bindings that its client knows
unput_counted : (call : Call) (a n m : ℕ) → (IsPut call → ⊥) → n ≡ m → counted call a n m ≡ Answered a Absent
unput_counted (Put key value) a n m unput e = absurd (unput tt)
unput_counted (Get key) a n m unput e = ap (λ (b : Bool). if b then Answered a Absent else Quiet) (eq-eqb n m e)
unput_counted (Delete key) a n m unput e = ap (λ (b : Bool). if b then Answered a Absent else Quiet) (eq-eqb n m e)
unput_counted (Swap key expected value) a n m unput e = ap (λ (b : Bool). if b then Answered a Absent else Quiet) (eq-eqb n m e)

some_slot : (s : Option ℕ) → IsSome s → (t : ℕ) × (s ≡ Some t)
some_slot None h = absurd (let q : false ≡ true = h in cc)
some_slot (Some t) h = (t, refl)

no_slot : (s : Option ℕ) → s ≡ None → IsSome s → ⊥
no_slot s e h = let q : false ≡ true = subst IsSome e h in absurd cc

-- no call is under way where none is
none_under : (t : Option Task) (u : Task) → t ≡ None → t ≡ Some u → ⊥
none_under t u a b = let q : None ≡ Some u = sym a ∙ b in absurd cc

-- a list with a last element is not empty
some_acts : (xs : List Act) (a : Act) (ys : List Act) → ys ≡ xs ++ a ∷ [] → ys ≢ []
some_acts xs a ys e z = let l : 0 ≡ length (xs ++ a ∷ []) = ap length (sym z ∙ e) in let k = length-append xs (a ∷ []) in absurd (omega arith)

-- a call that starts wants no bindings
unless_named : (stock : List ℕ) → unless_stocked stock ≡ Names → ⊥
unless_named [] e = cc
unless_named (t ∷ ts) e = cc

first_unnamed : (call : Call) (slot : Option ℕ) (stock : List ℕ) → wants call slot stock [] ≡ Names → ⊥
first_unnamed (Put key value) slot stock e = unless_named stock e
first_unnamed (Get key) slot stock e = cc
first_unnamed (Delete key) None stock e = cc
first_unnamed (Delete key) (Some s) stock e = unless_named stock e
first_unnamed (Swap key expected value) None stock e = cc
first_unnamed (Swap key expected value) (Some s) stock e = unless_named stock e

module _ (o : Opening) (rs : List Record) (none : o.served.server.task ≡ None) (all : AllCounted o rs) (c : ℕ) (call : Call) (written : ℕ) (first : Option ℕ) where
  -- what holds of some steps from the begin on behind which the call is under way, and has made no accesses of its own but loads of the count
  record Early (l e : List Record) : Type 0 where
    pub under : IsUnder o none c call written l
    pub counts : counts_in e ≤ 1
    pub known : IsSome first → counts_in e ≡ 0
    pub sum : length (accesses_in e) ≡ counts_in e + served_in e

  -- The call is over; it has accesses of its own to make on its slot, and has made one; it has not loaded the count, and does not know its key; it has loaded the count, and wants bindings; it knows its key; or it was handed all bindings, and its key is not among them.
  data At (l e : List Record) : Type 0 where
    Gone : (doing c l).task ≡ None → At l e
    Calls : IsUnder o none c call written l → want_at o none c call written l ≡ Nothing → ((doing c l).since ≢ []) → (s : ℕ) → slot_at o none c call written l ≡ Some s → At l e
    Fresh : Early l e → counts_in e ≡ 0 → slot_at o none c call written l ≡ None → (IsSome first → ⊥) → At l e
    Asked : Early l e → slot_at o none c call written l ≡ None → want_at o none c call written l ≡ Names → (IsSome first → ⊥) → At l e
    Named : Early l e → (s : ℕ) → slot_at o none c call written l ≡ Some s → At l e
    Handed : Early l e → slot_at o none c call written l ≡ None → want_at o none c call written l ≡ Nothing → (IsSome first → ⊥) → (doing c l).known ≡ bound_at o none c call written l → (IsPut call → ⊥) → At l e

  abbrev W : List Record → Record → Type 0
  W l r = Went o none c call written l r

  module _ (l e : List Record) (run : IsRun o l) (r : Record) (h : Follows o l r) (is : IsMade c r) (whole : (rest : List Record) × (rs ≡ l ++ rest)) where
    abbrev next : List Record
    next = l ++ r ∷ []

    abbrev on : List Record
    on = e ++ r ∷ []

    one_made : length (accesses_in on) ≡ length (accesses_in e) + length (option_to_list r.access)
    one_made = let a = made_both e (r ∷ []) in let b = length-append (option_to_list r.access) [] in omega arith

    one_served : served_in on ≡ served_in e + if_there (server_act r.access)
    one_served = let a = served_both e (r ∷ []) in omega arith

    one_count : counts_in on ≡ counts_in e + count_load r.access
    one_count = let a = counts_both e (r ∷ []) in omega arith

    -- behind a step of the server
    early_served : Early l e → IsUnder o none c call written next → IsServers r → Early next on
    early_served y under servers =
        let k = servers_access r.access servers is.made in
        let k0 = k.0 in let k1 = k.1 in
        let m = one_made in let s = one_served in let n = one_count in
        let few = y.counts in let sum = y.sum in
        record {
          under = under;
          counts = omega arith;
          known = λ f. (let z = y.known f in omega arith);
          sum = omega arith;
        }

    no_count : IsServers r → counts_in e ≡ 0 → counts_in on ≡ 0
    no_count servers z = let k = (servers_access r.access servers is.made).1 in let n = one_count in omega arith

    -- behind a load of the count
    early_counted : Early l e → counts_in e ≡ 0 → (IsSome first → ⊥) → IsUnder o none c call written next → (x : Access) (n : ℕ) → r.access ≡ Some x → x.actor ≡ Client c → x.act ≡ Load Count n → Early next on
    early_counted y z unknown under x n a actor act =
        let k = own_access r.access x c a actor in
        let k0 = k.0 in let k1 = k.1 in
        let one = count_access r.access x c n a actor act in
        let m = one_made in let s = one_served in let t = one_count in
        let sum = y.sum in
        record {
          under = under;
          counts = omega arith;
          known = λ f. absurd (unknown f);
          sum = omega arith;
        }

    granted_servers : r.access ≡ None → IsServers r
    granted_servers a = subst (λ (x : Option Access). IfSome x (λ (y : Access). y.actor ≡ Server)) (sym a) tt

    -- an access of its own on its slot
    calls_on : (s : ℕ) → slot_at o none c call written next ≡ Some s → IsUnder o none c call written next → (x : Access) → (doing c next).since ≡ (doing c l).since ++ x.act ∷ [] → At next on
    calls_on s slot under x since =
        Calls under ((λ i. wants call (slot i) (doing c next).stock (since i)) ∙ wants_some call s (doing c next).stock (doing c l).since x.act) (some_acts (doing c l).since x.act (doing c next).since since) s slot

    named_on : Early next on → (s : Option ℕ) → slot_at o none c call written next ≡ s → IsSome s → At next on
    named_on y None k some = absurd (let q : false ≡ true = some in cc)
    named_on y (Some s) k some = Named y s k

    calls_so : want_at o none c call written l ≡ Nothing → (s : ℕ) → slot_at o none c call written l ≡ Some s → W l r → At next on
    calls_so w s k (Over g) = Gone g
    calls_so w s k (Kept servers n under want slot) = absurd (n w)
    calls_so w s k (Grants a n under since known put more) = absurd (n w)
    calls_so w s k (Owns free x a actor made under quiet slot since due came) = calls_on s (slot ∙ k) under x since

    named_so : Early l e → (s : ℕ) → slot_at o none c call written l ≡ Some s → W l r → At next on
    named_so y s k (Over g) = Gone g
    named_so y s k (Kept servers n under want slot) = Named (early_served y under servers) s (slot ∙ k)
    named_so y s k (Grants a n under since known put more) = named_on (early_served y under (granted_servers a)) (slot_at o none c call written next) refl (more (subst IsSome (sym k) refl))
    named_so y s k (Owns free x a actor made under quiet slot since due came) = calls_on s (slot ∙ k) under x since

    fresh_so : Early l e → counts_in e ≡ 0 → slot_at o none c call written l ≡ None → (IsSome first → ⊥) → W l r → At next on
    fresh_so y z k unknown (Over g) = Gone g
    fresh_so y z k unknown (Kept servers n under want slot) = Fresh (early_served y under servers) (no_count servers z) (slot ∙ k) unknown
    fresh_so y z k unknown (Grants a n under since known put more) = by (slot_at o none c call written next) refl
      where
        by : (s : Option ℕ) → slot_at o none c call written next ≡ s → At next on
        by None q = Fresh (early_served y under (granted_servers a)) (no_count (granted_servers a) z) q unknown
        by (Some s) q = Named (early_served y under (granted_servers a)) s q
    fresh_so y z k unknown (Owns free x a actor made under quiet slot since due came) =
        let count = subst (λ (s : Option ℕ). IsDueOn o.setup.pool (standing o c l) s call x.act r.note) k due in
        Asked (early_counted y z unknown under x count.0 a actor count.1) (slot ∙ k)
        ((λ i. wants call ((slot ∙ k) i) (doing c next).stock (since i)) ∙ wants_none call (doing c next).stock (doing c l).since x.act) unknown

    asked_so : Early l e → slot_at o none c call written l ≡ None → want_at o none c call written l ≡ Names → (IsSome first → ⊥) → W l r → At next on
    asked_so y k w unknown (Over g) = Gone g
    asked_so y k w unknown (Kept servers n under want slot) = Asked (early_served y under servers) (slot ∙ k) (want ∙ w) unknown
    asked_so y k w unknown (Grants a n under since known put more) = by (slot_at o none c call written next) refl
      where
        early : Early next on
        early = early_served y under (granted_servers a)

        handed : slot_at o none c call written next ≡ None → IsPut call ⊎ (IsPut call → ⊥) → At next on
        handed q (inl p) = absurd (no_slot (slot_at o none c call written next) q (put w p))
        handed q (inr p) = Handed early q ((λ i. wants call (q i) (doing c next).stock (since i)) ∙ unput_free call (doing c next).stock p) unknown known p

        by : (s : Option ℕ) → slot_at o none c call written next ≡ s → At next on
        by None q = handed q (is_put call)
        by (Some s) q = Named early s q
    asked_so y k w unknown (Owns free x a actor made under quiet slot since due came) = absurd (let q : Nothing ≡ Names = sym free ∙ w in cc)

    handed_so : slot_at o none c call written l ≡ None → want_at o none c call written l ≡ Nothing → (doing c l).known ≡ bound_at o none c call written l → (IsPut call → ⊥) → W l r → At next on
    handed_so k w all_known unput (Over g) = Gone g
    handed_so k w all_known unput (Kept servers n under want slot) = absurd (n w)
    handed_so k w all_known unput (Grants a n under since known put more) = absurd (n w)
    handed_so k w all_known unput (Owns free x a actor made under quiet slot since due came) =
        let count = subst (λ (s : Option ℕ). IsDueOn o.setup.pool (standing o c l) s call x.act r.note) k due in
        let back = subst (CameBack o.setup.pool (standing o c l).words) count.1 came in
        let same : (doing c l).known ≡ count.0 = all_known ∙ sym (back ∙ all l whole.0 whole.1) in
        let answer : Quiet ≡ Answered c Absent = sym quiet ∙ count.2 ∙ unput_counted call c (doing c l).known count.0 unput same in
        absurd cc

    step_on : At l e → At next on
    step_on (Gone g) = Gone (gone o none c call written l run r h is g)
    step_on (Calls u w since s k) = calls_so w s k (went o none c call written l run r h is u)
    step_on (Fresh y z k unknown) = fresh_so y z k unknown (went o none c call written l run r h is y.under)
    step_on (Asked y k w unknown) = asked_so y k w unknown (went o none c call written l run r h is y.under)
    step_on (Named y s k) = named_so y s k (went o none c call written l run r h is y.under)
    step_on (Handed y k w unknown known unput) = handed_so k w known unput (went o none c call written l run r h is y.under)

  -- all steps
  follow : (l e steps : List Record) → IsRun o l → GoesOn o l steps → Each (IsMade c) steps → ((after : List Record) × (rs ≡ l ++ (steps ++ after))) → At l e → At (l ++ steps) (e ++ steps)
  follow l e [] run goes is whole at = (λ (l1 : List Record) (same : l ≡ l1) (e1 : List Record) (same1 : e ≡ e1). subst (λ (z : List Record). At l1 z) same1 (subst (λ (z : List Record). At z e) same at)) (l ++ []) (sym (append-nil l)) (e ++ []) (sym (append-nil e))
  follow l e (r ∷ steps) run goes is whole at =
      let there = follow (l ++ r ∷ []) (e ++ r ∷ []) steps (goes_more o [] l r run goes.0) goes.1 is.1 (whole.0, whole.1 ∙ sym (append_assoc l (r ∷ []) (steps ++ whole.0)))
      (step_on l e run r goes.0 is.0 (r ∷ (steps ++ whole.0), whole.1) at) in
      subst (λ (z : List Record). At z (e ++ r ∷ steps)) (append_assoc l (r ∷ []) steps) (subst (At ((l ++ r ∷ []) ++ steps)) (append_assoc e (r ∷ []) steps) there)

  under_or : (l e : List Record) → At l e → ((doing c l).task ≡ None) ⊎ IsUnder o none c call written l
  under_or l e (Gone g) = inl g
  under_or l e (Calls u w since s k) = inr u
  under_or l e (Fresh y z k unknown) = inr y.under
  under_or l e (Asked y k w unknown) = inr y.under
  under_or l e (Named y s k) = inr y.under
  under_or l e (Handed y k w unknown known unput) = inr y.under

  -- where the call starts it has made at most one load of the count
  start_early : (l e : List Record) → IsUnder o none c call written l → (doing c l).since ≡ [] → At l e → Early l e
  start_early l e under since (Gone g) = absurd (none_under (doing c l).task (ClientTask call written) g under)
  start_early l e under since (Calls u w some s k) = absurd (some since)
  start_early l e under since (Fresh y z k unknown) = y
  start_early l e under since (Asked y k w unknown) = y
  start_early l e under since (Named y s k) = y
  start_early l e under since (Handed y k w unknown known unput) = y

  -- a put that has made it by then knows its key
  start_once : (l e : List Record) → IsUnder o none c call written l → (doing c l).since ≡ [] → At l e → counts_in e ≡ 1 → IsPut call → IsSome (slot_at o none c call written l)
  start_once l e under since (Gone g) one put = absurd (none_under (doing c l).task (ClientTask call written) g under)
  start_once l e under since (Calls u w some s k) one put = absurd (some since)
  start_once l e under since (Fresh y z k unknown) one put = absurd (let q : 0 ≡ 1 = sym z ∙ one in omega arith)
  start_once l e under since (Asked y k w unknown) one put = absurd (first_unnamed call (slot_at o none c call written l) (doing c l).stock (sym (ap (wants call (slot_at o none c call written l) (doing c l).stock) since) ∙ w))
  start_once l e under since (Named y s k) one put = subst IsSome (sym k) refl
  start_once l e under since (Handed y k w unknown known unput) one put = absurd (unput put)

answered_as : (c : ℕ) (note : Note) → IsAnswered c note → (b : ℕ) × (reply : Reply) × (note ≡ Answered b reply)
answered_as c (Answered b reply) h = (b, reply, refl)
answered_as c note h = absurd h

-- the element behind some others
nth_last : (xs : List Record) (x : Record) → nth (xs ++ x ∷ []) (length xs) ≡ Some x
nth_last [] x = refl
nth_last (y ∷ ys) x = nth_last ys x

-- a client that was answered by the last of its own accesses has made what its call costs
full_cost : (p : Pool) (st : Standing) (slot : Option ℕ) (call : Call) (c : ℕ) (own front : List Record) (r : Record) → own ≡ front ++ r ∷ [] → IsAnswered c r.note → (ends : EndsAlone p st slot call c own) → length own ≡ own_cost p st slot call c own ends
full_cost p st None call c own front r e answer ends = let few = ends.few in let l = ap length e in let k = length-append front (r ∷ []) in omega arith
full_cost p st (Some slot) call c own front r e answer ends = by (length own) refl
  where
    cost : ℕ
    cost = own_cost p st (Some slot) call c own ends

    few : length own ≤ cost
    few = ends.1.few

    long : length own ≡ suc (length front)
    long = let l = ap length e in let k = length-append front (r ∷ []) in omega arith

    unquiet : suc (length front) < cost → ⊥
    unquiet l = subst (IsAnswered c) (ends.1.quiet (length front) r (ap (λ (z : List Record). nth z (length front)) e ∙ nth_last front r) l) answer

    by : (n : ℕ) → length own ≡ n → length own ≡ cost
    by n q = dite (ℕ_discrete (length own) cost) (λ s. s) (λ s. absurd (unquiet (let f = few in let g = long in let lt : length own < cost = less (length own) cost f s in omega arith)))
      where
        less : (a b : ℕ) → a ≤ b → a ≢ b → a < b
        less a b f s = omega arith

module _ (o : Opening) (rs : List Record) (none : o.served.server.task ≡ None) (lawful : IsLawful o rs) (x : AloneCall o rs) where
  cut : GoesOn o [] x.before × GoesOn o x.before (x.steps ++ x.after)
  cut = goes_behind o [] x.before (x.steps ++ x.after) (subst (GoesOn o []) x.whole lawful.run)

  goes : GoesOn o x.before x.steps
  goes = (goes_behind o x.before x.steps x.after cut.1).0

  abbrev first : Option ℕ
  first = known_slot (standing o x.client x.before) x.call

  abbrev Under : List Record → Type 0
  Under l = IsUnder o none x.client x.call x.written l

  abbrev AtOf : List Record → List Record → Type 0
  AtOf l e = At o rs none lawful.counted x.client x.call x.written first l e

  -- the call begins there
  begun_there : doing x.client x.before ≡ begun (doing x.client x.begun.0) (ClientTask x.call x.written) Quiet
  begun_there =
      ap (doing x.client) x.begun.2
      ∙ doing_own x.client x.begun.0 x.begun.1 (ap actor_of x.begun.3)
      ∙ ap (does (doing x.client x.begun.0) x.begun.1) x.begun.3
      ∙ ap (begun (doing x.client x.begun.0) (ClientTask x.call x.written)) x.begun.4

  under : Under x.before
  under = ap (λ (d : Doing). d.task) begun_there

  since : (doing x.client x.before).since ≡ []
  since = ap (λ (d : Doing). d.since) begun_there

  early : Early o rs none lawful.counted x.client x.call x.written first x.before []
  early = record { under = under; counts = omega arith; known = λ s. refl; sum = refl }

  at_begin : AtOf x.before []
  at_begin = by first refl
    where
      by : (s : Option ℕ) → first ≡ s → AtOf x.before []
      by None e = Fresh early refl e (no_slot first e)
      by (Some s) e = Named early s e

  -- the steps up to some place
  module _ (e later : List Record) (split : x.steps ≡ e ++ later) where
    parts : GoesOn o x.before e × GoesOn o (x.before ++ e) later
    parts = goes_behind o x.before e later (subst (GoesOn o x.before) split goes)

    whole : rs ≡ x.before ++ (e ++ (later ++ x.after))
    whole = x.whole ∙ ap (λ (l : List Record). x.before ++ l) (ap (λ (l : List Record). l ++ x.after) split ∙ append_assoc e later x.after)

    run_there : IsRun o (x.before ++ e)
    run_there = (goes_behind o [] (x.before ++ e) (later ++ x.after) (subst (GoesOn o []) (whole ∙ sym (append_assoc x.before e (later ++ x.after))) lawful.run)).0

    made_there : Each (IsMade x.client) e
    made_there = each_front (IsMade x.client) e later (subst (Each (IsMade x.client)) split x.own)

    at_there : AtOf (x.before ++ e) e
    at_there = follow o rs none lawful.counted x.client x.call x.written first x.before [] e cut.0 parts.0 made_there (later ++ x.after, whole) at_begin

  -- the call starts behind these records
  record StartsAt (l : List Record) : Type 0 where
    pub under : Under l
    pub since : (doing x.client l).since ≡ []
    pub start : (front : List Record) × (start : Record) × (l ≡ front ++ start ∷ []) × Starts x.client start.event start.note

  abbrev k : LastStart x.client x.steps
  k = last_start x.client x.steps x.own

  -- one step of it: it is no grant where it is over
  still_quiet : (l : List Record) (r : Record) (b n : ℕ) → Follows o l r → IsMade x.client r → (doing x.client l).task ≡ None → r.note ≡ Granted b n → ⊥
  still_quiet l r b n h is over e =
      let step = subst (Fits o l r) is.event h in
      let still = subst (λ (t : Option Task). IsStepOf o.setup.pool (standing o x.client l) t r) over step.is in
      let q : Quiet ≡ Granted b n = sym still.note_is ∙ e in absurd cc

  starts_grant : (front : List Record) (r : Record) (b n : ℕ) → k.earlier ≡ front ++ r ∷ [] → r.note ≡ Granted b n → Starts x.client r.event r.note → StartsAt (x.before ++ k.earlier)
  starts_grant front r b n e note starts = by (under_or o rs none lawful.counted x.client x.call x.written first (x.before ++ front) front (at_there front (r ∷ k.last) there))
    where
      there : x.steps ≡ front ++ (r ∷ k.last)
      there = k.split ∙ ap (λ (l : List Record). l ++ k.last) e ∙ append_assoc front (r ∷ []) k.last

      follows : Follows o (x.before ++ front) r
      follows = (parts front (r ∷ k.last) there).1.0

      is : IsMade x.client r
      is = (each_back (IsMade x.client) front (r ∷ k.last) (subst (Each (IsMade x.client)) there x.own)).0

      place : x.before ++ k.earlier ≡ (x.before ++ front) ++ r ∷ []
      place = ap (λ (l : List Record). x.before ++ l) e ∙ sym (append_assoc x.before front (r ∷ []))

      back : doing x.client (x.before ++ k.earlier) ≡ stepped (doing x.client (x.before ++ front)) r
      back = ap (doing x.client) place ∙ behind o none x.client x.call x.written (x.before ++ front) (run_there front (r ∷ k.last) there) r follows is

      by : ((doing x.client (x.before ++ front)).task ≡ None) ⊎ Under (x.before ++ front) → StartsAt (x.before ++ k.earlier)
      by (inl over) = absurd (still_quiet (x.before ++ front) r b n follows is over note)
      by (inr u) = record {
        under = ap (λ (d : Doing). d.task) back ∙ kept_task (doing x.client (x.before ++ front)) r (ap ends note) ∙ u;
        since = ap (λ (d : Doing). d.since) back ∙ anew (doing x.client (x.before ++ front)) r b n note;
        start = (x.before ++ front, r, place, starts);
      }

  starts_there : StartsAt (x.before ++ k.earlier)
  starts_there = by k.start
    where
      by : (k.earlier ≡ []) ⊎ ((front : List Record) × (z : Record) × (b names : ℕ) × (k.earlier ≡ front ++ z ∷ []) × (z.note ≡ Granted b names) × Starts x.client z.event z.note) → StartsAt (x.before ++ k.earlier)
      by (inl e) =
          let place : x.before ≡ x.before ++ k.earlier = sym (append-nil x.before) ∙ ap (λ (l : List Record). x.before ++ l) (sym e) in
          subst StartsAt place
          (record {
            under = under;
            since = since;
            start = (x.begun.0, x.begun.1, x.begun.2, subst (λ (v : Event). Starts x.client v x.begun.1.note) (sym x.begun.3) (subst (Starts x.client (Begin x.client (ClientTask x.call x.written))) (sym x.begun.4) refl));
          })
      by (inr s) = starts_grant s.0 s.1 s.2 s.3 s.4 s.5 s.6

  -- and the grant left no task unfinished
  idle_there : (front : List Record) (r : Record) (b n : ℕ) → k.earlier ≡ front ++ r ∷ [] → r.note ≡ Granted b n → (served_after o.served (x.before ++ k.earlier)).server.task ≡ None
  idle_there front r b n e note = by (under_or o rs none lawful.counted x.client x.call x.written first (x.before ++ front) front (at_there front (r ∷ k.last) there))
    where
      there : x.steps ≡ front ++ (r ∷ k.last)
      there = k.split ∙ ap (λ (l : List Record). l ++ k.last) e ∙ append_assoc front (r ∷ []) k.last

      follows : Follows o (x.before ++ front) r
      follows = (parts front (r ∷ k.last) there).1.0

      is : IsMade x.client r
      is = (each_back (IsMade x.client) front (r ∷ k.last) (subst (Each (IsMade x.client)) there x.own)).0

      place : x.before ++ k.earlier ≡ (x.before ++ front) ++ r ∷ []
      place = ap (λ (l : List Record). x.before ++ l) e ∙ sym (append_assoc x.before front (r ∷ []))

      by : ((doing x.client (x.before ++ front)).task ≡ None) ⊎ Under (x.before ++ front) → (served_after o.served (x.before ++ k.earlier)).server.task ≡ None
      by (inl over) = absurd (still_quiet (x.before ++ front) r b n follows is over note)
      by (inr u) =
          ap (λ (l : List Record). (served_after o.served l).server.task) place
          ∙ ap (λ (w : Served). w.server.task) (served_more o.served (x.before ++ front) r)
          ∙ granted_idle o none x.client x.call x.written (x.before ++ front) (run_there front (r ∷ k.last) there) r follows is u b n note

  earlier_is : Early o rs none lawful.counted x.client x.call x.written first (x.before ++ k.earlier) k.earlier
  earlier_is = start_early o rs none lawful.counted x.client x.call x.written first (x.before ++ k.earlier) k.earlier starts_there.under starts_there.since (at_there k.earlier k.last k.split)

  once_there : counts_in k.earlier ≡ 1 → IsPut x.call → IsSome (known_slot (standing o x.client (x.before ++ k.earlier)) x.call)
  once_there = start_once o rs none lawful.counted x.client x.call x.written first (x.before ++ k.earlier) k.earlier starts_there.under starts_there.since (at_there k.earlier k.last k.split)

  abbrev round : Round o rs
  round = record {
    before = x.before ++ k.earlier;
    steps = k.last;
    after = x.after;
    whole = whole k.earlier k.last k.split ∙ sym (append_assoc x.before k.earlier (k.last ++ x.after));
    client = x.client;
    started = starts_there.start;
    call = x.call;
    written = x.written;
    task = starts_there.under;
    own = k.own;
  }

  abbrev own : CostsRound o rs round
  own = lawful.rounds round

  -- the sum
  summed : length (accesses_in x.steps) ≡ counts_in k.earlier + length own.own + served_in x.steps
  summed =
      let all : x.steps ≡ k.earlier ++ (own.own ++ own.rest) = k.split ∙ ap (λ (l : List Record). k.earlier ++ l) own.split in
      let a = ap (λ (l : List Record). length (accesses_in l)) all ∙ made_both k.earlier (own.own ++ own.rest) in
      let b = made_both own.own own.rest in
      let s = ap served_in all ∙ served_both k.earlier (own.own ++ own.rest) in
      let t = served_both own.own own.rest in
      let e = earlier_is.sum in
      let m = all_own x.client own.own own.first in
      let m0 = m.0 in let m1 = m.1 in
      let made = each_back (IsMade x.client) own.own own.rest (each_back (IsMade x.client) k.earlier (own.own ++ own.rest) (subst (Each (IsMade x.client)) all x.own)) in
      let v = all_servers x.client own.rest own.servers made in
      omega arith

  -- a step that answers is one of its own
  answered_own : (l : List Record) (r : Record) → Follows o l r → IsMade x.client r → ((doing x.client l).task ≡ None) ⊎ Under l → IsAnswered x.client r.note → (y : Access) × (r.access ≡ Some y) × (y.actor ≡ Client x.client)
  answered_own l r h is at answer = by at
    where
      st : Standing
      st = standing o x.client l

      step : IsStep o.setup.pool st r
      step = subst (Fits o l r) is.event h

      unserved : (want : Want) → IsServed st.actor st.does want x.call st.served r → ⊥
      unserved want s = let e = answered_as x.client r.note answer in served_unanswered st.actor st.does want x.call st.served r s e.0 e.1 e.2

      for_want : (want : Want) → IsStepFor o.setup.pool st x.call want r → (y : Access) × (r.access ≡ Some y) × (y.actor ≡ Client x.client)
      for_want Nothing s = (s.access, s.own.is, s.own.actor)
      for_want Stock s = absurd (unserved Stock s)
      for_want Names s = absurd (unserved Names s)

      by : ((doing x.client l).task ≡ None) ⊎ Under l → (y : Access) × (r.access ≡ Some y) × (y.actor ≡ Client x.client)
      by (inl over) =
          let still = subst (λ (t : Option Task). IsStepOf o.setup.pool st t r) over step.is in
          absurd (subst (IsAnswered x.client) still.note_is answer)
      by (inr u) = for_want (want_in st x.call) (subst (λ (t : Option Task). IsStepOf o.setup.pool st t r) u step.is)

  -- the steps end with an answer: it is the last of the own accesses since the last start
  module _ (front : List Record) (r : Record) (ends_so : x.steps ≡ front ++ r ∷ []) (answer : IsAnswered x.client r.note) where
    own_answer : (y : Access) × (r.access ≡ Some y) × (y.actor ≡ Client x.client)
    own_answer = answered_own (x.before ++ front) r (parts front (r ∷ []) ends_so).1.0 (each_back (IsMade x.client) front (r ∷ []) (subst (Each (IsMade x.client)) ends_so x.own)).0
        (under_or o rs none lawful.counted x.client x.call x.written first (x.before ++ front) front (at_there front (r ∷ []) ends_so)) answer

    no_server : IsServers r → ⊥
    no_server s =
        let a = own_answer in
        let server : a.0.actor ≡ Server = subst (λ (z : Option Access). IfSome z (λ (y : Access). y.actor ≡ Server)) a.1 s in
        let q : Server ≡ Client x.client = sym server ∙ a.2 in absurd cc

    abbrev Ending : List Record → Type 0
    Ending l = (l ≡ []) ⊎ ((ys : List Record) × (y : Record) × (l ≡ ys ++ y ∷ []))

    -- an element of the steps that is their last
    last_is : (e : List Record) (y : Record) → x.steps ≡ e ++ y ∷ [] → y ≡ r
    last_is e y same = (same_snoc e front y r (sym same ∙ ends_so)).1

    no_rest : Ending own.rest → own.rest ≡ []
    no_rest (inl e) = e
    no_rest (inr (ys, y, e)) =
        let same : x.steps ≡ (k.earlier ++ (own.own ++ ys)) ++ y ∷ [] =
        k.split ∙ ap (λ (l : List Record). k.earlier ++ l) (own.split ∙ ap (λ (l : List Record). own.own ++ l) e ∙ sym (append_assoc own.own ys (y ∷ [])))
        ∙ sym (append_assoc k.earlier (own.own ++ ys) (y ∷ [])) in
        absurd (no_server (subst IsServers (last_is (k.earlier ++ (own.own ++ ys)) y same) (each_back IsServers ys (y ∷ []) (subst (Each IsServers) e own.servers)).0))

    -- an end before the last start would be a grant
    no_grant : own.own ≡ [] → own.rest ≡ [] → ⊥
    no_grant none_own none_rest = by k.start
      where
        steps_so : x.steps ≡ k.earlier
        steps_so = k.split ∙ ap (λ (l : List Record). k.earlier ++ l) (own.split ∙ (λ i. none_own i ++ none_rest i)) ∙ append-nil k.earlier

        by : (k.earlier ≡ []) ⊎ ((f : List Record) × (z : Record) × (b names : ℕ) × (k.earlier ≡ f ++ z ∷ []) × (z.note ≡ Granted b names) × Starts x.client z.event z.note) → ⊥
        by (inl e) = no_snoc front r (sym (steps_so ∙ e) ∙ ends_so)
        by (inr s) =
            let z_is : s.1 ≡ r = last_is s.0 s.1 (steps_so ∙ s.4) in
            let note : r.note ≡ Granted s.2 s.3 = ap (λ (z : Record). z.note) (sym z_is) ∙ s.5 in
            absurd (subst (IsAnswered x.client) note answer)

    last_own : Ending own.own → own.rest ≡ [] → (ys : List Record) × (own.own ≡ ys ++ r ∷ [])
    last_own (inl e) none_rest = absurd (no_grant e none_rest)
    last_own (inr (ys, y, e)) none_rest =
        let same : x.steps ≡ (k.earlier ++ ys) ++ y ∷ [] =
        k.split ∙ ap (λ (l : List Record). k.earlier ++ l) (own.split ∙ (λ i. e i ++ none_rest i) ∙ append-nil (ys ++ y ∷ [])) ∙ sym (append_assoc k.earlier ys (y ∷ [])) in
        (ys, e ∙ ap (λ (z : Record). ys ++ z ∷ []) (last_is (k.earlier ++ ys) y same))

    last_step : (ys : List Record) × (own.own ≡ ys ++ r ∷ [])
    last_step = last_own (ending own.own) (no_rest (ending own.rest))

    free : want_in (standing o x.client round.before) x.call ≡ Nothing
    free = by (is_nothing (want_in (standing o x.client round.before) x.call))
      where
        by : (want_in (standing o x.client round.before) x.call ≡ Nothing) ⊎ (want_in (standing o x.client round.before) x.call ≢ Nothing) → want_in (standing o x.client round.before) x.call ≡ Nothing
        by (inl e) = e
        by (inr some) = absurd (no_snoc last_step.0 r (sym (own.wants some) ∙ last_step.1))

    -- all steps, and how the server stands behind them
    all_steps : x.steps ≡ k.earlier ++ own.own
    all_steps = k.split ∙ ap (λ (l : List Record). k.earlier ++ l) (own.split ∙ ap (λ (l : List Record). own.own ++ l) (no_rest (ending own.rest)) ∙ append-nil own.own)

    unserved : k.earlier ≡ [] → served_in x.steps ≡ 0
    unserved e =
        let s = ap served_in (all_steps ∙ ap (λ (l : List Record). l ++ own.own) e) in
        s ∙ (all_own x.client own.own own.first).1

    task_same : (served_after o.served (x.before ++ x.steps)).server.task ≡ (served_after o.served (x.before ++ k.earlier)).server.task
    task_same =
        ap (λ (l : List Record). (served_after o.served l).server.task) (ap (λ (l : List Record). x.before ++ l) all_steps ∙ sym (append_assoc x.before k.earlier own.own))
        ∙ owns_served o none x.client x.call x.written (x.before ++ k.earlier) own.own (run_there k.earlier own.own all_steps) (parts k.earlier own.own all_steps).1
        (each_back (IsMade x.client) k.earlier own.own (subst (Each (IsMade x.client)) all_steps x.own)) own.first (inr starts_there.under)

    paid_all : k.earlier ≢ [] → served_in x.steps ≡ tasks_cost o x.before x.steps
    paid_all some = by k.start
      where
        paid : IsPaid o x.before x.steps
        paid = lawful.paid x.before x.steps x.after x.whole

        by : (k.earlier ≡ []) ⊎ ((f : List Record) × (z : Record) × (b names : ℕ) × (k.earlier ≡ f ++ z ∷ []) × (z.note ≡ Granted b names) × Starts x.client z.event z.note) → served_in x.steps ≡ tasks_cost o x.before x.steps
        by (inl e) = absurd (some e)
        by (inr s) =
            let idle : rest_behind o (x.before ++ x.steps) ≡ 0 = ap rest_of (task_same ∙ idle_there s.0 s.1 s.2 s.3 s.4 s.5) in
            let p = paid in
            omega arith

    answered_by : IsAnsweredBy o rs x k.earlier round own
    answered_by = record {
      free = free;
      cost = full_cost o.setup.pool (standing o x.client round.before) (known_slot (standing o x.client round.before) x.call) x.call x.client own.own last_step.0 r last_step.1 answer (own.costs free);
      none = unserved;
      tasks = paid_all;
    }

pub all_costs : CostLaw
all_costs o rs none lawful x = record {
  earlier = (k o rs none lawful x).earlier;
  last = round o rs none lawful x;
  behind = refl;
  steps = (k o rs none lawful x).split;
  same = (refl, refl);
  own = own o rs none lawful x;
  sum = summed o rs none lawful x;
  counts = (earlier_is o rs none lawful x).counts;
  known = (earlier_is o rs none lawful x).known;
  once = once_there o rs none lawful x;
  answered = answered_by o rs none lawful x;
  paid = lawful.paid x.before x.steps x.after x.whole;
}
