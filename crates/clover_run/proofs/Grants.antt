-- What the server may hand to a client whose call wants something, what the client may take, and how both stand then.
use Rattle.std.proofs.Common.{◌≡◌, ℕ, suc, ◌*◌, ◌<◌, ◌≤◌, List, [], ◌∷◌, ◌++◌, length, map, drop, refl, sym, ap, ◌∙◌, subst, arith, append-nil}
use Rattle.std.specs.Prelude.{Option, Some, None}
use Rattle.std.proofs.lemmas.List.{drop_at, length-append}
use Rattle.clover_words.specs.declared.pool.Pool.{Pool}
use Rattle.clover_words.specs.declared.setup.Setup.{Setup}
use Rattle.clover_words.specs.Tag.{TagParts, IsTag, tag_number, home}
use Rattle.clover_words.specs.Version.{buffer_at}
use Rattle.clover_words.specs.Place.{IsBuffer}
use Rattle.clover_words.proofs.Versions.{age_tag, buffer_tag}
use Rattle.clover_map.specs.declared.call.Call.{Call}
use Rattle.clover_rule.specs.Content.{InRange}
use Rattle.clover_rule.specs.Lists.{Each}
use Rattle.clover_rule.specs.Moves.{IsFreeBatch, MayHand, giving}
use Rattle.clover_rule.specs.Names.{KeysOnce}
use Rattle.clover_rule.specs.Server.{waiting_name}
use Rattle.clover_rule.specs.Views.{SlotsOnce}
use Rattle.clover_rule.specs.declared.view.Role.TheVariants.{Client}
use Rattle.clover_rule.specs.declared.view.View.{View}
use Rattle.clover_rule.proofs.Keeping.{inside_of}
use Rattle.clover_alloc.specs.Batch.{tags_of}
use Rattle.clover_alloc.specs.Ledger.{Ledger, IsLedger}
use Rattle.clover_alloc.specs.Taking.{Given, with_out}
use Rattle.clover_alloc.proofs.TakingLemmas.{due_within, due_serves, out_whole}
use Rattle.clover_plain.specs.Handing.{Handed, numbers_of}
use Rattle.clover_plain.specs.Plain.{Plain, history, view_at}
use Rattle.clover_call.specs.Beginning.{size_of}
use Rattle.clover_node.specs.Accepting.{MayTake}
use Rattle.clover_node.specs.Node.{NodeHolds}
use Rattle.clover_node.proofs.Granted.{granted}
use Rattle.clover_server.specs.Holding.{Agrees, reserved}
use Rattle.clover_server.specs.Server.{ServerState}
use Rattle.clover_server.specs.declared.work.Unfinished.{Unfinished}
use Rattle.clover_server.proofs.Granting.{agrees_handed}
use Rattle.clover_run.specs.Client.{Stands, StartsFrom, Started, Wants, call_at, granted_to}
use Rattle.clover_run.specs.Run.{Opening}
use Rattle.clover_run.specs.Served.{let_go}
use Rattle.clover_run.specs.Serving.{TakesFor}
use Rattle.clover_run.specs.Working.{HasServer, MayGrant, WasGranted}
use Rattle.clover_run.specs.declared.client.ClientState.{ClientState}
use Rattle.clover_run.specs.declared.event.Note.{Note}
use Rattle.clover_run.specs.declared.event.Note.TheVariants.{Granted}
use Rattle.clover_run.specs.declared.served.Served.{Served}
use Rattle.clover_run.proofs.Placing.{call_is}
use Rattle.clover_run.proofs.Starting.{holds_any}
use Rattle.clover_run.proofs.Views.{handed_client, handed_seats, handed_server}
use Rattle.clover_run.proofs.Listed.{known_names, list_few, list_once, list_slots, list_within}

-- the tags that books give are of the pool and below its wear
pub given_ranged : (books : Ledger) (ts : List TagParts) (after : Ledger) → IsLedger books → Given books ts after → Each IsTag ts → Each (λ (t : TagParts). InRange books.pool (tag_number t)) ts
given_ranged books [] after whole g tags = tt
given_ranged books (t ∷ ts) after whole g tags =
    let serves = due_serves books whole t g.0 in
    let there : IsBuffer books.pool (buffer_at (home (tag_number t))) = subst (IsBuffer books.pool) (sym (buffer_tag t tags.0)) (due_within books whole t g.0) in (
      (inside_of books.pool (home (tag_number t)) there, subst (λ (n : ℕ). n < books.pool.wear) (sym (age_tag t tags.0)) serves),
      given_ranged (with_out books t) ts after (out_whole books whole t g.0) g.1 tags.1,
    )

-- what holds of each element holds of each one at the end
each_front : {A : Type 0} (P : A → Type 0) (xs ys : List A) → Each P (xs ++ ys) → Each P xs
each_front P [] ys h = tt
each_front P (x ∷ xs) ys h = (h.0, each_front P xs ys h.1)

each_back : {A : Type 0} (P : A → Type 0) (xs ys : List A) → Each P (xs ++ ys) → Each P ys
each_back P [] ys h = h
each_back P (x ∷ xs) ys h = each_back P xs ys h.1

-- where the server's books gave a batch, its tags are of the pool
pub batch_ranged : (p : Pool) (s n : ServerState) (v : View) (ts : List TagParts) → Agrees p [] s v → Agrees p ts n v → Given s.books ts n.books → Each (λ (t : TagParts). InRange p (tag_number t)) ts
batch_ranged p s n v ts a b g =
    subst (λ (z : Pool). Each (λ (t : TagParts). InRange z (tag_number t)) ts) a.books.pool
    (given_ranged s.books ts n.books a.books.whole g (each_front IsTag ts (reserved n.task) b.books.tags))

module _ (o : Opening) (i : ℕ) (x : ClientState) (v : Served) (p : Plain) (g : MayGrant o i x v p) where
  abbrev s : ServerState
  s = v.server

  abbrev stands : Stands o p i x Wants
  stands = g.may.stands

  abbrev sv : View
  sv = view_at p p.setup.clients

  abbrev cv : View
  cv = view_at p i

  abbrev names : List (ℕ × List ℕ)
  names = x.node.names

  same_pool : p.setup.pool ≡ x.node.caller.pool
  same_pool = ap (λ (z : Setup). z.pool) stands.setup ∙ sym stands.pool

  pub low_seat : i < p.setup.clients
  low_seat = subst (λ (z : Setup). i < z.clients) (sym stands.setup) stands.seat

  known : (rest : List (ℕ × List ℕ)) × (s.directory.list ≡ names ++ rest)
  known = known_names p s g.may.running g.may.server o i x Wants stands

  -- the names that a client has are no more than there are
  pub few_known : length names ≤ length s.directory.list
  few_known = let e = ap length known.1 ∙ length-append names known.0 in omega arith

  -- a client whose call wants something may start it
  pub starts_from : StartsFrom x
  starts_from =
      let call = stands.phase.2.0 in let is = stands.phase.2.1 in let may = stands.call call is in
      record {
        idle = stands.phase.0;
        call = call;
        is = is;
        expects = may.expects;
        fits = subst (λ (z : Pool). size_of call ≤ 8 * z.words) (sym stands.pool) may.fits;
        view = cv;
        into = x.room;
        holds = subst (λ (z : Call). NodeHolds x.node z cv x.room) (call_is x cv call is) stands.holds;
      }

  module _ (added : List (ℕ × List ℕ)) (rest : added ≡ drop (length names) s.directory.list) where
    -- with the names that it is handed the client has all
    pub all_names : names ++ added ≡ s.directory.list
    all_names = ap (λ (l : List (ℕ × List ℕ)). names ++ l) (rest ∙ ap (drop (length names)) known.1 ∙ drop_at names known.0 (length names) refl) ∙ sym known.1

    pub keys_once : KeysOnce (names ++ added)
    keys_once = subst KeysOnce (sym all_names) (list_once p s g.may.running g.may.server)

    pub names_few : length (names ++ added) ≤ x.node.caller.pool.slots
    names_few = subst (λ (z : Pool). length (names ++ added) ≤ z.slots) same_pool (subst (λ (l : List (ℕ × List ℕ)). length l ≤ p.setup.pool.slots) (sym all_names) (list_few p s g.may.running g.may.server))

    -- their number is a small one
    pub few_added : length added ≤ 16384
    few_added =
        let e = length-append names added in let f = names_few in let w = x.node.caller.pool.slots_fit in
        omega arith

    -- the server has taken a batch from the books, or nothing
    module _ (s1 : ServerState) (tags : List TagParts) (books : s1 ≡ record s { books = s1.books }) (ahead : Agrees p.setup.pool tags s1 sv) (ranged : Each (λ (t : TagParts). InRange p.setup.pool (tag_number t)) tags) where
      pub may_hand : MayHand p.setup.pool sv cv (map tag_number tags) added
      may_hand =
          let task : s1.task ≡ None = ap (λ (z : ServerState). z.task) books ∙ g.idle in
          record {
            tags = subst (λ (l : List TagParts). IsFreeBatch p.setup.pool sv (map tag_number l)) (append-nil tags) (subst (λ (t : Option Unfinished). IsFreeBatch p.setup.pool sv (map tag_number (tags ++ reserved t))) task ahead.books.free);
            number = suc i;
            client = stands.holds.role ∙ ap Client stands.client;
            names_are = g.may.server.agrees.directory.list ∙ ap (λ (l : List (ℕ × List ℕ)). l ++ waiting_name sv.server.task) (sym all_names ∙ ap (λ (l : List (ℕ × List ℕ)). l ++ added) (sym stands.holds.names));
          }

      pub may_take : MayTake x.node tags added
      may_take = record {
        tags = subst (λ (z : Pool). Each (λ (t : TagParts). InRange z (tag_number t)) tags) same_pool ranged;
        slots = subst (λ (z : Pool). Each (λ (q : ℕ × List ℕ). q.0 < z.slots) added) same_pool (each_back (λ (q : ℕ × List ℕ). q.0 < p.setup.pool.slots) names added (subst (Each (λ (q : ℕ × List ℕ). q.0 < p.setup.pool.slots)) (sym all_names) (list_within p s g.may.running g.may.server)));
        once = subst SlotsOnce (sym all_names) (list_slots p s g.may.running g.may.server);
      }

      -- and has handed it over
      module _ (q : Plain) (h : Handed (suc i) (map tag_number tags) added p q) (same : history q ≡ history p) where
        pub server_handed : HasServer q s1
        server_handed =
            let agrees : Agrees p.setup.pool [] s1 (giving (map tag_number tags) sv) = agrees_handed p.setup.pool s1 sv tags ahead (ap (λ (z : ServerState). z.sweep) books ∙ g.ended) in
            let n = handed_seats i (map tag_number tags) added p q h in
            let view = handed_server i (map tag_number tags) added p q h low_seat g.may.server.seat in
            record {
              opened = h.opened ∙ g.may.server.opened;
              entered = h.entries ∙ g.may.server.entered ∙ sym same;
              seat = subst (λ (z : Setup). z.clients < length q.views) (sym h.setup) (subst (λ (k : ℕ). p.setup.clients < k) (sym n) g.may.server.seat);
              agrees = subst (λ (z : Setup). Agrees z.pool [] s1 (view_at q z.clients)) (sym h.setup) (subst (Agrees p.setup.pool [] s1) (sym view) agrees);
            }

        pub node_handed : (call : Call) → NodeHolds (record x.node { stock = x.node.stock ++ tags; names = names ++ added }) call (view_at q i) x.room
        node_handed call =
            subst (λ (w : View). NodeHolds (record x.node { stock = x.node.stock ++ tags; names = names ++ added }) call w x.room) (sym (handed_client i (map tag_number tags) added p q h low_seat g.may.server.seat))
            (granted x.node tags added call cv x.room stands.phase.0 (holds_any x.node (call_at x cv) call cv x.room x.room stands.phase.0 stands.holds) may_take)

  -- the server's side has granted what the call wants
  pub was_granted : (client : ℕ) → suc i ≡ client → (added : List (ℕ × List ℕ)) → added ≡ drop (length names) s.directory.list
      → (s1 : ServerState) → s1 ≡ record s { books = s1.books } → (w : Served) → w ≡ record v { server = s1; holder = None; batch = w.batch } → TakesFor x.want s.books s.setup.batch (tags_of w.batch) s1.books
      → Agrees p.setup.pool (tags_of w.batch) s1 sv → Each (λ (t : TagParts). InRange p.setup.pool (tag_number t)) (tags_of w.batch)
      → (q : Plain) → Handed client (numbers_of w.batch) added p q → history q ≡ history p
      → (y : ClientState) → ((call : Call) → x.call ≡ Some call → Started (granted_to x (tags_of w.batch) added) y call)
      → (note : Note) → note ≡ Granted client (length added) → WasGranted i x y v w p q note
  was_granted client is added rest s1 books w side takes ahead ranged q h same y started note note_is =
      let given = subst (λ (k : ℕ). Handed k (numbers_of w.batch) added p q) (sym is) h in
      record {
        books = s1.books;
        added = added;
        takes = takes;
        names = all_names added rest;
        note_is = note_is ∙ ap (λ (k : ℕ). Granted k (length added)) (sym is);
        side = side ∙ ap (λ (z : ServerState). record (let_go z v) { batch = w.batch }) books;
        handed = given;
        history_same = same;
        holds = node_handed added rest s1 (tags_of w.batch) books ahead ranged q given same;
        server = subst (λ (z : Served). HasServer q z.server) (sym side) (server_handed added rest s1 (tags_of w.batch) books ahead ranged q given same);
        started = started;
      }
