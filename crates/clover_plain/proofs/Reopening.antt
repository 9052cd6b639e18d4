-- The next run begins from the words that restart leaves.
use Rattle.std.proofs.Common.{◌≡◌, ◌≢◌, ◌⊎◌, ℕ, zero, suc, ◌+◌, ◌<◌, ◌≤◌, Bool, true, false, cond, eq-eqb, ne_eqb, List, [], ◌∷◌, ◌++◌, append-nil, length, map, take, get_or, refl, sym, ap, ◌∙◌, inl, inr, subst, ⊎_elim, arith}
use native.Mathlib.Decide.{dec_le}
use mathlib.Core.Logic.{dite}
use Rattle.std.specs.Prelude.{Option, Some, None}
use Rattle.std.specs.Option.{option_map}
use Rattle.std.proofs.lemmas.Bool.{cases_eq}
use Rattle.clover_words.specs.declared.pool.Pool.{Pool}
use Rattle.clover_words.specs.declared.setup.Setup.{Setup}
use Rattle.clover_words.specs.Tag.{TagParts, tag_number}
use Rattle.clover_words.specs.Version.{buffer_at}
use Rattle.clover_alloc.specs.Ledger.{Ledger, book as line_at}
use Rattle.clover_dir.specs.Directory.{Bindings, root_of}
use Rattle.clover_map.specs.declared.call.Entry.{Entry}
use Rattle.clover_map.specs.Tagged.{Tagged}
use Rattle.clover_rule.specs.Content.{inside}
use Rattle.clover_rule.specs.Cut.{image_of}
use Rattle.clover_rule.specs.Lists.{IsPrefix, Within, nth}
use Rattle.clover_rule.specs.Moves.{nobody}
use Rattle.clover_rule.specs.Opening.{Begins, FirstServer, FirstViews, Opening}
use Rattle.clover_rule.specs.Restart.{AreBindings, Reopens, buffers_of, plan, restarted_words, rested_words, words_after_stores}
use Rattle.clover_rule.specs.Rule.{Rule, longest}
use Rattle.clover_rule.specs.Views.{book, find_book, find_root, no_server, start_pass}
use Rattle.clover_rule.specs.declared.view.RestartStore.{RestartStore}
use Rattle.clover_rule.specs.declared.view.Server.{Server}
use Rattle.clover_rule.specs.declared.view.View.{View}
use Rattle.clover_rule.proofs.Longest.{longest_law}
use Rattle.clover_rule.proofs.Opened.{opening_law}
use Rattle.clover_rule.proofs.PoolBuffers.{listed_inside}
use Rattle.clover_rule.proofs.Reopening.{reopen_law}
use Rattle.clover_rule.proofs.RestartedLaw.{restarted_law}
use Rattle.clover_rule.proofs.Tools.{nth_some, nth_within}
use Rattle.clover_plain.specs.Kept.{views_of}
use Rattle.clover_plain.specs.Plain.{Plain, IsDown, Running, first_of, history, numbers, resting_view, restart_view, role_at, used_of, view_at}
use Rattle.clover_plain.specs.Reopening.{AreOfWords, roots_from, seen_line, serving_view, state_of, view_line}
use Rattle.clover_plain.proofs.Cutting.{first_at}
use Rattle.clover_plain.proofs.Opening.{client_seat, in_numbers, server_seat}
use Rattle.clover_plain.proofs.Seating.{S}
use Rattle.clover_plain.proofs.Stepping.{default_nth, rule_as}

-- the front seats of a list
pub views_take : (seats : List S) (n i : ℕ) → i < n → get_or (views_of (take n seats)) i nobody ≡ get_or (views_of seats) i nobody
views_take seats zero i h = absurd (omega arith)
views_take [] (suc n) i h = refl
views_take (x ∷ xs) (suc n) zero h = refl
views_take (x ∷ xs) (suc n) (suc i) h = views_take xs n i (omega arith)

-- the lines of a view say of each buffer what the books do
pub line_found : (books : Ledger) (bs : List ℕ) (b : ℕ) → Within b bs → find_book (map (view_line books) bs) b ≡ seen_line (line_at books (buffer_at b))
line_found books [] b w = absurd w
line_found books (x ∷ xs) b w = ⊎_elim
    (λ e. ap (λ (t : Bool). cond t (seen_line (line_at books (buffer_at x))) (find_book (map (view_line books) xs) b)) (eq-eqb x b e) ∙ ap (λ (n : ℕ). seen_line (line_at books (buffer_at n))) e)
    (λ n. ap (λ (t : Bool). cond t (seen_line (line_at books (buffer_at x))) (find_book (map (view_line books) xs) b)) (ne_eqb x b n) ∙ line_found books xs b (⊎_elim (λ e. absurd (n (omega arith))) (λ z. z) w))
    (cases_eq x b)

-- the roots of a view are those of the directory
root_before : (k s : ℕ) (xs : List (Option TagParts)) → s < k → find_root (roots_from k xs) s ≡ None
root_before k s [] h = refl
root_before k s (None ∷ xs) h = root_before (suc k) s xs (omega arith)
root_before k s (Some t ∷ xs) h = ap (λ (b : Bool). cond b (Some (tag_number t)) (find_root (roots_from (suc k) xs) s)) (ne_eqb k s (λ e. omega arith)) ∙ root_before (suc k) s xs (omega arith)

pub root_found : (k j s : ℕ) (xs : List (Option TagParts)) → s ≡ k + j → find_root (roots_from k xs) s ≡ option_map tag_number (get_or xs j None)
root_found k j s [] e = refl
root_found k zero s (None ∷ xs) e = root_before (suc k) s xs (omega arith)
root_found k (suc j) s (None ∷ xs) e = root_found (suc k) j s xs (omega arith)
root_found k zero s (Some t ∷ xs) e = ap (λ (b : Bool). cond b (Some (tag_number t)) (find_root (roots_from (suc k) xs) s)) (eq-eqb k s (omega arith))
root_found k (suc j) s (Some t ∷ xs) e = ap (λ (b : Bool). cond b (Some (tag_number t)) (find_root (roots_from (suc k) xs) s)) (ne_eqb k s (λ f. omega arith)) ∙ root_found (suc k) j s xs (omega arith)

module _ (p : Plain) (d : IsDown p) (done : (restart_view p).plan ≡ []) (books : Ledger) (dir : Bindings) (agree : AreOfWords p.setup.pool p.words books dir) where
  abbrev l : Pool
  l = p.setup.pool

  abbrev left : List ℕ
  left = restarted_words l d.image d.rests.sound.reads

  -- restart has made all its stores
  pub words_are : p.words ≡ left
  words_are =
      let all : d.stored ≡ plan l (image_of l d.image) d.rests.sound.reads = sym (d.plan ∙ ap (λ (xs : List RestartStore). d.stored ++ xs) done ∙ append-nil d.stored) in
      d.words ∙ (λ i. words_after_stores l (d.start i) (all i))

  reopens : Reopens l p.first p.used left dir.list
  reopens = reopen_law l p.first p.used d.image dir.list d.rests d.sized (subst (λ (ws : List ℕ). AreBindings (image_of l ws) 0 l.slots dir.list) words_are agree.bindings)

  abbrev o : Opening l p.first p.used left
  o = reopens.opening

  agrees : AreOfWords l left books dir
  agrees = subst (λ (ws : List ℕ). AreOfWords l ws books dir) words_are agree

  -- the view of a seat, with what it knows as the server, if it is the server's
  abbrev known : ℕ → Server → View
  known i sv = record { pass = start_pass l p.first p.used (role_at p.setup i); server = sv; plan = [] }

  begins : (i : ℕ) (sv : Server) → Begins l p.first p.used left o (known i sv)
  begins i sv = record {
    run = record { of_pool = refl; from_map = refl; from_used = refl };
    names = (o.opens.bindings, refl);
    most = omega arith;
    stock = refl;
    nothing = refl;
  }

  serves : FirstServer l p.first p.used left o (serving_view p books dir).server
  serves = record {
    task = refl;
    directory = sym reopens.bindings;
    roots = λ s. root_found 0 s s dir.roots (omega arith) ∙ agrees.roots s ∙ sym (reopens.roots s);
    books = λ b h.
        let sound = (restarted_law l d.image d.rests.sound d.sized).sound in
        line_found books (buffers_of l) b (listed_inside l b h) ∙ agrees.lines sound b h ∙ sym (reopens.books sound b h);
  }

  module _ (vs : List View) (long : length vs ≡ p.setup.clients + 1) (clients : (i : ℕ) → i < p.setup.clients → get_or vs i nobody ≡ resting_view p i) (server : get_or vs p.setup.clients nobody ≡ serving_view p books dir) where
    view_is : (i : ℕ) (v : View) → nth vs i ≡ Some v → (sv : Server) × (v ≡ known i sv)
    view_is i v e =
        let below = nth_within vs i v e in
        let is : v ≡ get_or vs i nobody = sym (default_nth vs i v nobody e) in
        dite (dec_le (suc i) p.setup.clients) (λ low. (no_server, is ∙ clients i low))
        (λ high. let at : i ≡ p.setup.clients = omega arith in ((serving_view p books dir).server, is ∙ ap (λ (n : ℕ). get_or vs n nobody) at ∙ server ∙ ap (λ (n : ℕ). known n (serving_view p books dir).server) (sym at)))

    role_of : (i : ℕ) (v : View) → nth vs i ≡ Some v → v.pass.role ≡ role_at p.setup i
    role_of i v e = ap (λ (u : View). u.pass.role) (view_is i v e).1

    -- whoever serves is the server
    serving : (i : ℕ) (v : View) → nth vs i ≡ Some v → p.setup.clients ≤ i → v ≡ serving_view p books dir
    serving i v e high = let below = nth_within vs i v e in sym (default_nth vs i v nobody e) ∙ ap (λ (n : ℕ). get_or vs n nobody) (omega arith) ∙ server

    first_views : FirstViews l p.first p.used left o vs
    first_views = record {
      begins = λ i v e. let is = view_is i v e in subst (Begins l p.first p.used left o) (sym is.1) (begins i is.0);
      some = let r = nth_some vs 0 (omega arith) in (0, r.0, r.1);
      numbered = λ i j n v w e f g h. let x = (client_seat p.setup i n (sym (role_of i v e) ∙ g)).0 in let y = (client_seat p.setup j n (sym (role_of j w f) ∙ h)).0 in omega arith;
      serves = λ i v e r. subst (λ (u : View). FirstServer l p.first p.used left o u.server) (sym (serving i v e (server_seat p.setup i (sym (role_of i v e) ∙ r)))) serves;
      one = λ i j v w e f g h.
          let x = server_seat p.setup i (sym (role_of i v e) ∙ g) in
          let y = server_seat p.setup j (sym (role_of j w f) ∙ h) in
          let a = nth_within vs i v e in
          let b = nth_within vs j w f in
          omega arith;
      made = λ i j n v w e f g h.
          let y = client_seat p.setup j n (sym (role_of j w f) ∙ h) in
          let a = y.0 in
          let b = y.1 in
          subst (λ (u : View). Within n u.server.clients) (sym (serving i v e (server_seat p.setup i (sym (role_of i v e) ∙ g)))) (in_numbers p.setup.clients n (omega arith) (omega arith));
    }

    pub rule_open : Rule l p.first p.used p.words vs []
    rule_open = subst (λ (ws : List ℕ). Rule l p.first p.used ws vs []) (sym words_are) (opening_law l p.first p.used left vs o first_views)

    -- the pool with these views runs
    abbrev pub q : Plain
    q = record p { views = vs; first = first_of vs; used = used_of vs; opened = true }

    pub of_run : (q.first ≡ p.first) × (q.used ≡ p.used)
    of_run =
        let at = first_at vs (omega arith) in
        let client : get_or vs 0 nobody ≡ resting_view p 0 = clients 0 (let z = p.setup.some_client in omega arith) in
        (at.0 ∙ ap (λ (u : View). u.pass.map) client, at.1 ∙ ap (λ (u : View). u.pass.used) client)

    all : q.views ++ q.absent ≡ vs
    all = ap (λ (us : List View). vs ++ us) d.absent ∙ append-nil vs

    pub none : history q ≡ []
    none = ap longest all ∙ longest_law l p.first p.used p.words vs [] rule_open

    pub runs : Running q
    runs = record {
      rule = rule_as l l p.first q.first p.used q.used p.words p.words vs (q.views ++ q.absent) [] (history q) refl of_run.0 of_run.1 refl all none rule_open;
      entered = subst (λ (es : List Entry). IsPrefix es (history q)) (sym d.entries) (history q, refl);
      story = d.story;
      untraced = d.untraced;
      roles = role_of;
    }
