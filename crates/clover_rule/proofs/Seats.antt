-- A seat is split in two, and one seat is joined into another.
use Rattle.std.proofs.Common.{◌≡◌, ℕ, ◌≢◌, ◌⊎◌, List, [], ◌∷◌, ◌++◌, length, set, true, refl, sym, ap, ◌∙◌, inl, inr, ⊎_elim, arith, subst}
use native.Mathlib.Decide.{ℕ_discrete}
use mathlib.Core.Logic.{dite}
use Rattle.std.specs.Prelude.{Some}
use Rattle.std.proofs.lemmas.List.{length-set}
use Rattle.clover_words.specs.Tag.{home, age}
use Rattle.clover_map.specs.declared.call.Entry.{Entry}
use Rattle.clover_map.specs.Tagged.{Tagged}
use Rattle.clover_rule.specs.Content.{inside}
use Rattle.clover_rule.specs.Lists.{Each, nth, upd, Within, IsPart}
use Rattle.clover_rule.specs.Memory.{gen, Mem}
use Rattle.clover_rule.specs.Server.{book_of, Serves, Whole}
use Rattle.clover_rule.specs.Story.{Place, Stocked, Free, Story}
use Rattle.clover_rule.specs.Views.{find_book, line, Book, book, Apart, ViewOk, batch_at, book_at}
use Rattle.clover_rule.specs.Moves.{giving, grant, lines_out}
use Rattle.clover_rule.specs.declared.view.BookLine.{BookLine}
use Rattle.clover_rule.specs.declared.view.BufferState.TheVariants.{Free as IsFree, Out as IsOut}
use Rattle.clover_rule.specs.declared.view.Role.{Role}
use Rattle.clover_rule.specs.declared.view.Role.TheVariants.{Client, Serving, Granting, Noting, Joined, Restarting}
use Rattle.clover_rule.specs.declared.view.Server.{Server}
use Rattle.clover_rule.specs.declared.view.View.{View}
use Rattle.clover_words.specs.declared.pool.Pool.{Pool}
use Rattle.clover_rule.proofs.Tools.{upd_same, upd_else, nth_within, nth_snoc, nth_front}
use Rattle.clover_rule.proofs.Steps.{each_map, nth_set, set_here, set_away}
use Rattle.clover_rule.proofs.ServerTools.{book_same, free_place}
use Rattle.clover_rule.proofs.Hands.{hand_whole, hand_view, hand_owned}

module _ (l : Pool) (m0 : Tagged) (used : List ℕ) (m : Mem) (vs : List View) (st : Story) (h : List Entry) (w : Whole l m0 used m vs st h) (id : ℕ) (v v' x : View) (at : nth vs id ≡ Some v)
    (batch : List ℕ) (was : Each (λ (t : ℕ). st.place (home t) ≡ Free) batch) (same : v'.pass.role ≡ v.pass.role) (past : v'.pass.history ≡ v.pass.history) (clients : v'.server.clients ≡ v.server.clients) (unserving : x.pass.role ≢ Serving) (noclient : (c : ℕ) → x.pass.role ≢ Client c)
    (okv : ViewOk m (record st { place = batch_at st.place batch (Stocked (length vs)) }) h id v') (okx : ViewOk m (record st { place = batch_at st.place batch (Stocked (length vs)) }) h (length vs) x)
    (serves : v.pass.role ≡ Serving → Serves l m (record st { place = batch_at st.place batch (Stocked (length vs)) }) st.task v'.server)
    (others : (sv : Server) → Serves l m st st.task sv → v.pass.role ≢ Serving → Serves l m (record st { place = batch_at st.place batch (Stocked (length vs)) }) st.task sv) where
  abbrev pub split_list : List View
  split_list = set vs id v' ++ x ∷ []

  cases : (i : ℕ) (y : View) → nth split_list i ≡ Some y → ((i ≡ length vs) × (x ≡ y)) ⊎ (((i ≡ id) × (v' ≡ y)) ⊎ ((i ≢ id) × (nth vs i ≡ Some y)))
  cases i y e = ⊎_elim (λ a. inr (nth_set vs id i v' y a)) (λ a. inl (a.0 ∙ length-set vs id v', a.1)) (nth_snoc (set vs id v') x y i e)

  -- a view with a role that the new one has not was there before
  old : (i : ℕ) (y : View) → nth split_list i ≡ Some y → (x.pass.role ≢ y.pass.role) → (z : View) × (nth vs i ≡ Some z) × (z.pass.role ≡ y.pass.role) × (z.server.clients ≡ y.server.clients) × (((i ≢ id) × (z ≡ y)) ⊎ ((z ≡ v) × (v' ≡ y)))
  old i y e n = ⊎_elim (λ a. absurd (n (ap (λ (q : View). q.pass.role) a.1))) (λ a. ⊎_elim (λ b. (v, ap (nth vs) b.0 ∙ at, sym same ∙ ap (λ (q : View). q.pass.role) b.1, sym clients ∙ ap (λ (q : View). q.server.clients) b.1, inr (refl, b.1))) (λ b. (y, b.1, refl, refl, inl (b.0, refl))) a) (cases i y e)

  no_server_view : (y : View) → y.pass.role ≡ Serving → x.pass.role ≢ y.pass.role
  no_server_view y s q = unserving (q ∙ s)

  no_client_view : (c : ℕ) (y : View) → y.pass.role ≡ Client c → x.pass.role ≢ y.pass.role
  no_client_view c y s q = noclient c (q ∙ s)

  role_dec : (o : Role) → Dec (o ≡ Serving)
  role_dec Serving = yes refl
  role_dec (Client c) = no (λ e. cc)
  role_dec Granting = no (λ e. cc)
  role_dec Noting = no (λ e. cc)
  role_dec Joined = no (λ e. cc)
  role_dec Restarting = no (λ e. cc)

  pub split_whole : Whole l m0 used m split_list (record st { place = batch_at st.place batch (Stocked (length vs)) }) h
  split_whole = let p = w.basis in hand_whole l m0 used m vs st h w batch Free (length vs) tt was split_list
      (λ i y e. ⊎_elim (λ a. rw (a.0, ← a.1) okx) (λ a. ⊎_elim (λ b. rw (b.0, ← b.1) okv) (λ b. hand_view l m0 used m vs st h w batch Free (length vs) tt was i y (λ z. absurd cc) (p.views i y b.1)) a) (cases i y e))
      (λ i j c y z e f s t. let a = old i y e (no_client_view c y s) in let b = old j z f (no_client_view c z t) in p.numbered i j c a.0 b.0 a.1 b.1 (a.2 ∙ s) (b.2 ∙ t))
      (let o = p.longest in longest_of o.0 o.1 o.2 o.3 (ℕ_discrete o.0 id))
      (λ i y e s. let a = old i y e (no_server_view y s) in serve i y a.0 a.1 (a.2 ∙ s) a.4 (role_dec v.pass.role))
      (λ i j y z e f s t. let a = old i y e (no_server_view y s) in let b = old j z f (no_server_view z t) in w.one i j a.0 b.0 a.1 b.1 (a.2 ∙ s) (b.2 ∙ t))
      (λ i j c y z e f s t. let a = old i y e (no_server_view y s) in let b = old j z f (no_client_view c z t) in subst (Within c) a.3 (w.made i j c a.0 b.0 a.1 b.1 (a.2 ∙ s) (b.2 ∙ t)))
      (λ i y e s. let a = old i y e (no_server_view y s) in subst (λ (cs : List ℕ). Each (λ (q : Entry). Within q.client cs) h) a.3 (w.entered i a.0 a.1 (a.2 ∙ s)))
    where
      serve : (i : ℕ) (y z : View) → nth vs i ≡ Some z → z.pass.role ≡ Serving → ((i ≢ id) × (z ≡ y)) ⊎ ((z ≡ v) × (v' ≡ y)) → Dec (v.pass.role ≡ Serving) → Serves l m (record st { place = batch_at st.place batch (Stocked (length vs)) }) st.task y.server
      serve i y z e s (inr d) q = rw (← d.1) (serves (ap (λ (a : View). a.pass.role) (sym d.0) ∙ s))
      serve i y z e s (inl d) (no q) = rw (← d.1) (others z.server (w.serves i z e s) q)
      serve i y z e s (inl d) (yes q) = absurd (d.0 (w.one i id z v e at s q))

      longest_of : (j : ℕ) (a : View) → nth vs j ≡ Some a → a.pass.history ≡ h → Dec (j ≡ id) → (i : ℕ) × (y : View) × (nth split_list i ≡ Some y) × (y.pass.history ≡ h)
      longest_of j a q e (yes d) = (id, v', front id v' (set_here vs id v' v at), let z : v ≡ a = let zz : Some v ≡ Some a = sym at ∙ ap (nth vs) (sym d) ∙ q in cc in past ∙ ap (λ (y : View). y.pass.history) z ∙ e)
        where
          front : (i : ℕ) (y : View) → nth (set vs id v') i ≡ Some y → nth split_list i ≡ Some y
          front i y f = nth_front (set vs id v') x i (λ z. let b = nth_within (set vs id v') i y f in absurd (omega arith)) ∙ f
      longest_of j a q e (no d) = (j, a, nth_front (set vs id v') x j (λ z. let b = nth_within vs j a q in let b2 = length-set vs id v' in absurd (omega arith)) ∙ set_away vs id j v' d ∙ q, e)

-- the server splits off a grant of tags that are free in its view, with the names from a position on
module _ (l : Pool) (m0 : Tagged) (used : List ℕ) (m : Mem) (vs : List View) (st : Story) (h : List Entry) (w : Whole l m0 used m vs st h) (id : ℕ) (v : View) (at : nth vs id ≡ Some v) (role : v.pass.role ≡ Serving)
    (batch : List ℕ) (free : Each (λ (t : ℕ). (inside l (home t) ≡ true) × ((book_at v.server) (home t) ≡ book (age t) IsFree)) batch) (apart : Apart batch) (position : ℕ) (names : List (ℕ × List ℕ)) (part : IsPart position names st.bindings) where
  abbrev k : ℕ
  k = length vs

  pub out : (ℕ → Book) → List ℕ → ℕ → Book
  out f [] = f
  out f (t ∷ ts) = out (upd f (home t) (book (age t) IsOut)) ts

  out_found : (ts : List ℕ) (xs : List BookLine) (b : ℕ) → find_book (lines_out xs ts) b ≡ out (find_book xs) ts b
  unfolding out
  out_found [] xs b = refl
  out_found (t ∷ ts) xs b = out_found ts (line (home t) (age t) IsOut ∷ xs) b

  sv : Serves l m st st.task v.server
  sv = w.serves id v at role

  places : Each (λ (t : ℕ). (st.place (home t) ≡ Free) × (gen (m.next (home t)) ≡ age t)) batch
  places = each_map (λ t d. free_place st.task st (st.place (home t)) (gen (m.next (home t))) (home t) (age t) (sym (sv.books (home t) d.0) ∙ d.1)) batch free

  was : Each (λ (t : ℕ). st.place (home t) ≡ Free) batch
  was = each_map (λ t d. d.0) batch places

  ages : Each (λ (t : ℕ). gen (m.next (home t)) ≡ age t) batch
  ages = each_map (λ t d. d.1) batch places

  abbrev st1 : Story
  st1 = record st { place = batch_at st.place batch (Stocked k) }

  -- the books after are those of the batch out, and else as before
  books_then : (b : ℕ) → inside l b ≡ true → find_book (lines_out v.server.books batch) b ≡ book_of st.task st1 (st1.place b) (gen (m.next b)) b
  unfolding out
  books_then b i = out_found batch v.server.books b ∙ go batch ages (book_at v.server) st.place (sv.books b i)
    where
      go : (ts : List ℕ) → Each (λ (t : ℕ). gen (m.next (home t)) ≡ age t) ts → (f : ℕ → Book) (g : ℕ → Place) → f b ≡ book_of st.task st (g b) (gen (m.next b)) b → out f ts b ≡ book_of st.task st1 (batch_at g ts (Stocked k) b) (gen (m.next b)) b
      go [] a f g e = e ∙ sym (book_same st.task st.task st st1 (g b) (gen (m.next b)) b (λ s q. refl) (λ q. refl))
      go (t ∷ ts) a f g e = go ts a.1 (upd f (home t) (book (age t) IsOut)) (upd g (home t) (Stocked k))
          (dite (ℕ_discrete b (home t)) (λ d. ap (upd f (home t) (book (age t) IsOut)) d ∙ upd_same f (home t) (book (age t) IsOut) ∙ ap (λ (x : ℕ). book x IsOut) (sym (ap (λ (x : ℕ). gen (m.next x)) d ∙ a.0)) ∙ sym (ap (λ (q : Place). book_of st.task st q (gen (m.next b)) b) (ap (upd g (home t) (Stocked k)) d ∙ upd_same g (home t) (Stocked k))))
          (λ d. upd_else f (home t) b (book (age t) IsOut) d ∙ e ∙ sym (ap (λ (q : Place). book_of st.task st q (gen (m.next b)) b) (upd_else g (home t) b (Stocked k) d))))

  pub grant_whole : Whole l m0 used m (set vs id (giving batch v) ++ grant batch position names v ∷ []) st1 h
  grant_whole = split_whole l m0 used m vs st h w id v (giving batch v) (grant batch position names v) at batch was refl refl refl (λ e. cc) (λ c e. cc)
      (let a = hand_view l m0 used m vs st h w batch Free k tt was id v (λ z. absurd cc) (w.basis.views id v at) in record { stocked = a.stocked; apart = a.apart; knows = a.knows; written = a.written; flushed = a.flushed; named = a.named; history = a.history; calls = a.calls })
      (record { stocked = hand_owned l m0 used m vs st h w batch Free k tt was batch was ages; apart = apart; knows = record { durable = tt; links = tt; words = tt; copied = tt }; written = tt; flushed = tt; named = record { names = (st.bindings, refl); added = inr part; most = omega arith }; history = (h, refl); calls = tt })
      (λ e. record { task_is = sv.task_is; directory = sv.directory; roots = sv.roots; books = books_then })
      (λ s e n. absurd (n role))
