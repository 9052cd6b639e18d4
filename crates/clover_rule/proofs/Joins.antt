-- A grant is joined to a client's pass.
use Rattle.std.proofs.Common.{◌≡◌, ℕ, ◌≢◌, ◌⊎◌, List, [], ◌∷◌, ◌++◌, length, set, append_assoc, append-nil, refl, sym, ap, ◌∙◌, inl, inr, ⊎_elim, arith, subst}
use native.Mathlib.Decide.{ℕ_discrete}
use Rattle.std.specs.Prelude.{Some}
use Rattle.clover_words.specs.Tag.{home}
use Rattle.clover_map.specs.declared.call.Entry.{Entry}
use Rattle.clover_map.specs.Tagged.{Tagged}
use Rattle.clover_rule.specs.Lists.{Each, nth, Within, IsPrefix}
use Rattle.clover_rule.specs.Memory.{gen, Mem}
use Rattle.clover_rule.specs.Server.{book_of, Serves, Whole}
use Rattle.clover_rule.specs.Story.{Place, Stocked, Story}
use Rattle.clover_rule.specs.Views.{Owned, Apart, ViewOk, batch_at}
use Rattle.clover_rule.specs.Moves.{accepted, spent}
use Rattle.clover_rule.specs.declared.view.Role.TheVariants.{Client, Granting, Joined}
use Rattle.clover_rule.specs.declared.view.Server.{Server}
use Rattle.clover_rule.specs.declared.view.View.{View}
use Rattle.clover_words.specs.declared.pool.Pool.{Pool}
use Rattle.clover_rule.proofs.Steps.{each_map, nth_set, set_here, set_away}
use Rattle.clover_rule.proofs.ServerTools.{book_same}
use Rattle.clover_rule.proofs.Tools.{each_both}
use Rattle.clover_rule.proofs.Hands.{hand_whole, hand_view, hand_case, hand_owned}

-- the view at a seat takes in the one at another, with its batch, and what is left of the other seat knows nothing
module _ (l : Pool) (m0 : Tagged) (used : List ℕ) (m : Mem) (vs : List View) (st : Story) (h : List Entry) (w : Whole l m0 used m vs st h) (id j : ℕ) (apart_seats : j ≢ id) (v y : View) (at : nth vs id ≡ Some v) (there_at : nth vs j ≡ Some y)
    (batch : List ℕ) (was : Each (λ (t : ℕ). st.place (home t) ≡ Stocked j) batch) where
  abbrev after : Story
  after = record st { place = batch_at st.place batch (Stocked id) }

  module _ (joining : View) (role' : joining.pass.role ≡ v.pass.role) (server' : joining.server ≡ v.server) (knows : ViewOk m after h id joining)
      (long_own : v.pass.history ≡ h → joining.pass.history ≡ h) (long_other : y.pass.history ≡ h → joining.pass.history ≡ h) where
    abbrev views_then : List View
    views_then = set (set vs id joining) j (spent v)

    cases : (i : ℕ) (a : View) → nth views_then i ≡ Some a → ((i ≡ j) × (spent v ≡ a)) ⊎ (((i ≡ id) × (joining ≡ a)) ⊎ ((i ≢ id) × (i ≢ j) × (nth vs i ≡ Some a)))
    cases i a e = ⊎_elim inl (λ d. inr (⊎_elim inl (λ f. inr (f.0, d.0, f.1)) (nth_set vs id i joining a d.1))) (nth_set (set vs id joining) j i (spent v) a e)

    old : (i : ℕ) (a : View) → nth views_then i ≡ Some a → (Joined ≢ a.pass.role) → (z : View) × (nth vs i ≡ Some z) × (z.pass.role ≡ a.pass.role) × (z.server ≡ a.server)
    old i a e d = ⊎_elim (λ b. absurd (d (ap (λ (q : View). q.pass.role) b.1))) (λ b. ⊎_elim (λ c. (v, ap (nth vs) c.0 ∙ at, sym role' ∙ ap (λ (q : View). q.pass.role) c.1, sym server' ∙ ap (λ (q : View). q.server) c.1)) (λ c. (a, c.2, refl, refl)) b) (cases i a e)

    serves_kept : (sv : Server) → Serves l m st st.task sv → Serves l m after st.task sv
    serves_kept sv e = record {
      task_is = e.task_is;
      directory = e.directory;
      roots = e.roots;
      books = λ b i. e.books b i ∙ ⊎_elim (λ d. ap (λ (q : Place). book_of st.task st q (gen (m.next b)) b) d.1 ∙ sym (ap (λ (q : Place). book_of st.task after q (gen (m.next b)) b) d.0))
          (λ d. sym (book_same st.task st.task st after (st.place b) (gen (m.next b)) b (λ s q. refl) (λ q. refl)) ∙ sym (ap (λ (q : Place). book_of st.task after q (gen (m.next b)) b) d))
          (hand_case l m0 used m vs st h w batch (Stocked j) id tt was b);
    }

    pub take_in : Whole l m0 used m views_then after h
    take_in = let p = w.basis in hand_whole l m0 used m vs st h w batch (Stocked j) id tt was views_then
        (λ i a e. ⊎_elim (λ b. rw (← b.1) (record { stocked = tt; apart = tt; knows = record { durable = tt; links = tt; words = tt; copied = tt }; written = tt; flushed = tt; named = record { names = (st.bindings, refl); added = inl refl; most = omega arith }; history = (h, refl); calls = tt }))
        (λ b. ⊎_elim (λ c. rw (c.0, ← c.1) knows) (λ c. hand_view l m0 used m vs st h w batch (Stocked j) id tt was i a (λ z. c.1 (let z1 : Stocked i ≡ Stocked j = z in cc)) (p.views i a c.2)) b) (cases i a e))
        (λ i k c a b e f s t. let x = old i a e (λ z. absurd (cc (z, s))) in let z = old k b f (λ z. absurd (cc (z, t))) in p.numbered i k c x.0 z.0 x.1 z.1 (x.2 ∙ s) (z.2 ∙ t))
        (let o = p.longest in longest_of o.0 o.1 o.2 o.3 (ℕ_discrete o.0 id) (ℕ_discrete o.0 j))
        (λ i a e s. let x = old i a e (λ z. absurd (cc (z, s))) in subst (Serves l m after st.task) x.3 (serves_kept x.0.server (w.serves i x.0 x.1 (x.2 ∙ s))))
        (λ i k a b e f s t. let x = old i a e (λ z. absurd (cc (z, s))) in let z = old k b f (λ z. absurd (cc (z, t))) in w.one i k x.0 z.0 x.1 z.1 (x.2 ∙ s) (z.2 ∙ t))
        (λ i k c a b e f s t. let x = old i a e (λ z. absurd (cc (z, s))) in let z = old k b f (λ z. absurd (cc (z, t))) in subst (λ (q : Server). Within c q.clients) x.3 (w.made i k c x.0 z.0 x.1 z.1 (x.2 ∙ s) (z.2 ∙ t)))
        (λ i a e s. let x = old i a e (λ z. absurd (cc (z, s))) in subst (λ (q : Server). Each (λ (g : Entry). Within g.client q.clients) h) x.3 (w.entered i x.0 x.1 (x.2 ∙ s)))
      where
        here : nth views_then id ≡ Some joining
        here = set_away (set vs id joining) j id (spent v) (λ z. apart_seats (sym z)) ∙ set_here vs id joining v at

        longest_of : (k : ℕ) (a : View) → nth vs k ≡ Some a → a.pass.history ≡ h → Dec (k ≡ id) → Dec (k ≡ j) → (i : ℕ) × (b : View) × (nth views_then i ≡ Some b) × (b.pass.history ≡ h)
        longest_of k a q e (yes d) f = (id, joining, here, let z : v ≡ a = let zz : Some v ≡ Some a = sym at ∙ ap (nth vs) (sym d) ∙ q in cc in long_own (ap (λ (x : View). x.pass.history) z ∙ e))
        longest_of k a q e (no d) (yes f) = (id, joining, here, let z : y ≡ a = let zz : Some y ≡ Some a = sym there_at ∙ ap (nth vs) (sym f) ∙ q in cc in long_other (ap (λ (x : View). x.pass.history) z ∙ e))
        longest_of k a q e (no d) (no f) = (k, a, set_away (set vs id joining) j k (spent v) f ∙ set_away vs id k joining d ∙ q, e)

-- a batch and names of a grant, or a refusal, are joined to a client's pass
module _ (l : Pool) (m0 : Tagged) (used : List ℕ) (m : Mem) (vs : List View) (st : Story) (h : List Entry) (w : Whole l m0 used m vs st h) (id j : ℕ) (apart_seats : j ≢ id) (v y : View) (at : nth vs id ≡ Some v) (there_at : nth vs j ≡ Some y)
    (n : ℕ) (role : v.pass.role ≡ Client n) (granting : y.pass.role ≡ Granting) (fits : length v.pass.names ≡ y.pass.from) (bare : y.pass.history ≡ []) where
  abbrev joining : View
  joining = accepted v y

  okv : ViewOk m st h id v
  okv = w.basis.views id v at

  oky : ViewOk m st h j y
  oky = w.basis.views j y there_at

  was : Each (λ (t : ℕ). st.place (home t) ≡ Stocked j) y.pass.stock
  was = each_map (λ t d. d.0) y.pass.stock oky.stocked

  abbrev st1 : Story
  st1 = record st { place = batch_at st.place y.pass.stock (Stocked id) }

  -- the own stock and the batch have no buffer in common
  apart_both : (ts : List ℕ) → Each (Owned m st id) ts → Apart ts → Apart (ts ++ y.pass.stock)
  apart_both [] a b = oky.apart
  apart_both (t ∷ ts) a b = (each_both (λ (u : ℕ). home u ≢ home t) ts y.pass.stock b.0 (each_map (λ u d q. apart_seats (let z : Stocked j ≡ Stocked id = sym d.0 ∙ ap st.place q ∙ a.0.0 in cc)) y.pass.stock oky.stocked), apart_both ts a.1 b.1)

  same_length : {A : Type 0} (xs ys us vs : List A) → length xs ≡ length ys → xs ++ us ≡ ys ++ vs → (xs ≡ ys) × (us ≡ vs)
  same_length [] [] us vs e f = (refl, f)
  same_length [] (b ∷ ys) us vs e f = absurd (omega arith)
  same_length (a ∷ xs) [] us vs e f = absurd (omega arith)
  same_length {A} (a ∷ xs) (b ∷ ys) us vs e f = let g : xs ++ us ≡ ys ++ vs = cc in let h1 = same_length xs ys us vs (omega arith) g in let h0 : a ≡ b = cc in (cc, h1.1)

  names_then : IsPrefix (v.pass.names ++ y.pass.added) st.bindings
  names_then = ⊎_elim (λ e. (okv.named.names.0, okv.named.names.1 ∙ sym (ap (λ (xs : List (ℕ × List ℕ)). (v.pass.names ++ xs) ++ okv.named.names.0) e ∙ ap (λ (xs : List (ℕ × List ℕ)). xs ++ okv.named.names.0) (append-nil v.pass.names))))
      (λ d. let a = same_length v.pass.names d.0 okv.named.names.0 (y.pass.added ++ d.1) (fits ∙ sym d.3) (sym okv.named.names.1 ∙ d.2) in (d.1, okv.named.names.1 ∙ ap (λ (xs : List (ℕ × List ℕ)). v.pass.names ++ xs) a.1 ∙ sym (append_assoc v.pass.names y.pass.added d.1))) oky.named.added

  ok_join : ViewOk m st1 h id joining
  ok_join = let a = hand_view l m0 used m vs st h w y.pass.stock (Stocked j) id tt was id v (λ z. apart_seats (let z1 : Stocked id ≡ Stocked j = z in cc)) okv in record {
    stocked = each_both (Owned m st1 id) v.pass.stock y.pass.stock a.stocked (hand_owned l m0 used m vs st h w y.pass.stock (Stocked j) id tt was y.pass.stock was (each_map (λ t d. d.1) y.pass.stock oky.stocked));
    apart = apart_both v.pass.stock okv.stocked okv.apart;
    knows = a.knows;
    written = a.written;
    flushed = a.flushed;
    named = record { names = names_then; added = a.named.added; most = a.named.most };
    history = a.history;
    calls = a.calls;
  }

  empty_prefix : (xs zs : List Entry) → [] ≡ xs ++ zs → xs ≡ []
  empty_prefix [] zs f = refl
  empty_prefix (x ∷ xs) zs f = absurd (let g = ap length f in omega arith)

  pub join_whole : Whole l m0 used m (set (set vs id joining) j (spent v)) st1 h
  join_whole = take_in l m0 used m vs st h w id j apart_seats v y at there_at y.pass.stock was joining refl refl ok_join (λ e. e)
      (λ e. let g : [] ≡ h = sym bare ∙ e in let p = subst (IsPrefix v.pass.history) (sym g) okv.history in empty_prefix v.pass.history p.0 p.1 ∙ g)
