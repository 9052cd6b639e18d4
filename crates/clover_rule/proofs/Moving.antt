-- The laws of moves over the words of a pool: a client is made, a grant is split off and taken in, at once or in two moves, a note is split off and taken in, and what is left of a view goes.
use Rattle.std.proofs.Common.{◌≡◌, ◌≢◌, ℕ, zero, suc, ◌<◌, ◌⊎◌, List, [], ◌∷◌, ◌++◌, length, length-set, append-nil, set, refl, sym, ap, ◌∙◌, inl, inr, ⊎_elim, arith, subst}
use native.Mathlib.Decide.{ℕ_discrete}
use Rattle.std.specs.Prelude.{Some}
use Rattle.std.proofs.lemmas.List.{length-append}
use Rattle.clover_words.specs.declared.pool.Pool.{Pool}
use Rattle.clover_words.specs.Tag.{home}
use Rattle.clover_map.specs.declared.call.Entry.{Entry}
use Rattle.clover_map.specs.Tagged.{Tagged}
use Rattle.clover_rule.specs.Laws.{ClientLaw, GrantLaw, AcceptLaw, HandOverLaw, NoteLaw, JoinNoteLaw, SpentLaw}
use Rattle.clover_rule.specs.Lists.{Each, IsPart, Within, nth, upd}
use Rattle.clover_rule.specs.Meets.{InStocks, Meets, OfRun}
use Rattle.clover_rule.specs.Memory.{Mem}
use Rattle.clover_rule.specs.Moves.{MayAccept, MayGrant, MayHand, MayMake, MayNote, accepted, client_of, given, giving, grant, joined, making, note_of, noted, spent, split}
use Rattle.clover_rule.specs.Server.{Whole, waiting_name}
use Rattle.clover_rule.specs.Story.{Place, Stocked, Story}
use Rattle.clover_rule.specs.Views.{batch_at}
use Rattle.clover_rule.specs.Words.{mem_of}
use Rattle.clover_rule.specs.declared.view.GrantRefusal.{GrantRefusal}
use Rattle.clover_rule.specs.declared.view.Role.TheVariants.{Client, Serving}
use Rattle.clover_rule.specs.declared.view.ServerTask.{ServerTask}
use Rattle.clover_rule.specs.declared.view.View.{View}
use Rattle.clover_rule.proofs.Dropped.{dropped}
use Rattle.clover_rule.proofs.GrantLaw.{all_there}
use Rattle.clover_rule.proofs.Hands.{split_client}
use Rattle.clover_rule.proofs.Joins.{join_whole}
use Rattle.clover_rule.proofs.Moved.{note_whole}
use Rattle.clover_rule.proofs.Notes.{join_note}
use Rattle.clover_rule.proofs.Seats.{grant_whole}
use Rattle.clover_rule.proofs.Steps.{nth_set, set_away, set_here}
use Rattle.clover_rule.proofs.Tools.{nth_front, nth_last, nth_snoc, nth_within, upd_else, upd_same}
use Rattle.clover_rule.proofs.TwelveParts.{rule_holds}

-- a property of each view after a split, and after a join
each_split : (P : View → Type 0) (vs : List View) (id : ℕ) (left right : View) → ((i : ℕ) (y : View) → nth vs i ≡ Some y → P y) → P left → P right → (i : ℕ) (y : View) → nth (split vs id left right) i ≡ Some y → P y
each_split P vs id left right all a b i y e = ⊎_elim (λ c. ⊎_elim (λ d. subst P d.1 a) (λ d. all i y d.1) (nth_set vs id i left y c)) (λ c. subst P c.1 b) (nth_snoc (set vs id left) right y i e)

each_joined : (P : View → Type 0) (vs : List View) (id j : ℕ) (both rest : View) → ((i : ℕ) (y : View) → nth vs i ≡ Some y → P y) → P both → P rest → (i : ℕ) (y : View) → nth (joined vs id both j rest) i ≡ Some y → P y
each_joined P vs id j both rest all a b i y e = ⊎_elim (λ c. subst P c.1 b) (λ c. ⊎_elim (λ d. subst P d.1 a) (λ d. all i y d.1) (nth_set vs id i both y c.1)) (nth_set (set vs id both) j i rest y e)

-- a view that was there has its stock after a split that leaves the stock of the one that is split
in_front : (vs : List View) (id : ℕ) (v left right : View) → nth vs id ≡ Some v → left.pass.stock ≡ v.pass.stock → (i : ℕ) (y : View) → nth vs i ≡ Some y → (z : View) × (nth (split vs id left right) i ≡ Some z) × (y.pass.stock ≡ z.pass.stock)
in_front vs id v left right at same i y e = go (ℕ_discrete i id)
  where
    here : nth (split vs id left right) i ≡ nth (set vs id left) i
    here = nth_front (set vs id left) right i (λ q. let a = nth_within vs i y e in let b = length-set vs id left in absurd (omega arith))

    go : Dec (i ≡ id) → (z : View) × (nth (split vs id left right) i ≡ Some z) × (y.pass.stock ≡ z.pass.stock)
    go (yes d) = (left, here ∙ ap (nth (set vs id left)) d ∙ set_here vs id left v at, let z : y ≡ v = let zz : Some y ≡ Some v = sym e ∙ ap (nth vs) d ∙ at in cc in ap (λ (q : View). q.pass.stock) z ∙ sym same)
    go (no d) = (y, here ∙ set_away vs id i left d ∙ e, refl)

-- where a buffer whose place is a stock came from
in_hand : (f : ℕ → Place) (ts : List ℕ) (k b i : ℕ) → batch_at f ts (Stocked k) b ≡ Stocked i → ((t : ℕ) × Within t ts × (home t ≡ b) × (k ≡ i)) ⊎ (f b ≡ Stocked i)
in_hand f [] k b i e = inr e
in_hand f (t ∷ ts) k b i e = ⊎_elim (λ a. inl (a.0, inr a.1, a.2, a.3)) (λ a. go (ℕ_discrete b (home t)) a) (in_hand (upd f (home t) (Stocked k)) ts k b i e)
  where
    go : Dec (b ≡ home t) → upd f (home t) (Stocked k) b ≡ Stocked i → ((u : ℕ) × Within u (t ∷ ts) × (home u ≡ b) × (k ≡ i)) ⊎ (f b ≡ Stocked i)
    go (yes d) a = inl (t, inl refl, sym d, let z : Stocked k ≡ Stocked i = sym (upd_same f (home t) (Stocked k)) ∙ ap (upd f (home t) (Stocked k)) (sym d) ∙ a in cc)
    go (no d) a = inr (sym (upd_else f (home t) b (Stocked k) d) ∙ a)

behind : {A : Type 0} (t : A) (xs ys : List A) → Within t ys → Within t (xs ++ ys)
behind t [] ys w = w
behind t (x ∷ xs) ys w = inr (behind t xs ys w)

before : {A : Type 0} (t : A) (xs ys : List A) → Within t xs → Within t (xs ++ ys)
before t [] ys w = absurd w
before t (x ∷ xs) ys w = ⊎_elim inl (λ q. inr (before t xs ys q)) w

-- two lists with one rest
cut_rest : {A : Type 0} (xs ys rs : List A) → xs ++ rs ≡ ys ++ rs → xs ≡ ys
cut_rest [] [] rs e = refl
cut_rest [] (y ∷ ys) rs e = absurd (let z = ap length e in omega (arith, length-append ys rs))
cut_rest (x ∷ xs) [] rs e = absurd (let z = ap length e in omega (arith, length-append xs rs))
cut_rest {A} (x ∷ xs) (y ∷ ys) rs e = let a : xs ++ rs ≡ ys ++ rs = cc in let b : x ≡ y = cc in let c = cut_rest xs ys rs a in cc

module _ (p : Pool) (first : Tagged) (used : List ℕ) (ws : List ℕ) (vs : List View) (st : Story) (h : List Entry) (r : Meets p first used ws vs st h) (id : ℕ) (v : View) (at : nth vs id ≡ Some v) where
  abbrev m : Mem
  m = mem_of p ws

  of : OfRun p first used v
  of = r.same id v at

  -- the bindings, as the server's directory has them
  bindings_are : v.pass.role ≡ Serving → (bs : List (ℕ × List ℕ)) → v.server.directory ≡ bs ++ waiting_name v.server.task → st.bindings ≡ bs
  bindings_are role bs e = let s = r.whole.serves id v at role in cut_rest st.bindings bs (waiting_name st.task) (sym s.directory ∙ e ∙ ap (λ (t : ServerTask). bs ++ waiting_name t) s.task_is)

  -- a split over the same words
  split_met : (left right : View) → OfRun p first used left → OfRun p first used right → left.plan ≡ [] → right.plan ≡ [] → (st1 : Story) → InStocks (split vs id left right) st1 → Whole p first used m (split vs id left right) st1 h → Meets p first used ws (split vs id left right) st1 h
  split_met left right a b c d st1 stocks w = record {
    sized = r.sized;
    decodes = r.decodes;
    same = each_split (OfRun p first used) vs id left right r.same a b;
    still = each_split (λ (y : View). y.plan ≡ []) vs id left right r.still c d;
    stocks = stocks;
    whole = w;
  }

  joined_met : (j : ℕ) (both rest : View) → OfRun p first used both → OfRun p first used rest → both.plan ≡ [] → rest.plan ≡ [] → (st1 : Story) → InStocks (joined vs id both j rest) st1 → Whole p first used m (joined vs id both j rest) st1 h → Meets p first used ws (joined vs id both j rest) st1 h
  joined_met j both rest a b c d st1 stocks w = record {
    sized = r.sized;
    decodes = r.decodes;
    same = each_joined (OfRun p first used) vs id j both rest r.same a b;
    still = each_joined (λ (y : View). y.plan ≡ []) vs id j both rest r.still c d;
    stocks = stocks;
    whole = w;
  }

  still_here : v.plan ≡ []
  still_here = r.still id v at

  -- a split that moves no buffer
  stocks_split : (left right : View) → left.pass.stock ≡ v.pass.stock → InStocks (split vs id left right) st
  stocks_split left right same b i e = let a = r.stocks b i e in let c = in_front vs id v left right at same i a.0 a.1 in (c.0, c.1, a.2, subst (Within a.2) c.2 a.3, a.4)

  pub client_met : (n : ℕ) → MayMake v n → Meets p first used ws (split vs id (making n v) (client_of n v)) st h
  client_met n may = split_met (making n v) (client_of n v) (record { of_pool = of.of_pool; from_map = of.from_map; from_used = of.from_used }) (record { of_pool = of.of_pool; from_map = of.from_map; from_used = of.from_used }) still_here refl st
      (stocks_split (making n v) (client_of n v) refl) (split_client p first used m vs st h r.whole id v at may.server n may.fresh)

  pub note_met : (n : ℕ) → v.pass.role ≡ Client n → Meets p first used ws (split vs id v (note_of v)) st h
  note_met n role = split_met v (note_of v) of (record { of_pool = of.of_pool; from_map = of.from_map; from_used = of.from_used }) still_here refl st
      (stocks_split v (note_of v) refl) (note_whole p first used m vs st h r.whole id v at n role)

  -- a batch of free tags goes to a grant
  module _ (batch : List ℕ) (position : ℕ) (names : List (ℕ × List ℕ)) (may : MayGrant p v batch position names) where
    abbrev pub granted : Story
    granted = record st { place = batch_at st.place batch (Stocked (length vs)) }

    part : IsPart position names st.bindings
    part = subst (IsPart position names) (sym (bindings_are may.tags.server may.bindings may.directory)) may.part

    stocks_granted : InStocks (split vs id (giving batch v) (grant batch position names v)) granted
    stocks_granted b i e = ⊎_elim
        (λ a. (grant batch position names v, (let z : i ≡ length (set vs id (giving batch v)) = sym a.3 ∙ sym (length-set vs id (giving batch v)) in ap (nth (split vs id (giving batch v) (grant batch position names v))) z) ∙ nth_last (set vs id (giving batch v)) (grant batch position names v), a.0, a.1, a.2))
        (λ a. let o = r.stocks b i a in let c = in_front vs id v (giving batch v) (grant batch position names v) at refl i o.0 o.1 in (c.0, c.1, o.2, subst (Within o.2) c.2 o.3, o.4))
        (in_hand st.place batch (length vs) b i e)

    pub grant_met : Meets p first used ws (split vs id (giving batch v) (grant batch position names v)) granted h
    grant_met = split_met (giving batch v) (grant batch position names v) (record { of_pool = of.of_pool; from_map = of.from_map; from_used = of.from_used }) (record { of_pool = of.of_pool; from_map = of.from_map; from_used = of.from_used }) still_here refl granted stocks_granted
        (grant_whole p first used m vs st h r.whole id v at may.tags.server batch may.tags.free may.tags.apart position names part)

  module _ (j : ℕ) (apart : j ≢ id) (y : View) (there : nth vs j ≡ Some y) where
    -- the views after a join, at the joining seat and elsewhere
    here : (both rest : View) → nth (joined vs id both j rest) id ≡ Some both
    here both rest = set_away (set vs id both) j id rest (λ z. apart (sym z)) ∙ set_here vs id both v at

    -- a join of a view without a stock
    stocks_joined : (both rest : View) → both.pass.stock ≡ v.pass.stock → y.pass.stock ≡ [] → InStocks (joined vs id both j rest) st
    stocks_joined both rest same none b i e = let o = r.stocks b i e in go o.0 o.1 o.2 o.3 o.4 (ℕ_discrete i j) (ℕ_discrete i id)
      where
        go : (z : View) → nth vs i ≡ Some z → (t : ℕ) → Within t z.pass.stock → home t ≡ b → Dec (i ≡ j) → Dec (i ≡ id) → (x : View) × (nth (joined vs id both j rest) i ≡ Some x) × (u : ℕ) × Within u x.pass.stock × (home u ≡ b)
        go z q t w g (yes d) f = absurd (let zy : z ≡ y = let zz : Some z ≡ Some y = sym q ∙ ap (nth vs) d ∙ there in cc in subst (Within t) none (subst (λ (o : View). Within t o.pass.stock) zy w))
        go z q t w g (no d) (yes f) = let zv : z ≡ v = let zz : Some z ≡ Some v = sym q ∙ ap (nth vs) f ∙ at in cc in (both, ap (nth (joined vs id both j rest)) f ∙ here both rest, t, subst (Within t) (sym same) (subst (λ (o : View). Within t o.pass.stock) zv w), g)
        go z q t w g (no d) (no f) = (z, set_away (set vs id both) j i rest d ∙ set_away vs id i both f ∙ q, t, w, g)

    pub noted_met : MayNote v y → Meets p first used ws (joined vs id (noted v y) j (spent v)) st h
    noted_met may = joined_met j (noted v y) (spent v) (record { of_pool = of.of_pool; from_map = of.from_map; from_used = of.from_used }) (record { of_pool = of.of_pool; from_map = of.from_map; from_used = of.from_used }) still_here refl st
        (stocks_joined (noted v y) (spent v) refl may.stock) (join_note p first used m vs st h r.whole id j apart v y at there may.server may.noting may.stock)

    -- a grant is taken in
    module _ (may : MayAccept v y) where
      abbrev pub taken_in : Story
      taken_in = record st { place = batch_at st.place y.pass.stock (Stocked id) }

      at_hand : (ts : List ℕ) (t : ℕ) → Within t ts → Each (λ (u : ℕ). (batch_at st.place y.pass.stock (Stocked id) (home u) ≡ Stocked id) × Unit {0}) ts → batch_at st.place y.pass.stock (Stocked id) (home t) ≡ Stocked id
      at_hand [] t w e = absurd w
      at_hand (u ∷ ts) t w e = ⊎_elim (λ q. ap (λ (z : ℕ). batch_at st.place y.pass.stock (Stocked id) (home z)) (sym q) ∙ e.0.0) (λ q. at_hand ts t q e.1) w

      units : (ts : List ℕ) → Each (λ (u : ℕ). Unit {0}) ts
      units [] = tt
      units (u ∷ ts) = (tt, units ts)

      stocks_accepted : InStocks (joined vs id (accepted v y) j (spent v)) taken_in
      stocks_accepted b i e = ⊎_elim
          (λ a. (accepted v y, ap (nth (joined vs id (accepted v y) j (spent v))) (sym a.3) ∙ here (accepted v y) (spent v), a.0, behind a.0 v.pass.stock y.pass.stock a.1, a.2))
          (λ a. let o = r.stocks b i a in go o.0 o.1 o.2 o.3 o.4 (ℕ_discrete i j) (ℕ_discrete i id))
          (in_hand st.place y.pass.stock id b i e)
        where
          go : (z : View) → nth vs i ≡ Some z → (t : ℕ) → Within t z.pass.stock → home t ≡ b → Dec (i ≡ j) → Dec (i ≡ id) → (x : View) × (nth (joined vs id (accepted v y) j (spent v)) i ≡ Some x) × (u : ℕ) × Within u x.pass.stock × (home u ≡ b)
          go z q t w g (yes d) f =
              let zy : z ≡ y = let zz : Some z ≡ Some y = sym q ∙ ap (nth vs) d ∙ there in cc in
              let now : batch_at st.place y.pass.stock (Stocked id) (home t) ≡ Stocked id = at_hand y.pass.stock t (subst (λ (o : View). Within t o.pass.stock) zy w) (all_there st.place y.pass.stock (Stocked id) (λ (u : ℕ). Unit {0}) (units y.pass.stock)) in
              let same : Stocked id ≡ Stocked i = sym now ∙ ap (batch_at st.place y.pass.stock (Stocked id)) g ∙ e in
              absurd (apart (let c : id ≡ i = cc in sym d ∙ sym c))
          go z q t w g (no d) (yes f) = let zv : z ≡ v = let zz : Some z ≡ Some v = sym q ∙ ap (nth vs) f ∙ at in cc in (accepted v y, ap (nth (joined vs id (accepted v y) j (spent v))) f ∙ here (accepted v y) (spent v), t, before t v.pass.stock y.pass.stock (subst (λ (o : View). Within t o.pass.stock) zv w), g)
          go z q t w g (no d) (no f) = (z, set_away (set vs id (accepted v y)) j i (spent v) d ∙ set_away vs id i (accepted v y) f ∙ q, t, w, g)

      pub accept_met : Meets p first used ws (joined vs id (accepted v y) j (spent v)) taken_in h
      accept_met = joined_met j (accepted v y) (spent v) (record { of_pool = of.of_pool; from_map = of.from_map; from_used = of.from_used }) (record { of_pool = of.of_pool; from_map = of.from_map; from_used = of.from_used }) still_here refl taken_in stocks_accepted
          (join_whole p first used m vs st h r.whole id j apart v y at there may.number may.client may.granting may.fits may.bare)

-- what is left of a view goes
pub spent_met : (p : Pool) (first : Tagged) (used : List ℕ) (ws : List ℕ) (vs : List View) (st : Story) (h : List Entry) (w : View) → Meets p first used ws (vs ++ spent w ∷ []) st h → (i : ℕ) (v : View) → nth vs i ≡ Some v → Meets p first used ws vs st h
spent_met p first used ws vs st h w r i v at = record {
  sized = r.sized;
  decodes = r.decodes;
  same = λ k y e. r.same k y (front k y e);
  still = λ k y e. r.still k y (front k y e);
  stocks = λ b k e. let o = r.stocks b k e in ⊎_elim (λ q. (o.0, q, o.2, o.3, o.4)) (λ q. absurd (subst (λ (y : View). Within o.2 y.pass.stock) (sym q.1) o.3)) (nth_snoc vs (spent w) o.0 k o.1);
  whole = dropped p first used (mem_of p ws) vs (spent w) st h r.whole refl (i, v, at);
}
  where
    front : (k : ℕ) (y : View) → nth vs k ≡ Some y → nth (vs ++ spent w ∷ []) k ≡ Some y
    front k y e = nth_front vs (spent w) k (λ z. let a = nth_within vs k y e in absurd (omega arith)) ∙ e

-- a grant and its join, seen from the front of the list
set_front : {A : Type 0} (xs : List A) (x y : A) (i : ℕ) → i < length xs → set (xs ++ x ∷ []) i y ≡ set xs i y ++ x ∷ []
set_front [] x y i h = absurd (omega arith)
set_front (a ∷ xs) x y zero h = refl
set_front (a ∷ xs) x y (suc i) h = ap (λ (zs : List _). a ∷ zs) (set_front xs x y i (omega arith))

set_last : {A : Type 0} (xs : List A) (x y : A) (n : ℕ) → n ≡ length xs → set (xs ++ x ∷ []) n y ≡ xs ++ y ∷ []
set_last [] x y zero e = refl
set_last [] x y (suc n) e = absurd (omega arith)
set_last (a ∷ xs) x y zero e = absurd (omega arith)
set_last (a ∷ xs) x y (suc n) e = ap (λ (zs : List _). a ∷ zs) (set_last xs x y n (omega arith))

-- the server hands over in one event: a grant, its join, and the spent view goes
module _ (p : Pool) (first : Tagged) (used : List ℕ) (ws : List ℕ) (vs : List View) (st : Story) (h : List Entry) (r : Meets p first used ws vs st h) (i j : ℕ) (sv cv : View) (at : nth vs i ≡ Some sv) (there : nth vs j ≡ Some cv) (batch : List ℕ) (names : List (ℕ × List ℕ)) (may : MayHand p sv cv batch names) where
  apart : j ≢ i
  apart e = absurd (let z : Some cv ≡ Some sv = sym there ∙ ap (nth vs) e ∙ at in let y : cv ≡ sv = cc in cc (ap (λ (x : View). x.pass.role) y, may.client, may.tags.server))

  abbrev grant_view : View
  grant_view = grant batch (length cv.pass.names) names sv

  may_grant : MayGrant p sv batch (length cv.pass.names) names
  may_grant = record { tags = may.tags; bindings = cv.pass.names ++ names; directory = may.names_are; part = (cv.pass.names, [], ap (λ (xs : List (ℕ × List ℕ)). cv.pass.names ++ xs) (sym (append-nil names)), refl) }

  abbrev front : List View
  front = set vs i (giving batch sv)

  abbrev middle : List View
  middle = front ++ grant_view ∷ []

  inside_front : j < length front
  inside_front = let a = nth_within vs j cv there in let b = length-set vs i (giving batch sv) in omega arith

  client_there : nth middle j ≡ Some cv
  client_there = nth_front front grant_view j (λ e. let a = inside_front in absurd (omega arith)) ∙ set_away vs i j (giving batch sv) apart ∙ there

  grant_there : nth middle (length front) ≡ Some grant_view
  grant_there = nth_last front grant_view

  may_accept : MayAccept cv grant_view
  may_accept = record { number = may.number; client = may.client; granting = refl; fits = refl; bare = refl }

  abbrev taken : View
  taken = accepted cv grant_view

  met_granted : (st1 : Story) × Meets p first used ws middle st1 h
  met_granted = (_, grant_met p first used ws vs st h r i sv at batch (length cv.pass.names) names may_grant)

  met_joined : (st1 : Story) × Meets p first used ws (joined middle j taken (length front) (spent cv)) st1 h
  met_joined = (_, accept_met p first used ws middle met_granted.0 h met_granted.1 j cv client_there (length front) (λ e. let a = inside_front in absurd (omega arith)) grant_view grant_there may_accept)

  views_are : joined middle j taken (length front) (spent cv) ≡ set front j taken ++ spent cv ∷ []
  views_are = ap (λ (xs : List View). set xs (length front) (spent cv)) (set_front front grant_view taken j inside_front) ∙ set_last (set front j taken) grant_view (spent cv) (length front) (sym (length-set front j taken))

  taken_is : taken ≡ given batch names cv
  taken_is = ap (λ (xs : List GrantRefusal). record cv { pass = record cv.pass { stock = cv.pass.stock ++ batch; names = cv.pass.names ++ names; refusals = xs } }) (append-nil cv.pass.refusals)

  pub hand_met : (st1 : Story) × Meets p first used ws (set (set vs i (giving batch sv)) j (given batch names cv)) st1 h
  hand_met = (
    met_joined.0,
    subst (λ (y : View). Meets p first used ws (set front j y) met_joined.0 h) taken_is
        (spent_met p first used ws (set front j taken) met_joined.0 h cv (subst (λ (xs : List View). Meets p first used ws xs met_joined.0 h) views_are met_joined.1) j taken (set_here front j taken cv (set_away vs i j (giving batch sv) apart ∙ there))),
  )

pub client_law : ClientLaw
client_law p first used ws vs h id v n r at may = rule_holds p first used ws _ r.story h (client_met p first used ws vs r.story h r.helped id v at n may)

pub grant_law : GrantLaw
grant_law p first used ws vs h id v batch position names r at may = rule_holds p first used ws _ _ h (grant_met p first used ws vs r.story h r.helped id v at batch position names may)

pub accept_law : AcceptLaw
accept_law p first used ws vs h id j v g r at there apart may = rule_holds p first used ws _ _ h (accept_met p first used ws vs r.story h r.helped id v at j apart g there may)

pub hand_over_law : HandOverLaw
hand_over_law p first used ws vs h i j sv cv batch names r at there may = let a = hand_met p first used ws vs r.story h r.helped i j sv cv at there batch names may in rule_holds p first used ws _ a.0 h a.1

pub note_law : NoteLaw
note_law p first used ws vs h id v n r at role = rule_holds p first used ws _ r.story h (note_met p first used ws vs r.story h r.helped id v at n role)

pub join_note_law : JoinNoteLaw
join_note_law p first used ws vs h id j v n r at there apart may = rule_holds p first used ws _ r.story h (noted_met p first used ws vs r.story h r.helped id v at j apart n there may)

pub spent_law : SpentLaw
spent_law p first used ws vs h i v w r at = rule_holds p first used ws vs r.story h (spent_met p first used ws vs r.story h w r.helped i v at)
