-- A store of restart keeps the pool down, and tells restart what the image says of its word.
use Rattle.std.proofs.Common.{◌≡◌, ◌≢◌, ℕ, zero, suc, ◌+◌, ◌<◌, ◌≤◌, Bool, true, false, List, [], ◌∷◌, ◌++◌, append-nil, length, set, get_or, get_or-set_same, get_or-set_other, refl, sym, ap, ◌∙◌, inl, inr, subst, ⊎_elim, arith}
use native.Mathlib.Decide.{dec_le}
use mathlib.Core.Logic.{dite}
use Rattle.std.specs.Prelude.{Some, slice_index}
use Rattle.std.proofs.lemmas.List.{append_assoc, length-set}
use Rattle.clover_words.specs.declared.pool.Pool.{Pool}
use Rattle.clover_words.specs.declared.setup.Setup.{Setup}
use Rattle.clover_words.specs.declared.word.Word.{Word}
use Rattle.clover_words.specs.declared.word.Word.TheVariants.{Next as NextOf, Root, Count}
use Rattle.clover_words.specs.Place.{IsWithin, HasSide, address_of, copy_in}
use Rattle.clover_map.specs.declared.call.Entry.{Entry}
use Rattle.clover_map.specs.Tagged.{Tagged}
use Rattle.clover_rule.specs.Accesses.{CameBack, words_after_act}
use Rattle.clover_rule.specs.Asks.{Asks, IsAt, IsNext, May}
use Rattle.clover_rule.specs.Learned.{found, words_after_step, next_view, next_history, rest_of}
use Rattle.clover_rule.specs.History.{longer}
use Rattle.clover_rule.specs.Lists.{IsPrefix, nth}
use Rattle.clover_rule.specs.Moves.{nobody}
use Rattle.clover_rule.specs.Restart.{words_after_stores}
use Rattle.clover_rule.specs.Rule.{longest}
use Rattle.clover_rule.specs.Steps.{Step, LoadNext, DecideNext, RaiseNext, LinkNext, StoreContent, FlushContent, LoadContent, ReadRoot, ReadShort, StoreShort, ReadCount, AbsentCount, ReadVersion, FlushLink, StoreRoot, FlushRoot, PassRoot, FreeRoot, StoreTombstone, FlushTombstone, StoreKey, FlushKey, BindRoot, FlushBoundRoot, StoreCount, Restart, IsClient, act_of, client, restart_word, side_of, word_of}
use Rattle.clover_rule.specs.Told.{Facts, IsShown, Says, ToldAt}
use Rattle.clover_rule.specs.declared.access.Access.{Access}
use Rattle.clover_rule.specs.declared.access.Act.{Act}
use Rattle.clover_rule.specs.declared.view.RestartStore.{RestartStore}
use Rattle.clover_rule.specs.declared.view.Role.TheVariants.{Client, Restarting, Serving}
use Rattle.clover_rule.specs.declared.view.ServerTask.{ServerTask}
use Rattle.clover_rule.specs.declared.view.View.{View}
use Rattle.clover_rule.proofs.Acting.{access_law}
use Rattle.clover_port.specs.Told.{Made}
use Rattle.clover_plain.specs.Plain.{Plain, HasStory, IsDown, Refused, Stands, Stepped, history, open_of, resting_view, restart_view, view_at}
use Rattle.clover_rule.proofs.Tools.{nth_within}
use Rattle.clover_plain.proofs.Showing.{restart_shown}
use Rattle.clover_plain.proofs.Stepping.{default_nth, made, refused_running, running}
use Rattle.clover_plain.proofs.Trails.{story_refused, story_stepped, untraced_refused, untraced_stepped}

-- words after one more store
pub stores_more : (p : Pool) (ws : List ℕ) (xs : List RestartStore) (x : RestartStore) → words_after_stores p ws (xs ++ x ∷ []) ≡ words_after_step p (Restart x) (words_after_stores p ws xs)
stores_more p ws [] x = refl
stores_more p ws (y ∷ xs) x = stores_more p (words_after_step p (Restart y) ws) xs x

-- a history is nothing where each view's is
pub longest_none : (vs : List View) → ((i : ℕ) (v : View) → nth vs i ≡ Some v → v.pass.history ≡ []) → longest vs ≡ []
longest_none [] h = refl
longest_none (v ∷ vs) h = λ k. longer (h zero v refl k) (longest_none vs (λ i w e. h (suc i) w e) k)

-- restart may make no step but its own next store
module _ (p : Pool) (v : View) (role : v.pass.role ≡ Restarting) where
  no_client : IsClient v → ⊥
  no_client c = let z : Client (client v) ≡ Restarting = sym c ∙ role in absurd cc

  no_server : {t : ServerTask} → IsAt v t → ⊥
  no_server a = let z : Serving ≡ Restarting = sym a.server ∙ role in absurd cc

  pub restart_step : (a : Step) → May p a v → (y : RestartStore) × (a ≡ Restart y) × IsNext v y
  restart_step (LoadNext s t) m = absurd (no_client m.0)
  restart_step (DecideNext s t c r) m = absurd (no_client m.client)
  restart_step (RaiseNext l) m = absurd (no_client m.0)
  restart_step (LinkNext s u t c) m = absurd (no_client m.client)
  restart_step (StoreContent t j x) m = absurd (no_client m.0)
  restart_step (FlushContent t j x) m = absurd (no_client m.0)
  restart_step (LoadContent s t j) m = absurd (no_client m.0)
  restart_step (ReadRoot s) m = absurd (no_client m)
  restart_step (ReadShort s) m = absurd (no_client m)
  restart_step (StoreShort s t) m = absurd (no_client m.0)
  restart_step ReadCount m = absurd (no_client m)
  restart_step (AbsentCount c) m = absurd (no_client m.0)
  restart_step (ReadVersion s r) m = absurd (no_server m.0)
  restart_step (FlushLink c) m = absurd (no_server m)
  restart_step (StoreRoot c) m = absurd (no_server m)
  restart_step (FlushRoot c) m = absurd (no_server m)
  restart_step (PassRoot c) m = absurd (no_server m)
  restart_step (FreeRoot c) m = absurd (no_server m)
  restart_step (StoreTombstone b) m = absurd (no_server m.idle)
  restart_step (FlushTombstone b) m = absurd (no_server m)
  restart_step (StoreKey b j x) m = absurd (no_server m.0)
  restart_step (FlushKey b j x) m = absurd (no_server m.0)
  restart_step (BindRoot b) m = absurd (no_server m)
  restart_step (FlushBoundRoot b) m = absurd (no_server m)
  restart_step (StoreCount b n) m = absurd (no_server m.0)
  restart_step (Restart y) m = (y, refl, m)

-- what restart knows but for its plan and its accesses
facts_next : (p : Pool) (v : View) (b : Bool) (y : RestartStore) (x : ℕ) → Facts p v [] → Facts p (next_view b (Restart y) [] v x) []
facts_next p v b y x f = record {
  of_pool = f.of_pool;
  begins = f.begins;
  legal = f.legal;
  calls = f.calls;
  stock = f.stock;
  apart = f.apart;
  durable = f.durable;
  links = f.links;
  names = f.names;
  server = f.server;
}

-- the views of a pool that is down have no history
module _ (p : Plain) (d : IsDown p) where
  silent : (i : ℕ) (v : View) → nth p.views i ≡ Some v → v.pass.history ≡ []
  silent i v e =
      let below = nth_within p.views i v e in
      let is : view_at p i ≡ v = default_nth p.views i v nobody e in
      dite (dec_le i p.setup.clients) (λ low. ap (λ (w : View). w.pass.history) (sym is ∙ d.renewed i low))
      (λ high. let at : i ≡ suc p.setup.clients = (let z = d.seats in omega arith) in
      ap (λ (w : View). w.pass.history) (sym is ∙ ap (view_at p) at) ∙ prefix_none (restart_view p).pass.history d.facts.begins)
    where
      prefix_none : (h : List Entry) → IsPrefix h [] → h ≡ []
      prefix_none [] b = refl
      prefix_none (x ∷ h) b = absurd cc

  pub down_history : history p ≡ []
  down_history = ap (λ (l : List View). longest (p.views ++ l)) d.absent ∙ ap longest (append-nil p.views) ∙ longest_none p.views silent

-- the pool after a refused access
pub refused_down : (a : Act) (seat : ℕ) (p q : Plain) → IsDown p → Refused a seat p q → IsDown q
refused_down a seat p q d st =
    let r : Plain = record p { accesses = q.accesses; access_room = q.access_room } in
    let is : q ≡ r = λ i. record { setup = st.same.setup i; first = st.same.first i; used = st.same.used i; start = st.same.start i; words = st.words i; views = st.views i; absent = st.same.absent i; entries = st.same.entries i; traced = st.same.traced i; accesses = q.accesses; made = st.made i; opened = st.same.opened i; whole = st.whole i; access_room = q.access_room; entry_room = st.same.entry_room i } in
    subst IsDown (sym is) (record {
      image = d.image;
      sized = d.sized;
      rests = d.rests;
      start = d.start;
      stored = d.stored;
      plan = d.plan;
      words = d.words;
      seats = d.seats;
      renewed = d.renewed;
      restart = d.restart;
      facts = d.facts;
      absent = d.absent;
      entries = d.entries;
      story = subst HasStory is (story_refused a seat p q d.story st);
      untraced = subst (λ (z : Plain). z.traced ≡ false → z.accesses ≡ []) is (untraced_refused a seat p q d.untraced st);
    })

-- the pool after a store of restart
module _ (a : Step) (b list : Bool) (seat x : ℕ) (p q : Plain) (d : IsDown p) (at : seat ≡ suc p.setup.clients) (asks : Asks p.setup.pool a (view_at p seat)) (st : Stepped a b list seat x p q) where
  abbrev v : View
  v = view_at p seat

  role : v.pass.role ≡ Restarting
  role = ap (λ (n : ℕ). (view_at p n).pass.role) at ∙ d.restart

  next : (y : RestartStore) × (a ≡ Restart y) × IsNext v y
  next = restart_step p.setup.pool v role a asks.1

  abbrev y : RestartStore
  y = next.0

  facts : Facts p.setup.pool v []
  facts = subst (λ (n : ℕ). Facts p.setup.pool (view_at p n) []) (sym at) d.facts

  none : history p ≡ []
  none = down_history p d

  abbrev w : View
  w = next_view b (Restart y) [] v x

  -- the pool after it, said of the store alone
  abbrev after : Plain
  after = record p { words = words_after_step p.setup.pool (Restart y) p.words; views = set p.views (suc p.setup.clients) w; accesses = q.accesses; made = q.made; whole = q.whole; access_room = q.access_room }

  view_is : next_view b a (history p) v x ≡ w
  view_is = λ i. next_view b (next.1 i) (none i) v x

  is : q ≡ after
  is =
      let words = st.words ∙ ap (λ (z : Step). words_after_step p.setup.pool z p.words) next.1 in
      let views = st.views ∙ (λ i. set p.views (at i) (view_is i)) in
      λ i. record { setup = st.same.setup i; first = st.same.first i; used = st.same.used i; start = st.same.start i; words = words i; views = views i; absent = st.same.absent i; entries = st.same.entries i; traced = st.same.traced i; accesses = q.accesses; made = q.made; opened = st.same.opened i; whole = q.whole; access_room = q.access_room; entry_room = st.same.entry_room i }

  below : suc p.setup.clients < length p.views
  below = let z = d.seats in omega arith

  here : restart_view after ≡ w
  here = get_or-set_same p.views (suc p.setup.clients) w nobody below

  came : CameBack p.setup.pool p.words (act_of a x)
  came = subst (λ (n : ℕ). CameBack p.setup.pool p.words (act_of a n)) (sym st.found) (access_law p.setup.pool p.words a).0

  words_then : q.words ≡ words_after_act p.setup.pool p.words (act_of a x)
  words_then = st.words ∙ sym (access_law p.setup.pool p.words a).1 ∙ ap (λ (n : ℕ). words_after_act p.setup.pool p.words (act_of a n)) (sym st.found)

  down_after : IsDown after
  down_after = record {
    image = d.image;
    sized = d.sized;
    rests = d.rests;
    start = d.start;
    stored = d.stored ++ y ∷ [];
    plan = d.plan ∙ ap (λ (l : List RestartStore). d.stored ++ l) (ap (λ (n : ℕ). (view_at p n).plan) (sym at) ∙ next.2.plan) ∙ sym (append_assoc d.stored (y ∷ []) next.2.rest)
        ∙ ap (λ (l : List RestartStore). (d.stored ++ y ∷ []) ++ l) (sym (ap (λ (z : View). z.plan) here ∙ ap rest_of next.2.plan));
    words = ap (words_after_step p.setup.pool (Restart y)) d.words ∙ sym (stores_more p.setup.pool p.start d.stored y);
    seats = length-set p.views (suc p.setup.clients) w ∙ d.seats;
    renewed = λ i low. get_or-set_other p.views (suc p.setup.clients) i w nobody (λ e. omega arith) ∙ d.renewed i low;
    restart = ap (λ (z : View). z.pass.role) here ∙ role;
    facts = subst (λ (z : View). Facts p.setup.pool z []) (sym here) (facts_next p.setup.pool v b y x facts);
    absent = d.absent;
    entries = d.entries;
    story = subst HasStory is (story_stepped a b list seat x p q d.story came words_then st);
    untraced = subst (λ (z : Plain). z.traced ≡ false → z.accesses ≡ []) is (untraced_stepped a b list seat x p q d.untraced st);
  }

  pub down : IsDown q
  down = subst IsDown (sym is) down_after

  -- what the access tells restart, where the number that it found is one that its word may have
  module _ (shown : IsShown p.setup.pool (word_of a) x) where
    pub made_down : Made p.setup.pool a b v (Some (open_of p)) x (view_at q seat) (Some (open_of q))
    made_down = record {
      now = open_of p;
      told = told_here;
      tells = (refl, λ k. Some (record { words = st.words k; history = history_then k }));
    }
      where
        seen : view_at q seat ≡ w
        seen = (λ i. view_at (is i) (at i)) ∙ here

        says : (z : Step) → z ≡ Restart y → Says p.setup.pool p.words z v x
        says z e = subst (λ (u : Step). Says p.setup.pool p.words u v x) (sym e) tt

        next_none : (z : Step) → z ≡ Restart y → next_history z (history p) v x ≡ []
        next_none z e = ap (λ (u : Step). next_history u (history p) v x) e ∙ none

        told_here : ToldAt p.setup.pool p.words (history p) a b v x (view_at q seat)
        told_here = record {
          here = st.found;
          before = subst (Facts p.setup.pool v) (sym none) facts;
          number = shown;
          says = says a next.1;
          next = seen ∙ sym view_is;
          after = subst (λ (h : List Entry). Facts p.setup.pool (view_at q seat) h) (sym (next_none a next.1)) (subst (λ (z : View). Facts p.setup.pool z []) (sym seen) (facts_next p.setup.pool v b y x facts));
        }

        history_then : history q ≡ next_history a (history p) v x
        history_then = down_history q down ∙ sym (next_none a next.1)

-- what holds of a pool that runs or is down, behind an access
pub stands_stepped : (o : Bool) (a : Step) (b list : Bool) (seat x : ℕ) (p q : Plain) → Stands o p → (o ≡ false → seat ≡ suc p.setup.clients) → seat < length p.views → Asks p.setup.pool a (view_at p seat) → Stepped a b list seat x p q → Stands o q
stands_stepped true a b list seat x p q r turn there asks st = running a b list seat x p q r there asks st
stands_stepped false a b list seat x p q d turn there asks st = down a b list seat x p q d (turn refl) asks st

pub stands_refused : (o : Bool) (a : Act) (seat : ℕ) (p q : Plain) → Stands o p → Refused a seat p q → Stands o q
stands_refused true a seat p q r st = refused_running a seat p q r st
stands_refused false a seat p q d st = refused_down a seat p q d st

-- and what the access tells
pub made_stepped : (o : Bool) (a : Step) (b list : Bool) (seat x : ℕ) (p q : Plain) → Stands o p → (o ≡ false → seat ≡ suc p.setup.clients) → seat < length p.views → Asks p.setup.pool a (view_at p seat) → Stepped a b list seat x p q
    → Made p.setup.pool a b (view_at p seat) (Some (open_of p)) x (view_at q seat) (Some (open_of q))
made_stepped true a b list seat x p q r turn there asks st = made a b list seat x p q r there asks st
made_stepped false a b list seat x p q d turn there asks st =
    let next = restart_step p.setup.pool (view_at p seat) (ap (λ (n : ℕ). (view_at p n).pass.role) (turn refl) ∙ d.restart) a asks.1 in
    let within : IsWithin p.setup.pool (restart_word next.0) = subst (λ (z : Step). IsWithin p.setup.pool (word_of z)) next.1 asks.0 in
    let shown : IsShown p.setup.pool (word_of a) x = subst (λ (z : Step). IsShown p.setup.pool (word_of z) x) (sym next.1)
    (subst (IsShown p.setup.pool (restart_word next.0)) (ap (λ (z : Step). found p.setup.pool z p.words) (sym next.1) ∙ sym st.found) (restart_shown p d next.0 within)) in
    made_down a b list seat x p q d (turn refl) asks st shown

-- behind a change of the room alone
pub stands_room : (o : Bool) (p : Plain) (es : List Entry) (xs : List Access) (m n : ℕ) → es ≡ p.entries → xs ≡ p.accesses → Stands o p → Stands o (record p { entries = es; accesses = xs; access_room = m; entry_room = n })
stands_room true p es xs m n e x r = record {
  rule = r.rule;
  entered = subst (λ (l : List Entry). IsPrefix l (history p)) (sym e) r.entered;
  story = (r.story.0, r.story.1, r.story.2, λ t w. r.story.3 t w ∙ sym x);
  untraced = λ t. x ∙ r.untraced t;
  roles = r.roles;
}
stands_room false p es xs m n e x d = record {
  image = d.image;
  sized = d.sized;
  rests = d.rests;
  start = d.start;
  stored = d.stored;
  plan = d.plan;
  words = d.words;
  seats = d.seats;
  renewed = d.renewed;
  restart = d.restart;
  facts = d.facts;
  absent = d.absent;
  entries = e ∙ d.entries;
  story = (d.story.0, d.story.1, d.story.2, λ t w. d.story.3 t w ∙ sym x);
  untraced = λ t. x ∙ d.untraced t;
}
