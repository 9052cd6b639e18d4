-- A power cut leaves the pool down.
use Rattle.std.proofs.Common.{◌≡◌, ◌≢◌, ℕ, zero, suc, ◌+◌, ◌*◌, ◌-◌, ◌<◌, ◌≤◌, Bool, true, false, List, [], ◌∷◌, ◌++◌, append-nil, length, length-append, get_or, replicate, refl, sym, ap, ◌∙◌, subst, arith}
use Rattle.std.specs.Prelude.{Some}
use Rattle.std.proofs.lemmas.Grind.{same_number_lists}
use Rattle.std.proofs.lemmas.List.{append_assoc, length-replicate}
use Rattle.clover_words.specs.Place.{durable_words, pool_words}
use Rattle.clover_words.specs.declared.pool.Pool.{Pool}
use Rattle.clover_map.specs.declared.call.Entry.{Entry}
use Rattle.clover_map.specs.Legal.{used_by}
use Rattle.clover_map.specs.Tagged.{Tagged}
use Rattle.clover_rule.specs.Cut.{IsCut, Rests, image_of}
use Rattle.clover_rule.specs.Accesses.{done}
use Rattle.clover_rule.specs.Lists.{nth}
use Rattle.clover_rule.specs.Moves.{nobody}
use Rattle.clover_rule.specs.Restart.{plan, rested_words, words_after_stores}
use Rattle.clover_rule.specs.Told.{Facts}
use Rattle.clover_rule.specs.Views.{alone, start_pass}
use Rattle.clover_rule.specs.declared.access.Access.{Access}
use Rattle.clover_rule.specs.declared.view.RestartStore.{RestartStore}
use Rattle.clover_rule.specs.declared.view.Role.TheVariants.{Restarting, Serving}
use Rattle.clover_rule.specs.declared.view.View.{View}
use Rattle.clover_rule.proofs.AfterCuts.{cut_law}
use Rattle.clover_rule.proofs.RestartLaw.{restart_law}
use Rattle.clover_plain.specs.Plain.{Plain, HasStory, IsDown, Stands, counted, first_of, history, restart_view, role_at, used_of, view_at}
use Rattle.clover_plain.specs.Waking.{IsWaking, IsWoken, waking}
use Rattle.clover_plain.proofs.Seating.{zero_replicate}

-- numbers with zeros behind them read as they do alone
pub zeros_behind : (xs : List ℕ) (n i : ℕ) → get_or (xs ++ replicate n 0) i 0 ≡ get_or xs i 0
zeros_behind [] n i = zero_replicate n i
zeros_behind (x ∷ xs) n zero = refl
zeros_behind (x ∷ xs) n (suc i) = zeros_behind xs n i

-- words that read as what was kept, twice, and 0 behind it
pub rested_list : (kept ws : List ℕ) (size : ℕ) → length ws ≡ size → 2 * length kept ≤ size → ((i : ℕ) → i < size → get_or ws i 0 ≡ get_or (kept ++ kept) i 0) → ws ≡ kept ++ kept ++ replicate (size - 2 * length kept) 0
rested_list kept ws size long fits reads =
    let n : ℕ = size - 2 * length kept in
    let all : length kept + length kept + n ≡ size = omega arith in
    same_number_lists ws (kept ++ kept ++ replicate n 0) (long ∙ sym (length-append (kept ++ kept) (replicate n 0) ∙ (λ i. length-append kept kept i + length-replicate {A = ℕ} n 0 i) ∙ all))
    (λ i below. reads i (omega arith) ∙ sym (zeros_behind (kept ++ kept) (size - 2 * length kept) i))

-- a list of views begins with the run's map and used tags
pub first_at : (vs : List View) → 0 < length vs → (first_of vs ≡ (get_or vs 0 nobody).pass.map) × (used_of vs ≡ (get_or vs 0 nobody).pass.used)
first_at [] h = absurd (omega arith)
first_at (v ∷ vs) h = (refl, refl)

-- there is something that restart may know
pub woken : (o : Bool) (p : Plain) (im : List ℕ) → Stands o p → IsCut p.setup.pool p.words im → (v : View) × IsWoken o p.setup.pool p.first p.used (p.views ++ p.absent) (history p) im v
woken true p im r cut = let a = cut_law p.setup.pool p.first p.used p.words (p.views ++ p.absent) (history p) im r.rule cut in (waking p.setup.pool a.map (used_by p.used (history p)) (plan p.setup.pool (image_of p.setup.pool im) a.rests.sound.reads), (a, refl))
woken false p im d cut =
    let l = p.setup.pool in
    let r = restart_law l p.first p.used d.image im d.rests d.stored (restart_view p).plan d.sized d.plan (subst (λ (ws : List ℕ). IsCut l ws im) (d.words ∙ ap (λ (ws : List ℕ). words_after_stores l ws d.stored) d.start) cut) in
    (waking l p.first p.used (plan l (image_of l im) r.sound.reads), (r, refl))

-- whichever it is, the image rests with the map and the used tags that restart knows, and restart has all stores of its plan
pub woken_rests : (o : Bool) (p : Pool) (first : Tagged) (used : List ℕ) (vs : List View) (h : List Entry) (im : List ℕ) (v : View) → IsWoken o p first used vs h im v → IsWaking p im v.pass.map v.pass.used v
woken_rests true p first used vs h im v w = subst (λ (u : View). IsWaking p im u.pass.map u.pass.used u) (sym w.1) (w.0.rests, refl)
woken_rests false p first used vs h im v w = subst (λ (u : View). IsWaking p im u.pass.map u.pass.used u) (sym w.1) (w.0, refl)

waking_facts : (p : Pool) (n : Tagged) (used : List ℕ) (xs : List RestartStore) → Facts p (waking p n used xs) []
waking_facts p n used xs = record {
  of_pool = refl;
  begins = ([], refl);
  legal = tt;
  calls = tt;
  stock = tt;
  apart = tt;
  durable = tt;
  links = tt;
  names = tt;
  server = λ e. let z : Restarting ≡ Serving = e in absurd cc;
}

-- the story of accesses goes on behind a cut
story_cut : (p q : Plain) → HasStory p → q.start ≡ q.words → q.made ≡ p.made → q.traced ≡ p.traced → q.whole ≡ p.whole → q.accesses ≡ p.accesses → HasStory q
story_cut p q t words made traced whole accesses =
    let all : List Access = t.0 ++ t.1 in (
      all,
      [],
      record { replays = tt; ends = words; count = made ∙ t.2.count ∙ ap (λ (l : List Access). counted (length (done l))) (sym (append-nil all)) },
      λ d w. append-nil all ∙ t.3 (sym traced ∙ d) (sym whole ∙ w) ∙ sym accesses,
    )

-- what holds of the pool behind a cut
module _ (o : Bool) (p q : Plain) (im : List ℕ) (s : Stands o p) (cut : IsCut p.setup.pool p.words im) (setup : q.setup ≡ p.setup) (words : q.words ≡ rested_words p.setup.pool im) (start : q.start ≡ q.words)
    (w : IsWoken o p.setup.pool p.first p.used (p.views ++ p.absent) (history p) im (restart_view q)) (seats : length q.views ≡ q.setup.clients + 2)
    (renewed : (i : ℕ) → i ≤ q.setup.clients → view_at q i ≡ alone (start_pass q.setup.pool (restart_view q).pass.map (restart_view q).pass.used (role_at q.setup i)))
    (firsts : q.first ≡ first_of q.views) (useds : q.used ≡ used_of q.views) (absent : q.absent ≡ []) (entries : q.entries ≡ []) (made : q.made ≡ p.made) (traced : q.traced ≡ p.traced) (whole : q.whole ≡ p.whole) (accesses : q.accesses ≡ p.accesses) where
  abbrev v : View
  v = restart_view q

  at_first : view_at q 0 ≡ alone (start_pass q.setup.pool v.pass.map v.pass.used (role_at q.setup 0))
  at_first = renewed 0 (omega arith)

  pub map_is : q.first ≡ v.pass.map
  map_is = firsts ∙ (first_at q.views (omega arith)).0 ∙ ap (λ (u : View). u.pass.map) at_first

  pub used_is : q.used ≡ v.pass.used
  used_is = useds ∙ (first_at q.views (omega arith)).1 ∙ ap (λ (u : View). u.pass.used) at_first

  pool_is : q.setup.pool ≡ p.setup.pool
  pool_is = λ i. (setup i).pool

  is_waking : IsWaking q.setup.pool im q.first q.used v
  is_waking = subst (λ (l : Pool). IsWaking l im q.first q.used v) (sym pool_is)
      (subst (λ (n : Tagged). IsWaking p.setup.pool im n q.used v) (sym map_is)
      (subst (λ (u : List ℕ). IsWaking p.setup.pool im v.pass.map u v) (sym used_is) (woken_rests o p.setup.pool p.first p.used (p.views ++ p.absent) (history p) im v w)))

  pub down_cut : IsDown q
  down_cut = record {
    image = im;
    sized = cut.sized ∙ ap durable_words (sym pool_is);
    rests = is_waking.0;
    start = start ∙ words ∙ ap (λ (l : Pool). rested_words l im) (sym pool_is);
    stored = [];
    plan = ap (λ (u : View). u.plan) (sym is_waking.1);
    words = sym start;
    seats = seats;
    renewed = λ i low. renewed i low ∙ (λ k. alone (start_pass q.setup.pool (sym map_is k) (sym used_is k) (role_at q.setup i)));
    restart = ap (λ (u : View). u.pass.role) is_waking.1;
    facts = subst (λ (u : View). Facts q.setup.pool u []) (sym is_waking.1) (waking_facts q.setup.pool q.first q.used _);
    absent = absent;
    entries = entries;
    story = story_cut p q (told o s) start made traced whole accesses;
    untraced = λ t. accesses ∙ none o s (sym traced ∙ t);
  }
    where
      told : (b : Bool) → Stands b p → HasStory p
      told true r = r.story
      told false d = d.story

      none : (b : Bool) → Stands b p → p.traced ≡ false → p.accesses ≡ []
      none true r t = r.untraced t
      none false d t = d.untraced t
