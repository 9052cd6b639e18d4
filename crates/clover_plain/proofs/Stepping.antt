-- Each access keeps the pool running, and tells what a port promises.
use Rattle.std.proofs.Common.{◌≡◌, ℕ, zero, suc, ◌<◌, List, [], ◌∷◌, ◌++◌, length, set, get_or, Bool, true, false, ◌&&◌, refl, sym, ap, ◌∙◌, subst, ⊎_elim, arith}
use Rattle.std.specs.Prelude.{Some}
use Rattle.clover_words.specs.declared.pool.Pool.{Pool}
use Rattle.clover_map.specs.declared.call.Entry.{Entry}
use Rattle.clover_map.specs.Tagged.{Tagged}
use Rattle.clover_rule.specs.Accesses.{CameBack, words_after_act}
use Rattle.clover_rule.specs.Lists.{nth, IsPrefix}
use Rattle.clover_rule.specs.Rule.{Rule, longest}
use Rattle.clover_rule.specs.Asks.{Asks}
use Rattle.clover_rule.specs.Learned.{found, words_after_step, next_view, next_history}
use Rattle.clover_rule.specs.Moves.{nobody}
use Rattle.clover_rule.specs.Steps.{Step, act_of}
use Rattle.clover_rule.specs.Told.{ToldAt}
use Rattle.clover_rule.specs.declared.access.Access.{Access}
use Rattle.clover_rule.specs.declared.access.Act.{Act}
use Rattle.clover_rule.specs.declared.view.View.{View}
use Rattle.clover_rule.proofs.Acting.{access_law, role_kept, history_grows, learned_stays}
use Rattle.clover_rule.proofs.Accessing.{step_law}
use Rattle.clover_rule.proofs.Longest.{longest_law}
use Rattle.clover_rule.proofs.Steps.{nth_set, set_here, prefix_trans}
use Rattle.clover_rule.proofs.Telling.{told_at}
use Rattle.clover_port.specs.Told.{Made}
use Rattle.clover_plain.specs.Plain.{Plain, Running, Stepped, Refused, Leads, view_at, history, open_of, grown, access, first_of, role_at, used_of}
use Rattle.clover_plain.proofs.Seating.{at_front, first_set, set_front, used_set}
use Rattle.clover_plain.proofs.Trails.{story_refused, story_stepped, untraced_refused, untraced_stepped}

pub nth_default : (vs : List View) (i : ℕ) (d : View) → i < length vs → nth vs i ≡ Some (get_or vs i d)
nth_default [] i d h = absurd (omega arith)
nth_default (x ∷ vs) zero d h = refl
nth_default (x ∷ vs) (suc i) d h = nth_default vs i d (omega arith)

pub default_nth : (vs : List View) (i : ℕ) (v d : View) → nth vs i ≡ Some v → get_or vs i d ≡ v
default_nth [] i v d e = absurd cc
default_nth (x ∷ vs) zero v d e = cc
default_nth (x ∷ vs) (suc i) v d e = default_nth vs i v d e

-- the rule of alike words, views and histories
pub rule_as : (p p1 : Pool) (f f1 : Tagged) (u u1 ws ws1 : List ℕ) (vs vs1 : List View) (h h1 : List Entry) → p1 ≡ p → f1 ≡ f → u1 ≡ u → ws1 ≡ ws → vs1 ≡ vs → h1 ≡ h → Rule p f u ws vs h → Rule p1 f1 u1 ws1 vs1 h1
rule_as p p1 f f1 u u1 ws ws1 vs vs1 h h1 a b c d e g r =
    subst (λ (z : Pool). Rule z f1 u1 ws1 vs1 h1) (sym a)
    (subst (λ (z : Tagged). Rule p z u1 ws1 vs1 h1) (sym b)
    (subst (λ (z : List ℕ). Rule p f z ws1 vs1 h1) (sym c)
    (subst (λ (z : List ℕ). Rule p f u z vs1 h1) (sym d)
    (subst (λ (z : List View). Rule p f u ws z h1) (sym e)
    (subst (λ (z : List Entry). Rule p f u ws vs z) (sym g) r)))))

module _ (a : Step) (b list : Bool) (seat x : ℕ) (p q : Plain) (r : Running p) (below : seat < length p.views) (asks : Asks p.setup.pool a (view_at p seat)) (st : Stepped a b list seat x p q) where
  abbrev v : View
  v = view_at p seat

  at : nth p.views seat ≡ Some v
  at = nth_default p.views seat nobody below

  abbrev views_then : List View
  views_then = set p.views seat (next_view b a (history p) v (found p.setup.pool a p.words)) ++ p.absent

  rule_then : Rule p.setup.pool p.first p.used (words_after_step p.setup.pool a p.words) views_then (next_history a (history p) v (found p.setup.pool a p.words))
  rule_then = subst (λ (l : List View). Rule p.setup.pool p.first p.used (words_after_step p.setup.pool a p.words) l (next_history a (history p) v (found p.setup.pool a p.words))) (set_front p.views p.absent seat _ below)
      (step_law p.setup.pool p.first p.used p.words (p.views ++ p.absent) (history p) seat v a b r.rule (at_front p.views p.absent seat v at) asks)

  views_are : q.views ++ q.absent ≡ views_then
  views_are = (λ k. st.views k ++ st.same.absent k) ∙ ap (λ (n : ℕ). set p.views seat (next_view b a (history p) v n) ++ p.absent) st.found

  longest_then : history q ≡ next_history a (history p) v x
  longest_then = ap longest views_are ∙ longest_law p.setup.pool p.first p.used _ _ _ rule_then ∙ ap (next_history a (history p) v) (sym st.found)

  rule_now : Rule q.setup.pool q.first q.used q.words (q.views ++ q.absent) (history q)
  rule_now = rule_as p.setup.pool q.setup.pool p.first q.first p.used q.used _ q.words views_then (q.views ++ q.absent) _ (history q) (ap (λ s. s.pool) st.same.setup) st.same.first st.same.used st.words views_are (longest_then ∙ ap (next_history a (history p) v) st.found) rule_then

  came : CameBack p.setup.pool p.words (act_of a x)
  came = subst (λ (n : ℕ). CameBack p.setup.pool p.words (act_of a n)) (sym st.found) (access_law p.setup.pool p.words a).0

  words_then : q.words ≡ words_after_act p.setup.pool p.words (act_of a x)
  words_then = st.words ∙ sym (access_law p.setup.pool p.words a).1 ∙ ap (λ (n : ℕ). words_after_act p.setup.pool p.words (act_of a n)) (sym st.found)

  roles_now : (i : ℕ) (u : View) → nth q.views i ≡ Some u → u.pass.role ≡ role_at q.setup i
  roles_now i u e = ⊎_elim
      (λ d. ap (λ (y : View). y.pass.role) (sym d.1) ∙ role_kept a b (history p) v x ∙ r.roles seat v at ∙ ap (role_at p.setup) (sym d.0))
      (λ d. r.roles i u d.1)
      (nth_set p.views seat i (next_view b a (history p) v x) u (ap (λ (l : List View). nth l i) (sym st.views) ∙ e)) ∙ ap (λ s. role_at s i) (sym st.same.setup)

  pub running : Running q
  running = record {
    rule = rule_now;
    entered = subst (λ (l : List Entry). IsPrefix l (history q)) (sym st.same.entries) (subst (λ (h : List Entry). IsPrefix p.entries h) (sym longest_then) (prefix_trans p.entries (history p) _ r.entered (history_grows a (history p) v x)));
    story = story_stepped a b list seat x p q r.story came words_then st;
    untraced = untraced_stepped a b list seat x p q r.untraced st;
    roles = roles_now;
  }

  view_then : view_at q seat ≡ next_view b a (history p) v x
  view_then = default_nth q.views seat _ nobody (ap (λ (l : List View). nth l seat) st.views ∙ set_here p.views seat _ v at)

  pub made : Made p.setup.pool a b v (Some (open_of p)) x (view_at q seat) (Some (open_of q))
  made = record {
    now = open_of p;
    told = subst (λ (w : View). ToldAt p.setup.pool p.words (history p) a b v x w) (sym view_then) (subst (λ (n : ℕ). ToldAt p.setup.pool p.words (history p) a b v n (next_view b a (history p) v n)) (sym st.found) (told_at p.setup.pool p.first p.used p.words (p.views ++ p.absent) r.rule.story (history p) r.rule.helped seat v (at_front p.views p.absent seat v at) a b asks));
    tells = (refl, λ k. Some (record { words = st.words k; history = longest_then k }));
  }

-- a step's view is of the run of the one before
pub first_kept : (vs us : List View) (seat : ℕ) (v : View) (b : Bool) (a : Step) (h : List Entry) (x : ℕ) → nth vs seat ≡ Some v → us ≡ set vs seat (next_view b a h v x) → (first_of us ≡ first_of vs) × (used_of us ≡ used_of vs)
first_kept vs us seat v b a h x at e =
    let k = learned_stays a h v x in
    let one : (w : View) → nth vs seat ≡ Some w → v ≡ w = λ w f. let z : Some v ≡ Some w = sym at ∙ f in cc in (
      ap first_of e ∙ first_set vs seat _ (λ w f. k.map ∙ ap (λ (u : View). u.pass.map) (one w f)),
      ap used_of e ∙ used_set vs seat _ (λ w f. k.used ∙ ap (λ (u : View). u.pass.used) (one w f)),
    )

-- a refused step
pub refused_running : (a : Act) (seat : ℕ) (p q : Plain) → Running p → Refused a seat p q → Running q
refused_running a seat p q r st =
    let all : q.views ++ q.absent ≡ p.views ++ p.absent = (λ k. st.views k ++ st.same.absent k) in
    let hist : history q ≡ history p = ap longest all in
    record {
      rule = rule_as p.setup.pool q.setup.pool p.first q.first p.used q.used p.words q.words (p.views ++ p.absent) (q.views ++ q.absent) (history p) (history q) (ap (λ s. s.pool) st.same.setup) st.same.first st.same.used st.words all hist r.rule;
      entered = subst (λ (l : List Entry). IsPrefix l (history q)) (sym st.same.entries) (subst (λ (h : List Entry). IsPrefix p.entries h) (sym hist) r.entered);
      story = story_refused a seat p q r.story st;
      untraced = untraced_refused a seat p q r.untraced st;
      roles = λ i u e. r.roles i u (ap (λ (l : List View). nth l i) (sym st.views) ∙ e) ∙ ap (λ s. role_at s i) (sym st.same.setup);
    }
