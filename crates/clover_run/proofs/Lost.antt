-- What a power cut leaves of the pool of a machine that stood behind some records.
use Rattle.std.proofs.Common.{◌≡◌, ◌++◌, ℕ, List, [], Bool, true, false, sym, ap, ◌∙◌, subst}
use Rattle.clover_words.specs.declared.pool.Pool.{Pool}
use Rattle.clover_words.specs.declared.setup.Setup.{Setup}
use Rattle.clover_map.specs.Legal.{used_by}
use Rattle.clover_map.specs.Tagged.{Tagged}
use Rattle.clover_map.specs.declared.call.Entry.{Entry}
use Rattle.clover_rule.specs.Cut.{AfterCut, IsCut}
use Rattle.clover_rule.specs.Restart.{rested_words}
use Rattle.clover_rule.specs.Rule.{Rule, longest}
use Rattle.clover_rule.specs.declared.view.View.{View}
use Rattle.clover_rule.proofs.AfterCuts.{cut_law}
use Rattle.clover_rule.proofs.LossSeen.{marks_law}
use Rattle.clover_plain.specs.Plain.{KeptButEntries, Plain, Running, history, restart_view}
use Rattle.clover_plain.specs.Waking.{IsWoken}
use Rattle.clover_run.specs.Folds.{entries_in, listed_in, words_after}
use Rattle.clover_run.specs.Machine.{Parts, IsAt}
use Rattle.clover_run.specs.Power.{LosesPower, MayLeave}
use Rattle.clover_run.specs.Record.{Record}
use Rattle.clover_run.specs.Run.{Opening}

-- The pool p is down behind the image; of the pool q before it only the entries were handed out.
pub record IsCutDown (image : List ℕ) (q p : Plain) : Type 0 where
  pub down : p.opened ≡ false
  pub words : p.words ≡ rested_words q.setup.pool image
  pub restart : IsWoken q.opened q.setup.pool q.first q.used (q.views ++ q.absent) (history q) image (restart_view p)
  pub first : (p.first ≡ (restart_view p).pass.map) × (p.used ≡ (restart_view p).pass.used)
  pub accesses : (p.accesses ≡ q.accesses) × (p.made ≡ q.made) × (p.whole ≡ q.whole)
  pub setup : p.setup ≡ q.setup
  pub traced : p.traced ≡ q.traced

-- what restart knows, where all else is named in another way
woken_as : (b1 b2 : Bool) (p1 p2 : Pool) (m1 m2 : Tagged) (u1 u2 : List ℕ) (h1 h2 : List Entry) (vs : List View) (im : List ℕ) (v : View) → b1 ≡ b2 → p1 ≡ p2 → m1 ≡ m2 → u1 ≡ u2 → h1 ≡ h2 → IsWoken b1 p1 m1 u1 vs h1 im v → IsWoken b2 p2 m2 u2 vs h2 im v
woken_as b1 b2 p1 p2 m1 m2 u1 u2 h1 h2 vs im v b p m u h w =
    subst (λ (b : Bool). IsWoken b p2 m2 u2 vs h2 im v) b
    (subst (λ (p : Pool). IsWoken b1 p m2 u2 vs h2 im v) p
    (subst (λ (m : Tagged). IsWoken b1 p1 m u2 vs h2 im v) m
    (subst (λ (u : List ℕ). IsWoken b1 p1 m1 u vs h2 im v) u
    (subst (λ (h : List Entry). IsWoken b1 p1 m1 u1 vs h im v) h w))))

-- the rule and the cut at a moment of the records, where the pool runs
rule_at : (o : Opening) (rs : List Record) (m : Parts) → IsAt o m rs → Running m.pool → Rule o.setup.pool o.first o.used (words_after o.setup.pool o.words rs) (m.pool.views ++ m.pool.absent) (entries_in rs)
rule_at o rs m at running =
    subst (λ (p : Pool). Rule p o.first o.used (words_after o.setup.pool o.words rs) vs (entries_in rs)) (ap (λ (s : Setup). s.pool) at.pool.setup)
    (subst (λ (f : Tagged). Rule q f o.used (words_after o.setup.pool o.words rs) vs (entries_in rs)) at.pool.first
    (subst (λ (u : List ℕ). Rule q m.pool.first u (words_after o.setup.pool o.words rs) vs (entries_in rs)) at.pool.used
    (subst (λ (ws : List ℕ). Rule q m.pool.first m.pool.used ws vs (entries_in rs)) at.pool.words
    (subst (λ (h : List Entry). Rule q m.pool.first m.pool.used m.pool.words vs h) (sym at.pool.entered ∙ at.pool.entries) running.rule))))
  where
    vs : List View
    vs = m.pool.views ++ m.pool.absent

    q : Pool
    q = m.pool.setup.pool

cut_at : (o : Opening) (rs : List Record) (m : Parts) (image : List ℕ) → IsAt o m rs → IsCut m.setup.pool m.pool.words image → IsCut o.setup.pool (words_after o.setup.pool o.words rs) image
cut_at o rs m image at cut = subst (λ (p : Pool). IsCut p (words_after o.setup.pool o.words rs) image) (ap (λ (s : Setup). s.pool) at.setup) (subst (λ (ws : List ℕ). IsCut m.setup.pool ws image) at.pool.words cut)

-- what any cut of the words may leave, where the pool runs
module _ (o : Opening) (rs : List Record) (m : Parts) (at : IsAt o m rs) (running : Running m.pool) (image : List ℕ) (cut : IsCut m.setup.pool m.pool.words image) where
  abbrev leaves_by : AfterCut o.setup.pool o.first o.used (m.pool.views ++ m.pool.absent) (entries_in rs) image → MayLeave o rs image
  leaves_by after = record {
    views = m.pool.views ++ m.pool.absent;
    after = after;
    known = at.told;
    marks = marks_law o.setup.pool o.first o.used (words_after o.setup.pool o.words rs) (m.pool.views ++ m.pool.absent) (entries_in rs) image (rule_at o rs m at running) (cut_at o rs m image at cut) after;
  }

  pub may_leave : MayLeave o rs image
  may_leave = leaves_by (cut_law o.setup.pool o.first o.used (words_after o.setup.pool o.words rs) (m.pool.views ++ m.pool.absent) (entries_in rs) image (rule_at o rs m at running) (cut_at o rs m image at cut))

  module _ (q p : Plain) (kept : KeptButEntries m.pool q) (down : IsCutDown image q p) where
    setup : q.setup ≡ o.setup
    setup = kept.setup ∙ at.pool.setup

    woken : IsWoken true o.setup.pool o.first o.used (m.pool.views ++ m.pool.absent) (entries_in rs) image (restart_view p)
    woken = subst (λ (vs : List View). IsWoken true o.setup.pool o.first o.used vs (entries_in rs) image (restart_view p)) (λ z. kept.views z ++ kept.absent z)
        (woken_as q.opened true q.setup.pool o.setup.pool q.first o.first q.used o.used (history q) (entries_in rs) (q.views ++ q.absent) image (restart_view p) (kept.opened ∙ at.pool.opened) (ap (λ (s : Setup). s.pool) setup) (kept.first ∙ at.pool.first) (kept.used ∙ at.pool.used)
        ((λ z. longest (kept.views z ++ kept.absent z)) ∙ sym at.pool.entered ∙ at.pool.entries) down.restart)

    pub lost_power : (handed : List Entry) → handed ≡ m.pool.entries → LosesPower o rs image p handed
    lost_power handed out = record {
      leaves = leaves_by woken.0;
      setup = down.setup ∙ setup;
      down = down.down;
      words = down.words ∙ ap (λ (s : Setup). rested_words s.pool image) setup;
      first = down.first.0 ∙ ap (λ (v : View). v.pass.map) woken.1;
      used = down.first.1 ∙ ap (λ (v : View). v.pass.used) woken.1;
      plan = ap (λ (v : View). v.plan) woken.1;
      accesses = down.accesses.0 ∙ kept.accesses ∙ at.pool.accesses ∙ ap (λ (b : Bool). listed_in o.listed b rs) (sym kept.traced ∙ sym down.traced);
      made = down.accesses.1 ∙ kept.made ∙ at.pool.made;
      whole = down.accesses.2 ∙ kept.whole ∙ at.pool.whole;
      entries = out ∙ at.pool.entries;
    }
