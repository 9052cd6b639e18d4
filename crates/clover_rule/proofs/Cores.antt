-- The core facts where no version and no root changes.
use Rattle.std.proofs.Common.{◌≡◌, ℕ, ◌<◌, ◌≤◌, ◌⊎◌, List, Bool, false, ◌∙◌, inl, inr, ⊎_elim}
use Rattle.std.specs.Prelude.{Option, Some, None}
use Rattle.clover_words.specs.Tag.{home, age}
use Rattle.clover_rule.specs.History.{Version}
use Rattle.clover_rule.specs.Memory.{Next, gen, link, Mem}
use Rattle.clover_rule.specs.Story.{Place, Chained, Taken, Loose, Story, tag_at, now_at, Passed, Core}
use Rattle.clover_rule.specs.declared.view.ServerTask.{ServerTask}

-- they read of flushed next words, places and names what is shown here, and neither contents, keys, shortcuts, the count nor tasks
module _ (m : Mem) (st : Story) (c : Core m st) (fnext : ℕ → Next) (place : ℕ → Place) (named : ℕ → Bool) (b fb k fk : ℕ → ℕ → ℕ) (sh : ℕ → Option ℕ) (ct : ℕ)
    (keys : ℕ → Option (List ℕ)) (first : ℕ → List Version) (bindings : List (ℕ × List ℕ)) (task : ServerTask) (sn : List ℕ → ℕ) where
  abbrev m' : Mem
  m' = record m { fnext = fnext; body = b; fbody = fb; key = k; fkey = fk; short = sh; count = ct }

  abbrev st' : Story
  st' = record st { place = place; named = named; keys = keys; first = first; bindings = bindings; task = task; slot_named = sn }

  pub core_but : ((s i t : ℕ) → Passed m st s i t → (age t < gen (fnext (home t))) ⊎ (fnext (home t) ≡ now_at st s i t)) → ((y s : ℕ) → st.place y ≡ Chained s → (place y ≡ Chained s) × (fnext y ≡ m.fnext y))
      → ((s : ℕ) → m.froot s ≡ None → st.named s ≡ false → named s ≡ false) → ((y : ℕ) → Loose (place y) → (link (m.next y) ≡ None) × (fnext y ≡ m.next y)) → ((y : ℕ) → place y ≡ Taken → link (m.next y) ≡ None)
      → ((y s : ℕ) → place y ≡ Chained s → (i : ℕ) × (t : ℕ) × (tag_at st s i ≡ Some t) × (st.gone s ≤ i) × (home t ≡ y)) → Core m' st'
  core_but passed standing unnamed loose held chained = record {
    spotted = c.spotted;
    passed = λ s i t e g. let x = c.passed s i t e g in record { later = x.later; safe = passed s i t x };
    standing = λ s i t e g. let x = c.standing s i t e g in let y = standing (home t) s x.placed in record { placed = y.0; now = x.now; safe = y.1 ∙ x.safe };
    sure_most = c.sure_most;
    sure_all = c.sure_all;
    rooted = c.rooted;
    bare = c.bare;
    led = c.led;
    root = c.root;
    froot = λ s. ⊎_elim inl (λ h. inr record { empty = h.empty; unnamed = unnamed s h.empty h.unnamed; alone = h.alone; dead = h.dead }) (c.froot s);
    loose = loose;
    held = held;
    chained = chained;
  }
