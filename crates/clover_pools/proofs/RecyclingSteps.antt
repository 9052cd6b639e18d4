-- A recycling over a small pool in which a put has committed: that it may begin, and what a step of it leaves.
use Rattle.std.proofs.Common.{◌≡◌, ◌<◌, ℕ, List, ◌++◌, length, get_or, false, refl, sym, ap, ◌∙◌, subst, Bool, arith}
use Rattle.std.specs.Prelude.{Some}
use Rattle.std.proofs.lemmas.List.{length-set}
use Rattle.std.proofs.lemmas.Option.{same_Some}
use Rattle.clover_words.specs.declared.setup.Setup.{Setup}
use Rattle.clover_words.specs.Tag.{TagParts, age}
use Rattle.clover_map.specs.declared.call.Entry.{Entry}
use Rattle.clover_port.specs.Told.{Open, Made, opened}
use Rattle.clover_rule.specs.Learned.{next_view, next_history}
use Rattle.clover_rule.specs.Moves.{nobody}
use Rattle.clover_rule.specs.Rule.{longest}
use Rattle.clover_rule.specs.declared.access.Act.{Act}
use Rattle.clover_rule.specs.declared.view.View.{View}
use Rattle.clover_plain.specs.Plain.{Plain, Kept, Refused, Stepped, history, open_of, view_at}
use Rattle.clover_recycle.specs.Answering.{OnReached, OnUnreached, Went}
use Rattle.clover_recycle.specs.Holding.{RecycleHolds}
use Rattle.clover_recycle.specs.Recycling.{RecycleState, made_task, recycle_step}
use Rattle.clover_recycle.specs.declared.stage.Stage.{Stage}
use Rattle.clover_recycle.specs.declared.stage.Stage.TheVariants.{AtVersion, AtLink, AtRoot, AtFlushedRoot, AtPass, AtFree, Over}
use Rattle.clover_recycle.specs.declared.turn.RecycleTurn.{RecycleTurn}
use Rattle.clover_recycle.specs.declared.turn.RecycleTurn.TheVariants.{More, Unlinked, Recycled, Unreached}
use Rattle.clover_pools.specs.Grants.{HasRoot}
use Rattle.clover_pools.specs.Recycling.{Recycles}
use Rattle.clover_pools.specs.Small.{IsReady, IsSmall, HasSmallNumbers}
use Rattle.clover_pools.proofs.SmallPool.{age_third, home_third, in_pool, third}

-- the recycling may begin
pub may_recycle : (p : Plain) (t : TagParts) → t ≡ third → IsSmall p → HasRoot (view_at p 1) → RecycleHolds p.setup.pool (made_task 0 t) (view_at p 1)
may_recycle p t e small has = subst (λ (z : TagParts). RecycleHolds p.setup.pool (made_task 0 z) (view_at p 1)) (sym e) (record {
  task = has.idle;
  root = (in_pool p.setup small.numbers 2097152 2 home_third (omega arith) refl refl, low p.setup);
  stands = has.root;
})
  where
    low : (s : Setup) → age 2097152 < s.pool.wear
    low s = let a = age_third in let w = s.pool.some_wear in omega arith

-- a recycling adds no entry
pub quiet_at : (c : RecycleState) (at : Stage) (h : List Entry) (v : View) (x : ℕ) → next_history (recycle_step (record c { stage = at })) h v x ≡ h
quiet_at c AtVersion h v x = refl
quiet_at c (AtLink t) h v x = refl
quiet_at c (AtRoot t) h v x = refl
quiet_at c (AtFlushedRoot t) h v x = refl
quiet_at c (AtPass t) h v x = refl
quiet_at c (AtFree t) h v x = refl
quiet_at c Over h v x = refl

module _ (c n : RecycleState) (l : Bool) (p p0 q : Plain) (ready : IsReady p) (small : IsSmall p) (kept : Kept p p0) (holds : RecycleHolds p.setup.pool c (view_at p 1)) where
  same_history : history p0 ≡ history p
  same_history = λ i. longest (kept.views i ++ kept.absent i)

  -- the server's step was made
  record IsMade (x : ℕ) : Type 0 where
    pub stepped : Stepped (recycle_step c) false l 1 x p0 q
    pub made : Made p0.setup.pool (recycle_step c) false (view_at p0 1) (Some (open_of p0)) x (view_at q 1) (Some (open_of q))

  made_ready : (x : ℕ) → IsMade x → IsReady q × IsSmall q
  made_ready x m =
      let s = m.stepped in
      let next : history q ≡ next_history (recycle_step c) m.made.now.history (view_at p0 1) x = ap (λ (o : Open). o.history) (same_Some (open_of q) (opened p0.setup.pool (recycle_step c) (view_at p0 1) x m.made.now) m.made.tells.1) in
      let quiet : history q ≡ history p0 = next ∙ quiet_at c c.stage m.made.now.history (view_at p0 1) x ∙ ap (λ (o : Open). o.history) (sym m.made.tells.0) in (
        record { opened = s.same.opened ∙ kept.opened ∙ ready.opened; entered = s.same.entries ∙ kept.entries ∙ ready.entered ∙ sym same_history ∙ sym quiet },
        record {
          numbers = subst HasSmallNumbers (sym (s.same.setup ∙ kept.setup)) small.numbers;
          seats = ap length s.views ∙ length-set p0.views 1 (next_view false (recycle_step c) (history p0) (view_at p0 1) x) ∙ ap length kept.views ∙ small.seats;
        },
      )

  -- or refused
  refused_ready : (a : Act) → Refused a 1 p0 q → IsReady q × IsSmall q
  refused_ready a r = (
    record { opened = r.same.opened ∙ kept.opened ∙ ready.opened; entered = r.same.entries ∙ kept.entries ∙ ready.entered ∙ sym same_history ∙ sym (λ i. longest (r.views i ++ r.same.absent i)) },
    record { numbers = subst HasSmallNumbers (sym (r.same.setup ∙ kept.setup)) small.numbers; seats = ap length r.views ∙ ap length kept.views ∙ small.seats },
  )

  refused_holds : (a : Act) → Refused a 1 p0 q → n ≡ c → RecycleHolds q.setup.pool n (view_at q 1)
  refused_holds a r e =
      subst (λ (s : Setup). RecycleHolds s.pool n (view_at q 1)) (sym (r.same.setup ∙ kept.setup))
      (subst (λ (v : View). RecycleHolds p.setup.pool n v) (sym (ap (λ (vs : List View). get_or vs 1 nobody) (r.views ∙ kept.views)))
      (subst (λ (z : RecycleState). RecycleHolds p.setup.pool z (view_at p 1)) (sym e) holds))

  made_holds : (x : ℕ) → IsMade x → RecycleHolds p0.setup.pool n (view_at q 1) → RecycleHolds q.setup.pool n (view_at q 1)
  made_holds x m h = subst (λ (s : Setup). RecycleHolds s.pool n (view_at q 1)) (sym m.stepped.same.setup) h

  goes : (t : RecycleTurn) → OnReached t ((x : ℕ) × IsMade x × Went p0.setup.pool c x (view_at q 1) n t) → OnUnreached t (((a : Act) × Refused a 1 p0 q) × (n ≡ c)) → Recycles t n q
  goes More a b = let r = made_ready a.0 a.1 in record { ready = r.0; small = r.1; holds = made_holds a.0 a.1 a.2.holds }
  goes Unlinked a b = let r = made_ready a.0 a.1 in record { ready = r.0; small = r.1; holds = tt }
  goes (Recycled old root) a b = let r = made_ready a.0 a.1 in record { ready = r.0; small = r.1; holds = tt }
  goes Unreached a b = let r = refused_ready b.0.0 b.0.1 in record { ready = r.0; small = r.1; holds = refused_holds b.0.0 b.0.1 b.1 }

-- the same of a step through the server's port of the pool, which is then given back
module _ (c n : RecycleState) (l : Bool) (seat seat1 : ℕ) (p p0 p1 q q1 : Plain) (ready : IsReady p) (small : IsSmall p) (kept : Kept p p0) (of : p1 ≡ p0) (at : seat ≡ 1) (back : q ≡ q1) (holds : RecycleHolds p.setup.pool c (view_at p 1)) where
  made_so : (x : ℕ) → Stepped (recycle_step c) false l seat x p1 q → Made p1.setup.pool (recycle_step c) false (view_at p1 seat) (Some (open_of p1)) x (view_at q seat1) (Some (open_of q)) → seat1 ≡ seat → IsMade c n l p p0 q ready small kept holds x
  made_so x s m same = record {
    stepped = subst (λ (k : ℕ). Stepped (recycle_step c) false l k x p0 q) at (subst (λ (z : Plain). Stepped (recycle_step c) false l seat x z q) of s);
    made =
        subst (λ (k : ℕ). Made p0.setup.pool (recycle_step c) false (view_at p0 k) (Some (open_of p0)) x (view_at q 1) (Some (open_of q))) at
        (subst (λ (k : ℕ). Made p0.setup.pool (recycle_step c) false (view_at p0 seat) (Some (open_of p0)) x (view_at q k) (Some (open_of q))) (same ∙ at)
        (subst (λ (z : Plain). Made z.setup.pool (recycle_step c) false (view_at z seat) (Some (open_of z)) x (view_at q seat1) (Some (open_of q))) of m));
  }

  went_so : (t : RecycleTurn) (x : ℕ) → seat1 ≡ seat → Went p1.setup.pool c x (view_at q seat1) n t → Went p0.setup.pool c x (view_at q 1) n t
  went_so t x same w = subst (λ (k : ℕ). Went p0.setup.pool c x (view_at q k) n t) (same ∙ at) (subst (λ (z : Plain). Went z.setup.pool c x (view_at q seat1) n t) of w)

  refused_so : (a : Act) → Refused a seat p1 q → Refused a 1 p0 q
  refused_so a r = subst (λ (k : ℕ). Refused a k p0 q) at (subst (λ (z : Plain). Refused a seat z q) of r)

  abbrev Reached : RecycleTurn → Type 0
  Reached t = (x : ℕ) × (Stepped (recycle_step c) false l seat x p1 q × Made p1.setup.pool (recycle_step c) false (view_at p1 seat) (Some (open_of p1)) x (view_at q seat1) (Some (open_of q)) × (seat1 ≡ seat)) × Went p1.setup.pool c x (view_at q seat1) n t

  abbrev Unmade : Type 0
  Unmade = ((a : Act) × Refused a seat p1 q) × (n ≡ c)

  reached : (t : RecycleTurn) → Reached t → (x : ℕ) × IsMade c n l p p0 q ready small kept holds x × Went p0.setup.pool c x (view_at q 1) n t
  reached t a = (a.0, made_so a.0 a.1.0 a.1.1 a.1.2, went_so t a.0 a.1.2 a.2)

  went : (t : RecycleTurn) {A B : Type 0} → OnReached t A → OnUnreached t B → (A → Reached t) → (B → Unmade) → Recycles t n q
  went More a b f g = goes c n l p p0 q ready small kept holds More (reached More (f a)) tt
  went Unlinked a b f g = goes c n l p p0 q ready small kept holds Unlinked (reached Unlinked (f a)) tt
  went (Recycled old root) a b f g = goes c n l p p0 q ready small kept holds (Recycled old root) (reached (Recycled old root) (f a)) tt
  went Unreached a b f g = let u = g b in goes c n l p p0 q ready small kept holds Unreached tt ((u.0.0, refused_so u.0.0 u.0.1), u.1)

  pub recycles : (t : RecycleTurn) {A B : Type 0} → OnReached t A → OnUnreached t B → (A → Reached t) → (B → Unmade) → Recycles t n q1
  recycles t a b f g = subst (λ (z : Plain). Recycles t n z) back (went t a b f g)
