-- What the server owes once its task's access was made or refused: the books are where the task's end asks them, the answer is that of the task, and the view and the server agree.
use Rattle.std.proofs.Common.{◌≡◌, ℕ, [], Bool, false, refl, sym, ap, ◌∙◌, subst}
use Rattle.std.specs.Prelude.{Option, Some, None}
use Rattle.clover_words.specs.declared.pool.Pool.{Pool}
use Rattle.clover_words.specs.declared.setup.Setup.{Setup}
use Rattle.clover_words.specs.Tag.{TagParts}
use Rattle.clover_port.specs.Told.{Open, Made}
use Rattle.clover_rule.specs.Memory.{link}
use Rattle.clover_rule.specs.Steps.{Step}
use Rattle.clover_rule.specs.Words.{next_of}
use Rattle.clover_rule.specs.declared.view.View.{View}
use Rattle.clover_alloc.specs.Ledger.{Ledger, IsLedger}
use Rattle.clover_dir.specs.Directory.{Bindings}
use Rattle.clover_dir.specs.Task.{UnderWay, bind_step, staged as bind_staged}
use Rattle.clover_dir.specs.declared.stage.Stage.{Stage as BindStage}
use Rattle.clover_dir.specs.declared.stage.Stage.TheVariants.{Tombstone, FlushedTombstone, Key, FlushedKey, Root, FlushedRoot, Count, Over as BindOver}
use Rattle.clover_recycle.specs.Recycling.{RecycleState, recycle_step, answer_to, looked, look_answer, staged}
use Rattle.clover_recycle.specs.declared.stage.Stage.{Stage}
use Rattle.clover_recycle.specs.declared.stage.Stage.TheVariants.{AtVersion, AtLink, AtRoot, AtFlushedRoot, AtPass, AtFree, Over}
use Rattle.clover_server.specs.Going.{work_step, work_on, directory_on, outcome_of, bind_outcome, recycle_outcome, OnMade, OnRefused, taken_in, turn_of, server_step, went, answer_of, refused}
use Rattle.clover_server.specs.Holding.{Agrees, WorkLeaves}
use Rattle.clover_server.specs.Server.{ServerState}
use Rattle.clover_server.specs.Steps.{OnAccess}
use Rattle.clover_server.specs.Told.{CanTake, AreTags}
use Rattle.clover_server.specs.declared.outcome.Outcome.{Outcome}
use Rattle.clover_server.specs.declared.outcome.Outcome.TheVariants.{Going, Unlinked, Recycled, Bound, Unreached}
use Rattle.clover_server.specs.declared.turn.ServerTurn.{ServerTurn}
use Rattle.clover_server.specs.declared.work.Work.{Work}
use Rattle.clover_server.specs.declared.work.Work.TheVariants.{Binding, Recycling}
use Rattle.clover_server.proofs.Binding.{bind_goes, bind_ends}
use Rattle.clover_server.proofs.Outcomes.{made_so, on_access, either_way}
use Rattle.clover_server.proofs.Recycling.{recycle_goes, recycle_stays, recycle_ends, next_line_out, root_line_still}

module _ (p : Pool) (setup : Setup) (books : Ledger) (d : Bindings) (sweep : Option ℕ) (left : Bool) where
  abbrev state : Work → Bindings → ServerState
  state work e = record { setup = setup; books = books; directory = e; task = Some (record { work = work; left = left }); sweep = sweep }

  abbrev behind : Work → ℕ → ServerState
  behind work x = state (work_on work x) (directory_on d work)

  module _ (v : View) (o : Option Open) (x : ℕ) (w : View) (o1 : Option Open) where
    -- the books are where the task's end asks them
    bind_takes : (own : TagParts) (c : UnderWay) (at : BindStage) → Agrees p [] (state (Binding own (bind_staged c at)) d) v → CanTake (behind (Binding own (bind_staged c at)) x) (bind_outcome own at)
    bind_takes own c Tombstone a = tt
    bind_takes own c FlushedTombstone a = tt
    bind_takes own c (Key j) a = tt
    bind_takes own c (FlushedKey j) a = tt
    bind_takes own c Root a = tt
    bind_takes own c FlushedRoot a = tt
    bind_takes own c Count a = a.held.1
    bind_takes own c BindOver a = tt

    look_takes : (s : ServerState) (slot : ℕ) (l : Option ℕ) → CanTake s (recycle_outcome slot (look_answer l))
    look_takes s slot None = tt
    look_takes s slot (Some t) = tt

    recycle_takes : (slot : ℕ) (c : RecycleState) (at : Stage) → Agrees p [] (state (Recycling slot (staged c at)) d) v → Made p (recycle_step (staged c at)) false v o x w o1 → AreTags (recycle_outcome slot (answer_to (staged c at) x)) → CanTake (behind (Recycling slot (staged c at)) x) (recycle_outcome slot (answer_to (staged c at) x))
    recycle_takes slot c AtVersion a m t = look_takes (behind (Recycling slot (staged c AtVersion)) x) slot (link (next_of x))
    recycle_takes slot c (AtLink u) a m t = tt
    recycle_takes slot c (AtRoot u) a m t = tt
    recycle_takes slot c (AtFlushedRoot u) a m t = tt
    recycle_takes slot c (AtPass u) a m t = tt
    recycle_takes slot c (AtFree u) a m t = (next_line_out p setup books d sweep left slot c v o x w o1 u a m t.0 t.1, root_line_still p setup books d sweep left slot c v o x w o1 u a m t.0 t.1, a.task.3)
    recycle_takes slot c Over a m t = tt

    pub can_take : (work : Work) → Agrees p [] (state work d) v → Made p (work_step d work) false v o x w o1 → AreTags (outcome_of work x) → CanTake (behind work x) (outcome_of work x)
    can_take (Binding own c) a m t = bind_takes own c c.stage a
    can_take (Recycling slot c) a m t = recycle_takes slot c c.stage a m t

    -- the view and the server agree
    abbrev Agree : Work → Type 0
    Agree work = WorkLeaves p (directory_on d work) w (work_on work x) (outcome_of work x) → IsLedger (taken_in (behind work x) (outcome_of work x)).books → Agrees p [] (taken_in (behind work x) (outcome_of work x)) w

    bind_agrees : (own : TagParts) (c : UnderWay) (at : BindStage) → Agrees p [] (state (Binding own (bind_staged c at)) d) v → Made p (bind_step (bind_staged c at) d) false v o x w o1 → Agree (Binding own (bind_staged c at))
    bind_agrees own c Tombstone a m l k = bind_goes p setup books d sweep left own c v o x w o1 Tombstone (λ e. absurd cc) a m l
    bind_agrees own c FlushedTombstone a m l k = bind_goes p setup books d sweep left own c v o x w o1 FlushedTombstone (λ e. absurd cc) a m l
    bind_agrees own c (Key j) a m l k = bind_goes p setup books d sweep left own c v o x w o1 (Key j) (λ e. absurd cc) a m l
    bind_agrees own c (FlushedKey j) a m l k = bind_goes p setup books d sweep left own c v o x w o1 (FlushedKey j) (λ e. absurd cc) a m l
    bind_agrees own c Root a m l k = bind_goes p setup books d sweep left own c v o x w o1 Root (λ e. absurd cc) a m l
    bind_agrees own c FlushedRoot a m l k = bind_goes p setup books d sweep left own c v o x w o1 FlushedRoot (λ e. absurd cc) a m l
    bind_agrees own c Count a m l k = bind_ends p setup books d sweep left own c v o x w o1 a m l.0 l.1 k
    bind_agrees own c BindOver a m l k = absurd (a.task.1 refl)

    look_agrees : (slot : ℕ) (c : RecycleState) (r : Option ℕ) → Agrees p [] (state (Recycling slot (staged c AtVersion)) d) v → Made p (recycle_step (staged c AtVersion)) false v o x w o1
        → WorkLeaves p d w (Recycling slot (looked (staged c AtVersion) r)) (recycle_outcome slot (look_answer r)) → Agrees p [] (taken_in (state (Recycling slot (looked (staged c AtVersion) r)) d) (recycle_outcome slot (look_answer r))) w
    look_agrees slot c None a m l = recycle_stays p setup books d sweep left slot c v o x w o1 AtVersion a (λ t e. absurd cc) m l
    look_agrees slot c (Some t) a m l = recycle_goes p setup books d sweep left slot c v o x w o1 AtVersion (looked (staged c AtVersion) (Some t)) a (λ t e. absurd cc) m l

    recycle_agrees : (slot : ℕ) (c : RecycleState) (at : Stage) → Agrees p [] (state (Recycling slot (staged c at)) d) v → Made p (recycle_step (staged c at)) false v o x w o1 → AreTags (recycle_outcome slot (answer_to (staged c at) x)) → Agree (Recycling slot (staged c at))
    recycle_agrees slot c AtVersion a m t l k = look_agrees slot c (link (next_of x)) a m l
    recycle_agrees slot c (AtLink u) a m t l k = recycle_goes p setup books d sweep left slot c v o x w o1 (AtLink u) (staged c (AtRoot u)) a (λ t e. absurd cc) m l
    recycle_agrees slot c (AtRoot u) a m t l k = recycle_goes p setup books d sweep left slot c v o x w o1 (AtRoot u) (staged c (AtFlushedRoot u)) a (λ t e. absurd cc) m l
    recycle_agrees slot c (AtFlushedRoot u) a m t l k = recycle_goes p setup books d sweep left slot c v o x w o1 (AtFlushedRoot u) (staged c (AtPass u)) a (λ t e. absurd cc) m l
    recycle_agrees slot c (AtPass u) a m t l k = recycle_goes p setup books d sweep left slot c v o x w o1 (AtPass u) (staged c (AtFree u)) a (λ t e. absurd cc) m l
    recycle_agrees slot c (AtFree u) a m t l k = recycle_ends p setup books d sweep left slot c v o x w o1 u a m t.0 t.1 l k
    recycle_agrees slot c Over a m t l k = absurd a.task.0.stands

    pub agrees_on : (work : Work) → Agrees p [] (state work d) v → Made p (work_step d work) false v o x w o1 → AreTags (outcome_of work x) → Agree work
    agrees_on (Binding own c) a m t = bind_agrees own c c.stage a m
    agrees_on (Recycling slot c) a m t = recycle_agrees slot c c.stage a m t

  -- the same of what an access came to
  module _ (work : Work) (made : Step → ℕ → Type 0) (failed : Type 0) (r : Outcome) (n : Work) (e : Bindings) where
    abbrev Went : Type 0
    Went = (x : ℕ) × made (work_step d work) x × (r ≡ outcome_of work x) × (n ≡ work_on work x) × (e ≡ directory_on d work)

    abbrev Stayed : Type 0
    Stayed = failed × (n ≡ work) × (e ≡ d)

    pub answers : OnMade r Went → OnRefused r Stayed → (turn : ServerTurn) (new : ServerState) → new ≡ taken_in (state n e) r → turn ≡ turn_of r
        → OnAccess turn (λ x. made (server_step (state work d)) x × (new ≡ went (state work d) x) × (turn ≡ answer_of (state work d) x)) (failed × (new ≡ refused (state work d)))
    answers om or turn new en et = subst (λ (t : ServerTurn). OnAccess t (λ x. made (server_step (state work d)) x × (new ≡ went (state work d) x) × (turn ≡ answer_of (state work d) x)) (failed × (new ≡ refused (state work d)))) (sym et)
        (on_access r (λ x. made (server_step (state work d)) x × (new ≡ went (state work d) x) × (turn ≡ answer_of (state work d) x)) (failed × (new ≡ refused (state work d)))
        (made_so r (λ q. (q.0, (q.1, en ∙ (λ i. taken_in (state (q.3 i) (q.4 i)) (q.2 i)), et ∙ ap turn_of q.2))) om)
        (by r refl or))
      where
        by : (s : Outcome) → r ≡ s → OnRefused s Stayed → OnRefused s (failed × (new ≡ refused (state work d)))
        by Going q b = tt
        by Unlinked q b = tt
        by (Recycled slot old root) q b = tt
        by (Bound own) q b = tt
        by Unreached q b = (b.0, en ∙ (λ i. taken_in (state (b.1 i) (b.2 i)) (q i)))

    module _ (v : View) (o : Option Open) (w : View) (o1 : Option Open) (tells : (a : Step) (x : ℕ) → made a x → Made p a false v o x w o1) (stays : failed → w ≡ v) (a : Agrees p [] (state work d) v) where
      pub takes : OnMade r Went → AreTags r → CanTake (state n e) r
      takes om t = by r refl om t
        where
          main : Went → AreTags r → CanTake (state n e) r
          main q t = subst (λ (z : Work). CanTake (state z e) r) (sym q.3) (subst (λ (z : Bindings). CanTake (state (work_on work q.0) z) r) (sym q.4) (subst (CanTake (behind work q.0)) (sym q.2) (can_take v o q.0 w o1 work a (tells (work_step d work) q.0 q.1) (subst AreTags q.2 t))))

          by : (s : Outcome) → r ≡ s → OnMade s Went → AreTags r → CanTake (state n e) r
          by Going q om t = main om t
          by Unlinked q om t = main om t
          by (Recycled slot old root) q om t = main om t
          by (Bound own) q om t = main om t
          by Unreached q om t = subst (CanTake (state n e)) (sym q) tt

      pub agree : OnMade r Went → OnRefused r Stayed → AreTags r → WorkLeaves p e w n r → (new : ServerState) → new ≡ taken_in (state n e) r → (IsLedger books → IsLedger new.books) → Agrees p [] new w
      agree om or t l new en whole = either_way r main left_so om or
        where
          main : Went → Agrees p [] new w
          main q =
              let all : new ≡ taken_in (behind work q.0) (outcome_of work q.0) = en ∙ (λ i. taken_in (state (q.3 i) (q.4 i)) (q.2 i)) in
              subst (λ (z : ServerState). Agrees p [] z w) (sym all)
              (agrees_on v o q.0 w o1 work a (tells (work_step d work) q.0 q.1) (subst AreTags q.2 t)
              (subst (λ (z : Outcome). WorkLeaves p (directory_on d work) w (work_on work q.0) z) q.2 (subst (λ (z : Work). WorkLeaves p (directory_on d work) w z r) q.3 (subst (λ (z : Bindings). WorkLeaves p z w n r) q.4 l)))
              (subst (λ (z : ServerState). IsLedger z.books) all (whole a.books.whole)))

          left_so : r ≡ Unreached → Stayed → Agrees p [] new w
          left_so q b =
              subst (λ (z : View). Agrees p [] new z) (sym (stays b.0))
              (subst (λ (z : ServerState). Agrees p [] z v) (sym (en ∙ (λ i. taken_in (state (b.1 i) (b.2 i)) (q i))))
              (record { pool = a.pool; task = a.task; directory = a.directory; ranged = a.ranged; books = a.books; held = a.held; sweep = a.sweep }))
