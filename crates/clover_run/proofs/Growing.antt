-- A step of the server leaves the bindings as they are, or one more behind them.
use Rattle.std.proofs.Common.{◌≡◌, ℕ, List, [], ◌∷◌, ◌++◌, Bool, true, false, refl, sym, ap, ◌∙◌, append-nil}
use Rattle.std.specs.Prelude.{Option, Some, None}
use Rattle.clover_words.specs.Tag.{TagParts}
use Rattle.clover_map.specs.declared.call.Call.{Call}
use Rattle.clover_map.specs.declared.call.Call.TheVariants.{Get, Put, Delete, Swap}
use Rattle.clover_dir.specs.Directory.{with_binding}
use Rattle.clover_dir.specs.Task.{UnderWay}
use Rattle.clover_dir.specs.declared.stage.Stage.{Stage}
use Rattle.clover_dir.specs.declared.stage.Stage.TheVariants.{Tombstone, FlushedTombstone, Key, FlushedKey, Root, FlushedRoot, Count, Over}
use Rattle.clover_recycle.specs.Recycling.{answer_to}
use Rattle.clover_recycle.specs.declared.turn.RecycleTurn.{RecycleTurn}
use Rattle.clover_recycle.specs.declared.turn.RecycleTurn.TheVariants.{More as MoreOf, Unlinked as UnlinkedOf, Recycled as RecycledOf, Unreached as UnreachedOf}
use Rattle.clover_rule.specs.Lists.{IsPrefix}
use Rattle.clover_rule.specs.Steps.{Step}
use Rattle.clover_server.specs.Going.{at_last, bind_outcome, recycle_outcome, refused, taken_in, went, work_on, answer_of}
use Rattle.clover_server.specs.Server.{ServerState}
use Rattle.clover_server.specs.Steps.{Due, Finishes, Sweeps, Recycles, Binds as BindsFor, Answers, Begins, FinishStep, RecycleStep, WantStep, recycle_due, all_swept, ended, ended_if, named_due, stock_due, swept, swept_on, want_after}
use Rattle.clover_server.specs.declared.turn.ServerTurn.{ServerTurn}
use Rattle.clover_server.specs.declared.turn.ServerTurn.TheVariants.{More, Ready, Unlinked, Recycled, Full, NoSlot, Unreached}
use Rattle.clover_server.specs.declared.work.Unfinished.{Unfinished}
use Rattle.clover_server.specs.declared.work.Work.{Work}
use Rattle.clover_server.specs.declared.work.Work.TheVariants.{Binding, Recycling}
use Rattle.clover_server.proofs.Repeating.{access_leaves}
use Rattle.clover_run.specs.Cleaning.{Cleans}
use Rattle.clover_run.specs.Serving.{Binds, Clears, Serves, Telling}
use Rattle.clover_run.specs.declared.want.Want.{Want}
use Rattle.clover_run.specs.declared.want.Want.TheVariants.{Nothing, Stock, Names}

-- the second server's bindings begin with the first one's
abbrev pub Grows : ServerState → ServerState → Type 0
Grows s n = IsPrefix s.directory.list n.directory.list

-- a list begins with itself
pub grows_same : (s n : ServerState) → n.directory.list ≡ s.directory.list → Grows s n
grows_same s n e = ([], e ∙ sym (append-nil s.directory.list))

-- the access of a binding, and of a recycling
bind_grows : (s : ServerState) (t : Option Unfinished) (own : TagParts) (c : UnderWay) (at : Stage) → IsPrefix s.directory.list (taken_in (record s { directory = at_last at (with_binding s.directory c.slot c.key c.own) s.directory; task = t }) (bind_outcome own at)).directory.list
bind_grows s t own c Tombstone = grows_same s s refl
bind_grows s t own c FlushedTombstone = grows_same s s refl
bind_grows s t own c (Key j) = grows_same s s refl
bind_grows s t own c (FlushedKey j) = grows_same s s refl
bind_grows s t own c Root = grows_same s s refl
bind_grows s t own c FlushedRoot = grows_same s s refl
bind_grows s t own c Count = ((c.slot, c.key) ∷ [], refl)
bind_grows s t own c Over = grows_same s s refl

recycle_grows : (s : ServerState) (slot : ℕ) (t : RecycleTurn) → (taken_in s (recycle_outcome slot t)).directory.list ≡ s.directory.list
recycle_grows s slot MoreOf = refl
recycle_grows s slot UnlinkedOf = refl
recycle_grows s slot (RecycledOf old root) = refl
recycle_grows s slot UnreachedOf = refl

went_by : (s : ServerState) (x : ℕ) (t : Option Unfinished) → Grows s (went (record s { task = t }) x)
went_by s x None = grows_same s s refl
went_by s x (Some u) = by u.work
  where
    by : (w : Work) → Grows s (went (record s { task = Some (record { work = w; left = u.left }) }) x)
    by (Binding own c) = bind_grows s (Some (record { work = work_on (Binding own c) x; left = u.left })) own c c.stage
    by (Recycling slot c) = grows_same s (went (record s { task = Some (record { work = Recycling slot c; left = u.left }) }) x) (recycle_grows (record s { task = Some (record { work = work_on (Recycling slot c) x; left = u.left }) }) slot (answer_to c x))

pub went_grows : (s : ServerState) (x : ℕ) → Grows s (went s x)
went_grows s x = went_by s x s.task

-- what is begun leaves them
begins_same : (s b : ServerState) (due : Due) → Begins s due b → b.directory.list ≡ s.directory.list
begins_same s b Finishes h = ap (λ (z : ServerState). z.directory.list) h
begins_same s b (Sweeps slot) h = ap (λ (z : ServerState). z.directory.list) h.2
begins_same s b (Recycles slot) h = ap (λ (z : ServerState). z.directory.list) h.2
begins_same s b (BindsFor slot key) h = ap (λ (z : ServerState). z.directory.list) h.2
begins_same s b (Answers turn) h = absurd h

-- and so does what a want makes of the sweep
swept_same : (m : ServerState) (t : ServerTurn) → (swept m t).directory.list ≡ m.directory.list
swept_same m More = refl
swept_same m Ready = refl
swept_same m Unlinked = by (all_swept (swept_on m))
  where
    by : (full : Bool) → (ended_if full (swept_on m)).directory.list ≡ m.directory.list
    by true = refl
    by false = refl
swept_same m (Recycled old) = refl
swept_same m (Full bound worn out) = refl
swept_same m NoSlot = refl
swept_same m Unreached = refl

after_same : (due : Due) (m : ServerState) (t : ServerTurn) → (want_after due m t).directory.list ≡ m.directory.list
after_same Finishes m t = refl
after_same (Sweeps slot) m t = swept_same m t
after_same (Recycles slot) m t = refl
after_same (BindsFor slot key) m t = refl
after_same (Answers turn) m t = refl

module _ (s n : ServerState) (r : ServerTurn) (made : Step → ℕ → Type 0) (failed still : Type 0) where
  -- an access that was made, from the server that had begun what was due
  grows_made : (due : Due) (b : ServerState) (x : ℕ) → Begins s due b → n ≡ want_after due (went b x) (answer_of b x) → Grows s n
  grows_made due b x begins e =
      let g = went_grows b x in
      (g.0, ap (λ (z : ServerState). z.directory.list) e ∙ after_same due (went b x) (answer_of b x) ∙ g.1 ∙ ap (λ (l : List (ℕ × List ℕ)). l ++ g.0) (begins_same s b due begins))

  grows_refused : (due : Due) (b : ServerState) → Begins s due b → n ≡ ended (refused b) → Grows s n
  grows_refused due b begins e = grows_same s n (ap (λ (z : ServerState). z.directory.list) e ∙ begins_same s b due begins)

  -- a step of a want, and one that finishes a task
  pub want_grows : (due : Due) → WantStep due s n r made failed still → Grows s n
  want_grows (Answers turn) t = grows_same s n (ap (λ (z : ServerState). z.directory.list) t.2)
  want_grows Finishes t = access_leaves r _ _ t.2 (λ x m. grows_made Finishes t.0 x t.1 m.1) (λ m. grows_refused Finishes t.0 t.1 m.1)
  want_grows (Sweeps slot) t = access_leaves r _ _ t.2 (λ x m. grows_made (Sweeps slot) t.0 x t.1 m.1) (λ m. grows_refused (Sweeps slot) t.0 t.1 m.1)
  want_grows (Recycles slot) t = access_leaves r _ _ t.2 (λ x m. grows_made (Recycles slot) t.0 x t.1 m.1) (λ m. grows_refused (Recycles slot) t.0 t.1 m.1)
  want_grows (BindsFor slot key) t = access_leaves r _ _ t.2 (λ x m. grows_made (BindsFor slot key) t.0 x t.1 m.1) (λ m. grows_refused (BindsFor slot key) t.0 t.1 m.1)

  pub finish_grows : FinishStep s n r made failed → Grows s n
  finish_grows t = access_leaves r _ _ t
      (λ x m. let g = went_grows s x in (g.0, ap (λ (z : ServerState). z.directory.list) m.1 ∙ g.1))
      (λ m. grows_same s n (ap (λ (z : ServerState). z.directory.list) m.1))

  -- and one of a recycling
  pub recycling_grows : (due : Due) → RecycleStep due s n r made failed → Grows s n
  recycling_grows due t = access_leaves r _ _ t.2
      (λ x m. let g = went_grows t.0 x in (g.0, ap (λ (z : ServerState). z.directory.list) m.1 ∙ g.1 ∙ ap (λ (l : List (ℕ × List ℕ)). l ++ g.0) (begins_same s t.0 due t.1)))
      (λ m. grows_same s n (ap (λ (z : ServerState). z.directory.list) m.1 ∙ begins_same s t.0 due t.1))

-- a step of the server for a call
module _ (s n : ServerState) (r : ServerTurn) (t : Telling) where
  binds_grows : (u : Option Unfinished) (key : List ℕ) → Binds u key s n r t → Grows s n
  binds_grows None key h = want_grows s n r t.made t.failed t.still (named_due s key h.0 h.1) h.4
  binds_grows (Some u) key h = want_grows s n r t.made t.failed t.still Finishes h

  clears_grows : (u : Option Unfinished) → Clears u s n r t → Grows s n
  clears_grows None h = grows_same s n (ap (λ (z : ServerState). z.directory.list) h.1)
  clears_grows (Some u) h = finish_grows s n r t.made t.failed t.still h

  pub serves_grows : (want : Want) (call : Call) → Serves want call s n r t → Grows s n
  serves_grows Nothing call h = absurd h
  serves_grows Stock call h = want_grows s n r t.made t.failed t.still (stock_due s) h
  serves_grows Names (Put key value) h = binds_grows s.task key h
  serves_grows Names (Get key) h = clears_grows s.task h
  serves_grows Names (Delete key) h = clears_grows s.task h
  serves_grows Names (Swap key expected value) h = clears_grows s.task h

  -- and one for the recycler
  pub cleans_grows : (slot : Option ℕ) → Cleans slot s n r t → Grows s n
  cleans_grows (Some slot) h = recycling_grows s n r t.made t.failed t.still (recycle_due s slot) h
  cleans_grows None h = finish_grows s n r t.made t.failed t.still h
