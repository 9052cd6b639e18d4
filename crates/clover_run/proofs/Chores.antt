-- What the recycler's events without an access come to: a begin of its task, and that its next access is to be refused.
use Rattle.std.proofs.Common.{◌≡◌, ℕ, List, [], ◌∷◌, ◌++◌, true, refl, sym, ap, ◌∙◌, subst, arith, append-nil, inr}
use Rattle.std.specs.Prelude.{Option, Some, None}
use Rattle.clover_words.specs.Tag.{TagParts}
use Rattle.clover_words.specs.declared.setup.Setup.{Setup}
use Rattle.clover_script.specs.declared.line.Task.{Task}
use Rattle.clover_dir.specs.Directory.{root_of}
use Rattle.clover_rule.specs.Lists.{IsPrefix, Within}
use Rattle.clover_plain.specs.Plain.{Plain}
use Rattle.clover_server.specs.Server.{ServerState}
use Rattle.clover_event.specs.Alone.{HasChain}
use Rattle.clover_event.specs.Folds.{actor_of}
use Rattle.clover_event.specs.declared.event.Event.{Event}
use Rattle.clover_event.specs.declared.event.Event.TheVariants.{Begin, Refuse}
use Rattle.clover_run.specs.Alone.{AllFound}
use Rattle.clover_run.specs.Folds.{Doing, begun, does, doing, served_after}
use Rattle.clover_run.specs.Machine.{Parts, IsAt, IsTaskOfActor, IsTold, Happens}
use Rattle.clover_run.specs.Record.{Record}
use Rattle.clover_run.specs.Recycling.{BeginsChore, IsOnBound, IsRecyclerAt, chore_behind, chore_note, chore_task, task_for}
use Rattle.clover_run.specs.Run.{Opening, Follows, begin_note, begin_served, cleared, if_bound, unless_busy}
use Rattle.clover_run.specs.Working.{HasServer}
use Rattle.clover_run.specs.declared.event.Note.{Note}
use Rattle.clover_run.specs.declared.event.Note.TheVariants.{Quiet}
use Rattle.clover_run.specs.declared.recycler.Chore.{Chore}
use Rattle.clover_run.specs.declared.recycler.Chore.TheVariants.{OfSlot, OfAll}
use Rattle.clover_run.specs.declared.recycler.Recycler.{Recycler}
use Rattle.clover_run.specs.declared.served.Served.{Served}
use Rattle.clover_run.proofs.BehindRecycler.{with_recycler, recycler_behind, recycler_told}
use Rattle.clover_run.proofs.CleaningTells.{AnswersNone}
use Rattle.clover_run.proofs.Finding.{found_more}
use Rattle.clover_run.proofs.NoAccess.{still, still_moved}
use Rattle.clover_run.proofs.Pasts.{served_more, words_more}
use Rattle.clover_run.proofs.ServedAlone.{IsServers, still_servers}

-- an event of the recycler without an access, which leaves the server itself
module _ (o : Opening) (m : Parts) (rs : List Record) (at : IsAt o m rs) (e : Event) (actor : actor_of e ≡ 0) (note : Note) (none : AnswersNone note) (y : Recycler) (w : Served) (same : w.server ≡ m.served.server) where
  abbrev r : Record
  r = still w e note

  abbrev new : List Record
  new = rs ++ r ∷ []

  no_access : IsServers None
  no_access = still_servers None refl

  -- no slot's chain changes
  found : AllFound o new
  found = found_more o rs r at.found (λ slot key named.
      subst (λ (ws : List ℕ). HasChain o.setup.pool ws slot) (sym (words_more o.setup.pool o.words rs r))
      (at.found rs [] slot key (sym (append-nil rs)) (subst (λ (s : ServerState). Within (slot, key) s.directory.list) (ap (λ (v : Served). v.server) (served_more o.served rs r) ∙ same ∙ ap (λ (v : Served). v.server) at.served) named)))

  grows : IsPrefix m.served.server.directory.list w.server.directory.list
  grows = ([], ap (λ (s : ServerState). s.directory.list) same ∙ sym (append-nil m.served.server.directory.list))

  pub chore_behind_at : Follows o rs r → IsRecyclerAt m.pool w y (does (doing 0 rs) r e) → IsAt o (with_recycler m y w m.pool) new
  chore_behind_at follows recycler = recycler_behind o m rs at e actor None no_access note none y w m.pool (still_moved m.pool at.pool.entered) (λ j apart. refl) recycler follows
      (subst (HasServer m.pool) (sym same) at.server) grows found (inr (refl, same))

  pub chore_told : IsTold (with_recycler m y w m.pool) r
  chore_told = recycler_told o m rs at e actor None no_access note none y w m.pool

-- what begins, behind a note
record BegunChore (p : Plain) (v : Served) (x : Recycler) (d : Doing) (chore : Chore) (note : Note) : Type 0 where
  pub none : AnswersNone note
  pub same : (cleared v note).server ≡ v.server
  pub recycler : IsRecyclerAt p (cleared v note) (record x { chore = chore_behind note chore x.chore }) (begun d (task_for chore) note)

begun_chore : (p : Plain) (v : Served) (x : Recycler) (d : Doing) (chore : Chore) (k : Option Chore) → IsRecyclerAt p v x d
    → IsOnBound (chore_behind (unless_busy (chore_task k) 0 (chore_note chore v)) chore x.chore) (cleared v (unless_busy (chore_task k) 0 (chore_note chore v))) → BegunChore p v x d chore (unless_busy (chore_task k) 0 (chore_note chore v))
begun_chore p v x d chore (Some c) at bound = record {
  none = tt;
  same = refl;
  recycler = record { task = at.task; refusing = at.refusing; bound = at.bound; read = at.read; done = at.done };
}
begun_chore p v x d OfAll None at bound = record {
  none = tt;
  same = refl;
  recycler = record { task = refl; refusing = at.refusing; bound = tt; read = omega arith; done = omega arith };
}
begun_chore p v x d (OfSlot slot) None at bound = by (root_of v.server.directory slot) bound
  where
    by : (root : Option TagParts) → IsOnBound (chore_behind (if_bound root) (OfSlot slot) x.chore) (cleared v (if_bound root)) → BegunChore p v x d (OfSlot slot) (if_bound root)
    by None on = record {
      none = tt;
      same = refl;
      recycler = record { task = at.task; refusing = at.refusing; bound = at.bound; read = at.read; done = at.done };
    }
    by (Some root) on = record {
      none = tt;
      same = refl;
      recycler = record { task = refl; refusing = at.refusing; bound = on; read = omega arith; done = omega arith };
    }

note_for : (s : Setup) (v : Served) (d : Doing) (chore : Chore) → unless_busy d.task 0 (chore_note chore v) ≡ begin_note s v d 0 (task_for chore)
note_for s v d (OfSlot slot) = refl
note_for s v d OfAll = refl

served_for : (v : Served) (note : Note) (chore : Chore) → cleared v note ≡ begin_served (task_for chore) note v
served_for v note (OfSlot slot) = refl
served_for v note OfAll = refl

-- the recycler is asked for a chore
module _ (o : Opening) (m : Parts) (rs : List Record) (at : IsAt o m rs) (chore : Chore) (y : Recycler) (w : Served) (note : Note) (begins : BeginsChore chore m.recycler y m.served w note) where
  abbrev x : Recycler
  x = m.recycler

  -- what it is on is bound
  on_bound : IsOnBound (chore_behind note chore x.chore) (cleared m.served note)
  on_bound = subst (IsOnBound (chore_behind note chore x.chore)) begins.1 (subst (λ (z : Recycler). IsOnBound z.chore w) begins.2 (begins.3 at.recycler.bound))

  has_begun : BegunChore m.pool m.served x (doing 0 rs) chore note
  has_begun = subst (BegunChore m.pool m.served x (doing 0 rs) chore) (sym begins.0)
      (begun_chore m.pool m.served x (doing 0 rs) chore x.chore at.recycler (subst (λ (n : Note). IsOnBound (chore_behind n chore x.chore) (cleared m.served n)) begins.0 on_bound))

  recycler : IsRecyclerAt m.pool w y (begun (doing 0 rs) (task_for chore) note)
  recycler = subst (λ (z : Recycler). IsRecyclerAt m.pool w z (begun (doing 0 rs) (task_for chore) note)) (sym begins.2)
      (subst (λ (v : Served). IsRecyclerAt m.pool v (record m.recycler { chore = chore_behind note chore m.recycler.chore }) (begun (doing 0 rs) (task_for chore) note)) (sym begins.1) has_begun.recycler)

  same : w.server ≡ m.served.server
  same = ap (λ (v : Served). v.server) begins.1 ∙ has_begun.same

  told : note ≡ begin_note o.setup (served_after o.served rs) (doing 0 rs) 0 (task_for chore)
  told = begins.0
      ∙ ap (λ (t : Option Task). unless_busy t 0 (chore_note chore m.served)) (sym at.recycler.task)
      ∙ ap (λ (v : Served). unless_busy (doing 0 rs).task 0 (chore_note chore v)) at.served
      ∙ note_for o.setup (served_after o.served rs) (doing 0 rs) chore

  follows : Follows o rs (still w (Begin 0 (task_for chore)) note)
  follows = record {
    access = refl;
    entry = refl;
    note_is = told;
    served = begins.1 ∙ ap (λ (v : Served). cleared v note) at.served ∙ served_for (served_after o.served rs) note chore;
  }

  pub chore_begun : IsAt o (with_recycler m y w m.pool) (rs ++ still w (Begin 0 (task_for chore)) note ∷ [])
  chore_begun = chore_behind_at o m rs at (Begin 0 (task_for chore)) refl note has_begun.none y w same follows recycler

  pub begun_told : IsTold (with_recycler m y w m.pool) (still w (Begin 0 (task_for chore)) note)
  begun_told = chore_told o m rs at (Begin 0 (task_for chore)) refl note has_begun.none y w same

chore_happens : (m : Parts) (chore : Chore) (y : Recycler) (w : Served) (note : Note) → BeginsChore chore m.recycler y m.served w note → Happens m (with_recycler m y w m.pool) (Begin 0 (task_for chore)) note
chore_happens m chore y w note begins o rs at = (_, refl, refl, chore_begun o m rs at chore y w note begins, begun_told o m rs at chore y w note begins)

-- the actor that is asked for a chore is the recycler
of_recycler : (a : ℕ) (chore : Chore) → IsTaskOfActor a (task_for chore) → a ≡ 0
of_recycler a (OfSlot slot) may = may
of_recycler a OfAll may = may

pub chore_comes : (m p : Parts) → m ≡ p → (a : ℕ) (t : Task) (chore : Chore) → t ≡ task_for chore → IsTaskOfActor a t → (y : Recycler) (w : Served) (note : Note) → BeginsChore chore m.recycler y m.served w note → Happens p (with_recycler m y w m.pool) (Begin a t) note
chore_comes m p same a t chore is may y w note begins =
    let zero : a ≡ 0 = of_recycler a chore (subst (IsTaskOfActor a) is may) in
    subst (λ (z : Parts). Happens z (with_recycler m y w m.pool) (Begin a t) note) same
    (subst (λ (e : Event). Happens m (with_recycler m y w m.pool) e note) (λ j. Begin (sym zero j) (sym is j)) (chore_happens m chore y w note begins))

-- its next access is to be refused
abbrev pub refusing_recycler : Parts → Parts
refusing_recycler m = with_recycler m (record m.recycler { refusing = true }) m.served m.pool

refusing_happens : (m : Parts) → Happens m (refusing_recycler m) (Refuse 0) Quiet
refusing_happens m o rs at =
    let y : Recycler = record m.recycler { refusing = true } in
    let was = at.recycler in (
      _,
      refl,
      refl,
      chore_behind_at o m rs at (Refuse 0) refl Quiet tt y m.served refl (record { access = refl; entry = refl; note_is = refl; served = at.served }) (record { task = was.task; refusing = refl; bound = was.bound; read = was.read; done = was.done }),
      chore_told o m rs at (Refuse 0) refl Quiet tt y m.served refl,
    )

pub refusing_comes : (m p : Parts) → m ≡ p → (a : ℕ) → a ≡ 0 → Happens p (refusing_recycler m) (Refuse a) Quiet
refusing_comes m p same a zero = subst (λ (z : Parts). Happens z (refusing_recycler m) (Refuse a) Quiet) same (subst (λ (b : ℕ). Happens m (refusing_recycler m) (Refuse b) Quiet) (sym zero) (refusing_happens m))
