-- A recycling that finds nothing unfinished, step by step up to its end.
use Rattle.std.proofs.Common.{◌≡◌, ℕ, [], ◌∷◌, ◌++◌, ◌⊎◌, inl, inr, List, Bool, true, false, refl, sym, ap, subst}
use Rattle.std.specs.Prelude.{Option, Some, None, Result, Ok, Err, IfOk}
use Rattle.clover_words.specs.declared.pool.Pool.{Pool}
use Rattle.clover_words.specs.Tag.{TagParts}
use Rattle.clover_dir.specs.Directory.{Bindings, IsBound, root_of, with_binding, with_root}
use Rattle.clover_dir.specs.declared.stage.Stage.{Stage as BindStage}
use Rattle.clover_dir.specs.declared.stage.Stage.TheVariants.{Tombstone, FlushedTombstone, Key, FlushedKey, Root, FlushedRoot, Count, Over as BindOver}
use Rattle.clover_port.specs.Told.{Open, Made}
use Rattle.clover_recycle.specs.Recycling.{made_task, staged, tag_of, looked, look_answer}
use Rattle.clover_recycle.specs.declared.stage.Stage.{Stage}
use Rattle.clover_recycle.specs.declared.stage.Stage.TheVariants.{AtVersion, AtLink, AtRoot, AtFlushedRoot, AtPass, AtFree, Over}
use Rattle.clover_rule.specs.Lists.{Within}
use Rattle.clover_rule.specs.Memory.{link}
use Rattle.clover_rule.specs.Steps.{Step}
use Rattle.clover_rule.specs.Words.{next_of}
use Rattle.clover_rule.specs.declared.view.View.{View}
use Rattle.clover_server.specs.Going.{server_step, went, answer_of, refused, recycle_outcome, taken_in, turn_of, at_last, directory_on, books_moved}
use Rattle.clover_server.specs.Server.{ServerState}
use Rattle.clover_server.specs.Steps.{Finishes, Recycles, RecycleStep, OnAccess, or_finish, recycle_due, begun}
use Rattle.clover_server.specs.Told.{EndsTask}
use Rattle.clover_server.specs.Whole.{IsRecycleTurn, WasRecycled, WasUnlinked}
use Rattle.clover_server.specs.declared.outcome.Outcome.{Outcome}
use Rattle.clover_server.specs.declared.outcome.Outcome.TheVariants.{Going, Unlinked as WasRead, Recycled as WasMoved, Bound as WasBound, Unreached as WasRefused}
use Rattle.clover_server.specs.declared.turn.ServerRefusal.{ServerRefusal}
use Rattle.clover_server.specs.declared.turn.ServerTurn.{ServerTurn}
use Rattle.clover_server.specs.declared.turn.ServerTurn.TheVariants.{More, Ready, Unlinked, Recycled, Full, NoSlot, Unreached}
use Rattle.clover_server.specs.declared.work.Unfinished.{Unfinished}
use Rattle.clover_server.specs.declared.work.Work.{Work}
use Rattle.clover_server.specs.declared.work.Work.TheVariants.{Binding, Recycling}
use Rattle.clover_server.proofs.Steps.{knows}

-- a slot that is bound stays so
more_within : (list rest : List (ℕ × List ℕ)) (q : ℕ × List ℕ) → Within q list → Within q (list ++ rest)
more_within [] rest q x' = elim x' [ ]
more_within (x ∷ list) rest q (inl e) = inl e
more_within (x ∷ list) rest q (inr h) = inr (more_within list rest q h)

still_bound : (slot : ℕ) (m : ServerState) (r : Outcome) → IsBound slot m.directory → IsBound slot (taken_in m r).directory
still_bound slot m Going b = b
still_bound slot m WasRead b = b
still_bound slot m (WasMoved s old root) b = b
still_bound slot m (WasBound own) b = b
still_bound slot m WasRefused b = b

bound_on : (slot : ℕ) (d : Bindings) (w : Work) → IsBound slot d → IsBound slot (directory_on d w)
bound_on slot d (Recycling s c) b = b
bound_on slot d (Binding own c) b = by c.stage
  where
    by : (at : BindStage) → IsBound slot (at_last at (with_binding d c.slot c.key c.own) d)
    by Tombstone = b
    by FlushedTombstone = b
    by (Key j) = b
    by (FlushedKey j) = b
    by Root = b
    by FlushedRoot = b
    by Count = (b.0, more_within d.list ((c.slot, c.key) ∷ []) (slot, b.0) b.1)
    by BindOver = b

went_bound : (slot : ℕ) (s : ServerState) (x : ℕ) → IsBound slot s.directory → IsBound slot (went s x).directory
went_bound slot s x b = by s.task refl
  where
    by : (t : Option Unfinished) → s.task ≡ t → IsBound slot (went s x).directory
    by None e = subst (λ (z : Option Unfinished). IsBound slot (went (record s { task = z }) x).directory) (sym e) b
    by (Some u) e = subst (λ (z : Option Unfinished). IsBound slot (went (record s { task = z }) x).directory) (sym e) (still_bound slot _ _ (bound_on slot s.directory u.work b))

module _ (s n : ServerState) (slot : ℕ) (r : ServerTurn) (made : Step → ℕ → Type 0) (failed : Type 0) where
  access_bound : (b : ServerState) (turn : ℕ → ServerTurn) (q : ServerTurn) → IsBound slot b.directory → OnAccess q (λ x. made (server_step b) x × (n ≡ went b x) × (r ≡ turn x)) (failed × (n ≡ refused b)) → IsBound slot n.directory
  access_bound b turn More i t = subst (λ (z : ServerState). IsBound slot z.directory) (sym t.1.1) (went_bound slot b t.0 i)
  access_bound b turn Ready i t = subst (λ (z : ServerState). IsBound slot z.directory) (sym t.1.1) (went_bound slot b t.0 i)
  access_bound b turn Unlinked i t = subst (λ (z : ServerState). IsBound slot z.directory) (sym t.1.1) (went_bound slot b t.0 i)
  access_bound b turn (Recycled old) i t = subst (λ (z : ServerState). IsBound slot z.directory) (sym t.1.1) (went_bound slot b t.0 i)
  access_bound b turn (Full bound worn out) i t = subst (λ (z : ServerState). IsBound slot z.directory) (sym t.1.1) (went_bound slot b t.0 i)
  access_bound b turn NoSlot i t = subst (λ (z : ServerState). IsBound slot z.directory) (sym t.1.1) (went_bound slot b t.0 i)
  access_bound b turn Unreached i t = subst (λ (z : ServerState). IsBound slot z.directory) (sym t.1) i

  pub recycle_bound : RecycleStep (recycle_due s slot) s n r made failed → IsBound slot s.directory → IsBound slot n.directory
  recycle_bound t i = by s.task refl t
    where
      by : (u : Option Unfinished) → s.task ≡ u → RecycleStep (or_finish u (Recycles slot)) s n r made failed → IsBound slot n.directory
      by None e w = access_bound w.0 _ r (subst (λ (z : ServerState). IsBound slot z.directory) (sym w.1.2) i) w.2
      by (Some u) e w = access_bound w.0 _ r (subst (λ (z : ServerState). IsBound slot z.directory) (sym w.1) i) w.2

-- a recycling of a server that has nothing else to finish
module _ (slot : ℕ) (s : ServerState) where
  abbrev own : TagParts → Stage → ServerState
  own root at = record s { task = begun (Recycling slot (staged (made_task slot root) at)) }

  pub record Under (m : ServerState) : Type 0 where
    pub root : TagParts
    pub at : Stage
    pub was : root_of s.directory slot ≡ Some root
    pub value : m ≡ own root at

  -- it has not begun, or is what the server has unfinished
  abbrev pub IsOwn : ServerState → Type 0
  IsOwn m = (m ≡ s) ⊎ Under m

  module _ (idle : s.task ≡ None) where
    goes : (root : TagParts) (was : root_of s.directory slot ≡ Some root) (at : Stage) (x : ℕ) → More ≡ answer_of (own root at) x → Under (went (own root at) x)
    goes root was AtVersion x e = by (link (next_of x)) e
      where
        by : (l : Option ℕ) → More ≡ turn_of (recycle_outcome slot (look_answer l)) → Under (taken_in (record s { task = begun (Recycling slot (looked (made_task slot root) l)) }) (recycle_outcome slot (look_answer l)))
        by None q = absurd (let z : More ≡ Unlinked = q in cc)
        by (Some t) q = record { root = root; at = AtLink (tag_of t); was = was; value = refl }
    goes root was (AtLink t) x e = record { root = root; at = AtRoot t; was = was; value = refl }
    goes root was (AtRoot t) x e = record { root = root; at = AtFlushedRoot t; was = was; value = refl }
    goes root was (AtFlushedRoot t) x e = record { root = root; at = AtPass t; was = was; value = refl }
    goes root was (AtPass t) x e = record { root = root; at = AtFree t; was = was; value = refl }
    goes root was (AtFree t) x e = absurd (let z : More ≡ Recycled root = e in cc)
    goes root was Over x e = record { root = root; at = Over; was = was; value = refl }

    ends : (root : TagParts) (was : root_of s.directory slot ≡ Some root) (at : Stage) (x : ℕ) (old : TagParts) → Recycled old ≡ answer_of (own root at) x → (p : Pool) (count : ℕ) (v : View) (o : Option Open) (w : View) (o1 : Option Open) → EndsTask p (own root at).task count v o w o1 → WasRecycled p slot s (went (own root at) x) o1
    ends root was AtVersion x old e p count v o w o1 t = by (link (next_of x)) e
      where
        by : (l : Option ℕ) → Recycled old ≡ turn_of (recycle_outcome slot (look_answer l)) → WasRecycled p slot s (went (own root AtVersion) x) o1
        by None q = absurd (let z : Recycled old ≡ Unlinked = q in cc)
        by (Some t) q = absurd (let z : Recycled old ≡ More = q in cc)
    ends root was (AtLink t) x old e p count v o w o1 h = absurd (let z : Recycled old ≡ More = e in cc)
    ends root was (AtRoot t) x old e p count v o w o1 h = absurd (let z : Recycled old ≡ More = e in cc)
    ends root was (AtFlushedRoot t) x old e p count v o w o1 h = absurd (let z : Recycled old ≡ More = e in cc)
    ends root was (AtPass t) x old e p count v o w o1 h = absurd (let z : Recycled old ≡ More = e in cc)
    ends root was (AtFree t) x old e p count v o w o1 h = record {
      old = root;
      root = t;
      was = was;
      value = ap (λ (z : Option Unfinished). record s { books = books_moved s.books root t; directory = with_root s.directory slot t; task = z }) (sym idle);
      given = h;
    }
    ends root was Over x old e p count v o w o1 h = absurd (let z : Recycled old ≡ More = e in cc)

    reads : (root : TagParts) (at : Stage) (x : ℕ) → Unlinked ≡ answer_of (own root at) x → (p : Pool) (v : View) (o : Option Open) (w : View) (o1 : Option Open) → Made p (server_step (own root at)) false v o x w o1 → WasUnlinked slot s (went (own root at) x) w
    reads root AtVersion x e p v o w o1 m = record { value = by (link (next_of x)) e; read = knows p v o x w o1 slot root m e }
      where
        by : (l : Option ℕ) → Unlinked ≡ turn_of (recycle_outcome slot (look_answer l)) → taken_in (record s { task = begun (Recycling slot (looked (made_task slot root) l)) }) (recycle_outcome slot (look_answer l)) ≡ s
        by None q = ap (λ (z : Option Unfinished). record s { task = z }) (sym idle)
        by (Some t) q = absurd (let z : Unlinked ≡ More = q in cc)
    reads root (AtLink t) x e p v o w o1 m = absurd (let z : Unlinked ≡ More = e in cc)
    reads root (AtRoot t) x e p v o w o1 m = absurd (let z : Unlinked ≡ More = e in cc)
    reads root (AtFlushedRoot t) x e p v o w o1 m = absurd (let z : Unlinked ≡ More = e in cc)
    reads root (AtPass t) x e p v o w o1 m = absurd (let z : Unlinked ≡ More = e in cc)
    reads root (AtFree t) x e p v o w o1 m = absurd (let z : Unlinked ≡ Recycled root = e in cc)
    reads root Over x e p v o w o1 m = absurd (let z : Unlinked ≡ More = e in cc)

    module _ (m n : ServerState) (made : Step → ℕ → Type 0) (failed : Type 0) (r : ServerTurn) where
      abbrev Access : TagParts → Stage → Type 0
      Access root at = OnAccess r (λ x. made (server_step (own root at)) x × (n ≡ went (own root at) x) × (r ≡ answer_of (own root at) x)) (failed × (n ≡ refused (own root at)))

      -- the access is one of this recycling
      record IsStep : Type 1 where
        pub root : TagParts
        pub at : Stage
        pub was : root_of s.directory slot ≡ Some root
        pub access : Access root at
        pub ends : (p : Pool) (count : ℕ) (v : View) (o : Option Open) (w : View) (o1 : Option Open) → EndsTask p m.task count v o w o1 → EndsTask p (own root at).task count v o w o1

      of_step : IsOwn m → RecycleStep (recycle_due m slot) m n r made failed → IsStep
      of_step (inl e) t =
          let w : RecycleStep (recycle_due s slot) s n r made failed = subst (λ (z : ServerState). RecycleStep (recycle_due z slot) z n r made failed) e t in
          let k : RecycleStep (Recycles slot) (record s { task = None }) n r made failed = subst (λ (z : Option Unfinished). RecycleStep (recycle_due (record s { task = z }) slot) (record s { task = z }) n r made failed) idle w in
          record {
            root = k.1.0;
            at = AtVersion;
            was = k.1.1;
            access = subst (λ (b : ServerState). OnAccess r (λ x. made (server_step b) x × (n ≡ went b x) × (r ≡ answer_of b x)) (failed × (n ≡ refused b))) k.1.2 k.2;
            ends = λ p count v o z o1 h. tt;
          }
      of_step (inr u) t =
          let w : RecycleStep Finishes (own u.root u.at) n r made failed = subst (λ (z : ServerState). RecycleStep (recycle_due z slot) z n r made failed) u.value t in
          record {
            root = u.root;
            at = u.at;
            was = u.was;
            access = subst (λ (b : ServerState). OnAccess r (λ x. made (server_step b) x × (n ≡ went b x) × (r ≡ answer_of b x)) (failed × (n ≡ refused b))) w.1 w.2;
            ends = λ p count v o z o1. subst (λ (y : ServerState). EndsTask p y.task count v o z o1) u.value;
          }

    module _ (m n : ServerState) (made : Step → ℕ → Type 0) (failed : Type 0) (now : IsOwn m) where
      pub own_goes : RecycleStep (recycle_due m slot) m n More made failed → IsOwn n
      own_goes t = let k = of_step m n made failed More now t in inr (subst Under (sym k.access.1.1) (goes k.root k.was k.at k.access.0 k.access.1.2))

      module _ (p : Pool) (v : View) (o : Option Open) (w : View) (o1 : Option Open) where
        pub own_recycled : (old : TagParts) (count : ℕ) → RecycleStep (recycle_due m slot) m n (Recycled old) made failed → EndsTask p m.task count v o w o1 → WasRecycled p slot s n o1
        own_recycled old count t h =
            let k = of_step m n made failed (Recycled old) now t in
            subst (λ (z : ServerState). WasRecycled p slot s z o1) (sym k.access.1.1) (ends k.root k.was k.at k.access.0 old k.access.1.2 p count v o w o1 (k.ends p count v o w o1 h))

        pub own_read : ((a : Step) (x : ℕ) → made a x → Made p a false v o x w o1) → RecycleStep (recycle_due m slot) m n Unlinked made failed → WasUnlinked slot s n w
        own_read tells t =
            let k = of_step m n made failed Unlinked now t in
            subst (λ (z : ServerState). WasUnlinked slot s z w) (sym k.access.1.1) (reads k.root k.at k.access.0 k.access.1.2 p v o w o1 (tells (server_step (own k.root k.at)) k.access.0 k.access.1.0))

-- what the last step's answer says
pub recycled_so : (end : Result Bool ServerRefusal) (r : ServerTurn) (A : Bool → Type 0) → IsRecycleTurn end r → ((old : TagParts) → r ≡ Recycled old → A true) → (r ≡ Unlinked → A false) → IfOk end A
recycled_so (Ok true) r A e f g = f e.0 e.1
recycled_so (Ok false) r A e f g = g e
recycled_so (Err x) r A e f g = tt
