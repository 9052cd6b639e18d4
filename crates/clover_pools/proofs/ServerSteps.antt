-- What steps of the metadata server leave of a small pool.
use Rattle.std.proofs.Common.{◌≡◌, ◌≢◌, ℕ, zero, suc, List, [], ◌∷◌, ◌++◌, ◌==◌, inl, length, get_or, Bool, true, false, refl, sym, ap, ◌∙◌, subst, arith}
use Rattle.std.specs.Prelude.{Option, Some, None}
use Rattle.std.proofs.lemmas.List.{get_or-set_other, length-set}
use Rattle.std.proofs.lemmas.Option.{same_Some}
use Rattle.clover_words.specs.declared.setup.Setup.{Setup}
use Rattle.clover_map.specs.declared.call.Entry.{Entry}
use Rattle.clover_port.specs.Told.{Open, Made, opened}
use Rattle.clover_rule.specs.Learned.{next_view, next_history}
use Rattle.clover_rule.specs.Moves.{nobody}
use Rattle.clover_rule.specs.Rule.{longest}
use Rattle.clover_rule.specs.Steps.{act_of}
use Rattle.clover_rule.specs.declared.access.Act.{Act}
use Rattle.clover_rule.specs.declared.access.Actor.TheVariants.{Server}
use Rattle.clover_rule.specs.declared.view.View.{View}
use Rattle.clover_dir.specs.Bindings.{pairs_of}
use Rattle.clover_dir.specs.Directory.{Bindings}
use Rattle.clover_dir.specs.declared.binding.Binding.{Binding as Bound}
use Rattle.clover_rule.specs.Lists.{Within}
use Rattle.clover_dir.specs.Task.{UnderWay, bind_step}
use Rattle.clover_dir.specs.declared.stage.Stage.{Stage}
use Rattle.clover_dir.specs.declared.stage.Stage.TheVariants.{Tombstone, FlushedTombstone, Key, FlushedKey, Root, FlushedRoot, Count, Over}
use Rattle.clover_plain.specs.Plain.{Plain, HasSeat, Kept, Refused, Stepped, history, open_of, view_at}
use Rattle.clover_server.specs.Going.{server_step, work_step}
use Rattle.clover_server.specs.Holding.{Agrees}
use Rattle.clover_server.specs.Server.{ServerState}
use Rattle.clover_server.specs.Steps.{FinishStep, Recycles, RecycleStep, or_finish, stock_due}
use Rattle.clover_server.specs.Whole.{Moment, Making, Failing, Leads, Repeats, StockStep, NamedStep, SlotStep}
use Rattle.clover_server.specs.declared.turn.ServerTurn.{ServerTurn}
use Rattle.clover_server.specs.declared.turn.ServerTurn.TheVariants.{More}
use Rattle.clover_server.specs.declared.work.Unfinished.{Unfinished}
use Rattle.clover_server.specs.declared.work.Work.{Work}
use Rattle.clover_server.specs.declared.work.Work.TheVariants.{Binding, Recycling}
use Rattle.clover_server.proofs.Repeating.{want_leaves, named_leaves, access_leaves}
use Rattle.clover_pools.specs.Server.{IsLeft, IsPortLeft, Served}
use Rattle.clover_pools.specs.Small.{IsReady, IsSmall, HasSmallNumbers}
use Rattle.clover_plain.specs.contracts.port.PlainPortPort.TheImpl.{ghosts}
use Rattle.clover_pools.proofs.RecyclingSteps.{quiet_at}

-- a step of the server adds no entry
bind_quiet : (c : UnderWay) (d : Bindings) (at : Stage) (h : List Entry) (v : View) (x : ℕ) → next_history (bind_step (record c { stage = at }) d) h v x ≡ h
bind_quiet c d Tombstone h v x = refl
bind_quiet c d FlushedTombstone h v x = refl
bind_quiet c d (Key j) h v x = refl
bind_quiet c d (FlushedKey j) h v x = refl
bind_quiet c d Root h v x = refl
bind_quiet c d FlushedRoot h v x = refl
bind_quiet c d Count h v x = refl
bind_quiet c d Over h v x = refl

work_quiet : (d : Bindings) (w : Work) (h : List Entry) (v : View) (x : ℕ) → next_history (work_step d w) h v x ≡ h
work_quiet d (Binding own c) h v x = bind_quiet c d c.stage h v x
work_quiet d (Recycling slot c) h v x = quiet_at c c.stage h v x

pub server_quiet : (s : ServerState) (h : List Entry) (v : View) (x : ℕ) → next_history (server_step s) h v x ≡ h
server_quiet s h v x = by s.task refl
  where
    by : (t : Option Unfinished) → s.task ≡ t → next_history (server_step s) h v x ≡ h
    by None e = subst (λ (z : Option Unfinished). next_history (server_step (record s { task = z })) h v x ≡ h) (sym e) refl
    by (Some u) e = subst (λ (z : Option Unfinished). next_history (server_step (record s { task = z })) h v x ≡ h) (sym e) (work_quiet s.directory u.work h v x)

zero_one : (let one : ℕ = 0 in one) ≢ 1
zero_one e = omega arith

-- one step leaves so, made or refused
module _ (s0 p q : Plain) (k : IsLeft s0 p) where
  pub left_made : (s : ServerState) (l : Bool) (seat seat1 x : ℕ) → seat ≡ 1 → Stepped (server_step s) false l seat x p q → Made p.setup.pool (server_step s) false (view_at p seat) (Some (open_of p)) x (view_at q seat1) (Some (open_of q)) → IsLeft s0 q
  left_made s l seat seat1 x at done made =
      let a = server_step s in
      let next : View = next_view false a (history p) (view_at p seat) x in
      let told : open_of q ≡ opened p.setup.pool a (view_at p seat) x made.now = same_Some (open_of q) (opened p.setup.pool a (view_at p seat) x made.now) made.tells.1 in
      let same : history q ≡ history p = ap (λ (o : Open). o.history) told ∙ server_quiet s made.now.history (view_at p seat) x ∙ ap (λ (o : Open). o.history) (sym made.tells.0) in
      record {
        opened = done.same.opened ∙ k.opened;
        entered = done.same.entries ∙ k.entered ∙ sym same;
        setup = done.same.setup ∙ k.setup;
        seats = ap length done.views ∙ length-set p.views seat next ∙ k.seats;
        client = ap (λ (vs : List View). get_or vs 0 nobody) done.views ∙ get_or-set_other p.views seat 0 next nobody (λ e. zero_one (e ∙ at)) ∙ k.client;
      }

  pub left_refused : (a : Act) (seat : ℕ) → Refused a seat p q → IsLeft s0 q
  left_refused a seat r = record {
    opened = r.same.opened ∙ k.opened;
    entered = r.same.entries ∙ k.entered ∙ sym (λ i. longest (r.views i ++ r.same.absent i));
    setup = r.same.setup ∙ k.setup;
    seats = ap length r.views ∙ k.seats;
    client = ap (λ (vs : List View). get_or vs 0 nobody) r.views ∙ k.client;
  }

-- making room leaves it so
left_room : (p q : Plain) → IsReady p → IsSmall p → Kept p q → IsLeft p q
left_room p q ready small kept = record {
  opened = kept.opened ∙ ready.opened;
  entered = kept.entries ∙ ready.entered ∙ sym (λ i. longest (kept.views i ++ kept.absent i));
  setup = kept.setup;
  seats = ap length kept.views ∙ small.seats;
  client = ap (λ (vs : List View). get_or vs 0 nobody) kept.views;
}

-- steps that are repeated keep what each of them keeps
leads_keep : {Q : Type 0} (step : Moment Q → Moment Q → ServerTurn → Type 0) (G : Q → Type 0) → ((a b : Moment Q) (r : ServerTurn) → step a b r → G a.port → G b.port) → (n : ℕ) (a b : Moment Q) → Leads step n a b → G a.port → G b.port
leads_keep step G one zero a b h g = subst (λ (m : Moment _). G m.port) (sym h) g
leads_keep step G one (suc n) a b h g = one h.0 b More h.2 (leads_keep step G one n a h.0 h.1 g)

repeats_keep : {Q : Type 0} (step : Moment Q → Moment Q → ServerTurn → Type 0) (G : Q → Type 0) → ((a b : Moment Q) (r : ServerTurn) → step a b r → G a.port → G b.port) → (most : ℕ) (a b : Moment Q) (r : ServerTurn) → Repeats step most a b r → G a.port → G b.port
repeats_keep step G one most a b r h g = one h.before b r h.last (leads_keep step G one h.count a h.before h.leads g)

-- what each access keeps
abbrev pub KeepsMade : {Q : Type 0} → Making Q → (Q → Type 0) → Type 0
KeepsMade {Q} made G = (m : ServerState) (p q : Q) (x : ℕ) → made p (server_step m) false x q → G p → G q

abbrev pub KeepsFailed : {Q : Type 0} → Failing Q → (Q → Type 0) → Type 0
KeepsFailed {Q} failed G = (p q : Q) → failed p q → G p → G q

-- a whole call keeps
pub stock_keeps : {Q : Type 0} (made : Making Q) (failed : Failing Q) {most : ℕ} {a b : Moment Q} {r : ServerTurn} → Repeats (StockStep made failed) most a b r → (G : Q → Type 0) → KeepsMade made G → KeepsFailed failed G → G a.port → G b.port
stock_keeps {Q} made failed {most} {a} {b} {r} h G f g start = repeats_keep (StockStep made failed) G
    (λ c d t w k. want_leaves c.server d.server t (λ s x. made c.port s false x d.port) (failed c.port d.port) (d.port ≡ c.port) (stock_due c.server) w
    (λ m x z. f m c.port d.port x z k) (λ z. g c.port d.port z k) (λ e. subst G (sym e) k))
    most a b r h start

pub named_keeps : {Q : Type 0} (key : List ℕ) (made : Making Q) (failed : Failing Q) {most : ℕ} {a b : Moment Q} {r : ServerTurn} → Repeats (NamedStep key made failed) most a b r → (G : Q → Type 0) → KeepsMade made G → KeepsFailed failed G → G a.port → G b.port
named_keeps {Q} key made failed {most} {a} {b} {r} h G f g start = repeats_keep (NamedStep key made failed) G
    (λ c d t w k. named_leaves key made failed c d t w
    (λ m x z. f m c.port d.port x z k) (λ z. g c.port d.port z k) (λ e. subst G (sym e) k))
    most a b r h start

pub slot_keeps : {Q : Type 0} (slot : ℕ) (made : Making Q) (failed : Failing Q) (G : Q → Type 0) → KeepsMade made G → KeepsFailed failed G → (c d : Moment Q) (t : ServerTurn) → SlotStep slot made failed c d t → G c.port → G d.port
slot_keeps slot made failed G f g c d t w k = by c.server.task w
  where
    by : (u : Option Unfinished) → RecycleStep (or_finish u (Recycles slot)) c.server d.server t (λ s x. made c.port s false x d.port) (failed c.port d.port) → G d.port
    by None w = access_leaves t _ _ w.2 (λ x z. f w.0 c.port d.port x z.0 k) (λ z. g c.port d.port z.0 k)
    by (Some u) w = access_leaves t _ _ w.2 (λ x z. f w.0 c.port d.port x z.0 k) (λ z. g c.port d.port z.0 k)

pub finish_keeps : {Q : Type 0} (made : Making Q) (failed : Failing Q) (G : Q → Type 0) → KeepsMade made G → KeepsFailed failed G → (s n : ServerState) (t : ServerTurn) (p q : Q) → FinishStep s n t (λ a x. made p a false x q) (failed p q) → G p → G q
finish_keeps made failed G f g s n t p q w k = access_leaves t _ _ w (λ x z. f s p q x z.0 k) (λ z. g p q z.0 k)

pub recycle_keeps : {Q : Type 0} (slot : ℕ) (made : Making Q) (failed : Failing Q) {most : ℕ} {a b : Moment Q} {r : ServerTurn} → Repeats (SlotStep slot made failed) most a b r → (G : Q → Type 0) → KeepsMade made G → KeepsFailed failed G → G a.port → G b.port
recycle_keeps {Q} slot made failed {most} {a} {b} {r} h G f g start = repeats_keep (SlotStep slot made failed) G (slot_keeps slot made failed G f g) most a b r h start

-- once the pool is given back, the server agrees with its view
pub served_so : (s : ServerState) (p q r : Plain) (seat : ℕ) → IsSmall p → IsPortLeft p q seat → Agrees q.setup.pool [] s (view_at q seat) → q ≡ r → Served s p r
served_so s p q r seat small left agrees back = subst (Served s p) back (record {
  serving = record {
    ready = record { opened = left.1.opened; entered = left.1.entered };
    small = record { numbers = subst HasSmallNumbers (sym left.1.setup) small.numbers; seats = left.1.seats };
    agrees = subst (λ (k : ℕ). Agrees q.setup.pool [] s (view_at q k)) left.0 agrees;
  };
  client = left.1.client;
  setup = left.1.setup;
})

-- what an access through a port of the server leaves
pub port_made : (p0 : Plain) → KeepsMade (λ p a b x q. ghosts.made p a b x q) (λ p. IsPortLeft p0 p.pool.now p.seat)
port_made p0 = λ m p q x h k. (h.2 ∙ k.0, left_made p0 p.pool.now q.pool.now k.1 m p.list p.seat q.seat x k.0 h.0 h.1)

pub port_failed : (p0 : Plain) → KeepsFailed (λ p q. ghosts.failed p q) (λ p. IsPortLeft p0 p.pool.now p.seat)
port_failed p0 = λ p q h k. (h.1 ∙ k.0, left_refused p0 p.pool.now q.pool.now k.1 (act_of h.0.0 0) p.seat h.0.1)

-- a port as it is made once there is room
pub port_first : (p p0 p1 : Plain) (seat : ℕ) → IsReady p → IsSmall p → Kept p p0 → HasSeat p0 Server seat → p1 ≡ p0 → IsPortLeft p p1 seat
port_first p p0 p1 seat ready small kept has of =
    (has.0 ∙ ap (λ (s : Setup). s.clients) kept.setup ∙ small.numbers.clients, subst (IsLeft p) (sym of) (left_room p p0 ready small kept))

-- the first binding of a list that is not empty
pub first_within : (items : List Bound) (b : Bound) (list : List (ℕ × List ℕ)) → (length items == 0) ≡ false → pairs_of items ≡ list → (key : List ℕ) × Within ((get_or items 0 b).slot, key) list
first_within [] b list e p = absurd (let z : true ≡ false = e in cc)
first_within (x ∷ items) b list e p = (x.key, subst (Within (x.slot, x.key)) p (inl refl))
