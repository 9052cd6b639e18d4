-- What is found at any moment in a pool that runs: from its root the chain of each bound slot leads over some tags to a tail, which has a version.
use Rattle.std.proofs.Common.{◌≡◌, ◌⊎◌, ℕ, ◌<◌, List, [], ◌∷◌, ◌++◌, length, length-append, sym, ap, ◌∙◌, subst, arith, inl, inr}
use Rattle.std.specs.Prelude.{Some}
use Rattle.clover_words.specs.declared.setup.Setup.{Setup}
use Rattle.clover_rule.specs.Lists.{nth, Within}
use Rattle.clover_rule.specs.Meets.{Meets}
use Rattle.clover_rule.specs.Moves.{nobody}
use Rattle.clover_rule.specs.Server.{AtStage, waiting_name}
use Rattle.clover_rule.specs.Story.{Story}
use Rattle.clover_rule.specs.Words.{mem_of}
use Rattle.clover_rule.specs.declared.view.Role.TheVariants.{Serving}
use Rattle.clover_rule.specs.declared.view.ServerTask.{ServerTask}
use Rattle.clover_rule.specs.declared.view.ServerTask.TheVariants.{Idle, Storing, Rooted, Waiting, Loaded, Raised, Led, Both, Exchanged}
use Rattle.clover_rule.specs.declared.view.View.{View}
use Rattle.clover_rule.proofs.Steps.{within_prefix}
use Rattle.clover_plain.specs.Plain.{Plain, Running, history, view_at}
use Rattle.clover_plain.proofs.Opening.{server_role}
use Rattle.clover_plain.proofs.Seating.{at_front}
use Rattle.clover_plain.proofs.Stepping.{nth_default}
use Rattle.clover_server.specs.Server.{ServerState}
use Rattle.clover_event.specs.Alone.{HasChain}
use Rattle.clover_event.proofs.Finding.{from_root}
use Rattle.clover_run.specs.Alone.{AllFound}
use Rattle.clover_run.specs.Folds.{words_after, served_after}
use Rattle.clover_run.specs.Record.{Record}
use Rattle.clover_run.specs.Run.{Opening}
use Rattle.clover_run.specs.Working.{HasServer}
use Rattle.clover_run.proofs.Moments.{at_first, at_more}

-- an element of two lists in a row is one of the first or of the second
within_one : {A : Type 0} (x : A) (xs ys : List A) → Within x (xs ++ ys) → Within x xs ⊎ Within x ys
within_one x [] ys w = inr w
within_one x (y ∷ xs) ys (inl e) = inl (inl e)
within_one x (y ∷ xs) ys (inr w) = go (within_one x xs ys w)
  where
    go : Within x xs ⊎ Within x ys → Within x (y ∷ xs) ⊎ Within x ys
    go (inl a) = inl (inr a)
    go (inr b) = inr b

-- a pool that runs, as its story has it
pub met_in : (o : Opening) (p : Plain) → p.setup ≡ o.setup → (running : Running p) → Meets o.setup.pool p.first p.used p.words (p.views ++ p.absent) running.rule.story (history p)
met_in o p setup running = subst (λ (s : Setup). Meets s.pool p.first p.used p.words (p.views ++ p.absent) running.rule.story (history p)) setup running.rule.helped

-- the view of a seat that there is
pub seat_here : (p : Plain) (i : ℕ) → i < length p.views → nth (p.views ++ p.absent) i ≡ Some (view_at p i)
seat_here p i inside = at_front p.views p.absent i (view_at p i) (nth_default p.views i nobody inside)

-- In a pool that runs each slot of the server's directory has its key in the story: it is bound there, or waits for the count.
module _ (o : Opening) (p : Plain) (s : ServerState) (setup : p.setup ≡ o.setup) (running : Running p) (server : HasServer p s) where
  abbrev story : Story
  story = running.rule.story

  abbrev v : View
  v = view_at p p.setup.clients

  met : Meets p.setup.pool p.first p.used p.words (p.views ++ p.absent) story (history p)
  met = running.rule.helped

  pub is_serving : v.pass.role ≡ Serving
  is_serving = running.roles p.setup.clients v (nth_default p.views p.setup.clients nobody server.seat) ∙ server_role p.setup p.setup.clients (omega arith)

  waiting_key : (T : ServerTask) → AtStage p.setup.pool (mem_of p.setup.pool p.words) story T → (slot : ℕ) (key : List ℕ) → Within (slot, key) (waiting_name T) → story.keys slot ≡ Some key
  waiting_key Idle h slot key w = absurd w
  waiting_key (Storing b n) h slot key w = absurd w
  waiting_key (Rooted b) h slot key (inl e) = ap story.keys (sym (ap (λ (q : ℕ × List ℕ). q.0) e)) ∙ h.0.key ∙ ap (λ (q : ℕ × List ℕ). Some q.1) e
  waiting_key (Rooted b) h slot key (inr w) = absurd w
  waiting_key (Waiting b) h slot key (inl e) = ap story.keys (sym (ap (λ (q : ℕ × List ℕ). q.0) e)) ∙ h.0.key ∙ ap (λ (q : ℕ × List ℕ). Some q.1) e
  waiting_key (Waiting b) h slot key (inr w) = absurd w
  waiting_key (Loaded c) h slot key w = absurd w
  waiting_key (Raised c) h slot key w = absurd w
  waiting_key (Led c) h slot key w = absurd w
  waiting_key (Both c) h slot key w = absurd w
  waiting_key (Exchanged c) h slot key w = absurd w

  pub bound_key : (slot : ℕ) (key : List ℕ) → Within (slot, key) s.directory.list → story.keys slot ≡ Some key
  bound_key slot key named =
      let serves = met.whole.serves p.setup.clients v (seat_here p p.setup.clients server.seat) is_serving in
      let listed : Within (slot, key) (story.bindings ++ waiting_name story.task) = subst (Within (slot, key)) (sym server.agrees.directory.list ∙ serves.directory) (within_prefix (slot, key) s.directory.list (waiting_name v.server.task) named) in
      go (within_one (slot, key) story.bindings (waiting_name story.task) listed)
    where
      go : Within (slot, key) story.bindings ⊎ Within (slot, key) (waiting_name story.task) → story.keys slot ≡ Some key
      go (inl w) = (met.whole.basis.bound slot key w).0
      go (inr w) = waiting_key story.task met.whole.help.stage.here slot key w

  -- so each such slot has a chain
  pub chains : (slot : ℕ) (key : List ℕ) → Within (slot, key) s.directory.list → HasChain o.setup.pool p.words slot
  chains slot key named =
      let f = from_root o.setup.pool p.first p.used p.words (p.views ++ p.absent) story (history p) (met_in o p setup running) slot key (bound_key slot key named) in
      record { tags = f.tags; tail = f.tail; leads = f.leads; version = f.version; has = f.has }

  -- and the count is the number of the server's bindings
  pub counted : (mem_of p.setup.pool p.words).count ≡ length s.directory.list
  counted =
      let serves = met.whole.serves p.setup.clients v (seat_here p p.setup.clients server.seat) is_serving in
      let both : length (s.directory.list ++ waiting_name v.server.task) ≡ length (story.bindings ++ waiting_name story.task) = ap length (sym server.agrees.directory.list ∙ serves.directory) in
      let same : length (waiting_name v.server.task) ≡ length (waiting_name story.task) = ap (λ (t : ServerTask). length (waiting_name t)) serves.task_is in
      let one = length-append s.directory.list (waiting_name v.server.task) in
      let other = length-append story.bindings (waiting_name story.task) in
      met.whole.help.naming.counted ∙ omega arith

-- each slot that is bound behind these records has a chain
abbrev BoundFound : Opening → List Record → Type 0
BoundFound o rs = (slot : ℕ) (key : List ℕ) → Within (slot, key) (served_after o.served rs).server.directory.list → HasChain o.setup.pool (words_after o.setup.pool o.words rs) slot

-- the chains at the beginning are those of the pool and the server there
pub found_first : (o : Opening) (p : Plain) (s : ServerState) → p.setup ≡ o.setup → Running p → HasServer p s → p.words ≡ o.words → s ≡ o.served.server → AllFound o []
found_first o p s setup running server words same before after slot key whole = at_first (BoundFound o) (λ n k named.
    subst (λ (ws : List ℕ). HasChain o.setup.pool ws n) words (chains o p s setup running server n k (subst (λ (t : ServerState). Within (n, k) t.directory.list) (sym same) named))) before after whole slot key

-- the chain of each bound slot behind one record more
pub found_more : (o : Opening) (rs : List Record) (r : Record) → AllFound o rs
    → ((slot : ℕ) (key : List ℕ) → Within (slot, key) (served_after o.served (rs ++ r ∷ [])).server.directory.list → HasChain o.setup.pool (words_after o.setup.pool o.words (rs ++ r ∷ [])) slot) → AllFound o (rs ++ r ∷ [])
found_more o rs r all now before after slot key whole = at_more (BoundFound o) rs r (λ front back w s k named. all front back s k w named) now before after whole slot key

-- the chains behind one record more are those of the pool and the server there
pub found_behind : (o : Opening) (rs : List Record) (r : Record) (p : Plain) (s : ServerState) → AllFound o rs → p.setup ≡ o.setup → Running p → HasServer p s → p.words ≡ words_after o.setup.pool o.words (rs ++ r ∷ []) → s ≡ (served_after o.served (rs ++ r ∷ [])).server → AllFound o (rs ++ r ∷ [])
found_behind o rs r p s all setup running server words same = found_more o rs r all (λ slot key named.
    subst (λ (ws : List ℕ). HasChain o.setup.pool ws slot) words (chains o p s setup running server slot key (subst (λ (t : ServerState). Within (slot, key) t.directory.list) (sym same) named)))
