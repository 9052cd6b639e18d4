-- One record more behind a stretch in which a call runs alone.
use Prim.Native.Nat.{zero, suc}
use Rattle.std.proofs.Common.{◌≡◌, ◌≢◌, ℕ, ◌+◌, ◌<◌, List, [], ◌∷◌, ◌++◌, length, refl, sym, ap, ◌∙◌, subst, arith, inl, inr, ◌⊎◌, append_assoc, append-nil, length-append}
use Rattle.std.specs.Prelude.{Option, Some, None}
use Rattle.clover_words.specs.declared.pool.Pool.{Pool}
use Rattle.clover_map.specs.History.{key_of}
use Rattle.clover_map.specs.declared.bytes.Value.{Value}
use Rattle.clover_map.specs.declared.call.Call.{Call}
use Rattle.clover_script.specs.declared.line.Task.TheVariants.{Client as ClientTask}
use Rattle.clover_rule.specs.Lists.{Each, nth}
use Rattle.clover_rule.specs.Words.{mem_of}
use Rattle.clover_rule.proofs.Tools.{nth_snoc, nth_within}
use Rattle.clover_walk.specs.Alone.{way_from, LeadsOver, HasVersion}
use Rattle.clover_call.specs.declared.under.Underway.TheVariants.{Nothing as NoCall}
use Rattle.clover_node.specs.Node.{IsIdle}
use Rattle.clover_event.specs.Alone.{EndsIn, cost}
use Rattle.clover_event.specs.Ends.{MayBegin}
use Rattle.clover_event.proofs.Places.{same_snoc}
use Rattle.clover_run.specs.Alone.{Starts, IsOwnStep, RunsAlone, Finds, cost_of, IsAnswered, NotesWith, IsAnsweredAt, IsCount, EndsAlone, AllAlone}
use Rattle.clover_run.specs.Ends.{ended}
use Rattle.clover_run.specs.Folds.{words_after}
use Rattle.clover_run.specs.Record.{Record}
use Rattle.clover_run.specs.Run.{Opening, Standing, standing, known_slot, want_in}
use Rattle.clover_run.specs.SoFar.{Will, AloneSoFar}
use Rattle.clover_run.specs.declared.client.ClientState.{ClientState}
use Rattle.clover_run.specs.declared.event.Note.TheVariants.{Quiet}
use Rattle.clover_run.specs.declared.want.Want.TheVariants.{Nothing}

-- a list is empty or has a last element
pub ending : {A : Type 0} (xs : List A) → (xs ≡ []) ⊎ ((ys : List A) × (y : A) × (xs ≡ ys ++ y ∷ []))
ending {A = A} [] = inl refl
ending {A = A} (x ∷ xs) = inr (go (ending xs))
  where
    go : (xs ≡ []) ⊎ ((ys : List A) × (y : A) × (xs ≡ ys ++ y ∷ [])) → (ys : List A) × (y : A) × (x ∷ xs ≡ ys ++ y ∷ [])
    go (inl e) = ([], x, ap (λ (l : List A). x ∷ l) e)
    go (inr (ys, y, e)) = (x ∷ ys, y, ap (λ (l : List A). x ∷ l) e)

pub no_snoc : {A : Type 0} (xs : List A) (a : A) → [] ≡ xs ++ a ∷ [] → ⊥
no_snoc xs a e = let l : 0 ≡ length (xs ++ a ∷ []) = ap length e in let k = length-append xs (a ∷ []) in absurd (omega arith)

each_last : {A : Type 0} (P : A → Type 0) (xs : List A) (z : A) → Each P (xs ++ z ∷ []) → Each P xs × P z
each_last P [] z e = (tt, e.0)
each_last P (x ∷ xs) z e = let r = each_last P xs z e.1 in ((e.0, r.0), r.1)

-- one step more, behind which so many are left
answered_more : (c n : ℕ) (steps : List Record) (r : Record) (left : ℕ) → IsAnsweredAt c n steps → suc (length steps) + left ≡ n → NotesWith c left r.note → IsAnsweredAt c n (steps ++ r ∷ [])
answered_more c n steps r left h e notes = record {
  few = let l = length-append steps (r ∷ []) in omega arith;
  quiet = λ k z at l. quiet k z l (nth_snoc steps r z k at);
  answered = λ k z at l. last k z l (nth_snoc steps r z k at);
}
  where
    none_quiet : (m : ℕ) → 0 < m → NotesWith c m r.note → r.note ≡ Quiet
    none_quiet zero l q = absurd (omega arith)
    none_quiet (suc m) l q = q

    quiet : (k : ℕ) (z : Record) → suc k < n → (nth steps k ≡ Some z) ⊎ ((k ≡ length steps) × (r ≡ z)) → z.note ≡ Quiet
    quiet k z l (inl q) = h.quiet k z q l
    quiet k z l (inr (b, q)) = ap (λ (y : Record). y.note) (sym q) ∙ none_quiet left (omega arith) notes

    last : (k : ℕ) (z : Record) → suc k ≡ n → (nth steps k ≡ Some z) ⊎ ((k ≡ length steps) × (r ≡ z)) → IsAnswered c z.note
    last k z l (inl q) = absurd (let b = nth_within steps k z q in omega arith)
    last k z l (inr (b, q)) =
        let none : left ≡ 0 = omega arith in
        subst (λ (y : Record). IsAnswered c y.note) q (subst (λ (m : ℕ). NotesWith c m r.note) none notes)

no_answers : (c n : ℕ) → IsAnsweredAt c n []
no_answers c n = record { few = omega arith; quiet = λ k r e. absurd (let q : None ≡ Some r = e in cc); answered = λ k r e. absurd (let q : None ≡ Some r = e in cc) }

some_cost : (call : Call) (loads links tail : ℕ) (version : Option Value) → cost call loads links tail version ≡ 0 → ⊥
some_cost call loads links tail version e = absurd (omega arith)

-- what holds of the client of this number, where there is one
abbrev pub Of : List ClientState → ℕ → (ClientState → Type 0) → Type 0
Of clients c P = (i : ℕ) (y : ClientState) → suc i ≡ c → nth clients i ≡ Some y → P y

-- the client of this number, where there is one, has just started a call that wants nothing: on no slot nothing is under way there, and on a slot the call finds its way, and will end at its cost
abbrev pub Begins : Pool → Standing → List ℕ → List ClientState → ℕ → Call → Option ℕ → Type 0
Begins p st ws clients c call None = Of clients c (λ y. y.node.caller.under ≡ NoCall)
Begins p st ws clients c call (Some slot) = (f : Finds p st slot call) × Of clients c (λ y. EndsIn p ws (cost_of p st slot call f) y.node.caller.under y.room)

-- a client that has made this one more step of such a call: on no slot that was its first, the load of the count, and it is over, and on a slot as many are left of the cost as the note says, and it is over where none are
abbrev pub Leaves : (p : Pool) (st : Standing) → List ℕ → List ClientState → (c : ℕ) (call : Call) (steps : List Record) → Record → (slot : Option ℕ) → EndsAlone p st slot call c steps → Type 0
Leaves p st ws clients c call steps r None ends = (steps ≡ []) × IsCount st call r × Of clients c (λ y. IsIdle y.node)
Leaves p st ws clients c call steps r (Some slot) ends = (n : ℕ) × (suc (length steps) + n ≡ cost_of p st slot call ends.0) × NotesWith c n r.note × Of clients c (λ y. EndsIn p ws n y.node.caller.under y.room × (n ≡ 0 → IsIdle y.node))

-- one step more
abbrev ends_more : (p : Pool) (st : Standing) (ws : List ℕ) (clients : List ClientState) (c : ℕ) (call : Call) (steps more : List Record) (r : Record) → more ≡ steps ++ r ∷ [] → (slot : Option ℕ) (ends : EndsAlone p st slot call c steps) → Leaves p st ws clients c call steps r slot ends → EndsAlone p st slot call c more
ends_more p st ws clients c call steps more r e None ends l =
    let one : more ≡ r ∷ [] = e ∙ ap (λ (s : List Record). s ++ r ∷ []) l.0 in
    record { few = (let k : length more ≡ 1 = ap length one in omega arith); counts = subst (Each (IsCount st call)) (sym one) (l.1, tt) }
ends_more p st ws clients c call steps more r e (Some slot) ends l = (ends.0, subst (IsAnsweredAt c (cost_of p st slot call ends.0)) (sym e) (answered_more c (cost_of p st slot call ends.0) steps r l.0 ends.1 l.1 l.2))

-- what is found behind the same records
abbrev found_there : (o : Opening) (c : ℕ) (call : Call) (front back : List Record) → front ≡ back → (s t : ℕ) → s ≡ t → Finds o.setup.pool (standing o c front) s call → Finds o.setup.pool (standing o c back) t call
found_there o c call front back e s t q f = record {
  cursor = f.cursor;
  may = subst (λ (l : List Record). MayBegin (ended c l) (key_of call) f.cursor) e f.may;
  way = f.way;
  is = f.is ∙ (λ i. way_from (mem_of o.setup.pool (words_after o.setup.pool o.words (e i))) (q i) f.cursor);
  tags = f.tags;
  tail = f.tail;
  leads = subst (λ (l : List Record). LeadsOver o.setup.pool (words_after o.setup.pool o.words l) f.way.from f.tags f.tail) e f.leads;
  version = f.version;
  has = subst (λ (l : List Record). HasVersion o.setup.pool (words_after o.setup.pool o.words l) f.tail f.version) e f.has;
}

-- a slot is none, or the same
none_some : (s : ℕ) → None ≡ Some s → ⊥
none_some s e = absurd cc

some_none : (s : ℕ) → Some s ≡ None → ⊥
some_none s e = absurd cc

same_slot_of : (s t : ℕ) → Some s ≡ Some t → s ≡ t
same_slot_of s t e = cc

-- a call that has made no step yet
abbrev ends_none : (o : Opening) (ws : List ℕ) (clients : List ClientState) (c : ℕ) (call : Call) (front back : List Record) → front ≡ back → (steps : List Record) → steps ≡ [] → (a b : Option ℕ) → a ≡ b → Begins o.setup.pool (standing o c front) ws clients c call a → EndsAlone o.setup.pool (standing o c back) b call c steps
ends_none o ws clients c call front back e steps none None None q h = record { few = (let z : length steps ≡ 0 = ap length none in omega arith); counts = subst (Each (IsCount (standing o c back) call)) (sym none) tt }
ends_none o ws clients c call front back e steps none None (Some t) q h = absurd (none_some t q)
ends_none o ws clients c call front back e steps none (Some s) None q h = absurd (some_none s q)
ends_none o ws clients c call front back e steps none (Some s) (Some t) q h =
    let f = found_there o c call front back e s t (same_slot_of s t q) h.0 in
    (f, subst (IsAnsweredAt c (cost_of o.setup.pool (standing o c back) t call f)) (sym none) (no_answers c (cost_of o.setup.pool (standing o c back) t call f)))

module _ (o : Opening) (rs : List Record) (r : Record) where
  abbrev all_of : List Record
  all_of = rs ++ r ∷ []

  -- the call's stretch ended before the record
  record Past (x : RunsAlone o all_of) : Type 0 where
    pub rest : List Record
    pub whole : rs ≡ x.before ++ (x.steps ++ rest)
    pub behind : x.after ≢ []

  -- the record is its last step
  record Goes (x : RunsAlone o all_of) : Type 0 where
    pub first : List Record
    pub whole : rs ≡ x.before ++ (first ++ [])
    pub each : Each (IsOwnStep x.client) first
    pub steps : x.steps ≡ first ++ r ∷ []
    pub own : IsOwnStep x.client r

  -- the record is its start
  record Opens (x : RunsAlone o all_of) : Type 0 where
    pub whole : all_of ≡ x.before
    pub none : x.steps ≡ []
    pub starts : Starts x.client r.event r.note

  split : (x : RunsAlone o all_of) → Past x ⊎ (Goes x ⊎ Opens x)
  split x = go (ending x.after)
    where
      start_now : (x.after ≡ []) → (x.steps ≡ []) → Opens x
      start_now e f =
          let w : all_of ≡ x.before = x.whole ∙ (λ i. x.before ++ (f i ++ e i)) ∙ append-nil x.before in
          let s = same_snoc rs x.started.0 r x.started.1 (w ∙ x.started.2) in
          record { whole = w; none = f; starts = subst (λ (z : Record). Starts x.client z.event z.note) (sym s.1) x.started.3 }

      step_now : (x.after ≡ []) → (steps : List Record) (z : Record) → x.steps ≡ steps ++ z ∷ [] → Goes x
      step_now e steps z f =
          let w : all_of ≡ (x.before ++ steps) ++ z ∷ [] = x.whole ∙ (λ i. x.before ++ (f i ++ e i)) ∙ ap (λ (l : List Record). x.before ++ l) (append-nil (steps ++ z ∷ [])) ∙ sym (append_assoc x.before steps (z ∷ [])) in
          let s = same_snoc rs (x.before ++ steps) r z w in
          let own = each_last (IsOwnStep x.client) steps z (subst (Each (IsOwnStep x.client)) f x.own) in
          record {
            first = steps;
            whole = s.0 ∙ ap (λ (l : List Record). x.before ++ l) (sym (append-nil steps));
            each = own.0;
            steps = f ∙ ap (λ (y : Record). steps ++ y ∷ []) (sym s.1);
            own = subst (IsOwnStep x.client) (sym s.1) own.1;
          }

      by_steps : (x.after ≡ []) → (x.steps ≡ []) ⊎ ((ys : List Record) × (y : Record) × (x.steps ≡ ys ++ y ∷ [])) → Past x ⊎ (Goes x ⊎ Opens x)
      by_steps e (inl f) = inr (inr (start_now e f))
      by_steps e (inr (steps, z, f)) = inr (inl (step_now e steps z f))

      go : (x.after ≡ []) ⊎ ((ys : List Record) × (y : Record) × (x.after ≡ ys ++ y ∷ [])) → Past x ⊎ (Goes x ⊎ Opens x)
      go (inl e) = by_steps e (ending x.steps)
      go (inr (after, z, e)) =
          let w : all_of ≡ (x.before ++ (x.steps ++ after)) ++ z ∷ [] = x.whole ∙ ap (λ (l : List Record). x.before ++ (x.steps ++ l)) e ∙ ap (λ (l : List Record). x.before ++ l) (sym (append_assoc x.steps after (z ∷ []))) ∙ sym (append_assoc x.before (x.steps ++ after) (z ∷ [])) in
          inl (record { rest = after; whole = (same_snoc rs (x.before ++ (x.steps ++ after)) r z w).0; behind = λ q. no_snoc after z (sym q ∙ e) })

  -- the same call without the record
  abbrev old_past : (x : RunsAlone o all_of) → Past x → RunsAlone o rs
  old_past x p = record { before = x.before; steps = x.steps; after = p.rest; whole = p.whole; client = x.client; started = x.started; call = x.call; written = x.written; task = x.task; free = x.free; own = x.own }

  abbrev old_goes : (x : RunsAlone o all_of) → Goes x → RunsAlone o rs
  old_goes x g = record { before = x.before; steps = g.first; after = []; whole = g.whole; client = x.client; started = x.started; call = x.call; written = x.written; task = x.task; free = x.free; own = g.each }

  module _ (all : AllAlone o rs) (ws : List ℕ) (clients : List ClientState)
      (begins : (c : ℕ) (call : Call) (written : ℕ) → Starts c r.event r.note → (standing o c all_of).does.task ≡ Some (ClientTask call written) → want_in (standing o c all_of) call ≡ Nothing → Begins o.setup.pool (standing o c all_of) ws clients c call (known_slot (standing o c all_of) call))
      (leaves : (x : RunsAlone o rs) → x.after ≡ [] → IsOwnStep x.client r → Leaves o.setup.pool (standing o x.client x.before) ws clients x.client x.call x.steps r (known_slot (standing o x.client x.before) x.call) (all x)) where
    begins_now : (x : RunsAlone o all_of) → Opens x → Begins o.setup.pool (standing o x.client all_of) ws clients x.client x.call (known_slot (standing o x.client all_of) x.call)
    begins_now x b = begins x.client x.call x.written b.starts (subst (λ (l : List Record). (standing o x.client l).does.task ≡ Some (ClientTask x.call x.written)) (sym b.whole) x.task) (subst (λ (l : List Record). want_in (standing o x.client l) x.call ≡ Nothing) (sym b.whole) x.free)

    abbrev slot_at : (x : RunsAlone o all_of) → Option ℕ
    slot_at x = known_slot (standing o x.client x.before) x.call

    same_slot : (x : RunsAlone o all_of) → Opens x → known_slot (standing o x.client all_of) x.call ≡ slot_at x
    same_slot x b = ap (λ (l : List Record). known_slot (standing o x.client l) x.call) b.whole

    abbrev ends : (x : RunsAlone o all_of) → Past x ⊎ (Goes x ⊎ Opens x) → EndsAlone o.setup.pool (standing o x.client x.before) (slot_at x) x.call x.client x.steps
    ends x (inl p) = all (old_past x p)
    ends x (inr (inl g)) = ends_more o.setup.pool (standing o x.client x.before) ws clients x.client x.call g.first x.steps r g.steps (slot_at x) (all (old_goes x g)) (leaves (old_goes x g) refl g.own)
    ends x (inr (inr b)) = ends_none o ws clients x.client x.call all_of x.before b.whole x.steps b.none (known_slot (standing o x.client all_of) x.call) (slot_at x) (same_slot x b) (begins_now x b)

    abbrev more : AllAlone o all_of
    more x = ends x (split x)

    module _ (x : RunsAlone o all_of) (i : ℕ) (y : ClientState) (seat : suc i ≡ x.client) (here : nth clients i ≡ Some y) where
      goes_on : (g : Goes x) (slot : Option ℕ) (old : EndsAlone o.setup.pool (standing o x.client x.before) slot x.call x.client g.first) (l : Leaves o.setup.pool (standing o x.client x.before) ws clients x.client x.call g.first r slot old)
          → Will o ws y all_of x slot (ends_more o.setup.pool (standing o x.client x.before) ws clients x.client x.call g.first x.steps r g.steps slot old l)
      goes_on g None old l = inr (l.2 i y seat here)
      goes_on g (Some slot) old l =
          let k = length-append g.first (r ∷ []) in
          let s : length x.steps ≡ length (g.first ++ r ∷ []) = ap length g.steps in
          let w = l.3 i y seat here in
          (l.0, (let q : length x.steps + l.0 ≡ suc (length g.first) + l.0 = omega arith in q ∙ l.1), w.0, w.1)

      starts_now : (none : x.steps ≡ []) (front : List Record) (e : front ≡ x.before) (a b : Option ℕ) (q : a ≡ b) (h : Begins o.setup.pool (standing o x.client front) ws clients x.client x.call a)
          → Will o ws y all_of x b (ends_none o ws clients x.client x.call front x.before e x.steps none a b q h)
      starts_now none front e None None q h = inl (none, h i y seat here)
      starts_now none front e None (Some t) q h = absurd cc
      starts_now none front e (Some s) None q h = absurd cc
      starts_now none front e (Some s) (Some t) q h =
          let z : length x.steps ≡ 0 = ap length none in
          let n : ℕ = cost_of o.setup.pool (standing o x.client front) s x.call h.0 in
          (n, omega arith, h.1 i y seat here, λ k. absurd (some_cost x.call h.0.way.loads (length h.0.tags) h.0.tail h.0.version k))

      underway : x.after ≡ [] → (s : Past x ⊎ (Goes x ⊎ Opens x)) → Will o ws y all_of x (slot_at x) (ends x s)
      underway now (inl p) = absurd (p.behind now)
      underway now (inr (inl g)) = goes_on g (slot_at x) (all (old_goes x g)) (leaves (old_goes x g) refl g.own)
      underway now (inr (inr b)) = starts_now b.none all_of b.whole (known_slot (standing o x.client all_of) x.call) (slot_at x) (same_slot x b) (begins_now x b)

    -- one record more: each call that ran alone up to it and makes it, or is started by it, is answered at its cost, and will be
    pub alone_more : AloneSoFar o ws clients all_of
    alone_more = record { all = more; underway = λ x now i y seat here. underway x i y seat here now (split x) }
