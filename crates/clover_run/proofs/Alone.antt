-- Calls that run alone, behind one record more: one that has nothing to do with them, one that starts a call, and one that is a step of such a call.
use Prim.Native.Nat.{suc}
use Rattle.std.proofs.Common.{◌≡◌, ◌≢◌, ℕ, ◌+◌, List, [], ◌∷◌, ◌++◌, length, Bool, true, false, refl, sym, ap, ◌∙◌, subst, arith, inl, inr, append-nil}
use Rattle.std.specs.Prelude.{Option, Some, None}
use Rattle.clover_words.specs.declared.pool.Pool.{Pool}
use Rattle.clover_map.specs.declared.call.Call.{Call}
use Rattle.clover_script.specs.declared.line.Task.TheVariants.{Client as ClientTask}
use Rattle.clover_rule.specs.Lists.{nth}
use Rattle.clover_rule.specs.declared.access.Access.{Access}
use Rattle.clover_call.specs.declared.under.Underway.{Underway}
use Rattle.clover_call.specs.declared.under.Underway.TheVariants.{Nothing as NoCall}
use Rattle.clover_node.specs.Node.{IsIdle}
use Rattle.clover_event.specs.Run.{lost}
use Rattle.clover_event.specs.Alone.{EndsIn}
use Rattle.clover_event.specs.declared.event.Event.{Event}
use Rattle.clover_event.specs.declared.event.Event.TheVariants.{Step}
use Rattle.clover_run.specs.Alone.{Starts, IsOwnStep, RunsAlone, Finds, cost_of, IsAnswered, NotesWith, IsCount, Advances, EndsAlone}
use Rattle.clover_run.specs.Record.{Record}
use Rattle.clover_run.specs.Run.{Opening, Standing, IsCause, IsOwnAccess, standing, known_slot, want_in}
use Rattle.clover_run.specs.SoFar.{Will, AloneSoFar}
use Rattle.clover_run.specs.declared.client.ClientState.{ClientState}
use Rattle.clover_run.specs.declared.event.Note.{Note}
use Rattle.clover_run.specs.declared.event.Note.TheVariants.{Quiet, Answered, Refused}
use Rattle.clover_run.specs.declared.want.Want.TheVariants.{Nothing}
use Rattle.clover_run.proofs.Moments.{no_front}
use Rattle.clover_run.proofs.Stretch.{no_snoc, Begins, Leaves, alone_more}

-- an own access starts no call
pub own_starts_none : (p : Pool) (st : Standing) (r : Record) (access : Access) (a : ℕ) → r.event ≡ Step a → IsOwnAccess p st r access → (c : ℕ) → Starts c r.event r.note → ⊥
own_starts_none p st r access a event own c s = by_refused access.refused refl
  where
    stepped : Starts c (Step a) r.note
    stepped = subst (λ (e : Event). Starts c e r.note) event s

    by_note : (note : Note) → IsCause p st r.entry access.act note → Starts c (Step a) note → ⊥
    by_note Quiet h z = z
    by_note (Answered d reply) h z = z
    by_note (Refused d y) h z = z
    by_note note h z = h

    by_refused : (b : Bool) → access.refused ≡ b → ⊥
    by_refused true e = let q : Starts c (Step a) (Refused st.actor (lost st.does.decided)) = subst (Starts c (Step a)) (own.unreached e).0 stepped in q
    by_refused false e = by_note r.note (own.cause e) stepped

-- a client that has just started a call that wants nothing: on no slot nothing is under way there, and on a slot the call finds its way, and will end at its cost
abbrev pub BeginsAlone : Pool → Standing → List ℕ → ClientState → Call → Option ℕ → Type 0
BeginsAlone p st ws y call None = y.node.caller.under ≡ NoCall
BeginsAlone p st ws y call (Some slot) = (f : Finds p st slot call) × EndsIn p ws (cost_of p st slot call f) y.node.caller.under y.room

-- nothing has run alone before the first record
none_before : (o : Opening) → RunsAlone o [] → ⊥
none_before o x = no_snoc x.started.0 x.started.1 (let l : [] ≡ x.before ++ (x.steps ++ x.after) = x.whole in no_front x.before (x.steps ++ x.after) l ∙ x.started.2)

pub alone_first : (o : Opening) (ws : List ℕ) (clients : List ClientState) → AloneSoFar o ws clients []
alone_first o ws clients = record { all = λ x. absurd (none_before o x); underway = λ x. absurd (none_before o x) }

module _ (o : Opening) (rs : List Record) (r : Record) (ws ws1 : List ℕ) (clients clients1 : List ClientState) (at : AloneSoFar o ws clients rs) where
  -- the record starts no call that wants nothing
  abbrev pub StartsNone : Type 0
  StartsNone = (c : ℕ) (call : Call) (written : ℕ) → Starts c r.event r.note → (standing o c (rs ++ r ∷ [])).does.task ≡ Some (ClientTask call written) → want_in (standing o c (rs ++ r ∷ [])) call ≡ Nothing → ⊥

  -- a record that starts no call that wants nothing, and is no own access that was made
  pub alone_aside : StartsNone → ((c : ℕ) → IsOwnStep c r → ⊥) → AloneSoFar o ws1 clients1 (rs ++ r ∷ [])
  alone_aside none still = alone_more o rs r at.all ws1 clients1 (λ c call written s t f. absurd (none c call written s t f)) (λ x now s. absurd (still x.client s))

  module _ (i : ℕ) (y : ClientState) (there : nth clients1 i ≡ Some y) where
    same_client : (c : ℕ) → c ≡ suc i → (j : ℕ) (z : ClientState) → suc j ≡ c → nth clients1 j ≡ Some z → y ≡ z
    same_client c e j z seat here =
        let k : j ≡ i = omega arith in
        let q : Some y ≡ Some z = sym there ∙ ap (λ (n : ℕ). nth clients1 n) (sym k) ∙ here in cc

    begins_as : (c : ℕ) → c ≡ suc i → (p : Pool) (st : Standing) (call : Call) (slot : Option ℕ) → BeginsAlone p st ws1 y call slot → Begins p st ws1 clients1 c call slot
    begins_as c e p st call None b = λ j z seat here. subst (λ (k : ClientState). k.node.caller.under ≡ NoCall) (same_client c e j z seat here) b
    begins_as c e p st call (Some slot) b = (b.0, λ j z seat here. subst (λ (k : ClientState). EndsIn p ws1 (cost_of p st slot call b.0) k.node.caller.under k.room) (same_client c e j z seat here) b.1)

    -- a record that starts a call of this client, and is no own access that was made
    pub alone_begins : (call : Call) (written : ℕ) → ((c : ℕ) → Starts c r.event r.note → c ≡ suc i) → ((c : ℕ) → IsOwnStep c r → ⊥) → (standing o (suc i) (rs ++ r ∷ [])).does.task ≡ Some (ClientTask call written)
        → (want_in (standing o (suc i) (rs ++ r ∷ [])) call ≡ Nothing → BeginsAlone o.setup.pool (standing o (suc i) (rs ++ r ∷ [])) ws1 y call (known_slot (standing o (suc i) (rs ++ r ∷ [])) call)) → AloneSoFar o ws1 clients1 (rs ++ r ∷ [])
    alone_begins call written who still task begins = alone_more o rs r at.all ws1 clients1 here (λ x now s. absurd (still x.client s))
      where
        mine : (other : Call) (w : ℕ) → (standing o (suc i) (rs ++ r ∷ [])).does.task ≡ Some (ClientTask other w) → call ≡ other
        mine other w t = let q : Some (ClientTask call written) ≡ Some (ClientTask other w) = sym task ∙ t in cc

        here : (c : ℕ) (other : Call) (w : ℕ) → Starts c r.event r.note → (standing o c (rs ++ r ∷ [])).does.task ≡ Some (ClientTask other w) → want_in (standing o c (rs ++ r ∷ [])) other ≡ Nothing → Begins o.setup.pool (standing o c (rs ++ r ∷ [])) ws1 clients1 c other (known_slot (standing o c (rs ++ r ∷ [])) other)
        here c other w s t f =
            let e = who c s in
            let t1 : (standing o (suc i) (rs ++ r ∷ [])).does.task ≡ Some (ClientTask other w) = subst (λ (n : ℕ). (standing o n (rs ++ r ∷ [])).does.task ≡ Some (ClientTask other w)) e t in
            let f1 : want_in (standing o (suc i) (rs ++ r ∷ [])) other ≡ Nothing = subst (λ (n : ℕ). want_in (standing o n (rs ++ r ∷ [])) other ≡ Nothing) e f in
            let m = mine other w t1 in
            let b = begins_as (suc i) refl o.setup.pool (standing o (suc i) (rs ++ r ∷ [])) call (known_slot (standing o (suc i) (rs ++ r ∷ [])) call) (begins (subst (λ (k : Call). want_in (standing o (suc i) (rs ++ r ∷ [])) k ≡ Nothing) (sym m) f1)) in
            subst (λ (n : ℕ). Begins o.setup.pool (standing o n (rs ++ r ∷ [])) ws1 clients1 n other (known_slot (standing o n (rs ++ r ∷ [])) other)) (sym e)
            (subst (λ (k : Call). Begins o.setup.pool (standing o (suc i) (rs ++ r ∷ [])) ws1 clients1 (suc i) k (known_slot (standing o (suc i) (rs ++ r ∷ [])) k)) m b)

    -- so does one without an access
    pub alone_started : (call : Call) (written : ℕ) → ((c : ℕ) → Starts c r.event r.note → c ≡ suc i) → r.access ≡ None → (standing o (suc i) (rs ++ r ∷ [])).does.task ≡ Some (ClientTask call written)
        → (want_in (standing o (suc i) (rs ++ r ∷ [])) call ≡ Nothing → BeginsAlone o.setup.pool (standing o (suc i) (rs ++ r ∷ [])) ws1 y call (known_slot (standing o (suc i) (rs ++ r ∷ [])) call)) → AloneSoFar o ws1 clients1 (rs ++ r ∷ [])
    alone_started call written who none = alone_begins call written who (λ c s. let q : None ≡ Some s.access = sym none ∙ s.is in cc)

    -- an own access of this client that was made: x is the client before it, which has a call under way
    module _ (x : ClientState) (before : nth clients i ≡ Some x) (event : r.event ≡ Step (suc i)) (busy : IsIdle x.node → ⊥)
        (counts : x.node.caller.under ≡ NoCall → IsIdle y.node × ((call : Call) (written : ℕ) → (standing o (suc i) rs).does.task ≡ Some (ClientTask call written) → IsCount (standing o (suc i) rs) call r)) (over : IsAnswered (suc i) r.note → IsIdle y.node)
        (advances : (n : ℕ) → x.node.caller.under ≢ NoCall → EndsIn o.setup.pool ws n x.node.caller.under x.room → Advances (suc i) o.setup.pool n ws1 y.node.caller.under y.room r.note) where
      ended_now : (n : ℕ) → NotesWith (suc i) n r.note → n ≡ 0 → IsIdle y.node
      ended_now n notes e = over (subst (λ (k : ℕ). NotesWith (suc i) k r.note) e notes)

      no_call : (n : ℕ) → (n ≡ 0 → IsIdle x.node) → EndsIn o.setup.pool ws n x.node.caller.under x.room → x.node.caller.under ≢ NoCall
      no_call n over_at ends u = busy (over_at (subst (λ (k : Underway). EndsIn o.setup.pool ws n k x.room) u ends))

      -- the load of the count is that of the call under way
      count_now : (z : RunsAlone o rs) → z.client ≡ suc i → z.after ≡ [] → z.steps ≡ [] → x.node.caller.under ≡ NoCall → IsCount (standing o z.client z.before) z.call r
      count_now z e now none calls =
          let all : rs ≡ z.before = z.whole ∙ (λ k. z.before ++ (none k ++ now k)) ∙ append-nil z.before in
          let task : (standing o (suc i) rs).does.task ≡ Some (ClientTask z.call z.written) = subst (λ (c : ℕ). (standing o c rs).does.task ≡ Some (ClientTask z.call z.written)) e (subst (λ (l : List Record). (standing o z.client l).does.task ≡ Some (ClientTask z.call z.written)) (sym all) z.task) in
          subst (λ (l : List Record). IsCount (standing o z.client l) z.call r) all (subst (λ (c : ℕ). IsCount (standing o c rs) z.call r) (sym e) ((counts calls).1 z.call z.written task))

      steps_on : (z : RunsAlone o rs) → z.client ≡ suc i → z.after ≡ [] → (slot : Option ℕ) (ends : EndsAlone o.setup.pool (standing o z.client z.before) slot z.call z.client z.steps) → Will o ws x rs z slot ends
          → Leaves o.setup.pool (standing o z.client z.before) ws1 clients1 z.client z.call z.steps r slot ends
      steps_on z e now None ends (inl w) = (w.0, count_now z e now w.0 w.1, λ j k seat here. subst (λ (l : ClientState). IsIdle l.node) (same_client z.client e j k seat here) (counts w.1).0)
      steps_on z e now None ends (inr idle) = absurd (busy idle)
      steps_on z e now (Some slot) ends w =
          let a = advances w.0 (no_call w.0 w.3 w.2) w.2 in
          let one = a.one in (
            a.left,
            (let q : suc (length z.steps) + a.left ≡ length z.steps + w.0 = omega arith in q ∙ w.1),
            subst (λ (n : ℕ). NotesWith n a.left r.note) (sym e) a.notes,
            λ j k seat here. subst (λ (l : ClientState). EndsIn o.setup.pool ws1 a.left l.node.caller.under l.room × (a.left ≡ 0 → IsIdle l.node)) (same_client z.client e j k seat here) (a.ends, λ q. ended_now a.left a.notes q),
          )

      pub alone_stepped : StartsNone → AloneSoFar o ws1 clients1 (rs ++ r ∷ [])
      alone_stepped none = alone_more o rs r at.all ws1 clients1 (λ c call written s t f. absurd (none c call written s t f)) (λ z now s.
          let e : z.client ≡ suc i = (let q : Step z.client ≡ Step (suc i) = sym s.event ∙ event in cc) in
          steps_on z e now (known_slot (standing o z.client z.before) z.call) (at.all z) (at.underway z now i x (sym e) before))
