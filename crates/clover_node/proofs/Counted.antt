-- The load of the count as the node's access: it is due by the definition of what a call does, and leads it to its end.
use Rattle.std.proofs.Common.{◌≡◌, ℕ, ◌⊎◌, length, Bool, true, false, cond, eqb, inl, inr, refl, sym, ◌∙◌, subst, eqb-true}
use Rattle.clover_words.specs.declared.bytes.ValueBuf.{ValueBuf}
use Rattle.clover_words.specs.declared.word.Word.TheVariants.{Count}
use Rattle.clover_map.specs.declared.call.Call.{Call}
use Rattle.clover_map.specs.declared.call.Call.TheVariants.{Get, Put, Delete, Swap}
use Rattle.clover_rule.specs.Steps.{Step, act_of}
use Rattle.clover_rule.specs.declared.access.Act.TheVariants.{Load}
use Rattle.clover_rule.specs.declared.view.View.{View}
use Rattle.clover_call.specs.declared.answer.Answer.TheVariants.{Absent}
use Rattle.clover_call.specs.declared.under.Underway.{Underway}
use Rattle.clover_node.specs.Asking.{Asking, Counts as ToCount, Misses, Lacks, counted, count_step}
use Rattle.clover_node.specs.Going.{GoesAt, IsDueAt, NodeGoesOn, NodeIsDue}
use Rattle.clover_node.specs.Mirroring.{AskMirrors, TellsOf, UnderMirrors}
use Rattle.clover_node.specs.Node.{NodeState, Counts, IsAsked, IsCounting, count_of, first_of, node_first, node_step, step_of}
use Rattle.clover_node.specs.Turning.{OnMade, OnRefused, count_turn}
use Rattle.clover_node.specs.declared.answer.NodeRefusal.TheVariants.{Unreached, Behind, Linked, TooLong, NeedsStock, NeedsNames}
use Rattle.clover_node.specs.declared.answer.NodeTurn.{NodeTurn}
use Rattle.clover_node.specs.declared.answer.NodeTurn.TheVariants.{More, Decided, Done, Refused}
use Rattle.clover_node.specs.declared.counting.Counting.{Counting}
use Rattle.clover_node.specs.declared.counting.Counting.TheVariants.{No, Names, Absence}
use Rattle.clover_node.proofs.Loading.{uncounted}

-- the load of the count is one access, whatever it is for
count_act : (c : Counting) (call : Call) (k : ℕ) → act_of (count_of c call) k ≡ Load Count k
count_act No call k = refl
count_act Names call k = refl
count_act Absence call k = refl

step_act : (call : Call) (k : ℕ) → act_of (count_step call) k ≡ Load Count k
step_act (Get key) k = refl
step_act (Put key value) k = refl
step_act (Delete key) k = refl
step_act (Swap key expected value) k = refl

module _ (n : NodeState) (x : ℕ) where
  by_test : (call : Call) (own : ℕ) (b : Bool) → eqb x (length n.names) ≡ b → TellsOf call own (length n.names) x ToCount (cond b Misses Lacks) (cond b (Done Absent) (Refused (NeedsNames (length n.names) x)))
  by_test call own true e = (refl, eqb-true x (length n.names) e)
  by_test call own false e = refl

  -- the turn tells of the call where it is by the definition
  count_tells : (c : Counting) (call : Call) (own : ℕ) → Counts c call → TellsOf call own (length n.names) x ToCount (counted call (length n.names) x) (count_turn c (length n.names) x)
  count_tells No call own h = absurd h
  count_tells Names (Get key) own h = absurd h
  count_tells Names (Put key value) own h = refl
  count_tells Names (Delete key) own h = absurd h
  count_tells Names (Swap key expected value) own h = absurd h
  count_tells Absence (Get key) own h = by_test (Get key) own (eqb x (length n.names)) refl
  count_tells Absence (Put key value) own h = absurd h
  count_tells Absence (Delete key) own h = by_test (Delete key) own (eqb x (length n.names)) refl
  count_tells Absence (Swap key expected value) own h = by_test (Swap key expected value) own (eqb x (length n.names)) refl

  mirrored : (c : Counting) (call : Call) (room : ValueBuf) (other : Call) (own : ℕ) (a : Asking) → Counts c call → AskMirrors c n room other own a → Counts c other × (a ≡ ToCount)
  mirrored No call room other own a h m = absurd h
  mirrored Names call room other own a h m = m
  mirrored Absence call room other own a h m = m

  -- the load is due by the definition of what a call does, and leads it to its end
  count_due : (call : Call) (room : ValueBuf) → IsCounting n call → NodeIsDue n room (count_of n.counting call) x (uncounted n) room (count_turn n.counting (length n.names) x)
  count_due call room asks other own a m =
      let is = mirrored n.counting call room other own a asks.counts m in
      subst (λ (z : Asking). IsDueAt n (count_of n.counting call) x (uncounted n) room (count_turn n.counting (length n.names) x) other own z) (sym is.1) (record {
        step_due = count_step other;
        due = refl;
        acts = λ k. count_act n.counting call k ∙ sym (step_act other k);
        leads = subst (λ (u : Underway). UnderMirrors u room other own (counted other (length n.names) x)) (sym asks.idle) tt;
        tells = count_tells n.counting other own is.0;
      })

counts_step : (c : Counting) (n : NodeState) (call : Call) (v : View) (room : ValueBuf) → Counts c call → step_of c n call v room ≡ count_of c call
counts_step No n call v room h = absurd h
counts_step Names n call v room h = refl
counts_step Absence n call v room h = refl

counts_first : (c : Counting) (n : NodeState) (call : Call) → Counts c call → first_of c n ≡ true
counts_first No n call h = absurd h
counts_first Names n call h = refl
counts_first Absence n call h = refl

counts_goes : (c : Counting) (n : NodeState) (call : Call) (v : View) (room : ValueBuf) (step : Step) (x : ℕ) (w : View) → Counts c call → GoesAt c n v room step x (count_turn c (length n.names) x) (uncounted n) w room
counts_goes No n call v room step x w h = absurd h
counts_goes Names n call v room step x w h = (refl, refl, refl)
counts_goes Absence n call v room step x w h = (refl, refl, refl)

-- the load is the node's access
pub count_made : (n : NodeState) (call : Call) (v : View) (room : ValueBuf) (w : View) (M : Step → Bool → ℕ → Type 0) (t : NodeTurn) → IsCounting n call → (x : ℕ) × M (count_of n.counting call) true x × (t ≡ count_turn n.counting (length n.names) x)
    → (i : ℕ) × M (node_step n call v room) (node_first n) i × NodeGoesOn n v room (node_step n call v room) i t (uncounted n) w room × NodeIsDue n room (node_step n call v room) i (uncounted n) room t
count_made n call v room w M t asks (x, made, is) =
    let step = sym (counts_step n.counting n call v room asks.counts) in
    let first = sym (counts_first n.counting n call asks.counts) in
    let B : NodeTurn → Type 0 = λ u. (i : ℕ) × M (node_step n call v room) (node_first n) i × NodeGoesOn n v room (node_step n call v room) i u (uncounted n) w room × NodeIsDue n room (node_step n call v room) i (uncounted n) room u in
    subst B (sym is) (
      x,
      subst (λ (b : Bool). M (node_step n call v room) b x) first (subst (λ (s : Step). M s true x) step made),
      counts_goes n.counting n call v room (node_step n call v room) x w asks.counts,
      subst (λ (s : Step). NodeIsDue n room s x (uncounted n) room (count_turn n.counting (length n.names) x)) step (count_due n x call room asks),
    )

-- what was shown where the access was made, or where it was refused
pub made_so : {A B : Type 0} (t : NodeTurn) → (A → B) → OnMade t A → OnMade t B
made_so More f a = f a
made_so (Decided x) f a = f a
made_so (Done x) f a = f a
made_so (Refused Unreached) f a = tt
made_so (Refused (Behind n)) f a = f a
made_so (Refused (Linked t)) f a = tt
made_so (Refused (TooLong l m)) f a = f a
made_so (Refused NeedsStock) f a = f a
made_so (Refused (NeedsNames k b)) f a = f a

pub refused_so : {A B : Type 0} (t : NodeTurn) → (A → B) → OnRefused t A → OnRefused t B
refused_so More f a = tt
refused_so (Decided x) f a = tt
refused_so (Done x) f a = tt
refused_so (Refused Unreached) f a = f a
refused_so (Refused (Behind n)) f a = tt
refused_so (Refused (Linked t)) f a = f a
refused_so (Refused (TooLong l m)) f a = tt
refused_so (Refused NeedsStock) f a = tt
refused_so (Refused (NeedsNames k b)) f a = tt

-- a call that loads the count next
pub asked_counting : (c : Counting) (n : NodeState) (v : View) (call : Call) → (c ≡ Names) ⊎ (c ≡ Absence) → IsAsked c n v call → IsCounting n call
asked_counting No n v call (inl e) h = absurd cc
asked_counting No n v call (inr e) h = absurd cc
asked_counting Names n v call e h = h
asked_counting Absence n v call e h = h
