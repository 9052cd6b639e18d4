-- What an access of the server for the recycler leaves: the bindings that it read, what it has given back, and what is left of its task.
use Rattle.std.proofs.Common.{◌≡◌, ℕ, ◌+◌, ◌-◌, ◌<◌, ◌≤◌, suc, zero, List, [], ◌∷◌, ◌++◌, length, Bool, true, false, if◌then◌else◌, inl, inr, refl, sym, ap, ◌∙◌, subst, arith}
use Rattle.std.specs.Prelude.{Option, Some, None, IsSome, slice_get}
use Rattle.std.proofs.lemmas.Option.{slice_get_within}
use Rattle.std.proofs.Math.ListN.{length-append}
use Rattle.clover_words.specs.Tag.{TagParts}
use Rattle.clover_dir.specs.Directory.{IsBound}
use Rattle.clover_rule.specs.Lists.{IsPrefix, Within}
use Rattle.clover_rule.specs.declared.access.Access.{Access}
use Rattle.clover_server.specs.Left.{Lessens, sweep_left}
use Rattle.clover_server.specs.Looking.{slot_in}
use Rattle.clover_server.specs.Server.{ServerState}
use Rattle.clover_server.specs.Steps.{Begins, Recycles, or_finish}
use Rattle.clover_server.specs.declared.turn.ServerTurn.{ServerTurn}
use Rattle.clover_server.specs.declared.turn.ServerTurn.TheVariants.{More, Ready, Unlinked as TurnUnlinked, Recycled as TurnRecycled, Full, NoSlot, Unreached as TurnUnreached}
use Rattle.clover_server.specs.declared.work.Unfinished.{Unfinished}
use Rattle.clover_server.proofs.Repeating.{access_leaves}
use Rattle.clover_run.specs.Cleaning.{Cleans, clean_note, reads, swept_note, slot_due}
use Rattle.clover_run.specs.Serving.{telling}
use Rattle.clover_run.specs.declared.event.Note.{Note}
use Rattle.clover_run.specs.declared.event.Note.TheVariants.{Quiet, Recycled, Unlinked, Swept, Unreached}
use Rattle.clover_run.specs.declared.recycler.Chore.{Chore}
use Rattle.clover_run.specs.declared.recycler.Chore.TheVariants.{OfSlot, OfAll}
use Rattle.clover_run.specs.declared.served.Served.{Served}

-- an element that was found stands in the list, and stands in each that begins with it
pub within_got : {A : Type 0} (xs : List A) (i : ℕ) (q : A) → slice_get xs i ≡ Some q → Within q xs
within_got [] i q e = absurd (let z : None ≡ Some q = e in cc)
within_got (x ∷ xs) zero q e = inl (let z : Some x ≡ Some q = e in cc)
within_got (x ∷ xs) (suc i) q e = inr (within_got xs i q e)

within_more : {A : Type 0} (xs rest : List A) (q : A) → Within q xs → Within q (xs ++ rest)
within_more [] rest q h = absurd h
within_more (x ∷ xs) rest q (inl e) = inl e
within_more (x ∷ xs) rest q (inr h) = inr (within_more xs rest q h)

pub bound_grown : (s n : ServerState) (slot : ℕ) → IsPrefix s.directory.list n.directory.list → IsBound slot s.directory → IsBound slot n.directory
bound_grown s n slot g b = (b.0, subst (λ (l : List (ℕ × List ℕ)). Within (slot, b.0) l) (sym g.1) (within_more s.directory.list g.0 (slot, b.0) b.1))

pub length_grown : {A : Type 0} (xs ys : List A) → IsPrefix xs ys → length xs ≤ length ys
length_grown xs ys g = let e = ap length g.1 ∙ length-append xs g.0 in omega arith

-- the slot that a sweep has due is that of the binding there
pub due_bound : (v : Served) (slot : ℕ) → slot_due OfAll v ≡ Some slot → IsBound slot v.server.directory
due_bound v slot e = by (slice_get v.server.directory.list v.read) refl e
  where
    by : (o : Option (ℕ × List ℕ)) → slice_get v.server.directory.list v.read ≡ o → slot_in o ≡ Some slot → IsBound slot v.server.directory
    by None got h = absurd (let z : None ≡ Some slot = h in cc)
    by (Some q) got h =
        let same : q.0 ≡ slot = (let z : Some q.0 ≡ Some slot = h in cc) in
        (q.1, subst (λ (k : ℕ). Within (k, q.1) v.server.directory.list) same (within_got v.server.directory.list v.read q got))

-- the note of an access is one of these
module _ (P : Note → Type 0) (quiet : P Quiet) (unreached : P Unreached) (unlinked : P Unlinked) (recycled : (old : TagParts) → P (Recycled old)) (swept : (count : ℕ) → P (Swept count)) where
  swept_is : (w : Served) (slot : Option ℕ) → P (swept_note w slot)
  swept_is w None = swept w.done
  swept_is w (Some slot) = quiet

  pub note_is : (chore : Chore) (w : Served) (turn : ServerTurn) → P (clean_note chore w turn)
  note_is (OfSlot slot) w More = quiet
  note_is (OfSlot slot) w Ready = quiet
  note_is (OfSlot slot) w TurnUnlinked = unlinked
  note_is (OfSlot slot) w (TurnRecycled old) = recycled old
  note_is (OfSlot slot) w (Full bound worn out) = quiet
  note_is (OfSlot slot) w NoSlot = quiet
  note_is (OfSlot slot) w TurnUnreached = unreached
  note_is OfAll w More = quiet
  note_is OfAll w Ready = quiet
  note_is OfAll w TurnUnlinked = swept_is w (slot_due OfAll w)
  note_is OfAll w (TurnRecycled old) = quiet
  note_is OfAll w (Full bound worn out) = quiet
  note_is OfAll w NoSlot = quiet
  note_is OfAll w TurnUnreached = unreached

-- a refused access leaves the books as they are
begun_books : (s b : ServerState) (slot : ℕ) (u : Option Unfinished) → Begins s (or_finish u (Recycles slot)) b → b.books ≡ s.books
begun_books s b slot None h = ap (λ (z : ServerState). z.books) h.2
begun_books s b slot (Some u) h = ap (λ (z : ServerState). z.books) h

abbrev refusal : Option Access → Bool
refusal None = false
refusal (Some x) = x.refused

module _ (s n : ServerState) (turn : ServerTurn) (a : Access) (lost : a.refused ≡ true) where
  pub refused_books : (slot : Option ℕ) → Cleans slot s n turn (telling (Some a)) → n.books ≡ s.books
  refused_books (Some slot) h = access_leaves turn _ _ h.2
      (λ x m. absurd (let e = m.0 in let z : a.refused ≡ false = ap refusal e in let k : true ≡ false = sym lost ∙ z in cc))
      (λ m. ap (λ (z : ServerState). z.books) m.1 ∙ begun_books s h.0 slot s.task h.1)
  refused_books None h = access_leaves turn _ _ h
      (λ x m. absurd (let e = m.0 in let z : a.refused ≡ false = ap refusal e in let k : true ≡ false = sym lost ∙ z in cc))
      (λ m. ap (λ (z : ServerState). z.books) m.1)

-- a count of those that were given back grows by one at most where the access was made, and not where it was refused
pub given_more : (done made given before : ℕ) (lost : Bool) → done ≤ made → given ≤ before + 1 → (lost ≡ true → given ≡ before) → done + (given - before) ≤ (if lost then made else suc made)
given_more done made given before true few one none = let e = none refl in omega arith
given_more done made given before false few one none = omega arith

-- a root version that was read unlinked was of a slot that is due
unlinked_due : (slot : Option ℕ) (s n : ServerState) (a : Access) → Cleans slot s n TurnUnlinked (telling (Some a)) → IsSome slot
unlinked_due (Some slot) s n a h = refl
unlinked_due None s n a h = absurd (let z : TurnUnlinked ≡ More = h.1.2 in cc)

module _ (v : Served) (n : ServerState) (a : Access) (few : v.read ≤ length v.server.directory.list) (grows : IsPrefix v.server.directory.list n.directory.list) where
  longer : length v.server.directory.list ≤ length n.directory.list
  longer = length_grown v.server.directory.list n.directory.list grows

  -- so a sweep that reads one unlinked had one to read
  pub unlinked_below : Cleans (slot_due OfAll v) v.server n TurnUnlinked (telling (Some a)) → v.read < length v.server.directory.list
  unlinked_below h = by (slice_get v.server.directory.list v.read) refl (unlinked_due (slot_due OfAll v) v.server n a h)
    where
      by : (o : Option (ℕ × List ℕ)) → slice_get v.server.directory.list v.read ≡ o → IsSome (slot_in o) → v.read < length v.server.directory.list
      by None got h = absurd (let z : false ≡ true = h in cc)
      by (Some q) got h = slice_get_within v.server.directory.list v.read q got

  -- it has read no more bindings than there are
  pub read_few : (chore : Chore) (turn : ServerTurn) → Cleans (slot_due chore v) v.server n turn (telling (Some a)) → v.read + reads chore turn ≤ length n.directory.list
  read_few (OfSlot slot) turn h = let l = longer in omega arith
  read_few OfAll More h = let l = longer in omega arith
  read_few OfAll Ready h = let l = longer in omega arith
  read_few OfAll TurnUnlinked h = let l = longer in let b = unlinked_below h in omega arith
  read_few OfAll (TurnRecycled old) h = let l = longer in omega arith
  read_few OfAll (Full bound worn out) h = let l = longer in omega arith
  read_few OfAll NoSlot h = let l = longer in omega arith
  read_few OfAll TurnUnreached h = let l = longer in omega arith

  -- an access that ends nothing leaves less to do
  less_by : (after before : ℕ) → length n.directory.list ≤ after → after < before → suc (after - (v.read + 0)) < suc (before - v.read)
  less_by after before most less = let l = longer in omega arith

  pub left_less : (chore : Chore) (turn : ServerTurn) (w : Served) → Cleans (slot_due chore v) v.server n turn (telling (Some a)) → Lessens turn (sweep_left v.server) (sweep_left n) → clean_note chore w turn ≡ Quiet → suc (sweep_left n - (v.read + reads chore turn)) < suc (sweep_left v.server - v.read)
  left_less (OfSlot slot) More w h less quiet = less_by (sweep_left n) (sweep_left v.server) (omega arith) less
  left_less (OfSlot slot) Ready w h less quiet = less_by (sweep_left n) (sweep_left v.server) (omega arith) less
  left_less (OfSlot slot) TurnUnlinked w h less quiet = absurd (let z : Unlinked ≡ Quiet = quiet in cc)
  left_less (OfSlot slot) (TurnRecycled old) w h less quiet = absurd (let z : Recycled old ≡ Quiet = quiet in cc)
  left_less (OfSlot slot) (Full bound worn out) w h less quiet = less_by (sweep_left n) (sweep_left v.server) (omega arith) less
  left_less (OfSlot slot) NoSlot w h less quiet = less_by (sweep_left n) (sweep_left v.server) (omega arith) less
  left_less (OfSlot slot) TurnUnreached w h less quiet = absurd (let z : Unreached ≡ Quiet = quiet in cc)
  left_less OfAll More w h less quiet = less_by (sweep_left n) (sweep_left v.server) (omega arith) less
  left_less OfAll Ready w h less quiet = less_by (sweep_left n) (sweep_left v.server) (omega arith) less
  left_less OfAll TurnUnlinked w h less quiet = let l = longer in let b = unlinked_below h in omega arith
  left_less OfAll (TurnRecycled old) w h less quiet = less_by (sweep_left n) (sweep_left v.server) (omega arith) less
  left_less OfAll (Full bound worn out) w h less quiet = less_by (sweep_left n) (sweep_left v.server) (omega arith) less
  left_less OfAll NoSlot w h less quiet = less_by (sweep_left n) (sweep_left v.server) (omega arith) less
  left_less OfAll TurnUnreached w h less quiet = absurd (let z : Unreached ≡ Quiet = quiet in cc)
