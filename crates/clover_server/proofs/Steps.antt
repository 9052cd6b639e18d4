-- That what a call did is the step that was due of it.
use Rattle.std.proofs.Common.{◌≡◌, ◌≢◌, ℕ, ◌+◌, ◌<◌, ◌/◌, ◌%◌, ◌≤◌, inl, ◌&&◌, ⊎_elim, List, [], length, Bool, true, false, not, refl, sym, ap, ◌∙◌, subst, arith}
use Rattle.std.specs.Prelude.{nat_lt, nat_eq, slice_get, if◌then◌else◌, Option, Some, None, IsSome}
use Rattle.std.proofs.lemmas.Bool.Decides.{nat_tests}
use Rattle.std.proofs.lemmas.Option.{slice_get_cases}
use Rattle.clover_words.specs.Tag.{TagParts, tag_number}
use Rattle.clover_words.specs.declared.pool.Pool.{Pool}
use Rattle.clover_port.specs.Told.{Open, Made}
use Rattle.clover_rule.specs.Learned.{looked as showed, counted}
use Rattle.clover_rule.specs.Lists.{Within}
use Rattle.clover_rule.specs.Memory.{link, word}
use Rattle.clover_rule.specs.Steps.{Step, ReadVersion, act_of}
use Rattle.clover_rule.specs.Words.{next_of, root_of as root_in_word}
use Rattle.clover_rule.specs.declared.view.View.{View}
use Rattle.clover_alloc.specs.Ledger.{total_of, count_of}
use Rattle.clover_alloc.specs.declared.line.Place.TheVariants.{Bound, Worn, Out}
use Rattle.clover_dir.specs.Directory.{root_of}
use Rattle.clover_recycle.specs.Recycling.{look_answer}
use Rattle.clover_server.specs.Going.{server_step, went, answer_of, refused, recycle_outcome, taken_in, turn_of}
use Rattle.clover_server.specs.Holding.{Agrees}
use Rattle.clover_server.specs.Looking.{position, free_in, room_of, lacks, swept_or, or_full}
use Rattle.clover_server.specs.Server.{ServerState}
use Rattle.clover_server.specs.Steps.{Due, Finishes, Sweeps, Recycles, Binds, Answers, WantStep, RecycleStep, FinishStep, OnAccess, Begins, or_finish, by_room, stock_due, recycle_due, ended, sweeping, recycling, swept, swept_on, swept_turn, all_swept, ended_if, full_if, full_turn, own_turn, is_left}
use Rattle.clover_server.specs.Told.{IsFull, IfFull}
use Rattle.clover_server.specs.declared.due.Room.{Room}
use Rattle.clover_server.specs.declared.due.Room.TheVariants.{Swept, Full as NoRoom, Free as HasRoom}
use Rattle.clover_server.specs.declared.turn.ServerTurn.{ServerTurn}
use Rattle.clover_server.specs.declared.turn.ServerTurn.TheVariants.{More, Ready, Unlinked, Recycled, Full, NoSlot, Unreached}
use Rattle.clover_server.specs.declared.work.Unfinished.{Unfinished}
use Rattle.clover_server.proofs.Wants.{agrees_ended, agrees_swept_on, is_full, busy_due, idle_due}

-- what go_on tells: the access of the server b was made or refused, and left n with this answer
abbrev pub WentOn : (b n : ServerState) → ServerTurn → (Step → ℕ → Type 0) → Type 0 → Type 0
WentOn b n r made failed = OnAccess r (λ x. made (server_step b) x × (n ≡ went b x) × (r ≡ answer_of b x)) (failed × (n ≡ refused b))

-- an answer that is no refusal
made_of : (r : ServerTurn) {C : Type 0} (A : ℕ → Type 0) (B : Type 0) → r ≢ Unreached → OnAccess r A B → ((x : ℕ) → A x → C) → C
made_of More A B u q f = f q.0 q.1
made_of Ready A B u q f = f q.0 q.1
made_of Unlinked A B u q f = f q.0 q.1
made_of (Recycled old) A B u q f = f q.0 q.1
made_of (Full bound worn out) A B u q f = f q.0 q.1
made_of NoSlot A B u q f = f q.0 q.1
made_of Unreached A B u q f = absurd (u refl)

-- a load that showed the root version unlinked
pub knows : (p : Pool) (v : View) (o : Option Open) (x : ℕ) (w : View) (o1 : Option Open) (slot : ℕ) (root : TagParts) → Made p (ReadVersion slot (tag_number root)) false v o x w o1 → Unlinked ≡ turn_of (recycle_outcome slot (look_answer (link (next_of x)))) → Within slot w.server.unlinked
knows p v o x w o1 slot root m h = by (root_in_word (x % 8796093022208)) refl h
  where
    after : Option ℕ → View
    after l = counted false (act_of (ReadVersion slot (tag_number root)) x) 0 (showed slot (tag_number root) v (word (x / 8796093022208) l))

    by : (l : Option ℕ) → root_in_word (x % 8796093022208) ≡ l → Unlinked ≡ turn_of (recycle_outcome slot (look_answer l)) → Within slot w.server.unlinked
    by None e h = subst (λ (z : View). Within slot z.server.unlinked) (sym (m.told.next ∙ ap after e)) (inl refl)
    by (Some t) e h = absurd cc

module _ (made : Step → ℕ → Type 0) (failed still : Type 0) (s b n : ServerState) (r0 : ServerTurn) (told : WentOn b n r0 made failed) where
  -- a step that finishes a task for a want
  pub want_finished : b ≡ s → r0 ≢ Unreached → WantStep Finishes s n More made failed still
  want_finished e u = (b, e, made_of r0 _ _ u told (λ x q. (x, (q.0, q.1, refl))))

  pub want_refused : b ≡ s → r0 ≡ Unreached → (new : ServerState) (r : ServerTurn) → new ≡ ended n → r ≡ Unreached → WantStep Finishes s new r made failed still
  want_refused e u new r en er =
      let f : failed × (n ≡ refused b) = subst (λ (z : ServerTurn). WentOn b n z made failed) u told in
      subst (λ (z : ServerTurn). WantStep Finishes s new z made failed still) (sym er) (b, e, (f.0, en ∙ ap ended f.1))

  -- a step that finishes a task
  pub finished : (r : ServerTurn) → r ≡ own_turn true r0 → b ≡ s → FinishStep s n r made failed
  finished r er e = subst (λ (z : ServerState). FinishStep z n r made failed) e (subst (λ (z : ServerTurn). FinishStep b n z made failed) (sym er) (by r0 told))
    where
      by : (q : ServerTurn) → WentOn b n q made failed → FinishStep b n (own_turn true q) made failed
      by More t = (t.0, (t.1.0, t.1.1, refl))
      by Ready t = (t.0, (t.1.0, t.1.1, refl))
      by Unlinked t = (t.0, (t.1.0, t.1.1, refl))
      by (Recycled old) t = (t.0, (t.1.0, t.1.1, refl))
      by (Full bound worn out) t = (t.0, (t.1.0, t.1.1, refl))
      by NoSlot t = (t.0, (t.1.0, t.1.1, refl))
      by Unreached t = t

  -- a step of a recycling
  own_told : (left : Bool) (q : ServerTurn) → WentOn b n q made failed → OnAccess (own_turn left q) (λ x. made (server_step b) x × (n ≡ went b x) × (own_turn left q ≡ own_turn left (answer_of b x))) (failed × (n ≡ refused b))
  own_told true More t = (t.0, (t.1.0, t.1.1, ap (own_turn true) t.1.2))
  own_told true Ready t = (t.0, (t.1.0, t.1.1, ap (own_turn true) t.1.2))
  own_told true Unlinked t = (t.0, (t.1.0, t.1.1, ap (own_turn true) t.1.2))
  own_told true (Recycled old) t = (t.0, (t.1.0, t.1.1, ap (own_turn true) t.1.2))
  own_told true (Full bound worn out) t = (t.0, (t.1.0, t.1.1, ap (own_turn true) t.1.2))
  own_told true NoSlot t = (t.0, (t.1.0, t.1.1, ap (own_turn true) t.1.2))
  own_told true Unreached t = t
  own_told false q t = t

  pub recycle_finished : (slot : ℕ) (u : Unfinished) (r : ServerTurn) → s.task ≡ Some u → b ≡ s → r ≡ own_turn u.left r0 → RecycleStep (recycle_due s slot) s n r made failed
  recycle_finished slot u r t e er =
      let due : recycle_due s slot ≡ Finishes = ap (λ (z : Option Unfinished). or_finish z (Recycles slot)) t in
      let is : is_left s.task ≡ u.left = ap is_left t in
      subst (λ (z : Due). RecycleStep z s n r made failed) (sym due) (
        b,
        e,
        subst (λ (z : Bool). OnAccess r (λ x. made (server_step b) x × (n ≡ went b x) × (r ≡ own_turn z (answer_of b x))) (failed × (n ≡ refused b))) (sym is)
            (subst (λ (z : ServerTurn). OnAccess z (λ x. made (server_step b) x × (n ≡ went b x) × (z ≡ own_turn u.left (answer_of b x))) (failed × (n ≡ refused b))) (sym er) (own_told u.left r0 told)),
      )

  pub recycle_began : (slot : ℕ) (root : TagParts) → s.task ≡ None → root_of s.directory slot ≡ Some root → b ≡ recycling s slot root → RecycleStep (recycle_due s slot) s n r0 made failed
  recycle_began slot root t q e =
      let due : recycle_due s slot ≡ Recycles slot = ap (λ (z : Option Unfinished). or_finish z (Recycles slot)) t in
      let is : is_left s.task ≡ false = ap is_left t in
      subst (λ (z : Due). RecycleStep z s n r0 made failed) (sym due)
      (b, (root, q, e), subst (λ (z : Bool). OnAccess r0 (λ x. made (server_step b) x × (n ≡ went b x) × (r0 ≡ own_turn z (answer_of b x))) (failed × (n ≡ refused b))) (sym is) told)

  -- a step of a want's sweep: its load was refused, or it did not show the root version unlinked, or it did
  module _ (slot : ℕ) (root : TagParts) (q : root_of s.directory slot ≡ Some root) (e : b ≡ sweeping (recycling s slot root)) where
    pub sweep_refused : r0 ≡ Unreached → (new : ServerState) (r : ServerTurn) → new ≡ ended n → r ≡ Unreached → WantStep (Sweeps slot) s new r made failed still
    sweep_refused u new r en er =
        let f : failed × (n ≡ refused b) = subst (λ (z : ServerTurn). WentOn b n z made failed) u told in
        subst (λ (z : ServerTurn). WantStep (Sweeps slot) s new z made failed still) (sym er) (b, (root, q, e), (f.0, en ∙ ap ended f.1))

    stays_swept : (r : ServerTurn) (m : ServerState) → r ≢ Unlinked → (swept m r ≡ m) × (swept_turn m r ≡ More)
    stays_swept More m u = (refl, refl)
    stays_swept Ready m u = (refl, refl)
    stays_swept Unlinked m u = absurd (u refl)
    stays_swept (Recycled old) m u = (refl, refl)
    stays_swept (Full bound worn out) m u = (refl, refl)
    stays_swept NoSlot m u = (refl, refl)
    stays_swept Unreached m u = (refl, refl)

    pub sweep_went : r0 ≢ Unlinked → r0 ≢ Unreached → WantStep (Sweeps slot) s n More made failed still
    sweep_went l u = (
      b,
      (root, q, e),
      made_of r0 _ _ u told (λ x k.
          let st = stays_swept r0 (went b x) l in
          (x, (k.0, k.1 ∙ sym (ap (swept (went b x)) (sym k.2) ∙ st.0), sym (ap (swept_turn (went b x)) (sym k.2) ∙ st.1)))),
    )

    full_access : (t : Bool) (m : ServerState) (A : ℕ → Type 0) (B : Type 0) → ((x : ℕ) × A x) → OnAccess (full_if t m) A B
    full_access true m A B a = a
    full_access false m A B a = a

    pub sweep_read : r0 ≡ Unlinked → (new : ServerState) (r : ServerTurn) → new ≡ swept n Unlinked → r ≡ swept_turn n Unlinked → WantStep (Sweeps slot) s new r made failed still
    sweep_read u new r en er =
        let t : WentOn b n Unlinked made failed = subst (λ (z : ServerTurn). WentOn b n z made failed) u told in (
          b,
          (root, q, e),
          subst (λ (z : ServerTurn). OnAccess z (λ x. made (server_step b) x × (new ≡ swept (went b x) (answer_of b x)) × (r ≡ swept_turn (went b x) (answer_of b x))) (failed × (new ≡ ended (refused b)))) (sym er)
              (full_access (all_swept (swept_on n)) (swept_on n) _ _ (t.0, (t.1.0, en ∙ (λ i. swept (t.1.1 i) (t.1.2 i)), er ∙ (λ i. swept_turn (t.1.1 i) (t.1.2 i))))),
        )

    -- what that read left, and that the server knows it
    pub read_left : r0 ≡ Unlinked → n ≡ record b { task = None }
    read_left u =
        let t : WentOn b n Unlinked made failed = subst (λ (z : ServerTurn). WentOn b n z made failed) u told in
        t.1.1 ∙ ap (λ (z : ServerState). went z t.0) e ∙ by _ (link (next_of t.0)) (t.1.2 ∙ ap (λ (z : ServerState). answer_of z t.0) e) ∙ ap (λ (z : ServerState). record z { task = None }) (sym e)
      where
        by : (m : ServerState) (l : Option ℕ) → Unlinked ≡ turn_of (recycle_outcome slot (look_answer l)) → taken_in m (recycle_outcome slot (look_answer l)) ≡ record m { task = None }
        by m None h = refl
        by m (Some t) h = absurd cc

    -- and that the server knows it
    pub read_known : (p : Pool) (v : View) (o : Option Open) (w : View) (o1 : Option Open) → ((a : Step) (x : ℕ) → made a x → Made p a false v o x w o1) → r0 ≡ Unlinked → Within slot w.server.unlinked
    read_known p v o w o1 tells u =
        let t : WentOn b n Unlinked made failed = subst (λ (z : ServerTurn). WentOn b n z made failed) u told in
        knows p v o t.0 w o1 slot root (subst (λ (z : ServerState). Made p (server_step z) false v o t.0 w o1) e (tells (server_step b) t.0 t.1.0)) (t.1.2 ∙ ap (λ (z : ServerState). answer_of z t.0) e)

-- behind a read of the sweep the view and the server agree, and where the answer is Full it is so
module _ (p : Pool) (n : ServerState) (w : View) (place slot : ℕ) (key : List ℕ) (a : Agrees p [] n w) (at : n.sweep ≡ Some place) (here : slice_get n.directory.list place ≡ Some (slot, key)) (known : Within slot w.server.unlinked) where
  on : Agrees p [] (swept_on n) w
  on = agrees_swept_on p n w place slot key a at here known

  pub read_agrees : (new : ServerState) → new ≡ swept n Unlinked → Agrees p [] new w
  read_agrees new e = subst (λ (z : ServerState). Agrees p [] z w) (sym e) (by (all_swept (swept_on n)))
    where
      by : (t : Bool) → Agrees p [] (ended_if t (swept_on n)) w
      by true = agrees_ended p (swept_on n) w on
      by false = on

  pub read_full : (new : ServerState) (r : ServerTurn) → new ≡ swept n Unlinked → r ≡ swept_turn n Unlinked → IfFull r (λ bound worn out. bound + worn + out ≡ total_of new.books) → IfFull r (λ bound worn out. IsFull new w bound worn out)
  read_full new r e q sums = subst (λ (z : ServerState). IfFull r (λ bound worn out. IsFull z w bound worn out)) (sym e)
      (subst (λ (z : ServerTurn). IfFull z (λ bound worn out. IsFull (swept n Unlinked) w bound worn out)) (sym q)
      (by (all_swept (swept_on n)) refl (subst (λ (z : ServerTurn). IfFull z (λ bound worn out. bound + worn + out ≡ total_of (swept n Unlinked).books)) q (subst (λ (z : ServerState). IfFull r (λ bound worn out. bound + worn + out ≡ total_of z.books)) e sums))))
    where
      past : nat_lt (position (swept_on n).sweep) (length n.directory.list) ≡ false → length n.directory.list ≤ position (swept_on n).sweep
      past h = grind (arith, nat_tests)

      none : nat_eq (free_in n) 0 ≡ true → free_in n ≡ 0
      none h = grind (arith, nat_tests)

      parts : (b c : Bool) → not b && c ≡ true → (b ≡ false) × (c ≡ true)
      parts true c h = absurd (let z : false ≡ true = h in cc)
      parts false c h = (refl, h)

      by : (t : Bool) → all_swept (swept_on n) ≡ t → IfFull (full_if t (swept_on n)) (λ bound worn out. bound + worn + out ≡ total_of (ended_if t (swept_on n)).books) → IfFull (full_if t (swept_on n)) (λ bound worn out. IsFull (ended_if t (swept_on n)) w bound worn out)
      by true h s = let z = parts (nat_lt (position (swept_on n).sweep) (length n.directory.list)) (nat_eq (free_in n) 0) h in is_full p (swept_on n) w _ _ _ on (none z.1) (past z.0) s
      by false h s = tt

-- what a want finds where it needs a free buffer
abbrev pub Found : ServerState → Room → Type 0
Found s (Swept slot) = (key : List ℕ) × (slice_get s.directory.list (position s.sweep) ≡ Some (slot, key))
Found s NoRoom = (free_in s ≡ 0) × (length s.directory.list ≤ position s.sweep)
Found s HasRoom = 0 < free_in s

pub found_room : (s : ServerState) (enough : ℕ) (room : Room) → 1 ≤ enough → room ≡ room_of s enough → Found s room
found_room s enough room one e = subst (Found s) (sym e) (by (lacks s.sweep (free_in s) enough) refl (slice_get s.directory.list (position s.sweep)) refl)
  where
    past_none : slice_get s.directory.list (position s.sweep) ≡ None → length s.directory.list ≤ position s.sweep
    past_none h = ⊎_elim (λ q. absurd (let z : ◌≡◌ {A = Option (ℕ × List ℕ)} None (Some q.0) = sym h ∙ q.2 in cc)) (λ q. q.0) (slice_get_cases s.directory.list (position s.sweep)).1

    is_none : nat_eq (free_in s) 0 ≡ true → free_in s ≡ 0
    is_none h = grind (arith, nat_tests)

    is_some : nat_eq (free_in s) 0 ≡ false → 0 < free_in s
    is_some h = grind (arith, nat_tests)

    swept_all : (z : Bool) → nat_eq (free_in s) 0 ≡ z → slice_get s.directory.list (position s.sweep) ≡ None → Found s (if z then NoRoom else HasRoom)
    swept_all true q h = (is_none q, past_none h)
    swept_all false q h = is_some q

    enough_free : (w : Option ℕ) → lacks w (free_in s) enough ≡ false → nat_eq (free_in s) 0 ≡ true → ⊥
    enough_free None q h = let z : true ≡ false = sym h ∙ q in cc
    enough_free (Some n) q h = let f = is_none h in let g : enough ≤ free_in s = grind (arith, nat_tests) in omega arith

    free_now : (z : Bool) → nat_eq (free_in s) 0 ≡ z → lacks s.sweep (free_in s) enough ≡ false → Found s (if z then NoRoom else HasRoom)
    free_now true q h = absurd (enough_free s.sweep h q)
    free_now false q h = is_some q

    by : (t : Bool) → lacks s.sweep (free_in s) enough ≡ t → (g : Option (ℕ × List ℕ)) → slice_get s.directory.list (position s.sweep) ≡ g → Found s (if t then swept_or g (or_full (free_in s)) else or_full (free_in s))
    by true q None h = swept_all (nat_eq (free_in s) 0) refl h
    by true q (Some k) h = (k.1, h)
    by false q g h = free_now (nat_eq (free_in s) 0) refl q

-- where a task was begun and its first access made
pub want_began : (s b n : ServerState) (r : ServerTurn) (slot : ℕ) (key : List ℕ) (made : Step → ℕ → Type 0) (failed still : Type 0) → Begins s (Binds slot key) b → WantStep Finishes b n r made failed still → WantStep (Binds slot key) s n r made failed still
want_began s b n r slot key made failed still h t = (t.0, subst (Begins s (Binds slot key)) (sym t.1) h, t.2)

-- what is not full is not told so
pub not_full : (r : ServerTurn) (P : ℕ → ℕ → ℕ → Type 0) → IfFull r (λ bound worn out. ⊥) → IfFull r P
not_full More P h = tt
not_full Ready P h = tt
not_full Unlinked P h = tt
not_full (Recycled old) P h = tt
not_full (Full bound worn out) P h = absurd h
not_full NoSlot P h = tt
not_full Unreached P h = tt

-- an answer without an access: no buffer is free
pub told_full : (p : Pool) (s new : ServerState) (v : View) (r : ServerTurn) → Agrees p [] s v → Found s NoRoom → new ≡ ended s → r ≡ full_turn s → free_in s + count_of Bound s.books + count_of Worn s.books + count_of Out s.books ≡ total_of s.books → IfFull r (λ bound worn out. IsFull new v bound worn out)
told_full p s new v r a f e q sums = subst (λ (z : ServerState). IfFull r (λ bound worn out. IsFull z v bound worn out)) (sym e)
    (subst (λ (z : ServerTurn). IfFull z (λ bound worn out. IsFull (ended s) v bound worn out)) (sym q) (is_full p s v (count_of Bound s.books) (count_of Worn s.books) (count_of Out s.books) a f.0 f.1 (let z = f.0 in omega arith)))

-- what a read of the sweep leaves and answers
module _ (s s1 : ServerState) (q : s1 ≡ swept_on s) where
  pub passed_full : all_swept s1 ≡ true → (new : ServerState) → new ≡ ended s1 → new ≡ swept s Unlinked
  passed_full h new e = e ∙ ap (λ (t : Bool). ended_if t s1) (sym h) ∙ ap (λ (z : ServerState). ended_if (all_swept z) z) q

  pub passed_full_turn : all_swept s1 ≡ true → (r : ServerTurn) → r ≡ full_turn s1 → r ≡ swept_turn s Unlinked
  passed_full_turn h r e = e ∙ ap (λ (t : Bool). full_if t s1) (sym h) ∙ ap (λ (z : ServerState). full_if (all_swept z) z) q

  pub passed_more : all_swept s1 ≡ false → s1 ≡ swept s Unlinked
  passed_more h = ap (λ (t : Bool). ended_if t s1) (sym h) ∙ ap (λ (z : ServerState). ended_if (all_swept z) z) q

  pub passed_more_turn : all_swept s1 ≡ false → More ≡ swept_turn s Unlinked
  passed_more_turn h = ap (λ (t : Bool). full_if t s1) (sym h) ∙ ap (λ (z : ServerState). full_if (all_swept z) z) q

-- the numbers of an answer that no buffer is free
pub full_sum : (s1 new : ServerState) (r : ServerTurn) → all_swept s1 ≡ true → new ≡ ended s1 → r ≡ full_turn s1 → free_in s1 + count_of Bound s1.books + count_of Worn s1.books + count_of Out s1.books ≡ total_of s1.books → IfFull r (λ bound worn out. bound + worn + out ≡ total_of new.books)
full_sum s1 new r h e er sums = subst (λ (z : ServerTurn). IfFull z (λ bound worn out. bound + worn + out ≡ total_of new.books)) (sym er) (let z = none in let t : total_of new.books ≡ total_of s1.books = ap (λ (y : ServerState). total_of y.books) e in omega arith)
  where
    second : (b c : Bool) → b && c ≡ true → c ≡ true
    second true c h = h
    second false c h = absurd (let z : false ≡ true = h in cc)

    none : free_in s1 ≡ 0
    none = let z : nat_eq (free_in s1) 0 ≡ true = second (not (nat_lt (position s1.sweep) (length s1.directory.list))) (nat_eq (free_in s1) 0) h in grind (arith, nat_tests)

-- a want of stock
module _ (s n : ServerState) (r : ServerTurn) (made : Step → ℕ → Type 0) (failed still : Type 0) where
  pub stock_finishes : IsSome s.task → WantStep Finishes s n r made failed still → WantStep (stock_due s) s n r made failed still
  stock_finishes h t = subst (λ (z : Due). WantStep z s n r made failed still) (sym (busy_due s.task (by_room s (room_of s s.setup.batch) (Answers Ready)) h)) t

  pub stock_told : (room : Room) → s.task ≡ None → room ≡ room_of s s.setup.batch → WantStep (by_room s room (Answers Ready)) s n r made failed still → WantStep (stock_due s) s n r made failed still
  stock_told room h e t = subst (λ (z : Due). WantStep z s n r made failed still) (sym (idle_due s.task (by_room s (room_of s s.setup.batch) (Answers Ready)) h)) (subst (λ (z : Room). WantStep (by_room s z (Answers Ready)) s n r made failed still) e t)
