-- The access is of what is due, and what it came to is told by its note; the counts stay small, since the bindings and the accesses are few.
use Rattle.std.proofs.Common.{rules, ◌≡◌, ℕ, ◌+◌, ◌-◌, sym, subst, arith}
use Rattle.std.specs.Prelude.{Option, None, IsSome}
use Rattle.clover_server.specs.Looking.{given_back}
use Rattle.clover_run.specs.Cleaning.{cleaned, slot_due}
use Rattle.clover_run.specs.Recycling.{IsOnBound, MayRecycle, RecycledFor}
use Rattle.clover_run.specs.declared.recycler.Chore.{Chore}
use Rattle.clover_run.proofs.Listed.{list_few}
use Rattle.clover_run.proofs.RecyclerSteps.{came_more, came_over, may_recycle, read_so, with_chore}
use Rattle.clover_run.proofs.served.Served.recycle.Goals as goal
use Rattle.clover_run.proofs.served.Served.recycle.Goals.{else-is_none-via-then-is_none+else-not-unfinished, else-is_none-via-else-is_none, in-Quiet, in_default-matches}

pub recycle_for-turn-requires-clause-may : goal.recycle_for-turn-requires-clause-may
recycle_for-turn-requires-clause-may c =
    let v = c.args.self.now in
    let some : slot_due c.in-Some.chore v ≡ None → IsSome v.server.task = λ none. elim c.else-is_none.branch [ else-is_none-via-then-is_none+else-not-unfinished w ↦ (search rules) | else-is_none-via-else-is_none w ↦ (search rules) ] in
    subst (λ (s : Option ℕ). MayRecycle s v.server) (sym c.slot_due-slot.ensures)
    (may_recycle c.in-Some.chore v (subst (λ (x : Option Chore). IsOnBound x v) c.in-Some.is c.requires.may.1.bound) some)

pub overflow_add-self-2 : goal.overflow_add-self-2
overflow_add-self-2 c =
    let v = c.args.self.now in let n = c.recycle_for-turn.new.server in let q = c.recycle_for-turn.new.pool in
    let m = c.requires.may in
    let some : slot_due c.in-Some.chore v ≡ None → IsSome v.server.task = λ none. elim c.else-is_none.branch [ else-is_none-via-then-is_none+else-not-unfinished w ↦ (search rules) | else-is_none-via-else-is_none w ↦ (search rules) ] in
    let may = with_chore m.0 c.args.recycler.now v c.args.pool.now m.1 c.in-Some.chore c.in-Some.is in
    let due = may_recycle c.in-Some.chore v (subst (λ (x : Option Chore). IsOnBound x v) c.in-Some.is m.1.bound) some in
    let was = subst (λ (s : Option ℕ). RecycledFor s c.args.recycler.now.refusing c.recycle_for-turn.new.refuse v.server n c.args.pool.now q c.recycle_for-turn.result) c.slot_due-slot.ensures c.recycle_for-turn.ensures in
    let few = read_so m.0 c.args.recycler.now v c.args.pool.now may c.requires.free due c.recycle_for-turn.new.refuse n q c.recycle_for-turn.result was in
    let all = list_few q n (c.stands.ensures.running was.server.opened) was.server in
    omega (arith, few, all, q.setup.pool.slots_fit, c.read_by.ensures)

pub returns-then-not-matches : goal.returns-then-not-matches
returns-then-not-matches c = λ o m.
    let x = c.args.recycler.now in let v = c.args.self.now in let p = c.args.pool.now in let n = c.recycle_for-turn.new.server in let q = c.recycle_for-turn.new.pool in
    let chore = c.in-Some.chore in let turn = c.recycle_for-turn.result in let b = c.recycle_for-turn.new.refuse in
    let some : slot_due chore v ≡ None → IsSome v.server.task = λ none. elim c.else-is_none.branch [ else-is_none-via-then-is_none+else-not-unfinished w ↦ (search rules) | else-is_none-via-else-is_none w ↦ (search rules) ] in
    let may = with_chore o x v p m chore c.in-Some.is in
    let due = may_recycle chore v (subst (λ (z : Option Chore). IsOnBound z v) c.in-Some.is m.bound) some in
    let was = subst (λ (s : Option ℕ). RecycledFor s x.refusing b v.server n p q turn) c.slot_due-slot.ensures c.recycle_for-turn.ensures in
    let given : c.from.result ≡ given_back n - given_back v.server = omega (arith, c.from.ensures, c.saturating_sub.ensures, c.given_back.ensures, c.given_back-before.ensures) in
    let side : record v { server = n; holder = c.cleaner-self.result; read = v.read + c.read_by.result; done = v.done + c.from.result } ≡ cleaned chore v n turn =
    (λ k. record v { server = n; holder = c.cleaner-self.ensures k; read = v.read + c.read_by.ensures k; done = v.done + given k }) in
    came_over o x v p may c.requires.free due b n q turn was _ c.clean_note-note.result side c.clean_note-note.ensures
    (λ e. elim c.match-matches.branch [ in-Quiet w ↦ (search rules) | in_default-matches w ↦ (search rules) ])

pub returns-else-not-matches : goal.returns-else-not-matches
returns-else-not-matches c = λ o m.
    let x = c.args.recycler.now in let v = c.args.self.now in let p = c.args.pool.now in let n = c.recycle_for-turn.new.server in let q = c.recycle_for-turn.new.pool in
    let chore = c.in-Some.chore in let turn = c.recycle_for-turn.result in let b = c.recycle_for-turn.new.refuse in
    let some : slot_due chore v ≡ None → IsSome v.server.task = λ none. elim c.else-is_none.branch [ else-is_none-via-then-is_none+else-not-unfinished w ↦ (search rules) | else-is_none-via-else-is_none w ↦ (search rules) ] in
    let may = with_chore o x v p m chore c.in-Some.is in
    let due = may_recycle chore v (subst (λ (z : Option Chore). IsOnBound z v) c.in-Some.is m.bound) some in
    let was = subst (λ (s : Option ℕ). RecycledFor s x.refusing b v.server n p q turn) c.slot_due-slot.ensures c.recycle_for-turn.ensures in
    let given : c.from.result ≡ given_back n - given_back v.server = omega (arith, c.from.ensures, c.saturating_sub.ensures, c.given_back.ensures, c.given_back-before.ensures) in
    let side : record v { server = n; holder = c.cleaner-self.result; read = v.read + c.read_by.result; done = v.done + c.from.result } ≡ cleaned chore v n turn =
    (λ k. record v { server = n; holder = c.cleaner-self.ensures k; read = v.read + c.read_by.ensures k; done = v.done + given k }) in
    came_more o x v p may c.requires.free due b n q turn was _ c.clean_note-note.result side c.clean_note-note.ensures
    (elim c.match-matches.branch [ in-Quiet w ↦ (search rules) | in_default-matches w ↦ (search rules) ])
