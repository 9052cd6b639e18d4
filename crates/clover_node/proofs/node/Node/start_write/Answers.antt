use Rattle.std.proofs.Common.{◌≡◌, ◌≢◌, ℕ, ◌≤◌, List, [], refl, sym, ap, ◌∙◌, subst, arith}
use Rattle.std.specs.Prelude.{Some, None, slice_get}
use Rattle.clover_words.specs.declared.pool.Pool.{Pool}
use Rattle.clover_words.specs.Tag.{TagParts, tag_number}
use Rattle.clover_map.specs.History.{key_of}
use Rattle.clover_map.specs.declared.bytes.Value.{Value}
use Rattle.clover_rule.specs.Lists.{Within}
use Rattle.clover_put.specs.Putting.{call_of}
use Rattle.clover_dir.specs.Names.{IsNew}
use Rattle.clover_call.specs.Beginning.{Starts, given_number, size_of}
use Rattle.clover_call.specs.Caller.{AreCursors}
use Rattle.clover_node.specs.Beginning.{NeedsBuffer, NodeStarts, own_tag, room_of}
use Rattle.clover_node.specs.Node.{NodeState, NodeHolds, IsIdle}
use Rattle.clover_node.proofs.Starting.{slot_fits, tag_fits, started_on, started_count}
use Rattle.clover_node.proofs.Writing.{write_key, write_size, write_tag, needs_named, needs_new, no_first, on_ok}
use Rattle.clover_node.proofs.node.Node.start_write.Goals as goal

pub start_write-requires-clause-slot : goal.start_write-requires-clause-slot
start_write-requires-clause-slot c =
    let h = c.requires.holds in
    let z : NodeState = record { client = c.self.inside.client; caller = c.self.inside.caller; counting = c.self.inside.counting; stock = c.self.inside.stock; names = c.self.inside.names.list } in
    slot_fits z h.0 h.1 h.2 c.in-Some.slot c.args.key.now (subst (λ (s : NodeState). NodeHolds s h.0 h.1 h.2) (sym c.self.view_is) h.3) c.in-Some.ensures.found

pub start_write-requires-clause-cursors : goal.start_write-requires-clause-cursors
start_write-requires-clause-cursors c =
    let h = c.requires.holds in (h.1, subst (λ (s : NodeState). AreCursors s.caller.pool h.1 s.caller.cursors) (sym c.self.view_is) h.3.caller.cursors)

pub start_write-requires-clause-own : goal.start_write-requires-clause-own
start_write-requires-clause-own c =
    let h = c.requires.holds in
    let z : NodeState = record { client = c.self.inside.client; caller = c.self.inside.caller; counting = c.self.inside.counting; stock = c.self.inside.stock; names = c.self.inside.names.list } in
    tag_fits z h.0 h.1 h.2 c.in-Some-first.own (subst (λ (s : NodeState). NodeHolds s h.0 h.1 h.2) (sym c.self.view_is) h.3) (sym c.first.ensures ∙ c.in-Some-first.is)

pub invariant_of-self : goal.invariant_of-self
invariant_of-self c = c.self.invariant ∙ ap (λ (p : Pool). p.slots) (sym (c.start_write.ensures c.args.key.now).pool)

pub returns-in_default-clause-started : goal.returns-in_default-clause-started
returns-in_default-clause-started c =
    let key = c.args.key.now in let job = c.args.job in let n = c.args.self.now in
    let value : Value = record { flags = c.args.flags; bytes = c.args.bytes.now } in
    let call = call_of job key value in
    let new : IsNew key n.names = subst (λ (s : NodeState). IsNew key s.names) c.self.view_is (c.in_default.ensures.none.0 refl) in
    let fits : size_of call ≤ room_of n = let small = write_size job key value in let less = c.if-length-room.false in let room = c.room-room.ensures ∙ ap room_of c.self.view_is in omega arith in
    on_ok c.start_count.result (λ h. let e = h key value in
    subst (λ (s : NodeState). NodeStarts n call s) (sym e.0)
    (started_count n call c.requires.idle fits (λ b. e.1 (needs_new n job key value new b)) (subst (λ (k : List ℕ). IsNew k n.names) (sym (write_key job key value)) new))) c.start_count.ensures.started

pub returns-in_default-first-clause-refused : goal.returns-in_default-first-clause-refused
returns-in_default-first-clause-refused c =
    let key = c.args.key.now in let job = c.args.job in let n = c.args.self.now in
    let value : Value = record { flags = c.args.flags; bytes = c.args.bytes.now } in
    let fits : size_of (call_of job key value) ≤ room_of n = let small = write_size job key value in let less = c.if-length-room.false in let room = c.room-room.ensures ∙ ap room_of c.self.view_is in omega arith in
    let found = subst (λ (s : NodeState). Within (c.in-Some.slot, key) s.names) c.self.view_is c.in-Some.ensures.found in
    let empty = subst (λ (s : NodeState). s.stock ≡ []) c.self.view_is (no_first c.self.inside.stock (sym c.in_default-first.is ∙ c.first.ensures)) in
    ((fits, empty, needs_named n job key value c.in-Some.slot found), refl)

pub returns-clause-started : goal.returns-clause-started
returns-clause-started c =
    let key = c.args.key.now in let job = c.args.job in
    let value : Value = record { flags = c.args.flags; bytes = c.args.bytes.now } in
    let z : NodeState = record { client = c.self.inside.client; caller = c.self.inside.caller; counting = c.self.inside.counting; stock = c.self.inside.stock; names = c.self.inside.names.list } in
    let call = call_of job key value in
    let idle = subst IsIdle (sym c.self.view_is) c.requires.idle in
    let names = sym (write_key job key value) in
    let at = subst (λ (k : List ℕ). Within (c.in-Some.slot, k) z.names) names c.in-Some.ensures.found in
    let first : slice_get z.stock 0 ≡ Some c.in-Some-first.own = sym c.first.ensures ∙ c.in-Some-first.is in
    let some : NeedsBuffer z call → z.stock ≢ [] = λ b e. let none : None ≡ Some c.in-Some-first.own = ap (λ (ts : List TagParts). slice_get ts 0) (sym e) ∙ first in cc in
    let fits : size_of call ≤ room_of z = let small = write_size job key value in let less = c.if-length-room.false in let room = c.room-room.ensures in omega arith in
    let tag : tag_number c.in-Some-first.own ≡ own_tag z call = sym (write_tag z job key value ∙ ap given_number first) in
    let only : (s : ℕ) → Within (s, key_of call) z.names → Some c.in-Some.slot ≡ Some s = λ s w. sym c.in-Some.is ∙ c.find.ensures.only s (subst (λ (k : List ℕ). Within (s, k) z.names) (write_key job key value) w) in
    subst (λ (s : NodeState). NodeStarts s call (record z { caller = c.start_write.new.self })) c.self.view_is
    (started_on z call idle fits some c.in-Some.slot c.start_write.new.self at only (subst (λ (t : ℕ). Starts z.caller c.in-Some.slot t call c.start_write.new.self) tag (c.start_write.ensures key)))
