use Rattle.std.proofs.Common.{refl, sym, ap, ◌∙◌, subst, arith}
use Rattle.clover_words.specs.declared.pool.Pool.{Pool}
use Rattle.clover_map.specs.declared.call.Call.TheVariants.{Get}
use Rattle.clover_call.specs.Caller.{AreCursors}
use Rattle.clover_node.specs.Beginning.{NodeStarts}
use Rattle.clover_node.specs.Node.{NodeState, NodeHolds, IsIdle}
use Rattle.clover_node.specs.declared.counting.Counting.TheVariants.{Absence}
use Rattle.clover_node.proofs.Starting.{slot_fits, started_on, started_count}
use Rattle.clover_node.proofs.node.Node.start_get.Goals as goal

pub start_get-requires-clause-slot : goal.start_get-requires-clause-slot
start_get-requires-clause-slot c =
    let h = c.requires.holds in
    let z : NodeState = record { client = c.self.inside.client; caller = c.self.inside.caller; counting = c.self.inside.counting; stock = c.self.inside.stock; names = c.self.inside.names.list } in
    slot_fits z h.0 h.1 h.2 c.in-Some.slot c.args.key.now (subst (λ (s : NodeState). NodeHolds s h.0 h.1 h.2) (sym c.self.view_is) h.3) c.in-Some.ensures.found

pub start_get-requires-clause-cursors : goal.start_get-requires-clause-cursors
start_get-requires-clause-cursors c =
    let h = c.requires.holds in (h.1, subst (λ (s : NodeState). AreCursors s.caller.pool h.1 s.caller.cursors) (sym c.self.view_is) h.3.caller.cursors)

pub invariant_of-self : goal.invariant_of-self
invariant_of-self c = c.self.invariant ∙ ap (λ (p : Pool). p.slots) (sym (c.start_get.ensures c.args.key.now).pool)

pub returns-in-Some : goal.returns-in-Some
returns-in-Some c =
    let key = c.args.key.now in
    let z : NodeState = record { client = c.self.inside.client; caller = c.self.inside.caller; counting = c.self.inside.counting; stock = c.self.inside.stock; names = c.self.inside.names.list } in
    let idle = subst IsIdle (sym c.self.view_is) c.requires.idle in
    subst (λ (s : NodeState). NodeStarts s (Get key) (record z { caller = c.start_get.new.self })) c.self.view_is
    (started_on z (Get key) idle (omega arith) (λ b. absurd b) c.in-Some.slot c.start_get.new.self c.in-Some.ensures.found (λ s w. sym c.in-Some.is ∙ c.find.ensures.only s w) (c.start_get.ensures key))

pub returns-in-None : goal.returns-in-None
returns-in-None c =
    let key = c.args.key.now in
    let z : NodeState = record { client = c.self.inside.client; caller = c.self.inside.caller; counting = c.self.inside.counting; stock = c.self.inside.stock; names = c.self.inside.names.list } in
    let idle = subst IsIdle (sym c.self.view_is) c.requires.idle in
    subst (λ (s : NodeState). NodeStarts s (Get key) (record z { counting = Absence })) c.self.view_is (started_count z (Get key) idle (omega arith) (λ b. absurd b) (c.in-None.ensures.none.0 refl))
