use Rattle.std.proofs.Common.{◌∙◌, ap}
use Rattle.clover_alloc.specs.Batch.{tags_of}
use Rattle.clover_plain.specs.Handing.{numbers_of}
use Rattle.clover_node.specs.Node.{NodeState}
use Rattle.clover_pools.proofs.Granting.{few_named, hands_name, handed_stands, keys_named, may_name, named_so, nothing_taken}
use Rattle.clover_pools.proofs.grants.hand_name.Goals as goal

pub hand_over-requires-clause-may : goal.hand_over-requires-clause-may
hand_over-requires-clause-may c =
    let b = c.take-nothing.result in
    hands_name c.args.pool.now c.args.node.now (numbers_of b) _ (nothing_taken c.args.books.now c.take-nothing.new.self b c.take-nothing.ensures.taken) (c.list-names.ensures.pairs ∙ c.requires.list) c.requires.bound c.requires.nameless

pub accept-requires-clause-idle : goal.accept-requires-clause-idle
accept-requires-clause-idle c = c.requires.nameless.stands.idle

pub accept-requires-clause-once : goal.accept-requires-clause-once
accept-requires-clause-once c = keys_named c.args.pool.now c.args.node.now c.requires.bound.new.small.numbers c.requires.nameless.stands _ (c.list-names.ensures.pairs ∙ c.requires.list) c.requires.nameless.names

pub accept-requires-clause-room : goal.accept-requires-clause-room
accept-requires-clause-room c = few_named c.args.pool.now c.args.node.now c.requires.bound.new.small.numbers c.requires.nameless.stands _ (c.list-names.ensures.pairs ∙ c.requires.list) c.requires.nameless.names

pub returns-clause-root : goal.returns-clause-root
returns-clause-root c =
    let b = c.take-nothing.result in
    named_so c.args.pool.now c.hand_over.new.self (numbers_of b) _ (nothing_taken c.args.books.now c.take-nothing.new.self b c.take-nothing.ensures.taken) c.requires.bound c.hand_over.ensures.handed c.hand_over.ensures.history

pub returns-clause-stands : goal.returns-clause-stands
returns-clause-stands c =
    let b = c.take-nothing.result in let n = c.args.node.now in let p = c.args.pool.now in let s = c.requires.nameless in
    let value = c.accept.ensures.value in
    let same = c.list-names.ensures.pairs ∙ c.requires.list in
    let may = may_name p n c.requires.bound.new.small.numbers s.stands (tags_of b) _ (nothing_taken c.args.books.now c.take-nothing.new.self b c.take-nothing.ensures.taken) same s.names in
    handed_stands (numbers_of b) _ p c.hand_over.new.self c.requires.bound.new c.hand_over.ensures.handed c.hand_over.ensures.history n c.accept.new.self s.stands
    (ap (λ (m : NodeState). m.client) value, ap (λ (m : NodeState). m.caller) value, ap (λ (m : NodeState). m.counting) value)
    (λ call room. c.accept.ensures.holds call _ room (s.stands.holds call room) may)
