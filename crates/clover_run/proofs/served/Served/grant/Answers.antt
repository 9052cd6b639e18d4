use Rattle.std.proofs.Common.{◌≡◌, ◌≤◌, ◌-◌, ◌∙◌, ℕ, ap, drop, length, refl, sym, subst, arith}
use Rattle.std.specs.Prelude.{None}
use Rattle.std.proofs.lemmas.List.{length-map}
use Rattle.clover_alloc.specs.Batch.{tags_of}
use Rattle.clover_dir.specs.Bindings.{pair_of, pairs_of}
use Rattle.clover_plain.specs.Handing.{numbers_of}
use Rattle.clover_plain.specs.Plain.{view_at}
use Rattle.clover_rule.specs.Moves.{MayHand}
use Rattle.clover_server.specs.Server.{ServerState}
use Rattle.clover_run.specs.declared.event.Note.TheVariants.{Granted}
use Rattle.clover_run.specs.declared.served.Served.{Served}
use Rattle.clover_run.proofs.Grants.{few_added, few_known, keys_once, may_hand, may_take, names_few, starts_from, was_granted}
use Rattle.clover_run.proofs.served.Served.grant.Goals as goal

pub names_since-names-requires : goal.names_since-names-requires
names_since-names-requires c =
    let m = c.requires.may in let n = c.take_for-self.new.server in
    subst (λ (k : ℕ). k ≤ length n.directory.list) (sym c.known.ensures)
    (subst (λ (k : ℕ). length c.args.client.now.node.names ≤ k) (sym (ap (λ (z : ServerState). length z.directory.list) c.take_for-self.ensures.rest)) (few_known m.0 m.1 c.args.client.now c.args.self.now c.args.pool.now m.3))

pub hand_over-requires-clause-may : goal.hand_over-requires-clause-may
hand_over-requires-clause-may c =
    let m = c.requires.may in let x = c.args.client.now in let v = c.args.self.now in let p = c.args.pool.now in
    let n = c.take_for-self.new.server in let same = c.take_for-self.ensures.rest in
    let added = pairs_of c.names_since-names.result.now in
    let rest = c.names_since-names.ensures ∙ ap (λ (k : ℕ). drop k n.directory.list) c.known.ensures ∙ ap (λ (z : ServerState). drop (length x.node.names) z.directory.list) same in
    let ahead = c.take_for-self.ensures.ahead p.setup.pool (view_at p p.setup.clients) m.3.may.server.agrees in
    let here : m.1 ≡ c.args.actor - 1 = (let e = m.2 in omega arith) in
    subst (λ (k : ℕ). MayHand p.setup.pool (view_at p p.setup.clients) (view_at p k) (numbers_of c.take_for-self.result) added) here
    (may_hand m.0 m.1 x v p m.3 added rest n (tags_of c.take_for-self.result) same ahead.0 ahead.1)

pub take-requires-clause-once : goal.take-requires-clause-once
take-requires-clause-once c =
    let m = c.requires.may in let x = c.args.client.now in
    let n = c.take_for-self.new.server in
    let rest = c.names_since-names.ensures ∙ ap (λ (k : ℕ). drop k n.directory.list) c.known.ensures ∙ ap (λ (z : ServerState). drop (length x.node.names) z.directory.list) c.take_for-self.ensures.rest in
    keys_once m.0 m.1 x c.args.self.now c.args.pool.now m.3 (pairs_of c.names_since-names.result.now) rest

pub take-requires-clause-room : goal.take-requires-clause-room
take-requires-clause-room c =
    let m = c.requires.may in let x = c.args.client.now in
    let n = c.take_for-self.new.server in
    let rest = c.names_since-names.ensures ∙ ap (λ (k : ℕ). drop k n.directory.list) c.known.ensures ∙ ap (λ (z : ServerState). drop (length x.node.names) z.directory.list) c.take_for-self.ensures.rest in
    names_few m.0 m.1 x c.args.self.now c.args.pool.now m.3 (pairs_of c.names_since-names.result.now) rest

pub take-requires-clause-starts : goal.take-requires-clause-starts
take-requires-clause-starts c = let m = c.requires.may in starts_from m.0 m.1 c.args.client.now c.args.self.now c.args.pool.now m.3

pub take-requires-clause-may : goal.take-requires-clause-may
take-requires-clause-may c =
    let m = c.requires.may in let x = c.args.client.now in let v = c.args.self.now in let p = c.args.pool.now in
    let n = c.take_for-self.new.server in let same = c.take_for-self.ensures.rest in
    let rest = c.names_since-names.ensures ∙ ap (λ (k : ℕ). drop k n.directory.list) c.known.ensures ∙ ap (λ (z : ServerState). drop (length x.node.names) z.directory.list) same in
    let ahead = c.take_for-self.ensures.ahead p.setup.pool (view_at p p.setup.clients) m.3.may.server.agrees in
    may_take m.0 m.1 x v p m.3 (pairs_of c.names_since-names.result.now) rest n (tags_of c.take_for-self.result) same ahead.0 ahead.1

pub overflow_cast-result : goal.overflow_cast-result
overflow_cast-result c =
    let m = c.requires.may in let x = c.args.client.now in
    let n = c.take_for-self.new.server in
    let rest = c.names_since-names.ensures ∙ ap (λ (k : ℕ). drop k n.directory.list) c.known.ensures ∙ ap (λ (z : ServerState). drop (length x.node.names) z.directory.list) c.take_for-self.ensures.rest in
    let few = few_added m.0 m.1 x c.args.self.now c.args.pool.now m.3 (pairs_of c.names_since-names.result.now) rest in
    let few_here : length c.names_since-names.result.now ≤ 16384 = subst (λ (k : ℕ). k ≤ 16384) (length-map c.names_since-names.result.now pair_of) few in
    omega arith

pub returns : goal.returns
returns c = λ o i is g.
    let x = c.args.client.now in let v = c.args.self.now in let p = c.args.pool.now in
    let n = c.take_for-self.new.server in let same = c.take_for-self.ensures.rest in
    let added = pairs_of c.names_since-names.result.now in
    let rest = c.names_since-names.ensures ∙ ap (λ (k : ℕ). drop k n.directory.list) c.known.ensures ∙ ap (λ (z : ServerState). drop (length x.node.names) z.directory.list) same in
    let ahead = c.take_for-self.ensures.ahead p.setup.pool (view_at p p.setup.clients) g.may.server.agrees in
    let w : Served = record v { server = n; holder = None; batch = c.take_for-self.result } in
    was_granted o i x v p g c.args.actor is added rest n same w refl c.take_for-self.ensures.takes ahead.0 ahead.1 c.hand_over.new.self c.hand_over.ensures.handed c.hand_over.ensures.history
    c.take.new.self c.take.ensures _ (ap (Granted c.args.actor) (sym (length-map c.names_since-names.result.now pair_of)))
