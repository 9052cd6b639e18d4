-- What the server's step came to is told by its answer; a grant finds the pool running behind the step.
use Prim.Native.Nat.{suc}
use Rattle.std.proofs.Common.{◌≡◌, ℕ, false, ⊎_elim, refl, sym, ap, ◌∙◌, subst}
use Rattle.clover_plain.specs.Plain.{Plain}
use Rattle.clover_server.specs.Told.{IsWantTurn}
use Rattle.clover_event.specs.declared.event.CallRefusal.TheVariants.{Unreached}
use Rattle.clover_run.specs.Run.{Opening}
use Rattle.clover_run.specs.Served.{held, is_elsewhere}
use Rattle.clover_run.specs.Serving.{telling}
use Rattle.clover_run.specs.Working.{WasServed, Worked}
use Rattle.clover_run.specs.declared.client.ClientState.{ClientState}
use Rattle.clover_run.specs.declared.event.Note.{Note}
use Rattle.clover_run.specs.declared.event.Note.TheVariants.{Full, NoSlot, Quiet, Refused}
use Rattle.clover_run.specs.declared.served.Served.{Served}
use Rattle.clover_run.proofs.Readies.{serves_turn}
use Rattle.clover_run.proofs.ServedGrants.{may_grant, was_granted}
use Rattle.clover_run.proofs.ServedSteps.{was_full, was_more, was_unreached, was_without}
use Rattle.clover_run.proofs.served.Served.serve.Goals as goal

-- no other actor holds the server
free_of : (v : Served) (a i : ℕ) → suc i ≡ a → is_elsewhere v.holder a ≡ false → is_elsewhere v.holder (suc i) ≡ false
free_of v a i e h = ap (is_elsewhere v.holder) e ∙ h

-- the actor, the client and the server's side are what the code has
as_made : (o : Opening) (i a : ℕ) (x y y1 : ClientState) (v s s1 : Served) (p q : Plain) (note : ℕ → Note) → suc i ≡ a → y1 ≡ y → s1 ≡ s → WasServed o i x y v s p q (note (suc i)) → WasServed o i x y1 v s1 p q (note a)
as_made o i a x y y1 v s s1 p q note e client side w = subst (λ (b : ℕ). WasServed o i x y1 v s1 p q (note b)) e (subst (λ (z : ClientState). WasServed o i x z v s1 p q (note (suc i))) (sym client) (subst (λ (z : Served). WasServed o i x y v z p q (note (suc i))) (sym side) w))

pub grant-requires : goal.grant-requires
grant-requires c =
    let (o, i, e, may) = c.requires.may in
    let w = subst (Worked c.args.client.now.want c.in-Some.call c.args.client.now.refusing c.work-turn.new.refusing c.args.self.now.server c.work-turn.new.server c.args.pool.now c.work-turn.new.pool) c.in-Ready.is c.work-turn.ensures in
    record { may = (o, i, e, may_grant o i c.args.client.now c.args.self.now c.args.pool.now may c.in-Some.call c.in-Some.is (free_of c.args.self.now c.args.actor i e c.requires.free) c.work-turn.new.refusing c.work-turn.new.server c.work-turn.new.pool w (c.stands.ensures.running w.server.opened)) }

pub unreachable-requires-in-Unlinked : goal.unreachable-requires-in-Unlinked
unreachable-requires-in-Unlinked c =
    let w = c.work-turn.ensures in
    let is : IsWantTurn c.work-turn.result = serves_turn c.args.self.now.server c.work-turn.new.server c.work-turn.result (telling w.access) c.args.client.now.want c.in-Some.call w.serves in
    ⊎_elim (λ e. subst IsWantTurn e is) (λ k. subst IsWantTurn k.1 is) c.in-Unlinked.is

pub returns-in-More : goal.returns-in-More
returns-in-More c = λ o i e may.
    let v = c.args.self.now in
    as_made o i c.args.actor c.args.client.now _ _ v (held (suc i) c.work-turn.new.server v) _ c.args.pool.now c.work-turn.new.pool (λ a. Quiet) e refl (λ k. held (sym e k) c.work-turn.new.server v)
    (was_more o i c.args.client.now v c.args.pool.now may c.in-Some.call c.in-Some.is (free_of v c.args.actor i e c.requires.free) c.work-turn.new.refusing c.work-turn.new.server c.work-turn.new.pool c.work-turn.result c.work-turn.ensures c.in-More.is)

pub returns-in-Ready : goal.returns-in-Ready
returns-in-Ready c = λ o i e may.
    let v = c.args.self.now in
    let w = subst (Worked c.args.client.now.want c.in-Some.call c.args.client.now.refusing c.work-turn.new.refusing v.server c.work-turn.new.server c.args.pool.now c.work-turn.new.pool) c.in-Ready.is c.work-turn.ensures in
    let free = free_of v c.args.actor i e c.requires.free in
    let may1 = may_grant o i c.args.client.now v c.args.pool.now may c.in-Some.call c.in-Some.is free c.work-turn.new.refusing c.work-turn.new.server c.work-turn.new.pool w (c.stands.ensures.running w.server.opened) in
    was_granted o i c.args.client.now v c.args.pool.now may c.in-Some.call c.in-Some.is free c.work-turn.new.refusing c.work-turn.new.server c.work-turn.new.pool w c.grant.new.client c.grant.new.self c.grant.new.pool c.grant.result (c.grant.ensures o i e may1)

pub returns-in-Full : goal.returns-in-Full
returns-in-Full c = λ o i e may.
    let v = c.args.self.now in
    as_made o i c.args.actor c.args.client.now _ _ v _ _ c.args.pool.now c.work-turn.new.pool (λ a. Full a c.in-Full.bound c.in-Full.worn c.in-Full.out) e c.end.ensures.client c.end.ensures.side
    (was_full o i c.args.client.now v c.args.pool.now may c.in-Some.call c.in-Some.is (free_of v c.args.actor i e c.requires.free) c.work-turn.new.refusing c.work-turn.new.server c.work-turn.new.pool c.work-turn.result c.work-turn.ensures c.in-Full.bound c.in-Full.worn c.in-Full.out c.in-Full.is)

pub returns-in-NoSlot : goal.returns-in-NoSlot
returns-in-NoSlot c = λ o i e may.
    let v = c.args.self.now in
    as_made o i c.args.actor c.args.client.now _ _ v _ _ c.args.pool.now c.work-turn.new.pool NoSlot e c.end-in-NoSlot.ensures.client c.end-in-NoSlot.ensures.side
    (was_without o i c.args.client.now v c.args.pool.now may c.in-Some.call c.in-Some.is (free_of v c.args.actor i e c.requires.free) c.work-turn.new.refusing c.work-turn.new.server c.work-turn.new.pool c.work-turn.result c.work-turn.ensures c.in-NoSlot.is)

pub returns-in-Unreached : goal.returns-in-Unreached
returns-in-Unreached c = λ o i e may.
    let v = c.args.self.now in
    as_made o i c.args.actor c.args.client.now _ _ v _ _ c.args.pool.now c.work-turn.new.pool (λ a. Refused a Unreached) e c.end-in-Unreached.ensures.client c.end-in-Unreached.ensures.side
    (was_unreached o i c.args.client.now v c.args.pool.now may c.in-Some.call c.in-Some.is (free_of v c.args.actor i e c.requires.free) c.work-turn.new.refusing c.work-turn.new.server c.work-turn.new.pool c.work-turn.result c.work-turn.ensures c.in-Unreached.is)
