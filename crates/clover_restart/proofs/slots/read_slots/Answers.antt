use Rattle.std.proofs.Common.{◌≡◌, ℕ, ◌*◌, replicate, ap, ◌∙◌, subst, arith}
use Rattle.clover_words.specs.declared.pool.Pool.{Pool}
use Rattle.clover_alloc.specs.declared.line.Place.TheVariants.{Free}
use Rattle.clover_dir.specs.Directory.{nothing_bound}
use Rattle.clover_restart.specs.Reading.{decoded}
use Rattle.clover_restart.specs.Slots.{AreRead}
use Rattle.clover_restart.proofs.Slotwise.{read_none}
use Rattle.clover_restart.proofs.slots.read_slots.Goals as goal

pub loop-slot-init : goal.loop-slot-init
loop-slot-init c =
    let e = c.in_ok-slots.ensures in
    λ s. read_none c.args.image.now.pool (decoded c.args.image.now) s c.in_ok-slots.slots e.stores (e.marks ∙ ap (λ (q : Pool). replicate (q.nodes * q.buffers) Free) c.pool-pool.ensures) (e.directory ∙ ap nothing_bound c.pool-pool.ensures)

pub returns : goal.returns
returns c =
    let p = c.args.image.now.pool in let im = decoded c.args.image.now in
    let e : c.pool-pool.result.slots ≡ p.slots = ap (λ (q : Pool). q.slots) c.pool-pool.ensures in
    let lo = c.loop-slot-test.false in let hi = c.loop-slot.auto.slot-end in
    let all : c.loop-slot.slot ≡ p.slots = omega arith in
    λ s. subst (λ (n : ℕ). AreRead p im s n c.loop-slot.slots) all (c.loop-slot.invariant s)
