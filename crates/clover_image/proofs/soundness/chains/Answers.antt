use Rattle.std.proofs.Common.{◌≡◌, ◌<◌, ℕ, ◌*◌, [], ◌++◌, take, drop, Bool, false, length, Vec, Global, sym, ap, ◌∙◌, subst, arith}
use Rattle.std.specs.Prelude.{replicate}
use Rattle.std.proofs.Math.Seq.{take-append_seam}
use Rattle.clover_words.specs.declared.pool.Pool.{Pool}
use Rattle.clover_image.specs.declared.damage.Damage.{Damage}
use Rattle.clover_image.specs.declared.damage.SoundFault.{SoundFault}
use Rattle.clover_image.specs.declared.damage.SoundFault.TheVariants.{Damaged}
use Rattle.clover_image.specs.Damage.{ChainDamage, IfDamaged}
use Rattle.clover_image.specs.Walking.{AreMarked}
use Rattle.clover_image.proofs.Answered.{handed_on}
use Rattle.clover_image.proofs.Walking.{marked_none, walk_none, walk_skips}
use Rattle.clover_image.proofs.soundness.chains.Goals as goal
use Rattle.clover_image.proofs.soundness.chains.Goals.{in-Some+in_ok-chain-in-Some, in-None}

pub loop-slot-init : goal.loop-slot-init
loop-slot-init c =
    let m = c.args.image.now in
    let total : c.total.result ≡ m.pool.nodes * m.pool.buffers = c.total.ensures.value ∙ ap (λ (p : Pool). p.nodes * p.buffers) c.pool-pool.ensures in
    let items = c.in_ok-met.ensures.items_if_clones_equal (λ y e. e) in
    ((λ _. []), walk_none m, marked_none m.pool c.in_ok-met.met.items (items ∙ ap (λ (n : ℕ). replicate n false) total))

pub returns-in_err-chain-in-Some-clause-err : goal.returns-in_err-chain-in-Some-clause-err
returns-in_err-chain-in-Some-clause-err c =
    let m = c.args.image.now in let i = c.loop-slot.invariant in let d = c.in_err-chain-in-Some.field-0.0 in
    let slots = ap (λ (p : Pool). p.slots) c.pool-pool.ensures in
    let marked = subst (AreMarked m.pool i.0) (sym c.deref_mut.ensures.value) i.2 in
    handed_on c.from_residual-in_err-chain-in-Some.result (Damaged d) (λ (f : SoundFault). IfDamaged f (λ (x : Damage). (s : ℕ) × (s < m.pool.slots) × ChainDamage m s x)) c.from_residual-in_err-chain-in-Some.ensures.1
    (c.loop-slot.slot, omega (arith, slots, c.loop-slot-test.true), c.in_err-chain-in-Some.ensures.err c.loop-slot.slot i.0 c.in-Some.ensures.value i.1 marked)

pub loop-slot-preserved : goal.loop-slot-preserved
loop-slot-preserved c =
    let m = c.args.image.now in let i = c.loop-slot.invariant in let s = c.loop-slot.slot in
    elim c.match-root_tag.branch [
      | in-Some+in_ok-chain-in-Some w ↦
          let marked = subst (AreMarked m.pool i.0) (sym w.deref_mut.ensures.value) i.2 in
          let after = w.in_ok-chain-in-Some.ensures.ok s i.0 w.in-Some.ensures.value i.1 marked in
          let old = c.loop-slot.met in let new = w.chain.new.met in
          let long : length new ≡ old.len = after.2.sized ∙ sym i.2.sized ∙ sym old.ok.0 in
          let is : new ≡ c.match-root_tag.met.items = sym (ap (λ (v : Vec Bool Global). v.items) w.met-is ∙ ap (λ (n : ℕ). take n (new ++ drop (length new) old.items)) (sym long) ∙ take-append_seam new (drop (length new) old.items)) in
          (after.0, after.1, subst (AreMarked m.pool after.0) is after.2)
      | in-None w ↦
          (i.0, walk_skips m s i.0 w.in-None.ensures.value i.1, subst (λ (v : Vec Bool Global). AreMarked m.pool i.0 v.items) (sym w.met-is) i.2)
    ]
