use Rattle.std.proofs.Common.{◌≡◌, ℕ, ◌+◌, sym, ap, ◌∙◌, subst, arith}
use Rattle.clover_words.specs.declared.pool.Pool.{Pool}
use Rattle.clover_words.specs.Tag.{tag_number}
use Rattle.clover_map.specs.Does.{held}
use Rattle.clover_image.proofs.Standing.{Enters, bare_slot, dead_slot, enters_all, enters_none, enters_pair, enters_skip, live_slot}
use Rattle.clover_image.proofs.map.map_of.Goals as goal
use Rattle.clover_image.proofs.map.map_of.Goals.{in-Some+in_ok-enter-in-Some, in-Some+else-tail, in-None}

pub loop-slot-init : goal.loop-slot-init
loop-slot-init c = λ sound. subst (Enters c.args.image.now sound 0) (sym c.make-map.ensures) (enters_none c.args.image.now sound)

pub returns : goal.returns
returns c = λ sound.
    let m = c.args.image.now in
    let slots = ap (λ (p : Pool). p.slots) c.pool-slot-end.ensures in
    let last : c.loop-slot.slot ≡ m.pool.slots = omega (arith, c.loop-slot-test.false, c.loop-slot.auto.slot-end, slots) in
    enters_all m sound c.loop-slot.map (subst (λ (n : ℕ). Enters m sound n c.loop-slot.map) last (c.loop-slot.invariant sound))

pub loop-slot-preserved : goal.loop-slot-preserved
loop-slot-preserved c = λ sound.
    let m = c.args.image.now in let s = c.loop-slot.slot in let old = c.loop-slot.map in
    let before = c.loop-slot.invariant sound in let told = c.tail.ensures sound in
    elim c.match-tail.branch [
      | in-Some+in_ok-enter-in-Some w ↦
          let t = tag_number w.in-Some.tail.0 in
          let l = live_slot m sound s w.in-Some.tail.0 w.in-Some.tail.1 c.tail.result told w.in-Some.is w.if-tail.true in
          let put = w.in_ok-enter-in-Some.ensures l.key l.value (sound.reads.inside s l.root_tag l.root) l.is_key l.spells l.has in
          subst (Enters m sound (s + 1)) (sym (w.map-is ∙ put)) (enters_pair m sound s l.root_tag old l.key (held t l.value) before l.root l.is_key l.spells l.live)
      | in-Some+else-tail w ↦
          subst (Enters m sound (s + 1)) (sym w.map-is) (enters_skip m sound s old before (dead_slot m sound s w.in-Some.tail.0 w.in-Some.tail.1 c.tail.result told w.in-Some.is w.if-tail.false))
      | in-None w ↦
          subst (Enters m sound (s + 1)) (sym w.map-is) (enters_skip m sound s old before (bare_slot m sound s c.tail.result told w.in-None.is))
    ]
